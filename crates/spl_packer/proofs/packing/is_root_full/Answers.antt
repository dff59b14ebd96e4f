use Rattle.std.proofs.Common.{◌<◌, ◌≤◌, List, length, subst}
use Rattle.std.specs.Prelude.{Ok}
use Rattle.std.proofs.lemmas.Bool.{leb-false, leb-true}
use Rattle.spl_bundle.specs.declared.bundles.TheConstants.{MAX_LISTS}
use Rattle.spl_state.specs.View.{branch_data}
use Rattle.spl_state.specs.declared.view.BundleView.{BundleView}
use Rattle.spl_desk.specs.Holder.{kind_of}
use Rattle.spl_job.specs.Merging.{IsSurveyTurn}
use Rattle.spl_packer.specs.Outcomes.{ShowsFull, ShowsRoom}
use Rattle.spl_packer.proofs.Shown.{made_so}
use Rattle.spl_packer.proofs.packing.is_root_full.Goals as goal

pub returns-clause-holds : goal.returns-clause-holds
returns-clause-holds g c = λ holding is. c.in_ok-view.ensures.holds holding is.has

pub returns-clause-full : goal.returns-clause-full
returns-clause-full g c = λ many history had.
    let kind = kind_of g.B.Content.number (branch_data g.B.Content.extents g.B.Content.entries g.B.Content.cuts g.B.Content.table) g.B.Content.TELLS in
    let view = c.in_ok-view.view in
    let full : MAX_LISTS ≤ length view.bundles = subst (λ (bundles : List BundleView). MAX_LISTS ≤ length bundles) c.as_slice.ensures (leb-true MAX_LISTS (length c.as_slice.result.now) many) in
    made_so kind (g.T.Turns.means c.args.turns.now) (g.T.Turns.means c.survey.new.turns) history (g.T.Turns.saw c.survey.new.turns)
    (IsSurveyTurn 0 (Ok view)) ShowsFull (λ turn is. (is.0, (view, is.1, full))) (c.in_ok-view.ensures.made history had)

pub returns-clause-room : goal.returns-clause-room
returns-clause-room g c = λ few history had.
    let kind = kind_of g.B.Content.number (branch_data g.B.Content.extents g.B.Content.entries g.B.Content.cuts g.B.Content.table) g.B.Content.TELLS in
    let view = c.in_ok-view.view in
    let room : length view.bundles < MAX_LISTS = subst (λ (bundles : List BundleView). length bundles < MAX_LISTS) c.as_slice.ensures (leb-false MAX_LISTS (length c.as_slice.result.now) few) in
    made_so kind (g.T.Turns.means c.args.turns.now) (g.T.Turns.means c.survey.new.turns) history (g.T.Turns.saw c.survey.new.turns)
    (IsSurveyTurn 0 (Ok view)) ShowsRoom (λ turn is. (is.0, (view, is.1, room))) (c.in_ok-view.ensures.made history had)
