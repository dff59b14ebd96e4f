use Rattle.std.proofs.Common.{◌∙◌, ap, subst}
use Rattle.std.specs.Prelude.{Ok, not}
use Rattle.spl_message.specs.History.{History}
use Rattle.spl_state.specs.View.{branch_data}
use Rattle.spl_desk.specs.Holder.{kind_of}
use Rattle.spl_desk.specs.Quiet.{WasMade}
use Rattle.spl_desk.proofs.Quiet.{quiet_then}
use Rattle.spl_job.specs.declared.growing.Raising.{Raising}
use Rattle.spl_job.specs.Growing.{IsRaiseTurn}
use Rattle.spl_job.specs.Merging.{with_told}
use Rattle.spl_grower.proofs.Jobs.{root_ends, root_stops, told_once, told_twice}
use Rattle.spl_grower.proofs.root.raise_due.Goals as goal

pub returns-then-is_none-clause-told : goal.returns-then-is_none-clause-told
returns-then-is_none-clause-told g c =
    let kind = kind_of g.B.Content.number (branch_data g.B.Content.extents g.B.Content.entries g.B.Content.cuts g.B.Content.table) g.B.Content.TELLS in
    let old = g.T.Turns.means c.args.turns.now in
    let saw = g.T.Turns.saw c.args.turns.now in
    let mid = g.T.Turns.means c.survey.new.turns in
    let between = g.T.Turns.saw c.survey.new.turns in
    let w = c.requires.writes in
    let on = c.survey.ensures.holds w.0 w.1 in
    told_once old mid w.0 w.1 on

pub raise-requires-clause-holds : goal.raise-requires-clause-holds
raise-requires-clause-holds g c =
    let kind = kind_of g.B.Content.number (branch_data g.B.Content.extents g.B.Content.entries g.B.Content.cuts g.B.Content.table) g.B.Content.TELLS in
    let old = g.T.Turns.means c.args.turns.now in
    let saw = g.T.Turns.saw c.args.turns.now in
    let mid = g.T.Turns.means c.survey.new.turns in
    let between = g.T.Turns.saw c.survey.new.turns in
    let w = c.requires.writes in
    let on = c.survey.ensures.holds w.0 w.1 in
    (with_told w.0 on.0, on.2.has, w.2)

pub returns-in_err-raise-clause-quiet : goal.returns-in_err-raise-clause-quiet
returns-in_err-raise-clause-quiet g c =
    let kind = kind_of g.B.Content.number (branch_data g.B.Content.extents g.B.Content.entries g.B.Content.cuts g.B.Content.table) g.B.Content.TELLS in
    let old = g.T.Turns.means c.args.turns.now in
    let saw = g.T.Turns.saw c.args.turns.now in
    let mid = g.T.Turns.means c.survey.new.turns in
    let between = g.T.Turns.saw c.survey.new.turns in
    let new = g.T.Turns.means c.raise.new.turns in
    let sees = g.T.Turns.saw c.raise.new.turns in
    quiet_then kind old mid new saw between sees c.survey.ensures.quiet c.raise.ensures.quiet

pub returns-in-Done-clause-quiet : goal.returns-in-Done-clause-quiet
returns-in-Done-clause-quiet g c =
    let kind = kind_of g.B.Content.number (branch_data g.B.Content.extents g.B.Content.entries g.B.Content.cuts g.B.Content.table) g.B.Content.TELLS in
    let old = g.T.Turns.means c.args.turns.now in
    let saw = g.T.Turns.saw c.args.turns.now in
    let mid = g.T.Turns.means c.survey.new.turns in
    let between = g.T.Turns.saw c.survey.new.turns in
    let new = g.T.Turns.means c.raise.new.turns in
    let sees = g.T.Turns.saw c.raise.new.turns in
    quiet_then kind old mid new saw between sees c.survey.ensures.quiet c.raise.ensures.quiet

pub returns-clause-quiet : goal.returns-clause-quiet
returns-clause-quiet g c =
    let kind = kind_of g.B.Content.number (branch_data g.B.Content.extents g.B.Content.entries g.B.Content.cuts g.B.Content.table) g.B.Content.TELLS in
    let old = g.T.Turns.means c.args.turns.now in
    let saw = g.T.Turns.saw c.args.turns.now in
    let mid = g.T.Turns.means c.survey.new.turns in
    let between = g.T.Turns.saw c.survey.new.turns in
    let new = g.T.Turns.means c.raise.new.turns in
    let sees = g.T.Turns.saw c.raise.new.turns in
    quiet_then kind old mid new saw between sees c.survey.ensures.quiet c.raise.ensures.quiet

pub returns-in-Done-clause-told : goal.returns-in-Done-clause-told
returns-in-Done-clause-told g c =
    let kind = kind_of g.B.Content.number (branch_data g.B.Content.extents g.B.Content.entries g.B.Content.cuts g.B.Content.table) g.B.Content.TELLS in
    let old = g.T.Turns.means c.args.turns.now in
    let saw = g.T.Turns.saw c.args.turns.now in
    let mid = g.T.Turns.means c.survey.new.turns in
    let between = g.T.Turns.saw c.survey.new.turns in
    let new = g.T.Turns.means c.raise.new.turns in
    let sees = g.T.Turns.saw c.raise.new.turns in
    let w = c.requires.writes in
    let on = c.survey.ensures.holds w.0 w.1 in
    told_twice old mid new w.0 w.1 on (c.raise.ensures.holds (with_told w.0 on.0) on.2.has)

pub returns-in-Done-clause-made : goal.returns-in-Done-clause-made
returns-in-Done-clause-made g c =
    let kind = kind_of g.B.Content.number (branch_data g.B.Content.extents g.B.Content.entries g.B.Content.cuts g.B.Content.table) g.B.Content.TELLS in
    let old = g.T.Turns.means c.args.turns.now in
    let saw = g.T.Turns.saw c.args.turns.now in
    let mid = g.T.Turns.means c.survey.new.turns in
    let between = g.T.Turns.saw c.survey.new.turns in
    let new = g.T.Turns.means c.raise.new.turns in
    let sees = g.T.Turns.saw c.raise.new.turns in
    root_ends kind old mid new saw between sees c.in_ok-view.view c.in_ok-view.ensures.split (c.is_none.ensures ∙ ap not c.if-is_none.false) c.survey.ensures.quiet
    (subst (λ (r : Raising). (history : History) → between history → WasMade kind mid history new sees (IsRaiseTurn mid (Ok r))) c.in-Done.is c.in_ok-raise.ensures.made)

pub returns-clause-cause : goal.returns-clause-cause
returns-clause-cause g c =
    let kind = kind_of g.B.Content.number (branch_data g.B.Content.extents g.B.Content.entries g.B.Content.cuts g.B.Content.table) g.B.Content.TELLS in
    let old = g.T.Turns.means c.args.turns.now in
    let saw = g.T.Turns.saw c.args.turns.now in
    let mid = g.T.Turns.means c.survey.new.turns in
    let between = g.T.Turns.saw c.survey.new.turns in
    let new = g.T.Turns.means c.raise.new.turns in
    let sees = g.T.Turns.saw c.raise.new.turns in
    root_stops kind old mid new saw between sees c.survey.ensures.quiet
    (subst (λ (r : Raising). (history : History) → between history → WasMade kind mid history new sees (IsRaiseTurn mid (Ok r))) c.in-Nodes.is c.in_ok-raise.ensures.made)
