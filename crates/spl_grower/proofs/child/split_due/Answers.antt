use Rattle.std.proofs.Common.{◌∙◌, ap, inr, subst, sym}
use Rattle.std.specs.Prelude.{Ok}
use Rattle.spl_message.specs.History.{History}
use Rattle.spl_state.specs.View.{branch_data}
use Rattle.spl_desk.specs.Holder.{kind_of}
use Rattle.spl_desk.specs.Quiet.{WasMade}
use Rattle.spl_desk.proofs.Quiet.{quiet_then}
use Rattle.spl_job.specs.declared.growing.Splitting.{Splitting}
use Rattle.spl_job.specs.Growing.{IsSplitTurn}
use Rattle.spl_job.specs.Merging.{with_told}
use Rattle.spl_grower.proofs.Jobs.{child_done, child_full, child_moved, child_stops, told_once, told_then}
use Rattle.spl_grower.proofs.child.split_due.Goals as goal

pub survey-requires-clause-holds : goal.survey-requires-clause-holds
survey-requires-clause-holds g c =
    let kind = kind_of g.B.Content.number (branch_data g.B.Content.extents g.B.Content.entries g.B.Content.cuts g.B.Content.table) g.B.Content.TELLS in
    let old = g.T.Turns.means c.args.turns.now in
    let saw = g.T.Turns.saw c.args.turns.now in
    let w = c.requires.writes in
    (w.0, w.1, inr w.4)

pub returns-in_default-clause-told : goal.returns-in_default-clause-told
returns-in_default-clause-told g c =
    let kind = kind_of g.B.Content.number (branch_data g.B.Content.extents g.B.Content.entries g.B.Content.cuts g.B.Content.table) g.B.Content.TELLS in
    let old = g.T.Turns.means c.args.turns.now in
    let saw = g.T.Turns.saw c.args.turns.now in
    let mid = g.T.Turns.means c.survey.new.turns in
    let between = g.T.Turns.saw c.survey.new.turns in
    let w = c.requires.writes in
    let on = c.survey.ensures.holds w.0 w.1 in
    told_once old mid w.0 w.1 on

pub split-requires-clause-holds : goal.split-requires-clause-holds
split-requires-clause-holds g c =
    let kind = kind_of g.B.Content.number (branch_data g.B.Content.extents g.B.Content.entries g.B.Content.cuts g.B.Content.table) g.B.Content.TELLS in
    let old = g.T.Turns.means c.args.turns.now in
    let saw = g.T.Turns.saw c.args.turns.now in
    let mid = g.T.Turns.means c.survey.new.turns in
    let between = g.T.Turns.saw c.survey.new.turns in
    let w = c.requires.writes in
    let on = c.survey.ensures.holds w.0 w.1 in
    (with_told w.0 on.0, on.2.has, w.2, w.3)

pub returns-in_err-split-clause-quiet : goal.returns-in_err-split-clause-quiet
returns-in_err-split-clause-quiet g c =
    let kind = kind_of g.B.Content.number (branch_data g.B.Content.extents g.B.Content.entries g.B.Content.cuts g.B.Content.table) g.B.Content.TELLS in
    let old = g.T.Turns.means c.args.turns.now in
    let saw = g.T.Turns.saw c.args.turns.now in
    let mid = g.T.Turns.means c.survey.new.turns in
    let between = g.T.Turns.saw c.survey.new.turns in
    let new = g.T.Turns.means c.split.new.turns in
    let sees = g.T.Turns.saw c.split.new.turns in
    quiet_then kind old mid new saw between sees c.survey.ensures.quiet c.split.ensures.quiet

pub returns-in-Done-clause-quiet : goal.returns-in-Done-clause-quiet
returns-in-Done-clause-quiet g c =
    let kind = kind_of g.B.Content.number (branch_data g.B.Content.extents g.B.Content.entries g.B.Content.cuts g.B.Content.table) g.B.Content.TELLS in
    let old = g.T.Turns.means c.args.turns.now in
    let saw = g.T.Turns.saw c.args.turns.now in
    let mid = g.T.Turns.means c.survey.new.turns in
    let between = g.T.Turns.saw c.survey.new.turns in
    let new = g.T.Turns.means c.split.new.turns in
    let sees = g.T.Turns.saw c.split.new.turns in
    quiet_then kind old mid new saw between sees c.survey.ensures.quiet c.split.ensures.quiet

pub returns-in-Pivots-clause-quiet : goal.returns-in-Pivots-clause-quiet
returns-in-Pivots-clause-quiet g c =
    let kind = kind_of g.B.Content.number (branch_data g.B.Content.extents g.B.Content.entries g.B.Content.cuts g.B.Content.table) g.B.Content.TELLS in
    let old = g.T.Turns.means c.args.turns.now in
    let saw = g.T.Turns.saw c.args.turns.now in
    let mid = g.T.Turns.means c.survey.new.turns in
    let between = g.T.Turns.saw c.survey.new.turns in
    let new = g.T.Turns.means c.split.new.turns in
    let sees = g.T.Turns.saw c.split.new.turns in
    quiet_then kind old mid new saw between sees c.survey.ensures.quiet c.split.ensures.quiet

pub returns-in-Moved-clause-quiet : goal.returns-in-Moved-clause-quiet
returns-in-Moved-clause-quiet g c =
    let kind = kind_of g.B.Content.number (branch_data g.B.Content.extents g.B.Content.entries g.B.Content.cuts g.B.Content.table) g.B.Content.TELLS in
    let old = g.T.Turns.means c.args.turns.now in
    let saw = g.T.Turns.saw c.args.turns.now in
    let mid = g.T.Turns.means c.survey.new.turns in
    let between = g.T.Turns.saw c.survey.new.turns in
    let new = g.T.Turns.means c.split.new.turns in
    let sees = g.T.Turns.saw c.split.new.turns in
    quiet_then kind old mid new saw between sees c.survey.ensures.quiet c.split.ensures.quiet

pub returns-in-Nodes-clause-quiet : goal.returns-in-Nodes-clause-quiet
returns-in-Nodes-clause-quiet g c =
    let kind = kind_of g.B.Content.number (branch_data g.B.Content.extents g.B.Content.entries g.B.Content.cuts g.B.Content.table) g.B.Content.TELLS in
    let old = g.T.Turns.means c.args.turns.now in
    let saw = g.T.Turns.saw c.args.turns.now in
    let mid = g.T.Turns.means c.survey.new.turns in
    let between = g.T.Turns.saw c.survey.new.turns in
    let new = g.T.Turns.means c.split.new.turns in
    let sees = g.T.Turns.saw c.split.new.turns in
    quiet_then kind old mid new saw between sees c.survey.ensures.quiet c.split.ensures.quiet

pub returns-in-Done-clause-told : goal.returns-in-Done-clause-told
returns-in-Done-clause-told g c =
    let kind = kind_of g.B.Content.number (branch_data g.B.Content.extents g.B.Content.entries g.B.Content.cuts g.B.Content.table) g.B.Content.TELLS in
    let old = g.T.Turns.means c.args.turns.now in
    let saw = g.T.Turns.saw c.args.turns.now in
    let mid = g.T.Turns.means c.survey.new.turns in
    let between = g.T.Turns.saw c.survey.new.turns in
    let new = g.T.Turns.means c.split.new.turns in
    let sees = g.T.Turns.saw c.split.new.turns in
    let w = c.requires.writes in
    let on = c.survey.ensures.holds w.0 w.1 in
    told_then old mid new w.0 w.1 on (c.split.ensures.holds (with_told w.0 on.0) on.2.has)

pub returns-in-Pivots-clause-told : goal.returns-in-Pivots-clause-told
returns-in-Pivots-clause-told g c =
    let kind = kind_of g.B.Content.number (branch_data g.B.Content.extents g.B.Content.entries g.B.Content.cuts g.B.Content.table) g.B.Content.TELLS in
    let old = g.T.Turns.means c.args.turns.now in
    let saw = g.T.Turns.saw c.args.turns.now in
    let mid = g.T.Turns.means c.survey.new.turns in
    let between = g.T.Turns.saw c.survey.new.turns in
    let new = g.T.Turns.means c.split.new.turns in
    let sees = g.T.Turns.saw c.split.new.turns in
    let w = c.requires.writes in
    let on = c.survey.ensures.holds w.0 w.1 in
    told_then old mid new w.0 w.1 on (c.split.ensures.holds (with_told w.0 on.0) on.2.has)

pub returns-in-Moved-clause-told : goal.returns-in-Moved-clause-told
returns-in-Moved-clause-told g c =
    let kind = kind_of g.B.Content.number (branch_data g.B.Content.extents g.B.Content.entries g.B.Content.cuts g.B.Content.table) g.B.Content.TELLS in
    let old = g.T.Turns.means c.args.turns.now in
    let saw = g.T.Turns.saw c.args.turns.now in
    let mid = g.T.Turns.means c.survey.new.turns in
    let between = g.T.Turns.saw c.survey.new.turns in
    let new = g.T.Turns.means c.split.new.turns in
    let sees = g.T.Turns.saw c.split.new.turns in
    let w = c.requires.writes in
    let on = c.survey.ensures.holds w.0 w.1 in
    told_then old mid new w.0 w.1 on (c.split.ensures.holds (with_told w.0 on.0) on.2.has)

pub returns-in-Done-clause-made : goal.returns-in-Done-clause-made
returns-in-Done-clause-made g c =
    let kind = kind_of g.B.Content.number (branch_data g.B.Content.extents g.B.Content.entries g.B.Content.cuts g.B.Content.table) g.B.Content.TELLS in
    let old = g.T.Turns.means c.args.turns.now in
    let saw = g.T.Turns.saw c.args.turns.now in
    let mid = g.T.Turns.means c.survey.new.turns in
    let between = g.T.Turns.saw c.survey.new.turns in
    let new = g.T.Turns.means c.split.new.turns in
    let sees = g.T.Turns.saw c.split.new.turns in
    child_done kind old mid new saw between sees c.args.parent c.args.child c.in-Some.key c.in_ok-view.view c.in_ok-view.ensures.split c.in-Some.is c.survey.ensures.quiet
    (subst (λ (r : Splitting). (history : History) → between history → WasMade kind mid history new sees (IsSplitTurn mid c.args.parent c.args.child c.in-Some.key (Ok r))) c.in-Done.is c.in_ok-split.ensures.made)

pub returns-in-Pivots-clause-made : goal.returns-in-Pivots-clause-made
returns-in-Pivots-clause-made g c =
    let kind = kind_of g.B.Content.number (branch_data g.B.Content.extents g.B.Content.entries g.B.Content.cuts g.B.Content.table) g.B.Content.TELLS in
    let old = g.T.Turns.means c.args.turns.now in
    let saw = g.T.Turns.saw c.args.turns.now in
    let mid = g.T.Turns.means c.survey.new.turns in
    let between = g.T.Turns.saw c.survey.new.turns in
    let new = g.T.Turns.means c.split.new.turns in
    let sees = g.T.Turns.saw c.split.new.turns in
    child_full kind old mid new saw between sees c.args.parent c.args.child c.in-Some.key c.in_ok-view.view c.in_ok-view.ensures.split c.in-Some.is c.survey.ensures.quiet
    (subst (λ (r : Splitting). (history : History) → between history → WasMade kind mid history new sees (IsSplitTurn mid c.args.parent c.args.child c.in-Some.key (Ok r))) c.in-Pivots.is c.in_ok-split.ensures.made)

pub returns-in-Moved-clause-made : goal.returns-in-Moved-clause-made
returns-in-Moved-clause-made g c =
    let kind = kind_of g.B.Content.number (branch_data g.B.Content.extents g.B.Content.entries g.B.Content.cuts g.B.Content.table) g.B.Content.TELLS in
    let old = g.T.Turns.means c.args.turns.now in
    let saw = g.T.Turns.saw c.args.turns.now in
    let mid = g.T.Turns.means c.survey.new.turns in
    let between = g.T.Turns.saw c.survey.new.turns in
    let new = g.T.Turns.means c.split.new.turns in
    let sees = g.T.Turns.saw c.split.new.turns in
    child_moved kind old mid new saw between sees c.args.parent c.args.child c.in-Some.key c.in_ok-view.view c.in_ok-view.ensures.split c.in-Some.is c.survey.ensures.quiet
    (subst (λ (r : Splitting). (history : History) → between history → WasMade kind mid history new sees (IsSplitTurn mid c.args.parent c.args.child c.in-Some.key (Ok r))) c.in-Moved.is c.in_ok-split.ensures.made)

pub returns-in-Nodes-clause-cause : goal.returns-in-Nodes-clause-cause
returns-in-Nodes-clause-cause g c =
    let kind = kind_of g.B.Content.number (branch_data g.B.Content.extents g.B.Content.entries g.B.Content.cuts g.B.Content.table) g.B.Content.TELLS in
    let old = g.T.Turns.means c.args.turns.now in
    let saw = g.T.Turns.saw c.args.turns.now in
    let mid = g.T.Turns.means c.survey.new.turns in
    let between = g.T.Turns.saw c.survey.new.turns in
    let new = g.T.Turns.means c.split.new.turns in
    let sees = g.T.Turns.saw c.split.new.turns in
    child_stops kind old mid new saw between sees c.args.parent c.args.child c.in-Some.key c.in_ok-view.view c.in_ok-view.ensures.split c.in-Some.is c.survey.ensures.quiet
    (subst (λ (r : Splitting). (history : History) → between history → WasMade kind mid history new sees (IsSplitTurn mid c.args.parent c.args.child c.in-Some.key (Ok r))) c.in-Nodes.is c.in_ok-split.ensures.made)

pub unreachable-requires : goal.unreachable-requires
unreachable-requires g c = c.in_ok-split.ensures.inside (sym c.in_ok-view.ensures.split ∙ c.in-Some.is) (ap Ok c.in-Outside.is)
