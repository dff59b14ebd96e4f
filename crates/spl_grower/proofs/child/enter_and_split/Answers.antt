use Rattle.std.proofs.Common.{Bool, true, refl, subst, arith}
use Rattle.spl_state.specs.View.{branch_data}
use Rattle.spl_desk.specs.Holder.{kind_of}
use Rattle.spl_desk.proofs.Quiet.{quiet_then}
use Rattle.spl_job.specs.Holding.{IsHolding}
use Rattle.spl_job.proofs.Nothing.{nothing_holds}
use Rattle.spl_enter.specs.Both.{after_both}
use Rattle.spl_enter.proofs.Regrips.{both_written}
use Rattle.spl_grower.specs.Ends.{IsChildEnd}
use Rattle.spl_grower.proofs.Jobs.{ends_behind, had, told_from}
use Rattle.spl_grower.proofs.Stops.{if_err_map, stops_behind}
use Rattle.spl_grower.specs.Stopping.{HasGrowCause}
use Rattle.spl_grower.proofs.child.enter_and_split.Goals as goal

pub enter_both-requires-clause-holds : goal.enter_both-requires-clause-holds
enter_both-requires-clause-holds g c =
    let old = g.T.Turns.means c.args.turns.now in
    (had old, nothing_holds old c.requires.nothing, refl, refl, c.requires.parent, c.requires.child)

pub split_due-requires-clause-writes : goal.split_due-requires-clause-writes
split_due-requires-clause-writes g c =
    let kind = kind_of g.B.Content.number (branch_data g.B.Content.extents g.B.Content.entries g.B.Content.cuts g.B.Content.table) g.B.Content.TELLS in
    let old = g.T.Turns.means c.args.turns.now in
    let saw = g.T.Turns.saw c.args.turns.now in
    let mid = g.T.Turns.means c.enter_both.new.turns in
    let between = g.T.Turns.saw c.enter_both.new.turns in
    let is = subst (λ (made : Bool). IsHolding mid (after_both (had old) c.args.parent c.args.child made)) c.if-branch.true (c.in_ok-enter_both.ensures.holds (had old) (nothing_holds old c.requires.nothing) refl refl) in
    let both = both_written (had old) c.args.parent c.args.child in
    (after_both (had old) c.args.parent c.args.child true, is.has, both.0, both.1, c.requires.child)

pub returns-then-branch-clause-quiet : goal.returns-then-branch-clause-quiet
returns-then-branch-clause-quiet g c =
    let kind = kind_of g.B.Content.number (branch_data g.B.Content.extents g.B.Content.entries g.B.Content.cuts g.B.Content.table) g.B.Content.TELLS in
    let old = g.T.Turns.means c.args.turns.now in
    let saw = g.T.Turns.saw c.args.turns.now in
    let mid = g.T.Turns.means c.enter_both.new.turns in
    let between = g.T.Turns.saw c.enter_both.new.turns in
    let new = g.T.Turns.means c.split_due.new.turns in
    let sees = g.T.Turns.saw c.split_due.new.turns in
    quiet_then kind old mid new saw between sees c.enter_both.ensures.quiet c.split_due.ensures.quiet

pub returns-then-branch-clause-told : goal.returns-then-branch-clause-told
returns-then-branch-clause-told g c =
    let kind = kind_of g.B.Content.number (branch_data g.B.Content.extents g.B.Content.entries g.B.Content.cuts g.B.Content.table) g.B.Content.TELLS in
    let old = g.T.Turns.means c.args.turns.now in
    let saw = g.T.Turns.saw c.args.turns.now in
    let mid = g.T.Turns.means c.enter_both.new.turns in
    let between = g.T.Turns.saw c.enter_both.new.turns in
    let new = g.T.Turns.means c.split_due.new.turns in
    let sees = g.T.Turns.saw c.split_due.new.turns in
    let is = subst (λ (made : Bool). IsHolding mid (after_both (had old) c.args.parent c.args.child made)) c.if-branch.true (c.in_ok-enter_both.ensures.holds (had old) (nothing_holds old c.requires.nothing) refl refl) in
    told_from c.split_due.result old mid new is.has.told c.split_due.ensures.told

pub returns-then-branch-clause-made : goal.returns-then-branch-clause-made
returns-then-branch-clause-made g c =
    let kind = kind_of g.B.Content.number (branch_data g.B.Content.extents g.B.Content.entries g.B.Content.cuts g.B.Content.table) g.B.Content.TELLS in
    let old = g.T.Turns.means c.args.turns.now in
    let saw = g.T.Turns.saw c.args.turns.now in
    let mid = g.T.Turns.means c.enter_both.new.turns in
    let between = g.T.Turns.saw c.enter_both.new.turns in
    let new = g.T.Turns.means c.split_due.new.turns in
    let sees = g.T.Turns.saw c.split_due.new.turns in
    ends_behind kind old mid new saw between sees c.split_due.result (IsChildEnd c.args.parent c.args.child) c.enter_both.ensures.quiet c.split_due.ensures.made

pub returns-then-branch-clause-cause : goal.returns-then-branch-clause-cause
returns-then-branch-clause-cause g c =
    let kind = kind_of g.B.Content.number (branch_data g.B.Content.extents g.B.Content.entries g.B.Content.cuts g.B.Content.table) g.B.Content.TELLS in
    let old = g.T.Turns.means c.args.turns.now in
    let saw = g.T.Turns.saw c.args.turns.now in
    let mid = g.T.Turns.means c.enter_both.new.turns in
    let between = g.T.Turns.saw c.enter_both.new.turns in
    let new = g.T.Turns.means c.split_due.new.turns in
    let sees = g.T.Turns.saw c.split_due.new.turns in
    if_err_map c.split_due.result (HasGrowCause kind mid between new sees) (HasGrowCause kind old saw new sees)
    (λ f cause. stops_behind kind old mid new saw between sees f c.enter_both.ensures.quiet cause) c.split_due.ensures.cause

pub returns-else-branch-clause-told : goal.returns-else-branch-clause-told
returns-else-branch-clause-told g c =
    let kind = kind_of g.B.Content.number (branch_data g.B.Content.extents g.B.Content.entries g.B.Content.cuts g.B.Content.table) g.B.Content.TELLS in
    let old = g.T.Turns.means c.args.turns.now in
    let saw = g.T.Turns.saw c.args.turns.now in
    let mid = g.T.Turns.means c.enter_both.new.turns in
    let between = g.T.Turns.saw c.enter_both.new.turns in
    let is = subst (λ (made : Bool). IsHolding mid (after_both (had old) c.args.parent c.args.child made)) c.if-branch.false (c.in_ok-enter_both.ensures.holds (had old) (nothing_holds old c.requires.nothing) refl refl) in
    let told = is.has.told in omega (arith, told)
