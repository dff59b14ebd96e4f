use Rattle.std.proofs.Common.{Bool, refl, subst, arith}
use Rattle.spl_holds.specs.declared.grip.Grip.TheVariants.{Write}
use Rattle.spl_state.specs.View.{branch_data}
use Rattle.spl_desk.specs.Holder.{kind_of}
use Rattle.spl_desk.proofs.Quiet.{quiet_then}
use Rattle.spl_job.specs.Holding.{IsHolding, after_latch, with_grip}
use Rattle.spl_job.proofs.Nothing.{nothing_holds}
use Rattle.spl_enter.proofs.Regrips.{grip_there}
use Rattle.spl_grower.specs.Ends.{IsRootEnd}
use Rattle.spl_grower.proofs.Jobs.{ends_behind, had, told_from}
use Rattle.spl_grower.proofs.Stops.{if_err_map, stops_behind}
use Rattle.spl_grower.specs.Stopping.{HasGrowCause}
use Rattle.spl_grower.proofs.root.enter_and_raise.Goals as goal

pub enter-requires-clause-holds : goal.enter-requires-clause-holds
enter-requires-clause-holds g c =
    let old = g.T.Turns.means c.args.turns.now in
    (had old, nothing_holds old c.requires.nothing, refl, c.requires.known)

pub raise_due-requires-clause-writes : goal.raise_due-requires-clause-writes
raise_due-requires-clause-writes g c =
    let kind = kind_of g.B.Content.number (branch_data g.B.Content.extents g.B.Content.entries g.B.Content.cuts g.B.Content.table) g.B.Content.TELLS in
    let old = g.T.Turns.means c.args.turns.now in
    let saw = g.T.Turns.saw c.args.turns.now in
    let mid = g.T.Turns.means c.enter.new.turns in
    let between = g.T.Turns.saw c.enter.new.turns in
    let is = subst (λ (made : Bool). IsHolding mid (after_latch (had old) 0 made Write)) c.if-branch.true (c.in_ok-enter.ensures.holds (had old) (nothing_holds old c.requires.nothing) refl) in
    (with_grip (had old) 0 Write, is.has, grip_there (had old) 0 Write)

pub returns-then-branch-clause-quiet : goal.returns-then-branch-clause-quiet
returns-then-branch-clause-quiet g c =
    let kind = kind_of g.B.Content.number (branch_data g.B.Content.extents g.B.Content.entries g.B.Content.cuts g.B.Content.table) g.B.Content.TELLS in
    let old = g.T.Turns.means c.args.turns.now in
    let saw = g.T.Turns.saw c.args.turns.now in
    let mid = g.T.Turns.means c.enter.new.turns in
    let between = g.T.Turns.saw c.enter.new.turns in
    let new = g.T.Turns.means c.raise_due.new.turns in
    let sees = g.T.Turns.saw c.raise_due.new.turns in
    quiet_then kind old mid new saw between sees c.enter.ensures.quiet c.raise_due.ensures.quiet

pub returns-then-branch-clause-told : goal.returns-then-branch-clause-told
returns-then-branch-clause-told g c =
    let kind = kind_of g.B.Content.number (branch_data g.B.Content.extents g.B.Content.entries g.B.Content.cuts g.B.Content.table) g.B.Content.TELLS in
    let old = g.T.Turns.means c.args.turns.now in
    let saw = g.T.Turns.saw c.args.turns.now in
    let mid = g.T.Turns.means c.enter.new.turns in
    let between = g.T.Turns.saw c.enter.new.turns in
    let new = g.T.Turns.means c.raise_due.new.turns in
    let sees = g.T.Turns.saw c.raise_due.new.turns in
    let is = subst (λ (made : Bool). IsHolding mid (after_latch (had old) 0 made Write)) c.if-branch.true (c.in_ok-enter.ensures.holds (had old) (nothing_holds old c.requires.nothing) refl) in
    told_from c.raise_due.result old mid new is.has.told c.raise_due.ensures.told

pub returns-then-branch-clause-made : goal.returns-then-branch-clause-made
returns-then-branch-clause-made g c =
    let kind = kind_of g.B.Content.number (branch_data g.B.Content.extents g.B.Content.entries g.B.Content.cuts g.B.Content.table) g.B.Content.TELLS in
    let old = g.T.Turns.means c.args.turns.now in
    let saw = g.T.Turns.saw c.args.turns.now in
    let mid = g.T.Turns.means c.enter.new.turns in
    let between = g.T.Turns.saw c.enter.new.turns in
    let new = g.T.Turns.means c.raise_due.new.turns in
    let sees = g.T.Turns.saw c.raise_due.new.turns in
    ends_behind kind old mid new saw between sees c.raise_due.result IsRootEnd c.enter.ensures.quiet c.raise_due.ensures.made

pub returns-then-branch-clause-cause : goal.returns-then-branch-clause-cause
returns-then-branch-clause-cause g c =
    let kind = kind_of g.B.Content.number (branch_data g.B.Content.extents g.B.Content.entries g.B.Content.cuts g.B.Content.table) g.B.Content.TELLS in
    let old = g.T.Turns.means c.args.turns.now in
    let saw = g.T.Turns.saw c.args.turns.now in
    let mid = g.T.Turns.means c.enter.new.turns in
    let between = g.T.Turns.saw c.enter.new.turns in
    let new = g.T.Turns.means c.raise_due.new.turns in
    let sees = g.T.Turns.saw c.raise_due.new.turns in
    if_err_map c.raise_due.result (HasGrowCause kind mid between new sees) (HasGrowCause kind old saw new sees)
    (λ f cause. stops_behind kind old mid new saw between sees f c.enter.ensures.quiet cause) c.raise_due.ensures.cause

pub returns-else-branch-clause-told : goal.returns-else-branch-clause-told
returns-else-branch-clause-told g c =
    let kind = kind_of g.B.Content.number (branch_data g.B.Content.extents g.B.Content.entries g.B.Content.cuts g.B.Content.table) g.B.Content.TELLS in
    let old = g.T.Turns.means c.args.turns.now in
    let saw = g.T.Turns.saw c.args.turns.now in
    let mid = g.T.Turns.means c.enter.new.turns in
    let between = g.T.Turns.saw c.enter.new.turns in
    let is = subst (λ (made : Bool). IsHolding mid (after_latch (had old) 0 made Write)) c.if-branch.false (c.in_ok-enter.ensures.holds (had old) (nothing_holds old c.requires.nothing) refl) in
    let told = is.has.told in omega (arith, told)
