use Rattle.std.proofs.Common.{Bool, subst}
use Rattle.spl_holds.specs.declared.grip.Grip.TheVariants.{Free, Write}
use Rattle.spl_state.specs.View.{branch_data}
use Rattle.spl_desk.specs.Holder.{kind_of}
use Rattle.spl_desk.proofs.Quiet.{quiet_then}
use Rattle.spl_job.specs.Holding.{IsHolding, after_latch}
use Rattle.spl_packer.proofs.Hangs.{root_gripped, still_to_hang}
use Rattle.spl_packer.proofs.Shown.{tried_behind}
use Rattle.spl_packer.proofs.hang.hang_once.Goals as goal

pub hang_in_root-requires-clause-writes : goal.hang_in_root-requires-clause-writes
hang_in_root-requires-clause-writes g c =
    let to = c.requires.to_hang in
    let new = g.T.Turns.means c.enter.new.turns in
    root_gripped (g.T.Turns.means c.args.turns.now) new Free Write to
    (subst (λ (made : Bool). IsHolding new (after_latch to.holding 0 made Write)) c.if-branch.true (c.in_ok-enter.ensures.holds to.holding to.is.has to.root_is))

pub returns-else-branch-clause-tried : goal.returns-else-branch-clause-tried
returns-else-branch-clause-tried g c =
    let to = c.requires.to_hang in
    let new = g.T.Turns.means c.enter.new.turns in
    still_to_hang (g.T.Turns.means c.args.turns.now) new Free to
    (subst (λ (made : Bool). IsHolding new (after_latch to.holding 0 made Write)) c.if-branch.false (c.in_ok-enter.ensures.holds to.holding to.is.has to.root_is))

pub returns-then-branch-clause-quiet : goal.returns-then-branch-clause-quiet
returns-then-branch-clause-quiet g c =
    let kind = kind_of g.B.Content.number (branch_data g.B.Content.extents g.B.Content.entries g.B.Content.cuts g.B.Content.table) g.B.Content.TELLS in
    quiet_then kind (g.T.Turns.means c.args.turns.now) (g.T.Turns.means c.enter.new.turns) (g.T.Turns.means c.hang_in_root.new.turns)
    (g.T.Turns.saw c.args.turns.now) (g.T.Turns.saw c.enter.new.turns) (g.T.Turns.saw c.hang_in_root.new.turns)
    c.enter.ensures.quiet c.hang_in_root.ensures.quiet

pub returns-then-branch-clause-made : goal.returns-then-branch-clause-made
returns-then-branch-clause-made g c =
    let kind = kind_of g.B.Content.number (branch_data g.B.Content.extents g.B.Content.entries g.B.Content.cuts g.B.Content.table) g.B.Content.TELLS in
    tried_behind kind (g.T.Turns.means c.args.turns.now) (g.T.Turns.means c.enter.new.turns) (g.T.Turns.means c.hang_in_root.new.turns)
    (g.T.Turns.saw c.args.turns.now) (g.T.Turns.saw c.enter.new.turns) (g.T.Turns.saw c.hang_in_root.new.turns)
    c.hang_in_root.result c.enter.ensures.quiet c.hang_in_root.ensures.made
