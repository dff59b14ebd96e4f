use Rattle.std.proofs.Common.{ap, inr}
use Rattle.spl_holds.specs.declared.grip.Grip.TheVariants.{Free, Write}
use Rattle.spl_holds.specs.Grip.{may_write}
use Rattle.spl_state.specs.View.{branch_data}
use Rattle.spl_desk.specs.Holder.{kind_of}
use Rattle.spl_desk.proofs.Quiet.{made_before, quiet_then}
use Rattle.spl_job.specs.After.{IsHangTurn}
use Rattle.spl_job.specs.declared.steps.Hanging.TheVariants as hanging
use Rattle.spl_job.specs.Holding.{without_job}
use Rattle.spl_packer.specs.Outcomes.{ShowsPacked}
use Rattle.spl_packer.specs.declared.packed.Packed.TheVariants as packed
use Rattle.spl_packer.proofs.Hangs.{hung_nothing, root_gripped}
use Rattle.spl_packer.proofs.Shown.{made_so}
use Rattle.spl_packer.proofs.hang.hang_in_root.Goals as goal

pub leave_root-requires-clause-writes : goal.leave_root-requires-clause-writes
leave_root-requires-clause-writes g c =
    let to = c.requires.writes in
    (without_job to.holding, c.in-Done.ensures.holds to.holding to.is to.published, ap may_write to.root_is)

pub leave_root-requires-in-NotOldest-Some-clause-writes : goal.leave_root-requires-in-NotOldest-Some-clause-writes
leave_root-requires-in-NotOldest-Some-clause-writes g c =
    let to = c.requires.writes in
    (to.holding, c.in-NotOldest-Some.ensures.holds to.holding to.is to.published, ap may_write to.root_is)

pub returns-in_err-leave_root-in-Done-clause-quiet : goal.returns-in_err-leave_root-in-Done-clause-quiet
returns-in_err-leave_root-in-Done-clause-quiet g c =
    let kind = kind_of g.B.Content.number (branch_data g.B.Content.extents g.B.Content.entries g.B.Content.cuts g.B.Content.table) g.B.Content.TELLS in
    quiet_then kind (g.T.Turns.means c.args.turns.now) (g.T.Turns.means c.incorporate.new.turns) (g.T.Turns.means c.leave_root.new.turns)
    (g.T.Turns.saw c.args.turns.now) (g.T.Turns.saw c.incorporate.new.turns) (g.T.Turns.saw c.leave_root.new.turns)
    c.incorporate.ensures.quiet c.leave_root.ensures.quiet

pub returns-in_ok-leave_root-in-Done-clause-quiet : goal.returns-in_ok-leave_root-in-Done-clause-quiet
returns-in_ok-leave_root-in-Done-clause-quiet g c =
    let kind = kind_of g.B.Content.number (branch_data g.B.Content.extents g.B.Content.entries g.B.Content.cuts g.B.Content.table) g.B.Content.TELLS in
    quiet_then kind (g.T.Turns.means c.args.turns.now) (g.T.Turns.means c.incorporate.new.turns) (g.T.Turns.means c.leave_root.new.turns)
    (g.T.Turns.saw c.args.turns.now) (g.T.Turns.saw c.incorporate.new.turns) (g.T.Turns.saw c.leave_root.new.turns)
    c.incorporate.ensures.quiet c.leave_root.ensures.quiet

pub returns-in_err-leave_root-in-NotOldest-Some-clause-quiet : goal.returns-in_err-leave_root-in-NotOldest-Some-clause-quiet
returns-in_err-leave_root-in-NotOldest-Some-clause-quiet g c =
    let kind = kind_of g.B.Content.number (branch_data g.B.Content.extents g.B.Content.entries g.B.Content.cuts g.B.Content.table) g.B.Content.TELLS in
    quiet_then kind (g.T.Turns.means c.args.turns.now) (g.T.Turns.means c.incorporate.new.turns) (g.T.Turns.means c.leave_root-in-NotOldest-Some.new.turns)
    (g.T.Turns.saw c.args.turns.now) (g.T.Turns.saw c.incorporate.new.turns) (g.T.Turns.saw c.leave_root-in-NotOldest-Some.new.turns)
    c.incorporate.ensures.quiet c.leave_root-in-NotOldest-Some.ensures.quiet

pub returns-in_ok-leave_root-in-NotOldest-Some-clause-quiet : goal.returns-in_ok-leave_root-in-NotOldest-Some-clause-quiet
returns-in_ok-leave_root-in-NotOldest-Some-clause-quiet g c =
    let kind = kind_of g.B.Content.number (branch_data g.B.Content.extents g.B.Content.entries g.B.Content.cuts g.B.Content.table) g.B.Content.TELLS in
    quiet_then kind (g.T.Turns.means c.args.turns.now) (g.T.Turns.means c.incorporate.new.turns) (g.T.Turns.means c.leave_root-in-NotOldest-Some.new.turns)
    (g.T.Turns.saw c.args.turns.now) (g.T.Turns.saw c.incorporate.new.turns) (g.T.Turns.saw c.leave_root-in-NotOldest-Some.new.turns)
    c.incorporate.ensures.quiet c.leave_root-in-NotOldest-Some.ensures.quiet

pub returns-in_ok-leave_root-in-Done-clause-tried : goal.returns-in_ok-leave_root-in-Done-clause-tried
returns-in_ok-leave_root-in-Done-clause-tried g c =
    let to = c.requires.writes in
    hung_nothing (g.T.Turns.means c.args.turns.now) (g.T.Turns.means c.leave_root.new.turns) to
    (c.in_ok-leave_root-in-Done.ensures.leaves (without_job to.holding) (c.in-Done.ensures.holds to.holding to.is to.published))

pub returns-in_ok-leave_root-in-Done-clause-made : goal.returns-in_ok-leave_root-in-Done-clause-made
returns-in_ok-leave_root-in-Done-clause-made g c =
    let kind = kind_of g.B.Content.number (branch_data g.B.Content.extents g.B.Content.entries g.B.Content.cuts g.B.Content.table) g.B.Content.TELLS in
    made_before kind (g.T.Turns.means c.args.turns.now) (g.T.Turns.means c.incorporate.new.turns) (g.T.Turns.means c.leave_root.new.turns)
    (g.T.Turns.saw c.args.turns.now) (g.T.Turns.saw c.incorporate.new.turns) (g.T.Turns.saw c.leave_root.new.turns)
    (ShowsPacked packed.Done) c.incorporate.ensures.quiet.same c.in-Done.ensures.made c.leave_root.ensures.quiet

pub returns-in_ok-leave_root-in-NotOldest-Some-clause-tried : goal.returns-in_ok-leave_root-in-NotOldest-Some-clause-tried
returns-in_ok-leave_root-in-NotOldest-Some-clause-tried g c =
    let to = c.requires.writes in
    root_gripped (g.T.Turns.means c.args.turns.now) (g.T.Turns.means c.leave_root-in-NotOldest-Some.new.turns) Write Free to
    (c.in_ok-leave_root-in-NotOldest-Some.ensures.leaves to.holding (c.in-NotOldest-Some.ensures.holds to.holding to.is to.published))

pub returns-in-NeedsFlush-clause-made : goal.returns-in-NeedsFlush-clause-made
returns-in-NeedsFlush-clause-made g c = λ history had.
    let kind = kind_of g.B.Content.number (branch_data g.B.Content.extents g.B.Content.entries g.B.Content.cuts g.B.Content.table) g.B.Content.TELLS in
    made_so kind (g.T.Turns.means c.args.turns.now) (g.T.Turns.means c.incorporate.new.turns) history (g.T.Turns.saw c.incorporate.new.turns)
    (IsHangTurn hanging.NeedsFlush) (ShowsPacked packed.NeedsFlush) (λ turn is. inr is) (c.in-NeedsFlush.ensures.made history had)
