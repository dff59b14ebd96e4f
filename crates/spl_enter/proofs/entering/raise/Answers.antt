use Rattle.std.proofs.Common.{ap, false}
use Rattle.spl_holds.specs.Grip.{may_write}
use Rattle.spl_state.specs.View.{branch_data}
use Rattle.spl_desk.specs.Holder.{kind_of}
use Rattle.spl_desk.proofs.Quiet.{made_before, quiet_then}
use Rattle.spl_job.specs.Latching.{IsLockTurn}
use Rattle.spl_enter.proofs.entering.raise.Goals as goal

pub returns-then-lock-clause-holds : goal.returns-then-lock-clause-holds
returns-then-lock-clause-holds g c = λ holding is claimed. c.if-lock.ensures.holds holding is

pub unlock-requires-clause-holds : goal.unlock-requires-clause-holds
unlock-requires-clause-holds g c =
    let has = c.requires.holds in
    (has.0, c.if-lock.ensures.holds has.0 has.1, ap may_write has.2)

pub returns-clause-quiet : goal.returns-clause-quiet
returns-clause-quiet g c =
    let kind = kind_of g.B.Content.number (branch_data g.B.Content.extents g.B.Content.entries g.B.Content.cuts g.B.Content.table) g.B.Content.TELLS in
    quiet_then kind (g.T.Turns.means c.args.turns.now) (g.T.Turns.means c.lock.new.turns) (g.T.Turns.means c.unlock.new.turns)
    (g.T.Turns.saw c.args.turns.now) (g.T.Turns.saw c.lock.new.turns) (g.T.Turns.saw c.unlock.new.turns)
    c.lock.ensures.quiet c.unlock.ensures.quiet

pub returns-clause-holds : goal.returns-clause-holds
returns-clause-holds g c = λ holding is claimed. c.unlock.ensures.holds holding (c.if-lock.ensures.holds holding is)

pub returns-clause-refused : goal.returns-clause-refused
returns-clause-refused g c = λ no.
    let kind = kind_of g.B.Content.number (branch_data g.B.Content.extents g.B.Content.entries g.B.Content.cuts g.B.Content.table) g.B.Content.TELLS in
    made_before kind (g.T.Turns.means c.args.turns.now) (g.T.Turns.means c.lock.new.turns) (g.T.Turns.means c.unlock.new.turns)
    (g.T.Turns.saw c.args.turns.now) (g.T.Turns.saw c.lock.new.turns) (g.T.Turns.saw c.unlock.new.turns)
    (IsLockTurn c.args.node false) c.lock.ensures.quiet.same c.if-lock.ensures.made c.unlock.ensures.quiet
