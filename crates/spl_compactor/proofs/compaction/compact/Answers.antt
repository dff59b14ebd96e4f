use Rattle.spl_desk.specs.Branches.{branch_kind}
use Rattle.spl_desk.proofs.Quiet.{cause_before, quiet_then}
use Rattle.spl_compactor.proofs.compaction.compact.Goals as goal

pub returns-in-Err-clause-quiet : goal.returns-in-Err-clause-quiet
returns-in-Err-clause-quiet g c =
    quiet_then (branch_kind g.P.Seal.Seal.TELLS) (g.T.Turns.means c.args.desk.now.turns) (g.T.Turns.means c.attempt.new.desk.turns) (g.T.Turns.means c.abandon.new.turns)
    (g.T.Turns.saw c.args.desk.now.turns) (g.T.Turns.saw c.attempt.new.desk.turns) (g.T.Turns.saw c.abandon.new.turns)
    c.attempt.ensures.quiet c.abandon.ensures.quiet

pub returns-in-Err-clause-cause : goal.returns-in-Err-clause-cause
returns-in-Err-clause-cause g c =
    cause_before (branch_kind g.P.Seal.Seal.TELLS) (g.T.Turns.means c.args.desk.now.turns) (g.T.Turns.means c.attempt.new.desk.turns) (g.T.Turns.means c.abandon.new.turns)
    (g.T.Turns.saw c.args.desk.now.turns) (g.T.Turns.saw c.attempt.new.desk.turns) (g.T.Turns.saw c.abandon.new.turns)
    (g.P.Port.counts c.args.desk.now.port.now) (g.P.Port.counts c.attempt.new.desk.port.now) c.in-Err.fault
    c.attempt.ensures.quiet.same c.in-Err.ensures.cause c.abandon.ensures.quiet
