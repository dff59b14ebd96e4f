use Rattle.spl_session.specs.Calling.{MayAsk}
use Rattle.spl_live.proofs.tests.work_often.Given as goal

abbrev pub invariant-work : goal.invariant-work
invariant-work g l =
    MayAsk (g.T.Turns.means l.desk.turns) (g.T.Turns.saw l.desk.turns) (g.T.Turns.ready l.desk.turns) (g.L.MergeLaw.rule l.desk.law.now) (g.L.MergeLaw.ready l.desk.law.now)
