use Rattle.spl_session.specs.Calling.{MayAsk}
use Rattle.spl_live.proofs.tests.look_up_some.Given as goal

abbrev pub invariant-loop-number : goal.invariant-loop-number
invariant-loop-number g l =
    MayAsk (g.T.Turns.means l.desk.turns) (g.T.Turns.saw l.desk.turns) (g.T.Turns.ready l.desk.turns) (g.L.MergeLaw.rule l.desk.law.now) (g.L.MergeLaw.ready l.desk.law.now)
