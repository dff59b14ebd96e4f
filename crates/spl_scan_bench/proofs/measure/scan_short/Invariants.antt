use Rattle.spl_session.specs.Calling.{MayAsk}
use Rattle.spl_scan_bench.proofs.measure.scan_short.Given as goal

abbrev pub invariant-loop-place : goal.invariant-loop-place
invariant-loop-place g l =
    MayAsk (g.T.Turns.means l.desk.turns) (g.T.Turns.saw l.desk.turns) (g.T.Turns.ready l.desk.turns) (g.L.MergeLaw.rule l.desk.law.now) (g.L.MergeLaw.ready l.desk.law.now)
