use Rattle.spl_session.specs.Calling.{MayAsk}
use Rattle.spl_scan_bench.proofs.scans.count_pairs.Given as goal

abbrev pub invariant-pieces : goal.invariant-pieces
invariant-pieces g l =
    MayAsk (g.T.Turns.means l.desk.turns) (g.T.Turns.saw l.desk.turns) (g.T.Turns.ready l.desk.turns) (g.L.MergeLaw.rule l.desk.law.now) (g.L.MergeLaw.ready l.desk.law.now)
