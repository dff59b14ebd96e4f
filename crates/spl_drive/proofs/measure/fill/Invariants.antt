use Rattle.spl_drive.specs.Going.{MayGoOn}
use Rattle.spl_drive.proofs.measure.fill.Given as goal

abbrev pub invariant-loop-place : goal.invariant-loop-place
invariant-loop-place g l = MayGoOn (g.T.Turns.means l.session.desk.turns) (g.T.Turns.saw l.session.desk.turns) (g.T.Turns.ready l.session.desk.turns) (g.L.MergeLaw.rule l.session.desk.law.now) (g.L.MergeLaw.ready l.session.desk.law.now)
