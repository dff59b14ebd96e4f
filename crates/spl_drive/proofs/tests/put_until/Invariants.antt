use Rattle.spl_message.specs.Rule.{newest}
use Rattle.spl_drive.specs.Going.{MayGoOn}
use Rattle.spl_drive.proofs.tests.put_until.Given as goal

abbrev pub invariant-loop-place : goal.invariant-loop-place
invariant-loop-place g l = MayGoOn (g.T.Turns.means l.turns.holder) (g.T.Turns.saw l.turns.holder) (g.T.Turns.ready l.turns.holder) newest (Unit {0})
