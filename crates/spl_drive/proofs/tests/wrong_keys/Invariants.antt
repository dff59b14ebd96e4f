use Rattle.spl_message.specs.Rule.{newest}
use Rattle.spl_drive.specs.Going.{MayGoOn}
use Rattle.spl_drive.proofs.tests.wrong_keys.Given as goal

abbrev pub invariant-loop-number : goal.invariant-loop-number
invariant-loop-number g l = MayGoOn (g.T.Turns.means l.session.desk.turns) (g.T.Turns.saw l.session.desk.turns) (g.T.Turns.ready l.session.desk.turns) newest (Unit {0})
