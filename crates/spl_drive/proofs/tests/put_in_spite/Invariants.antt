use Rattle.spl_message.specs.Rule.{newest}
use Rattle.spl_drive.specs.Going.{MayGoOn}
use Rattle.spl_drive.proofs.tests.put_in_spite.Given as goal

abbrev pub invariant-tries : goal.invariant-tries
invariant-tries g l = MayGoOn (g.T.Turns.means l.turns) (g.T.Turns.saw l.turns) (g.T.Turns.ready l.turns) newest (Unit {0})
