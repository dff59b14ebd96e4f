use Rattle.spl_desk.specs.Calls.{HasSeen}
use Rattle.spl_grower.proofs.tests.pick.Given as goal

abbrev pub invariant-loop-number : goal.invariant-loop-number
invariant-loop-number g l = record { ready : g.T.Turns.ready l.turns; seen : HasSeen (g.T.Turns.saw l.turns) }
