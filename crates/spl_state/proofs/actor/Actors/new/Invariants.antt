use Rattle.std.proofs.Common.{◌≡◌, replicate}
use Rattle.spl_state.specs.Actor.{idle}
use Rattle.spl_state.proofs.actor.Actors.new.Given as goal

abbrev pub invariant-loop-actor : goal.invariant-loop-actor
invariant-loop-actor l = l.actors.items ≡ replicate l._actor idle
