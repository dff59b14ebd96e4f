-- An actor's own state, as a refusal tells it.
use Rattle.std.specs.Prelude.{ℕ, is_some}
use Rattle.spl_numbers.specs.Numbers.{size_of}
use Rattle.spl_extent.specs.Pool.{granted_to}
use Rattle.spl_holds.specs.Counts.{reads_of, claims_of, writes_of}
use Rattle.spl_state.specs.declared.reply.ActorState.{ActorState}
use Rattle.spl_state.specs.Actor.{actor_in}
use Rattle.spl_state.specs.Whole.{Whole}

abbrev pub state_of : Whole → ℕ → ActorState
state_of whole number = record {
  descent = is_some (actor_in whole.actors number).descent;
  job = is_some (actor_in whole.actors number).job;
  granted = size_of (granted_to whole.owners number);
  published = (actor_in whole.actors number).published;
  reads = reads_of whole.grips number;
  claims = claims_of whole.grips number;
  writes = writes_of whole.grips number;
}
