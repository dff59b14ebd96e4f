-- One actor, as plain data, and what the calls make of it.
use Rattle.std.specs.Prelude.{ℕ, ◌+◌, max, true, false, List, Option, Some, None, slice_index_or}
use Rattle.spl_state.specs.declared.descent.Descent.{Descent}
use Rattle.spl_state.specs.declared.job.Job.{Job}
use Rattle.spl_state.specs.declared.actor.Actor.{Actor}

-- an actor with nothing, that was told of the root alone
abbrev pub idle : Actor
idle = record { descent = None; job = None; published = false; told = 1 }

-- the actor with this number
abbrev pub actor_in : List Actor → ℕ → Actor
actor_in actors number = slice_index_or actors number idle

abbrev pub with_descent : Actor → Option Descent → Actor
with_descent actor descent = record actor { descent = descent }

abbrev pub with_job : Actor → Option Job → Actor
with_job actor job = record actor { job = job; published = false }

abbrev pub with_draft : Actor → Actor
with_draft actor = record actor { published = true }

-- that was told of this node
abbrev pub told_of : Actor → ℕ → Actor
told_of actor node = record actor { told = max actor.told (node + 1) }

-- with nothing, that knows the nodes that it was told of
abbrev pub cleared : Actor → Actor
cleared actor = record actor { descent = None; job = None; published = false }
