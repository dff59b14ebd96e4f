-- What a grant answers, and what it makes of the state.
use Rattle.std.specs.Prelude.{◌≡◌, ℕ, ◌==◌, ◌||◌, not, Bool, if◌then◌else◌, is_some, Some, slice_get, slice_set}
use Rattle.spl_extent.specs.declared.owner.Owner.TheVariants.{Free, Granted}
use Rattle.spl_extent.specs.Pool.{free_count}
use Rattle.spl_state.specs.declared.reply.Reply.{Reply}
use Rattle.spl_state.specs.declared.reply.Reply.TheVariants as reply
use Rattle.spl_state.specs.declared.actor.Actor.{Actor}
use Rattle.spl_state.specs.Actor.{actor_in}
use Rattle.spl_state.specs.Reply.{state_of}
use Rattle.spl_state.specs.Whole.{Whole}

-- the actor has no job, or has published the branch of its job
abbrev pub is_unfit : Actor → Bool
is_unfit actor = not (is_some actor.job) || actor.published

module _ {B : Type 0} where
  -- the extent that a grant gave, and 0 where it gave none
  abbrev pub extent_in : Reply B → ℕ
  extent_in (reply.Granted extent) = extent
  extent_in other = 0

  -- what a grant answers, where it gives this extent or none
  abbrev pub grant_answer : Whole → ℕ → ℕ → Reply B
  grant_answer whole actor extent =
      if is_unfit (actor_in whole.actors actor) then reply.Unfit (state_of whole actor)
      else if free_count whole.owners == 0 then reply.NoExtent
      else reply.Granted extent

-- the extent was free, and is the actor's now
pub record Grants (old new : Whole) (actor extent : ℕ) : Type 0 where
  pub was_free : slice_get old.owners extent ≡ Some Free
  pub granted : new ≡ record old { owners = slice_set old.owners extent (Granted actor) }
