-- What a pick answers, and what it makes of the state.
use Rattle.std.specs.Prelude.{◌≡◌, ℕ, ◌+◌, ◌||◌, Bool, false, if◌then◌else◌, is_some, Option, Some, None, IsSome, slice_set}
use Rattle.spl_tables.specs.Memtables.{first_unpicked, frozen_at, picked_by}
use Rattle.spl_state.specs.declared.job.Job.TheVariants.{Pack}
use Rattle.spl_state.specs.declared.reply.Reply.{Reply}
use Rattle.spl_state.specs.declared.reply.Reply.TheVariants.{Picked, Nothing, Unfit}
use Rattle.spl_state.specs.declared.actor.Actor.{Actor}
use Rattle.spl_state.specs.Actor.{actor_in, with_job}
use Rattle.spl_state.specs.Reply.{state_of}
use Rattle.spl_state.specs.Whole.{Whole}

-- the actor descends, or has a job
abbrev pub is_busy : Actor → Bool
is_busy actor = is_some actor.descent || is_some actor.job

module _ {B : Type 0} where
  -- the next branch number, and all of the frozen memtable at the position
  abbrev pub pick_of : Whole → Option ℕ → Reply B
  pick_of whole None = Nothing
  pick_of whole (Some position) = Picked whole.counters.branches (frozen_at whole.tables.frozen position).table

  abbrev pub pick_answer : Whole → ℕ → Reply B
  pick_answer whole actor =
      if is_busy (actor_in whole.actors actor) then Unfit (state_of whole actor)
      else pick_of whole (first_unpicked whole.tables.frozen)

-- the actor neither descends nor works, and there is a frozen memtable that nobody picked
pub record MayPick (whole : Whole) (actor : ℕ) : Type 0 where
  pub idle : is_busy (actor_in whole.actors actor) ≡ false
  pub unpicked : IsSome (first_unpicked whole.tables.frozen)

-- the frozen memtable at the position is the actor's, whose job is to pack it into a branch with the next number
abbrev pub picked_at : Whole → ℕ → ℕ → Whole
picked_at whole actor position = record whole {
  tables = picked_by whole.tables position actor;
  actors = slice_set whole.actors actor (with_job (actor_in whole.actors actor) (Some (Pack whole.counters.branches (frozen_at whole.tables.frozen position).number)));
  counters = record whole.counters { branches = whole.counters.branches + 1 };
}
