-- What is left of a state once an actor gave back all that it had.
use Rattle.std.specs.Prelude.{◌≡◌, ◌≢◌, ℕ, ◌+◌, ◌<◌, Bool, true, false, Option, Some, None, if◌then◌else◌, List, [], ◌∷◌, length, slice_set}
use Rattle.spl_numbers.specs.Numbers.{has}
use Rattle.spl_extent.specs.Pool.{granted_to}
use Rattle.spl_holds.specs.Holds.{without_actor}
use Rattle.spl_tables.specs.Memtables.{without_picks}
use Rattle.spl_trunk.specs.Trunk.{all_released}
use Rattle.spl_trunk.specs.Tree.{times}
use Rattle.spl_state.specs.declared.job.Job.{Job}
use Rattle.spl_state.specs.declared.job.Job.TheVariants.{Pack, Merge}
use Rattle.spl_state.specs.Actor.{actor_in, cleared}
use Rattle.spl_state.specs.Extents.{named_by}
use Rattle.spl_state.specs.Whole.{Whole, branches, counts}

-- the job merges a run
abbrev pub merges : Option Job → Bool
merges None = false
merges (Some (Pack number table)) = false
merges (Some (Merge number run)) = true

-- the name of a branch that was published
abbrev pub drafted : ℕ → Bool → List ℕ
drafted number published = if published then number ∷ [] else []

pub record HasAbandoned (old new : Whole) (actor : ℕ) : Type 0 where
  -- no bundle carries its mark
  pub nodes : new.nodes ≡ all_released old.nodes actor
  -- what its job named is named less often by that, and what is still named is the branch that it was
  pub fewer : (number : ℕ)
      → counts new number + times number (named_by (actor_in old.actors actor)) ≡ counts old number
  pub still : (number : ℕ) → 0 < counts new number → branches new number ≡ branches old number
  -- it is granted no extent, and every other actor those that it was
  pub extents : length new.owners ≡ length old.owners
  pub nothing : (extent : ℕ) → has (granted_to new.owners actor) extent ≡ false
  pub granted : (other : ℕ) → other ≢ actor → granted_to new.owners other ≡ granted_to old.owners other
  -- it has no grip, no pick, no descent and no job
  pub grips : new.grips ≡ without_actor old.grips actor
  pub tables : new.tables ≡ without_picks old.tables actor
  pub actors : new.actors ≡ slice_set old.actors actor (cleared (actor_in old.actors actor))
  pub counters : new.counters ≡ old.counters
