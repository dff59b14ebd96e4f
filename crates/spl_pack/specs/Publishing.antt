-- When an actor may publish a branch, and what that makes of the state.
use Rattle.std.specs.Prelude.{◌≡◌, ℕ, false, if◌then◌else◌, List, map, Option, Some, None, slice_get, slice_set}
use Rattle.spl_message.specs.Rule.{Rule}
use Rattle.spl_message.specs.Table.{Table, IsMerged}
use Rattle.spl_numbers.specs.Numbers.{ListsEach}
use Rattle.spl_extent.specs.declared.owner.Owner.{Owner}
use Rattle.spl_extent.specs.declared.owner.Owner.TheVariants.{Held}
use Rattle.spl_extent.specs.Pool.{is_granted, granted_to}
use Rattle.spl_refs.specs.Refs.{SetsAt}
use Rattle.spl_tables.specs.Memtables.{FrozenData}
use Rattle.spl_state.specs.declared.job.Job.{Job}
use Rattle.spl_state.specs.declared.job.Job.TheVariants.{Pack, Merge}
use Rattle.spl_state.specs.Actor.{actor_in, with_draft}
use Rattle.spl_state.specs.Extents.{number_of}
use Rattle.spl_state.specs.Whole.{BranchData, Whole, branches, table_in}

-- the number of the job's branch, where there is a job
abbrev pub job_number : Option Job → Option ℕ
job_number None = None
job_number (Some job) = Some (number_of job)

-- the actor has a job of which nothing is published, and the branch has its number, and each granted extent once
pub record MayPublish (whole : Whole) (actor number : ℕ) (extents : List ℕ) : Type 0 where
  pub numbered : job_number (actor_in whole.actors actor).job ≡ Some number
  pub unpublished : (actor_in whole.actors actor).published ≡ false
  pub granted : ListsEach extents (granted_to whole.owners actor)

-- the owners where each extent that the actor was granted is held by the branch, and each other has its owner
abbrev pub held_all : List Owner → ℕ → ℕ → List Owner
held_all owners actor branch = map (λ owner. if is_granted actor owner then Held branch else owner) owners

-- the branch stands, named once, and holds what its actor was granted
pub record Publishes (old new : Whole) (actor number : ℕ) (branch : BranchData) : Type 0 where
  pub stands : SetsAt old.refs new.refs number (Some (1, branch))
  pub all : new ≡ record old {
    refs = new.refs;
    owners = held_all old.owners actor number;
    actors = slice_set old.actors actor (with_draft (actor_in old.actors actor));
  }

-- the table is the one that the job asks for: the frozen memtable that it packs, or the merge of its inputs
abbrev pub IsAskedFor : Rule → (ℕ → Option BranchData) → List FrozenData → Table → Job → Type 0
IsAskedFor rule branch frozen table (Pack number packed) = (i : ℕ) (f : FrozenData) → slice_get frozen i ≡ Some f → f.number ≡ packed → table ≡ f.table
IsAskedFor rule branch frozen table (Merge number run) = IsMerged rule (map (table_in branch) run.inputs) run.span run.bottom table

-- the table is the one that the actor's job asks for
abbrev pub AsksFor : Rule → Whole → ℕ → Table → Type 0
AsksFor rule whole actor table = (job : Job) → (actor_in whole.actors actor).job ≡ Some job → IsAskedFor rule (branches whole) whole.tables.frozen table job
