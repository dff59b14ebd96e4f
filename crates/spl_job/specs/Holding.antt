-- What an actor has of a core while it works, and what each step makes of it.
use Rattle.std.specs.Prelude.{◌≡◌, ◌⊎◌, ℕ, ◌<◌, nat_eq, max, Bool, true, false, if◌then◌else◌, List, [], ◌∷◌, ◌++◌, map, Option, Some, None, Result, Ok, Err, slice_get}
use Rattle.spl_message.specs.Rule.{Rule}
use Rattle.spl_message.specs.Table.{IsMerged, Table}
use Rattle.spl_numbers.specs.Numbers.{ListsEach}
use Rattle.spl_extent.specs.Pool.{granted_to}
use Rattle.spl_holds.specs.declared.grip.Grip.{Grip}
use Rattle.spl_holds.specs.declared.grip.Grip.TheVariants.{Free}
use Rattle.spl_holds.specs.Holds.{grip_of}
use Rattle.spl_tables.specs.Memtables.{FrozenData}
use Rattle.spl_state.specs.declared.job.Job.{Job}
use Rattle.spl_state.specs.declared.job.Job.TheVariants.{Merge, Pack}
use Rattle.spl_state.specs.Actor.{actor_in}
use Rattle.spl_state.specs.Extents.{number_of}
use Rattle.spl_state.specs.Sound.{IsSound}
use Rattle.spl_state.specs.Whole.{BranchData, Whole, branches, table_in}
use Rattle.spl_desk.specs.Holder.{Holder}

-- the job, the tables that go into its branch, oldest first, whether the branch is published, the granted extents in the order of the grants,
-- the grip on each node, and of how many nodes the actor was told
pub record Holding : Type 0 where
  pub job : Option Job
  pub tables : List Table
  pub published : Bool
  pub extents : List ℕ
  pub grips : ℕ → Grip
  pub told : ℕ

-- the frozen memtable with this number has this table
pub record IsSource (frozen : List FrozenData) (memtable : ℕ) (table : Table) : Type 0 where
  pub place : ℕ
  pub source : FrozenData
  pub at : slice_get frozen place ≡ Some source
  pub number : source.number ≡ memtable
  pub table_is : source.table ≡ table

-- the tables that go into the job's branch: the frozen memtable's, or those of the run's branches
abbrev pub AreSources : List FrozenData → (ℕ → Option BranchData) → List Table → Option Job → Type 0
AreSources frozen branch tables None = tables ≡ []
AreSources frozen branch tables (Some (Pack number memtable)) = (table : Table) × IsSource frozen memtable table × (tables ≡ table ∷ [])
AreSources frozen branch tables (Some (Merge number run)) = tables ≡ map (table_in branch) run.inputs

-- the actor has this, and no descent
pub record HasHolding (whole : Whole) (actor : ℕ) (holding : Holding) : Type 0 where
  pub descent : (actor_in whole.actors actor).descent ≡ None
  pub job : (actor_in whole.actors actor).job ≡ holding.job
  pub published : (actor_in whole.actors actor).published ≡ holding.published
  pub told : (actor_in whole.actors actor).told ≡ holding.told
  pub grips : (node : ℕ) → grip_of whole.grips actor node ≡ holding.grips node
  pub extents : ListsEach holding.extents (granted_to whole.owners actor)
  pub sources : AreSources whole.tables.frozen (branches whole) holding.tables holding.job

-- the holder's actor has this
abbrev pub Holds : Holder → Holding → Type 0
Holds holder holding = HasHolding holder.at holder.actor holding

-- and the core is sound
pub record IsHolding (holder : Holder) (holding : Holding) : Type 0 where
  pub sound : IsSound holder.at
  pub has : Holds holder holding

-- of how many nodes the holder's actor was told
abbrev pub told_by : Holder → ℕ
told_by holder = (actor_in holder.at.actors holder.actor).told

-- the node is there: it is the root, or the actor was told of it
abbrev pub IsKnown : Holding → ℕ → Type 0
IsKnown holding node = (node ≡ 0) ⊎ (node < holding.told)

-- the grip on one node is another one
abbrev pub with_grip : Holding → ℕ → Grip → Holding
with_grip holding node grip = record holding { grips = λ other. if nat_eq other node then grip else holding.grips other }

abbrev pub with_extent : Holding → ℕ → Holding
with_extent holding extent = record holding { extents = holding.extents ++ extent ∷ [] }

-- what a job begins with, whose branch is made of these tables, where nothing else is held
abbrev pub first_holding : Job → List Table → ℕ → Holding
first_holding job tables told = record { job = Some job; tables = tables; published = false; extents = []; grips = λ node. Free; told = told }

-- a job has begun
abbrev pub with_job : Holding → Job → List Table → Holding
with_job holding job tables = record holding { job = Some job; tables = tables; published = false }

-- the job has ended
abbrev pub without_job : Holding → Holding
without_job holding = record holding { job = None; tables = []; published = false }

-- the branch holds what was granted
abbrev pub with_branch : Holding → Holding
with_branch holding = record holding { extents = []; published = true }

-- the actor was told of so many nodes, if not of more
abbrev pub told_of : Holding → ℕ → Holding
told_of holding count = record holding { told = max holding.told count }

-- the extent that a grant gave
abbrev pub after_grant : Holding → Option ℕ → Holding
after_grant holding None = holding
after_grant holding (Some extent) = with_extent holding extent

abbrev pub after_publish : {T E : Type 0} → Holding → Result T E → Holding
after_publish holding (Ok _) = with_branch holding
after_publish holding (Err _) = holding

-- the node with this grip where the step was made
abbrev pub after_latch : Holding → ℕ → Bool → Grip → Holding
after_latch holding node made grip = if made then with_grip holding node grip else holding

-- the actor has a job of which nothing is published
abbrev pub Builds : Holding → Type 0
Builds holding = (holding.published ≡ false) × (job : Job) × (holding.job ≡ Some job)

-- the table is the one that goes into the job's branch: the memtable's, or the merge of the run's tables
abbrev pub IsWanted : Rule → Holding → Table → Job → Type 0
IsWanted rule holding table (Pack number memtable) = holding.tables ≡ table ∷ []
IsWanted rule holding table (Merge number run) = IsMerged rule holding.tables run.span run.bottom table

-- the branch with this number, these extents and this table is the one that the job asks for
pub record IsBranchOf (rule : Rule) (holding : Holding) (tells : Bool) (number : ℕ) (extents : List ℕ) (table : Table) : Type 0 where
  pub job : Job
  pub has_job : holding.job ≡ Some job
  pub unpublished : holding.published ≡ false
  pub number_is : number ≡ number_of job
  pub extents_are : extents ≡ holding.extents
  pub table_is : tells ≡ true → IsWanted rule holding table job
