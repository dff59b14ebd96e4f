-- What holds of each actor's descent and job.
use Rattle.std.specs.Prelude.{◌≡◌, ◌≢◌, ℕ, ◌<◌, ◌≤◌, Bool, true, false, List, length, Option, Some, None, IsSome, IfSome, slice_get, map}
use Rattle.spl_base.specs.declared.TheConstants.{ACTORS}
use Rattle.spl_message.specs.declared.span.Span.{Span}
use Rattle.spl_message.specs.Rule.{Rule}
use Rattle.spl_message.specs.Span.{InSpan}
use Rattle.spl_message.specs.Table.{Table, IsMerged}
use Rattle.spl_numbers.specs.Numbers.{has}
use Rattle.spl_node.specs.declared.pivot.Pivot.{Pivot}
use Rattle.spl_node.specs.Node.{NodeData, pivot_for}
use Rattle.spl_trunk.specs.Trunk.{node_at}
use Rattle.spl_holds.specs.declared.grip.Grip.{Grip}
use Rattle.spl_holds.specs.declared.grip.Grip.TheVariants.{Free, Read}
use Rattle.spl_holds.specs.Holds.{grip_of}
use Rattle.spl_extent.specs.declared.owner.Owner.{Owner}
use Rattle.spl_extent.specs.Pool.{granted_to}
use Rattle.spl_tables.specs.Memtables.{FrozenData}
use Rattle.spl_state.specs.declared.descent.Descent.{Descent}
use Rattle.spl_state.specs.declared.job.Job.{Job}
use Rattle.spl_state.specs.declared.job.Job.TheVariants.{Pack, Merge}
use Rattle.spl_state.specs.declared.actor.Actor.{Actor}
use Rattle.spl_state.specs.Actor.{actor_in}
use Rattle.spl_state.specs.Whole.{BranchData, table_in}
use Rattle.spl_state.specs.Extents.{number_of}

-- the pivot of a start: an open one is the first pivot's
abbrev pub pivot_from : List Pivot → Option (List ℕ) → ℕ
pivot_from pivots None = 0
pivot_from pivots (Some start) = pivot_for pivots start

-- the start lies in the node's range
abbrev pub StartsInside : Span → Option (List ℕ) → Type 0
StartsInside range None = range.from ≡ None
StartsInside range (Some start) = InSpan range start

-- the span begins in the node's range, and all of its keys are under the pivot of its start
pub record LiesUnder (node : NodeData) (span : Span) : Type 0 where
  pub start : StartsInside node.range span.from
  pub within : (key : List ℕ) → InSpan span key → InSpan node.range key
  pub pivot : (key : List ℕ) → InSpan span key → pivot_for node.pivots key ≡ pivot_from node.pivots span.from

-- an actor with a descent reads its node, has no other grip, and has no job
pub record IsDescending (nodes : List NodeData) (grips : List (List Grip)) (places number : ℕ) (actor : Actor) (descent : Descent) : Type 0 where
  pub exists : descent.node < length nodes
  pub told : descent.node < actor.told
  pub reads : grip_of grips number descent.node ≡ Read
  pub alone : (n : ℕ) → n ≢ descent.node → grip_of grips number n ≡ Free
  pub no_job : actor.job ≡ None
  pub place : descent.place < places
  pub lies : LiesUnder (node_at nodes descent.node) descent.span

-- an actor without a descent reads no node
abbrev pub IsOnWay : List NodeData → List (List Grip) → ℕ → ℕ → Actor → Option Descent → Type 0
IsOnWay nodes grips places number actor None = (n : ℕ) → grip_of grips number n ≢ Read
IsOnWay nodes grips places number actor (Some descent) = IsDescending nodes grips places number actor descent

-- the table stands among the frozen ones, picked by the actor
abbrev pub IsPicked : List FrozenData → ℕ → ℕ → Type 0
IsPicked frozen table actor = (i : ℕ) × (t : Table) × (slice_get frozen i ≡ Some (record { number = table; table = t; picked = Some actor }))

-- the table that is packed is picked, and the run that is merged has a first and a last bundle
abbrev pub IsOf : List NodeData → List FrozenData → ℕ → Job → Type 0
IsOf nodes frozen actor (Pack number table) = IsPicked frozen table actor
IsOf nodes frozen actor (Merge number run) = (run.first ≤ run.last) × (run.node < length nodes)

-- a job's branch has a number that was given before; until the job publishes it, no branch has the number, and then its actor
-- is granted nothing
pub record IsWorking (nodes : List NodeData) (branch : ℕ → Option BranchData) (owners : List Owner) (frozen : List FrozenData) (next actor : ℕ) (job : Job) (published : Bool) : Type 0 where
  pub number : number_of job < next
  pub source : IsOf nodes frozen actor job
  pub unpublished : published ≡ false → branch (number_of job) ≡ None
  pub draft : published ≡ true → IsSome (branch (number_of job))
  pub nothing : published ≡ true → (extent : ℕ) → has (granted_to owners actor) extent ≡ false

-- without a job nothing is published
abbrev pub IsAtWork : List NodeData → (ℕ → Option BranchData) → List Owner → List FrozenData → ℕ → ℕ → Option Job → Bool → Type 0
IsAtWork nodes branch owners frozen next actor None published = published ≡ false
IsAtWork nodes branch owners frozen next actor (Some job) published = IsWorking nodes branch owners frozen next actor job published

-- no two jobs have the same number
abbrev pub JobsDiffer : List Actor → Type 0
JobsDiffer actors = (a b : ℕ) (job other : Job) → a ≢ b → (actor_in actors a).job ≡ Some job → (actor_in actors b).job ≡ Some other → number_of job ≢ number_of other

-- the job packs this table
abbrev pub Packs : Option Job → ℕ → Type 0
Packs None table = ⊥
Packs (Some (Pack number packed)) table = packed ≡ table
Packs (Some (Merge number run)) table = ⊥

-- who picked a frozen table packs it
abbrev pub ArePicked : List FrozenData → List Actor → Type 0
ArePicked frozen actors = (i actor : ℕ) (f : FrozenData) → slice_get frozen i ≡ Some f → f.picked ≡ Some actor → (actor < ACTORS) × Packs (actor_in actors actor).job f.number

-- the branch that a job published has the table that the job asks for
abbrev pub HasTable : Rule → (ℕ → Option BranchData) → List FrozenData → Job → Type 0
HasTable rule branch frozen (Pack number table) = (i : ℕ) (f : FrozenData) → slice_get frozen i ≡ Some f → f.number ≡ table → table_in branch number ≡ f.table
HasTable rule branch frozen (Merge number run) = IsMerged rule (map (table_in branch) run.inputs) run.span run.bottom (table_in branch number)

-- what holds of the actor with this number
pub record IsActor (nodes : List NodeData) (branch : ℕ → Option BranchData) (owners : List Owner) (grips : List (List Grip)) (frozen : List FrozenData) (places next number : ℕ) (actor : Actor) : Type 0 where
  pub told : actor.told ≤ length nodes
  pub knows_root : 0 < actor.told
  pub descent : IsOnWay nodes grips places number actor actor.descent
  pub job : IsAtWork nodes branch owners frozen next number actor.job actor.published
