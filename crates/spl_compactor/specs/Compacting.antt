-- What an actor has while it merges a run of bundles, from its ticket until the branch stands in the run's place.
use Rattle.std.specs.Prelude.{◌≡◌, ℕ, ◌<◌, ◌≤◌, nat_eq, Bool, true, false, if◌then◌else◌, List, [], length, map, Option, Some, None, IsNone, IfSome}
use Rattle.spl_message.specs.Entries.{Entries}
use Rattle.spl_message.specs.Table.{IsMerged, as_table}
use Rattle.spl_branch.specs.Branch.{Branch, table_of}
use Rattle.spl_build.specs.Builder.{Building, added}
use Rattle.spl_build.specs.declared.stage.Stage.TheVariants.{Adding}
use Rattle.spl_holds.specs.declared.grip.Grip.{Grip}
use Rattle.spl_holds.specs.declared.grip.Grip.TheVariants.{Free, Write}
use Rattle.spl_merge.specs.Merger.{IsAbove}
use Rattle.spl_streams.specs.Building.{HasGiven}
use Rattle.spl_streams.specs.Merging.{Merging}
use Rattle.spl_state.specs.declared.job.Job.TheVariants.{Merge}
use Rattle.spl_state.specs.declared.job.Run.{Run}
use Rattle.spl_state.specs.declared.reply.Reply.TheVariants as reply
use Rattle.spl_state.specs.declared.sight.Ticket.{Ticket}
use Rattle.spl_state.specs.Actor.{actor_in}
use Rattle.spl_core.specs.declared.step.Step.TheVariants.{Install}
use Rattle.spl_desk.specs.Calls.{MayCall}
use Rattle.spl_desk.specs.Holder.{Holder}
use Rattle.spl_desk.specs.Turn.{Turn}
use Rattle.spl_job.specs.Holding.{Holding, IsBranchOf, IsHolding}
use Rattle.spl_job.specs.Merging.{run_of}
use Rattle.spl_compactor.specs.declared.compacted.Compacted.{Compacted}
use Rattle.spl_compactor.specs.declared.compacted.Compacted.TheVariants as compacted
use Rattle.spl_compactor.specs.declared.placing.Placed.{Placed}
use Rattle.spl_compactor.specs.declared.placing.Placed.TheVariants as placed
use Rattle.spl_compactor.specs.Stopping.{AllTold}

-- of how many nodes the actor was told
abbrev pub told_by : Holder → ℕ
told_by holder = (actor_in holder.at.actors holder.actor).told

-- the run of the ticket
abbrev pub run_at : Ticket Branch → Run
run_at ticket = run_of (λ branch. branch.number) ticket

-- the actor merges the run into the branch of this number, of which nothing is published. It has nothing of the trunk, and
-- was told of so many nodes or more.
pub record IsMerger (holder : Holder) (least number : ℕ) (run : Run) (holding : Holding) : Type 0 where
  pub holds : IsHolding holder holding
  pub job : holding.job ≡ Some (Merge number run)
  pub unpublished : holding.published ≡ false
  pub free : (node : ℕ) → holding.grips node ≡ Free
  pub told : least ≤ holding.told

-- the ticket was given, and nothing of its branch is there
pub record IsStarted (holder : Holder) (least : ℕ) (ticket : Ticket Branch) : Type 0 where
  pub holding : Holding
  pub merger : IsMerger holder least ticket.number (run_at ticket) holding
  pub tables : holding.tables ≡ map table_of ticket.inputs
  pub extents : holding.extents ≡ []

-- these entries were added to the branch of this number, in these extents. No extent is granted before the first entry.
pub record HasAdded (tells : Bool) (builder : Building) (number : ℕ) (extents : List ℕ) (given : Entries) : Type 0 where
  pub number_is : builder.number ≡ number
  pub extents_are : builder.extents ≡ extents
  pub first : builder.entries ≡ 0 → extents ≡ []
  pub count : builder.entries ≡ length given
  pub stage : builder.stage ≡ Adding
  pub stopped : builder.stopped ≡ None
  pub told : tells ≡ true → added builder ≡ given

-- the merge has given some entries, and these were added to the branch
pub record IsUnderWay (tells : Bool) (holder : Holder) (least : ℕ) (builder : Building) (merging : Merging) : Type 0 where
  pub number : ℕ
  pub run : Run
  pub holding : Holding
  pub branches : List Branch
  pub given : Entries
  pub merger : IsMerger holder least number run holding
  pub tables : holding.tables ≡ map table_of branches
  pub known : tells ≡ true → AllTold branches
  pub has_given : HasGiven tells holder.rule (record { branches = branches; span = run.span; bottom = run.bottom }) given merging
  pub has_added : HasAdded tells builder number holding.extents given
  pub rises : (key : List ℕ) → IsAbove merging.last key → IsAbove builder.last key
  pub sound : merging.failed ≡ false

-- all of the merge was added to the branch
pub record IsMergedOut (tells : Bool) (holder : Holder) (least : ℕ) (builder : Building) : Type 0 where
  pub number : ℕ
  pub run : Run
  pub holding : Holding
  pub given : Entries
  pub merger : IsMerger holder least number run holding
  pub has_added : HasAdded tells builder number holding.extents given
  pub merged : tells ≡ true → IsMerged holder.rule holding.tables run.span run.bottom (as_table given)

-- the branch is the one that the job asks for, or the run's branches merge to nothing
pub record IsWritten (tells : Bool) (holder : Holder) (least : ℕ) (output : Option Branch) : Type 0 where
  pub number : ℕ
  pub run : Run
  pub holding : Holding
  pub merger : IsMerger holder least number run holding
  pub some : IfSome output (λ branch. IsBranchOf holder.rule holding tells branch.number branch.extents (table_of branch))
  pub none : IsNone output → (holding.extents ≡ []) × (tells ≡ true → IsMerged holder.rule holding.tables run.span run.bottom (as_table []))

-- what is merged waits to be put in the run's place: a published branch, or nothing. The actor has these grips.
pub record IsToPlace (tells : Bool) (holder : Holder) (least : ℕ) (output : Bool) (grips : ℕ → Grip) : Type 0 where
  pub number : ℕ
  pub run : Run
  pub holding : Holding
  pub holds : IsHolding holder holding
  pub job : holding.job ≡ Some (Merge number run)
  pub published : holding.published ≡ output
  pub extents : holding.extents ≡ []
  pub grips_are : (node : ℕ) → holding.grips node ≡ grips node
  pub told : least ≤ holding.told
  pub merged : tells ≡ true → output ≡ false → IsMerged holder.rule holding.tables run.span run.bottom (as_table [])

-- no grip
abbrev pub no_grip : ℕ → Grip
no_grip node = Free

-- a write on one node
abbrev pub write_on : ℕ → ℕ → Grip
write_on node other = if nat_eq other node then Write else Free

-- a node is served: the run stands in another one too, of which the actor was told, or the job has ended, or no node has the run
abbrev pub AfterPlace : Bool → Holder → ℕ → Bool → Placed → Type 0
AfterPlace tells holder least output (placed.Next node) = (more : ℕ) × (least ≤ more) × (node < more) × IsToPlace tells holder more output no_grip
AfterPlace tells holder least output placed.Done = MayCall holder × (least ≤ told_by holder)
AfterPlace tells holder least output placed.Stale = least ≤ told_by holder

-- the actor has nothing, but where the run is stale
abbrev pub AfterWork : Holder → ℕ → Compacted → Type 0
AfterWork holder least compacted.Stale = least ≤ told_by holder
AfterWork holder least _ = MayCall holder × (least ≤ told_by holder)

-- the last node that has the run is served in this turn
abbrev pub IsEnd : {B : Type 0} → Turn B → Type 0
IsEnd turn = (output : Bool) × (node : ℕ) × (turn.step ≡ Install node output) × (turn.reply ≡ reply.Done)
