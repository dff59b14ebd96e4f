-- The runs of bundles that are being merged, and the marks that their bundles carry.
use Rattle.std.specs.Prelude.{◌≡◌, ℕ, ◌+◌, ◌<◌, ◌≤◌, true, List, length, Option, Some, None}
use Rattle.spl_base.specs.declared.TheConstants.{ACTORS}
use Rattle.spl_message.specs.Span.{InSpan}
use Rattle.spl_bundle.specs.Numbered.{Numbered, bundle_at, next_of}
use Rattle.spl_node.specs.Node.{NodeData}
use Rattle.spl_node.specs.Parts.{branches_from, IsUncut}
use Rattle.spl_trunk.specs.Trunk.{node_at}
use Rattle.spl_state.specs.declared.job.Job.{Job}
use Rattle.spl_state.specs.declared.job.Job.TheVariants.{Pack, Merge}
use Rattle.spl_state.specs.declared.job.Run.{Run}
use Rattle.spl_state.specs.declared.actor.Actor.{Actor}
use Rattle.spl_state.specs.Actor.{actor_in}

-- the bundle stands in the queue
abbrev pub Stands : Numbered → ℕ → Type 0
Stands queue number = (queue.first ≤ number) × (number < next_of queue)

-- What is left of a run in a node that holds a bundle with its actor's mark: those of its bundles that stand carry the
-- mark and have the run's inputs, each pivot has all of them live or none, and the node's keys are among the run's.
pub record HoldsRun (node : NodeData) (actor : ℕ) (run : Run) : Type 0 where
  pub stands : Stands node.lists run.last
  pub marks : (number : ℕ) → run.first ≤ number → number ≤ run.last → node.lists.first ≤ number → (bundle_at node.lists number).owner ≡ Some actor
  pub inputs : branches_from node.lists run.first (run.last + 1) ≡ run.inputs
  pub whole : IsUncut node run.first run.last
  pub within : (key : List ℕ) → InSpan node.range key → InSpan run.span key
  -- at the bottom the node is a leaf, and no older bundle stands
  pub leaf : run.bottom ≡ true → node.height ≡ 0
  pub oldest : run.bottom ≡ true → run.first ≤ node.lists.first

-- the actor merges a run that has this bundle, in a node that holds the run
abbrev pub IsInRun : NodeData → ℕ → ℕ → Option Job → Type 0
IsInRun node number actor None = ⊥
IsInRun node number actor (Some (Pack branch table)) = ⊥
IsInRun node number actor (Some (Merge branch run)) = (run.first ≤ number) × (number ≤ run.last) × HoldsRun node actor run

-- each mark on a bundle is that of an actor that merges a run with this bundle
abbrev pub AreInRuns : List NodeData → List Actor → Type 0
AreInRuns nodes actors = (n number actor : ℕ) → n < length nodes → Stands (node_at nodes n).lists number → (bundle_at (node_at nodes n).lists number).owner ≡ Some actor → (actor < ACTORS) × IsInRun (node_at nodes n) number actor (actor_in actors actor).job
