-- What the end of a merge in a node answers, and what it makes of the state.
use Rattle.std.specs.Prelude.{◌≡◌, ℕ, ◌<◌, nat_lt, Bool, true, false, not, ◌&&◌, ◌||◌, if◌then◌else◌, List, ◌∷◌, [], map, length, Option, Some, None, position, slice_set}
use Rattle.spl_message.specs.Rule.{Rule}
use Rattle.spl_message.specs.Table.{as_table, IsMerged}
use Rattle.spl_bundle.specs.Numbered.{Bundle, bundle_at, is_mark_of, next_of}
use Rattle.spl_extent.specs.Pool.{granted_to}
use Rattle.spl_holds.specs.Grip.{is_write}
use Rattle.spl_holds.specs.Holds.{grip_of}
use Rattle.spl_node.specs.Node.{NodeData}
use Rattle.spl_trunk.specs.Moves.{compacted}
use Rattle.spl_trunk.specs.Tree.{times}
use Rattle.spl_trunk.specs.Trunk.{node_at, with_node}
use Rattle.spl_state.specs.declared.actor.Actor.{Actor}
use Rattle.spl_state.specs.declared.job.Job.{Job}
use Rattle.spl_state.specs.declared.job.Job.TheVariants.{Pack, Merge}
use Rattle.spl_state.specs.declared.job.Run.{Run}
use Rattle.spl_state.specs.declared.reply.Reply.{Reply}
use Rattle.spl_state.specs.declared.reply.Reply.TheVariants.{Done, Next, Unfit, Elsewhere}
use Rattle.spl_state.specs.Actor.{actor_in, with_job, told_of}
use Rattle.spl_state.specs.Extents.{mentioned}
use Rattle.spl_state.specs.Reply.{state_of}
use Rattle.spl_state.specs.Whole.{Whole, branches, counts, table_in}
use Rattle.spl_compact.specs.declared.merging.Outcome.{Outcome}

-- one of the bundles has the actor's mark
abbrev pub any_marked : ℕ → List Bundle → Bool
any_marked actor [] = false
any_marked actor (bundle ∷ bundles) = is_mark_of actor bundle.owner || any_marked actor bundles

-- the node has a bundle with the actor's mark
abbrev pub carries : ℕ → NodeData → Bool
carries actor node = any_marked actor node.lists.bundles

-- the lowest-numbered of such nodes
abbrev pub first_heir : List NodeData → ℕ → Option ℕ
first_heir nodes actor = position (carries actor) nodes

-- the last bundle of the run stands in the node and carries the actor's mark
abbrev pub is_heir : ℕ → ℕ → NodeData → Bool
is_heir last actor node = not (nat_lt last node.lists.first)
    && (nat_lt last (next_of node.lists) && is_mark_of actor (bundle_at node.lists last).owner)

-- the job's run and its branch, where it merges and what it published is what is said to be the output
abbrev pub merged_by : Option Job → Bool → Bool → Option Outcome
merged_by None published output = None
merged_by (Some (Pack number table)) published output = None
merged_by (Some (Merge number run)) true true =
    Some (record { first = run.first; last = run.last; output = Some number })
merged_by (Some (Merge number run)) false false =
    Some (record { first = run.first; last = run.last; output = None })
merged_by (Some (Merge number run)) true false = None
merged_by (Some (Merge number run)) false true = None

-- and the actor writes the node
abbrev pub ready_in : Whole → ℕ → ℕ → Bool → Option Outcome
ready_in whole actor node output =
    if is_write (grip_of whole.grips actor node)
    then merged_by (actor_in whole.actors actor).job (actor_in whole.actors actor).published output
    else None

-- the trunk in which the output stands in the place of the node's run
abbrev pub served : List NodeData → ℕ → Outcome → List NodeData
served nodes node outcome =
    with_node nodes node (compacted (node_at nodes node) outcome.first outcome.last outcome.output)

-- the actor is told of the next heir, and without one its job has ended
abbrev pub goes_on : Actor → Option ℕ → Actor
goes_on actor None = with_job actor None
goes_on actor (Some next) = told_of actor next

-- the actor is told of the node, where there is one
abbrev pub told_in : List Actor → ℕ → Option ℕ → List Actor
told_in actors actor None = actors
told_in actors actor (Some next) = slice_set actors actor (told_of (actor_in actors actor) next)

abbrev pub told_next : Whole → ℕ → Option ℕ → Whole
told_next whole actor next = record whole { actors = told_in whole.actors actor next }

module _ {B : Type 0} where
  abbrev pub next_answer : Option ℕ → Reply B
  next_answer None = Done
  next_answer (Some next) = Next next

  abbrev pub where_ready : Whole → ℕ → ℕ → Option Outcome → Reply B
  where_ready whole actor node None = Unfit (state_of whole actor)
  where_ready whole actor node (Some outcome) =
      if carries actor (node_at whole.nodes node)
      then next_answer (first_heir (served whole.nodes node outcome) actor)
      else Elsewhere (first_heir whole.nodes actor)

  abbrev pub install_answer : Whole → ℕ → ℕ → Bool → Reply B
  install_answer whole actor node output = where_ready whole actor node (ready_in whole actor node output)

pub record Installs (old new : Whole) (actor node : ℕ) (outcome : Outcome) : Type 0 where
  -- in the node the run is merged, and none of its bundles carries the actor's mark any more
  pub nodes : new.nodes ≡ served old.nodes node outcome
  pub cleared : carries actor (node_at new.nodes node) ≡ false
  pub actors : new.actors
      ≡ slice_set old.actors actor (goes_on (actor_in old.actors actor) (first_heir new.nodes actor))
  -- each branch is named as often as the state names it, and what is still named is the branch that it was
  pub as_often : (number : ℕ) → counts new number ≡ times number (mentioned new.nodes new.actors)
  pub still : (number : ℕ) → 0 < counts new number → branches new number ≡ branches old number
  -- every actor is granted what it was
  pub extents : length new.owners ≡ length old.owners
  pub granted : (other : ℕ) → granted_to new.owners other ≡ granted_to old.owners other
  pub grips : new.grips ≡ old.grips
  pub tables : new.tables ≡ old.tables
  pub counters : new.counters ≡ old.counters

-- where the actor is ready and the node carries its marks, its outcome is installed there
abbrev pub IsServed : Whole → ℕ → ℕ → Bool → Whole → Type 0
IsServed old actor node output new = (outcome : Outcome) → ready_in old actor node output ≡ Some outcome
    → carries actor (node_at old.nodes node) ≡ true → Installs old new actor node outcome

-- without an output nothing is left of the run
abbrev pub MergesToNothing : Rule → Whole → ℕ → Type 0
MergesToNothing rule whole actor = (number : ℕ) (run : Run)
    → (actor_in whole.actors actor).job ≡ Some (Merge number run)
    → IsMerged rule (map (table_in (branches whole)) run.inputs) run.span run.bottom (as_table [])
