-- What a flush answers, and what it makes of the state.
use Rattle.std.specs.Prelude.{◌≡◌, ℕ, ◌+◌, ◌-◌, ◌<◌, ◌^◌, ◌==◌, ◌&&◌, nat_lt, Bool, false, if◌then◌else◌, List, take, length, Option, Some, None, position}
use Rattle.spl_bundle.specs.declared.bundles.TheConstants.{MAX_LISTS, MAX_BRANCHES}
use Rattle.spl_bundle.specs.Numbered.{Numbered, joined, next_of}
use Rattle.spl_extent.specs.Pool.{granted_to}
use Rattle.spl_holds.specs.Grip.{is_write}
use Rattle.spl_holds.specs.Holds.{grip_of}
use Rattle.spl_node.specs.declared.pivot.Pivot.{Pivot}
use Rattle.spl_node.specs.Node.{NodeData, live_at}
use Rattle.spl_node.specs.Steps.{with_mark, kept_from}
use Rattle.spl_trunk.specs.Moves.{passed, received}
use Rattle.spl_trunk.specs.Tree.{times}
use Rattle.spl_trunk.specs.Trunk.{node_at, with_node}
use Rattle.spl_state.specs.declared.reply.Reply.{Reply}
use Rattle.spl_state.specs.declared.reply.Reply.TheVariants.{Done, Moved, NeedsRoom, NeedsCompact, Unfit}
use Rattle.spl_state.specs.Reply.{state_of}
use Rattle.spl_state.specs.Whole.{Whole, branches, counts}

-- the pivot leads to the child
abbrev pub is_to : ℕ → Option ℕ → Bool
is_to child None = false
is_to child (Some other) = other == child

-- the pivot that leads to the child, where there is one
abbrev pub pivot_to : List Pivot → ℕ → Option ℕ
pivot_to pivots child = position (λ (pivot : Pivot). is_to child pivot.child) pivots

-- the actor writes the node
abbrev pub writes : Whole → ℕ → ℕ → Bool
writes whole actor node = is_write (grip_of whole.grips actor node)

module _ {B : Type 0} where
  -- the child takes a list of so many branches, or else why not
  abbrev pub where_taken : NodeData → ℕ → Reply B
  where_taken child branches =
      if nat_lt (length child.lists.bundles) MAX_LISTS then
      (if nat_lt MAX_BRANCHES branches then NeedsCompact branches else Done)
      else NeedsRoom

  abbrev pub where_led : Whole → ℕ → ℕ → Option ℕ → Reply B
  where_led whole parent child None = Moved child
  where_led whole parent child (Some pivot) =
      where_taken (node_at whole.nodes child) (length (live_at (node_at whole.nodes parent) pivot))

  -- an actor that does not write both is unfit; then the parent has to lead to the child, and the child to take
  -- the list
  abbrev pub flush_answer : Whole → ℕ → ℕ → ℕ → Reply B
  flush_answer whole actor parent child =
      if writes whole actor parent && writes whole actor child then
      where_led whole parent child (pivot_to (node_at whole.nodes parent).pivots child)
      else Unfit (state_of whole actor)

-- the branches of the bundles below a number
abbrev pub names_below : Numbered → ℕ → List ℕ
names_below queue number = joined (take (number - queue.first) queue.bundles)

-- the branches of the bundles that are dropped once nothing is live for this pivot, as often as they name them
abbrev pub dead_names : NodeData → ℕ → List ℕ
dead_names node pivot = names_below node.lists (kept_from (with_mark node pivot (next_of node.lists)))

-- what is live in the parent for the pivot is the child's newest bundle, unless it is nothing, and is no longer
-- live in the parent for the pivot
abbrev pub flushed : List NodeData → ℕ → ℕ → ℕ → List NodeData
flushed nodes parent pivot child =
    with_node (with_node nodes child (received (node_at nodes child) (live_at (node_at nodes parent) pivot)))
    parent (passed (node_at nodes parent) pivot)

pub record IsFlushed (old new : Whole) (parent pivot child : ℕ) : Type 0 where
  pub nodes : new.nodes ≡ flushed old.nodes parent pivot child
  -- each branch is named as often more as it was live, and as often less as the parent's dropped bundles named it;
  -- what is still named is the branch that it was
  pub names : (number : ℕ) → counts new number + times number (dead_names (node_at old.nodes parent) pivot)
      ≡ counts old number + times number (live_at (node_at old.nodes parent) pivot)
  pub still : (number : ℕ) → 0 < counts new number → branches new number ≡ branches old number
  -- every actor is granted what it was
  pub extents : length new.owners ≡ length old.owners
  pub granted : (actor : ℕ) → granted_to new.owners actor ≡ granted_to old.owners actor
  -- the rest stays
  pub grips : new.grips ≡ old.grips
  pub tables : new.tables ≡ old.tables
  pub actors : new.actors ≡ old.actors
  pub counters : new.counters ≡ old.counters

-- No branch is named so often that its count could overflow. It holds of every state that is reached: a step
-- names a branch at most 1,024 times more, and there are at most 2 ^ 46 steps.
abbrev pub AreFew : Whole → Type 0
AreFew whole = (number : ℕ) → counts whole number < 2 ^ 62
