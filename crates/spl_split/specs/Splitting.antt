-- What a split answers, and what it makes of the state.
use Rattle.std.specs.Prelude.{◌≡◌, ℕ, zero, suc, ◌+◌, ◌<◌, ◌==◌, ◌&&◌, not, Bool, true, false, if◌then◌else◌, List, [], ◌∷◌, ◌++◌, Option, Some, None, IsSome, length, drop, position}
use Rattle.std.specs.List.{list_any}
use Rattle.spl_message.specs.Key.{same_key}
use Rattle.spl_bundle.specs.Numbered.{names}
use Rattle.spl_holds.specs.declared.grip.Grip.TheVariants.{Write}
use Rattle.spl_holds.specs.Grip.{is_write}
use Rattle.spl_holds.specs.Holds.{grip_of}
use Rattle.spl_holds.specs.Latch.{nobody}
use Rattle.spl_node.specs.declared.pivot.Pivot.{Pivot}
use Rattle.spl_node.specs.declared.node.TheConstants.{MAX_PIVOTS}
use Rattle.spl_node.specs.Node.{NodeData, pivot_at}
use Rattle.spl_node.specs.Steps.{IsSplitKey}
use Rattle.spl_trunk.specs.declared.trunk.TheConstants.{MAX_NODES}
use Rattle.spl_trunk.specs.Moves.{divided}
use Rattle.spl_trunk.specs.Tree.{times}
use Rattle.spl_trunk.specs.Trunk.{node_at, pivots_at, lists_at}
use Rattle.spl_state.specs.declared.reply.Reply.{Reply}
use Rattle.spl_state.specs.declared.reply.Reply.TheVariants as reply
use Rattle.spl_state.specs.Reply.{state_of}
use Rattle.spl_state.specs.Sight.{is_inside}
use Rattle.spl_state.specs.Whole.{Whole, branches, counts}

-- this is the child
abbrev pub is_to : ℕ → Option ℕ → Bool
is_to child None = false
is_to child (Some other) = other == child

-- the index of the pivot that leads to the child
abbrev pub pivot_to : List Pivot → ℕ → Option ℕ
pivot_to pivots child = position (λ (pivot : Pivot). is_to child pivot.child) pivots

-- this is the start
abbrev pub is_at : List ℕ → Option (List ℕ) → Bool
is_at key None = false
is_at key (Some start) = same_key start key

-- a leaf is split at a key of its range above its start, any other node where a pivot but the first starts
abbrev pub is_split_at : ℕ → NodeData → List ℕ → Bool
is_split_at zero node key = is_inside node.range key
is_split_at (suc height) node key = list_any (λ (pivot : Pivot). is_at key pivot.start) (drop 1 node.pivots)

abbrev pub is_split_key : NodeData → List ℕ → Bool
is_split_key node key = is_split_at node.height node key

-- the actor writes both nodes
abbrev pub writes_both : Whole → ℕ → ℕ → ℕ → Bool
writes_both whole actor parent child =
    is_write (grip_of whole.grips actor parent) && is_write (grip_of whole.grips actor child)

module _ {B : Type 0} where
  -- what a split answers, where the parent leads to the child by this pivot, or by none
  abbrev pub answer_at : Whole → ℕ → ℕ → List ℕ → Option ℕ → Reply B
  answer_at whole parent child key None = reply.Moved child
  answer_at whole parent child key (Some at) =
      if not (is_split_key (node_at whole.nodes child) key) then reply.Outside
      else if length (pivots_at whole.nodes parent) == MAX_PIVOTS then reply.Pivots MAX_PIVOTS
      else if length whole.nodes == MAX_NODES then reply.Nodes MAX_NODES
      else reply.Done

  -- what a split answers, where memory does not run out
  abbrev pub split_answer : Whole → ℕ → ℕ → ℕ → List ℕ → Reply B
  split_answer whole actor parent child key =
      if not (writes_both whole actor parent child) then reply.Unfit (state_of whole actor)
      else answer_at whole parent child key (pivot_to (pivots_at whole.nodes parent) child)

-- the parent leads to the child by this pivot and has room for one more, and the child can be split at the key
pub record CanDivide (nodes : List NodeData) (parent at child : ℕ) (key : List ℕ) : Type 0 where
  pub exists : parent < length nodes
  pub within : at < length (pivots_at nodes parent)
  pub leads : (pivot_at (pivots_at nodes parent) at).child ≡ Some child
  pub split : IsSplitKey (node_at nodes child) key
  pub pivots : length (pivots_at nodes parent) < MAX_PIVOTS
  pub room : length nodes < MAX_NODES

-- the actor writes both nodes, and the child can be split
pub record MaySplit (whole : Whole) (actor parent child : ℕ) (key : List ℕ) : Type 0 where
  pub above : grip_of whole.grips actor parent ≡ Write
  pub below : grip_of whole.grips actor child ≡ Write
  pub leads : IsSome (pivot_to (pivots_at whole.nodes parent) child)
  pub split : is_split_key (node_at whole.nodes child) key ≡ true
  pub pivots : length (pivots_at whole.nodes parent) < MAX_PIVOTS
  pub room : length whole.nodes < MAX_NODES

-- The child keeps the part below the key. A new node, on which nobody has a grip, has the part from the key on,
-- and the parent a pivot for it behind the child's, with the same mark. What the bundles name is named once more.
pub record HasSplit (old new : Whole) (parent at child : ℕ) (key : List ℕ) : Type 0 where
  pub counts : (number : ℕ)
      → counts new number ≡ counts old number + times number (names (lists_at old.nodes child))
  pub branches : (number : ℕ) → branches new number ≡ branches old number
  pub all : new ≡ record old {
    nodes = divided old.nodes parent at child key;
    refs = new.refs;
    grips = old.grips ++ nobody ∷ [];
  }

-- both parts have the bundles that the child had, with their marks
pub record ShareBundles (old new : Whole) (child : ℕ) : Type 0 where
  pub left : lists_at new.nodes child ≡ lists_at old.nodes child
  pub right : lists_at new.nodes (length old.nodes) ≡ lists_at old.nodes child
