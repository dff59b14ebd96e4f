-- What a key finds in a node, and the parts that a split makes of it.
use Rattle.std.specs.Prelude.{◌≡◌, ℕ, ◌+◌, ◌-◌, ◌<◌, ◌≤◌, max, ◌↔◌, List, Option, length, take, drop, All, ◌⊎◌}
use Rattle.spl_message.specs.Span.{InSpan}
use Rattle.spl_bundle.specs.Numbered.{Numbered, next_of, joined}
use Rattle.spl_node.specs.declared.pivot.Pivot.{Pivot}
use Rattle.spl_node.specs.Node.{NodeData, pivot_at, pivot_for, live_at}

-- the child that a key is under
abbrev pub child_of : NodeData → List ℕ → Option ℕ
child_of node key = (pivot_at node.pivots (pivot_for node.pivots key)).child

-- the branches that are live for a key, oldest first
abbrev pub live_for : NodeData → List ℕ → List ℕ
live_for node key = live_at node (pivot_for node.pivots key)

-- a key is under the same child in both nodes, with the same live branches
pub record IsAlike (node other : NodeData) (key : List ℕ) : Type 0 where
  pub child : child_of other key ≡ child_of node key
  pub live : live_for other key ≡ live_for node key

-- each key of the node lies in exactly one of two parts, and finds there what it found in the node
pub record IsParted (node left right : NodeData) : Type 0 where
  pub some : (key : List ℕ) → InSpan node.range key → InSpan left.range key ⊎ InSpan right.range key
  pub apart : (key : List ℕ) → InSpan left.range key → InSpan right.range key → ⊥
  pub in_left : (key : List ℕ) → InSpan left.range key → InSpan node.range key × IsAlike node left key
  pub in_right : (key : List ℕ) → InSpan right.range key → InSpan node.range key × IsAlike node right key

-- the branches of the bundles from one number on and below another one, of those that stand
abbrev pub branches_from : Numbered → ℕ → ℕ → List ℕ
branches_from queue from number = joined (take (number - max from queue.first) (drop (from - queue.first) queue.bundles))

-- no pivot has a mark inside the run: for each the bundles of the run that stand are all live, or none is
abbrev pub IsUncut : NodeData → ℕ → ℕ → Type 0
IsUncut node first last = All (λ pivot. (pivot.mark ≤ max first node.lists.first) ⊎ (last < pivot.mark)) node.pivots
