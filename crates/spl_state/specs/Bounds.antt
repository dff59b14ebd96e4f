-- What bounds the numbers, and what holds of bundles at the ends of loops.
use Rattle.std.specs.Prelude.{◌≡◌, ℕ, ◌<◌, ◌≤◌, ◌^◌, List, [], ◌∷◌, length, Option, Some, None, IsSome, All}
use Rattle.spl_bundle.specs.Numbered.{Bundle, next_of}
use Rattle.spl_node.specs.Node.{NodeData, pivot_at}
use Rattle.spl_trunk.specs.Trunk.{node_at}
use Rattle.spl_tables.specs.Memtables.{MemtableData}
use Rattle.spl_state.specs.declared.counters.Counters.{Counters}
use Rattle.spl_state.specs.Whole.{BranchData}

-- each number that is given is at most the count of steps
pub record AreBounded (nodes : List NodeData) (branch : ℕ → Option BranchData) (tables : MemtableData) (counters : Counters) : Type 0 where
  pub steps : counters.steps ≤ 2 ^ 46
  pub places : counters.places ≤ counters.steps
  pub branches : counters.branches ≤ counters.steps
  pub memtables : tables.next ≤ counters.steps
  pub lists : All (λ (node : NodeData). next_of node.lists ≤ counters.steps) nodes
  pub generations : All (λ (node : NodeData). node.generation ≤ counters.steps) nodes
  pub height : (node_at nodes 0).height < length nodes
  pub numbers : (number : ℕ) → IsSome (branch number) → number < counters.branches

-- a step that was counted may give each of these numbers once
pub record AreBelow (nodes : List NodeData) (tables : MemtableData) (counters : Counters) : Type 0 where
  pub places : counters.places < counters.steps
  pub branches : counters.branches < counters.steps
  pub memtables : tables.next < counters.steps
  pub lists : All (λ (node : NodeData). next_of node.lists < counters.steps) nodes
  pub generations : All (λ (node : NodeData). node.generation < counters.steps) nodes

-- a bundle that stands at the front names a branch
abbrev pub StartsFull : List Bundle → Type 0
StartsFull [] = Unit {0}
StartsFull (bundle ∷ bundles) = 0 < length bundle.branches

-- in a leaf all bundles that stand are live, and no node keeps an empty bundle at its front
pub record HasEnds (node : NodeData) : Type 0 where
  pub mark : node.height ≡ 0 → (pivot_at node.pivots 0).mark ≡ node.lists.first
  pub front : StartsFull node.lists.bundles

-- a bundle of the root is a memtable's branch, or a merge's
pub record HasAllEnds (nodes : List NodeData) : Type 0 where
  pub each : All HasEnds nodes
  pub root : All (λ (bundle : Bundle). length bundle.branches ≤ 1) (node_at nodes 0).lists.bundles
