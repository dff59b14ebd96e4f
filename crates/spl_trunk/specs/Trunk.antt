-- What a contract sees of a trunk: its nodes, by their numbers.
use Rattle.std.specs.Prelude.{ℕ, List, map, slice_index_or, slice_set}
use Rattle.spl_bundle.specs.Numbered.{Numbered, released}
use Rattle.spl_node.specs.declared.pivot.Pivot.{Pivot}
use Rattle.spl_node.specs.Node.{NodeData, bare}
use Rattle.spl_node.specs.Steps.{fresh, with_lists, with_pivots}

-- the node with this number
abbrev pub node_at : List NodeData → ℕ → NodeData
node_at nodes number = slice_index_or nodes number (fresh 0 bare)

-- the trunk with that node in the place of this number, and every other node as it was
abbrev pub with_node : List NodeData → ℕ → NodeData → List NodeData
with_node nodes number node = slice_set nodes number node

-- the pivots and the bundles of the node
abbrev pub pivots_at : List NodeData → ℕ → List Pivot
pivots_at nodes number = (node_at nodes number).pivots

abbrev pub lists_at : List NodeData → ℕ → Numbered
lists_at nodes number = (node_at nodes number).lists

-- the trunk with other pivots or bundles in that node
abbrev pub with_pivots_at : List NodeData → ℕ → List Pivot → List NodeData
with_pivots_at nodes number pivots = with_node nodes number (with_pivots (node_at nodes number) pivots)

abbrev pub with_lists_at : List NodeData → ℕ → Numbered → List NodeData
with_lists_at nodes number lists = with_node nodes number (with_lists (node_at nodes number) lists)

-- the node without a mark of the actor
abbrev pub released_node : ℕ → NodeData → NodeData
released_node actor node = with_lists node (released node.lists actor)

-- the trunk in which no bundle has a mark of the actor
abbrev pub all_released : List NodeData → ℕ → List NodeData
all_released nodes actor = map (released_node actor) nodes
