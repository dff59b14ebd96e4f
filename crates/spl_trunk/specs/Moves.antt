-- What the steps of the core make of a trunk's nodes.
use Rattle.std.specs.Prelude.{◌≡◌, ℕ, zero, suc, ◌+◌, ◌<◌, length, List, [], ◌∷◌, ◌++◌, Option, Some, None}
use Rattle.std.specs.List.{insert}
use Rattle.spl_message.specs.Cell.{Cell}
use Rattle.spl_message.specs.Rule.{Rule}
use Rattle.spl_message.specs.Table.{Table, as_table}
use Rattle.spl_bundle.specs.Numbered.{next_of, pushed, merged}
use Rattle.spl_node.specs.declared.pivot.Pivot.{Pivot}
use Rattle.spl_node.specs.Node.{NodeData, pivot_at}
use Rattle.spl_node.specs.Steps.{with_lists, with_pivots, with_mark, trimmed, right_of, left_of, lowered, lifted}
use Rattle.spl_trunk.specs.Trunk.{node_at, with_node}
use Rattle.spl_trunk.specs.Tree.{child_for, sub}

-- what lies below a node's own branches for a key: what the child of the key's pivot makes of it, and at a leaf nothing
abbrev pub below : Rule → (ℕ → Table) → (ℕ → NodeData) → ℕ → ℕ → List ℕ → Cell
below rule table_of nodes zero number key = None
below rule table_of nodes (suc height) number key = sub rule table_of nodes height (child_for (nodes number) key) key

-- the parent of a flush: nothing is live any more for the pivot
abbrev pub passed : NodeData → ℕ → NodeData
passed node i = trimmed (with_mark node i (next_of node.lists))

-- the child of a flush: the branches that were live for its pivot are its newest bundle, if there are any
abbrev pub received : NodeData → List ℕ → NodeData
received node [] = node
received node (branch ∷ branches) = with_lists node (pushed node.lists (branch ∷ branches))

-- the node of a compaction: the output stands in the place of the run
abbrev pub compacted : NodeData → ℕ → ℕ → Option ℕ → NodeData
compacted node first last output = trimmed (with_lists node (merged node.lists first last output))

-- the table of an output, which is empty where there is none
abbrev pub output_table : (ℕ → Table) → Option ℕ → Table
output_table table_of None = as_table []
output_table table_of (Some branch) = table_of branch

-- the pivot that leads to the right part of a split, with what is live for the child that is split
abbrev pub right_pivot : NodeData → ℕ → List ℕ → ℕ → Pivot
right_pivot node i key number = record { start = Some key; child = Some number; mark = (pivot_at node.pivots i).mark }

-- the parent of a split, with that pivot behind the child's
abbrev pub widened : NodeData → ℕ → List ℕ → ℕ → NodeData
widened node i key number = with_pivots node (insert node.pivots (i + 1) (right_pivot node i key number))

-- a child is split, and its parent gets the new pivot
abbrev pub divided : List NodeData → ℕ → ℕ → ℕ → List ℕ → List NodeData
divided nodes parent i child key =
    with_node (with_node (nodes ++ right_of (node_at nodes child) key ∷ []) child (left_of (node_at nodes child) key)) parent (widened (node_at nodes parent) i key (length nodes))

-- the root is raised over a new node that is what the root was
abbrev pub raised : List NodeData → List NodeData
raised nodes = with_node (nodes ++ lowered (node_at nodes 0) ∷ []) 0 (lifted (node_at nodes 0) (length nodes))

-- the node is as before but for its marks, its bundles and its generation
pub record KeepsFrame (node other : NodeData) : Type 0 where
  pub height : other.height ≡ node.height
  pub range : other.range ≡ node.range
  pub count : length other.pivots ≡ length node.pivots
  pub starts : (i : ℕ) → i < length node.pivots → (pivot_at other.pivots i).start ≡ (pivot_at node.pivots i).start
  pub children : (i : ℕ) → i < length node.pivots → (pivot_at other.pivots i).child ≡ (pivot_at node.pivots i).child
