-- What a trunk means: what its branches' tables make of a key, and the shape that makes this one fold.
use Rattle.std.specs.Prelude.{◌≡◌, ℕ, zero, suc, ◌+◌, ◌<◌, ◌≤◌, nat_eq, nat_lt, if◌then◌else◌, List, ◌∷◌, map, flat_map, Option, Some, None, option_to_list, length, count_by, All}
use Rattle.spl_message.specs.Cell.{Cell}
use Rattle.spl_message.specs.Message.{act_all}
use Rattle.spl_message.specs.Rule.{Rule}
use Rattle.spl_message.specs.Table.{Table, chain}
use Rattle.spl_bundle.specs.Numbered.{live, names}
use Rattle.spl_node.specs.declared.pivot.Pivot.{Pivot}
use Rattle.spl_node.specs.Node.{NodeData, pivot_at, pivot_for, span_of, IsNode}
use Rattle.spl_node.specs.Steps.{all_keys}
use Rattle.spl_trunk.specs.Trunk.{node_at}

-- the pivot of a key
abbrev pub pivot_of : NodeData → List ℕ → Pivot
pivot_of node key = pivot_at node.pivots (pivot_for node.pivots key)

-- the number of the child, where there is one
abbrev pub number_of : Option ℕ → ℕ
number_of None = 0
number_of (Some child) = child

abbrev pub child_for : NodeData → List ℕ → ℕ
child_for node key = number_of (pivot_of node key).child

-- the tables of the branches that are live for the key in the node, oldest first
abbrev pub live_tables : (ℕ → Table) → NodeData → List ℕ → List Table
live_tables table_of node key = map table_of (live node.lists (pivot_of node key).mark)

-- What a node of this height and the nodes below it make of a key: its live tables act on what the child of the
-- key's pivot makes of it, and at a leaf on nothing. A node's messages are newer than its children's.
abbrev pub sub : Rule → (ℕ → Table) → (ℕ → NodeData) → ℕ → ℕ → List ℕ → Cell
sub rule table_of nodes zero number key = act_all rule key None (chain (live_tables table_of (nodes number) key) key)
sub rule table_of nodes (suc height) number key =
    act_all rule key (sub rule table_of nodes height (child_for (nodes number) key) key) (chain (live_tables table_of (nodes number) key) key)

-- what the store has for a key: the memtables, oldest first, act on what the root makes of it
abbrev pub means : Rule → (ℕ → Table) → (ℕ → NodeData) → List Table → List ℕ → Cell
means rule table_of nodes memtables key = act_all rule key (sub rule table_of nodes (nodes 0).height 0 key) (chain memtables key)

-- how often a number stands in a list
abbrev pub times : ℕ → List ℕ → ℕ
times number numbers = count_by (λ other. nat_eq other number) numbers

-- the children of a node, in the order of its pivots
abbrev pub children : NodeData → List ℕ
children node = flat_map (λ (pivot : Pivot). option_to_list pivot.child) node.pivots

-- the root and every node's children
abbrev pub leads : List NodeData → List ℕ
leads nodes = 0 ∷ flat_map children nodes

-- a pivot's child is one lower, and its range is the pivot's part
pub record IsChild (nodes : List NodeData) (node : NodeData) (i child : ℕ) : Type 0 where
  pub exists : child < length nodes
  pub height : (node_at nodes child).height + 1 ≡ node.height
  pub range : (node_at nodes child).range ≡ span_of node i

-- a trunk is a tree: its root has all keys, the pivots of a node part its keys among its children, and each node but
-- the root is one pivot's child
pub record IsShaped (nodes : List NodeData) : Type 0 where
  pub some : 0 < length nodes
  pub few : length nodes ≤ 4096
  pub each : All IsNode nodes
  pub root : (node_at nodes 0).range ≡ all_keys
  pub children : (n i child : ℕ) → n < length nodes → i < length (node_at nodes n).pivots → (pivot_at (node_at nodes n).pivots i).child ≡ Some child → IsChild nodes (node_at nodes n) i child
  pub parents : (n : ℕ) → times n (leads nodes) ≡ (if nat_lt n (length nodes) then 1 else 0)

-- every branch that some bundle of the trunk names, as often as bundles name it
abbrev pub named : List NodeData → List ℕ
named nodes = flat_map (λ (node : NodeData). names node.lists) nodes
