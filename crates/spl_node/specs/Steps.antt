-- What the calls of a node make of its data.
use Rattle.std.specs.Prelude.{◌≡◌, ℕ, zero, suc, Bool, true, ◌+◌, ◌<◌, ◌||◌, min, max, nat_lt, if◌then◌else◌, List, [], ◌∷◌, Some, None, length, map, fold, take, drop, slice_set}
use Rattle.spl_message.specs.declared.span.Span.{Span}
use Rattle.spl_message.specs.Span.{InSpan}
use Rattle.spl_bundle.specs.Numbered.{Numbered, Bundle, next_of, dropped_below}
use Rattle.spl_node.specs.declared.pivot.Pivot.{Pivot}
use Rattle.spl_node.specs.Node.{NodeData, pivot_at, is_past}

abbrev pub all_keys : Span
all_keys = record { from = None; to = None }

-- a node over all keys with one pivot and no bundle
abbrev pub fresh : ℕ → Pivot → NodeData
fresh height pivot = record { height = height; range = all_keys; generation = 0; pivots = pivot ∷ []; lists = record { first = 0; bundles = [] } }

abbrev pub with_lists : NodeData → Numbered → NodeData
with_lists node lists = record node { lists = lists }

abbrev pub with_pivots : NodeData → List Pivot → NodeData
with_pivots node pivots = record node { pivots = pivots }

-- the pivot with this mark
abbrev pub at_mark : Pivot → ℕ → Pivot
at_mark pivot mark = record pivot { mark = mark }

abbrev pub with_mark : NodeData → ℕ → ℕ → NodeData
with_mark node i mark = with_pivots node (slice_set node.pivots i (at_mark (pivot_at node.pivots i) mark))

abbrev pub is_empty : Bundle → Bool
is_empty bundle = nat_lt (length bundle.branches) 1

-- the number of the first of these bundles, numbered from `number` on, that has branches and is not below `least`,
-- or the number behind the last one
abbrev pub first_from : ℕ → ℕ → List Bundle → ℕ
first_from least number [] = number
first_from least number (bundle ∷ bundles) =
    if nat_lt number least || is_empty bundle then first_from least (number + 1) bundles else number

-- the least mark of a node's pivots
abbrev pub least_mark : NodeData → ℕ
least_mark node = fold (λ least pivot. min least pivot.mark) (next_of node.lists) node.pivots

-- the first bundle that a trim keeps: it has branches, and is live for some pivot
abbrev pub kept_from : NodeData → ℕ
kept_from node = first_from (least_mark node) node.lists.first node.lists.bundles

-- without the bundles in front of that, and no mark is below it
abbrev pub trimmed : NodeData → NodeData
trimmed node = record node {
  pivots = map (λ (pivot : Pivot). at_mark pivot (max pivot.mark (kept_from node))) node.pivots;
  lists = dropped_below node.lists (kept_from node);
}

-- how many pivots in a row, from the first, start below the key
abbrev pub starts_below : List Pivot → List ℕ → ℕ
starts_below [] key = 0
starts_below (pivot ∷ pivots) key = if is_past pivot.start key then suc (starts_below pivots key) else 0

-- a leaf can be split at each key of its range above its start, every other node where a pivot but the first starts
abbrev pub IsSplitAt : ℕ → NodeData → List ℕ → Type 0
IsSplitAt zero node key = (is_past node.range.from key ≡ true) × InSpan node.range key
IsSplitAt (suc height) node key = (i : ℕ) × (0 < i) × (i < length node.pivots) × ((pivot_at node.pivots i).start ≡ Some key)

abbrev pub IsSplitKey : NodeData → List ℕ → Type 0
IsSplitKey node key = IsSplitAt node.height node key

-- the pivots of the part from the key on: a leaf's pivot stands in both parts, the pivots of other nodes are parted
abbrev pub right_pivots : ℕ → List Pivot → List ℕ → List Pivot
right_pivots zero pivots key = map (λ (pivot : Pivot). record pivot { start = Some key }) pivots
right_pivots (suc height) pivots key = drop (starts_below pivots key) pivots

abbrev pub right_of : NodeData → List ℕ → NodeData
right_of node key = record node {
  range = record { from = Some key; to = node.range.to };
  generation = 0;
  pivots = right_pivots node.height node.pivots key;
}

abbrev pub left_of : NodeData → List ℕ → NodeData
left_of node key = record node {
  range = record { from = node.range.from; to = Some key };
  generation = node.generation + 1;
  pivots = take (starts_below node.pivots key) node.pivots;
}

-- the node that a raised root leaves below it
abbrev pub lowered : NodeData → NodeData
lowered node = record node { generation = 0 }

-- the raised root over that child
abbrev pub lifted : NodeData → ℕ → NodeData
lifted node child = record {
  height = node.height + 1;
  range = node.range;
  generation = node.generation + 1;
  pivots = record { start = node.range.from; child = Some child; mark = 0 } ∷ [];
  lists = record { first = 0; bundles = [] };
}
