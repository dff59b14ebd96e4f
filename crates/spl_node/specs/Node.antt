-- What a contract sees of a node: plain data.
use Rattle.std.specs.Prelude.{◌≡◌, ℕ, suc, Bool, true, false, ◌+◌, ◌<◌, ◌≤◌, ◌↔◌, nat_lt, if◌then◌else◌, List, [], ◌∷◌, Option, Some, None, IsSome, length, slice_index_or, All}
use Rattle.spl_message.specs.declared.span.Span.{Span}
use Rattle.spl_message.specs.Key.{is_below}
use Rattle.spl_message.specs.Span.{is_from, InSpan}
use Rattle.spl_bundle.specs.Numbered.{Numbered, next_of, live}
use Rattle.spl_node.specs.declared.pivot.Pivot.{Pivot}
use Rattle.spl_node.specs.declared.node.TheConstants.{MAX_PIVOTS}

pub record NodeData : Type 0 where
  pub height : ℕ
  pub range : Span
  pub generation : ℕ
  pub pivots : List Pivot
  pub lists : Numbered

-- a pivot over all keys without a child
abbrev pub bare : Pivot
bare = record { start = None; child = None; mark = 0 }

abbrev pub pivot_at : List Pivot → ℕ → Pivot
pivot_at pivots i = slice_index_or pivots i bare

-- the index of the pivot of a key: the last one before the first that starts above the key
abbrev pub pivot_for : List Pivot → List ℕ → ℕ
pivot_for [] key = 0
pivot_for (pivot ∷ []) key = 0
pivot_for (pivot ∷ next ∷ pivots) key = if is_from next.start key then suc (pivot_for (next ∷ pivots) key) else 0

-- the keys of a pivot: from its start to the start of the next one, or to the end of the node's range
abbrev pub span_of : NodeData → ℕ → Span
span_of node i = record {
  from = (pivot_at node.pivots i).start;
  to = (if nat_lt (i + 1) (length node.pivots) then (pivot_at node.pivots (i + 1)).start else node.range.to);
}

-- the branches that are live for a pivot, oldest first
abbrev pub live_at : NodeData → ℕ → List ℕ
live_at node i = live node.lists (pivot_at node.pivots i).mark

-- the key is above the start; every key is above an open start
abbrev pub is_past : Option (List ℕ) → List ℕ → Bool
is_past None key = true
is_past (Some start) key = is_below start key

-- the second start is a key above the first start
abbrev pub StartsBefore : Option (List ℕ) → Option (List ℕ) → Type 0
StartsBefore start None = true ≡ false
StartsBefore start (Some key) = is_past start key ≡ true

-- each pivot starts above the one before it
abbrev pub AreRising : List Pivot → Type 0
AreRising pivots = (i : ℕ) → i + 1 < length pivots → StartsBefore (pivot_at pivots i).start (pivot_at pivots (i + 1)).start

-- an open start, or a key of the span
abbrev pub StartsIn : Span → Option (List ℕ) → Type 0
StartsIn span None = true ≡ true
StartsIn span (Some key) = InSpan span key

-- the mark of a pivot lies between the first bundle's number and the next one
abbrev pub IsMark : Numbered → ℕ → Type 0
IsMark lists mark = (lists.first ≤ mark) × (mark ≤ next_of lists)

-- what holds of every node
pub record IsNode (node : NodeData) : Type 0 where
  pub some : 0 < length node.pivots
  pub few : length node.pivots ≤ MAX_PIVOTS
  -- the pivots part the node's range
  pub begin : (pivot_at node.pivots 0).start ≡ node.range.from
  pub rising : AreRising node.pivots
  pub within : All (λ pivot. StartsIn node.range pivot.start) node.pivots
  pub marks : All (λ pivot. IsMark node.lists pivot.mark) node.pivots
  -- a leaf has one pivot, without a child, and every other node's pivots have one
  pub leaf : node.height ≡ 0 → length node.pivots ≡ 1
  pub children : All (λ pivot. IsSome pivot.child ↔ (0 < node.height)) node.pivots
