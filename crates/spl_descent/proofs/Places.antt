-- The keys of a span from its start to the end of the pivot that holds the start are all that pivot's.
use Rattle.std.proofs.Common.{◌≡◌, ℕ, suc, ◌+◌, ◌<◌, Bool, true, false, not, nat_lt, if◌then◌else◌, List, [], ◌∷◌, Option, Some, None, length, refl, sym, ap, ◌∙◌, arith}
use Rattle.std.proofs.lemmas.Bool.{false≢true, lt-ltb, ltb-true}
use Rattle.std.proofs.lemmas.List.Elements.{All-get_or}
use Rattle.spl_message.specs.declared.span.Span.{Span}
use Rattle.spl_message.specs.Key.{is_below}
use Rattle.spl_message.specs.Span.{InSpan, is_from, is_before, in_span}
use Rattle.spl_message.proofs.Spans.{below_trans, below_from, in_span_with_end}
use Rattle.spl_node.specs.declared.pivot.Pivot.{Pivot}
use Rattle.spl_node.specs.Node.{NodeData, bare, pivot_at, pivot_for, span_of, StartsBefore, StartsIn, IsNode}
use Rattle.spl_node.proofs.Starts.{both, first_of_both, second_of_both}
use Rattle.spl_node.proofs.Places.{pivot_for_within, pivot_holds}
use Rattle.spl_state.specs.Actors.{pivot_from, StartsInside, LiesUnder}
use Rattle.spl_descent.specs.Descents.{span_under}

not_false : (b : Bool) → b ≡ false → not b ≡ true
not_false true is = absurd (false≢true (sym is))
not_false false is = refl

not_true : (b : Bool) → not b ≡ true → b ≡ false
not_true true is = absurd (false≢true is)
not_true false is = refl

by_bool : (b : Bool) (P : Type 0) → (b ≡ true → P) → (b ≡ false → P) → P
by_bool true P on_true on_false = on_true refl
by_bool false P on_true on_false = on_false refl

-- what is not below one that is not below another is not below that either
from_trans : (start : Option (List ℕ)) (middle key : List ℕ) → is_from start middle ≡ true → is_below key middle ≡ false → is_from start key ≡ true
from_trans None middle key first second = refl
from_trans (Some start) middle key first second =
    by_bool (is_below key start) (not (is_below key start) ≡ true)
    (λ below. absurd (false≢true (sym second ∙ below_from key start middle below (not_true (is_below middle start) first))))
    (λ above. not_false (is_below key start) above)

before_trans : (end : Option (List ℕ)) (middle key : List ℕ) → is_below key middle ≡ true → is_before end middle ≡ true → is_before end key ≡ true
before_trans None middle key first second = refl
before_trans (Some end) middle key first second = below_trans key middle end first second

abbrev picked : Bool → List Pivot → List ℕ → ℕ
picked b pivots start = if b then suc (pivot_for pivots start) else 0

later_pivot : (p q : Pivot) (qs : List Pivot) (start key : List ℕ) → is_below key start ≡ false → ((pivot_for (q ∷ qs) start + 1 < length (q ∷ qs) → is_from (pivot_at (q ∷ qs) (pivot_for (q ∷ qs) start + 1)).start key ≡ false) → pivot_for (q ∷ qs) key ≡ pivot_for (q ∷ qs) start) → (b : Bool) → is_from q.start start ≡ b → (picked b (q ∷ qs) start + 1 < length (p ∷ q ∷ qs) → is_from (pivot_at (p ∷ q ∷ qs) (picked b (q ∷ qs) start + 1)).start key ≡ false) → pivot_for (p ∷ q ∷ qs) key ≡ picked b (q ∷ qs) start
later_pivot p q qs start key from lower true is ends =
    let m = pivot_for (q ∷ qs) start in
    let step : suc m + 1 ≡ suc (m + 1) = omega arith in
    ap (λ (b : Bool). if b then suc (pivot_for (q ∷ qs) key) else 0) (from_trans q.start start key is from)
    ∙ ap suc (lower (λ within. ap (λ (n : ℕ). is_from (pivot_at (p ∷ q ∷ qs) n).start key) (sym step) ∙ ends (omega arith)))
later_pivot p q qs start key from lower false is ends = ap (λ (b : Bool). if b then suc (pivot_for (q ∷ qs) key) else 0) (ends (omega arith))

-- a key from a start on, and below the next pivot's, is under the pivot of that start
same_pivot : (pivots : List Pivot) (start key : List ℕ) → is_below key start ≡ false → (pivot_for pivots start + 1 < length pivots → is_from (pivot_at pivots (pivot_for pivots start + 1)).start key ≡ false) → pivot_for pivots key ≡ pivot_for pivots start
same_pivot [] start key from ends = refl
same_pivot (p ∷ []) start key from ends = refl
same_pivot (p ∷ q ∷ qs) start key from ends =
    later_pivot p q qs start key from (λ ends. same_pivot (q ∷ qs) start key from ends) (is_from q.start start) refl ends

-- a key below the second pivot's start is under the first pivot
first_pivot : (pivots : List Pivot) (key : List ℕ) → (1 < length pivots → is_from (pivot_at pivots 1).start key ≡ false) → pivot_for pivots key ≡ 0
first_pivot [] key ends = refl
first_pivot (p ∷ []) key ends = refl
first_pivot (p ∷ q ∷ qs) key ends = ap (λ (b : Bool). if b then suc (pivot_for (q ∷ qs) key) else 0) (ends (omega arith))

pub pivot_from_within : (pivots : List Pivot) (start : Option (List ℕ)) → 0 < length pivots → pivot_from pivots start < length pivots
pivot_from_within pivots None some = some
pivot_from_within pivots (Some start) some = pivot_for_within pivots start some

-- the start of a later pivot is a key, and a key below it is not from it on
not_from : (before start : Option (List ℕ)) (key : List ℕ) → StartsBefore before start → is_before start key ≡ true → is_from start key ≡ false
not_from before None key rises under = absurd (false≢true (sym rises))
not_from before (Some start) key rises under = ap not under

module _ (node : NodeData) (is : IsNode node) where
  ends_here : (i : ℕ) (key : List ℕ) → is_before (span_of node i).to key ≡ true → i + 1 < length node.pivots → is_from (pivot_at node.pivots (i + 1)).start key ≡ false
  ends_here i key under more =
      let here : (span_of node i).to ≡ (pivot_at node.pivots (i + 1)).start = ap (λ (b : Bool). if b then (pivot_at node.pivots (i + 1)).start else node.range.to) (lt-ltb (i + 1) (length node.pivots) more) in
      not_from (pivot_at node.pivots i).start (pivot_at node.pivots (i + 1)).start key (is.rising i more) (ap (λ (end : Option (List ℕ)). is_before end key) (sym here) ∙ under)

  -- what is before the end of a pivot is before the end of the node
  before_end : (i : ℕ) (key : List ℕ) → is_before (span_of node i).to key ≡ true → is_before node.range.to key ≡ true
  before_end i key under = by (nat_lt (i + 1) (length node.pivots)) refl under
    where
      next_inside : (start : Option (List ℕ)) → StartsIn node.range start → StartsBefore (pivot_at node.pivots i).start start → is_before start key ≡ true → is_before node.range.to key ≡ true
      next_inside None inside rises below = absurd (false≢true (sym rises))
      next_inside (Some start) inside rises below = before_trans node.range.to start key below (second_of_both (is_from node.range.from start) (is_before node.range.to start) inside)

      by : (b : Bool) → nat_lt (i + 1) (length node.pivots) ≡ b → is_before (if b then (pivot_at node.pivots (i + 1)).start else node.range.to) key ≡ true → is_before node.range.to key ≡ true
      by true more below =
          let within = ltb-true (i + 1) (length node.pivots) more in
          next_inside (pivot_at node.pivots (i + 1)).start (All-get_or (λ (p : Pivot). StartsIn node.range p.start) node.pivots (i + 1) bare within is.within) (is.rising i within) below
      by false last below = below

  from_range : (start : Option (List ℕ)) (key : List ℕ) → StartsInside node.range start → is_from start key ≡ true → is_from node.range.from key ≡ true
  from_range None key inside from = ap (λ (s : Option (List ℕ)). is_from s key) inside
  from_range (Some start) key inside from =
      from_trans node.range.from start key (first_of_both (is_from node.range.from start) (is_before node.range.to start) inside) (not_true (is_below key start) from)

  pivot_same : (start : Option (List ℕ)) (key : List ℕ) → is_from start key ≡ true → is_before (span_of node (pivot_from node.pivots start)).to key ≡ true → pivot_for node.pivots key ≡ pivot_from node.pivots start
  pivot_same None key from under = first_pivot node.pivots key (λ more. ends_here 0 key under more)
  pivot_same (Some start) key from under =
      same_pivot node.pivots start key (not_true (is_below key start) from) (λ more. ends_here (pivot_for node.pivots start) key under more)

  pub lies_under : (span : Span) → StartsInside node.range span.from → LiesUnder node (span_under node span)
  lies_under span inside = record {
    start = inside;
    within = λ key in_it.
        both _ _ (from_range span.from key inside (first_of_both _ _ in_it))
        (before_end (pivot_from node.pivots span.from) key (ends key in_it));
    pivot = λ key in_it. pivot_same span.from key (first_of_both _ _ in_it) (ends key in_it);
  }
    where
      end : Option (List ℕ)
      end = (span_of node (pivot_from node.pivots span.from)).to

      ends : (key : List ℕ) → InSpan (span_under node span) key → is_before end key ≡ true
      ends key in_it =
          second_of_both (in_span span key) (is_before end key) (sym (in_span_with_end span.from span.to end key) ∙ in_it)

  -- a start in the node lies in the part of its pivot
  pub starts_in_part : (start : Option (List ℕ)) → StartsInside node.range start → StartsInside (span_of node (pivot_from node.pivots start)) start
  starts_in_part None inside = is.begin ∙ inside
  starts_in_part (Some start) inside = pivot_holds node start is inside

-- a key of the lowered span is a key of the span
pub in_under : (node : NodeData) (span : Span) (key : List ℕ) → InSpan (span_under node span) key → InSpan span key
in_under node span key in_it =
    let end = (span_of node (pivot_from node.pivots span.from)).to in
    first_of_both (in_span span key) (is_before end key) (sym (in_span_with_end span.from span.to end key) ∙ in_it)
