-- The pivot of a key is the one whose part of the range holds the key.
use Rattle.std.proofs.Common.{◌≡◌, ℕ, zero, suc, ◌+◌, ◌<◌, ◌≤◌, Bool, true, false, not, nat_lt, if◌then◌else◌, List, [], ◌∷◌, Option, Some, None, length, drop, refl, sym, ap, ◌∙◌, inl, inr, arith}
use Rattle.std.proofs.lemmas.Bool.{cases_lt, lt-ltb, ltb-true, false≢true}
use Rattle.spl_message.specs.Key.{is_below}
use Rattle.spl_message.specs.Span.{is_from, is_before, InSpan}
use Rattle.spl_message.proofs.Spans.{below_trans}
use Rattle.spl_node.specs.declared.pivot.Pivot.{Pivot}
use Rattle.spl_node.specs.Node.{NodeData, pivot_at, pivot_for, span_of, is_past, AreRising, IsNode}
use Rattle.spl_node.proofs.Starts.{both, first_of_both, second_of_both, later_start, rising_past}
use Rattle.spl_node.proofs.Walks.{before_start, pivot_for_more, pivot_for_end}

pub choose : (b : Bool) (m n : ℕ) (P : ℕ → Type 0) → (b ≡ true → P m) → (b ≡ false → P n) → P (if b then m else n)
choose true m n P on_true on_false = on_true refl
choose false m n P on_true on_false = on_false refl

pub pivot_for_within : (pivots : List Pivot) (key : List ℕ) → 0 < length pivots → pivot_for pivots key < length pivots
pivot_for_within [] key some = absurd (omega arith)
pivot_for_within (p ∷ []) key some = some
pivot_for_within (p ∷ q ∷ qs) key some =
    choose (is_from q.start key) (suc (pivot_for (q ∷ qs) key)) 0 (λ n. n < length (p ∷ q ∷ qs))
    (λ is. let rest = pivot_for_within (q ∷ qs) key (omega arith) in omega arith)
    (λ other. omega arith)

started : (pivots : List Pivot) (key : List ℕ) → is_from (pivot_at pivots 0).start key ≡ true → is_from (pivot_at pivots (pivot_for pivots key)).start key ≡ true
started [] key first = first
started (p ∷ []) key first = first
started (p ∷ q ∷ qs) key first =
    choose (is_from q.start key) (suc (pivot_for (q ∷ qs) key)) 0 (λ n. is_from (pivot_at (p ∷ q ∷ qs) n).start key ≡ true)
    (λ is. started (q ∷ qs) key is)
    (λ other. first)

pub next_is_later : (pivots : List Pivot) (key : List ℕ) → pivot_for pivots key + 1 < length pivots → is_from (pivot_at pivots (pivot_for pivots key + 1)).start key ≡ false
next_is_later [] key within = absurd (omega arith)
next_is_later (p ∷ []) key within = absurd (omega arith)
next_is_later (p ∷ q ∷ qs) key within =
    choose (is_from q.start key) (suc (pivot_for (q ∷ qs) key)) 0 (λ n. n + 1 < length (p ∷ q ∷ qs) → is_from (pivot_at (p ∷ q ∷ qs) (n + 1)).start key ≡ false)
    (λ is within.
    let m = pivot_for (q ∷ qs) key in
    let step : suc m + 1 ≡ suc (m + 1) = omega arith in
    ap (λ (n : ℕ). is_from (pivot_at (p ∷ q ∷ qs) n).start key) step ∙ next_is_later (q ∷ qs) key (omega arith))
    (λ other within. other)
    within

end_choice : (b : Bool) (s t : Option (List ℕ)) (key : List ℕ) → (b ≡ true → is_before s key ≡ true) → is_before t key ≡ true → is_before (if b then s else t) key ≡ true
end_choice true s t key on_true on_false = on_true refl
end_choice false s t key on_true on_false = on_false

pub pivot_holds : (node : NodeData) (key : List ℕ) → IsNode node → InSpan node.range key → InSpan (span_of node (pivot_for node.pivots key)) key
pivot_holds node key is inside =
    let i = pivot_for node.pivots key in
    both _ _
    (started node.pivots key (ap (λ s. is_from s key) is.begin ∙ first_of_both (is_from node.range.from key) (is_before node.range.to key) inside))
    (end_choice (nat_lt (i + 1) (length node.pivots)) (pivot_at node.pivots (i + 1)).start node.range.to key
    (λ more. before_start (pivot_at node.pivots (i + 1)).start key (next_is_later node.pivots key (ltb-true (i + 1) (length node.pivots) more)))
    (second_of_both (is_from node.range.from key) (is_before node.range.to key) inside))

-- each pivot up to that of the key starts at the key or below it
pub started_by : (pivots : List Pivot) (key : List ℕ) (j : ℕ) → 0 < j → j ≤ pivot_for pivots key → is_from (pivot_at pivots j).start key ≡ true
started_by [] key j positive upto = absurd (omega arith)
started_by (p ∷ []) key j positive upto = absurd (omega arith)
started_by (p ∷ q ∷ qs) key zero positive upto = absurd (omega arith)
started_by (p ∷ q ∷ qs) key (suc zero) positive upto =
    choose (is_from q.start key) (suc (pivot_for (q ∷ qs) key)) 0 (λ n. 1 ≤ n → is_from q.start key ≡ true)
    (λ is upto. is)
    (λ other upto. absurd (omega arith))
    upto
started_by (p ∷ q ∷ qs) key (suc (suc j)) positive upto =
    choose (is_from q.start key) (suc (pivot_for (q ∷ qs) key)) 0 (λ n. suc (suc j) ≤ n → is_from (pivot_at (q ∷ qs) (suc j)).start key ≡ true)
    (λ is upto. started_by (q ∷ qs) key (suc j) (omega arith) (omega arith))
    (λ other upto. absurd (omega arith))
    upto

walk : (pivots : List Pivot) (key : List ℕ) (i n j : ℕ) → j + n ≡ i → i < length pivots → ((j : ℕ) → 0 < j → j ≤ i → is_from (pivot_at pivots j).start key ≡ true) → (i + 1 < length pivots → is_from (pivot_at pivots (i + 1)).start key ≡ false) → pivot_for (drop j pivots) key ≡ n
walk pivots key i zero j sum within started ends =
    pivot_for_end pivots key j (omega arith) (λ more.
    ap (λ (m : ℕ). is_from (pivot_at pivots (m + 1)).start key) (omega arith) ∙ ends (omega arith))
walk pivots key i (suc n) j sum within started ends =
    pivot_for_more pivots key j (omega arith) (started (j + 1) (omega arith) (omega arith))
    ∙ ap suc (walk pivots key i n (j + 1) (omega arith) within started ends)

-- that one alone
pub pivot_for_is : (pivots : List Pivot) (key : List ℕ) (i : ℕ) → i < length pivots → ((j : ℕ) → 0 < j → j ≤ i → is_from (pivot_at pivots j).start key ≡ true) → (i + 1 < length pivots → is_from (pivot_at pivots (i + 1)).start key ≡ false) → pivot_for pivots key ≡ i
pivot_for_is pivots key i within started ends = walk pivots key i i 0 (omega arith) within started ends

pub not_then_below : (b : Bool) → not b ≡ true → b ≡ false
not_then_below true h = absurd (false≢true h)
not_then_below false h = refl

-- a start that another one is past is at a key that is at the other one or above it
from_past : (start : Option (List ℕ)) (s key : List ℕ) → is_past start s ≡ true → is_from (Some s) key ≡ true → is_from start key ≡ true
from_past None s key past from = refl
from_past (Some t) s key past from = by (is_below key t) refl
  where
    by : (b : Bool) → is_below key t ≡ b → not (is_below key t) ≡ true
    by true e = absurd (false≢true (sym (not_then_below _ from) ∙ below_trans key t s e past))
    by false e = ap not e

-- a key before a start is not from it on
before_not_from : (start : Option (List ℕ)) (s key : List ℕ) → start ≡ Some s → is_before start key ≡ true → is_from start key ≡ false
before_not_from start s key is before =
    ap (λ o. is_from o key) is ∙ ap not (ap (λ o. is_before o key) (sym is) ∙ before)

module _ (pivots : List Pivot) (rising : AreRising pivots) (key : List ℕ) where
  -- each pivot in front of one that starts at the key or below it does too
  pub all_started : (i : ℕ) → i < length pivots → is_from (pivot_at pivots i).start key ≡ true → (j : ℕ) → j ≤ i → is_from (pivot_at pivots j).start key ≡ true
  all_started i within from j upto = elim (cases_lt j i) [
    | inl lower ↦
        let there = later_start pivots rising i (omega arith) within in
        let past = rising_past pivots rising i there.0 within there.1 j lower in
        from_past (pivot_at pivots j).start there.0 key past (ap (λ s. is_from s key) (sym there.1) ∙ from)
    | inr same ↦ let eq : j ≡ i = omega arith in ap (λ (n : ℕ). is_from (pivot_at pivots n).start key) eq ∙ from
  ]

  pub pivot_for_started : (i : ℕ) → i < length pivots → is_from (pivot_at pivots i).start key ≡ true → (i + 1 < length pivots → is_from (pivot_at pivots (i + 1)).start key ≡ false) → pivot_for pivots key ≡ i
  pivot_for_started i within from ends = pivot_for_is pivots key i within (λ j positive upto. all_started i within from j upto) ends

end_of : (b : Bool) (s t : Option (List ℕ)) (key : List ℕ) → b ≡ true → is_before (if b then s else t) key ≡ true → is_before s key ≡ true
end_of true s t key is before = before
end_of false s t key is before = absurd (false≢true is)

-- the pivot whose part holds the key is the key's pivot
pub pivot_only : (node : NodeData) (key : List ℕ) (i : ℕ) → IsNode node → i < length node.pivots → InSpan (span_of node i) key → pivot_for node.pivots key ≡ i
pivot_only node key i is within inside =
    let from = first_of_both (is_from (span_of node i).from key) (is_before (span_of node i).to key) inside in
    let before = second_of_both (is_from (span_of node i).from key) (is_before (span_of node i).to key) inside in
    pivot_for_started node.pivots is.rising key i within from (λ more.
    let next = later_start node.pivots is.rising (i + 1) (omega arith) more in
    before_not_from (pivot_at node.pivots (i + 1)).start next.0 key next.1 (end_of (nat_lt (i + 1) (length node.pivots)) (pivot_at node.pivots (i + 1)).start node.range.to key (lt-ltb (i + 1) (length node.pivots) more) before))
