-- What a split and a new pivot do to the pivot of a key.
use Rattle.std.proofs.Common.{◌≡◌, ℕ, zero, suc, ◌+◌, ◌-◌, ◌<◌, ◌≤◌, Bool, true, false, not, List, Option, Some, None, length, map, take, drop, ◌⊎◌, refl, sym, ap, subst, ◌∙◌, inl, inr, arith, length-take, length-take-le, length-drop, get_or-take, get_or-drop}
use Rattle.std.specs.List.{insert}
use Rattle.std.proofs.lemmas.Bool.{cases_lt, cases_eq, false≢true}
use Rattle.std.proofs.lemmas.List.{length-map, get_or-map}
use Rattle.std.proofs.lemmas.List.Elements.{All-get_or}
use Rattle.std.proofs.lemmas.List.Edits.{length-insert, get_or-insert_at, get_or-insert_below, get_or-insert_above}
use Rattle.spl_message.specs.declared.span.Span.{Span}
use Rattle.spl_message.specs.Key.{is_below}
use Rattle.spl_message.specs.Span.{is_from, is_before, InSpan}
use Rattle.spl_message.proofs.Spans.{below_from, below_trans}
use Rattle.spl_bundle.specs.Numbered.{live}
use Rattle.spl_node.specs.declared.pivot.Pivot.{Pivot}
use Rattle.spl_node.specs.Node.{NodeData, bare, pivot_at, pivot_for, span_of, is_past, StartsBefore, StartsIn, AreRising, IsNode}
use Rattle.spl_node.specs.Steps.{starts_below, IsSplitAt, IsSplitKey, right_pivots, right_of, left_of}
use Rattle.spl_node.proofs.Starts.{both, first_of_both, second_of_both, not_below_self, later_start, rising_past, starts_below_is}
use Rattle.spl_node.specs.Parts.{IsAlike, IsParted}
use Rattle.spl_node.proofs.Places.{pivot_for_within, pivot_holds, started_by, next_is_later, pivot_for_is, all_started, pivot_for_started, not_then_below}

-- a key below one that is before an end is before it too
pub before_end : (end : Option (List ℕ)) (a b : List ℕ) → is_below a b ≡ true → is_before end b ≡ true → is_before end a ≡ true
before_end None a b below before = refl
before_end (Some e) a b below before = below_trans a b e below before

-- a key that is not below one of a start is of the start too
from_start : (start : Option (List ℕ)) (a b : List ℕ) → is_below a b ≡ false → is_from start b ≡ true → is_from start a ≡ true
from_start None a b above from = refl
from_start (Some s) a b above from = by (is_below a s) refl
  where
    by : (c : Bool) → is_below a s ≡ c → not (is_below a s) ≡ true
    by true e = absurd (false≢true (sym above ∙ below_from a s b e (not_then_below _ from)))
    by false e = ap not e

module _ (node : NodeData) (is : IsNode node) (at : List ℕ) (split : IsSplitKey node at) where
  -- how many pivots the left part keeps, and where the next one starts
  cut : (height : ℕ) → node.height ≡ height → IsSplitAt height node at → (k : ℕ) × (starts_below node.pivots at ≡ k) × (0 < k) × (k ≤ length node.pivots) × (k < length node.pivots → (pivot_at node.pivots k).start ≡ Some at)
  cut zero low here =
      let one = is.leaf low in
      let past : (j : ℕ) → j < 1 → is_past (pivot_at node.pivots j).start at ≡ true =
      λ j first. let none : j ≡ 0 = omega arith in ap (λ (n : ℕ). is_past (pivot_at node.pivots n).start at) none ∙ ap (λ s. is_past s at) is.begin ∙ here.0 in
      (1, starts_below_is node.pivots at 1 (omega arith) past (λ more. absurd (omega arith)), omega arith, omega arith, (λ more. absurd (omega arith)))
  cut (suc height) high here =
      (here.0, starts_below_is node.pivots at here.0 (omega arith) (rising_past node.pivots is.rising here.0 at here.2 here.3) (λ more. ap (λ s. is_past s at) here.3 ∙ not_below_self at), here.1, omega arith, (λ more. here.3))

  -- the key of a split lies in the range
  in_range : (height : ℕ) → node.height ≡ height → IsSplitAt height node at → InSpan node.range at
  in_range zero low here = here.1
  in_range (suc height) high here =
      let P : Option (List ℕ) → Type 0 = λ s. StartsIn node.range s in
      subst P here.3 (All-get_or (λ (p : Pivot). StartsIn node.range p.start) node.pivots here.0 bare here.2 is.within)

  pub split_inside : InSpan node.range at
  split_inside = in_range node.height refl split

  past_of : (height : ℕ) → node.height ≡ height → IsSplitAt height node at → is_past node.range.from at ≡ true
  past_of zero low here = here.0
  past_of (suc height) high here =
      ap (λ s. is_past s at) (sym is.begin) ∙ rising_past node.pivots is.rising here.0 at here.2 here.3 0 here.1

  -- it lies above the range's start
  pub split_past : is_past node.range.from at ≡ true
  split_past = past_of node.height refl split

  more_of : (height : ℕ) → node.height ≡ height → IsSplitAt height node at → 0 < height → starts_below node.pivots at < length node.pivots
  more_of zero low here some = absurd (omega arith)
  more_of (suc height) high here some =
      let c = cut (suc height) high here in
      let e = starts_below_is node.pivots at here.0 (omega arith) (rising_past node.pivots is.rising here.0 at here.2 here.3) (λ more. ap (λ s. is_past s at) here.3 ∙ not_below_self at) in
      let below = here.2 in
      omega arith

  -- where the pivots are cut: the next one starts at the key, and only a leaf's are not
  pub split_cut : (0 < starts_below node.pivots at) × (starts_below node.pivots at ≤ length node.pivots) × (starts_below node.pivots at < length node.pivots → (pivot_at node.pivots (starts_below node.pivots at)).start ≡ Some at) × (0 < node.height → starts_below node.pivots at < length node.pivots)
  split_cut =
      let c = cut node.height refl split in
      let k = c.1 in
      let positive = c.2 in
      let most = c.3 in
      (omega arith, omega arith, (λ more. ap (λ (n : ℕ). (pivot_at node.pivots n).start) k ∙ c.4 (omega arith)), more_of node.height refl split)

  from_range : is_from node.range.from at ≡ true
  from_range = first_of_both (is_from node.range.from at) (is_before node.range.to at) split_inside

  to_range : is_before node.range.to at ≡ true
  to_range = second_of_both (is_from node.range.from at) (is_before node.range.to at) split_inside

  module _ (key : List ℕ) where
    parted_some : InSpan node.range key → InSpan (left_of node at).range key ⊎ InSpan (right_of node at).range key
    parted_some has = by (is_below key at) refl
      where
        by : (b : Bool) → is_below key at ≡ b → InSpan (left_of node at).range key ⊎ InSpan (right_of node at).range key
        by true e = inl (both (is_from node.range.from key) (is_below key at) (first_of_both (is_from node.range.from key) (is_before node.range.to key) has) e)
        by false e = inr (both (not (is_below key at)) (is_before node.range.to key) (ap not e) (second_of_both (is_from node.range.from key) (is_before node.range.to key) has))

    pub is_left : InSpan (left_of node at).range key → is_below key at ≡ true
    is_left has = second_of_both (is_from node.range.from key) (is_below key at) has

    pub is_right : InSpan (right_of node at).range key → is_below key at ≡ false
    is_right has = not_then_below _ (first_of_both (not (is_below key at)) (is_before node.range.to key) has)

    parted_apart : InSpan (left_of node at).range key → InSpan (right_of node at).range key → ⊥
    parted_apart on_left on_right = false≢true (sym (is_right on_right) ∙ is_left on_left)

    left_within : InSpan (left_of node at).range key → InSpan node.range key
    left_within has =
        both (is_from node.range.from key) (is_before node.range.to key)
        (first_of_both (is_from node.range.from key) (is_below key at) has)
        (before_end node.range.to key at (is_left has) to_range)

    right_within : InSpan (right_of node at).range key → InSpan node.range key
    right_within has =
        both (is_from node.range.from key) (is_before node.range.to key)
        (from_start node.range.from key at (is_right has) from_range)
        (second_of_both (not (is_below key at)) (is_before node.range.to key) has)

    left_alike : InSpan (left_of node at).range key → IsAlike node (left_of node at) key
    left_alike has =
        let c = cut node.height refl split in
        let k = c.0 in
        let positive = c.2 in
        let most = c.3 in
        let i = pivot_for node.pivots key in
        let within = pivot_for_within node.pivots key is.some in
        let not_from : is_from (Some at) key ≡ false = ap not (is_left has) in
        let front : i < k = elim (cases_lt i k) [
          | inl lower ↦ lower
          | inr upper ↦ absurd (false≢true (sym not_from ∙ ap (λ s. is_from s key) (sym (c.4 (omega arith))) ∙ started_by node.pivots key k positive upper))
        ] in
        let kept = take k node.pivots in
        let long : length kept ≡ k = length-take-le k node.pivots most in
        let there : (j : ℕ) → j < k → pivot_at kept j ≡ pivot_at node.pivots j = λ j below. get_or-take k node.pivots j bare below in
        let same : pivot_for kept key ≡ i = pivot_for_is kept key i (omega arith)
        (λ j some upto. ap (λ (p : Pivot). is_from p.start key) (there j (omega arith)) ∙ started_by node.pivots key j some upto)
        (λ more. ap (λ (p : Pivot). is_from p.start key) (there (i + 1) (omega arith)) ∙ next_is_later node.pivots key (omega arith)) in
        let found : pivot_at kept (pivot_for kept key) ≡ pivot_at node.pivots i = ap (pivot_at kept) same ∙ there i front in
        let P : ℕ → Type 0 = λ n. IsAlike node (record node { range = record { from = node.range.from; to = Some at }; generation = node.generation + 1; pivots = take n node.pivots }) key in
        let alike : P k = record {
          child = ap (λ (p : Pivot). p.child) found;
          live = ap (λ (p : Pivot). live node.lists p.mark) found;
        } in
        subst P (sym c.1) alike

    right_alike_at : (height : ℕ) → node.height ≡ height → IsSplitAt height node at → is_from (Some at) key ≡ true → IsAlike node (record node { range = record { from = Some at; to = node.range.to }; generation = 0; pivots = right_pivots height node.pivots at }) key
    right_alike_at zero low here from =
        let f : Pivot → Pivot = λ pivot. record pivot { start = Some at } in
        let one = is.leaf low in
        let long = length-map node.pivots f in
        let within = pivot_for_within node.pivots key is.some in
        let within_part = pivot_for_within (map f node.pivots) key (omega arith) in
        let same : pivot_for (map f node.pivots) key ≡ pivot_for node.pivots key = omega arith in
        let found : pivot_at (map f node.pivots) (pivot_for (map f node.pivots) key) ≡ f (pivot_at node.pivots (pivot_for node.pivots key)) =
        ap (pivot_at (map f node.pivots)) same ∙ get_or-map f node.pivots (pivot_for node.pivots key) bare bare within in
        record {
          child = ap (λ (p : Pivot). p.child) found;
          live = ap (λ (p : Pivot). live node.lists p.mark) found;
        }
    right_alike_at (suc height) high here from =
        let k = here.0 in
        let c = starts_below_is node.pivots at k (omega arith) (rising_past node.pivots is.rising k at here.2 here.3) (λ more. ap (λ s. is_past s at) here.3 ∙ not_below_self at) in
        let i = pivot_for node.pivots key in
        let within = pivot_for_within node.pivots key is.some in
        let from_k : is_from (pivot_at node.pivots k).start key ≡ true = ap (λ s. is_from s key) here.3 ∙ from in
        let behind : k ≤ i = elim (cases_lt i k) [
          | inl lower ↦ absurd (false≢true (sym (next_is_later node.pivots key (omega arith)) ∙ all_started node.pivots is.rising key k here.2 from_k (i + 1) (omega arith)))
          | inr upper ↦ upper
        ] in
        let part = drop k node.pivots in
        let long = length-drop k node.pivots in
        let there : (j : ℕ) → pivot_at part j ≡ pivot_at node.pivots (k + j) = λ j. get_or-drop k node.pivots j bare in
        let same : pivot_for part key ≡ i - k = pivot_for_is part key (i - k) (omega arith)
        (λ j some upto. ap (λ (p : Pivot). is_from p.start key) (there j) ∙ started_by node.pivots key (k + j) (omega arith) (omega arith))
        (λ more. ap (λ (p : Pivot). is_from p.start key) (there (i - k + 1)) ∙ ap (λ (n : ℕ). is_from (pivot_at node.pivots n).start key) (omega arith) ∙ next_is_later node.pivots key (omega arith)) in
        let found : pivot_at part (pivot_for part key) ≡ pivot_at node.pivots i =
        ap (pivot_at part) same ∙ there (i - k) ∙ ap (pivot_at node.pivots) (omega arith) in
        let P : ℕ → Type 0 = λ n. IsAlike node (record node { range = record { from = Some at; to = node.range.to }; generation = 0; pivots = drop n node.pivots }) key in
        let alike : P k = record {
          child = ap (λ (p : Pivot). p.child) found;
          live = ap (λ (p : Pivot). live node.lists p.mark) found;
        } in
        subst P (sym c) alike

    right_alike : InSpan (right_of node at).range key → IsAlike node (right_of node at) key
    right_alike has = right_alike_at node.height refl split (ap not (is_right has))

  pub split_parts : IsParted node (left_of node at) (right_of node at)
  split_parts = record {
    some = parted_some;
    apart = parted_apart;
    in_left = λ key has. (left_within key has, left_alike key has);
    in_right = λ key has. (right_within key has, right_alike key has);
  }

-- a new pivot takes the keys from its start on of the pivot before it, and no others
module _ (node : NodeData) (is : IsNode node) (i : ℕ) (pivot : Pivot) (s : List ℕ) (starts : pivot.start ≡ Some s) (within : i < length node.pivots) (rising : AreRising (insert node.pivots (i + 1) pivot)) (key : List ℕ) (inside : InSpan node.range key) where
  long : length (insert node.pivots (i + 1) pivot) ≡ length node.pivots + 1
  long = length-insert node.pivots (i + 1) pivot (omega arith)

  older : (j : ℕ) → j ≤ i → pivot_at (insert node.pivots (i + 1) pivot) j ≡ pivot_at node.pivots j
  older j upto = get_or-insert_below node.pivots (i + 1) pivot bare j (omega arith) (omega arith)

  here : pivot_at (insert node.pivots (i + 1) pivot) (i + 1) ≡ pivot
  here = get_or-insert_at node.pivots (i + 1) pivot bare (omega arith)

  newer : (j : ℕ) → i < j → pivot_at (insert node.pivots (i + 1) pivot) (j + 1) ≡ pivot_at node.pivots j
  newer j behind = get_or-insert_above node.pivots (i + 1) pivot bare j (omega arith) (omega arith)

  found_within : pivot_for node.pivots key < length node.pivots
  found_within = pivot_for_within node.pivots key is.some

  started : is_from (pivot_at node.pivots (pivot_for node.pivots key)).start key ≡ true
  started =
      let span = span_of node (pivot_for node.pivots key) in
      first_of_both (is_from span.from key) (is_before span.to key) (pivot_holds node key is inside)

  pub inserted_here : pivot_for node.pivots key ≡ i → is_from (Some s) key ≡ true → pivot_at (insert node.pivots (i + 1) pivot) (pivot_for (insert node.pivots (i + 1) pivot) key) ≡ pivot
  inserted_here found from =
      let pivots = insert node.pivots (i + 1) pivot in
      let grown = long in
      let same : pivot_for pivots key ≡ i + 1 =
      pivot_for_started pivots rising key (i + 1) (omega arith) (ap (λ (p : Pivot). is_from p.start key) here ∙ ap (λ o. is_from o key) starts ∙ from)
      (λ more. ap (λ (p : Pivot). is_from p.start key) (newer (i + 1) (omega arith)) ∙ ap (λ (n : ℕ). is_from (pivot_at node.pivots (n + 1)).start key) (sym found) ∙ next_is_later node.pivots key (omega arith)) in
      ap (pivot_at pivots) same ∙ here

  pub inserted_below : pivot_for node.pivots key ≡ i → is_from (Some s) key ≡ false → pivot_at (insert node.pivots (i + 1) pivot) (pivot_for (insert node.pivots (i + 1) pivot) key) ≡ pivot_at node.pivots (pivot_for node.pivots key)
  inserted_below found below =
      let pivots = insert node.pivots (i + 1) pivot in
      let grown = long in
      let same : pivot_for pivots key ≡ i =
      pivot_for_started pivots rising key i (omega arith) (ap (λ (p : Pivot). is_from p.start key) (older i (omega arith)) ∙ ap (λ (n : ℕ). is_from (pivot_at node.pivots n).start key) (sym found) ∙ started)
      (λ more. ap (λ (p : Pivot). is_from p.start key) here ∙ ap (λ o. is_from o key) starts ∙ below) in
      ap (pivot_at pivots) same ∙ older i (omega arith) ∙ ap (pivot_at node.pivots) (sym found)

  pub inserted_elsewhere : (pivot_for node.pivots key ≡ i → ⊥) → pivot_at (insert node.pivots (i + 1) pivot) (pivot_for (insert node.pivots (i + 1) pivot) key) ≡ pivot_at node.pivots (pivot_for node.pivots key)
  inserted_elsewhere other =
      let pivots = insert node.pivots (i + 1) pivot in
      let grown = long in
      let j = pivot_for node.pivots key in
      let inside_j = found_within in
      elim (cases_lt j i) [
        | inl lower ↦
            let same : pivot_for pivots key ≡ j =
            pivot_for_started pivots rising key j (omega arith) (ap (λ (p : Pivot). is_from p.start key) (older j (omega arith)) ∙ started)
            (λ more. ap (λ (p : Pivot). is_from p.start key) (older (j + 1) (omega arith)) ∙ next_is_later node.pivots key (omega arith)) in
            ap (pivot_at pivots) same ∙ older j (omega arith)
        | inr upper ↦
            let behind : i < j = elim (cases_lt i j) [
              | inl lower ↦ lower
              | inr equal ↦ absurd (other (omega arith))
            ] in
            let same : pivot_for pivots key ≡ j + 1 =
            pivot_for_started pivots rising key (j + 1) (omega arith) (ap (λ (p : Pivot). is_from p.start key) (newer j behind) ∙ started)
            (λ more. ap (λ (p : Pivot). is_from p.start key) (newer (j + 1) (omega arith)) ∙ next_is_later node.pivots key (omega arith)) in
            ap (pivot_at pivots) same ∙ newer j behind
      ]

both_starts : (a b c d : Option (List ℕ)) → a ≡ c → b ≡ d → StartsBefore c d → StartsBefore a b
both_starts a b c d first second before =
    let P : Option (List ℕ) → Type 0 = λ x. StartsBefore x b in
    let Q : Option (List ℕ) → Type 0 = λ y. StartsBefore c y in
    subst P (sym first) (subst Q (sym second) before)

-- a pivot that starts between two others may stand between them
pub inserted_rising : (pivots : List Pivot) (i : ℕ) (pivot : Pivot) (s : List ℕ) → pivot.start ≡ Some s → i < length pivots → AreRising pivots → is_past (pivot_at pivots i).start s ≡ true → (i + 1 < length pivots → is_before (pivot_at pivots (i + 1)).start s ≡ true) → AreRising (insert pivots (i + 1) pivot)
inserted_rising pivots i pivot s starts within rising past ends k below =
    let after = insert pivots (i + 1) pivot in
    let long = length-insert pivots (i + 1) pivot (omega arith) in
    let start : ℕ → Option (List ℕ) = λ n. (pivot_at pivots n).start in
    let older : (j : ℕ) → j ≤ i → (pivot_at after j).start ≡ start j = λ j upto. ap (λ (p : Pivot). p.start) (get_or-insert_below pivots (i + 1) pivot bare j (omega arith) (omega arith)) in
    let here : (pivot_at after (i + 1)).start ≡ Some s = ap (λ (p : Pivot). p.start) (get_or-insert_at pivots (i + 1) pivot bare (omega arith)) ∙ starts in
    let newer : (j : ℕ) → i < j → (pivot_at after (j + 1)).start ≡ start j = λ j behind. ap (λ (p : Pivot). p.start) (get_or-insert_above pivots (i + 1) pivot bare j (omega arith) (omega arith)) in
    elim (cases_lt k i) [
      | inl lower ↦ both_starts _ _ _ _ (older k (omega arith)) (older (k + 1) (omega arith)) (rising k (omega arith))
      | inr upper ↦ elim (cases_eq k i) [
        | inl same ↦
            both_starts _ _ _ _ (ap (λ (n : ℕ). (pivot_at after n).start) same ∙ older i (omega arith)) (ap (λ (n : ℕ). (pivot_at after (n + 1)).start) same ∙ here) past
        | inr other ↦ elim (cases_eq k (i + 1)) [
          | inl same ↦
              let next = later_start pivots rising (i + 1) (omega arith) (omega arith) in
              both_starts _ _ _ _ (ap (λ (n : ℕ). (pivot_at after n).start) same ∙ here) (ap (λ (n : ℕ). (pivot_at after (n + 1)).start) same ∙ newer (i + 1) (omega arith) ∙ next.1) (ap (λ o. is_before o s) (sym next.1) ∙ ends (omega arith))
          | inr more ↦
              let j = k - 1 in
              let at : k ≡ j + 1 = omega arith in
              both_starts _ _ _ _ (ap (λ (n : ℕ). (pivot_at after n).start) at ∙ newer j (omega arith)) (ap (λ (n : ℕ). (pivot_at after (n + 1)).start) at ∙ newer (j + 1) (omega arith)) (rising j (omega arith))
        ]
      ]
    ]
