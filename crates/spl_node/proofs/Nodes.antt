-- What holds of every node holds of the data after each call.
use Rattle.std.proofs.Common.{◌≡◌, ℕ, zero, suc, ◌+◌, ◌-◌, ◌<◌, ◌≤◌, max, true, List, ◌∷◌, ◌++◌, Some, Option, IsSome, length, map, set, take, drop, refl, sym, ap, subst, ◌∙◌, inl, inr, arith, length-take, length-drop, get_or-take, get_or-drop, length-set, get_or-set_same, get_or-set_other}
use Rattle.std.specs.List.{insert}
use Rattle.std.specs.Prelude.{◌↔◌, All}
use Rattle.std.proofs.lemmas.List.{length-map, get_or-map, take_at}
use Rattle.std.proofs.lemmas.List.Edits.{length-insert, get_or-insert_below}
use Rattle.std.proofs.lemmas.List.Elements.{All-get_or, All-from_get_or, All-append, All-cons, All-take, All-drop, All-map}
use Rattle.std.proofs.lemmas.Bool.{cases_eq}
use Rattle.spl_message.specs.declared.span.Span.{Span}
use Rattle.spl_message.specs.Key.{is_below}
use Rattle.spl_message.specs.Span.{InSpan}
use Rattle.spl_bundle.specs.Numbered.{Numbered, next_of, dropped_below}
use Rattle.spl_node.specs.declared.pivot.Pivot.{Pivot}
use Rattle.spl_node.specs.declared.node.TheConstants.{MAX_PIVOTS}
use Rattle.spl_node.specs.Node.{NodeData, bare, pivot_at, is_past, StartsBefore, StartsIn, AreRising, IsMark, IsNode}
use Rattle.spl_node.specs.Steps.{with_pivots, with_mark, at_mark, kept_from, trimmed, starts_below, IsSplitAt, IsSplitKey, right_pivots, left_of}
use Rattle.spl_node.proofs.Starts.{not_below_self, not_below_back, rising_past, later_start, starts_below_is, starts_in_left, starts_in_right}

-- what an edit writes back to places that are all overwritten
pub refilled : (n : ℕ) (new rest : List Pivot) → length new ≡ n → take n (new ++ rest) ≡ new
refilled n new rest full = take_at new rest n full

All-insert : (P : Pivot → Type 0) (pivots : List Pivot) (at : ℕ) (pivot : Pivot) → All P pivots → P pivot → All P (insert pivots at pivot)
All-insert P pivots at pivot each here =
    All-append P (take at pivots) (pivot ∷ drop at pivots) (All-take P at pivots each) (All-cons P pivot (drop at pivots) here (All-drop P at pivots each))

module _ (node : NodeData) (is : IsNode node) where
  pub inserted_node : (at : ℕ) (pivot : Pivot) → 1 ≤ node.height → 1 ≤ at → at ≤ length node.pivots → length node.pivots < MAX_PIVOTS → IsSome pivot.child → StartsIn node.range pivot.start → AreRising (insert node.pivots at pivot) → IsMark node.lists pivot.mark → IsNode (with_pivots node (insert node.pivots at pivot))
  inserted_node at pivot high above within room child start rising mark =
      let long = length-insert node.pivots at pivot within in
      record {
        some = omega arith;
        few = omega arith;
        begin = ap (λ (p : Pivot). p.start) (get_or-insert_below node.pivots at pivot bare 0 (omega arith) within) ∙ is.begin;
        rising = rising;
        within = All-insert (λ p. StartsIn node.range p.start) node.pivots at pivot is.within start;
        marks = All-insert (λ p. IsMark node.lists p.mark) node.pivots at pivot is.marks mark;
        leaf = λ low. absurd (omega arith);
        children = All-insert (λ p. IsSome p.child ↔ (0 < node.height)) node.pivots at pivot is.children ((λ some. omega arith), (λ positive. child));
      }

  -- other marks over other bundles
  pub remarked_node : (pivots : List Pivot) (lists : Numbered) → length pivots ≡ length node.pivots → ((k : ℕ) → k < length node.pivots → (pivot_at pivots k).start ≡ (pivot_at node.pivots k).start) → ((k : ℕ) → k < length node.pivots → (pivot_at pivots k).child ≡ (pivot_at node.pivots k).child) → ((k : ℕ) → k < length node.pivots → IsMark lists (pivot_at pivots k).mark) → IsNode (record node { pivots = pivots; lists = lists })
  remarked_node pivots lists long starts children marks = record {
    some = let some = is.some in omega arith;
    few = let few = is.few in omega arith;
    begin = starts 0 is.some ∙ is.begin;
    rising = λ i within.
        let P : Option (List ℕ) → Type 0 = λ s. StartsBefore s (pivot_at pivots (i + 1)).start in
        let Q : Option (List ℕ) → Type 0 = λ s. StartsBefore (pivot_at node.pivots i).start s in
        subst P (sym (starts i (omega arith))) (subst Q (sym (starts (i + 1) (omega arith))) (is.rising i (omega arith)));
    within = All-from_get_or (λ (p : Pivot). StartsIn node.range p.start) pivots bare (λ k within.
        let P : Option (List ℕ) → Type 0 = λ s. StartsIn node.range s in
        subst P (sym (starts k (omega arith))) (All-get_or (λ (p : Pivot). StartsIn node.range p.start) node.pivots k bare (omega arith) is.within));
    marks = All-from_get_or (λ (p : Pivot). IsMark lists p.mark) pivots bare (λ k within. marks k (omega arith));
    leaf = λ low. long ∙ is.leaf low;
    children = All-from_get_or (λ (p : Pivot). IsSome p.child ↔ (0 < node.height)) pivots bare (λ k within.
        let P : Option ℕ → Type 0 = λ c. IsSome c ↔ (0 < node.height) in
        subst P (sym (children k (omega arith))) (All-get_or (λ (p : Pivot). IsSome p.child ↔ (0 < node.height)) node.pivots k bare (omega arith) is.children));
  }

  mark_at : (k : ℕ) → k < length node.pivots → IsMark node.lists (pivot_at node.pivots k).mark
  mark_at k within = All-get_or (λ (p : Pivot). IsMark node.lists p.mark) node.pivots k bare within is.marks

  pub marked_node : (i mark : ℕ) → i < length node.pivots → (pivot_at node.pivots i).mark ≤ mark → mark ≤ next_of node.lists → IsNode (with_mark node i mark)
  marked_node i mark within above made =
      let new = at_mark (pivot_at node.pivots i) mark in
      let pivots = set node.pivots i new in
      let here : pivot_at pivots i ≡ new = get_or-set_same node.pivots i new bare within in
      let there : (k : ℕ) → (k ≡ i → ⊥) → pivot_at pivots k ≡ pivot_at node.pivots k = λ k other. get_or-set_other node.pivots i k new bare other in
      remarked_node pivots node.lists (length-set node.pivots i new)
      (λ k below. elim (cases_eq k i) [
        | inl same ↦ ap (λ (n : ℕ). (pivot_at pivots n).start) same ∙ ap (λ (p : Pivot). p.start) here ∙ ap (λ (n : ℕ). (pivot_at node.pivots n).start) (sym same)
        | inr other ↦ ap (λ (p : Pivot). p.start) (there k other)
      ])
      (λ k below. elim (cases_eq k i) [
        | inl same ↦ ap (λ (n : ℕ). (pivot_at pivots n).child) same ∙ ap (λ (p : Pivot). p.child) here ∙ ap (λ (n : ℕ). (pivot_at node.pivots n).child) (sym same)
        | inr other ↦ ap (λ (p : Pivot). p.child) (there k other)
      ])
      (λ k below. elim (cases_eq k i) [
        | inl same ↦
            let was = mark_at i within in
            let now : (pivot_at pivots k).mark ≡ mark = ap (λ (n : ℕ). (pivot_at pivots n).mark) same ∙ ap (λ (p : Pivot). p.mark) here in
            (omega arith, omega arith)
        | inr other ↦
            let was = mark_at k below in
            let now = ap (λ (p : Pivot). p.mark) (there k other) in
            (omega arith, omega arith)
      ])

  pub trimmed_node : node.lists.first ≤ kept_from node → kept_from node ≤ next_of node.lists → IsNode (trimmed node)
  trimmed_node from made =
      let raise : Pivot → Pivot = λ pivot. at_mark pivot (max pivot.mark (kept_from node)) in
      let at : (k : ℕ) → k < length node.pivots → pivot_at (map raise node.pivots) k ≡ raise (pivot_at node.pivots k) = λ k below. get_or-map raise node.pivots k bare bare below in
      let long = length-drop (kept_from node - node.lists.first) node.lists.bundles in
      remarked_node (map raise node.pivots) (dropped_below node.lists (kept_from node)) (length-map node.pivots raise)
      (λ k below. ap (λ (p : Pivot). p.start) (at k below))
      (λ k below. ap (λ (p : Pivot). p.child) (at k below))
      (λ k below.
      let was = mark_at k below in
      let now = ap (λ (p : Pivot). p.mark) (at k below) in
      (omega arith, omega arith))

  -- where a split cuts the pivots
  cut_past : (height : ℕ) (key : List ℕ) → node.height ≡ height → IsSplitAt height node key → (k : ℕ) × (starts_below node.pivots key ≡ k) × (0 < k) × (k ≤ length node.pivots) × ((j : ℕ) → j < k → is_past (pivot_at node.pivots j).start key ≡ true)
  cut_past zero key low split =
      let one = is.leaf low in
      let past : (j : ℕ) → j < 1 → is_past (pivot_at node.pivots j).start key ≡ true =
      λ j first. let none : j ≡ 0 = omega arith in ap (λ (n : ℕ). is_past (pivot_at node.pivots n).start key) none ∙ ap (λ s. is_past s key) is.begin ∙ split.0 in
      (1, starts_below_is node.pivots key 1 (omega arith) past (λ more. absurd (omega arith)), omega arith, omega arith, past)
  cut_past (suc height) key high split =
      let past = rising_past node.pivots is.rising split.0 key split.2 split.3 in
      (split.0, starts_below_is node.pivots key split.0 (omega arith) past (λ more. ap (λ s. is_past s key) split.3 ∙ not_below_self key), split.1, omega arith, past)

  -- the pivots in front of the cut part the keys below it
  pub left_node : (key : List ℕ) → IsSplitKey node key → IsNode (left_of node key)
  left_node key split =
      let cut = cut_past node.height key refl split in
      let k = cut.0 in
      let kept = take k node.pivots in
      let P : List Pivot → Type 0 = λ pivots. IsNode (record node { range = record { from = node.range.from; to = Some key }; generation = node.generation + 1; pivots = pivots }) in
      let long : length kept ≡ k = length-take k node.pivots ∙ omega (arith, cut.3) in
      let at : (j : ℕ) → j < k → pivot_at kept j ≡ pivot_at node.pivots j = λ j below. get_or-take k node.pivots j bare below in
      let few = is.few in
      let positive = cut.2 in
      let whole = cut.3 in
      let node_is : P kept = record {
        some = omega arith;
        few = omega arith;
        begin = ap (λ (p : Pivot). p.start) (at 0 positive) ∙ is.begin;
        rising = λ j within.
            let S : Option (List ℕ) → Type 0 = λ s. StartsBefore s (pivot_at kept (j + 1)).start in
            let T : Option (List ℕ) → Type 0 = λ s. StartsBefore (pivot_at node.pivots j).start s in
            subst S (sym (ap (λ (p : Pivot). p.start) (at j (omega arith)))) (subst T (sym (ap (λ (p : Pivot). p.start) (at (j + 1) (omega arith)))) (is.rising j (omega arith)));
        within = All-from_get_or (λ (p : Pivot). StartsIn (record { from = node.range.from; to = Some key }) p.start) kept bare (λ j within.
            let S : Option (List ℕ) → Type 0 = λ s. StartsIn (record { from = node.range.from; to = Some key }) s in
            subst S (sym (ap (λ (p : Pivot). p.start) (at j (omega arith)))) (starts_in_left node.range key (pivot_at node.pivots j).start (All-get_or (λ (p : Pivot). StartsIn node.range p.start) node.pivots j bare (omega arith) is.within) (cut.4 j (omega arith))));
        marks = All-take (λ (p : Pivot). IsMark node.lists p.mark) k node.pivots is.marks;
        leaf = λ low. let one = is.leaf low in omega arith;
        children = All-take (λ (p : Pivot). IsSome p.child ↔ (0 < node.height)) k node.pivots is.children;
      } in
      subst P (ap (λ (n : ℕ). take n node.pivots) (sym cut.1)) node_is

  -- the part from the key on
  abbrev pub right_with : List ℕ → List Pivot → NodeData
  right_with key pivots = record node { range = record { from = Some key; to = node.range.to }; generation = 0; pivots = pivots }

  right_leaf : (key : List ℕ) → node.height ≡ 0 → InSpan node.range key → IsNode (right_with key (map (λ (pivot : Pivot). record pivot { start = Some key }) node.pivots))
  right_leaf key low inside =
      let f : Pivot → Pivot = λ pivot. record pivot { start = Some key } in
      let pivots = map f node.pivots in
      let long = length-map node.pivots f in
      let one = is.leaf low in
      let at : (j : ℕ) → j < 1 → pivot_at pivots j ≡ f (pivot_at node.pivots j) = λ j below. get_or-map f node.pivots j bare bare (omega arith) in
      record {
        some = omega arith;
        few = let few = is.few in omega arith;
        begin = ap (λ (p : Pivot). p.start) (at 0 (omega arith));
        rising = λ j within. absurd (omega arith);
        within = All-map (λ (p : Pivot). StartsIn (record { from = Some key; to = node.range.to }) p.start) f node.pivots (λ j d within. starts_in_right node.range key key inside (not_below_self key));
        marks = All-map (λ (p : Pivot). IsMark node.lists p.mark) f node.pivots is.marks;
        leaf = λ low. omega arith;
        children = All-map (λ (p : Pivot). IsSome p.child ↔ (0 < node.height)) f node.pivots is.children;
      }

  -- a pivot from the cut on starts in the right part
  in_right : (key : List ℕ) (i j : ℕ) → i < length node.pivots → (pivot_at node.pivots i).start ≡ Some key → i ≤ j → j < length node.pivots → StartsIn (record { from = Some key; to = node.range.to }) (pivot_at node.pivots j).start
  in_right key i j below starts from within =
      let S : Option (List ℕ) → Type 0 = λ s. StartsIn (record { from = Some key; to = node.range.to }) s in
      let T : Option (List ℕ) → Type 0 = λ s. StartsIn node.range s in
      let old = All-get_or (λ (p : Pivot). StartsIn node.range p.start) node.pivots j bare within is.within in
      elim (cases_eq j i) [
        | inl same ↦
            let here : (pivot_at node.pivots j).start ≡ Some key = ap (λ (n : ℕ). (pivot_at node.pivots n).start) same ∙ starts in
            subst S (sym here) (starts_in_right node.range key key (subst T here old) (not_below_self key))
        | inr other ↦
            let there = later_start node.pivots is.rising j (omega arith) within in
            let past = rising_past node.pivots is.rising j there.0 within there.1 i (omega arith) in
            let above : is_below key there.0 ≡ true = ap (λ s. is_past s there.0) (sym starts) ∙ past in
            subst S (sym there.1) (starts_in_right node.range key there.0 (subst T there.1 old) (not_below_back key there.0 above))
      ]

  right_inner : (key : List ℕ) (i : ℕ) → 0 < node.height → i < length node.pivots → (pivot_at node.pivots i).start ≡ Some key → IsNode (right_with key (drop i node.pivots))
  right_inner key i high below starts =
      let pivots = drop i node.pivots in
      let span = let s : Span = record { from = Some key; to = node.range.to } in s in
      let long = length-drop i node.pivots in
      let at : (j : ℕ) → pivot_at pivots j ≡ pivot_at node.pivots (i + j) = λ j. get_or-drop i node.pivots j bare in
      let few = is.few in
      record {
        some = omega arith;
        few = omega arith;
        begin = ap (λ (p : Pivot). p.start) (at 0) ∙ ap (λ (n : ℕ). (pivot_at node.pivots n).start) (omega arith) ∙ starts;
        rising = λ j within.
            let S : Option (List ℕ) → Type 0 = λ s. StartsBefore s (pivot_at pivots (j + 1)).start in
            let T : Option (List ℕ) → Type 0 = λ s. StartsBefore (pivot_at node.pivots (i + j)).start s in
            let next : i + (j + 1) ≡ i + j + 1 = omega arith in
            subst S (sym (ap (λ (p : Pivot). p.start) (at j))) (subst T (sym (ap (λ (p : Pivot). p.start) (at (j + 1)) ∙ ap (λ (n : ℕ). (pivot_at node.pivots n).start) next)) (is.rising (i + j) (omega arith)));
        within = All-from_get_or (λ (p : Pivot). StartsIn span p.start) pivots bare (λ j within.
            let S : Option (List ℕ) → Type 0 = λ s. StartsIn span s in
            subst S (sym (ap (λ (p : Pivot). p.start) (at j))) (in_right key i (i + j) below starts (omega arith) (omega arith)));
        marks = All-drop (λ (p : Pivot). IsMark node.lists p.mark) i node.pivots is.marks;
        leaf = λ low. absurd (omega arith);
        children = All-drop (λ (p : Pivot). IsSome p.child ↔ (0 < node.height)) i node.pivots is.children;
      }

  pub right_node : (height : ℕ) (key : List ℕ) → node.height ≡ height → IsSplitAt height node key → IsNode (right_with key (right_pivots height node.pivots key))
  right_node zero key low split = right_leaf key low split.1
  right_node (suc height) key high split =
      let cut : starts_below node.pivots key ≡ split.0 = starts_below_is node.pivots key split.0 (omega arith) (rising_past node.pivots is.rising split.0 key split.2 split.3) (λ more. ap (λ s. is_past s key) split.3 ∙ not_below_self key) in
      let P : ℕ → Type 0 = λ n. IsNode (right_with key (drop n node.pivots)) in
      subst P (sym cut) (right_inner key split.0 (omega arith) split.2 split.3)
