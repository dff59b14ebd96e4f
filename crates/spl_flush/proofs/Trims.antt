-- What a trim leaves of a node's bundles, and of a run that stands in it.
use Rattle.std.proofs.Common.{◌≡◌, ℕ, zero, suc, ◌+◌, ◌-◌, ◌<◌, ◌≤◌, max, min, Bool, true, false, ◌||◌, nat_lt, List, [], ◌∷◌, ◌++◌, ◌⊎◌, length, fold, get_or, take, drop, refl, sym, ap, subst, ◌∙◌, inl, inr, arith, length-drop}
use Rattle.std.specs.Prelude.{All}
use Rattle.std.proofs.lemmas.Bool.{cases_lt, ltb-true, false≢true}
use Rattle.std.proofs.lemmas.Bool.Decides.{nat_tests}
use Rattle.std.proofs.lemmas.List.{drop_all, drop_more, drop-drop, get_or-drop, nil_from_length}
use Rattle.std.proofs.lemmas.List.Elements.{All-map}
use Rattle.spl_bundle.specs.Numbered.{Bundle, unmarked, bundle_at, next_of, joined}
use Rattle.spl_node.specs.declared.pivot.Pivot.{Pivot}
use Rattle.spl_node.specs.Node.{NodeData}
use Rattle.spl_node.specs.Parts.{branches_from, IsUncut}
use Rattle.spl_node.specs.Steps.{at_mark, is_empty, first_from, least_mark, kept_from, trimmed}
use Rattle.spl_node.proofs.Lives.{kept_from-le, kept_from-ge}
use Rattle.spl_node.proofs.Places.{choose}
use Rattle.spl_state.specs.declared.job.Run.{Run}
use Rattle.spl_state.specs.Bounds.{StartsFull}
use Rattle.spl_state.specs.Runs.{HoldsRun}

-- a bundle that is passed over though it is live for some pivot is empty
passed_empty : (least number : ℕ) (bundles : List Bundle) (k : ℕ)
    → number + k < first_from least number bundles → least ≤ number + k
    → (get_or bundles k (unmarked [])).branches ≡ []
passed_empty least number [] k below from = absurd (omega arith)
passed_empty least number (bundle ∷ bundles) zero below from =
    choose (nat_lt number least || is_empty bundle) (first_from least (number + 1) bundles) number
    (λ n. number + 0 < n → bundle.branches ≡ [])
    (λ passed below. by (nat_lt number least) refl passed)
    (λ ends below. absurd (omega arith))
    below
  where
    by : (b : Bool) → nat_lt number least ≡ b → (nat_lt number least || is_empty bundle) ≡ true
        → bundle.branches ≡ []
    by true e passed = let lower = ltb-true number least e in absurd (omega arith)
    by false e passed =
        let short = ltb-true (length bundle.branches) 1 (sym (ap (λ b. b || is_empty bundle) e) ∙ passed) in
        nil_from_length bundle.branches (omega arith)
passed_empty least number (bundle ∷ bundles) (suc k) below from =
    choose (nat_lt number least || is_empty bundle) (first_from least (number + 1) bundles) number
    (λ n. number + suc k < n → (get_or bundles k (unmarked [])).branches ≡ [])
    (λ passed below. passed_empty least (number + 1) bundles k (omega arith) (omega arith))
    (λ ends below. absurd (omega arith))
    below

-- what is tested of a bundle that is kept
neither : (a b : Bool) → (a || b) ≡ false → (a ≡ false) × (b ≡ false)
neither true b is = absurd (false≢true (sym is))
neither false b is = (refl, is)

not_below : (m n : ℕ) → nat_lt m n ≡ false → n ≤ m
not_below m n is = grind (arith, nat_tests)

from_above : (least number : ℕ) (bundles : List Bundle) → number ≤ first_from least number bundles
from_above least number [] = omega arith
from_above least number (bundle ∷ bundles) =
    choose (nat_lt number least || is_empty bundle) (first_from least (number + 1) bundles) number
    (λ n. number ≤ n)
    (λ passed. let rest = from_above least (number + 1) bundles in omega arith)
    (λ ends. omega arith)

-- the first bundle that is kept has branches
first_full : (least number : ℕ) (bundles : List Bundle)
    → StartsFull (drop (first_from least number bundles - number) bundles)
first_full least number [] = subst (λ (bundles : List Bundle). StartsFull bundles)
    (sym (drop_all (number - number) [] (omega arith))) tt
first_full least number (bundle ∷ bundles) =
    choose (nat_lt number least || is_empty bundle) (first_from least (number + 1) bundles) number
    (λ n. StartsFull (drop (n - number) (bundle ∷ bundles)))
    (λ passed.
    let above = from_above least (number + 1) bundles in
    let one : first_from least (number + 1) bundles - number ≡ suc
    (first_from least (number + 1) bundles - (number + 1)) = omega arith in
    subst (λ (n : ℕ). StartsFull (drop n (bundle ∷ bundles))) (sym one)
    (first_full least (number + 1) bundles))
    (λ ends.
    let none : number - number ≡ 0 = omega arith in
    let full : 0 < length bundle.branches = not_below (length bundle.branches) 1
    (neither (nat_lt number least) (is_empty bundle) ends).1 in
    subst (λ (n : ℕ). StartsFull (drop n (bundle ∷ bundles))) (sym none) full)

-- no bundle below the least mark is kept
least_passed : (least number : ℕ) (bundles : List Bundle) → least ≤ number + length bundles
    → least ≤ first_from least number bundles
least_passed least number [] upto = omega arith
least_passed least number (bundle ∷ bundles) upto =
    choose (nat_lt number least || is_empty bundle) (first_from least (number + 1) bundles) number
    (λ n. least ≤ n)
    (λ passed. least_passed least (number + 1) bundles (omega arith))
    (λ ends. not_below number least (neither (nat_lt number least) (is_empty bundle) ends).0)

least_start : (start : ℕ) (pivots : List Pivot) → fold (λ n pivot. min n pivot.mark) start pivots ≤ start
least_start start [] = omega arith
least_start start (pivot ∷ pivots) = let rest = least_start (min start pivot.mark) pivots in omega arith

least_at : (start : ℕ) (pivots : List Pivot) (i : ℕ) (d : Pivot) → i < length pivots
    → fold (λ n pivot. min n pivot.mark) start pivots ≤ (get_or pivots i d).mark
least_at start [] i d within = absurd (omega arith)
least_at start (pivot ∷ pivots) zero d within = let rest = least_start
    (min start pivot.mark) pivots in omega arith
least_at start (pivot ∷ pivots) (suc i) d within = least_at (min start pivot.mark) pivots i d (omega arith)

least_above : (bound start : ℕ) (pivots : List Pivot) → bound ≤ start
    → All (λ (pivot : Pivot). bound ≤ pivot.mark) pivots
    → bound ≤ fold (λ n pivot. min n pivot.mark) start pivots
least_above bound start [] below all = below
least_above bound start (pivot ∷ pivots) below all =
    let first : bound ≤ pivot.mark = all 0 pivot (omega arith) in
    least_above bound (min start pivot.mark) pivots (omega arith) (λ i d within. all (suc i) d (omega arith))

-- empty bundles at the begin of a run are no matter
joined_skipped : (bundles : List Bundle) (n a count : ℕ) → a + n ≤ length bundles
    → ((k : ℕ) → a ≤ k → k < a + n → (get_or bundles k (unmarked [])).branches ≡ [])
    → joined (take (n + count) (drop a bundles)) ≡ joined (take count (drop (a + n) bundles))
joined_skipped bundles zero a count within none =
    let same : 0 + count ≡ count = omega arith in
    ap (λ (m : ℕ). joined (take m (drop a bundles))) same
    ∙ ap (λ (m : ℕ). joined (take count (drop m bundles))) (omega arith)
joined_skipped bundles (suc n) a count within none =
    let more : suc n + count ≡ suc (n + count) = omega arith in
    ap (λ (list : List Bundle). joined (take (suc n + count) list))
    (drop_more bundles a (unmarked []) (omega arith))
    ∙ ap (λ (m : ℕ). joined (take m (get_or bundles a (unmarked []) ∷ drop (a + 1) bundles))) more
    ∙ ap (λ (list : List ℕ). list ++ joined (take (n + count) (drop (a + 1) bundles)))
    (none a (omega arith) (omega arith))
    ∙ joined_skipped bundles n (a + 1) count (omega arith)
    (λ k from below. none k (omega arith) (omega arith))
    ∙ ap (λ (m : ℕ). joined (take count (drop m bundles))) (omega arith)

module _ (node : NodeData) where
  abbrev kept : ℕ
  kept = kept_from node

  pub next_trimmed : next_of (trimmed node).lists ≡ next_of node.lists
  next_trimmed =
      let most = kept_from-le node in
      let long = length-drop (kept - node.lists.first) node.lists.bundles in
      omega arith

  -- a bundle that stands stood so before
  pub bundle_trimmed : (number : ℕ) → kept ≤ number
      → bundle_at (trimmed node).lists number ≡ bundle_at node.lists number
  bundle_trimmed number above =
      let least = kept_from-ge node in
      get_or-drop (kept - node.lists.first) node.lists.bundles (number - max node.lists.first kept)
      (unmarked [])
      ∙ ap (λ (n : ℕ). get_or node.lists.bundles n (unmarked [])) (omega arith)

  pub starts_full : StartsFull (trimmed node).lists.bundles
  starts_full = first_full (least_mark node) node.lists.first node.lists.bundles

  module _ (first last : ℕ) (order : first ≤ last) (made : last < next_of node.lists) (stands : kept ≤ last)
      (uncut : IsUncut node first last) where
    -- what is passed over of the run is empty
    run_empty : (k : ℕ) → max first node.lists.first ≤ node.lists.first + k → node.lists.first + k < kept
        → (get_or node.lists.bundles k (unmarked [])).branches ≡ []
    run_empty k from below = elim (cases_lt (node.lists.first + k) (least_mark node)) [
      | inl lower ↦
          let behind : All (λ (pivot : Pivot). last + 1 ≤ pivot.mark) node.pivots = λ i d within. elim
          (uncut i d within) [
            | inl low ↦
                let least = least_at (next_of node.lists) node.pivots i d within in
                absurd (omega arith)
            | inr high ↦ omega arith
          ] in
          let all = least_above (last + 1) (next_of node.lists) node.pivots (omega arith) behind in
          let most = least_start (next_of node.lists) node.pivots in
          let passed = least_passed (least_mark node) node.lists.first node.lists.bundles (omega arith) in
          absurd (omega arith)
      | inr upper ↦ passed_empty (least_mark node) node.lists.first node.lists.bundles k below upper
    ]

    -- so a run of which some bundle stands has the branches that it had
    run_trimmed : branches_from (trimmed node).lists first (last + 1) ≡ branches_from node.lists first
        (last + 1)
    run_trimmed =
        let bundles = node.lists.bundles in
        let low = kept_from-ge node in
        let a = max first node.lists.first in
        let b = max first (max node.lists.first kept) in
        let left = last + 1 - b in
        let begin = a - node.lists.first in
        ap (λ (list : List Bundle). joined (take left list))
        (drop-drop (first - max node.lists.first kept) (kept - node.lists.first) bundles)
        ∙ ap (λ (n : ℕ). joined (take left (drop n bundles))) (omega arith)
        ∙ sym (joined_skipped bundles (b - a) begin left (omega arith)
        (λ k from below. run_empty k (omega arith) (omega arith)))
        ∙ ap (λ (n : ℕ). joined (take n (drop begin bundles))) (omega arith)
        ∙ ap (λ (n : ℕ). joined (take (last + 1 - a) (drop n bundles))) (omega arith)

    uncut_trimmed : IsUncut (trimmed node) first last
    uncut_trimmed =
        All-map (λ (pivot : Pivot). (pivot.mark ≤ max first (max node.lists.first kept)) ⊎
        (last < pivot.mark)) (λ (pivot : Pivot). at_mark pivot (max pivot.mark kept)) node.pivots
        (λ i d within. elim (uncut i d within) [
          | inl low ↦ inl (omega arith)
          | inr high ↦ inr (omega arith)
        ])

  -- a run of which some bundle stands is held as before
  pub held_trimmed : (who : ℕ) (run : Run) → run.first ≤ run.last → kept ≤ run.last → HoldsRun node who run
      → HoldsRun (trimmed node) who run
  held_trimmed who run order some holds =
      let low = kept_from-ge node in
      record {
        stands = (omega (arith, holds.stands.0), let next = next_trimmed in omega (arith, holds.stands.1));
        marks = λ number above below stands.
            ap (λ (bundle : Bundle). bundle.owner) (bundle_trimmed number (omega arith))
            ∙ holds.marks number above below (omega arith);
        inputs = run_trimmed run.first run.last order holds.stands.1 some holds.whole ∙ holds.inputs;
        whole = uncut_trimmed run.first run.last order holds.stands.1 some holds.whole;
        within = holds.within;
        leaf = holds.leaf;
        oldest = λ bottom. omega (arith, holds.oldest bottom);
      }
