-- What a trim drops, and where it stops.
use Rattle.std.proofs.Common.{◌≡◌, ℕ, zero, suc, ◌+◌, ◌-◌, ◌<◌, ◌≤◌, min, Bool, true, false, ◌||◌, nat_lt, List, [], ◌∷◌, length, fold, drop, get_or, refl, sym, arith}
use Rattle.std.proofs.lemmas.Bool.{ltb-true, ltb-false, false≢true}
use Rattle.std.proofs.lemmas.List.{nil_from_length}
use Rattle.spl_bundle.specs.Numbered.{Bundle, unmarked, bundle_at, next_of, dropped_below}
use Rattle.spl_node.specs.declared.pivot.Pivot.{Pivot}
use Rattle.spl_node.specs.Node.{NodeData, pivot_at}
use Rattle.spl_node.specs.Steps.{is_empty, first_from, least_mark, kept_from}
use Rattle.spl_node.proofs.Lives.{kept_from-ge}
use Rattle.spl_node.proofs.Places.{choose}
use Rattle.spl_state.specs.Bounds.{StartsFull}

passed_empty : (least number : ℕ) (bundle : Bundle) → least ≤ number → (nat_lt number least || is_empty bundle) ≡ true → bundle.branches ≡ []
passed_empty least number bundle from passed = by (nat_lt number least) refl passed
  where
    by : (b : Bool) → nat_lt number least ≡ b → (b || is_empty bundle) ≡ true → bundle.branches ≡ []
    by true e passed = let lower = ltb-true number least e in absurd (omega arith)
    by false e passed = let short = ltb-true (length bundle.branches) 1 passed in nil_from_length bundle.branches (omega arith)

-- bundles from the least mark on are passed over where they are empty
first_from_passed : (least number : ℕ) (bundles : List Bundle) (k : ℕ) → number + k < first_from least number bundles → least ≤ number + k → (get_or bundles k (unmarked [])).branches ≡ []
first_from_passed least number [] k below from = absurd (omega arith)
first_from_passed least number (bundle ∷ bundles) zero below from =
    choose (nat_lt number least || is_empty bundle) (first_from least (number + 1) bundles) number (λ n. number + 0 < n → bundle.branches ≡ [])
    (λ passed below. passed_empty least number bundle (omega arith) passed)
    (λ ends below. absurd (omega arith))
    below
first_from_passed least number (bundle ∷ bundles) (suc k) below from =
    choose (nat_lt number least || is_empty bundle) (first_from least (number + 1) bundles) number (λ n. number + suc k < n → (get_or bundles k (unmarked [])).branches ≡ [])
    (λ passed below. first_from_passed least (number + 1) bundles k (omega arith) (omega arith))
    (λ ends below. absurd (omega arith))
    below

first_from-ge : (least number : ℕ) (bundles : List Bundle) → number ≤ first_from least number bundles
first_from-ge least number [] = omega arith
first_from-ge least number (bundle ∷ bundles) =
    choose (nat_lt number least || is_empty bundle) (first_from least (number + 1) bundles) number (λ n. number ≤ n)
    (λ passed. let rest = first_from-ge least (number + 1) bundles in omega arith)
    (λ ends. omega arith)

neither : (a b : Bool) → (a || b) ≡ false → (a ≡ false) × (b ≡ false)
neither true b none = absurd (false≢true (sym none))
neither false b none = (refl, none)

-- the first that is kept is none of these
first_from_stop : (least number : ℕ) (bundles : List Bundle) (k : ℕ) → first_from least number bundles ≡ number + k → k < length bundles → 0 < length (get_or bundles k (unmarked [])).branches
first_from_stop least number [] k is within = absurd (omega arith)
first_from_stop least number (bundle ∷ bundles) zero is within =
    choose (nat_lt number least || is_empty bundle) (first_from least (number + 1) bundles) number (λ n. n ≡ number + 0 → 0 < length bundle.branches)
    (λ passed is. let past = first_from-ge least (number + 1) bundles in absurd (omega arith))
    (λ ends is. let full = ltb-false (length bundle.branches) 1 (neither (nat_lt number least) (is_empty bundle) ends).1 in omega arith)
    is
first_from_stop least number (bundle ∷ bundles) (suc k) is within =
    choose (nat_lt number least || is_empty bundle) (first_from least (number + 1) bundles) number (λ n. n ≡ number + suc k → 0 < length (get_or bundles k (unmarked [])).branches)
    (λ passed is. first_from_stop least (number + 1) bundles k (omega arith) (omega arith))
    (λ ends is. absurd (omega arith))
    is

first_from_least : (least number : ℕ) (bundles : List Bundle) → min least (number + length bundles) ≤ first_from least number bundles
first_from_least least number [] = omega arith
first_from_least least number (bundle ∷ bundles) =
    choose (nat_lt number least || is_empty bundle) (first_from least (number + 1) bundles) number (λ n. min least (number + length (bundle ∷ bundles)) ≤ n)
    (λ passed. let rest = first_from_least least (number + 1) bundles in omega arith)
    (λ ends. let low = ltb-false number least (neither (nat_lt number least) (is_empty bundle) ends).0 in omega arith)

least_above : (bound start : ℕ) (pivots : List Pivot) → bound < start → ((i : ℕ) → i < length pivots → bound < (pivot_at pivots i).mark) → bound < fold (λ n pivot. min n pivot.mark) start pivots
least_above bound start [] above all = above
least_above bound start (pivot ∷ pivots) above all =
    let first = all 0 (omega arith) in
    least_above bound (min start pivot.mark) pivots (omega arith) (λ i within. all (suc i) (omega arith))

least-le : (start : ℕ) (pivots : List Pivot) → fold (λ n pivot. min n pivot.mark) start pivots ≤ start
least-le start [] = omega arith
least-le start (pivot ∷ pivots) = let rest = least-le (min start pivot.mark) pivots in omega arith

least-le_at : (start : ℕ) (pivots : List Pivot) (i : ℕ) → i < length pivots → fold (λ n pivot. min n pivot.mark) start pivots ≤ (pivot_at pivots i).mark
least-le_at start [] i within = absurd (omega arith)
least-le_at start (pivot ∷ pivots) zero within = let rest = least-le (min start pivot.mark) pivots in omega arith
least-le_at start (pivot ∷ pivots) (suc i) within = least-le_at (min start pivot.mark) pivots i (omega arith)

starts_full_at : (bundles : List Bundle) (j : ℕ) → (j < length bundles → 0 < length (get_or bundles j (unmarked [])).branches) → StartsFull (drop j bundles)
starts_full_at [] zero full = tt
starts_full_at [] (suc j) full = tt
starts_full_at (bundle ∷ bundles) zero full = full (omega arith)
starts_full_at (bundle ∷ bundles) (suc j) full = starts_full_at bundles j (λ within. full (omega arith))

module _ (node : NodeData) where
  -- the front that is left names a branch
  pub kept_full : StartsFull (dropped_below node.lists (kept_from node)).bundles
  kept_full =
      let j = kept_from node - node.lists.first in
      let from = kept_from-ge node in
      starts_full_at node.lists.bundles j (λ within. first_from_stop (least_mark node) node.lists.first node.lists.bundles j (omega arith) within)

  -- what is live for some pivot and is dropped names none
  pub dropped_empty : (number : ℕ) → node.lists.first ≤ number → number < kept_from node → least_mark node ≤ number → (bundle_at node.lists number).branches ≡ []
  dropped_empty number from below least =
      first_from_passed (least_mark node) node.lists.first node.lists.bundles (number - node.lists.first) (omega arith) (omega arith)

  -- where all marks are above, and bundles stand there, these are dropped
  pub kept_above : (bound : ℕ) → bound < next_of node.lists → ((i : ℕ) → i < length node.pivots → bound < (pivot_at node.pivots i).mark) → bound < kept_from node
  kept_above bound above all =
      let least = least_above bound (next_of node.lists) node.pivots above all in
      let stop = first_from_least (least_mark node) node.lists.first node.lists.bundles in
      omega arith

  pub least_at : (i : ℕ) → i < length node.pivots → least_mark node ≤ (pivot_at node.pivots i).mark
  least_at i within = least-le_at (next_of node.lists) node.pivots i within
