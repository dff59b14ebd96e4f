-- Keys that rise are searched by halves.
use Rattle.std.proofs.Common.{◌≡◌, ℕ, zero, suc, ◌<◌, ◌≤◌, Bool, true, false, cond, List, [], ◌∷◌, Some, length, ap, ◌∙◌, arith}
use Rattle.std.specs.List.{slice_get, AllByRecursion}
use Rattle.std.specs.List.Sorted.{IsStrictlySortedBy}
use Rattle.std.specs.Ordering.{nat_cmp, is_lt}
use Rattle.std.specs.Cmp.Lexicographic.{slice_cmp, nat_list_cmp_total}
use Rattle.std.specs.declared.cmp.Ordering.TheVariants.{Less}
use Rattle.spl_message.specs.Key.{AreRising, is_below}
use Rattle.spl_page.proofs.Rising.{less_is}
use Rattle.spl_page.specs.Sound.{count_below}

within : (below : Bool) (count most : ℕ) → count ≤ most → cond below (suc count) 0 ≤ suc most
within true count most le = omega arith
within false count most le = omega arith

pub count_within : (keys : List (List ℕ)) (key : List ℕ) → count_below keys key ≤ length keys
count_within [] key = omega arith
count_within (first ∷ keys) key = within (is_below first key) (count_below keys key) (length keys) (count_within keys key)

-- a key that is not below ends the count
pub count_stops : (keys : List (List ℕ)) (key : List ℕ) (i : ℕ) (there : List ℕ) → slice_get keys i ≡ Some there → is_below there key ≡ false
    → count_below keys key ≤ i
count_stops [] key i there at above = absurd (cc)
count_stops (first ∷ keys) key zero there at above =
    let same : first ≡ there = cc in
    let none : count_below (first ∷ keys) key ≡ 0 = ap (λ b. cond b (suc (count_below keys key)) 0) (ap (λ k. is_below k key) same ∙ above) in
    omega (arith, none)
count_stops (first ∷ keys) key (suc i) there at above = within (is_below first key) (count_below keys key) i (count_stops keys key i there at above)

all_there : (P : List ℕ → Type 0) (keys : List (List ℕ)) (i : ℕ) (there : List ℕ) → AllByRecursion P keys → slice_get keys i ≡ Some there → P there
all_there P [] i there all at = absurd (cc)
all_there P (first ∷ keys) zero there all at = let same : first ≡ there = cc in rw (← same) all.0
all_there P (first ∷ keys) (suc i) there all at = all_there P keys i there all.1 at

below_trans : (first there key : List ℕ) → slice_cmp nat_cmp first there ≡ Less → is_below there key ≡ true → is_below first key ≡ true
below_trans first there key less below = ap is_lt (nat_list_cmp_total.trans first there key less (less_is (slice_cmp nat_cmp there key) below))

-- a key that is below is counted, with all before it
pub count_goes_on : (keys : List (List ℕ)) (key : List ℕ) (i : ℕ) (there : List ℕ) → AreRising keys → slice_get keys i ≡ Some there → is_below there key ≡ true
    → i < count_below keys key
unfolding IsStrictlySortedBy
count_goes_on [] key i there rising at below = absurd (cc)
count_goes_on (first ∷ keys) key zero there rising at below =
    let same : first ≡ there = cc in
    let some : count_below (first ∷ keys) key ≡ suc (count_below keys key) = ap (λ b. cond b (suc (count_below keys key)) 0) (ap (λ k. is_below k key) same ∙ below) in
    omega (arith, some)
count_goes_on (first ∷ keys) key (suc i) there rising at below =
    let here = below_trans first there key (all_there (λ k. slice_cmp nat_cmp first k ≡ Less) keys i there rising.0 at) below in
    let some : count_below (first ∷ keys) key ≡ suc (count_below keys key) = ap (λ b. cond b (suc (count_below keys key)) 0) here in
    omega (arith, some, count_goes_on keys key i there rising.1 at below)
