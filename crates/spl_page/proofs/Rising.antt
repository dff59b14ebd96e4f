-- Keys that rise: with one more at their end, by the page grammar's test and in the order of tables, and the first ones of them.
use Rattle.std.proofs.Common.{◌≡◌, ℕ, ◌<◌, Bool, true, false, ◌&&◌, List, [], ◌∷◌, ◌++◌, Ordering, length, refl, sym, ap, ◌∙◌, arith}
use Rattle.std.specs.List.{AllByRecursion}
use Rattle.std.specs.List.Sorted.{IsStrictlySortedBy}
use Rattle.std.specs.Ordering.{nat_cmp, is_lt}
use Rattle.std.specs.Cmp.Lexicographic.{slice_cmp, nat_list_cmp_total}
use Rattle.std.specs.declared.cmp.Ordering.TheVariants.{Less, Equal, Greater}
use Rattle.std.proofs.lemmas.Bool.{and_from, and_parts}
use Rattle.spl_message.specs.Key.{AreRising}
use Rattle.spl_port.specs.Page.{is_rising, is_rising_above}

and_assoc : (a b c : Bool) → (a && (b && c)) ≡ ((a && b) && c)
and_assoc true b c = refl
and_assoc false b c = refl

-- the last of these keys
abbrev pub last_of : List ℕ → List (List ℕ) → List ℕ
last_of key [] = key
last_of key (next ∷ keys) = last_of next keys

rising_above_push : (last : List ℕ) (keys : List (List ℕ)) (key : List ℕ)
    → is_rising_above last (keys ++ key ∷ []) ≡ (is_rising_above last keys && is_lt (slice_cmp nat_cmp (last_of last keys) key))
rising_above_push last [] key = elim (is_lt (slice_cmp nat_cmp last key)) as (λ b. (b && true) ≡ b) [ true ↦ refl | false ↦ refl ]
rising_above_push last (next ∷ keys) key =
    ap (λ (b : Bool). is_lt (slice_cmp nat_cmp last next) && b) (rising_above_push next keys key)
    ∙ and_assoc (is_lt (slice_cmp nat_cmp last next)) (is_rising_above next keys) (is_lt (slice_cmp nat_cmp (last_of next keys) key))

pub last_of_push : (last : List ℕ) (keys : List (List ℕ)) (key : List ℕ) → last_of last (keys ++ key ∷ []) ≡ key
last_of_push last [] key = refl
last_of_push last (next ∷ keys) key = last_of_push next keys key

-- each key is above no bytes
above_nothing : (key : List ℕ) → 0 < length key → is_lt (slice_cmp nat_cmp [] key) ≡ true
above_nothing [] some = absurd (omega arith)
above_nothing (byte ∷ key) some = refl

pub rising_last_push : (keys : List (List ℕ)) (key : List ℕ) → 0 < length key
    → is_rising (keys ++ key ∷ []) ≡ (is_rising keys && is_lt (slice_cmp nat_cmp (last_of [] keys) key))
rising_last_push [] key some = sym (above_nothing key some)
rising_last_push (first ∷ keys) key some = rising_above_push first keys key

-- ---- the test of the page grammar and the order of tables are one

above_passes : (last : List ℕ) (keys : List (List ℕ)) → AllByRecursion (λ key. slice_cmp nat_cmp last key ≡ Less) keys → AreRising keys
    → is_rising_above last keys ≡ true
unfolding IsStrictlySortedBy
above_passes last [] above rising = refl
above_passes last (key ∷ keys) above rising = and_from _ _ (ap is_lt above.0) (above_passes key keys rising.0 rising.1)

-- keys in order pass the test
pub passes_rising : (keys : List (List ℕ)) → AreRising keys → is_rising keys ≡ true
unfolding IsStrictlySortedBy
passes_rising [] rising = refl
passes_rising (key ∷ keys) rising = above_passes key keys rising.0 rising.1

pub less_is : (o : Ordering) → is_lt o ≡ true → o ≡ Less
less_is Less is = refl
less_is Equal is = absurd (cc)
less_is Greater is = absurd (cc)

all_above : (last key : List ℕ) (keys : List (List ℕ)) → slice_cmp nat_cmp last key ≡ Less → AllByRecursion (λ k. slice_cmp nat_cmp key k ≡ Less) keys
    → AllByRecursion (λ k. slice_cmp nat_cmp last k ≡ Less) keys
all_above last key [] less above = tt
all_above last key (next ∷ keys) less above = (nat_list_cmp_total.trans last key next less above.0, all_above last key keys less above.1)

are_above : (last : List ℕ) (keys : List (List ℕ)) → is_rising_above last keys ≡ true → AreRising (last ∷ keys)
unfolding IsStrictlySortedBy
are_above last [] passes = (tt, tt)
are_above last (key ∷ keys) passes =
    let first = less_is (slice_cmp nat_cmp last key) (and_parts _ _ passes).0 in
    let more = are_above key keys (and_parts _ _ passes).1 in
    ((first, all_above last key keys first more.0), more)

-- keys that pass the test are in order
pub rising_passed : (keys : List (List ℕ)) → is_rising keys ≡ true → AreRising keys
unfolding IsStrictlySortedBy
rising_passed [] passes = tt
rising_passed (key ∷ keys) passes = are_above key keys passes

-- ---- the first ones of keys that rise

all_front : (P : List ℕ → Type 0) (keys more : List (List ℕ)) → AllByRecursion P (keys ++ more) → AllByRecursion P keys
all_front P [] more are = tt
all_front P (key ∷ keys) more are = (are.0, all_front P keys more are.1)

pub rising_front : (keys more : List (List ℕ)) → AreRising (keys ++ more) → AreRising keys
unfolding IsStrictlySortedBy
rising_front [] more order = tt
rising_front (key ∷ keys) more order = (all_front (λ other. slice_cmp nat_cmp key other ≡ Less) keys more order.0, rising_front keys more order.1)

-- one key rises
pub one_rises : (key : List ℕ) → AreRising (key ∷ [])
unfolding IsStrictlySortedBy
one_rises key = (tt, tt)
