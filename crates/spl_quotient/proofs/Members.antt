-- Which fingerprints a table shows.
use Rattle.std.proofs.Common.{◌≡◌, ℕ, zero, suc, ◌+◌, ◌-◌, ◌/◌, ◌%◌, ◌^◌, ◌<◌, ◌↔◌, Bool, true, List, [], ◌∷◌, ◌++◌, length, get_or, sym, ap, subst, ◌∙◌, inl, inr, arith}
use Rattle.std.specs.Prelude.{All, Contains, IsTrue, slice_index}
use Rattle.std.proofs.lemmas.Bool.{cases_lt, cases_eq, cases_Bool}
use Rattle.std.proofs.lemmas.List.{append-nil, get_or_default}
use Rattle.std.proofs.lemmas.List.Elements.{Contains-append_left, Contains-push, Contains-push_cases, Contains-get_or, All-contains}
use Rattle.std.proofs.Math.Nat.{div-lt_iff_lt-mul}
use Rattle.std.proofs.lemmas.Nat.{pow-add, pow_pos}
use Rattle.spl_quotient.specs.Counts.{passing}
use Rattle.spl_quotient.specs.Table.{Table, place_in_turn, position_in, home_in, has, shows, spots_in, prints_in}
use Rattle.spl_quotient.specs.Spot.{spot_of}
use Rattle.spl_quotient.proofs.Spots.{spot-below}
use Rattle.spl_quotient.specs.Filling.{HasPrint, print_at}
use Rattle.spl_quotient.proofs.Turns.{place_ahead, place_round, place_within}
use Rattle.spl_quotient.proofs.Turning.{position_ahead, position_round}

-- the numbers below a bound that pass a test
module _ (test : ℕ → Bool) where
  pub contains_passing : (n x : ℕ) → Contains (passing test n) x → (x < n) × (test x ≡ true)
  unfolding passing
  contains_passing zero x found = absurd (omega (arith, found.1))
  contains_passing (suc n) x found = elim (cases_Bool (test n)) [
    | inl pass ↦
        let found_push : Contains (passing test n ++ n ∷ []) x = rw pass at found in
        elim (Contains-push_cases (passing test n) n x found_push) [
          | inl before ↦ let rest = contains_passing n x before in (omega (arith, rest.0), rest.1)
          | inr last ↦ (omega arith, ap test (sym last) ∙ pass)
        ]
    | inr fail ↦
        let found_rest : Contains (passing test n ++ []) x = rw fail at found in
        let rest = contains_passing n x (rw append-nil at found_rest) in
        (omega (arith, rest.0), rest.1)
  ]

  pub passing_contains : (n x : ℕ) → x < n → test x ≡ true → Contains (passing test n) x
  unfolding passing
  passing_contains zero x below pass = absurd (omega arith)
  passing_contains (suc n) x below pass = elim (cases_eq x n) [
    | inl same ↦
        let here : test n ≡ true = ap test (sym same) ∙ pass in
        rw (here, same) (Contains-push (passing test n) n)
    | inr other ↦ Contains-append_left (passing test n) _ x (passing_contains n x (omega arith) pass)
  ]

-- slots with different numbers have different positions
position_differs : (origin len a b : ℕ) → origin < len → a < len → b < len → position_in origin len a ≡ position_in origin len b → a ≡ b
position_differs origin len a b start in_a in_b same = elim (cases_lt a origin) [
  | inl round_a ↦ elim (cases_lt b origin) [
    | inl round_b ↦ omega (arith, same, position_round origin len a round_a, position_round origin len b round_b)
    | inr ahead_b ↦ omega (arith, same, position_round origin len a round_a, position_ahead origin len b ahead_b)
  ]
  | inr ahead_a ↦ elim (cases_lt b origin) [
    | inl round_b ↦ omega (arith, same, position_ahead origin len a ahead_a, position_round origin len b round_b)
    | inr ahead_b ↦ omega (arith, same, position_ahead origin len a ahead_a, position_ahead origin len b ahead_b)
  ]
]

-- each place comes in turn
turn_of : (first len j : ℕ) → first < len → j < len → (k : ℕ) × (k < len) × (place_in_turn first len k ≡ j)
turn_of first len j start within = elim (cases_lt j first) [
  | inl round ↦ (j + len - first, omega arith, place_round first len (j + len - first) (omega arith) ∙ omega arith)
  | inr ahead ↦ (j - first, omega arith, place_ahead first len (j - first) (omega arith) ∙ omega arith)
]

-- a fingerprint's quotient is the number of a slot
pub quotient_below : (q print : ℕ) → print < 2 ^ (q + 12) → print / 2 ^ 12 < 2 ^ q
quotient_below q print below = (div-lt_iff_lt-mul (pow_pos 12)).1 (rw (pow-add 2 q 12) at below)

module _ (q : ℕ) (table : Table) (prints : List ℕ) (first : ℕ) (len : length table.slots ≡ 2 ^ q) (start : table.origin < 2 ^ q) (inside : 0 < length prints → first < length prints) (bits : All (λ print. print < 2 ^ (q + 12)) prints) (has_prints : (h r : ℕ) → (has table.slots h r ≡ true) ↔ HasPrint prints first table.origin (length table.slots) (length prints) h r) where
  pub shown_is_built : (print : ℕ) → Contains (spots_in q table) print → Contains prints print
  unfolding spots_in
  shown_is_built print shown =
      let passes = contains_passing (λ print. has table.slots (home_in table.origin (length table.slots) print) (print % 2 ^ 12)) (2 ^ (q + 12)) print shown in
      let found = (has_prints (home_in table.origin (length table.slots) print) (print % 2 ^ 12)).0 passes.1 in
      let place = place_in_turn first (length prints) found.0 in
      let placed = place_within first (length prints) found.0 (inside (omega (arith, found.1))) found.1 in
      let below = quotient_below q (slice_index prints place) (bits place 0 placed) in
      let print_below = quotient_below q print passes.0 in
      let quotient = position_differs table.origin (length table.slots) (slice_index prints place / 2 ^ 12) (print / 2 ^ 12) (omega arith) (omega arith) (omega arith) found.2 in
      let same : slice_index prints place ≡ print = omega (arith, quotient, found.3) in
      subst (Contains prints) same (Contains-get_or prints place 0 placed)

  pub built_is_shown : (print : ℕ) → Contains prints print → Contains (spots_in q table) print
  unfolding spots_in
  built_is_shown print built =
      passing_contains (λ print. has table.slots (home_in table.origin (length table.slots) print) (print % 2 ^ 12)) (2 ^ (q + 12)) print (All-contains (λ print. print < 2 ^ (q + 12)) prints print bits built) (
      (has_prints (home_in table.origin (length table.slots) print) (print % 2 ^ 12)).1 (
      let turn = turn_of first (length prints) built.0 (inside (omega (arith, built.1))) built.1 in
      let same : print_at prints first turn.0 ≡ print =
      ap (λ (j : ℕ). get_or prints j 0) turn.2 ∙ get_or_default prints built.0 0 print built.1 ∙ built.2 in
      (turn.0, turn.1, ap (home_in table.origin (length table.slots)) same, ap (λ (n : ℕ). n % 2 ^ 12) same)
      )
      )

-- a table shows a fingerprint if it shows its spot
pub shown_iff : (q : ℕ) (table : Table) (print : ℕ) (answer : Bool) → answer ≡ shows table (spot_of q print) → print < 2 ^ (q + 12) → IsTrue answer ↔ Contains (prints_in q table) print
unfolding prints_in
shown_iff q table print answer is below = (
  λ yes. passing_contains (λ print. shows table (spot_of q print)) (2 ^ (q + 12)) print below (sym is ∙ yes),
  λ shown. is ∙ (contains_passing (λ print. shows table (spot_of q print)) (2 ^ (q + 12)) print shown).1,
)

-- the fingerprints that a table shows are those of the spots that it was built of
pub shown_spots : (q : ℕ) (table : Table) (spots : List ℕ) → ((spot : ℕ) → Contains (spots_in q table) spot ↔ Contains spots spot)
    → (print : ℕ) → Contains (prints_in q table) print ↔ ((print < 2 ^ (q + 12)) × Contains spots (spot_of q print))
unfolding prints_in spots_in
shown_spots q table spots built print = (
  λ shown.
      let passes = contains_passing (λ print. shows table (spot_of q print)) (2 ^ (q + 12)) print shown in
      (passes.0, (built (spot_of q print)).0 (passing_contains (shows table) (2 ^ (q + 12)) (spot_of q print) (spot-below q print) passes.1)),
  λ has.
      let passes = contains_passing (shows table) (2 ^ (q + 12)) (spot_of q print) ((built (spot_of q print)).1 has.1) in
      passing_contains (λ print. shows table (spot_of q print)) (2 ^ (q + 12)) print has.0 passes.1,
)

-- the first quotient is the number of a slot
pub origin_below : (q first origin : ℕ) (prints : List ℕ) → (0 < length prints → first < length prints) → All (λ print. print < 2 ^ (q + 12)) prints → (0 < length prints → origin ≡ slice_index prints first / 2 ^ 12) → (length prints ≡ 0 → origin ≡ 0) → origin < 2 ^ q
origin_below q first origin prints inside bits some none = elim (cases_lt 0 (length prints)) [
  | inl filled ↦ rw (some filled) (quotient_below q (slice_index prints first) (bits first 0 (inside filled)))
  | inr empty ↦ omega (arith, none (omega arith), pow_pos q)
]
