-- The fingerprints in order come in turn from the one whose quotient is the farthest ahead of its place.
use Rattle.std.proofs.Common.{◌≡◌, ℕ, zero, suc, ◌+◌, ◌-◌, ◌/◌, ◌^◌, ◌<◌, ◌≤◌, List, length, refl, ap, ◌∙◌, inl, inr, arith, add-one}
use Rattle.std.specs.Prelude.{slice_index}
use Rattle.std.specs.List.Sorted.{IsStrictlyIncreasing}
use Rattle.std.proofs.lemmas.Bool.{cases_lt, lt-ltb, le-ltb}
use Rattle.spl_quotient.specs.Table.{position_in, home_in}
use Rattle.spl_quotient.specs.Filling.{print_at, IsInTurn}
use Rattle.spl_quotient.proofs.Turns.{place_ahead, place_round}

-- a greater number has no lesser quotient
div-mono : (a b : ℕ) → a ≤ b → a / 2 ^ 12 ≤ b / 2 ^ 12
div-mono a b below = omega arith

pub position_ahead : (origin len number : ℕ) → origin ≤ number → position_in origin len number ≡ number - origin
position_ahead origin len number from = rw (le-ltb number origin from) refl

pub position_round : (origin len number : ℕ) → number < origin → position_in origin len number ≡ number + len - origin
position_round origin len number before = rw (lt-ltb number origin before) refl

module _ (prints : List ℕ) (sorted : IsStrictlyIncreasing prints) where
  quotient_next : (k : ℕ) → suc k < length prints → slice_index prints k / 2 ^ 12 ≤ slice_index prints (suc k) / 2 ^ 12
  quotient_next k within =
      let next = sorted k (omega arith) in
      let same : slice_index prints (k + 1) ≡ slice_index prints (suc k) = rw add-one refl in
      div-mono (slice_index prints k) (slice_index prints (suc k)) (omega arith)

  quotient_mono : (i n : ℕ) → n + i < length prints → slice_index prints i / 2 ^ 12 ≤ slice_index prints (n + i) / 2 ^ 12
  quotient_mono i zero within = ap_le (omega arith)
    where
      ap_le : 0 + i ≡ i → slice_index prints i / 2 ^ 12 ≤ slice_index prints (0 + i) / 2 ^ 12
      ap_le e = rw e (omega arith)
  quotient_mono i (suc n) within =
      let same : suc n + i ≡ suc (n + i) = omega arith in
      rw same (omega (arith, quotient_mono i n (omega arith), quotient_next (n + i) (omega arith)))

module _ (prints : List ℕ) (sorted : IsStrictlyIncreasing prints) (first len : ℕ) (inside : first < length prints) (few : length prints ≤ len) (farthest : (k : ℕ) → k < length prints → slice_index prints k / 2 ^ 12 + first ≤ slice_index prints first / 2 ^ 12 + k) where
  origin : ℕ
  origin = slice_index prints first / 2 ^ 12

  -- the homes of the fingerprints from the first on, and of those before it
  home_ahead : (j : ℕ) → first ≤ j → j < length prints → home_in (slice_index prints first / 2 ^ 12) len (slice_index prints j) ≡ slice_index prints j / 2 ^ 12 - slice_index prints first / 2 ^ 12
  home_ahead j from within =
      let sum : (j - first) + first ≡ j = omega arith in
      let mono = quotient_mono prints sorted first (j - first) (omega arith) in
      let above : slice_index prints first / 2 ^ 12 ≤ slice_index prints j / 2 ^ 12 = rw sum at mono in
      position_ahead _ len _ above

  before_origin : (j : ℕ) → j < first → slice_index prints j / 2 ^ 12 < slice_index prints first / 2 ^ 12
  before_origin j before = omega (arith, farthest j (omega arith))

  home_round : (j : ℕ) → j < first → home_in (slice_index prints first / 2 ^ 12) len (slice_index prints j) ≡ slice_index prints j / 2 ^ 12 + len - slice_index prints first / 2 ^ 12
  home_round j before = position_round _ len _ (before_origin j before)

  home_at_ahead : (k : ℕ) → k < length prints - first → home_in (slice_index prints first / 2 ^ 12) len (print_at prints first k) ≡ slice_index prints (first + k) / 2 ^ 12 - slice_index prints first / 2 ^ 12
  home_at_ahead k near =
      ap (λ (j : ℕ). home_in (slice_index prints first / 2 ^ 12) len (slice_index prints j)) (place_ahead first (length prints) k near)
      ∙ home_ahead (first + k) (omega arith) (omega arith)

  home_at_round : (k : ℕ) → length prints - first ≤ k → k < length prints → home_in (slice_index prints first / 2 ^ 12) len (print_at prints first k) ≡ slice_index prints (k - (length prints - first)) / 2 ^ 12 + len - slice_index prints first / 2 ^ 12
  home_at_round k far within =
      ap (λ (j : ℕ). home_in (slice_index prints first / 2 ^ 12) len (slice_index prints j)) (place_round first (length prints) k far)
      ∙ home_round (k - (length prints - first)) (omega arith)

  module _ (numbers : (k : ℕ) → k < length prints → slice_index prints k / 2 ^ 12 < len) where
    in_order : (k : ℕ) → suc k < length prints → home_in (slice_index prints first / 2 ^ 12) len (print_at prints first k) ≤ home_in (slice_index prints first / 2 ^ 12) len (print_at prints first (suc k))
    in_order k within = elim (cases_lt (suc k) (length prints - first)) [
      | inl ahead ↦
          let same : first + suc k ≡ suc (first + k) = omega arith in
          rw (home_at_ahead k (omega arith), home_at_ahead (suc k) ahead, same) (omega (arith, quotient_next prints sorted (first + k) (omega arith)))
      | inr beyond ↦ elim (cases_lt k (length prints - first)) [
        | inl last ↦
            rw (home_at_ahead k last, home_at_round (suc k) beyond within) (omega (arith, numbers (first + k) (omega arith)))
        | inr round ↦
            let same : suc k - (length prints - first) ≡ suc (k - (length prints - first)) = omega arith in
            rw (home_at_round k round (omega arith), home_at_round (suc k) beyond within, same) (omega (arith, quotient_next prints sorted (k - (length prints - first)) (omega arith)))
      ]
    ]

    room_left : (k : ℕ) → k < length prints → home_in (slice_index prints first / 2 ^ 12) len (print_at prints first k) + (length prints - k) ≤ len
    room_left k within = elim (cases_lt k (length prints - first)) [
      | inl ahead ↦ rw (home_at_ahead k ahead) (omega (arith, farthest (first + k) (omega arith)))
      | inr round ↦
          let j = k - (length prints - first) in
          rw (home_at_round k round within) (omega (arith, farthest (k - (length prints - first)) (omega arith), before_origin (k - (length prints - first)) (omega arith)))
    ]

    pub in_turn : IsInTurn prints first (slice_index prints first / 2 ^ 12) len
    in_turn = record { order = in_order; room = room_left }

pub in_turn_none : (prints : List ℕ) (first origin len : ℕ) → length prints ≡ 0 → IsInTurn prints first origin len
in_turn_none prints first origin len none = record {
  order = λ k within. absurd (omega arith);
  room = λ k within. absurd (omega arith);
}
