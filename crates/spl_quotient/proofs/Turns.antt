-- Lemmas on lists that are read from a place on, and then from their begin.
use Rattle.std.proofs.Common.{◌≡◌, ◌≢◌, ℕ, ◌+◌, ◌-◌, ◌<◌, ◌≤◌, List, ◌++◌, length, get_or, set, take, drop, replicate, refl, sym, ap, ap₂, ◌∙◌, inl, inr, arith, length-append, length-drop, length-set, length-take-le, get_or-drop, get_or-take, get_or-set_same, get_or-set_other}
use Rattle.std.proofs.lemmas.List.{same_lists, get_or_append_left, get_or-append_right, drop-replicate, take-replicate, replicate-append-replicate}
use Rattle.std.proofs.lemmas.Bool.{cases_lt, cases_eq, lt-ltb, le-ltb}
use Rattle.spl_quotient.specs.Slot.{Slot}
use Rattle.spl_quotient.specs.Table.{Table, turned, place_in_turn}

pub place_ahead : (origin len j : ℕ) → j < len - origin → place_in_turn origin len j ≡ origin + j
place_ahead origin len j near = rw (lt-ltb j (len - origin) near) refl

pub place_round : (origin len j : ℕ) → len - origin ≤ j → place_in_turn origin len j ≡ j - (len - origin)
place_round origin len j far = rw (le-ltb j (len - origin) far) refl

-- different positions have places of their own
pub places_differ : (origin len i j : ℕ) → origin < len → i < len → j < len → i ≢ j → place_in_turn origin len i ≢ place_in_turn origin len j
places_differ origin len i j start in_i in_j differ = elim (cases_lt i (len - origin)) [
  | inl near_i ↦ elim (cases_lt j (len - origin)) [
    | inl near_j ↦ rw (place_ahead origin len i near_i, place_ahead origin len j near_j) (λ same. absurd (differ (omega arith)))
    | inr far_j ↦ rw (place_ahead origin len i near_i, place_round origin len j far_j) (λ same. absurd (omega arith))
  ]
  | inr far_i ↦ elim (cases_lt j (len - origin)) [
    | inl near_j ↦ rw (place_round origin len i far_i, place_ahead origin len j near_j) (λ same. absurd (omega arith))
    | inr far_j ↦ rw (place_round origin len i far_i, place_round origin len j far_j) (λ same. absurd (differ (omega arith)))
  ]
]

pub place_within : (origin len j : ℕ) → origin < len → j < len → place_in_turn origin len j < len
place_within origin len j start within = elim (cases_lt j (len - origin)) [
  | inl near ↦ rw (place_ahead origin len j near) (omega arith)
  | inr far ↦ rw (place_round origin len j far) (omega arith)
]

module _ {X : Type 0} where
  pub length-turned : (xs : List X) (origin : ℕ) → origin ≤ length xs → length (turned origin xs) ≡ length xs
  length-turned xs origin within = simp (length-append, length-drop) (omega (arith, length-take-le origin xs within))

  pub get_or-turned : (xs : List X) (origin len j : ℕ) (d : X) → length xs ≡ len → origin < len → j < len → get_or (turned origin xs) j d ≡ get_or xs (place_in_turn origin len j) d
  get_or-turned xs origin len j d long start within =
      let front = length-drop origin xs in
      elim (cases_lt j (len - origin)) [
        | inl near ↦
            get_or_append_left (drop origin xs) (take origin xs) d j (omega arith)
            ∙ get_or-drop origin xs j d
            ∙ sym (ap (λ (n : ℕ). get_or xs n d) (place_ahead origin len j near))
        | inr far ↦
            get_or-append_right (drop origin xs) (take origin xs) (len - origin) j d (omega arith) far
            ∙ get_or-take origin xs (j - (len - origin)) d (omega arith)
            ∙ sym (ap (λ (n : ℕ). get_or xs n d) (place_round origin len j far))
      ]

  pub turned-replicate : (origin count : ℕ) (x : X) → origin ≤ count → turned origin (replicate count x) ≡ replicate count x
  turned-replicate origin count x within =
      ap₂ ◌++◌ (drop-replicate origin count x) (take-replicate origin count x within)
      ∙ replicate-append-replicate (count - origin) origin x
      ∙ ap (λ (n : ℕ). replicate n x) (omega arith)

module _ {X : Type 0} where
  pub turned-set : (xs : List X) (origin len j : ℕ) (x : X) → length xs ≡ len → origin < len → j < len → turned origin (set xs (place_in_turn origin len j) x) ≡ set (turned origin xs) j x
  turned-set xs origin len j x long start within =
      let place = place_in_turn origin len j in
      let written = length-set xs place x in
      let before = length-turned xs origin (omega arith) in
      let after = length-turned (set xs place x) origin (omega arith) in
      let placed = place_within origin len j start within in
      same_lists _ _ (after ∙ written ∙ sym before ∙ sym (length-set (turned origin xs) j x)) (λ k d inside.
      let in_k : k < len = omega arith in
      get_or-turned (set xs place x) origin len k d (omega arith) start in_k ∙ elim (cases_eq k j) [
        | inl same ↦
            ap (λ (n : ℕ). get_or (set xs place x) (place_in_turn origin len n) d) same
            ∙ get_or-set_same xs place x d (omega arith)
            ∙ sym (ap (λ (n : ℕ). get_or (set (turned origin xs) j x) n d) same ∙ get_or-set_same (turned origin xs) j x d (omega arith))
        | inr other ↦
            get_or-set_other xs place (place_in_turn origin len k) x d (places_differ origin len k j start in_k within other)
            ∙ sym (get_or-turned xs origin len k d long start in_k)
            ∙ sym (get_or-set_other (turned origin xs) j k x d other)
      ])

-- tables with the same slots and origin
pub same_table : (slots others : List Slot) (origin : ℕ) → slots ≡ others → let one : Table = record { slots = slots; origin = origin } in let other : Table = record { slots = others; origin = origin } in one ≡ other
same_table slots others origin same = cc
