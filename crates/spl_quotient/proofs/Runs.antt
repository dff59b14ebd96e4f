-- What a laid table says of its runs.
use Rattle.std.proofs.Common.{◌≡◌, ◌≢◌, ℕ, zero, suc, ◌+◌, ◌-◌, ◌<◌, ◌≤◌, List, length, Bool, true, false, ◌&&◌, ◌||◌, not, refl, sym, ap, ◌∙◌, inl, inr, arith}
use Rattle.std.proofs.lemmas.Bool.{cases_lt, cases_eq, cases_Bool, and_parts, and_from, and_left, and_right, eq-eqb, ne_eqb, both_ways}
use Rattle.std.proofs.lemmas.List.{get_or_past}
use Rattle.spl_quotient.specs.Slot.{Slot, blank, is_used, begins_run}
use Rattle.spl_quotient.specs.Counts.{some_below}
use Rattle.spl_quotient.specs.Table.{at, occupied_at, used_at, begins_at, homes, runs, has_at, IsLaid}
use Rattle.spl_quotient.proofs.Tallies.{or_true, tally-pass, tally-fail, tally_none, tally_strict, none_between, some_found, some_none}

-- where a slot is not shifted, a run begins there if the slot is occupied
begins_unshifted : (slot : Slot) → slot.shifted ≡ false → slot.continuation ≡ false → begins_run slot ≡ slot.occupied
begins_unshifted slot unshifted first =
    ap (λ s. (slot.occupied || s) && not slot.continuation) unshifted
    ∙ ap (λ c. (slot.occupied || false) && not c) first
    ∙ plain slot.occupied
  where
    plain : (b : Bool) → (b || false) && true ≡ b
    plain true = refl
    plain false = refl

module _ (slots : List Slot) (laid : IsLaid slots) where
  -- an unshifted slot is no continuation
  unshifted_first : (j : ℕ) → (at slots j).shifted ≡ false → (at slots j).continuation ≡ false
  unshifted_first j unshifted = elim (cases_Bool (at slots j).continuation) [
    | inl more ↦ let shifted = laid.shifted j more in cc
    | inr first ↦ first
  ]

  -- a shifted slot is not the first
  pub shifted_later : (j : ℕ) → (at slots j).shifted ≡ true → 0 < j
  shifted_later zero shifted = absurd (both_ways (at slots 0).shifted laid.first shifted)
  shifted_later (suc j) shifted = omega arith

  -- the runs before an unshifted slot are those of the homes before it
  pub balanced_before : (j : ℕ) → (at slots j).shifted ≡ false → runs slots j ≡ homes slots j
  balanced_before j unshifted =
      let same = begins_unshifted (at slots j) unshifted (unshifted_first j unshifted) in
      elim (cases_Bool (occupied_at slots j)) [
        | inl is ↦ omega (arith, laid.balanced j unshifted, tally-pass (begins_at slots) j (same ∙ is), tally-pass (occupied_at slots) j is)
        | inr not ↦ omega (arith, laid.balanced j unshifted, tally-fail (begins_at slots) j (same ∙ not), tally-fail (occupied_at slots) j not)
      ]

  -- as many runs as homes are there in all
  pub balanced_all : runs slots (length slots) ≡ homes slots (length slots)
  balanced_all = balanced_before (length slots) (ap (λ (slot : Slot). slot.shifted) (get_or_past slots (length slots) blank (omega arith)))

-- a continuation begins no run
pub begins-continuation : (slot : Slot) → slot.continuation ≡ true → begins_run slot ≡ false
begins-continuation slot more = and_right (is_used slot) (not slot.continuation) (ap not more)

-- what lies in a slot that begins no run continues one
continues : (slot : Slot) → is_used slot ≡ true → begins_run slot ≡ false → slot.continuation ≡ true
continues slot used none = elim (cases_Bool slot.continuation) [
  | inl more ↦ more
  | inr first ↦ let begins = and_from (is_used slot) (not slot.continuation) used (ap not first) in cc
]

pub used_begins : (slot : Slot) → begins_run slot ≡ true → is_used slot ≡ true
used_begins slot begins = (and_parts (is_used slot) (not slot.continuation) begins).0

pub used_shifted : (slot : Slot) → slot.shifted ≡ true → is_used slot ≡ true
used_shifted slot shifted = ap (λ s. slot.occupied || s) shifted ∙ or_true slot.occupied

pub used_occupied : (slot : Slot) → slot.occupied ≡ true → is_used slot ≡ true
used_occupied slot occupied = ap (λ o. o || slot.shifted) occupied

module _ (slots : List Slot) (laid : IsLaid slots) where
  -- what lies from `end` on in a run that began before continues it there
  back_to : (end n : ℕ) → used_at slots (n + end) ≡ true → ((t : ℕ) → end ≤ t → t ≤ n + end → begins_at slots t ≡ false) → (at slots end).continuation ≡ true
  back_to end zero used none =
      let here : 0 + end ≡ end = omega arith in
      continues (at slots end) (rw (← here) used) (none end (omega arith) (omega arith))
  back_to end (suc n) used none =
      let here : suc n + end ≡ suc (n + end) = omega arith in
      let used_here : used_at slots (suc (n + end)) ≡ true = rw (← here) used in
      let more = continues (at slots (suc (n + end))) used_here (none (suc (n + end)) (omega arith) (omega arith)) in
      back_to end n (laid.follows (n + end) more) (λ t from below. none t from (omega arith))

  module _ (run position remainder : ℕ) (from : run ≤ position) (continued : (t : ℕ) → run < t → t ≤ position → (at slots t).continuation ≡ true) where
    -- no run begins while one continues
    pub runs_continued : runs slots (suc position) ≡ runs slots (suc run)
    runs_continued =
        sym (tally_none (begins_at slots) (suc run) (suc position) (omega arith) (λ t after before. begins-continuation (at slots t) (continued t (omega arith) (omega arith))))

    pub has_here : begins_at slots run ≡ true → position < length slots → (at slots position).remainder ≡ remainder → some_below (has_at slots (runs slots (suc run)) remainder) (length slots) ≡ true
    has_here begins within same =
        some_found (has_at slots (runs slots (suc run)) remainder) position (length slots) within (
        and_from _ _ (and_from _ _ used (eq-eqb _ _ runs_continued)) (eq-eqb _ _ same)
        )
      where
        used : used_at slots position ≡ true
        used = elim (cases_eq run position) [
          | inl first ↦ rw (← first) (used_begins (at slots run) begins)
          | inr later ↦ used_shifted (at slots position) (laid.shifted position (continued position (omega arith) (omega arith)))
        ]

  -- a run that ends before `end` has not what is not found in it
  pub has_not : (run end remainder : ℕ) → begins_at slots run ≡ true → run < end → (at slots end).continuation ≡ false → ((t : ℕ) → run ≤ t → t < end → (at slots t).remainder ≢ remainder) → some_below (has_at slots (runs slots (suc run)) remainder) (length slots) ≡ false
  has_not run end remainder begins after over missed =
      some_none (has_at slots (runs slots (suc run)) remainder) (length slots) (λ place within. elim (cases_lt place run) [
        | inl before ↦
            and_left _ _ (and_right (used_at slots place) _ (ne_eqb _ _ (λ same. absurd (omega (arith, tally_strict (begins_at slots) (suc place) run (suc run) begins (omega arith) (omega arith))))))
        | inr from ↦ elim (cases_lt place end) [
          | inl inside ↦ and_right _ _ (ne_eqb _ _ (missed place from inside))
          | inr behind ↦ elim (cases_Bool (used_at slots place)) [
            | inl used ↦
                and_left _ _ (and_right (used_at slots place) _ (ne_eqb _ _ (λ same.
                let sum : (place - end) + end ≡ place = omega arith in
                let used_sum : used_at slots ((place - end) + end) ≡ true = rw sum used in
                let more = back_to end (place - end) used_sum (λ t past upto. none_between (begins_at slots) (suc run) (suc place) t (sym same) (omega arith) (omega arith)) in
                both_ways (at slots end).continuation over more)))
            | inr unused ↦ and_left _ _ (and_left _ _ unused)
          ]
        ]
      ])
