-- A filled table after one more remainder is laid.
use Rattle.std.proofs.Common.{◌≡◌, ◌≢◌, ℕ, suc, ◌+◌, ◌<◌, ◌≤◌, ◌⊎◌, max, List, length, set, Bool, true, false, ◌&&◌, not, ◌==◌, nat_lt, refl, sym, ap, ◌∙◌, inl, inr, arith, length-set, get_or-set_same, get_or-set_other}
use Rattle.std.proofs.lemmas.Bool.{cases_lt, cases_eq, and_parts, and_from, both_ways, eq-eqb, eqb-true, ne_eqb, lt-ltb, le-ltb}
use Rattle.spl_quotient.specs.Slot.{Slot, blank, is_used, begins_run}
use Rattle.spl_quotient.specs.Table.{at, occupied_at, used_at, begins_at, homes, runs, has_at, has, IsLaid}
use Rattle.spl_quotient.specs.Filling.{IsFilled, Gains}
use Rattle.spl_quotient.proofs.Tallies.{tally_none, tally_mono, tally_strict, tally_same, tally_more, some_found, some_where}
use Rattle.spl_quotient.proofs.Runs.{used_shifted, used_occupied, begins-continuation}

-- what a table has, as its parts
pub record Has (slots : List Slot) (home remainder : ℕ) : Type 0 where
  pub occupied : occupied_at slots home ≡ true
  pub place : ℕ
  pub within : place < length slots
  pub used : used_at slots place ≡ true
  pub number : runs slots (suc place) ≡ homes slots (suc home)
  pub same : (at slots place).remainder ≡ remainder

pub has_from : (slots : List Slot) (home remainder : ℕ) → Has slots home remainder → has slots home remainder ≡ true
has_from slots home remainder parts =
    and_from _ _ parts.occupied (
    some_found (has_at slots (homes slots (suc home)) remainder) parts.place (length slots) parts.within (
    and_from _ _ (and_from _ _ parts.used (eq-eqb _ _ parts.number)) (eq-eqb _ _ parts.same)
    )
    )

pub has_parts : (slots : List Slot) (home remainder : ℕ) → has slots home remainder ≡ true → Has slots home remainder
has_parts slots home remainder is =
    let both = and_parts (occupied_at slots home) _ is in
    let found = some_where (has_at slots (homes slots (suc home)) remainder) (length slots) both.1 in
    let tests = and_parts _ ((at slots found.0).remainder == remainder) found.2 in
    let used = and_parts (used_at slots found.0) _ tests.0 in
    record {
      occupied = both.0;
      place = found.0;
      within = found.1;
      used = used.0;
      number = eqb-true _ _ used.1;
      same = eqb-true _ _ tests.1;
    }

-- a remainder is written at the place, and its home is marked
pub record Written (slots new : List Slot) (place home remainder : ℕ) (more : Bool) : Type 0 where
  pub before : home ≤ place
  pub within : place < length new
  pub same_length : length new ≡ length slots
  pub here : at new place ≡ record { remainder = remainder; occupied = home == place; continuation = more; shifted = nat_lt home place }
  pub marked : home ≢ place → at new home ≡ record (at slots home) { occupied = true }
  pub others : (j : ℕ) → j ≢ place → j ≢ home → at new j ≡ at slots j

-- what it is written into: the slots from the place on are empty, no slot behind the home is another's home, and those
-- up to the place are shifted
pub record IsReady (slots : List Slot) (place home : ℕ) : Type 0 where
  pub laid : IsLaid slots
  pub blank : (j : ℕ) → place ≤ j → at slots j ≡ blank
  pub free : (j : ℕ) → home < j → occupied_at slots j ≡ false
  pub under : (j : ℕ) → home < j → j < place → (at slots j).shifted ≡ true
  pub used_home : home ≢ place → used_at slots home ≡ true

module _ (slots new : List Slot) (place home remainder : ℕ) (more : Bool) (w : Written slots new place home remainder more) (ready : IsReady slots place home) where
  -- a slot but the place keeps all but that it is a home
  kept : {A : Type 0} (field : Slot → A) → ((slot : Slot) → field (record slot { occupied = true }) ≡ field slot) → (j : ℕ) → j ≢ place → field (at new j) ≡ field (at slots j)
  kept field unmarked j elsewhere = elim (cases_eq j home) [
    | inl same ↦ rw same (ap field (w.marked (λ e. elsewhere (same ∙ e))) ∙ unmarked (at slots home))
    | inr other ↦ ap field (w.others j elsewhere other)
  ]

  continuation_kept : (j : ℕ) → j ≢ place → (at new j).continuation ≡ (at slots j).continuation
  continuation_kept = kept (λ slot. slot.continuation) (λ slot. refl)

  shifted_kept : (j : ℕ) → j ≢ place → (at new j).shifted ≡ (at slots j).shifted
  shifted_kept = kept (λ slot. slot.shifted) (λ slot. refl)

  remainder_kept : (j : ℕ) → j ≢ place → (at new j).remainder ≡ (at slots j).remainder
  remainder_kept = kept (λ slot. slot.remainder) (λ slot. refl)

  occupied_home : occupied_at new home ≡ true
  occupied_home = elim (cases_eq home place) [
    | inl same ↦ ap (occupied_at new) same ∙ ap (λ (slot : Slot). slot.occupied) w.here ∙ eq-eqb home place same
    | inr apart ↦ ap (λ (slot : Slot). slot.occupied) (w.marked apart)
  ]

  occupied_kept : (j : ℕ) → j ≢ home → occupied_at new j ≡ occupied_at slots j
  occupied_kept j other = elim (cases_eq j place) [
    | inl same ↦
        ap (occupied_at new) same
        ∙ ap (λ (slot : Slot). slot.occupied) w.here
        ∙ ne_eqb home place (λ e. other (same ∙ sym e))
        ∙ sym (ap (λ (slot : Slot). slot.occupied) (ready.blank j (omega arith)))
    | inr elsewhere ↦ ap (λ (slot : Slot). slot.occupied) (w.others j elsewhere other)
  ]

  shifted_place : home < place → (at new place).shifted ≡ true
  shifted_place apart = ap (λ (slot : Slot). slot.shifted) w.here ∙ lt-ltb home place apart

  used_place : used_at new place ≡ true
  used_place = elim (cases_lt home place) [
    | inl apart ↦ used_shifted (at new place) (shifted_place apart)
    | inr same ↦
        let e : home ≡ place = omega (arith, w.before) in
        used_occupied (at new place) (ap (occupied_at new) (sym e) ∙ occupied_home)
  ]

  used_kept : (j : ℕ) → j ≢ place → used_at new j ≡ used_at slots j
  used_kept j elsewhere = elim (cases_eq j home) [
    | inl same ↦
        ap (used_at new) same
        ∙ used_occupied (at new home) occupied_home
        ∙ sym (ap (used_at slots) same ∙ ready.used_home (λ e. elsewhere (same ∙ e)))
    | inr other ↦ ap is_used (w.others j elsewhere other)
  ]

  begins_kept : (j : ℕ) → j ≢ place → begins_at new j ≡ begins_at slots j
  begins_kept j elsewhere =
      ap (λ used. used && not (at new j).continuation) (used_kept j elsewhere)
      ∙ ap (λ more. used_at slots j && not more) (continuation_kept j elsewhere)

  -- the slots behind the place
  blank_behind : (j : ℕ) → suc place ≤ j → at new j ≡ blank
  blank_behind j behind = w.others j (λ e. absurd (omega arith)) (λ e. absurd (omega (arith, w.before))) ∙ ready.blank j (omega arith)

  none_behind : (j : ℕ) → home < j → occupied_at new j ≡ false
  none_behind j behind = occupied_kept j (λ e. absurd (omega arith)) ∙ ready.free j behind

  shifted_behind : (j : ℕ) → home < j → j < suc place → (at new j).shifted ≡ true
  shifted_behind j behind upto = elim (cases_eq j place) [
    | inl same ↦ ap (λ (n : ℕ). (at new n).shifted) same ∙ shifted_place (omega arith)
    | inr other ↦ shifted_kept j other ∙ ready.under j behind (omega arith)
  ]

  first_kept : (at new 0).shifted ≡ false
  first_kept = elim (cases_eq 0 place) [
    | inl same ↦ ap (λ (n : ℕ). (at new n).shifted) same ∙ ap (λ (slot : Slot). slot.shifted) w.here ∙ le-ltb home place (omega arith)
    | inr other ↦ shifted_kept 0 other ∙ ready.laid.first
  ]

  module _ (apart : more ≡ true → home < place) where
    continuation_shifted : (j : ℕ) → (at new j).continuation ≡ true → (at new j).shifted ≡ true
    continuation_shifted j is = elim (cases_eq j place) [
      | inl same ↦
          let is_more = sym (ap (λ (slot : Slot). slot.continuation) w.here) ∙ sym (ap (λ (n : ℕ). (at new n).continuation) same) ∙ is in
          ap (λ (n : ℕ). (at new n).shifted) same ∙ shifted_place (apart is_more)
      | inr other ↦ shifted_kept j other ∙ ready.laid.shifted j (sym (continuation_kept j other) ∙ is)
    ]

    continuation_follows : (j : ℕ) → (at new (suc j)).continuation ≡ true → used_at new j ≡ true
    continuation_follows j is = elim (cases_eq j place) [
      | inl same ↦ ap (used_at new) same ∙ used_place
      | inr elsewhere ↦ elim (cases_eq (suc j) place) [
        | inl next ↦
            let is_more = sym (ap (λ (slot : Slot). slot.continuation) w.here) ∙ sym (ap (λ (n : ℕ). (at new n).continuation) next) ∙ is in
            elim (cases_eq j home) [
              | inl same ↦ ap (used_at new) same ∙ used_occupied (at new home) occupied_home
              | inr other ↦ used_shifted (at new j) (shifted_behind j (omega (arith, apart is_more)) (omega arith))
            ]
        | inr other ↦ used_kept j elsewhere ∙ ready.laid.follows j (sym (continuation_kept (suc j) other) ∙ is)
      ]
    ]

-- what is laid lies before the place
used_before : (slots : List Slot) (place home : ℕ) → IsReady slots place home → (j : ℕ) → used_at slots j ≡ true → j < place
used_before slots place home ready j used = elim (cases_lt j place) [
  | inl before ↦ before
  | inr behind ↦ absurd (both_ways (used_at slots j) (ap is_used (ready.blank j behind)) used)
]

-- the last home is the one with the greatest number
last_occupied : (slots : List Slot) (h home : ℕ) → occupied_at slots h ≡ true → occupied_at slots home ≡ true → homes slots (suc h) ≡ homes slots (suc home) → (home < h → occupied_at slots h ≡ false) → h ≡ home
last_occupied slots h home is last numbers free = elim (cases_lt h home) [
  | inl before ↦ absurd (omega (arith, tally_strict (occupied_at slots) (suc h) home (suc home) last before (omega arith)))
  | inr from ↦ elim (cases_eq h home) [
    | inl same ↦ same
    | inr other ↦ absurd (both_ways (occupied_at slots h) (free (omega arith)) is)
  ]
]

-- the remainder goes on with the last run
module _ (slots new : List Slot) (place home remainder : ℕ) (w : Written slots new place home remainder true) (ready : IsReady slots place home) (apart : home < place) (was : occupied_at slots home ≡ true) where
  same_occupied : (j : ℕ) → occupied_at new j ≡ occupied_at slots j
  same_occupied j = elim (cases_eq j home) [
    | inl same ↦ ap (occupied_at new) same ∙ occupied_home slots new place home remainder true w ready ∙ sym (ap (occupied_at slots) same ∙ was)
    | inr other ↦ occupied_kept slots new place home remainder true w ready j other
  ]

  same_begins : (j : ℕ) → begins_at new j ≡ begins_at slots j
  same_begins j = elim (cases_eq j place) [
    | inl same ↦
        ap (begins_at new) same
        ∙ begins-continuation (at new place) (ap (λ (slot : Slot). slot.continuation) w.here)
        ∙ sym (ap begins_run (ready.blank j (omega arith)))
    | inr elsewhere ↦ begins_kept slots new place home remainder true w ready j elsewhere
  ]

  same_homes : (n : ℕ) → homes new n ≡ homes slots n
  same_homes n = tally_same (occupied_at slots) (occupied_at new) n (λ k below. same_occupied k)

  same_runs : (n : ℕ) → runs new n ≡ runs slots n
  same_runs n = tally_same (begins_at slots) (begins_at new) n (λ k below. same_begins k)

  -- the run of the home is the last one
  last_run : runs slots (suc place) ≡ homes slots (suc home)
  last_run =
      ready.laid.balanced place (ap (λ (slot : Slot). slot.shifted) (ready.blank place (omega arith)))
      ∙ sym (tally_none (occupied_at slots) (suc home) (suc place) (omega arith) (λ k from below. ready.free k (omega arith)))

  pub filled_on : IsFilled new (suc place) home
  filled_on = record {
    laid = record {
      first = first_kept slots new place home remainder true w ready;
      balanced = λ j unshifted. elim (cases_eq j place) [
        | inl same ↦ absurd (both_ways (at new j).shifted unshifted (ap (λ (n : ℕ). (at new n).shifted) same ∙ shifted_place slots new place home remainder true w ready apart))
        | inr elsewhere ↦
            same_runs (suc j)
            ∙ ready.laid.balanced j (sym (shifted_kept slots new place home remainder true w ready j elsewhere) ∙ unshifted)
            ∙ sym (same_homes (suc j))
      ];
      shifted = continuation_shifted slots new place home remainder true w ready (λ e. apart);
      follows = continuation_follows slots new place home remainder true w ready (λ e. apart);
    };
    blank = blank_behind slots new place home remainder true w ready;
    last_home = λ some. occupied_home slots new place home remainder true w ready;
    none_later = none_behind slots new place home remainder true w ready;
    behind = shifted_behind slots new place home remainder true w ready;
  }

  pub gains_on : Gains slots new home remainder
  gains_on h r = (
    λ is. gained (has_parts new h r is),
    λ either. elim either [
      | inl old ↦ has_from new h r (kept_on (has_parts slots h r old))
      | inr these ↦ has_from new h r (record {
        occupied = rw these.0 (occupied_home slots new place home remainder true w ready);
        place = place;
        within = w.within;
        used = used_place slots new place home remainder true w ready;
        number = same_runs (suc place) ∙ last_run ∙ sym (same_homes (suc home)) ∙ ap (λ (n : ℕ). homes new (suc n)) (sym these.0);
        same = ap (λ (slot : Slot). slot.remainder) w.here ∙ sym these.1;
      })
    ],
  )
    where
      kept_on : Has slots h r → Has new h r
      kept_on old =
          let elsewhere : old.place ≢ place = λ e. absurd (omega (arith, used_before slots place home ready old.place old.used)) in
          record {
            occupied = same_occupied h ∙ old.occupied;
            place = old.place;
            within = omega (arith, w.same_length, old.within);
            used = used_kept slots new place home remainder true w ready old.place elsewhere ∙ old.used;
            number = same_runs (suc old.place) ∙ old.number ∙ sym (same_homes (suc h));
            same = remainder_kept slots new place home remainder true w ready old.place elsewhere ∙ old.same;
          }

      gained : Has new h r → (has slots h r ≡ true) ⊎ ((h ≡ home) × (r ≡ remainder))
      gained is = elim (cases_eq is.place place) [
        | inl same ↦
            let numbers : homes slots (suc h) ≡ homes slots (suc home) =
            sym (same_homes (suc h)) ∙ sym is.number ∙ ap (λ (n : ℕ). runs new (suc n)) same ∙ same_runs (suc place) ∙ last_run in
            inr (
              last_occupied slots h home (sym (same_occupied h) ∙ is.occupied) was numbers (ready.free h),
              sym is.same ∙ ap (λ (n : ℕ). (at new n).remainder) same ∙ ap (λ (slot : Slot). slot.remainder) w.here,
            )
        | inr elsewhere ↦
            inl (has_from slots h r (record {
              occupied = sym (same_occupied h) ∙ is.occupied;
              place = is.place;
              within = omega (arith, w.same_length, is.within);
              used = sym (used_kept slots new place home remainder true w ready is.place elsewhere) ∙ is.used;
              number = sym (same_runs (suc is.place)) ∙ is.number ∙ same_homes (suc h);
              same = sym (remainder_kept slots new place home remainder true w ready is.place elsewhere) ∙ is.same;
            }))
      ]

-- the remainder begins a run
module _ (slots new : List Slot) (place home remainder : ℕ) (w : Written slots new place home remainder false) (ready : IsReady slots place home) (was : occupied_at slots home ≡ false) (under_home : home < place → (at slots home).shifted ≡ true) where
  homes_before : (n : ℕ) → n ≤ home → homes new n ≡ homes slots n
  homes_before n upto =
      tally_same (occupied_at slots) (occupied_at new) n (λ k below. occupied_kept slots new place home remainder false w ready k (λ e. absurd (omega arith)))

  homes_behind : (n : ℕ) → home < n → homes new n ≡ homes slots n + 1
  homes_behind n behind =
      tally_more (occupied_at slots) (occupied_at new) home n was (occupied_home slots new place home remainder false w ready) (occupied_kept slots new place home remainder false w ready) behind

  runs_before : (n : ℕ) → n ≤ place → runs new n ≡ runs slots n
  runs_before n upto =
      tally_same (begins_at slots) (begins_at new) n (λ k below. begins_kept slots new place home remainder false w ready k (λ e. absurd (omega arith)))

  begins_place : begins_at new place ≡ true
  begins_place =
      and_from (used_at new place) _ (used_place slots new place home remainder false w ready) (ap (λ (slot : Slot). not slot.continuation) w.here)

  runs_behind : (n : ℕ) → place < n → runs new n ≡ runs slots n + 1
  runs_behind n behind =
      tally_more (begins_at slots) (begins_at new) place n (ap begins_run (ready.blank place (omega arith))) begins_place (begins_kept slots new place home remainder false w ready) behind

  -- all runs of the homes before have begun
  all_begun : runs slots (suc place) ≡ homes slots (suc home)
  all_begun =
      ready.laid.balanced place (ap (λ (slot : Slot). slot.shifted) (ready.blank place (omega arith)))
      ∙ sym (tally_none (occupied_at slots) (suc home) (suc place) (omega (arith, w.before)) (λ k from below. ready.free k (omega arith)))

  balanced_on : (j : ℕ) → (at new j).shifted ≡ false → runs new (suc j) ≡ homes new (suc j)
  balanced_on j unshifted = elim (cases_eq j place) [
    | inl same ↦
        rw same (omega (
          arith,
          w.before,
          runs_behind (suc place) (omega arith),
          homes_behind (suc place) (omega (arith, w.before)),
          ready.laid.balanced place (ap (λ (slot : Slot). slot.shifted) (ready.blank place (omega arith))),
        ))
    | inr elsewhere ↦
        let old = ready.laid.balanced j (sym (shifted_kept slots new place home remainder false w ready j elsewhere) ∙ unshifted) in
        elim (cases_lt j home) [
          | inl first ↦ omega (arith, old, w.before, runs_before (suc j) (omega (arith, w.before)), homes_before (suc j) (omega arith))
          | inr from ↦ elim (cases_lt j place) [
            | inl inside ↦
                absurd (both_ways (at new j).shifted unshifted (shifted_kept slots new place home remainder false w ready j elsewhere ∙ under j from inside))
            | inr behind ↦ omega (arith, old, w.before, runs_behind (suc j) (omega arith), homes_behind (suc j) (omega (arith, w.before)))
          ]
        ]
  ]
    where
      under : (j : ℕ) → home ≤ j → j < place → (at slots j).shifted ≡ true
      under j from inside = elim (cases_eq j home) [
        | inl same ↦ ap (λ (n : ℕ). (at slots n).shifted) same ∙ under_home (omega arith)
        | inr other ↦ ready.under j (omega arith) inside
      ]

  pub filled_new : IsFilled new (suc place) home
  filled_new = record {
    laid = record {
      first = first_kept slots new place home remainder false w ready;
      balanced = balanced_on;
      shifted = continuation_shifted slots new place home remainder false w ready (λ e. cc);
      follows = continuation_follows slots new place home remainder false w ready (λ e. cc);
    };
    blank = blank_behind slots new place home remainder false w ready;
    last_home = λ some. occupied_home slots new place home remainder false w ready;
    none_later = none_behind slots new place home remainder false w ready;
    behind = shifted_behind slots new place home remainder false w ready;
  }

  -- a home of before lies before the new one
  homes_first : (h : ℕ) → occupied_at slots h ≡ true → h < home
  homes_first h is = elim (cases_lt h home) [
    | inl before ↦ before
    | inr from ↦ elim (cases_eq h home) [
      | inl same ↦ absurd (both_ways (occupied_at slots h) (ap (occupied_at slots) same ∙ was) is)
      | inr other ↦ absurd (both_ways (occupied_at slots h) (ready.free h (omega arith)) is)
    ]
  ]

  pub gains_new : Gains slots new home remainder
  gains_new h r = (
    λ is. gained (has_parts new h r is),
    λ either. elim either [
      | inl old ↦ has_from new h r (kept_on (has_parts slots h r old))
      | inr these ↦ has_from new h r (record {
        occupied = rw these.0 (occupied_home slots new place home remainder false w ready);
        place = place;
        within = w.within;
        used = used_place slots new place home remainder false w ready;
        number =
            rw these.0 (runs_behind (suc place) (omega arith) ∙ ap (λ (n : ℕ). n + 1) all_begun ∙ sym (homes_behind (suc home) (omega arith)));
        same = ap (λ (slot : Slot). slot.remainder) w.here ∙ sym these.1;
      })
    ],
  )
    where
      kept_on : Has slots h r → Has new h r
      kept_on old =
          let before = used_before slots place home ready old.place old.used in
          let elsewhere : old.place ≢ place = λ e. absurd (omega arith) in
          let first = homes_first h old.occupied in
          record {
            occupied = occupied_kept slots new place home remainder false w ready h (λ e. absurd (omega arith)) ∙ old.occupied;
            place = old.place;
            within = omega (arith, w.same_length, old.within);
            used = used_kept slots new place home remainder false w ready old.place elsewhere ∙ old.used;
            number = runs_before (suc old.place) (omega arith) ∙ old.number ∙ sym (homes_before (suc h) (omega arith));
            same = remainder_kept slots new place home remainder false w ready old.place elsewhere ∙ old.same;
          }

      -- of the homes now the new one is the last
      upto : occupied_at new h ≡ true → h ≤ home
      upto now = elim (cases_lt home h) [
        | inl behind ↦ absurd (both_ways (occupied_at new h) (none_behind slots new place home remainder false w ready h behind) now)
        | inr before ↦ before
      ]

      gained : Has new h r → (has slots h r ≡ true) ⊎ ((h ≡ home) × (r ≡ remainder))
      gained is = elim (cases_eq is.place place) [
        | inl same ↦ elim (cases_eq h home) [
          | inl home_is ↦
              inr (home_is, sym is.same ∙ ap (λ (n : ℕ). (at new n).remainder) same ∙ ap (λ (slot : Slot). slot.remainder) w.here)
          | inr other ↦
              let before : h < home = omega (arith, upto is.occupied) in
              let number = ap (λ (n : ℕ). runs new (suc n)) (sym same) ∙ is.number in
              absurd (omega (
                arith,
                number,
                runs_behind (suc place) (omega arith),
                all_begun,
                homes_before (suc h) (omega arith),
                tally_mono (occupied_at slots) (suc h) (suc home) (omega arith),
              ))
        ]
        | inr elsewhere ↦
            let used = sym (used_kept slots new place home remainder false w ready is.place elsewhere) ∙ is.used in
            let inside = used_before slots place home ready is.place used in
            elim (cases_eq h home) [
              | inl home_is ↦
                  let number = is.number ∙ ap (λ (n : ℕ). homes new (suc n)) home_is in
                  absurd (omega (
                    arith,
                    number,
                    runs_before (suc is.place) (omega arith),
                    all_begun,
                    homes_behind (suc home) (omega arith),
                    tally_mono (begins_at slots) (suc is.place) (suc place) (omega arith),
                  ))
              | inr other ↦
                  inl (has_from slots h r (record {
                    occupied = sym (occupied_kept slots new place home remainder false w ready h other) ∙ is.occupied;
                    place = is.place;
                    within = omega (arith, w.same_length, is.within);
                    used = used;
                    number = sym (runs_before (suc is.place) (omega arith)) ∙ is.number ∙ homes_before (suc h) (omega (arith, upto is.occupied));
                    same = sym (remainder_kept slots new place home remainder false w ready is.place elsewhere) ∙ is.same;
                  }))
            ]
      ]

-- one more remainder, by what is written
module _ (slots : List Slot) (next last home remainder : ℕ) (more : Bool) (filled : IsFilled slots next last) (order : 0 < next → last ≤ home) (room : next < length slots) (within : home < length slots) where
  place : ℕ
  place = max next home

  -- the slots with the home marked and the remainder at the place
  abbrev pub laid_slots : List Slot
  laid_slots =
      let marked = set slots home (record (at slots home) { occupied = true }) in
      set marked (max next home) (record { remainder = remainder; occupied = home == max next home; continuation = more; shifted = nat_lt home (max next home) })

  written : Written slots laid_slots (max next home) home remainder more
  written =
      let mark : Slot = record (at slots home) { occupied = true } in
      let marked = set slots home mark in
      let piece : Slot = record { remainder = remainder; occupied = home == max next home; continuation = more; shifted = nat_lt home (max next home) } in
      let marked_long = length-set slots home mark in
      let long = length-set marked (max next home) piece ∙ marked_long in
      record {
        before = omega arith;
        within = omega arith;
        same_length = long;
        here = get_or-set_same marked (max next home) piece blank (omega arith);
        marked = λ apart. get_or-set_other marked (max next home) home piece blank apart ∙ get_or-set_same slots home mark blank within;
        others = λ j elsewhere other. get_or-set_other marked (max next home) j piece blank elsewhere ∙ get_or-set_other slots home j mark blank other;
      }

  -- no home lies behind
  free : (j : ℕ) → home < j → occupied_at slots j ≡ false
  free j behind = elim (cases_lt 0 next) [
    | inl some ↦ filled.none_later j (omega (arith, order some))
    | inr none ↦ ap (λ (slot : Slot). slot.occupied) (filled.blank j (omega arith))
  ]

  last_before : 0 < next → last < next
  last_before some = elim (cases_lt last next) [
    | inl before ↦ before
    | inr behind ↦ absurd (both_ways (occupied_at slots last) (ap (λ (slot : Slot). slot.occupied) (filled.blank last behind)) (filled.last_home some))
  ]

  ready : IsReady slots (max next home) home
  ready = record {
    laid = filled.laid;
    blank = λ j from. filled.blank j (omega arith);
    free = free;
    under = λ j behind before. filled.behind j (omega (arith, order (omega arith))) (omega arith);
    used_home = λ apart. elim (cases_eq home last) [
      | inl same ↦ used_occupied (at slots home) (ap (occupied_at slots) same ∙ filled.last_home (omega arith))
      | inr other ↦ used_shifted (at slots home) (filled.behind home (omega (arith, order (omega arith))) (omega arith))
    ];
  }

pub laid_more : (slots : List Slot) (next last home remainder : ℕ) (more : Bool) (filled : IsFilled slots next last) (order : 0 < next → last ≤ home) (room : next < length slots) (within : home < length slots) → (more ≡ true → (0 < next) × (home ≡ last)) → (more ≡ false → 0 < next → home ≢ last) → IsFilled (laid_slots slots next last home remainder more filled order room within) (suc (max next home)) home × Gains slots (laid_slots slots next last home remainder more filled order room within) home remainder
laid_more slots next last home remainder true filled order room within is_more is_new =
    let new = laid_slots slots next last home remainder true filled order room within in
    let w = written slots next last home remainder true filled order room within in
    let is_ready = ready slots next last home remainder true filled order room within in
    let more = is_more refl in
    let before = last_before slots next last home remainder true filled order room within more.0 in
    let apart : home < max next home = omega (arith, more.1) in
    let was : occupied_at slots home ≡ true = ap (occupied_at slots) more.1 ∙ filled.last_home more.0 in
    (filled_on slots new (max next home) home remainder w is_ready apart was, gains_on slots new (max next home) home remainder w is_ready apart was)
laid_more slots next last home remainder false filled order room within is_more is_new =
    let new = laid_slots slots next last home remainder false filled order room within in
    let w = written slots next last home remainder false filled order room within in
    let is_ready = ready slots next last home remainder false filled order room within in
    (filled_new slots new (max next home) home remainder w is_ready was under, gains_new slots new (max next home) home remainder w is_ready was under)
  where
    later : 0 < next → last < home
    later some = let other = is_new refl some in omega (arith, order some)

    was : occupied_at slots home ≡ false
    was = elim (cases_lt 0 next) [
      | inl some ↦ filled.none_later home (later some)
      | inr none ↦ ap (λ (slot : Slot). slot.occupied) (filled.blank home (omega arith))
    ]

    under : home < max next home → (at slots home).shifted ≡ true
    under apart = filled.behind home (later (omega arith)) (omega arith)
