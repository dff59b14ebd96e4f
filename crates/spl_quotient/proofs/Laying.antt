-- An empty table, and what a table has after one fingerprint more.
use Rattle.std.proofs.Common.{◌≡◌, ℕ, suc, ◌+◌, ◌%◌, ◌^◌, ◌↔◌, List, length, true, false, sym, ap, ◌∙◌, inl, inr, arith}
use Rattle.std.specs.Prelude.{All}
use Rattle.std.proofs.lemmas.Bool.{cases_lt, cases_eq, and_left}
use Rattle.std.proofs.lemmas.List.{get_or_past}
use Rattle.spl_quotient.specs.Slot.{Slot, blank, begins_run}
use Rattle.spl_quotient.specs.Table.{at, occupied_at, begins_at, homes, runs, has, home_in}
use Rattle.spl_quotient.specs.Filling.{IsFilled, Gains, HasPrint, print_at}
use Rattle.spl_quotient.proofs.Tallies.{tally_none, tally-zero}

module _ (slots : List Slot) (empty : All (λ slot. slot ≡ blank) slots) where
  all_blank : (j : ℕ) → at slots j ≡ blank
  all_blank j = elim (cases_lt j (length slots)) [
    | inl inside ↦ empty j blank inside
    | inr past ↦ get_or_past slots j blank past
  ]

  no_homes : (n : ℕ) → homes slots n ≡ 0
  no_homes n =
      sym (tally_none (occupied_at slots) 0 n (omega arith) (λ k from below. ap (λ (slot : Slot). slot.occupied) (all_blank k)))
      ∙ tally-zero (occupied_at slots)

  no_runs : (n : ℕ) → runs slots n ≡ 0
  no_runs n =
      sym (tally_none (begins_at slots) 0 n (omega arith) (λ k from below. ap begins_run (all_blank k)))
      ∙ tally-zero (begins_at slots)

  pub filled_empty : IsFilled slots 0 0
  filled_empty = record {
    laid = record {
      first = ap (λ (slot : Slot). slot.shifted) (all_blank 0);
      balanced = λ j unshifted. no_runs (suc j) ∙ sym (no_homes (suc j));
      shifted = λ j more. let none = ap (λ (slot : Slot). slot.continuation) (all_blank j) in cc;
      follows = λ j more. let none = ap (λ (slot : Slot). slot.continuation) (all_blank (suc j)) in cc;
    };
    blank = λ j from. all_blank j;
    last_home = λ some. absurd (omega arith);
    none_later = λ j behind. ap (λ (slot : Slot). slot.occupied) (all_blank j);
    behind = λ j behind before. absurd (omega arith);
  }

  pub has_empty : (home remainder : ℕ) → has slots home remainder ≡ false
  has_empty home remainder = and_left _ _ (ap (λ (slot : Slot). slot.occupied) (all_blank home))

module _ (prints : List ℕ) (first origin len : ℕ) where
  pub has_prints_none : (slots : List Slot) → All (λ slot. slot ≡ blank) slots → (h r : ℕ) → (has slots h r ≡ true) ↔ HasPrint prints first origin len 0 h r
  has_prints_none slots empty h r = (
    λ is. let none = has_empty slots empty h r in cc,
    λ found. absurd (omega (arith, found.1)),
  )

  pub has_prints_more : (slots new : List Slot) (i home remainder : ℕ) → Gains slots new home remainder → home ≡ home_in origin len (print_at prints first i) → remainder ≡ print_at prints first i % 2 ^ 12 → ((h r : ℕ) → (has slots h r ≡ true) ↔ HasPrint prints first origin len i h r) → (h r : ℕ) → (has new h r ≡ true) ↔ HasPrint prints first origin len (i + 1) h r
  has_prints_more slots new i home remainder gains home_is remainder_is before h r = (
    λ is. elim ((gains h r).0 is) [
      | inl old ↦ let found = (before h r).0 old in (found.0, omega (arith, found.1), found.2, found.3)
      | inr these ↦ (i, omega arith, sym home_is ∙ sym these.0, sym remainder_is ∙ sym these.1)
    ],
    λ found. elim (cases_eq found.0 i) [
      | inl same ↦
          (gains h r).1 (inr (
            sym found.2 ∙ ap (λ (k : ℕ). home_in origin len (print_at prints first k)) same ∙ sym home_is,
            sym found.3 ∙ ap (λ (k : ℕ). print_at prints first k % 2 ^ 12) same ∙ sym remainder_is,
          ))
      | inr other ↦ (gains h r).1 (inl ((before h r).1 (found.0, omega (arith, found.1), found.2, found.3)))
    ],
  )
