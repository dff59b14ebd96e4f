-- A table that is filled from its first position on, in the order of the homes.
use Rattle.std.specs.Prelude.{◌≡◌, ℕ, suc, ◌+◌, ◌-◌, ◌%◌, ◌^◌, ◌<◌, ◌≤◌, ◌⊎◌, ◌↔◌, true, false, List, length, slice_index}
use Rattle.spl_quotient.specs.Slot.{Slot, blank}
use Rattle.spl_quotient.specs.Table.{at, occupied_at, has, place_in_turn, home_in, IsLaid}

-- the fingerprint that comes after so many, where the one at `first` comes first
abbrev pub print_at : List ℕ → ℕ → ℕ → ℕ
print_at prints first k = slice_index prints (place_in_turn first (length prints) k)

-- one of so many fingerprints has the home and the remainder
abbrev pub HasPrint : List ℕ → ℕ → ℕ → ℕ → ℕ → ℕ → ℕ → Type 0
HasPrint prints first origin len count home remainder =
    (k : ℕ) × (k < count) × (home_in origin len (print_at prints first k) ≡ home) × (print_at prints first k % 2 ^ 12 ≡ remainder)

-- the fingerprints come in the order of their homes, and each leaves room for itself and those after it
pub record IsInTurn (prints : List ℕ) (first origin len : ℕ) : Type 0 where
  pub order : (k : ℕ) → suc k < length prints → home_in origin len (print_at prints first k) ≤ home_in origin len (print_at prints first (suc k))
  pub room : (k : ℕ) → k < length prints → home_in origin len (print_at prints first k) + (length prints - k) ≤ len

-- the slots are filled up to `next`, and the last run is that of the home `last`
pub record IsFilled (slots : List Slot) (next last : ℕ) : Type 0 where
  pub laid : IsLaid slots
  pub blank : (j : ℕ) → next ≤ j → at slots j ≡ blank
  pub last_home : 0 < next → occupied_at slots last ≡ true
  pub none_later : (j : ℕ) → last < j → occupied_at slots j ≡ false
  -- what lies behind the last home is not in the slot of its quotient
  pub behind : (j : ℕ) → last < j → j < next → (at slots j).shifted ≡ true

-- the table has what it had, and the remainder in the run of the home
abbrev pub Gains : List Slot → List Slot → ℕ → ℕ → Type 0
Gains old new home remainder =
    (h r : ℕ) → (has new h r ≡ true) ↔ ((has old h r ≡ true) ⊎ ((h ≡ home) × (r ≡ remainder)))
