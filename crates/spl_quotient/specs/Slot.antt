-- What a contract sees of a slot.
use Rattle.std.specs.Prelude.{◌≡◌, ℕ, ◌+◌, ◌*◌, ◌/◌, ◌%◌, Bool, false, nat_eq, not, ◌&&◌, ◌||◌, if◌then◌else◌}
use Rattle.std.proofs.Common.{arith, inl, inr}
use Rattle.std.proofs.lemmas.Bool.{cases_eq}

pub record Slot : Type 0 where
  pub remainder : ℕ
  pub occupied : Bool
  pub continuation : Bool
  pub shifted : Bool

-- nothing lies in the slot
abbrev pub blank : Slot
blank = record { remainder = 0; occupied = false; continuation = false; shifted = false }

-- a remainder lies in the slot: an occupied slot that is not its own quotient's is another's
abbrev pub is_used : Slot → Bool
is_used slot = slot.occupied || slot.shifted

-- the first remainder of a run lies in the slot
abbrev pub begins_run : Slot → Bool
begins_run slot = is_used slot && not slot.continuation

-- a slot as its bits: the remainder, and then shifted, continuation and occupied
abbrev pub parts : ℕ → Slot
parts bits = record {
  remainder = bits / 8;
  occupied = nat_eq (bits % 2) 1;
  continuation = nat_eq (bits / 2 % 2) 1;
  shifted = nat_eq (bits / 4 % 2) 1;
}

abbrev pub bit : Bool → ℕ
bit b = if b then 1 else 0

abbrev pub packed : Slot → ℕ
packed slot = slot.remainder * 8 + bit slot.shifted * 4 + bit slot.continuation * 2 + bit slot.occupied

-- an odd number leaves 1
bit-odd : (n : ℕ) → bit (nat_eq (n % 2) 1) ≡ n % 2
bit-odd n = elim (cases_eq (n % 2) 1) [
  | inl odd ↦ rw odd
  | inr even ↦ let zero : n % 2 ≡ 0 = omega arith in rw zero
]

pub packed-parts : (bits : ℕ) → packed (parts bits) ≡ bits
packed-parts bits =
    let occupied = bit-odd bits in
    let continuation = bit-odd (bits / 2) in
    let shifted = bit-odd (bits / 4) in
    rw (occupied, continuation, shifted) (omega arith)
