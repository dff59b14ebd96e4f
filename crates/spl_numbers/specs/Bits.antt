-- Bits in words of 64.
use Rattle.std.specs.Prelude.{◌≡◌, ◌≢◌, ℕ, ◌/◌, ◌%◌, ◌==◌, List, Bool, length, slice_index}
use Rattle.std.specs.Int.{bit_at}

unfoldable pub bit : List ℕ → ℕ → Bool
bit words at = bit_at (slice_index words (at / 64)) (at % 64) == 1

-- one bit is now this one, each other bit and each other word as before
pub record ChangesBit (old new : List ℕ) (at : ℕ) (now : Bool) : Type 0 where
  pub words : length new ≡ length old
  pub this_bit : bit new at ≡ now
  pub other_bits : (other : ℕ) → other ≢ at → bit new other ≡ bit old other
  pub other_words : (word : ℕ) → word ≢ at / 64 → slice_index new word ≡ slice_index old word
