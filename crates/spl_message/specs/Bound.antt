-- Bounds: ends that are not included. They are ordered with the keys, by their bytes.
use Rattle.std.specs.Prelude.{◌≡◌, ℕ, true, false, ◌<◌, ◌≤◌, List, length, All}
use Rattle.spl_message.specs.Key.{is_below}

-- a bound is 1 to 65 bytes
abbrev pub IsBound : List ℕ → Type 0
IsBound bound = (0 < length bound) × (length bound ≤ 65) × All (λ byte. byte < 256) bound

-- the bytes are above the key, and whatever else is above the key is not below them
pub record IsLeastAbove (key bytes : List ℕ) : Type 0 where
  pub above : is_below key bytes ≡ true
  pub least : (other : List ℕ) → is_below key other ≡ true → is_below other bytes ≡ false
