-- A room is some bytes and zeros behind them, up to the room's size, so the bytes give the room back.
use Rattle.std.specs.Prelude.{◌≡◌, ℕ, ◌+◌, ◌-◌, ◌*◌, ◌^◌, ◌<◌, ◌≤◌, List, [], ◌∷◌, ◌++◌, length, take, drop, replicate, All}
use Rattle.std.proofs.Common.{arith, ap, ◌∙◌, sym, take-append-drop, length-take-le}

-- the bytes, with zeros up to the room's size
abbrev pub padded : ℕ → List ℕ → List ℕ
padded size bytes = bytes ++ replicate (size - length bytes) 0

pub length_again : (size : ℕ) (room : List ℕ) (len : ℕ) → len ≤ size → length room ≡ size → length (take len room) ≡ len
length_again size room len small whole = length-take-le len room (omega arith)

pub padded_again : (size : ℕ) (room : List ℕ) (len : ℕ) → len ≤ size → length room ≡ size → drop len room ≡ replicate (size - len) 0 → padded size (take len room) ≡ room
padded_again size room len small whole zeros =
    ap (λ n. take len room ++ replicate (size - n) 0) (length_again size room len small whole)
    ∙ ap (λ rest. take len room ++ rest) (sym zeros)
    ∙ take-append-drop len room

-- in the room stand so many bytes, and zeros behind them
abbrev pub IsRoom : ℕ → List ℕ → ℕ → Type 0
IsRoom size room len = (len ≤ size) × (length room ≡ size) × (drop len room ≡ replicate (size - len) 0)

-- the number that bytes write, the highest first
abbrev pub worth : List ℕ → ℕ
worth [] = 0
worth (byte ∷ bytes) = byte * 256 ^ length bytes + worth bytes

abbrev pub AreBytes : List ℕ → Type 0
AreBytes bytes = All (λ byte. byte < 256) bytes
