-- What a key holds.
use Rattle.std.specs.Prelude.{ℕ, ◌≤◌, List, length, Option, Some, None}

-- a value has at most 512 bytes
abbrev pub IsValue : List ℕ → Type 0
IsValue bytes = length bytes ≤ 512

-- a cell is none or a value
abbrev pub Cell : Type 0
Cell = Option (List ℕ)

abbrev pub IsCell : Cell → Type 0
IsCell None = Unit {0}
IsCell (Some bytes) = IsValue bytes
