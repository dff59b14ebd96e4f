-- The greater of two texts, and the end of a text.
use Rattle.std.specs.Prelude.{ℕ, ◌-◌, if◌then◌else◌, List, [], length, drop, Some, None}
use Rattle.spl_message.specs.Cell.{Cell}
use Rattle.spl_message.specs.Key.{is_below}

-- the greater of two by their bytes
abbrev pub greater : List ℕ → List ℕ → List ℕ
greater bytes others = if is_below bytes others then others else bytes

-- the greater of what the cell holds and the bytes
abbrev pub greater_at : Cell → List ℕ → List ℕ
greater_at None operand = operand
greater_at (Some bytes) operand = greater bytes operand

-- the last 512 bytes, or all where there are fewer
abbrev pub end_of : List ℕ → List ℕ
end_of bytes = drop (length bytes - 512) bytes

-- the bytes of a cell; none counts as no bytes
abbrev pub bytes_at : Cell → List ℕ
bytes_at None = []
bytes_at (Some bytes) = bytes
