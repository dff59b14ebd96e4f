-- The numbers that values spell.
use Rattle.std.specs.Prelude.{ℕ, ◌^◌, nat_le, nat_lt, ◌&&◌, if◌then◌else◌, List, length, Some, None}
use Rattle.std.specs.Char.{is_ascii_digit}
use Rattle.std.specs.List.{list_all}
use Rattle.std.specs.Str.Parse.{digits_value}
use Rattle.spl_message.specs.Cell.{Cell}

-- the number of 1 to 20 decimal digits, where it is below 2^64; all other bytes count as 0
abbrev pub number_of : List ℕ → ℕ
number_of bytes =
    if nat_le (length bytes) 20 && list_all is_ascii_digit bytes && nat_lt (digits_value 10 bytes) (2 ^ 64)
    then digits_value 10 bytes else 0

-- the number of a cell; none counts as 0
abbrev pub number_at : Cell → ℕ
number_at None = 0
number_at (Some bytes) = number_of bytes
