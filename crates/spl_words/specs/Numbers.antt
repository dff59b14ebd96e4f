-- The numbers that texts spell.
use Rattle.std.specs.Prelude.{ℕ, ◌^◌, nat_lt, nat_le, ◌&&◌, if◌then◌else◌, List, length, Option, Some, None, option_and_then}
use Rattle.std.specs.Char.{is_ascii_digit}
use Rattle.std.specs.List.{list_all}
use Rattle.std.specs.Str.Parse.{digits_value}

-- 1 to 20 decimal digits, whose number is below 2^64
abbrev pub number_of : List ℕ → Option ℕ
number_of text =
    if nat_lt 0 (length text) && nat_le (length text) 20 && list_all is_ascii_digit text && nat_lt (digits_value 10 text) (2 ^ 64)
    then Some (digits_value 10 text) else None

-- such a number from a least one to a greatest one
abbrev pub number_in : ℕ → ℕ → List ℕ → Option ℕ
number_in least most text =
    option_and_then (λ number. if nat_le least number && nat_le number most then Some number else None) (number_of text)
