-- The fields of a line: a caller, a key, a value and an end of a scan.
use Rattle.std.specs.Prelude.{ℕ, ◌==◌, nat_lt, nat_le, ◌&&◌, if◌then◌else◌, List, [], ◌∷◌, codes, length, Option, Some, None, Result, Ok, Err}
use Rattle.std.specs.List.{list_all}
use Rattle.std.specs.Char.{is_ascii_digit}
use Rattle.std.specs.Str.{bytes_eq}
use Rattle.std.specs.Str.Parse.{digits_value}
use Rattle.spl_script.specs.declared.reason.LineWhy.{LineWhy}
use Rattle.spl_script.specs.declared.reason.LineWhy.TheVariants.{Text, Key, Value}
use Rattle.spl_script.specs.Reason.{◌>>=◌, told}
use Rattle.spl_script.specs.Text.{spelled}

-- a caller is 1 to 20 decimal digits whose number is below the number of callers
abbrev pub caller_of : ℕ → List ℕ → Option ℕ
caller_of callers field =
    if nat_lt 0 (length field) && nat_le (length field) 20 && list_all is_ascii_digit field && nat_lt (digits_value 10 field) callers
    then Some (digits_value 10 field) else None

-- a key has 1 to 64 bytes
abbrev pub key_of_bytes : List ℕ → Result (List ℕ) LineWhy
key_of_bytes bytes = if nat_lt 0 (length bytes) && nat_le (length bytes) 64 then Ok bytes else Err Key

-- a key's field is a text of them
abbrev pub key_of : List ℕ → Result (List ℕ) LineWhy
key_of field = told Text (spelled field) >>= key_of_bytes

-- a value has at most 512 bytes
abbrev pub value_of_bytes : List ℕ → Result (List ℕ) LineWhy
value_of_bytes bytes = if nat_le (length bytes) 512 then Ok bytes else Err Value

-- a value's text spells them
abbrev pub value_of_text : List ℕ → Result (List ℕ) LineWhy
value_of_text text = told Text (spelled text) >>= value_of_bytes

-- a value's field is `=` and such a text
abbrev pub value_of : List ℕ → Result (List ℕ) LineWhy
value_of [] = Err Value
value_of (first ∷ text) = if first == 61 then value_of_text text else Err Value

-- an end of a scan is `*` alone, which is open, or a key's field
abbrev pub end_of : List ℕ → Result (Option (List ℕ)) LineWhy
end_of field = if bytes_eq field (codes "*") then Ok None else (key_of field >>= λ key. Ok (Some key))
