-- Texts, which spell the bytes of keys and values.
use Rattle.std.specs.Prelude.{ℕ, ◌+◌, ◌-◌, ◌*◌, ◌/◌, ◌%◌, ◌==◌, nat_lt, nat_le, Bool, ◌&&◌, not, if◌then◌else◌, List, [], ◌∷◌, flat_map, Option, Some, None}

-- a byte from `!` to `~` that is no `%` may be spelled by its character
abbrev pub is_plain : ℕ → Bool
is_plain byte = nat_lt 32 byte && nat_lt byte 127 && not (byte == 37)

-- a hexadecimal digit is `0` to `9`, `A` to `F` or `a` to `f`
abbrev pub digit_of : ℕ → Option ℕ
digit_of byte =
    if nat_le 48 byte && nat_le byte 57 then Some (byte - 48)
    else if nat_le 65 byte && nat_le byte 70 then Some (byte - 55)
    else if nat_le 97 byte && nat_le byte 102 then Some (byte - 87)
    else None

-- a byte by its character, before what the rest spells
abbrev pub plain_first : ℕ → Option (List ℕ) → Option (List ℕ)
plain_first byte None = None
plain_first byte (Some bytes) = if is_plain byte then Some (byte ∷ bytes) else None

-- a byte by its two digits, before what the rest spells
abbrev pub escaped_first : Option ℕ → Option ℕ → Option (List ℕ) → Option (List ℕ)
escaped_first (Some high) (Some low) (Some bytes) = Some ((16 * high + low) ∷ bytes)
escaped_first (Some high) (Some low) None = None
escaped_first (Some high) None bytes = None
escaped_first None low bytes = None

-- The bytes that a text spells: `%` and two digits spell any byte, and every other byte is plain. What else there is,
-- is no text.
abbrev pub spelled : List ℕ → Option (List ℕ)
spelled [] = Some []
spelled (byte ∷ []) = plain_first byte (Some [])
spelled (byte ∷ next ∷ []) = plain_first byte (spelled (next ∷ []))
spelled (byte ∷ next ∷ last ∷ text) =
    if byte == 37 then escaped_first (digit_of next) (digit_of last) (spelled text) else plain_first byte (spelled (next ∷ last ∷ text))

-- a byte that is written by its character: a plain one other than `*`
abbrev pub is_shown : ℕ → Bool
is_shown byte = is_plain byte && not (byte == 42)

-- the digits that are written are `0` to `9` and `A` to `F`
abbrev pub hex_digit : ℕ → ℕ
hex_digit digit = if nat_lt digit 10 then 48 + digit else 55 + digit

-- every other byte is written as `%` and two digits
abbrev pub byte_text : ℕ → List ℕ
byte_text byte = if is_shown byte then byte ∷ [] else 37 ∷ hex_digit (byte / 16) ∷ hex_digit (byte % 16) ∷ []

-- the one text of bytes that is written
abbrev pub text_of : List ℕ → List ℕ
text_of bytes = flat_map byte_text bytes
