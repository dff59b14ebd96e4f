-- FNV-1a with 64 bits.
use Rattle.std.specs.Prelude.{ℕ, ◌*◌, ◌%◌, ◌^◌, List, fold, bit_xor}

-- the hash with one more byte: first combined, then multiplied
abbrev pub fnv_step : ℕ → ℕ → ℕ
fnv_step hash byte = bit_xor hash byte * 0x100000001b3 % 2 ^ 64

-- the hash of these bytes
unfoldable pub fnv_of : List ℕ → ℕ
fnv_of bytes = fold fnv_step 0xcbf29ce484222325 bytes
