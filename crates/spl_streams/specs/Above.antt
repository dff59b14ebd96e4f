-- How many keys are above a key: a merge that rises comes to an end.
use Rattle.std.specs.Prelude.{ℕ, zero, suc, ◌+◌, ◌*◌, ◌-◌, List, [], ◌∷◌, Option, None, Some}

-- how many lists of bytes have at most this length, without the empty one
unfoldable pub all_above : ℕ → ℕ
all_above zero = 0
all_above (suc length) = 256 * (1 + all_above length)

-- how many of them are above the bytes
unfoldable pub count_above : ℕ → List ℕ → ℕ
count_above zero bytes = 0
count_above (suc length) [] = all_above (suc length)
count_above (suc length) (byte ∷ bytes) = count_above length bytes + (255 - byte) * (1 + all_above length)

-- how many keys are above the last one, and one more where there is none
abbrev pub keys_left : Option (List ℕ) → ℕ
keys_left None = suc (all_above 64)
keys_left (Some key) = count_above 64 key
