-- Keys. They are ordered by their bytes from the left, and a proper prefix is less: `slice_cmp nat_cmp`.
use Rattle.std.specs.Prelude.{ℕ, Bool, ◌<◌, ◌≤◌, List, length, All}
use Rattle.std.specs.Cmp.Lexicographic.{slice_cmp}
use Rattle.std.specs.List.Sorted.{IsStrictlySortedBy}
use Rattle.std.specs.Ordering.{nat_cmp, is_lt}
use Rattle.std.specs.Str.{bytes_eq}

-- a key is 1 to 64 bytes
abbrev pub IsKey : List ℕ → Type 0
IsKey key = (0 < length key) × (length key ≤ 64) × All (λ byte. byte < 256) key

-- two keys are one if they have the same bytes
abbrev pub same_key : List ℕ → List ℕ → Bool
same_key = bytes_eq

-- the first list of bytes is below the second
abbrev pub is_below : List ℕ → List ℕ → Bool
is_below bytes others = is_lt (slice_cmp nat_cmp bytes others)

-- each key is below the next one
abbrev pub AreRising : List (List ℕ) → Type 0
AreRising keys = IsStrictlySortedBy (slice_cmp nat_cmp) keys
