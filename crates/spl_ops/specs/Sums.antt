-- Sums of numbers.
use Rattle.std.specs.Prelude.{ℕ, ◌+◌, ◌-◌, ◌^◌, ◌%◌, min}

-- the sum, which wraps at 2^64
abbrev pub added : ℕ → ℕ → ℕ
added number other = (number + other) % 2 ^ 64

-- the sum, or the cap where that is less; a cap has at most 64 bits
abbrev pub capped_sum : ℕ → ℕ → ℕ → ℕ
capped_sum cap number other = min (min cap (2 ^ 64 - 1)) (number + other)
