-- How large a filter is.
use Rattle.std.specs.Prelude.{ℕ, ◌*◌, ◌^◌, ◌≤◌}

-- q is the least exponent of at least 6 with two slots or more for each of so many keys
pub record IsExponent (count q : ℕ) : Type 0 where
  pub least : 6 ≤ q
  pub room : 2 * count ≤ 2 ^ q
  pub no_less : (smaller : ℕ) → 6 ≤ smaller → 2 * count ≤ 2 ^ smaller → q ≤ smaller
