-- Counts of what the outside did. They never fall, and stand still at the last value of a u64.
use Rattle.std.specs.Prelude.{ℕ, List, Option, None, ◌+◌, ◌-◌, ◌^◌, ◌≤◌, min}
use Rattle.spl_port.specs.declared.at.At.{At}

-- the count after one more
abbrev pub raised_count : ℕ → ℕ
raised_count count = min (count + 1) (2 ^ 64 - 1)

-- the count rose, or stands at its last value
abbrev pub Rose : ℕ → ℕ → Type 0
Rose before now = raised_count before ≤ now

-- the count stands at its last value
abbrev pub IsSpent : ℕ → Type 0
IsSpent count = 2 ^ 64 - 1 ≤ count

-- a page that was read, and its place
pub record Shown : Type 0 where
  pub at : At
  pub bytes : List ℕ

-- how often a port failed, read and wrote, and what its latest read that succeeded gave
pub record Counts : Type 0 where
  pub faults : ℕ
  pub reads : ℕ
  pub writes : ℕ
  pub last : Option Shown

-- nothing was done
abbrev pub no_counts : Counts
no_counts = record { faults = 0; reads = 0; writes = 0; last = None }
