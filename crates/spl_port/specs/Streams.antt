-- What a source and a sink are in a clause, and what one call does to their counts.
use Rattle.std.specs.Prelude.{ℕ, ◌==◌, nat_lt, Bool, ◌&&◌, true, false, List, Option, Some, None, Result, Ok, Err}
use Rattle.spl_port.specs.Counts.{raised_count}
use Rattle.spl_port.specs.declared.failed.Failed.{Failed}

-- a source: the bytes that are left to read, where it tells them; how often a read failed; and how many reads were made
-- after one met the end of the input, where one did. The counts stand still at 2^64 - 1
pub record Input : Type 0 where
  pub left : Option (List ℕ)
  pub faults : ℕ
  pub late : Option ℕ

-- a sink: the bytes that it holds, where it tells them; how often a write failed; and how many writes were made. The counts
-- stand still at 2^64 - 1
pub record Output : Type 0 where
  pub held : Option (List ℕ)
  pub faults : ℕ
  pub writes : ℕ

-- a read met the end: it gave no byte where there was room for one
abbrev pub met_end : ℕ → Result ℕ Failed → Bool
met_end room (Ok n) = nat_lt 0 room && (n == 0)
met_end room (Err failed) = false

-- how many reads were made after the end, after one more, which met the end or not
abbrev pub late_after : Option ℕ → Bool → Option ℕ
late_after (Some reads) met = Some (raised_count reads)
late_after None true = Some 0
late_after None false = None
