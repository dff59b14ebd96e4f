-- What a builder does to the counts of a port.
use Rattle.std.specs.Prelude.{◌≡◌, ℕ, ◌+◌, ◌≤◌}
use Rattle.spl_port.specs.Counts.{Counts}

-- pages were written, and none read; the port failed at most once
pub record OnlyWrites (before after : Counts) : Type 0 where
  pub faults : before.faults ≤ after.faults
  pub one_fault : after.faults ≤ before.faults + 1
  pub reads : after.reads ≡ before.reads
  pub writes : before.writes ≤ after.writes
  pub last : after.last ≡ before.last

-- as many pages were written as there are more now, and the port did not fail
pub record WritesPages (before after : Counts) (old new : ℕ) : Type 0 where
  pub writes : after.writes + old ≡ before.writes + new
  pub faults : after.faults ≡ before.faults
