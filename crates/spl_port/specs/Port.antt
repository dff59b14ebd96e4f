-- What the calls of a port do to its counts.
use Rattle.std.specs.Prelude.{◌≡◌, ◌≤◌, ◌+◌, Result, Err}
use Rattle.spl_port.specs.Counts.{Counts, Rose}
use Rattle.spl_port.specs.declared.port.PortFault.{PortFault}
use Rattle.spl_port.specs.declared.port.PortFault.TheVariants.{Failed}

-- `Failed` comes only where the count of faults rose
abbrev pub HasCause : {T : Type 0} → Counts → Counts → Result T PortFault → Type 0
HasCause before after result = result ≡ Err Failed → Rose before.faults after.faults

-- at most one page was written, and none read; the port failed at most once
pub record WritesOne (before after : Counts) : Type 0 where
  pub faults : before.faults ≤ after.faults
  pub one_fault : after.faults ≤ before.faults + 1
  pub reads : after.reads ≡ before.reads
  pub writes : before.writes ≤ after.writes
  pub one : after.writes ≤ before.writes + 1
  pub last : after.last ≡ before.last

-- at most one page was read, and none written; the port failed at most once
pub record ReadsOne (before after : Counts) : Type 0 where
  pub faults : before.faults ≤ after.faults
  pub one_fault : after.faults ≤ before.faults + 1
  pub reads : before.reads ≤ after.reads
  pub one : after.reads ≤ before.reads + 1
  pub writes : after.writes ≡ before.writes

-- no page was written or read; the port failed at most once
pub record MovesNone (before after : Counts) : Type 0 where
  pub faults : before.faults ≤ after.faults
  pub one_fault : after.faults ≤ before.faults + 1
  pub reads : after.reads ≡ before.reads
  pub writes : after.writes ≡ before.writes
  pub last : after.last ≡ before.last
