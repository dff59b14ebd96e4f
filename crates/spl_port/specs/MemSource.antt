-- What a source in memory is in a clause.
use Rattle.std.specs.Prelude.{ℕ, List, Option, Some}
use Rattle.spl_port.specs.Plan.{Plan}
use Rattle.spl_port.specs.Streams.{Input}

-- the bytes that are left, the plan of the reads, and how many were made after one met the end, where one did
pub record SourceState : Type 0 where
  pub left : List ℕ
  pub plan : Plan
  pub late : Option ℕ

abbrev pub input_of : SourceState → Input
input_of source = record { left = Some source.left; faults = source.plan.faults; late = source.late }
