-- What a sink in memory is in a clause.
use Rattle.std.specs.Prelude.{ℕ, List, Bool, Some, ◌||◌, ◌&&◌, ◌==◌, nat_lt, length}
use Rattle.spl_port.specs.Plan.{Plan, fails}
use Rattle.spl_port.specs.Streams.{Output}

-- the bytes that it holds, how many more fit, and the plan of the writes
pub record SinkState : Type 0 where
  pub held : List ℕ
  pub room : ℕ
  pub plan : Plan

-- whether it refuses a write of this piece: the call is to fail, or none of some bytes fits
abbrev pub refuses : SinkState → List ℕ → Bool
refuses sink piece = fails sink.plan || (nat_lt 0 (length piece) && sink.room == 0)

abbrev pub output_of : SinkState → Output
output_of sink = record { held = Some sink.held; faults = sink.plan.faults; writes = sink.plan.calls }
