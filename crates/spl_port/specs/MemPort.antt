-- What a port in memory is in a clause.
use Rattle.std.specs.Prelude.{◌≡◌, ℕ, Bool, IsTrue, Result, Err, IsErr}
use Rattle.spl_port.specs.Calls.{fails}
use Rattle.spl_port.specs.Counts.{Counts, raised_count}
use Rattle.spl_port.specs.declared.port.PortFault.{PortFault}
use Rattle.spl_port.specs.declared.port.PortFault.TheVariants.{Failed, NoMemory}
use Rattle.spl_port.specs.declared.calls.Calls.{Calls}

-- the counts, which calls are to fail, and how many were made
pub record PortState : Type 0 where
  pub counts : Counts
  pub calls : Calls
  pub made : ℕ

-- the port after one more call, with these counts
abbrev pub after_call : PortState → Counts → PortState
after_call port counts = record port { counts = counts; made = raised_count port.made }

-- how a call that may be a read is refused: a call that is to fail is, only such a call is answered
-- `Failed`, and that is counted
pub record Refuses {T : Type 0} (before after : PortState) (is_read : Bool) (result : Result T PortFault) : Type 0 where
  pub due : IsTrue (fails before.calls before.made is_read) → IsErr result
  pub failed : result ≡ Err Failed → IsTrue (fails before.calls before.made is_read)
  pub failed_count : result ≡ Err Failed → after ≡ after_call before (record before.counts { faults = raised_count before.counts.faults })
  pub no_memory : result ≡ Err NoMemory → after ≡ after_call before before.counts
