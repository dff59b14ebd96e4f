-- An actor that has nothing asks for a run.
use Rattle.std.proofs.Common.{ℕ, ◌≤◌, refl, arith}
use Rattle.std.specs.Prelude.{Result, Ok, Err, IfOk}
use Rattle.spl_branch.specs.Branch.{Branch, table_of}
use Rattle.spl_state.specs.declared.sight.Ticket.{Ticket}
use Rattle.spl_desk.specs.Calls.{MayCall}
use Rattle.spl_desk.specs.Holder.{Holder}
use Rattle.spl_desk.specs.declared.fault.CallFault.{CallFault}
use Rattle.spl_job.specs.Holding.{Holding, IsHolding}
use Rattle.spl_job.specs.Merging.{IsToldOf, with_ticket, with_told}
use Rattle.spl_job.proofs.Nothing.{held_nothing, no_holding}
use Rattle.spl_compactor.specs.declared.compacted.Compacted.{Compacted}
use Rattle.spl_compactor.specs.declared.compacted.Compacted.TheVariants as compacted
use Rattle.spl_compactor.specs.Compacting.{AfterWork, IsStarted, told_by}

abbrev pub had : Holder → Holding
had holder = no_holding holder.at holder.actor

-- with a ticket it merges
pub is_started : (old new : Holder) (ticket : Ticket Branch) (is : IsToldOf new (with_ticket (λ (branch : Branch). branch.number) table_of (had old) ticket) ticket.node) → IsStarted new is.0 ticket
is_started old new ticket is = record {
  holding = with_told (with_ticket (λ (branch : Branch). branch.number) table_of (had old) ticket) is.0;
  merger = record {
    holds = is.3;
    job = refl;
    unpublished = refl;
    free = λ node. refl;
    told = omega arith;
  };
  tables = refl;
  extents = refl;
}

-- and without one it has nothing as before
pub had_still : (old new : Holder) → IsHolding new (had old) → MayCall new × (told_by old ≤ told_by new)
had_still old new is = (
  held_nothing new (had old) is refl refl (λ node. refl),
  (let told = is.has.told in omega (arith, told)),
)

after_least : (holder : Holder) (least more : ℕ) (answer : Compacted) → least ≤ more → AfterWork holder more answer → AfterWork holder least answer
after_least holder least more compacted.Done fewer is = (is.0, (let told = is.1 in omega (arith, fewer, told)))
after_least holder least more compacted.Stale fewer is = omega (arith, fewer, is)
after_least holder least more compacted.Gone fewer is = (is.0, (let told = is.1 in omega (arith, fewer, told)))
after_least holder least more compacted.Crossed fewer is = (is.0, (let told = is.1 in omega (arith, fewer, told)))
after_least holder least more compacted.Busy fewer is = (is.0, (let told = is.1 in omega (arith, fewer, told)))

pub worked_least : (holder : Holder) (least more : ℕ) (result : Result Compacted CallFault) → least ≤ more → IfOk result (AfterWork holder more) → IfOk result (AfterWork holder least)
worked_least holder least more (Ok answer) fewer is = after_least holder least more answer fewer is
worked_least holder least more (Err _) fewer is = tt
