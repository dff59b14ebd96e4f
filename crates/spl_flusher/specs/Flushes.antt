-- What the job that passes bundles on leaves, and which turn shows what came of it.
use Rattle.std.specs.Prelude.{ℕ, ◌<◌, ◌^◌, Option, Some, None, Result, Ok, Err}
use Rattle.spl_desk.specs.declared.fault.CallFault.{CallFault}
use Rattle.spl_desk.specs.Calls.{MayCall}
use Rattle.spl_desk.specs.Holder.{Holder}
use Rattle.spl_desk.specs.Turn.{Turn}
use Rattle.spl_job.specs.declared.flushing.Flushing.{Flushing}
use Rattle.spl_job.specs.declared.flushing.Flushing.TheVariants as flushing
use Rattle.spl_job.specs.Flushing.{IsFlushTurn}
use Rattle.spl_enter.specs.Both.{IsRefusalOf}
use Rattle.spl_flusher.specs.declared.flushed.Flushed.{Flushed}
use Rattle.spl_flusher.specs.declared.flushed.Flushed.TheVariants as flushed

-- what comes of the step is what comes of the job
abbrev pub outcome_of : Flushing → Flushed
outcome_of flushing.Done = flushed.Done
outcome_of flushing.Moved = flushed.Moved
outcome_of flushing.NeedsRoom = flushed.NeedsRoom
outcome_of (flushing.NeedsCompact branches) = flushed.NeedsCompact branches

-- the actor has nothing where somebody was in the way; else it may have latches, and a step is left to give them back
abbrev pub AfterTry : Holder → Result (Option Flushing) CallFault → Type 0
AfterTry holder (Ok None) = MayCall holder
AfterTry holder (Ok (Some _)) = holder.turns < 2 ^ 40
AfterTry holder (Err _) = Unit {0}

module _ {B : Type 0} where
  -- the turn that shows what came of the try
  abbrev pub ShowsTry : ℕ → ℕ → Option Flushing → Turn B → Type 0
  ShowsTry parent child None turn = IsRefusalOf parent child turn
  ShowsTry parent child (Some answer) turn = IsFlushTurn parent child answer turn

  -- and of the job: the flush itself, or the step that was in vain since somebody was in the way
  abbrev pub ShowsFlush : ℕ → ℕ → Flushed → Turn B → Type 0
  ShowsFlush parent child flushed.Done turn = IsFlushTurn parent child flushing.Done turn
  ShowsFlush parent child flushed.NeedsRoom turn = IsFlushTurn parent child flushing.NeedsRoom turn
  ShowsFlush parent child (flushed.NeedsCompact branches) turn = IsFlushTurn parent child (flushing.NeedsCompact branches) turn
  ShowsFlush parent child flushed.Moved turn = IsFlushTurn parent child flushing.Moved turn
  ShowsFlush parent child flushed.Busy turn = IsRefusalOf parent child turn
