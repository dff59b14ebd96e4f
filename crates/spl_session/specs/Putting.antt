-- What the steps of a put tell.
use Rattle.std.specs.Prelude.{◌≡◌, ℕ, length, Option, Some, None, Result, Ok, Err}
use Rattle.spl_base.specs.declared.NoMemory.{NoMemory}
use Rattle.spl_message.specs.declared.call.Call.{Call}
use Rattle.spl_message.specs.History.{History}
use Rattle.spl_desk.specs.declared.fault.CallFault.{CallFault}
use Rattle.spl_desk.specs.Calls.{MadeCall, MadeNoCall}
use Rattle.spl_desk.specs.Holder.{BranchKind, Holder}
use Rattle.spl_session.specs.declared.steps.Progress.{Progress}
use Rattle.spl_session.specs.declared.steps.Progress.TheVariants.{Placed, Again, Frozen}

module _ {B : Type 0} (kind : BranchKind B) (old : Holder) (history : History) (new : Holder) (Saw : History → Type 0) (made : Call) where
  -- after one try the call was made at the place, or none was
  abbrev pub AfterTry : Result (Option ℕ) NoMemory → Type 0
  AfterTry (Ok (Some place)) = MadeCall kind old history new Saw made place
  AfterTry (Ok None) = MadeNoCall kind old history new Saw
  AfterTry (Err _) = MadeNoCall kind old history new Saw

  -- and after a try with a rotation
  abbrev pub AfterAttempt : Result Progress CallFault → Type 0
  AfterAttempt (Ok (Placed place)) = MadeCall kind old history new Saw made place
  AfterAttempt (Ok Again) = MadeNoCall kind old history new Saw
  AfterAttempt (Ok Frozen) = MadeNoCall kind old history new Saw
  AfterAttempt (Err _) = MadeNoCall kind old history new Saw

-- the core has as many frozen memtables as there can be
abbrev pub IsAllFrozen : Holder → Type 0
IsAllFrozen holder = length holder.at.tables.frozen ≡ 4
