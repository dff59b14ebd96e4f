-- What a part of a piece of work leaves.
use Rattle.std.specs.Prelude.{ℕ, ◌≤◌}
use Rattle.spl_message.specs.History.{History}
use Rattle.spl_port.specs.Counts.{Counts}
use Rattle.spl_desk.specs.Calls.{MadeFew, MayCall, NeverFell}
use Rattle.spl_desk.specs.Holder.{BranchKind, Holder}
use Rattle.spl_desk.specs.Quiet.{IsQuiet}
use Rattle.spl_job.specs.Holding.{told_by}

-- No call that has a place was made, the actor has nothing, and no count of the device fell.
pub record HasWorked {B : Type 0} (kind : BranchKind B) (old : Holder) (Saw : History → Type 0) (new : Holder) (Sees : History → Type 0) (before after : Counts) : Type 0 where
  pub quiet : IsQuiet kind old Saw new Sees
  pub nothing : MayCall new
  pub port : NeverFell before after

-- The holder made steps only while it was not spent, and its actor was told of as many nodes or of more.
pub record HasGoneOn (old new : Holder) : Type 0 where
  pub few : MadeFew old new 0
  pub told : told_by old ≤ told_by new
