-- What a piece of work at a node is to a worker.
use Rattle.std.specs.Prelude.{ℕ, nat_eq, if◌then◌else◌, Option, Some, None}
use Rattle.spl_message.specs.History.{History}
use Rattle.spl_bundle.specs.declared.bundles.TheConstants.{MAX_LISTS}
use Rattle.spl_desk.specs.Holder.{BranchKind, Holder}
use Rattle.spl_job.specs.After.{HangsBranch}
use Rattle.spl_compactor.specs.Compacting.{IsEnd}
use Rattle.spl_worker.specs.Reliefs.{Flushes, Grows, Made}
use Rattle.spl_worker.specs.Rooms.{ShowsFew}
use Rattle.spl_worker.specs.Stale.{ShowsStale}
use Rattle.spl_worker.specs.declared.relief.Relief.{Relief}
use Rattle.spl_worker.specs.declared.relief.Relief.TheVariants as relief
use Rattle.spl_worker.specs.declared.work.Work.{Work}
use Rattle.spl_worker.specs.declared.work.Work.TheVariants as work

-- with how many bundles a node is worked at
abbrev pub least_at : ℕ → ℕ → ℕ
least_at node least = if nat_eq node 0 then least else MAX_LISTS

-- where to look next, where nothing was done
abbrev pub next_of : ℕ → Relief → Option ℕ
next_of at (relief.Room running) = if nat_eq at 0 then None else Some 0
next_of at (relief.Below child) = Some child
next_of at _ = None

abbrev pub work_of : Relief → Work
work_of (relief.Room running) = work.Idle running
work_of (relief.Below child) = work.Stale
work_of relief.Grown = work.Split
work_of relief.Flushed = work.Flushed
work_of relief.Compacted = work.Compacted
work_of relief.Stale = work.Stale

abbrev pub unless_idle : Work → Work
unless_idle (work.Idle running) = work.Stale
unless_idle other = other

-- a turn shows what the work was; where there was none, that the root has fewer bundles than so many
abbrev pub WasWork : {B : Type 0} → BranchKind B → Holder → (History → Type 0) → Holder → (History → Type 0) → ℕ → Work → Type 0
WasWork kind old Saw new Sees least work.Packed = Made kind old Saw new Sees HangsBranch
WasWork kind old Saw new Sees least work.Flushed = Made kind old Saw new Sees Flushes
WasWork kind old Saw new Sees least work.Compacted = Made kind old Saw new Sees IsEnd
WasWork kind old Saw new Sees least work.Stale = Made kind old Saw new Sees ShowsStale
WasWork kind old Saw new Sees least work.Split = Made kind old Saw new Sees Grows
WasWork kind old Saw new Sees least (work.Idle running) = Made kind old Saw new Sees (ShowsFew 0 least running)
