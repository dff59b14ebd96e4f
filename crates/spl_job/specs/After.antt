-- What an actor has after a pick, and after its branch was hung at the root or was not.
use Rattle.std.specs.Prelude.{◌≡◌, ℕ, [], ◌∷◌, Option, Some, Result, Ok}
use Rattle.spl_base.specs.declared.NoMemory.{NoMemory}
use Rattle.spl_state.specs.declared.job.Job.TheVariants.{Pack}
use Rattle.spl_state.specs.declared.reply.Reply.{Reply}
use Rattle.spl_state.specs.declared.reply.Reply.TheVariants as reply
use Rattle.spl_core.specs.declared.step.Step.TheVariants.{Incorporate}
use Rattle.spl_desk.specs.Calls.{HasNothing}
use Rattle.spl_desk.specs.Holder.{Holder}
use Rattle.spl_desk.specs.Turn.{Turn}
use Rattle.spl_job.specs.declared.steps.Hanging.{Hanging}
use Rattle.spl_job.specs.declared.steps.Hanging.TheVariants.{Done, NotOldest, NeedsFlush}
use Rattle.spl_job.specs.declared.steps.Picked.{Picked}
use Rattle.spl_job.specs.Holding.{Holding, IsHolding, first_holding, without_job}

-- the actor packs what it picked, and else has nothing
abbrev pub AfterPick : Holder → Result (Option Picked) NoMemory → Type 0
AfterPick holder (Ok (Some picked)) = (memtable told : ℕ) × IsHolding holder (first_holding (Pack picked.number memtable) (picked.table ∷ []) told)
AfterPick holder _ = HasNothing holder.at holder.actor

-- the job has ended where the branch hangs at the root, and else goes on
abbrev pub AfterHanging : Holder → Holding → Hanging → Type 0
AfterHanging holder holding Done = IsHolding holder (without_job holding)
AfterHanging holder holding (NotOldest by) = IsHolding holder holding
AfterHanging holder holding NeedsFlush = IsHolding holder holding

-- the turn hung a branch at the root
abbrev pub HangsBranch : {B : Type 0} → Turn B → Type 0
HangsBranch turn = (turn.step ≡ Incorporate) × (turn.reply ≡ reply.Done)

-- what hanging a branch at the root was answered
abbrev pub IsHangAnswer : {B : Type 0} → Hanging → Reply B → Type 0
IsHangAnswer Done answer = answer ≡ reply.Done
IsHangAnswer (NotOldest by) answer = (oldest : ℕ) × (answer ≡ reply.NotOldest oldest by)
IsHangAnswer NeedsFlush answer = answer ≡ reply.NeedsFlush

-- the turn in which the branch was to be hung at the root
abbrev pub IsHangTurn : {B : Type 0} → Hanging → Turn B → Type 0
IsHangTurn result turn = (turn.step ≡ Incorporate) × IsHangAnswer result turn.reply
