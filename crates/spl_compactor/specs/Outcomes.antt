-- How a turn shows what came of merging a run.
use Rattle.std.specs.Prelude.{◌≡◌, ℕ, Bool, Option, None, Some, Ok}
use Rattle.spl_message.specs.History.{History}
use Rattle.spl_state.specs.declared.reply.Reply.TheVariants as reply
use Rattle.spl_core.specs.declared.step.Step.TheVariants.{Install, Start}
use Rattle.spl_desk.specs.Holder.{BranchKind, Holder}
use Rattle.spl_desk.specs.Quiet.{WasMade}
use Rattle.spl_desk.specs.Turn.{Turn}
use Rattle.spl_job.specs.Merging.{IsStartTurn}
use Rattle.spl_job.specs.declared.merging.Started.TheVariants as started
use Rattle.spl_compactor.specs.declared.compacted.Compacted.{Compacted}
use Rattle.spl_compactor.specs.declared.compacted.Compacted.TheVariants as compacted
use Rattle.spl_compactor.specs.declared.placing.Placed.{Placed}
use Rattle.spl_compactor.specs.declared.placing.Placed.TheVariants as placed
use Rattle.spl_compactor.specs.Compacting.{IsEnd}

-- in this turn no node had the run
abbrev pub IsStale : {B : Type 0} → Turn B → Type 0
IsStale turn = (output : Bool) × (node : ℕ) × (turn.step ≡ Install node output) × (turn.reply ≡ reply.Elsewhere None)

-- the turn asked for the run
abbrev pub AsksFor : {B : Type 0} → ℕ → ℕ → ℕ → Turn B → Type 0
AsksFor node first last turn = turn.step ≡ Start node first last

-- what the end of a job comes to, where the node is the last one
abbrev pub ends : Placed → Option Compacted
ends (placed.Next node) = None
ends placed.Done = Some compacted.Done
ends placed.Stale = Some compacted.Stale

-- a job that has its run ends in one of two ways
abbrev pub ShowsEnd : {B : Type 0} → Compacted → Turn B → Type 0
ShowsEnd compacted.Done turn = IsEnd turn
ShowsEnd compacted.Stale turn = IsStale turn
ShowsEnd compacted.Gone turn = ⊥
ShowsEnd compacted.Crossed turn = ⊥
ShowsEnd compacted.Busy turn = ⊥

-- the turn ended the merge; found no node with a run; or refused this run
abbrev pub ShowsCompacted : {B : Type 0} → ℕ → ℕ → ℕ → Compacted → Turn B → Type 0
ShowsCompacted node first last compacted.Done turn = IsEnd turn
ShowsCompacted node first last compacted.Stale turn = IsStale turn
ShowsCompacted node first last compacted.Gone turn = IsStartTurn node first last (Ok started.Gone) turn
ShowsCompacted node first last compacted.Crossed turn = IsStartTurn node first last (Ok started.Crossed) turn
ShowsCompacted node first last compacted.Busy turn = (by : ℕ) × IsStartTurn node first last (Ok (started.Busy by)) turn

-- the holder made no call that has a place, and a turn of it shows this
abbrev pub WasEnded : {B : Type 0} → BranchKind B → Holder → (History → Type 0) → Holder → (History → Type 0) → Compacted → Type 0
WasEnded kind old Saw new Sees compacted = (history : History) → Saw history → WasMade kind old history new Sees (ShowsEnd compacted)

abbrev pub WasAskedFor : {B : Type 0} → BranchKind B → Holder → (History → Type 0) → Holder → (History → Type 0) → ℕ → ℕ → ℕ → Type 0
WasAskedFor kind old Saw new Sees node first last = (history : History) → Saw history → WasMade kind old history new Sees (AsksFor node first last)

abbrev pub WasCompacted : {B : Type 0} → BranchKind B → Holder → (History → Type 0) → Holder → (History → Type 0) → ℕ → ℕ → ℕ → Compacted → Type 0
WasCompacted kind old Saw new Sees node first last compacted =
    (history : History) → Saw history → WasMade kind old history new Sees (ShowsCompacted node first last compacted)
