-- How turns show what came of a piece of work at a node.
use Rattle.std.specs.Prelude.{◌≡◌, ◌⊎◌, ℕ, ◌<◌, Bool, true, false, List}
use Rattle.spl_message.specs.History.{History}
use Rattle.spl_state.specs.declared.reply.Reply.TheVariants as reply
use Rattle.spl_core.specs.declared.step.Step.TheVariants as step
use Rattle.spl_desk.specs.Holder.{BranchKind, Holder}
use Rattle.spl_desk.specs.Quiet.{WasMade}
use Rattle.spl_desk.specs.Turn.{Turn}
use Rattle.spl_job.specs.Holding.{told_by}
use Rattle.spl_compactor.specs.Compacting.{IsEnd}
use Rattle.spl_compactor.specs.declared.compacted.Compacted.{Compacted as Merged}
use Rattle.spl_compactor.specs.declared.compacted.Compacted.TheVariants as merged
use Rattle.spl_grower.specs.declared.grown.Grown.{Grown as Growth}
use Rattle.spl_grower.specs.declared.grown.Grown.TheVariants as growth
use Rattle.spl_worker.specs.Rooms.{ShowsFew}
use Rattle.spl_worker.specs.Stale.{ShowsStale}
use Rattle.spl_worker.specs.declared.relief.Relief.{Relief}
use Rattle.spl_worker.specs.declared.relief.Relief.TheVariants.{Room, Below, Grown, Flushed, Compacted, Stale}

-- the turn raised the root, or split a node
abbrev pub Grows : {B : Type 0} → Turn B → Type 0
Grows turn = ((turn.step ≡ step.Raise) ⊎ ((parent child : ℕ) × (key : List ℕ) × (turn.step ≡ step.Split parent child key))) × (turn.reply ≡ reply.Done)

-- the turn passed bundles to a child
abbrev pub Flushes : {B : Type 0} → Turn B → Type 0
Flushes turn = (parent child : ℕ) × (turn.step ≡ step.Flush parent child) × (turn.reply ≡ reply.Done)

-- the holder made no call that has a place, and a turn of it is such
abbrev pub Made : {B : Type 0} → BranchKind B → Holder → (History → Type 0) → Holder → (History → Type 0) → (Turn B → Type 0) → Type 0
Made kind old Saw new Sees Is = (history : History) → Saw history → WasMade kind old history new Sees Is

-- what work was done, or the child that comes first; whether there is room was not asked
abbrev pub WasPassed : {B : Type 0} → BranchKind B → Holder → (History → Type 0) → Holder → (History → Type 0) → Relief → Type 0
WasPassed kind old Saw new Sees (Room running) = ⊥
WasPassed kind old Saw new Sees (Below child) = child < told_by new
WasPassed kind old Saw new Sees Grown = Made kind old Saw new Sees Grows
WasPassed kind old Saw new Sees Flushed = Made kind old Saw new Sees Flushes
WasPassed kind old Saw new Sees Compacted = Made kind old Saw new Sees IsEnd
WasPassed kind old Saw new Sees Stale = Made kind old Saw new Sees ShowsStale

-- or the node has fewer bundles than so many
abbrev pub WasRelieved : {B : Type 0} → BranchKind B → Holder → (History → Type 0) → Holder → (History → Type 0) → ℕ → ℕ → Relief → Type 0
WasRelieved kind old Saw new Sees node least (Room running) = Made kind old Saw new Sees (ShowsFew node least running)
WasRelieved kind old Saw new Sees node least relief = WasPassed kind old Saw new Sees relief

-- the node was seen with room
abbrev pub has_room : Relief → Bool
has_room (Room running) = true
has_room relief = false

-- where to work next, so that the node gets room
abbrev pub next_for : ℕ → ℕ → Relief → ℕ
next_for node at (Room running) = node
next_for node at (Below child) = child
next_for node at relief = at

-- what came of a merge
abbrev pub merged_relief : Merged → Relief
merged_relief merged.Done = Compacted
merged_relief answer = Stale

-- what came of raising the root
abbrev pub raised_relief : Growth → Relief
raised_relief growth.Done = Grown
raised_relief answer = Stale
