-- How a turn shows what came of packing a memtable.
use Rattle.std.specs.Prelude.{◌≡◌, ◌⊎◌, ◌<◌, ◌≤◌, None, length}
use Rattle.spl_message.specs.History.{History}
use Rattle.spl_bundle.specs.declared.bundles.TheConstants.{MAX_LISTS}
use Rattle.spl_port.specs.Counts.{Counts}
use Rattle.spl_state.specs.declared.reply.Reply.TheVariants as reply
use Rattle.spl_state.specs.declared.view.View.{View}
use Rattle.spl_core.specs.declared.step.Step.TheVariants.{Survey}
use Rattle.spl_desk.specs.Holder.{BranchKind, Holder}
use Rattle.spl_desk.specs.Quiet.{WasMade}
use Rattle.spl_desk.specs.Turn.{Turn}
use Rattle.spl_job.specs.After.{HangsBranch, IsHangTurn}
use Rattle.spl_job.specs.declared.steps.Hanging.TheVariants as hanging
use Rattle.spl_packer.specs.declared.packed.Packed.{Packed}
use Rattle.spl_packer.specs.declared.packed.Packed.TheVariants.{Done, Nothing, NeedsFlush, NotOldest}

-- a survey of the root showed as many bundles as a node can have
abbrev pub ShowsFull : {B : Type 0} → Turn B → Type 0
ShowsFull turn = (turn.step ≡ Survey 0) × ((view : View) × (turn.reply ≡ reply.View view) × (MAX_LISTS ≤ length view.bundles))

-- a survey of the root showed fewer bundles than a node can have
abbrev pub ShowsRoom : {B : Type 0} → Turn B → Type 0
ShowsRoom turn = (turn.step ≡ Survey 0) × ((view : View) × (turn.reply ≡ reply.View view) × (length view.bundles < MAX_LISTS))

-- where pages were written, a turn had shown the root with room
abbrev pub WroteWithRoom : {B : Type 0} → BranchKind B → Holder → (History → Type 0) → Holder → (History → Type 0) → Counts → Counts → Type 0
WroteWithRoom kind old Saw new Sees before after =
    before.writes < after.writes → (history : History) → Saw history → WasMade kind old history new Sees ShowsRoom

-- the turn hung the branch; found no memtable to pick; showed the root full, or was refused for it; was refused for an older memtable
-- that nobody picked
abbrev pub ShowsPacked : {B : Type 0} → Packed → Turn B → Type 0
ShowsPacked Done turn = HangsBranch turn
ShowsPacked Nothing turn = turn.reply ≡ reply.Nothing
ShowsPacked NeedsFlush turn = ShowsFull turn ⊎ IsHangTurn hanging.NeedsFlush turn
ShowsPacked NotOldest turn = IsHangTurn (hanging.NotOldest None) turn

-- the holder made no call that has a place, and a turn of it shows this
abbrev pub WasPacked : {B : Type 0} → BranchKind B → Holder → (History → Type 0) → Holder → (History → Type 0) → Packed → Type 0
WasPacked kind old Saw new Sees packed = (history : History) → Saw history → WasMade kind old history new Sees (ShowsPacked packed)
