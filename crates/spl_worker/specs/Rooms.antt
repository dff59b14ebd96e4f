-- The turns that show whether there is room.
use Rattle.std.specs.Prelude.{◌≡◌, ◌⊎◌, ℕ, ◌<◌, length}
use Rattle.spl_bundle.specs.declared.bundles.TheConstants.{MAX_LISTS}
use Rattle.spl_state.specs.declared.reply.Reply.TheVariants as reply
use Rattle.spl_state.specs.declared.view.View.{View}
use Rattle.spl_core.specs.declared.step.Step.TheVariants.{Survey}
use Rattle.spl_desk.specs.Turn.{Turn}
use Rattle.spl_job.specs.After.{HangsBranch}

-- a survey of the node showed fewer bundles than it can have
abbrev pub ShowsRoom : {B : Type 0} → ℕ → Turn B → Type 0
ShowsRoom node turn = (turn.step ≡ Survey node) × ((view : View) × (turn.reply ≡ reply.View view) × (length view.bundles < MAX_LISTS))

-- a survey of the node showed fewer bundles than so many, and how many callers still ran
abbrev pub ShowsFew : {B : Type 0} → ℕ → ℕ → ℕ → Turn B → Type 0
ShowsFew node least running turn = (turn.step ≡ Survey node) × ((view : View) × (turn.reply ≡ reply.View view) × (length view.bundles < least) × (view.running ≡ running))

-- the turn hung the branch of a memtable at the root, or found no memtable that nobody picked
abbrev pub MakesWay : {B : Type 0} → Turn B → Type 0
MakesWay turn = HangsBranch turn ⊎ (turn.reply ≡ reply.Nothing)
