-- Why a call of the store over a desk is stopped.
use Rattle.std.specs.Prelude.{◌≡◌, ℕ, ◌<◌, true, [], Some, Contains}
use Rattle.std.specs.Option.{IsSomeAnd}
use Rattle.spl_message.specs.History.{History}
use Rattle.spl_port.specs.declared.damaged.Damaged.{Damaged as Damage}
use Rattle.spl_port.specs.Counts.{Counts, Rose}
use Rattle.spl_port.specs.Page.{page_fault}
use Rattle.spl_state.specs.declared.reply.Reply.{Reply}
use Rattle.spl_state.specs.declared.reply.Reply.TheVariants as reply
use Rattle.spl_desk.specs.declared.fault.CallFault.{CallFault}
use Rattle.spl_desk.specs.declared.fault.CallFault.TheVariants.{Fault, Damaged, Full, Nodes, Spent, NoMemory}
use Rattle.spl_desk.specs.Calls.{IsSpentAt}
use Rattle.spl_desk.specs.Holder.{BranchKind, Holder}
use Rattle.spl_desk.specs.Turn.{Turn}
use Rattle.spl_desk.specs.Walk.{Went, calls_in}

-- the page that was read last, and in this call, is outside the page grammar for its place
pub record IsDamageRead (old new : Counts) (damage : Damage) : Type 0 where
  pub read : old.reads < new.reads
  pub latest : IsSomeAnd new.last (λ shown. (shown.at ≡ damage.at) × (page_fault damage.at shown.bytes ≡ Some damage.why))

-- the holder made no call that has a place, and one of its steps was answered so
abbrev pub WasAnswered : {B : Type 0} → BranchKind B → Holder → History → Holder → (History → Type 0) → (Reply B → Type 0) → Type 0
WasAnswered {B} kind old history new Saw Is = Went kind old history new Saw (λ turns seen. (calls_in old.actor turns ≡ []) × ((turn : Turn B) × Contains turns turn × Is turn.reply))

-- What stopped a call in which the holder and the counts of its device went from the old ones to the new ones. Memory may run out at any time.
abbrev pub HasCallCause : {B : Type 0} → BranchKind B → Holder → History → Holder → (History → Type 0) → Counts → Counts → CallFault → Type 0
HasCallCause kind old history new Saw before after Fault = Rose before.faults after.faults
HasCallCause kind old history new Saw before after (Damaged damage) = (kind.tells ≡ true → ⊥) × IsDamageRead before after damage
HasCallCause kind old history new Saw before after Full = WasAnswered kind old history new Saw (λ answer. answer ≡ reply.NoExtent)
HasCallCause kind old history new Saw before after Nodes = WasAnswered kind old history new Saw (λ answer. (nodes : ℕ) × (answer ≡ reply.Nodes nodes))
HasCallCause kind old history new Saw before after (Spent turns) = IsSpentAt turns new
HasCallCause kind old history new Saw before after NoMemory = Unit {0}
