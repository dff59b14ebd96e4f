-- Where a lookup looks, and why it is stopped.
use Rattle.std.specs.Prelude.{◌≡◌, ℕ, Bool, true, ◌||◌, List, Option, Some}
use Rattle.spl_message.specs.declared.message.Message.{Message}
use Rattle.spl_message.specs.declared.span.Span.{Span}
use Rattle.spl_message.specs.Span.{InSpan}
use Rattle.spl_port.specs.Counts.{Counts, Rose}
use Rattle.spl_branch.specs.Branch.{Branch}
use Rattle.spl_branch.specs.Reading.{IsDamage}
use Rattle.spl_state.specs.declared.sight.Sight.{Sight}
use Rattle.spl_desk.specs.declared.fault.CallFault.{CallFault}
use Rattle.spl_desk.specs.declared.fault.CallFault.TheVariants.{Fault, Damaged, Full, Nodes, Spent, NoMemory}
use Rattle.spl_desk.specs.Calls.{IsSpentAt}
use Rattle.spl_desk.specs.Holder.{Holder}
use Rattle.spl_session.specs.Asking.{decides}

-- the span begins at the key, and has it
pub record IsFor (key : List ℕ) (span : Span) : Type 0 where
  pub from : span.from ≡ Some key
  pub inside : InSpan span key

-- the device failed in this call, or does not tell its pages and gave a damaged one of some branch, or the holder has made as many steps as it may, or memory ran out
abbrev pub HasLookCause : Bool → Counts → Counts → Holder → CallFault → Type 0
HasLookCause tells before after new Fault = Rose before.faults after.faults
HasLookCause tells before after new (Damaged damage) = (tells ≡ true → ⊥) × ((branch : Branch) × IsDamage branch before after damage)
HasLookCause tells before after new Full = ⊥
HasLookCause tells before after new Nodes = ⊥
HasLookCause tells before after new (Spent turns) = IsSpentAt turns new
HasLookCause tells before after new NoMemory = Unit {0}

-- at a leaf, and behind what decides, nothing below the node matters
abbrev pub is_last : {B : Type 0} → Sight B → Option Message → Bool
is_last sight found = sight.leaf || decides found
