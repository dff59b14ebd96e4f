-- What a page of a branch says of a key on the way down.
use Rattle.std.specs.Prelude.{◌≡◌, ℕ, ◌+◌, ◌<◌, if◌then◌else◌, List, Option, Some, None}
use Rattle.std.specs.List.{slice_get}
use Rattle.std.specs.Option.{IsSomeAnd}
use Rattle.spl_message.specs.declared.message.Message.{Message}
use Rattle.spl_message.specs.Entries.{message_in}
use Rattle.spl_message.specs.Table.{message_at}
use Rattle.spl_port.specs.declared.damaged.Damaged.{Damaged as Damage}
use Rattle.spl_port.specs.Counts.{Counts, Rose, Shown}
use Rattle.spl_port.specs.Page.{page_fault}
use Rattle.spl_page.specs.Tables.{child_for, children, leaf_table}
use Rattle.spl_branch.specs.declared.fault.BranchFault.{BranchFault}
use Rattle.spl_branch.specs.declared.fault.BranchFault.TheVariants.{Fault, Damaged, NoMemory}
use Rattle.spl_branch.specs.Branch.{Branch, table_of}
use Rattle.spl_branch.specs.Leaves.{are_below, leaf_tables, tables_below}
use Rattle.spl_branch.specs.Pages.{AreTold, shown_pages}
use Rattle.spl_branch.specs.Reading.{IsPlaceOf}

-- the page that goes on: an index page names the child under which the key belongs, if there is one
abbrev pub child_in : Shown → List ℕ → Option ℕ
child_in shown key = if shown.at.leaf then None else child_for (children shown.at.page shown.bytes) key

-- the message of the key, where the way ends at this page: a leaf page has it, and no child has a key that is below all first keys
abbrev pub message_on : Shown → List ℕ → Option Message
message_on shown key = if shown.at.leaf then message_in (leaf_table shown.bytes) key else None

-- the first leaf page that has an entry not below the key, where the way ends at this page: it is this leaf page or the next one,
-- and the branch's first one where the key is below all first keys
abbrev pub start_on : Shown → List ℕ → ℕ
start_on shown key = if shown.at.leaf then (if are_below (leaf_table shown.bytes) key then shown.at.page + 1 else shown.at.page) else 0

-- the way to the key ends at this page, which has what the branch has for the key
pub record IsEnd (branch : Branch) (key : List ℕ) (shown : Shown) : Type 0 where
  pub message : message_on shown key ≡ message_at (table_of branch) key
  pub start : start_on shown key ≡ tables_below (leaf_tables branch) key

-- the latest page that was read is one of the branch, and outside the page grammar for its place; where pages are told, it is this one
pub record IsPageDamage (branch : Branch) (page : ℕ) (before after : Counts) (damage : Damage) : Type 0 where
  pub place : IsPlaceOf branch.parts damage.at
  pub latest : IsSomeAnd after.last (λ shown. (shown.at ≡ damage.at) × (page_fault shown.at shown.bytes ≡ Some damage.why))
  pub read : before.reads < after.reads
  pub told : AreTold branch.parts → IsSomeAnd (slice_get (shown_pages branch.parts) page) (λ shown. page_fault shown.at shown.bytes ≡ Some damage.why)

-- the port failed, or gave a damaged page, or memory ran out
abbrev pub HasVisitCause : Branch → ℕ → Counts → Counts → BranchFault → Type 0
HasVisitCause branch page before after Fault = Rose before.faults after.faults
HasVisitCause branch page before after (Damaged damage) = IsPageDamage branch page before after damage
HasVisitCause branch page before after NoMemory = Unit {0}
