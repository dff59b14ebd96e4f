-- A merge of branches, as contracts see it, and what its next entry is.
use Rattle.std.specs.Prelude.{◌≡◌, ℕ, ◌+◌, Bool, true, List, [], ◌∷◌, Contains, Option, Some, None}
use Rattle.spl_message.specs.declared.message.Message.{Message}
use Rattle.spl_message.specs.declared.span.Span.{Span}
use Rattle.spl_message.specs.Key.{IsKey}
use Rattle.spl_message.specs.Rule.{Rule}
use Rattle.spl_message.specs.Span.{in_span}
use Rattle.spl_message.specs.Table.{Table, IsMerged, as_table}
use Rattle.spl_port.specs.Counts.{Counts, Rose}
use Rattle.spl_branch.specs.declared.fault.BranchFault.{BranchFault}
use Rattle.spl_branch.specs.declared.fault.BranchFault.TheVariants.{Fault, Damaged, NoMemory}
use Rattle.spl_branch.specs.Branch.{Branch}
use Rattle.spl_branch.specs.Pages.{page_total}
use Rattle.spl_branch.specs.Reading.{IsDamage}
use Rattle.spl_merge.specs.declared.step.Step.{Step}
use Rattle.spl_merge.specs.declared.step.Step.TheVariants.{Entry, Dropped, Ended}
use Rattle.spl_merge.specs.Merger.{IsAbove}
use Rattle.spl_merge.specs.Merging.{IsMergedSoFar}
use Rattle.spl_streams.specs.Streams.{Streams, branches_of, tables_left, unread_all}

-- the branches, the oldest first, the span, whether nothing older lies below, what is left of each branch where pages are
-- told, how many pages may still be read, the key of the latest step, and whether a step ran out of memory
pub record Merging : Type 0 where
  pub branches : List Branch
  pub span : Span
  pub bottom : Bool
  pub left : List Table
  pub unread : ℕ
  pub last : Option (List ℕ)
  pub failed : Bool

-- how many pages are read at most for the branch: each leaf page, and those on the way to the first one
abbrev pub pages_of : Branch → ℕ
pages_of branch = branch.leaves + page_total branch.parts

-- the merge that streams make
abbrev pub merging_of : Streams → Merging
merging_of streams = record {
  branches = branches_of streams.scans;
  span = streams.merger.span;
  bottom = streams.merger.bottom;
  left = tables_left streams;
  unread = unread_all streams.scans;
  last = streams.merger.last;
  failed = streams.merger.failed;
}

-- the same branches are merged in the same way, and what is above the new last key is above the old one
pub record Keeps (old new : Merging) : Type 0 where
  pub branches : new.branches ≡ old.branches
  pub span : new.span ≡ old.span
  pub bottom : new.bottom ≡ old.bottom
  pub last : (key : List ℕ) → IsAbove new.last key → IsAbove old.last key

-- a step passed this key
pub record Passes (old : Merging) (key : List ℕ) (new : Merging) : Type 0 where
  pub above : IsAbove old.last key
  pub last : new.last ≡ Some key
  pub is_key : IsKey key

-- the key of an entry lies in the span
abbrev pub Moves : Merging → Step → Merging → Type 0
Moves old (Entry key message) new = (in_span old.span key ≡ true) × Passes old key new
Moves old Dropped new = (key : List ℕ) × Passes old key new
Moves old Ended new = new.last ≡ old.last

-- what a step builds goes before the merge of what is left, and at the end the merge has nothing more
abbrev pub Builds : Rule → Merging → Step → Merging → Type 0
Builds rule old (Entry key message) new = IsMergedSoFar rule old.left old.span old.bottom ((key, message) ∷ []) new.left
Builds rule old Dropped new = IsMergedSoFar rule old.left old.span old.bottom [] new.left
Builds rule old Ended new = IsMerged rule old.left old.span old.bottom (as_table [])

-- the next entry goes before the merge of what is left, and where there is none the merge has nothing more
abbrev pub Gives : Rule → Merging → Option (List ℕ × Message) → Merging → Type 0
Gives rule old (Some entry) new = IsMergedSoFar rule old.left old.span old.bottom (entry ∷ []) new.left
Gives rule old None new = IsMerged rule old.left old.span old.bottom (as_table [])

-- the key is one of the span, above all keys before it
pub record IsNext (old : Merging) (key : List ℕ) (new : Merging) : Type 0 where
  pub inside : in_span old.span key ≡ true
  pub above : IsAbove old.last key
  pub last : new.last ≡ Some key

-- the port failed in this call, or gave a damaged page of one of the branches, or memory ran out
abbrev pub HasMergeCause : List Branch → Counts → Counts → BranchFault → Type 0
HasMergeCause branches before after Fault = Rose before.faults after.faults
HasMergeCause branches before after (Damaged damage) =
    (branch : Branch) × Contains branches branch × IsDamage branch before after damage
HasMergeCause branches before after NoMemory = Unit {0}
