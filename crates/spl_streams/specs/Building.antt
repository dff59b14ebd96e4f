-- A merge that has given some entries.
use Rattle.std.specs.Prelude.{◌≡◌, ℕ, Bool, true, List, map}
use Rattle.std.specs.List.{AllByRecursion}
use Rattle.spl_message.specs.declared.span.Span.{Span}
use Rattle.spl_message.specs.Entries.{Entries, AreEntries}
use Rattle.spl_message.specs.Key.{is_below}
use Rattle.spl_message.specs.Rule.{Rule}
use Rattle.spl_message.specs.Span.{in_span}
use Rattle.spl_branch.specs.Branch.{Branch, table_of}
use Rattle.spl_merge.specs.Merger.{IsAbove}
use Rattle.spl_merge.specs.Merging.{IsMergedSoFar}
use Rattle.spl_streams.specs.Merging.{Merging}

-- what a merge is of: the branches, the oldest first, the span, and whether nothing older lies below
pub record Merge : Type 0 where
  pub branches : List Branch
  pub span : Span
  pub bottom : Bool

-- the merge has given these entries: on every device they rise, lie in the span, and are below all that comes, and where
-- pages are told the merged tables are these entries and behind them the merge of what is left
pub record HasGiven (tells : Bool) (rule : Rule) (merge : Merge) (given : Entries) (merging : Merging) : Type 0 where
  pub branches : merging.branches ≡ merge.branches
  pub span : merging.span ≡ merge.span
  pub bottom : merging.bottom ≡ merge.bottom
  pub order : AreEntries given
  pub inside : AllByRecursion (λ entry. in_span merge.span entry.0 ≡ true) given
  pub below : (key : List ℕ) → IsAbove merging.last key → AllByRecursion (λ entry. is_below entry.0 key ≡ true) given
  pub told : tells ≡ true → IsMergedSoFar rule (map table_of merge.branches) merge.span merge.bottom given merging.left
