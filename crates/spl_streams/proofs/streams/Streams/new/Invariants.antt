use Rattle.std.proofs.Common.{◌≡◌, ℕ, true, Some, map, take}
use Rattle.std.specs.List.{slice_get}
use Rattle.spl_message.specs.Entries.{AreEntries}
use Rattle.spl_branch.specs.Branch.{Branch, entries_in}
use Rattle.spl_streams.specs.Streams.{fresh_scan}
use Rattle.spl_streams.proofs.streams.Streams.new.Given as goal

abbrev pub invariant-loop-branch : goal.invariant-loop-branch
invariant-loop-branch g l = record {
  scans : l.scans.items ≡ map (fresh_scan l.span) (map (λ branch. branch.value) (take l.branch-index l.branches));
  order : g.S.Seal.TELLS ≡ true → (i : ℕ) (branch : Branch) →
      slice_get (map (λ branch. branch.value) (take l.branch-index l.branches)) i ≡ Some branch →
      AreEntries (entries_in branch);
}
