use Rattle.std.proofs.Common.{◌≡◌, true, ◌≤◌, length}
use Rattle.spl_branch.specs.Branch.{table_of}
use Rattle.spl_branch.specs.Reading.{OnlyReads}
use Rattle.spl_range.specs.Adding.{AddsUnder}
use Rattle.spl_range.proofs.Adding.{from}
use Rattle.spl_range.proofs.add.add_branches.Given as goal

abbrev pub invariant-loop-left : goal.invariant-loop-left
invariant-loop-left g l = record {
  within : l.left ≤ length l.shared;
  counts : OnlyReads (g.P.Port.counts l.fn.port) (g.P.Port.counts l.port);
  faults : (g.P.Port.counts l.port).faults ≡ (g.P.Port.counts l.fn.port).faults;
  adds : g.P.Seal.Seal.TELLS ≡ true → AddsUnder (g.L.MergeLaw.rule l.law) l.span (from (g.L.MergeLaw.rule l.law) (λ b. table_of b.value) l.shared l.left) l.fn.found.entries l.found.entries;
}

abbrev pub decreases-loop-left : goal.decreases-loop-left
decreases-loop-left g l = l.left
