use Rattle.std.proofs.Common.{◌≡◌, true, ◌+◌, ◌≤◌, ◌++◌, drop, length, option_to_list}
use Rattle.std.specs.Prelude.{sum_by}
use Rattle.spl_branch.specs.Branch.{table_of}
use Rattle.spl_branch.specs.Reading.{OnlyReads, reach_of}
use Rattle.spl_session.specs.Asking.{Folds}
use Rattle.spl_session.proofs.Asking.{from}
use Rattle.spl_session.proofs.ask.ask_branches.Given as goal

abbrev pub invariant-loop-left : goal.invariant-loop-left
invariant-loop-left g l = record {
  within : l.left ≤ length l.shared;
  counts : OnlyReads (g.P.Port.counts l.initial.port) (g.P.Port.counts l.port);
  reads : g.P.Seal.Seal.TELLS ≡ true → (g.P.Port.counts l.port).reads ≤ (g.P.Port.counts l.initial.port).reads + sum_by (λ b. reach_of b.value l.key) (drop l.left l.shared);
  folds : g.P.Seal.Seal.TELLS ≡ true → Folds (g.L.MergeLaw.rule l.law) l.key
      (from (g.L.MergeLaw.rule l.law) l.key (λ b. table_of b.value) l.shared l.left ++ option_to_list l.initial.found) l.found;
}

abbrev pub decreases-loop-left : goal.decreases-loop-left
decreases-loop-left g l = l.left
