use Rattle.std.proofs.Common.{◌≡◌, ◌+◌, ◌≤◌, true, false, []}
use Rattle.spl_branch.specs.Reading.{OnlyReads}
use Rattle.spl_merge.specs.Merging.{IsMergedSoFar}
use Rattle.spl_streams.specs.Above.{keys_left}
use Rattle.spl_streams.specs.Merging.{Keeps}
use Rattle.spl_streams.proofs.merged.Merged.next.Given as goal

abbrev pub invariant-loop-key : goal.invariant-loop-key
invariant-loop-key g l = record {
  sound : l.self.failed ≡ false;
  keeps : Keeps l.fn.self l.self;
  told : g.S.Seal.TELLS ≡ true → IsMergedSoFar (g.L.MergeLaw.rule l.law) l.fn.self.left l.fn.self.span l.fn.self.bottom []
      l.self.left;
  once : (g.P.Port.counts l.port).reads + l.self.unread ≤ (g.P.Port.counts l.fn.port).reads + l.fn.self.unread;
  counts : OnlyReads (g.P.Port.counts l.fn.port) (g.P.Port.counts l.port);
  faults : (g.P.Port.counts l.port).faults ≡ (g.P.Port.counts l.fn.port).faults;
}

abbrev pub decreases-loop-key : goal.decreases-loop-key
decreases-loop-key g l = keys_left l.self.last
