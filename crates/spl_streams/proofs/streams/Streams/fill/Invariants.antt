use Rattle.std.proofs.Common.{◌≡◌, ◌+◌, ◌≤◌, false, length}
use Rattle.spl_branch.specs.Reading.{OnlyReads}
use Rattle.spl_streams.specs.Streams.{Feeds, unread_all}
use Rattle.spl_streams.proofs.streams.Streams.fill.Given as goal

abbrev pub invariant-loop-stream : goal.invariant-loop-stream
invariant-loop-stream g l = record {
  sound : l.self.merger.failed ≡ false;
  feeds : Feeds g.S.Seal.TELLS l.fn.self l.self;
  once : (g.P.Port.counts l.port).reads + unread_all l.self.scans ≤ (g.P.Port.counts l.fn.port).reads
      + unread_all l.fn.self.scans;
  counts : OnlyReads (g.P.Port.counts l.fn.port) (g.P.Port.counts l.port);
  faults : (g.P.Port.counts l.port).faults ≡ (g.P.Port.counts l.fn.port).faults;
}

abbrev pub decreases-loop-stream : goal.decreases-loop-stream
decreases-loop-stream g l = length l.self.merger.wanted
