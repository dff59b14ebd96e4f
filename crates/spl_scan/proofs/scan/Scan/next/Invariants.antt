use Rattle.std.proofs.Common.{◌≡◌, ◌+◌, ◌≤◌, true}
use Rattle.spl_branch.specs.Reading.{OnlyReads}
use Rattle.spl_scan.specs.Scan.{SamePlace, unread}
use Rattle.spl_scan.proofs.scan.Scan.next.Given as goal

abbrev pub invariant-loop-key : goal.invariant-loop-key
invariant-loop-key g l = record {
  begun : l.self.begun ≡ true;
  place : SamePlace l.fn.self l.self;
  once : (g.P.Port.counts l.port).reads + unread l.self ≤ (g.P.Port.counts l.fn.port).reads + unread
      l.fn.self;
  counts : OnlyReads (g.P.Port.counts l.fn.port) (g.P.Port.counts l.port);
  faults : (g.P.Port.counts l.port).faults ≡ (g.P.Port.counts l.fn.port).faults;
}

abbrev pub decreases-loop-key : goal.decreases-loop-key
decreases-loop-key g l = unread l.self
