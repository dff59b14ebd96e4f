use Rattle.std.proofs.Common.{◌≡◌, true}
use Rattle.spl_message.specs.Entries.{AreEntries}
use Rattle.spl_branch.specs.Reading.{OnlyReads}
use Rattle.spl_scan.specs.Scan.{left_of}
use Rattle.spl_streams.specs.Above.{keys_left}
use Rattle.spl_streams.specs.Streams.{fresh_scan}
use Rattle.spl_range.specs.Adding.{ComeTo}
use Rattle.spl_range.proofs.add.add_branch.Given as goal

abbrev pub invariant-loop-scan : goal.invariant-loop-scan
invariant-loop-scan g l = record {
  branch : l.scan.branch ≡ l.branch.value;
  order : g.P.Seal.Seal.TELLS ≡ true → AreEntries (left_of l.scan);
  come : g.P.Seal.Seal.TELLS ≡ true → ComeTo (g.L.MergeLaw.rule l.law) (left_of l.scan) l.found.entries (left_of (fresh_scan l.span l.branch.value)) l.fn.found.entries;
  counts : OnlyReads (g.P.Port.counts l.fn.port) (g.P.Port.counts l.port);
  faults : (g.P.Port.counts l.port).faults ≡ (g.P.Port.counts l.fn.port).faults;
}

abbrev pub decreases-loop-scan : goal.decreases-loop-scan
decreases-loop-scan g l = keys_left l.scan.last
