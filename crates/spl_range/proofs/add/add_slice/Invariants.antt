use Rattle.spl_message.specs.Entries.{AreEntries}
use Rattle.spl_range.specs.Adding.{ComeTo}
use Rattle.spl_range.proofs.add.add_slice.Given as goal

abbrev pub invariant-loop-key : goal.invariant-loop-key
invariant-loop-key g l = record {
  order : AreEntries l.key-iterator;
  come : ComeTo (g.L.MergeLaw.rule l.law) l.key-iterator l.found.entries l.slice.messages l.fn.found.entries;
}
