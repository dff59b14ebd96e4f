use Rattle.std.specs.List.Sorted.{IsStrictlySortedBy}
use Rattle.spl_report.proofs.tests.pieces.Goals as goal

pub of-requires : goal.of-requires
unfolding IsStrictlySortedBy
of-requires c = rw c.in_ok-vec.ensures.items (tt, tt)

pub of-requires-2 : goal.of-requires-2
unfolding IsStrictlySortedBy
of-requires-2 c = rw c.new.ensures.items tt
