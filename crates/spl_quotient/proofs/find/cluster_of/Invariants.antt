use Rattle.std.proofs.Common.{◌≡◌, suc, ◌+◌, ◌<◌, ◌≤◌}
use Rattle.spl_quotient.specs.Table.{at, homes}
use Rattle.spl_quotient.proofs.find.cluster_of.Given as goal

abbrev pub invariant-loop-start : goal.invariant-loop-start
invariant-loop-start l = record {
  slot : l.slot ≡ at l.table.slots l.start;
  some : 0 < l.homes;
  homes : homes l.table.slots l.start + l.homes ≡ homes l.table.slots (suc l.home);
  small : l.homes + l.start ≤ l.home + 1;
}

abbrev pub decreases-loop-start : goal.decreases-loop-start
decreases-loop-start l = l.start
