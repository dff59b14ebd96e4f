use Rattle.std.proofs.Common.{◌≡◌, ◌+◌, ◌<◌}
use Rattle.spl_quotient.specs.Table.{runs}
use Rattle.spl_quotient.proofs.find.nth_run.Given as goal

abbrev pub invariant-loop-position : goal.invariant-loop-position
invariant-loop-position l = record {
  some : 0 < l.left;
  number : runs l.table.slots l.position + l.left ≡ runs l.table.slots l.start + l.number;
}
