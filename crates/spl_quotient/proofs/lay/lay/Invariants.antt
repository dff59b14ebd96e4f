use Rattle.std.proofs.Common.{◌≡◌, ℕ, ◌+◌, ◌-◌, ◌<◌, ◌≤◌, ◌↔◌, true, length}
use Rattle.spl_quotient.specs.Table.{has, home_in}
use Rattle.spl_quotient.specs.Filling.{IsFilled, HasPrint, print_at}
use Rattle.spl_quotient.proofs.lay.lay.Given as goal

abbrev pub invariant-loop-i : goal.invariant-loop-i
invariant-loop-i l =
    let origin = l.initial.table.origin in
    let len = length l.initial.table.slots in
    record {
      filled : IsFilled l.table.slots l.next l.last;
      ordered : l.i < length l.prints → 0 < l.next → l.last ≤ home_in origin len (print_at l.prints l.first l.i);
      room : l.next + (length l.prints - l.i) ≤ len;
      has_so_far : (h r : ℕ) → (has l.table.slots h r ≡ true) ↔ HasPrint l.prints l.first origin len l.i h r;
      same_origin : l.table.origin ≡ origin;
      same_len : length l.table.slots ≡ len;
    }
