use Rattle.std.proofs.Common.{◌≡◌, ◌≢◌, ℕ, ◌<◌, ◌≤◌, true}
use Rattle.spl_quotient.specs.Table.{at}
use Rattle.spl_quotient.proofs.find.run_has.Given as goal

abbrev pub invariant-loop-position : goal.invariant-loop-position
invariant-loop-position l = record {
  continued : (t : ℕ) → l.run < t → t < l.position → (at l.table.slots t).continuation ≡ true;
  missed : (t : ℕ) → l.run ≤ t → t < l.position → (at l.table.slots t).remainder ≢ l.remainder;
}
