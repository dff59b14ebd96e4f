use Rattle.std.proofs.Common.{ℕ, ◌*◌, ◌-◌, ◌^◌, ◌<◌, ◌≤◌}
use Rattle.spl_quotient.proofs.filter.exponent_of.Given as goal

abbrev pub invariant-loop-q : goal.invariant-loop-q
invariant-loop-q l = record {
  least : 6 ≤ l.q;
  most : l.q ≤ 52;
  too_few : (smaller : ℕ) → 6 ≤ smaller → smaller < l.q → 2 ^ smaller < 2 * l.count;
}

abbrev pub decreases-loop-q : goal.decreases-loop-q
decreases-loop-q l = 52 - l.q
