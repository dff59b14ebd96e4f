use Rattle.std.proofs.Common.{ℕ, ◌+◌, ◌/◌, ◌^◌, ◌<◌, ◌≤◌, length}
use Rattle.std.specs.Prelude.{slice_index}
use Rattle.spl_quotient.proofs.prints.farthest_ahead.Given as goal

abbrev pub invariant-loop-i : goal.invariant-loop-i
invariant-loop-i l = record {
  within : 0 < length l.spots → l.farthest < length l.spots;
  farthest : (k : ℕ) → k < l.i → slice_index l.spots k / 2 ^ 12 + l.farthest ≤ slice_index l.spots l.farthest / 2 ^ 12 + k;
}
