use Rattle.std.proofs.Common.{◌≡◌, ◌<◌, ℕ, Some, length, slice_get}
use Rattle.spl_holds.proofs.TallyLemmas.{fresh}
use Rattle.spl_holds.proofs.holds.Holds.new.Given as goal

-- so many actors have nothing yet
abbrev pub invariant-loop-actor : goal.invariant-loop-actor
invariant-loop-actor l = record {
  so_far : length l.tallies.items ≡ l._actor;
  none : (k : ℕ) → k < length l.tallies.items → slice_get l.tallies.items k ≡ Some fresh;
}
