use Rattle.std.proofs.Common.{◌≡◌, ◌<◌, ◌≤◌, ℕ, ◌+◌, [], false, replicate, get_or, length, slice_index, vec_capacity}
use Rattle.spl_extent.proofs.pool.Pool.new.Given as goal

-- the numbers fall from the last extent's, one a turn
abbrev pub invariant-loop-extent : goal.invariant-loop-extent
invariant-loop-extent l = record {
  so_far : length l.spare.items + l.extent ≡ l.count;
  falling : (k : ℕ) → k < length l.spare.items → slice_index l.spare.items k + k + 1 ≡ l.count;
  room : l.count ≤ vec_capacity l.spare;
}

-- so many actors have no grant yet
abbrev pub invariant-loop-actor : goal.invariant-loop-actor
invariant-loop-actor l = record {
  so_far : length l.granted.items ≡ l._actor;
  none : (k : ℕ) → k < length l.granted.items → get_or l.granted.items k [] ≡ replicate l.count false;
}
