use Rattle.std.proofs.Common.{ℕ, ◌≡◌, ◌+◌, take}
use Rattle.spl_refs.specs.Refs.{count_at, branch_at}
use Rattle.spl_trunk.specs.Tree.{times}
use Rattle.spl_flush.proofs.names.hold_all.Given as goal

-- the branches so far are counted once more
abbrev pub invariant-loop-number : goal.invariant-loop-number
invariant-loop-number g l = record {
  counts : (number : ℕ) → count_at l.refs number ≡ count_at l.initial.refs number + times number
      (take l.number-index l.numbers);
  branches : (number : ℕ) → branch_at l.refs number ≡ branch_at l.initial.refs number;
}
