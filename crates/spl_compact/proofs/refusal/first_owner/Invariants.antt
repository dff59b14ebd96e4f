use Rattle.std.proofs.Common.{◌≡◌}
use Rattle.spl_compact.specs.Starting.{run_below, first_owner}
use Rattle.spl_compact.proofs.refusal.first_owner.Given as goal

-- no bundle so far has a mark
abbrev pub invariant-loop-number : goal.invariant-loop-number
invariant-loop-number l = first_owner (run_below l.lists l.number l.end) ≡ first_owner (run_below l.lists l.first l.end)
