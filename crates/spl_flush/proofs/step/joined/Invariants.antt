use Rattle.std.proofs.Common.{◌≡◌}
use Rattle.spl_bundle.proofs.Live.{live_below}
use Rattle.spl_flush.proofs.step.joined.Given as goal

-- the lists below the number are copied
abbrev pub invariant-loop-number : goal.invariant-loop-number
invariant-loop-number l = l.joined.items ≡ live_below l.lists l.from l.number
