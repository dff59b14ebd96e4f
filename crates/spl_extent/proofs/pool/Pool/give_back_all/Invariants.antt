use Rattle.std.proofs.Common.{◌≡◌}
use Rattle.spl_numbers.specs.Numbers.{size_of}
use Rattle.spl_extent.specs.Pool.{granted_to, without_grants}
use Rattle.spl_extent.proofs.pool.Pool.give_back_all.Given as goal

-- what was given back so far would be given back anyway
abbrev pub invariant-loop-extent : goal.invariant-loop-extent
invariant-loop-extent l = without_grants l.self l.actor ≡ without_grants l.initial.self l.actor

abbrev pub decreases-loop-extent : goal.decreases-loop-extent
decreases-loop-extent l = size_of (granted_to l.self l.actor)
