use Rattle.std.proofs.Common.{◌≡◌}
use Rattle.std.specs.List.{All}
use Rattle.spl_holds.specs.Holds.{without_actor}
use Rattle.spl_holds.proofs.TallyLemmas.{held_count}
use Rattle.spl_holds.proofs.holds.Holds.leave_all.Given as goal

-- what was left so far would be left anyway
abbrev pub invariant-loop-node : goal.invariant-loop-node
invariant-loop-node l = without_actor l.self l.actor ≡ without_actor l.initial.self l.actor

abbrev pub decreases-loop-node : goal.decreases-loop-node
decreases-loop-node l = held_count l.self l.actor
