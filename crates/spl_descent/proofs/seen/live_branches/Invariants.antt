use Rattle.std.proofs.Common.{map}
use Rattle.spl_bundle.proofs.Live.{live_below}
use Rattle.spl_refs.specs.Refs.{branch_at}
use Rattle.spl_descent.specs.Sights.{HasBranches}
use Rattle.spl_descent.proofs.seen.live_branches.Given as goal

abbrev pub invariant-loop-number : goal.invariant-loop-number
invariant-loop-number g l =
    HasBranches g.B.Content.number (branch_at l.refs) (live_below l.lists l.from l.number) (map (λ b. b.value) l.shared.items)
