use Rattle.std.proofs.Common.{◌++◌, ℕ, List, map, take}
use Rattle.spl_refs.specs.Refs.{branch_at}
use Rattle.spl_descent.specs.Sights.{HasBranches}
use Rattle.spl_descent.proofs.seen.share.Given as goal

abbrev pub invariant-loop-number : goal.invariant-loop-number
invariant-loop-number g l =
    (front : List ℕ) → HasBranches g.B.Content.number (branch_at l.refs) front (map (λ b. b.value) l.initial.shared.items)
    → HasBranches g.B.Content.number (branch_at l.refs) (front ++ take l.number-index l.numbers) (map (λ b. b.value) l.shared.items)
