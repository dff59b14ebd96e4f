use Rattle.std.proofs.Common.{map, take}
use Rattle.spl_refs.specs.Refs.{branch_at}
use Rattle.spl_descent.specs.Sights.{HasBranches}
use Rattle.spl_compact.proofs.names.share.Given as goal

abbrev pub invariant-loop-number : goal.invariant-loop-number
invariant-loop-number g l = HasBranches g.B.Content.number (branch_at l.refs) (take l.number-index l.numbers) (map (λ b. b.value) l.shared.items)
