use Rattle.std.proofs.Common.{◌≡◌, min, take, fold}
use Rattle.spl_bundle.specs.Numbered.{next_of}
use Rattle.spl_node.proofs.node.Node.least_mark.Given as goal

-- the least of the marks so far
abbrev pub invariant-loop-pivot : goal.invariant-loop-pivot
invariant-loop-pivot l = l.least ≡ fold (λ least pivot. min least pivot.mark) (next_of l.self.lists) (take l.pivot-index l.pivots)
