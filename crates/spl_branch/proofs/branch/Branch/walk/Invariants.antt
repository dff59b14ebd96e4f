use Rattle.spl_branch.proofs.Down.{IsDown}
use Rattle.spl_branch.proofs.Paths.{IsOnPath}
use Rattle.spl_branch.proofs.branch.Branch.walk.Given as goal

abbrev pub invariant-loop-page : goal.invariant-loop-page
invariant-loop-page g l =
    let start = g.P.Port.counts l.fn.port in
    let now = g.P.Port.counts l.port in
    record { down : IsDown l.self l.key l.number start now; path : IsOnPath (g.G.Pager.shows l.pager) l.self l.key l.number start now }

abbrev pub decreases-loop-page : goal.decreases-loop-page
decreases-loop-page g l = l.number
