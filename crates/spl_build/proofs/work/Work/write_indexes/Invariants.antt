use Rattle.std.proofs.Common.{◌*◌, ◌-◌, length}
use Rattle.spl_branch.specs.Pages.{page_total}
use Rattle.spl_build.proofs.Climbing.{Climbs}
use Rattle.spl_build.proofs.work.Work.write_indexes.Given as goal

abbrev pub invariant-loop-self : goal.invariant-loop-self
invariant-loop-self g l = Climbs g.P.Seal.Seal.TELLS l.initial.self l.self (g.P.Port.counts l.initial.port) (g.P.Port.counts l.port)

abbrev pub decreases-loop-self : goal.decreases-loop-self
decreases-loop-self g l = 32 * length l.self.written.extents - page_total l.self.written.parts
