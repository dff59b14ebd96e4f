use Rattle.std.proofs.Common.{Option, subst}
use Rattle.spl_branch.specs.Branch.{Branch}
use Rattle.spl_compactor.specs.Compacting.{IsWritten}
use Rattle.spl_compactor.proofs.Merges.{published_some}
use Rattle.spl_compactor.proofs.merging.publish_output.Goals as goal

pub returns-clause-to_place : goal.returns-clause-to_place
returns-clause-to_place g c = λ least written.
    let old = g.T.Turns.means c.args.turns.now in
    let new = g.T.Turns.means c.publish.new.turns in
    let some = subst (λ (output : Option Branch). IsWritten g.S.Seal.TELLS old least output) c.in-Some.is written in
    published_some g.S.Seal.TELLS old new least c.in-Some.branch some (c.in_ok-publish.ensures.holds some.holding some.merger.holds)
