use Rattle.std.proofs.Common.{map, subst, arith}
use Rattle.std.proofs.lemmas.List.{take_all}
use Rattle.spl_branch.specs.Branch.{Branch}
use Rattle.spl_branch.specs.Pages.{AreTold}
use Rattle.spl_compactor.specs.Stopping.{AllTold}
use Rattle.spl_compactor.proofs.Stops.{told_more}
use Rattle.spl_compactor.proofs.merging.are_told.Goals as goal

pub loop-branch-preserved : goal.loop-branch-preserved
loop-branch-preserved g c = record {
  told = λ told. told_more (λ branch. branch.value) c.args.branches.now c.loop-branch.branch-index c.branch-item.result (omega arith) c.branch-item.is (c.loop-branch.invariant.told told) (subst (λ (b : Branch). AreTold b.parts) c.deref.ensures (c.leaves-leaves.ensures.told told));
}

pub returns : goal.returns
returns g c = λ told.
    subst (λ bs. AllTold (map (λ branch. branch.value) bs)) (take_all c.loop-branch.branch-index c.args.branches.now (omega arith)) (c.loop-branch.invariant.told told)
