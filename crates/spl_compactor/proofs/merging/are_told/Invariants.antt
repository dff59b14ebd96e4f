use Rattle.std.proofs.Common.{◌≡◌, true, map, take}
use Rattle.spl_compactor.specs.Stopping.{AllTold}
use Rattle.spl_compactor.proofs.merging.are_told.Given as goal

abbrev pub invariant-loop-branch : goal.invariant-loop-branch
invariant-loop-branch g l = record {
  told : g.S.Seal.TELLS ≡ true → AllTold (map (λ branch. branch.value) (take l.branch-index l.branches));
}
