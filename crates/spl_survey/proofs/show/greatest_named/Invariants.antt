use Rattle.std.proofs.Common.{◌≡◌, max, fold, take}
use Rattle.spl_survey.specs.Surveys.{children_of}
use Rattle.spl_survey.proofs.show.greatest_named.Given as goal

abbrev pub invariant-loop-pivot : goal.invariant-loop-pivot
invariant-loop-pivot l = l.greatest ≡ fold max l.node (children_of (take l.pivot-index l.pivots))
