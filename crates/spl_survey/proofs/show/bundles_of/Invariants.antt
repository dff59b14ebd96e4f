use Rattle.std.proofs.Common.{◌≡◌, ◌-◌, take}
use Rattle.spl_survey.specs.Surveys.{views_from}
use Rattle.spl_survey.proofs.show.bundles_of.Given as goal

abbrev pub invariant-loop-number : goal.invariant-loop-number
invariant-loop-number l = l.views.items ≡ views_from l.lists.first (take (l.number - l.lists.first) l.lists.bundles)
