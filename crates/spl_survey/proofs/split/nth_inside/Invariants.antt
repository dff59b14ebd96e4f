use Rattle.std.proofs.Common.{◌≡◌, ◌≤◌, length, filter, take}
use Rattle.spl_state.specs.Sight.{is_inside}
use Rattle.spl_survey.proofs.split.nth_inside.Given as goal

abbrev pub invariant-loop-cut : goal.invariant-loop-cut
invariant-loop-cut l = (l.before ≡ length (filter (is_inside l.range) (take l.cut-index l.cuts))) × (l.before ≤ l.index)
