use Rattle.std.proofs.Common.{◌∙◌}
use Rattle.spl_abandon.proofs.job.end_names.Goals as goal

pub returns-in-Some-Merge-clause-granted : goal.returns-in-Some-Merge-clause-granted
returns-in-Some-Merge-clause-granted g c = λ other. c.end_draft-in-Some-Merge.ensures.granted other ∙ c.let_go_all.ensures.granted other
