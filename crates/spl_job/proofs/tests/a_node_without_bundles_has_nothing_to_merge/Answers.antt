use Rattle.std.proofs.Common.{[], inl, refl}
use Rattle.spl_message.specs.Rule.{newest}
use Rattle.spl_alone.specs.Alone.{only_holder}
use Rattle.spl_job.specs.Merging.{with_told}
use Rattle.spl_job.proofs.Nothing.{no_holding, nothing_holds}
use Rattle.spl_job.proofs.tests.a_node_without_bundles_has_nothing_to_merge.Goals as goal

pub abandon-requires-clause-seen : goal.abandon-requires-clause-seen
abandon-requires-clause-seen g c = ([], rw c.new-turns.ensures (c.in_ok-core.ensures.stands newest))

pub survey-requires-clause-holds : goal.survey-requires-clause-holds
survey-requires-clause-holds g c =
    let now = only_holder newest c.abandon.new.turns.core.parts in
    (no_holding now.at now.actor, nothing_holds now c.abandon.ensures.nothing, inl refl)

pub start-requires-clause-holds : goal.start-requires-clause-holds
start-requires-clause-holds g c =
    let before = only_holder newest c.abandon.new.turns.core.parts in
    let none = no_holding before.at before.actor in
    let shown = c.survey.ensures.holds none (nothing_holds before c.abandon.ensures.nothing) in
    (with_told none shown.0, shown.2.has, refl, inl refl)
