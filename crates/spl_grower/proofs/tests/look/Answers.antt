use Rattle.std.proofs.Common.{ℕ, ◌<◌, inl, refl, sym, subst, ◌∙◌, arith}
use Rattle.spl_base.specs.declared.TheConstants.{ACTORS}
use Rattle.spl_job.proofs.Nothing.{held_nothing, nothing_holds, root_told}
use Rattle.spl_grower.proofs.Jobs.{had}
use Rattle.spl_grower.proofs.tests.look.Goals as goal

pub survey-requires-clause-holds : goal.survey-requires-clause-holds
survey-requires-clause-holds g c =
    let old = g.T.Turns.means c.abandon.new.turns in
    (had old, nothing_holds old c.abandon.ensures.nothing, inl refl)

pub returns-clause-nothing : goal.returns-clause-nothing
returns-clause-nothing g c =
    let old = g.T.Turns.means c.abandon.new.turns in
    let new = g.T.Turns.means c.survey.new.turns in
    let on = c.survey.ensures.holds (had old) (nothing_holds old c.abandon.ensures.nothing) in
    held_nothing new _ on.2 refl refl (λ node. refl)

pub returns-clause-told : goal.returns-clause-told
returns-clause-told g c =
    let old = g.T.Turns.means c.abandon.new.turns in
    let new = g.T.Turns.means c.survey.new.turns in
    let on = c.survey.ensures.holds (had old) (nothing_holds old c.abandon.ensures.nothing) in
    let within : new.actor < ACTORS = subst (λ (n : ℕ). n < ACTORS) (c.actor.ensures.value ∙ sym c.survey.ensures.same.actor) c.actor.ensures.known in
    let is = on.2.has.told in
    let root = root_told new _ on.2 within in
    omega (arith, is, root)
