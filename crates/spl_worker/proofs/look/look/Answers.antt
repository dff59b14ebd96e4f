use Rattle.std.proofs.Common.{◌<◌, ℕ, refl, sym, subst, ◌∙◌, inl, inr, arith}
use Rattle.spl_base.specs.declared.TheConstants.{ACTORS}
use Rattle.spl_job.proofs.Nothing.{held_nothing, no_holding, nothing_holds, root_told}
use Rattle.spl_worker.proofs.look.look.Goals as goal

pub survey-requires-clause-holds : goal.survey-requires-clause-holds
survey-requires-clause-holds g c =
    let old = g.T.Turns.means c.args.turns.now in
    (no_holding old.at old.actor, nothing_holds old c.requires.nothing, c.requires.known)

pub returns-in_err-survey-clause-nothing : goal.returns-in_err-survey-clause-nothing
returns-in_err-survey-clause-nothing g c =
    let old = g.T.Turns.means c.args.turns.now in
    let new = g.T.Turns.means c.survey.new.turns in
    let on = c.survey.ensures.holds (no_holding old.at old.actor) (nothing_holds old c.requires.nothing) in
    held_nothing new _ on.2 refl refl (λ node. refl)

pub returns-clause-nothing : goal.returns-clause-nothing
returns-clause-nothing g c =
    let old = g.T.Turns.means c.args.turns.now in
    let new = g.T.Turns.means c.survey.new.turns in
    let on = c.survey.ensures.holds (no_holding old.at old.actor) (nothing_holds old c.requires.nothing) in
    held_nothing new _ on.2 refl refl (λ node. refl)

pub returns-clause-told : goal.returns-clause-told
returns-clause-told g c =
    let old = g.T.Turns.means c.args.turns.now in
    let new = g.T.Turns.means c.survey.new.turns in
    let on = c.survey.ensures.holds (no_holding old.at old.actor) (nothing_holds old c.requires.nothing) in
    let within : new.actor < ACTORS = subst (λ (n : ℕ). n < ACTORS) (c.actor.ensures.value ∙ sym c.survey.ensures.same.actor) c.actor.ensures.known in
    let more = on.1 in
    let is = on.2.has.told in
    let root = root_told new _ on.2 within in
    elim c.requires.known [ inl first ↦ omega (arith, first, is, root) | inr below ↦ omega (arith, below, more, is) ]

pub returns-clause-more : goal.returns-clause-more
returns-clause-more g c =
    let old = g.T.Turns.means c.args.turns.now in
    let new = g.T.Turns.means c.survey.new.turns in
    let on = c.survey.ensures.holds (no_holding old.at old.actor) (nothing_holds old c.requires.nothing) in
    let more = on.1 in
    let is = on.2.has.told in
    omega (arith, more, is)
