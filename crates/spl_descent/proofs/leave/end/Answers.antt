use Rattle.std.proofs.Common.{sym, ap, subst, refl, ◌∙◌, List}
use Rattle.std.specs.Prelude.{All}
use Rattle.spl_holds.specs.declared.grip.Grip.{Grip}
use Rattle.spl_holds.specs.Latch.{IsLatched}
use Rattle.spl_state.specs.declared.actor.Actor.{Actor}
use Rattle.spl_descent.proofs.Ends.{ended_move}
use Rattle.spl_descent.proofs.Moves.{sound_where, framed_where}
use Rattle.spl_descent.proofs.leave.end.Goals as goal

pub invariant_of-parts : goal.invariant_of-parts
invariant_of-parts g c =
    let has = sym (ap (λ (a : Actor). a.descent) c.at.ensures.value) ∙ c.in-Some.is in
    let latched = subst (λ (grips : List (List Grip)). All IsLatched grips) c.leave.ensures.left c.leave.ensures.latched in
    let move = ended_move _ c.args.actor c.in-Some.descent c.parts.invariant c.requires has latched in
    sound_where _ c.parts.invariant c.args.actor _ _ _ _ _ _ move c.leave.ensures.left c.set_descent.ensures refl

pub returns-in-Some-clause-framed : goal.returns-in-Some-clause-framed
returns-in-Some-clause-framed g c = λ rule drafts.
    let has = sym (ap (λ (a : Actor). a.descent) c.at.ensures.value) ∙ c.in-Some.is in
    let latched = subst (λ (grips : List (List Grip)). All IsLatched grips) c.leave.ensures.left c.leave.ensures.latched in
    let move = ended_move _ c.args.actor c.in-Some.descent c.parts.invariant c.requires has latched in
    framed_where _ c.parts.invariant c.args.actor _ _ _ _ _ _ move c.leave.ensures.left c.set_descent.ensures refl _ (sym c.parts.view_is) rule _ drafts
