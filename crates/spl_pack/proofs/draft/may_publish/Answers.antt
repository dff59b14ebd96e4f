use Rattle.std.proofs.Common.{rules, ◌≡◌, false, Some, List, ℕ, sym, subst}
use Rattle.spl_numbers.specs.Numbers.{ListsEach}
use Rattle.spl_extent.specs.Pool.{granted_to}
use Rattle.spl_state.specs.Actor.{actor_in}
use Rattle.spl_state.specs.Extents.{number_of}
use Rattle.spl_state.specs.Whole.{Whole}
use Rattle.spl_pack.specs.Publishing.{MayPublish}
use Rattle.spl_pack.proofs.Publishes.{may_if}
use Rattle.spl_pack.proofs.draft.may_publish.Goals as goal

pub returns-in-Some-clause-answer : goal.returns-in-Some-clause-answer
returns-in-Some-clause-answer g c =
    let has : (actor_in c.parts.inside.actors c.args.actor).job ≡ Some c.in-Some.job = cc in
    let numbered : number_of c.in-Some.job ≡ g.B.Content.number c.args.branch.now = cc in
    let unpublished : (actor_in c.parts.inside.actors c.args.actor).published ≡ false = search rules in
    let same : c.extents.result.now ≡ g.B.Content.extents c.args.branch.now = cc in (
      (λ yes. may_if _ _ c.parts.view_is c.args.actor _ _ c.in-Some.job has numbered unpublished (subst (λ (list : List ℕ). ListsEach list (granted_to c.parts.inside.pool c.args.actor)) same (c.are_granted.ensures.answer.0 yes))),
      λ may.
          let here = subst (λ (w : Whole). MayPublish w c.args.actor (g.B.Content.number c.args.branch.now) (g.B.Content.extents c.args.branch.now)) (sym c.parts.view_is) may in
          c.are_granted.ensures.answer.1 (subst (λ (list : List ℕ). ListsEach list (granted_to c.parts.inside.pool c.args.actor)) (sym same) here.granted),
    )
