use Rattle.std.proofs.Common.{◌≡◌, [], ◌∙◌, ap, arith, subst}
use Rattle.std.proofs.lemmas.List.{get_or_default}
use Rattle.spl_extent.specs.Pool.{granted_to}
use Rattle.spl_extent.proofs.pool.Pool.are_granted.Goals as goal

pub returns-clause-answer : goal.returns-clause-answer
returns-clause-answer c =
    let h = c.self.invariant in
    let set_is : c.index_mut.result.now ≡ granted_to c.args.self.now c.args.actor = rw (← c.self.view_is)
    (c.index_mut.ensures.value ∙ get_or_default c.self.inside.granted.items c.args.actor c.index_mut.result.now [] (omega (arith, h.actors)) ∙ h.each c.args.actor c.requires) in
    rw set_is at c.is_listed_by.ensures.answer
