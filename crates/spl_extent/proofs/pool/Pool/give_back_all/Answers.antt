use Rattle.std.proofs.Common.{◌≡◌, refl, sym, ◌∙◌, rules}
use Rattle.spl_numbers.specs.Numbers.{size_of}
use Rattle.spl_extent.specs.Pool.{granted_to}
use Rattle.spl_extent.proofs.GrantLemmas.{fewer_grants, without_grants-set, without_grants-none}
use Rattle.spl_extent.proofs.pool.Pool.give_back_all.Goals as goal

pub loop-extent-smaller : goal.loop-extent-smaller
loop-extent-smaller c = rw c.give_back.ensures (fewer_grants c.loop-extent.self c.args.actor c.in-Some.extent c.in-Some.ensures.granted)

pub loop-extent-preserved : goal.loop-extent-preserved
loop-extent-preserved c =
    rw c.give_back.ensures (without_grants-set c.loop-extent.self c.args.actor c.in-Some.extent c.in-Some.ensures.granted ∙ c.loop-extent.invariant)

pub returns : goal.returns
returns c =
    let empty : size_of (granted_to c.loop-extent.self c.args.actor) ≡ 0 = search rules in
    sym (without_grants-none c.loop-extent.self c.args.actor empty) ∙ c.loop-extent.invariant
