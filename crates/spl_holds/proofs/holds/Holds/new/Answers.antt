use Rattle.std.proofs.Common.{◌≡◌, ◌<◌, ◌≤◌, ◌+◌, ◌++◌, ◌∷◌, [], ℕ, length, slice_get, vec_capacity, rules, arith, ap, ◌∙◌, subst}
use Rattle.std.proofs.lemmas.List.{length_push}
use Rattle.spl_holds.specs.Latch.{IsLatched, nobody}
use Rattle.spl_holds.specs.declared.holds.TheConstants.{NODES}
use Rattle.spl_holds.proofs.TallyLemmas.{IsKept-new, fresh, fresh_more}
use Rattle.spl_holds.proofs.holds.Holds.new.Goals as goal

pub loop-actor-preserved : goal.loop-actor-preserved
loop-actor-preserved c =
    let pushed : c.push-in-loop-actor.new.self.items ≡ c.loop-actor.tallies.items ++ c.in_ok-new.field-0 ∷ [] = search rules in
    record {
      so_far = ap length pushed ∙ length_push c.loop-actor.tallies.items c.in_ok-new.field-0 ∙ ap (λ n. n + 1) c.loop-actor.invariant.so_far;
      none = fresh_more c.loop-actor.tallies.items _ c.in_ok-new.field-0 pushed c.in_ok-new.ensures.counts c.in_ok-new.ensures.nodes c.loop-actor.invariant.none;
    }

pub invariant_of-result : goal.invariant_of-result
invariant_of-result c =
    let made : c.push.new.self.items ≡ nobody ∷ [] = search rules in
    let enough : NODES ≤ vec_capacity c.push.new.self = search rules in
    IsKept-new _ _ _ made (subst (λ latch. IsLatched latch) c.new.ensures.nobody c.new.ensures.latched) enough (omega (arith, c.loop-actor.invariant.so_far)) c.loop-actor.invariant.none
