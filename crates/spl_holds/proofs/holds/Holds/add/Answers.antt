use Rattle.std.proofs.Common.{◌≡◌, ◌++◌, ◌∷◌, [], ◌<◌, length, rules, ap, ◌∙◌, subst}
use Rattle.spl_holds.specs.Latch.{IsLatched, nobody}
use Rattle.spl_holds.specs.declared.holds.TheConstants.{NODES}
use Rattle.spl_holds.proofs.TallyLemmas.{IsKept-added}
use Rattle.spl_holds.proofs.holds.Holds.add.Goals as goal

pub invariant_of-self : goal.invariant_of-self
invariant_of-self c =
    let pushed : c.push.new.self.items ≡ c.self.inside.latches.items ++ c.new.result ∷ [] = rw c.unwrap.ensures at c.push.ensures.items in
    let few : length c.self.inside.latches.items < NODES = rw c.self.view_is c.requires in
    IsKept-added _ _ _ _ _ c.self.invariant (pushed ∙ ap (λ latch. c.self.inside.latches.items ++ latch ∷ []) c.new.ensures.nobody) few (subst (λ latch. IsLatched latch) c.new.ensures.nobody c.new.ensures.latched) c.push.ensures.capacity
