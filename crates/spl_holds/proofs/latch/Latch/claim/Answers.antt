use Rattle.std.proofs.Common.{ap, sym, ◌∙◌}
use Rattle.spl_holds.specs.Latch.{refused_by}
use Rattle.spl_holds.proofs.LatchLemmas.{may_write-owner, may_write-nobody, IsLatched-grips_in, IsSound-claim, grips_in-claim}
use Rattle.spl_holds.proofs.latch.Latch.claim.Goals as goal

pub returns-in-Some-clause-answer : goal.returns-in-Some-clause-answer
returns-in-Some-clause-answer c =
    let owner = sym c.actor.ensures ∙ c.in-Some.is in
    rw (← c.self.view_is) (ap refused_by (sym (may_write-owner _ _ _ c.self.invariant owner)))

pub returns-in-Some-clause-latched : goal.returns-in-Some-clause-latched
returns-in-Some-clause-latched c = rw (← c.self.view_is) (IsLatched-grips_in _ _ c.self.invariant)

pub invariant_of-self : goal.invariant_of-self
invariant_of-self c =
    IsSound-claim _ c.self.inside.owner _ c.requires.known (rw c.self.view_is c.requires.free)

pub returns-clause-answer : goal.returns-clause-answer
returns-clause-answer c =
    let none = sym c.actor.ensures ∙ c.in_default.is in
    rw (← c.self.view_is) (ap refused_by (sym (may_write-nobody _ _ none)))

pub returns-clause-ok : goal.returns-clause-ok
returns-clause-ok c =
    let none = sym c.actor.ensures ∙ c.in_default.is in
    rw (← c.self.view_is) (grips_in-claim _ _ _ c.requires.known none)

pub returns-clause-latched : goal.returns-clause-latched
returns-clause-latched c =
    IsLatched-grips_in _ _ (IsSound-claim _ c.self.inside.owner _ c.requires.known (rw c.self.view_is c.requires.free))
