use Rattle.std.proofs.Common.{sym, ◌∙◌}
use Rattle.spl_holds.proofs.LatchLemmas.{IsLatched-grips_in, IsSound-leave, grips_in-leave, grips_in-leave_owner, owner_is, owner_is_not}
use Rattle.spl_holds.proofs.latch.Latch.leave.Goals as goal

pub invariant_of-self-else-eq : goal.invariant_of-self-else-eq
invariant_of-self-else-eq c =
    let other = owner_is_not c.actor.result c.args.actor (sym c.eq.ensures ∙ c.if-eq.false) in
    IsSound-leave _ _ _ c.requires c.self.invariant (rw c.actor.ensures at other)

pub returns-then-eq-clause-left : goal.returns-then-eq-clause-left
returns-then-eq-clause-left c =
    let owner = owner_is c.actor.result c.args.actor (sym c.eq.ensures ∙ c.if-eq.true) in
    rw (← c.self.view_is) (grips_in-leave_owner _ _ _ c.requires (sym c.actor.ensures ∙ owner))

pub returns-then-eq-clause-latched : goal.returns-then-eq-clause-latched
returns-then-eq-clause-latched c = IsLatched-grips_in _ _ tt

pub returns-else-eq-clause-left : goal.returns-else-eq-clause-left
returns-else-eq-clause-left c =
    let other = owner_is_not c.actor.result c.args.actor (sym c.eq.ensures ∙ c.if-eq.false) in
    rw (← c.self.view_is) (grips_in-leave _ _ _ c.requires (rw c.actor.ensures at other))

pub returns-else-eq-clause-latched : goal.returns-else-eq-clause-latched
returns-else-eq-clause-latched c =
    let other = owner_is_not c.actor.result c.args.actor (sym c.eq.ensures ∙ c.if-eq.false) in
    IsLatched-grips_in _ _ (IsSound-leave _ _ _ c.requires c.self.invariant (rw c.actor.ensures at other))
