use Rattle.std.proofs.Common.{ap, sym, arith}
use Rattle.spl_holds.specs.Latch.{refused_by}
use Rattle.spl_holds.proofs.LatchLemmas.{claimant_from, is_read-lowest, is_read-none, IsLatched-grips_in, grips_in-lock}
use Rattle.spl_holds.proofs.latch.Latch.lock.Goals as goal

pub returns-then-self-ne0-clause-answer : goal.returns-then-self-ne0-clause-answer
returns-then-self-ne0-clause-answer c =
    let claimed = rw (← c.self.view_is) at c.requires.claimed in
    let claimant = claimant_from _ _ _ c.requires.known claimed in
    let sound = rw claimant at c.self.invariant in
    rw (← c.self.view_is, claimant) (ap refused_by (sym (is_read-lowest _ _ (omega arith) (omega arith) sound.1)))

pub returns-then-self-ne0-clause-latched : goal.returns-then-self-ne0-clause-latched
returns-then-self-ne0-clause-latched c = rw (← c.self.view_is) (IsLatched-grips_in _ _ c.self.invariant)

pub returns-clause-answer : goal.returns-clause-answer
returns-clause-answer c =
    let claimed = rw (← c.self.view_is) at c.requires.claimed in
    let claimant = claimant_from _ _ _ c.requires.known claimed in
    rw (← c.self.view_is, claimant) (ap refused_by (sym (is_read-none _ _ c.if-self-ne0.false)))

pub returns-clause-ok : goal.returns-clause-ok
returns-clause-ok c =
    let claimed = rw (← c.self.view_is) at c.requires.claimed in
    let claimant = claimant_from _ _ _ c.requires.known claimed in
    rw (← c.self.view_is, claimant) (grips_in-lock _ _ c.requires.known)

pub returns-clause-latched : goal.returns-clause-latched
returns-clause-latched c = IsLatched-grips_in _ _ (c.requires.known, c.if-self-ne0.false)
