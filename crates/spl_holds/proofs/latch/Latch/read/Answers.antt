use Rattle.std.proofs.Common.{ap, sym}
use Rattle.spl_holds.specs.Latch.{refused_by}
use Rattle.spl_holds.proofs.LatchLemmas.{is_write-writer, is_write-none, IsLatched-grips_in, IsSound-read, grips_in-read}
use Rattle.spl_holds.proofs.latch.Latch.read.Goals as goal

pub returns-in-Writer-clause-answer : goal.returns-in-Writer-clause-answer
returns-in-Writer-clause-answer c =
    let sound = rw c.in-Writer.is at c.self.invariant in
    rw (← c.self.view_is, c.in-Writer.is) (ap refused_by (sym (is_write-writer _ _ sound)))

pub returns-in-Writer-clause-latched : goal.returns-in-Writer-clause-latched
returns-in-Writer-clause-latched c = rw (← c.self.view_is) (IsLatched-grips_in _ _ c.self.invariant)

pub invariant_of-self : goal.invariant_of-self
invariant_of-self c =
    IsSound-read _ _ _ c.requires.known c.self.invariant (rw c.self.view_is c.requires.free) c.in_default.not-Writer

pub returns : goal.returns
returns c =
    let free = rw (← c.self.view_is) at c.requires.free in
    record {
      answer = rw (← c.self.view_is) (ap refused_by (sym (is_write-none _ _ c.in_default.not-Writer)));
      ok = rw (← c.self.view_is) (grips_in-read _ _ _ c.requires.known free);
      err = tt;
      latched = IsLatched-grips_in _ _ (IsSound-read _ _ _ c.requires.known c.self.invariant free c.in_default.not-Writer);
    }
