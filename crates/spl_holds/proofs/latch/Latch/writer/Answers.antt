use Rattle.std.proofs.Common.{sym}
use Rattle.spl_holds.proofs.LatchLemmas.{is_write-writer, is_write-none}
use Rattle.spl_holds.proofs.latch.Latch.writer.Goals as goal

pub returns-in-Writer : goal.returns-in-Writer
returns-in-Writer c =
    let sound = rw c.in-Writer.is at c.self.invariant in
    rw (← c.self.view_is, c.in-Writer.is) (sym (is_write-writer _ _ sound))

pub returns-in_default : goal.returns-in_default
returns-in_default c = rw (← c.self.view_is) (sym (is_write-none _ _ c.in_default.not-Writer))
