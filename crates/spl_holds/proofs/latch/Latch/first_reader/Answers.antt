use Rattle.std.proofs.Common.{sym, arith}
use Rattle.spl_holds.proofs.LatchLemmas.{first_reader_none, first_reader_lowest}
use Rattle.spl_holds.proofs.latch.Latch.first_reader.Goals as goal

pub returns-then-self-eq0 : goal.returns-then-self-eq0
returns-then-self-eq0 c = rw (← c.self.view_is) (sym (first_reader_none _ _ c.self.invariant c.if-self-eq0.true))

pub returns : goal.returns
returns c = rw (← c.self.view_is) (sym (first_reader_lowest _ _ c.self.invariant (omega arith) (omega arith)))
