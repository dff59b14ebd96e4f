use Rattle.std.proofs.Common.{refl}
use Rattle.spl_turn.proofs.make.make.Goals as goal

pub returns-clause-noted : goal.returns-clause-noted
returns-clause-noted g c = (_, refl, c.of-before.ensures, c.of-asked.ensures, c.of.ensures)
