use Rattle.std.proofs.Common.{rules}
use Rattle.spl_turn.proofs.Keeps.{enters}
use Rattle.spl_turn.proofs.turn.Turn.take.Goals as goal

pub compare_exchange-requires : goal.compare_exchange-requires
compare_exchange-requires g c = (search rules, search rules, enters g.V.StandsFor.means _ _ _ _ (search rules) c.requires.ready)
