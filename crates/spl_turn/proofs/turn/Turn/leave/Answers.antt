use Rattle.std.proofs.Common.{rules}
use Rattle.spl_turn.proofs.Keeps.{leaves}
use Rattle.spl_turn.proofs.turn.Turn.leave.Goals as goal

pub fetch_add-requires : goal.fetch_add-requires
fetch_add-requires g c = (search rules, search rules, leaves g.V.StandsFor.means _ _ _ c.requires.held)
