use Rattle.spl_turn.proofs.Gathering.{starts_with}
use Rattle.spl_turn.proofs.turn.Turn.new.Goals as goal

pub new-requires : goal.new-requires
new-requires g c =
    starts_with g.V.StandsFor.means _ _ _ _ c.in_ok-push.ensures.items c.new-slots.ensures.items c.of-opening.ensures c.requires
