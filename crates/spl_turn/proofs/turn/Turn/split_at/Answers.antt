use Rattle.std.proofs.Common.{rules, ap, ◌∙◌, sym, subst, ◌<◌, arith}
use Rattle.spl_turn.proofs.Gathering.{looks, splits}
use Rattle.spl_turn.proofs.turn.Turn.split_at.Goals as goal

pub load-requires : goal.load-requires
load-requires g c = (search rules, search rules, looks g.V.StandsFor.means _ _ _)

pub split_seat-requires : goal.split_seat-requires
split_seat-requires g c = let same = c.load.ensures.2.0 in let first = c.requires.first in
    (search rules, search rules, splits g.V.StandsFor.means _ _ (subst (λ m. 0 < m.0.made) (sym same) first.0) (subst (λ m. m.0.made < 32) (sym same) first.1) (ap (λ m. m.0.seats) same ∙ first.2))
