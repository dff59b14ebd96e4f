use Rattle.std.proofs.Common.{rules, ap, ◌∙◌}
use Rattle.spl_turn.specs.declared.known.Stage.TheVariants.{Waits, Idle}
use Rattle.spl_turn.proofs.Keeps.{lies, rises}
use Rattle.spl_turn.proofs.turn.Turn.sleep.Goals as goal

pub fetch_add-requires : goal.fetch_add-requires
fetch_add-requires g c = (search rules, search rules, lies g.V.StandsFor.means _ _ _ c.requires.ready)

pub fetch_sub-requires : goal.fetch_sub-requires
fetch_sub-requires g c = let lain = c.fetch_add.ensures.2 in
    (search rules, search rules, rises g.V.StandsFor.means _ _ _ (ap (λ m. m.0.stage) lain) (ap (λ m. m.0.seats) lain ∙ c.requires.ready.one_seat))
