use Rattle.spl_turn.proofs.Gathering.{ends, taken}
use Rattle.spl_turn.proofs.closes.take_value.Goals as goal

pub returns-clause-value : goal.returns-clause-value
returns-clause-value g c = let first = c.requires.first in
    (taken g.V.StandsFor.means _ _ _ (ends g.V.StandsFor.means _ _ _ _ c.close_with-closed.ensures.values.2 first.0 first.1 first.2 first.3) c.take-slot.ensures.value).0

pub returns-clause-fixed : goal.returns-clause-fixed
returns-clause-fixed g c = let first = c.requires.first in
    (taken g.V.StandsFor.means _ _ _ (ends g.V.StandsFor.means _ _ _ _ c.close_with-closed.ensures.values.2 first.0 first.1 first.2 first.3) c.take-slot.ensures.value).1
