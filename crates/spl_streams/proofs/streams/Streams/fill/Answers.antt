use Rattle.std.proofs.Common.{sym, ap, ◌∙◌}
use Rattle.spl_streams.specs.Streams.{Streams}
use Rattle.spl_streams.proofs.Places.{none_last}
use Rattle.spl_streams.proofs.streams.Streams.fill.Goals as goal

pub returns-clause-given : goal.returns-clause-given
returns-clause-given g c =
    ap (λ (s : Streams). s.merger.wanted) (sym c.self.view_is) ∙ none_last c.self.inside.merger.wanted c.in_default.ensures
