use Rattle.std.proofs.Common.{ap}
use Rattle.std.specs.Prelude.{Ok}
use Rattle.spl_output.proofs.Adding.{add_again}
use Rattle.spl_output.proofs.build.add.Goals as goal

pub returns-in_ok-add_once-in-Needs-clause-adds : goal.returns-in_ok-add_once-in-Needs-clause-adds
returns-in_ok-add_once-in-Needs-clause-adds g c =
    add_again g.P.Seal.Seal.TELLS (g.T.Turns.means c.args.turns.now) (g.T.Turns.means c.extend.new.turns)
    c.args.builder.now c.add_once.new.builder c.extend.new.builder c.add_once-in-Needs.new.builder c.args.key.now c.args.message.now
    c.in_ok-add_once-in-Needs.field-0
    (c.in_ok-add_once.ensures.needs_same (ap Ok c.in-Needs.is))
    (c.in_ok-add_once.ensures.needs.0 c.in-Needs.is)
    c.in_ok-extend-in-Needs.ensures.extends
    c.in_ok-add_once-in-Needs.ensures.needs.0
    (λ done. c.in_ok-add_once-in-Needs.ensures.done (ap Ok done))
