use Rattle.std.proofs.Common.{ℕ, true, sym, subst}
use Rattle.spl_message.specs.Rule.{Rule}
use Rattle.spl_ops.specs.Rules.{capped}
use Rattle.spl_top.specs.Top.{Ends}
use Rattle.splinter.proofs.ended.Goals as goal

pub returns : goal.returns
returns g c =
    subst (λ (status : ℕ). Ends (capped 1000) true 1 c.args.words.now (g.I.Source.means c.args.input.now) (g.I.Source.means c.splinter.new.input) (g.O.Sink.means c.args.out.now) (g.O.Sink.means c.splinter.new.out) status)
    (sym c.from.ensures)
    (subst (λ (rule : Rule). Ends rule true 1 c.args.words.now (g.I.Source.means c.args.input.now) (g.I.Source.means c.splinter.new.input) (g.O.Sink.means c.args.out.now) (g.O.Sink.means c.splinter.new.out) c.splinter.result)
    c.new-own.ensures.rule c.splinter.ensures.told)
