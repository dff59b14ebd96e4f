use Rattle.std.proofs.Common.{sym, ap, ◌∙◌, Some}
use Rattle.spl_words.specs.declared.command.Command.TheVariants.{Load}
use Rattle.spl_top.proofs.Tops.{loads_by}
use Rattle.spl_top.proofs.top.end.Goals as goal

pub returns-in-Some-Load-clause-loads : goal.returns-in-Some-Load-clause-loads
returns-in-Some-Load-clause-loads g c =
    loads_by (g.W.MergeLaw.rule c.args.own.now) g.P.Seal.Seal.TELLS c.args.words.now (g.P.Port.counts c.args.port.now) (g.P.Port.counts c.end_load.new.port) (g.O.Sink.means c.args.out.now) (g.O.Sink.means c.end_load.new.out) c.end_load.result
    (Load c.in-Some-Load.setup c.in-Some-Load.seed c.in-Some-Load.lines) (sym c.in-Some-Load.ensures.value ∙ ap Some c.in-Some-Load.field-0-is) c.end_load.ensures.loads
