use Rattle.std.proofs.Common.{subst}
use Rattle.spl_top.specs.Asked.{rule_of_merge}
use Rattle.spl_top.specs.Top.{Tells}
use Rattle.spl_top.proofs.Tops.{load_told, load_loads, load_caused, memory_loads, memory_caused}
use Rattle.spl_top.proofs.top.end_load.Goals as goal

pub returns-in-Ok-clause-told : goal.returns-in-Ok-clause-told
returns-in-Ok-clause-told g c =
    load_told (rule_of_merge (g.W.MergeLaw.rule c.args.own.now) c.args.setup.merge) c.args.setup.extents g.P.Seal.Seal.TELLS c.args.seed c.args.lines (g.P.Port.counts c.args.port.now) (g.P.Port.counts c.ending_of_load.new.port)
    (g.O.Sink.means c.args.out.now) (g.O.Sink.means c.tell.new.out) c.in-Ok.ending.text.items c.in-Ok.ending.status c.tell.result c.in-Ok.ensures
    (subst (λ text. Tells (g.O.Sink.means c.args.out.now) (g.O.Sink.means c.tell.new.out) c.in-Ok.ending.status text c.tell.result) c.as_slice.ensures.value c.tell.ensures)

pub returns-in-Ok-clause-loads : goal.returns-in-Ok-clause-loads
returns-in-Ok-clause-loads g c =
    load_loads (rule_of_merge (g.W.MergeLaw.rule c.args.own.now) c.args.setup.merge) c.args.setup.extents g.P.Seal.Seal.TELLS c.args.seed c.args.lines (g.P.Port.counts c.args.port.now) (g.P.Port.counts c.ending_of_load.new.port)
    (g.O.Sink.means c.args.out.now) (g.O.Sink.means c.tell.new.out) c.in-Ok.ending.text.items c.in-Ok.ending.status c.tell.result c.in-Ok.ensures
    (subst (λ text. Tells (g.O.Sink.means c.args.out.now) (g.O.Sink.means c.tell.new.out) c.in-Ok.ending.status text c.tell.result) c.as_slice.ensures.value c.tell.ensures)

pub returns-in-Ok-clause-cause : goal.returns-in-Ok-clause-cause
returns-in-Ok-clause-cause g c =
    load_caused (rule_of_merge (g.W.MergeLaw.rule c.args.own.now) c.args.setup.merge) c.args.setup.extents g.P.Seal.Seal.TELLS c.args.seed c.args.lines (g.P.Port.counts c.args.port.now) (g.P.Port.counts c.ending_of_load.new.port)
    (g.O.Sink.means c.args.out.now) (g.O.Sink.means c.tell.new.out) c.in-Ok.ending.text.items c.in-Ok.ending.status c.tell.result c.in-Ok.ensures
    (subst (λ text. Tells (g.O.Sink.means c.args.out.now) (g.O.Sink.means c.tell.new.out) c.in-Ok.ending.status text c.tell.result) c.as_slice.ensures.value c.tell.ensures)
