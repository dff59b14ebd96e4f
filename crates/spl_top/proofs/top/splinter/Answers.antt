use Rattle.std.proofs.Common.{arith, get_or, map}
use Rattle.std.proofs.Math.ListN.{set}
use Rattle.spl_run.specs.Solo.{first}
use Rattle.spl_top.proofs.Tops.{headline_from, done_from, memory_from, unread_from, words_only_from, words_from, script_only_from, refusal_from, source_only_from, source_from, fault_from, sink_from, known_from, full_from, nodes_from, spent_from, damaged_from, device_from, first_before, first_after, causes_of, loads_of}
use Rattle.spl_top.proofs.top.splinter.Goals as goal

pub returns-clause-headline : goal.returns-clause-headline
returns-clause-headline g c = headline_from _ g.P.Seal.Seal.TELLS c.args.words.now (g.I.Source.means c.args.input.now) (g.I.Source.means c.end.new.input) (g.O.Sink.means c.args.out.now) (g.O.Sink.means c.end.new.out) c.end.result c.end.ensures.told

pub returns-clause-done : goal.returns-clause-done
returns-clause-done g c = done_from _ g.P.Seal.Seal.TELLS c.args.words.now (g.I.Source.means c.args.input.now) (g.I.Source.means c.end.new.input) (g.O.Sink.means c.args.out.now) (g.O.Sink.means c.end.new.out) c.end.result c.end.ensures.told

pub returns-clause-memory : goal.returns-clause-memory
returns-clause-memory g c = memory_from _ g.P.Seal.Seal.TELLS c.args.words.now (g.I.Source.means c.args.input.now) (g.I.Source.means c.end.new.input) (g.O.Sink.means c.args.out.now) (g.O.Sink.means c.end.new.out) c.end.result c.end.ensures.told

pub returns-clause-unread : goal.returns-clause-unread
returns-clause-unread g c = unread_from _ g.P.Seal.Seal.TELLS c.args.words.now (g.I.Source.means c.args.input.now) (g.I.Source.means c.end.new.input) (g.O.Sink.means c.args.out.now) (g.O.Sink.means c.end.new.out) c.end.result c.end.ensures.told

pub returns-clause-words_only : goal.returns-clause-words_only
returns-clause-words_only g c = words_only_from _ g.P.Seal.Seal.TELLS c.args.words.now (g.I.Source.means c.args.input.now) (g.I.Source.means c.end.new.input) (g.O.Sink.means c.args.out.now) (g.O.Sink.means c.end.new.out) c.end.result c.end.ensures.told

pub returns-clause-words : goal.returns-clause-words
returns-clause-words g c = words_from _ g.P.Seal.Seal.TELLS c.args.words.now (g.I.Source.means c.args.input.now) (g.I.Source.means c.end.new.input) (g.O.Sink.means c.args.out.now) (g.O.Sink.means c.end.new.out) c.end.result c.end.ensures.told

pub returns-clause-script_only : goal.returns-clause-script_only
returns-clause-script_only g c = script_only_from _ g.P.Seal.Seal.TELLS c.args.words.now (g.I.Source.means c.args.input.now) (g.I.Source.means c.end.new.input) (g.O.Sink.means c.args.out.now) (g.O.Sink.means c.end.new.out) c.end.result c.end.ensures.told

pub returns-clause-script : goal.returns-clause-script
returns-clause-script g c = refusal_from _ g.P.Seal.Seal.TELLS c.args.words.now (g.I.Source.means c.args.input.now) (g.I.Source.means c.end.new.input) (g.O.Sink.means c.args.out.now) (g.O.Sink.means c.end.new.out) c.end.result c.end.ensures.told

pub returns-clause-source_only : goal.returns-clause-source_only
returns-clause-source_only g c = source_only_from _ g.P.Seal.Seal.TELLS c.args.words.now (g.I.Source.means c.args.input.now) (g.I.Source.means c.end.new.input) (g.O.Sink.means c.args.out.now) (g.O.Sink.means c.end.new.out) c.end.result c.end.ensures.told

pub returns-clause-source : goal.returns-clause-source
returns-clause-source g c = source_from _ g.P.Seal.Seal.TELLS c.args.words.now (g.I.Source.means c.args.input.now) (g.I.Source.means c.end.new.input) (g.O.Sink.means c.args.out.now) (g.O.Sink.means c.end.new.out) c.end.result c.end.ensures.told

pub returns-clause-sink_only : goal.returns-clause-sink_only
returns-clause-sink_only g c = fault_from _ g.P.Seal.Seal.TELLS c.args.words.now (g.I.Source.means c.args.input.now) (g.I.Source.means c.end.new.input) (g.O.Sink.means c.args.out.now) (g.O.Sink.means c.end.new.out) c.end.result c.end.ensures.told

pub returns-clause-sink : goal.returns-clause-sink
returns-clause-sink g c = sink_from _ g.P.Seal.Seal.TELLS c.args.words.now (g.I.Source.means c.args.input.now) (g.I.Source.means c.end.new.input) (g.O.Sink.means c.args.out.now) (g.O.Sink.means c.end.new.out) c.end.result c.end.ensures.told

pub returns-clause-status : goal.returns-clause-status
returns-clause-status g c = known_from _ g.P.Seal.Seal.TELLS c.args.words.now (g.I.Source.means c.args.input.now) (g.I.Source.means c.end.new.input) (g.O.Sink.means c.args.out.now) (g.O.Sink.means c.end.new.out) c.end.result c.end.ensures.told

pub returns-clause-full : goal.returns-clause-full
returns-clause-full g c =
    full_from _ g.P.Seal.Seal.TELLS c.args.words.now (g.I.Source.means c.args.input.now) (g.I.Source.means c.end.new.input) (g.O.Sink.means c.args.out.now) (g.O.Sink.means c.end.new.out) c.end.result c.end.ensures.told (first (map g.P.Port.counts c.args.ports.now)) (first (map g.P.Port.counts (set c.args.ports.now 0 c.end.new.port)))
    (causes_of _ g.P.Seal.Seal.TELLS c.args.words.now (g.P.Port.counts (get_or c.args.ports.now 0 c.index-ports-0.result)) (g.P.Port.counts c.end.new.port) (first (map g.P.Port.counts c.args.ports.now)) (first (map g.P.Port.counts (set c.args.ports.now 0 c.end.new.port))) (g.O.Sink.means c.args.out.now) (g.O.Sink.means c.end.new.out) c.end.result (first_before g.P.Port.counts c.args.ports.now c.index-ports-0.result (omega arith)) (first_after g.P.Port.counts c.args.ports.now c.end.new.port (omega arith)) c.end.ensures.cause)

pub returns-clause-nodes : goal.returns-clause-nodes
returns-clause-nodes g c =
    nodes_from _ g.P.Seal.Seal.TELLS c.args.words.now (g.I.Source.means c.args.input.now) (g.I.Source.means c.end.new.input) (g.O.Sink.means c.args.out.now) (g.O.Sink.means c.end.new.out) c.end.result c.end.ensures.told (first (map g.P.Port.counts c.args.ports.now)) (first (map g.P.Port.counts (set c.args.ports.now 0 c.end.new.port)))
    (causes_of _ g.P.Seal.Seal.TELLS c.args.words.now (g.P.Port.counts (get_or c.args.ports.now 0 c.index-ports-0.result)) (g.P.Port.counts c.end.new.port) (first (map g.P.Port.counts c.args.ports.now)) (first (map g.P.Port.counts (set c.args.ports.now 0 c.end.new.port))) (g.O.Sink.means c.args.out.now) (g.O.Sink.means c.end.new.out) c.end.result (first_before g.P.Port.counts c.args.ports.now c.index-ports-0.result (omega arith)) (first_after g.P.Port.counts c.args.ports.now c.end.new.port (omega arith)) c.end.ensures.cause)

pub returns-clause-spent : goal.returns-clause-spent
returns-clause-spent g c =
    spent_from _ g.P.Seal.Seal.TELLS c.args.words.now (g.I.Source.means c.args.input.now) (g.I.Source.means c.end.new.input) (g.O.Sink.means c.args.out.now) (g.O.Sink.means c.end.new.out) c.end.result c.end.ensures.told (first (map g.P.Port.counts c.args.ports.now)) (first (map g.P.Port.counts (set c.args.ports.now 0 c.end.new.port)))
    (causes_of _ g.P.Seal.Seal.TELLS c.args.words.now (g.P.Port.counts (get_or c.args.ports.now 0 c.index-ports-0.result)) (g.P.Port.counts c.end.new.port) (first (map g.P.Port.counts c.args.ports.now)) (first (map g.P.Port.counts (set c.args.ports.now 0 c.end.new.port))) (g.O.Sink.means c.args.out.now) (g.O.Sink.means c.end.new.out) c.end.result (first_before g.P.Port.counts c.args.ports.now c.index-ports-0.result (omega arith)) (first_after g.P.Port.counts c.args.ports.now c.end.new.port (omega arith)) c.end.ensures.cause)

pub returns-clause-damaged : goal.returns-clause-damaged
returns-clause-damaged g c =
    damaged_from _ g.P.Seal.Seal.TELLS c.args.words.now (g.I.Source.means c.args.input.now) (g.I.Source.means c.end.new.input) (g.O.Sink.means c.args.out.now) (g.O.Sink.means c.end.new.out) c.end.result c.end.ensures.told (first (map g.P.Port.counts c.args.ports.now)) (first (map g.P.Port.counts (set c.args.ports.now 0 c.end.new.port)))
    (causes_of _ g.P.Seal.Seal.TELLS c.args.words.now (g.P.Port.counts (get_or c.args.ports.now 0 c.index-ports-0.result)) (g.P.Port.counts c.end.new.port) (first (map g.P.Port.counts c.args.ports.now)) (first (map g.P.Port.counts (set c.args.ports.now 0 c.end.new.port))) (g.O.Sink.means c.args.out.now) (g.O.Sink.means c.end.new.out) c.end.result (first_before g.P.Port.counts c.args.ports.now c.index-ports-0.result (omega arith)) (first_after g.P.Port.counts c.args.ports.now c.end.new.port (omega arith)) c.end.ensures.cause)

pub returns-clause-device : goal.returns-clause-device
returns-clause-device g c =
    device_from _ g.P.Seal.Seal.TELLS c.args.words.now (g.I.Source.means c.args.input.now) (g.I.Source.means c.end.new.input) (g.O.Sink.means c.args.out.now) (g.O.Sink.means c.end.new.out) c.end.result c.end.ensures.told (first (map g.P.Port.counts c.args.ports.now)) (first (map g.P.Port.counts (set c.args.ports.now 0 c.end.new.port)))
    (causes_of _ g.P.Seal.Seal.TELLS c.args.words.now (g.P.Port.counts (get_or c.args.ports.now 0 c.index-ports-0.result)) (g.P.Port.counts c.end.new.port) (first (map g.P.Port.counts c.args.ports.now)) (first (map g.P.Port.counts (set c.args.ports.now 0 c.end.new.port))) (g.O.Sink.means c.args.out.now) (g.O.Sink.means c.end.new.out) c.end.result (first_before g.P.Port.counts c.args.ports.now c.index-ports-0.result (omega arith)) (first_after g.P.Port.counts c.args.ports.now c.end.new.port (omega arith)) c.end.ensures.cause)

pub returns-clause-load : goal.returns-clause-load
returns-clause-load g c = loads_of _ g.P.Seal.Seal.TELLS c.args.words.now (g.P.Port.counts (get_or c.args.ports.now 0 c.index-ports-0.result)) (g.P.Port.counts c.end.new.port) (first (map g.P.Port.counts c.args.ports.now)) (first (map g.P.Port.counts (set c.args.ports.now 0 c.end.new.port))) (g.O.Sink.means c.args.out.now) (g.O.Sink.means c.end.new.out) c.end.result (first_before g.P.Port.counts c.args.ports.now c.index-ports-0.result (omega arith)) (first_after g.P.Port.counts c.args.ports.now c.end.new.port (omega arith)) c.end.ensures.loads
