use Rattle.spl_run.proofs.Calling.{look_made, look_stopped}
use Rattle.spl_run.proofs.calls.make_look.Goals as goal

pub returns-in-Ok-clause-made : goal.returns-in-Ok-clause-made
returns-in-Ok-clause-made g c = λ history saw.
    look_made g.P.Seal.Seal.TELLS (g.T.Turns.means c.args.desk.now.turns) history (g.T.Turns.means c.lookup.new.desk.turns) (g.T.Turns.saw c.lookup.new.desk.turns)
    (g.P.Port.counts c.args.desk.now.port.now) (g.P.Port.counts c.lookup.new.desk.port.now) c.requires.alone c.args.key.now c.in-Ok.found.place c.in-Ok.found.value c.told_of.result c.told_of.ensures (c.in-Ok.ensures.looked history saw)

pub returns-in-Err-clause-made : goal.returns-in-Err-clause-made
returns-in-Err-clause-made g c = λ history saw.
    rw c.cause_for.ensures
    (look_stopped g.P.Seal.Seal.TELLS (g.T.Turns.means c.args.desk.now.turns) history (g.T.Turns.means c.lookup.new.desk.turns) (g.T.Turns.saw c.lookup.new.desk.turns)
    (g.P.Port.counts c.args.desk.now.port.now) (g.P.Port.counts c.lookup.new.desk.port.now) c.requires.alone c.args.key.now c.in-Err.stopped.fault c.in-Err.stopped.place c.in-Err.ensures.cause (c.in-Err.ensures.stopped history saw))
