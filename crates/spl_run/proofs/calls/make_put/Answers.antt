use Rattle.spl_run.proofs.Calling.{put_made, put_stopped}
use Rattle.spl_run.proofs.calls.make_put.Goals as goal

pub returns-in-Ok-clause-made : goal.returns-in-Ok-clause-made
returns-in-Ok-clause-made g c = λ history saw.
    put_made g.P.Seal.Seal.TELLS (g.T.Turns.means c.args.desk.now.turns) history (g.T.Turns.means c.put.new.desk.turns) (g.T.Turns.saw c.put.new.desk.turns)
    (g.P.Port.counts c.args.desk.now.port.now) (g.P.Port.counts c.put.new.desk.port.now) c.requires.alone c.args.key.now c.args.message.now c.in-Ok.place (c.in-Ok.ensures.placed history saw)

pub returns-in-Err-clause-made : goal.returns-in-Err-clause-made
returns-in-Err-clause-made g c = λ history saw.
    rw c.cause_for.ensures
    (put_stopped g.P.Seal.Seal.TELLS (g.T.Turns.means c.args.desk.now.turns) history (g.T.Turns.means c.put.new.desk.turns) (g.T.Turns.saw c.put.new.desk.turns)
    (g.P.Port.counts c.args.desk.now.port.now) (g.P.Port.counts c.put.new.desk.port.now) c.requires.alone c.args.key.now c.args.message.now c.in-Err.fault (c.in-Err.ensures.failed history saw) (c.in-Err.ensures.cause history saw))
