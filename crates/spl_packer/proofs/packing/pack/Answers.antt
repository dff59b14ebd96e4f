use Rattle.spl_desk.specs.Branches.{branch_kind}
use Rattle.spl_desk.proofs.Quiet.{made_before, quiet_then}
use Rattle.spl_packer.specs.Outcomes.{ShowsRoom}
use Rattle.spl_packer.proofs.Shown.{packed_before}
use Rattle.spl_packer.proofs.Stops.{stopped_before}
use Rattle.spl_packer.proofs.packing.pack.Goals as goal

pub returns-in-Ok-NeedsFlush-clause-quiet : goal.returns-in-Ok-NeedsFlush-clause-quiet
returns-in-Ok-NeedsFlush-clause-quiet g c =
    quiet_then (branch_kind g.P.Seal.Seal.TELLS) (g.T.Turns.means c.args.desk.now.turns) (g.T.Turns.means c.pack_or_stop-outcome.new.desk.turns) (g.T.Turns.means c.abandon.new.turns)
    (g.T.Turns.saw c.args.desk.now.turns) (g.T.Turns.saw c.pack_or_stop-outcome.new.desk.turns) (g.T.Turns.saw c.abandon.new.turns)
    c.pack_or_stop-outcome.ensures.quiet c.abandon.ensures.quiet

pub returns-in-Ok-NeedsFlush-clause-cause : goal.returns-in-Ok-NeedsFlush-clause-cause
returns-in-Ok-NeedsFlush-clause-cause g c =
    stopped_before (branch_kind g.P.Seal.Seal.TELLS) (g.T.Turns.means c.args.desk.now.turns) (g.T.Turns.means c.pack_or_stop-outcome.new.desk.turns) (g.T.Turns.means c.abandon.new.turns)
    (g.T.Turns.saw c.args.desk.now.turns) (g.T.Turns.saw c.pack_or_stop-outcome.new.desk.turns) (g.T.Turns.saw c.abandon.new.turns)
    c.pack_or_stop-outcome.result (g.P.Port.counts c.args.desk.now.port.now) (g.P.Port.counts c.pack_or_stop-outcome.new.desk.port.now)
    c.pack_or_stop-outcome.ensures.quiet c.pack_or_stop-outcome.ensures.cause c.abandon.ensures.quiet

pub returns-in-Ok-NeedsFlush-clause-made : goal.returns-in-Ok-NeedsFlush-clause-made
returns-in-Ok-NeedsFlush-clause-made g c =
    packed_before (branch_kind g.P.Seal.Seal.TELLS) (g.T.Turns.means c.args.desk.now.turns) (g.T.Turns.means c.pack_or_stop-outcome.new.desk.turns) (g.T.Turns.means c.abandon.new.turns)
    (g.T.Turns.saw c.args.desk.now.turns) (g.T.Turns.saw c.pack_or_stop-outcome.new.desk.turns) (g.T.Turns.saw c.abandon.new.turns)
    c.pack_or_stop-outcome.result c.pack_or_stop-outcome.ensures.quiet c.pack_or_stop-outcome.ensures.made c.abandon.ensures.quiet

pub returns-in-Ok-NeedsFlush-clause-looked : goal.returns-in-Ok-NeedsFlush-clause-looked
returns-in-Ok-NeedsFlush-clause-looked g c = λ wrote.
    made_before (branch_kind g.P.Seal.Seal.TELLS) (g.T.Turns.means c.args.desk.now.turns) (g.T.Turns.means c.pack_or_stop-outcome.new.desk.turns) (g.T.Turns.means c.abandon.new.turns)
    (g.T.Turns.saw c.args.desk.now.turns) (g.T.Turns.saw c.pack_or_stop-outcome.new.desk.turns) (g.T.Turns.saw c.abandon.new.turns)
    ShowsRoom c.pack_or_stop-outcome.ensures.quiet.same (c.pack_or_stop-outcome.ensures.looked wrote) c.abandon.ensures.quiet
