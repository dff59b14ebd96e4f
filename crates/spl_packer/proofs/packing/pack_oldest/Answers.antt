use Rattle.spl_desk.specs.Branches.{branch_kind}
use Rattle.spl_desk.proofs.Quiet.{counts_same, made_behind, quiet_then}
use Rattle.spl_packer.specs.Outcomes.{ShowsRoom}
use Rattle.spl_packer.proofs.Shown.{packed_behind}
use Rattle.spl_packer.proofs.Stops.{stopped_behind}
use Rattle.spl_packer.proofs.packing.pack_oldest.Goals as goal

pub returns-in-Some-clause-quiet : goal.returns-in-Some-clause-quiet
returns-in-Some-clause-quiet g c =
    quiet_then (branch_kind g.P.Seal.Seal.TELLS) (g.T.Turns.means c.args.desk.now.turns) (g.T.Turns.means c.pick.new.turns) (g.T.Turns.means c.pack_picked.new.desk.turns)
    (g.T.Turns.saw c.args.desk.now.turns) (g.T.Turns.saw c.pick.new.turns) (g.T.Turns.saw c.pack_picked.new.desk.turns)
    c.pick.ensures.quiet c.pack_picked.ensures.quiet

pub returns-in-Some-clause-made : goal.returns-in-Some-clause-made
returns-in-Some-clause-made g c =
    packed_behind (branch_kind g.P.Seal.Seal.TELLS) (g.T.Turns.means c.args.desk.now.turns) (g.T.Turns.means c.pick.new.turns) (g.T.Turns.means c.pack_picked.new.desk.turns)
    (g.T.Turns.saw c.args.desk.now.turns) (g.T.Turns.saw c.pick.new.turns) (g.T.Turns.saw c.pack_picked.new.desk.turns)
    c.pack_picked.result c.pick.ensures.quiet c.pack_picked.ensures.made

pub returns-in-Some-clause-cause : goal.returns-in-Some-clause-cause
returns-in-Some-clause-cause g c =
    let before = g.P.Port.counts c.args.desk.now.port.now in
    stopped_behind (branch_kind g.P.Seal.Seal.TELLS) (g.T.Turns.means c.args.desk.now.turns) (g.T.Turns.means c.pick.new.turns) (g.T.Turns.means c.pack_picked.new.desk.turns)
    (g.T.Turns.saw c.args.desk.now.turns) (g.T.Turns.saw c.pick.new.turns) (g.T.Turns.saw c.pack_picked.new.desk.turns)
    c.pack_picked.result before before (g.P.Port.counts c.pack_picked.new.desk.port.now)
    c.pick.ensures.quiet (counts_same before) c.pack_picked.ensures.cause

pub returns-in-Some-clause-looked : goal.returns-in-Some-clause-looked
returns-in-Some-clause-looked g c = λ wrote.
    made_behind (branch_kind g.P.Seal.Seal.TELLS) (g.T.Turns.means c.args.desk.now.turns) (g.T.Turns.means c.pick.new.turns) (g.T.Turns.means c.pack_picked.new.desk.turns)
    (g.T.Turns.saw c.args.desk.now.turns) (g.T.Turns.saw c.pick.new.turns) (g.T.Turns.saw c.pack_picked.new.desk.turns)
    ShowsRoom c.pick.ensures.quiet (c.pack_picked.ensures.looked wrote)
