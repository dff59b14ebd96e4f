use Rattle.spl_desk.specs.Branches.{branch_kind}
use Rattle.spl_desk.proofs.Quiet.{quiet_then}
use Rattle.spl_compactor.proofs.Ends.{ended_behind}
use Rattle.spl_compactor.proofs.Merges.{written_least}
use Rattle.spl_compactor.proofs.compaction.work.Goals as goal

pub publish_output-requires-clause-written : goal.publish_output-requires-clause-written
publish_output-requires-clause-written g c κs within =
    let started = c.requires.started in
    written_least g.P.Seal.Seal.TELLS (g.T.Turns.means c.merge.new.desk.turns) started.0 c.in_ok-output.output (c.in_ok-output.ensures.written started.0 started.2)

pub place-requires-clause-to_place : goal.place-requires-clause-to_place
place-requires-clause-to_place g c =
    let started = c.requires.started in
    (started.0, started.1, c.in_ok-published.ensures.to_place started.0 (c.in_ok-output.ensures.written started.0 started.2))

pub returns-in_err-published-clause-quiet : goal.returns-in_err-published-clause-quiet
returns-in_err-published-clause-quiet g c =
    let kind = branch_kind g.P.Seal.Seal.TELLS in
    let old = g.T.Turns.means c.args.desk.now.turns in
    let saw = g.T.Turns.saw c.args.desk.now.turns in
    let merged = g.T.Turns.means c.merge.new.desk.turns in
    let between = g.T.Turns.saw c.merge.new.desk.turns in
    let published = g.T.Turns.means c.publish_output.new.turns in
    let seen = g.T.Turns.saw c.publish_output.new.turns in
    let first = quiet_then kind old merged published saw between seen c.merge.ensures.quiet c.publish_output.ensures.quiet in
    first

pub returns-clause-quiet : goal.returns-clause-quiet
returns-clause-quiet g c =
    let kind = branch_kind g.P.Seal.Seal.TELLS in
    let old = g.T.Turns.means c.args.desk.now.turns in
    let saw = g.T.Turns.saw c.args.desk.now.turns in
    let merged = g.T.Turns.means c.merge.new.desk.turns in
    let between = g.T.Turns.saw c.merge.new.desk.turns in
    let published = g.T.Turns.means c.publish_output.new.turns in
    let seen = g.T.Turns.saw c.publish_output.new.turns in
    let first = quiet_then kind old merged published saw between seen c.merge.ensures.quiet c.publish_output.ensures.quiet in
    let new = g.T.Turns.means c.place.new.turns in
    let sees = g.T.Turns.saw c.place.new.turns in
    quiet_then kind old published new saw seen sees first c.place.ensures.quiet

pub returns-clause-worked : goal.returns-clause-worked
returns-clause-worked g c = λ least below started.
    c.place.ensures.placed least below (c.in_ok-published.ensures.to_place least (c.in_ok-output.ensures.written least started))

pub returns-clause-made : goal.returns-clause-made
returns-clause-made g c =
    let kind = branch_kind g.P.Seal.Seal.TELLS in
    let old = g.T.Turns.means c.args.desk.now.turns in
    let saw = g.T.Turns.saw c.args.desk.now.turns in
    let merged = g.T.Turns.means c.merge.new.desk.turns in
    let between = g.T.Turns.saw c.merge.new.desk.turns in
    let published = g.T.Turns.means c.publish_output.new.turns in
    let seen = g.T.Turns.saw c.publish_output.new.turns in
    let first = quiet_then kind old merged published saw between seen c.merge.ensures.quiet c.publish_output.ensures.quiet in
    let new = g.T.Turns.means c.place.new.turns in
    let sees = g.T.Turns.saw c.place.new.turns in
    ended_behind kind old published new saw seen sees c.place.result first c.place.ensures.made
