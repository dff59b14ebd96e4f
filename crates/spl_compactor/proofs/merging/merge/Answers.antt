use Rattle.std.proofs.Common.{ℕ, List, map, sym, subst}
use Rattle.std.specs.Prelude.{sum_by}
use Rattle.spl_branch.specs.Branch.{Branch}
use Rattle.spl_streams.specs.Merging.{Merging, pages_of}
use Rattle.spl_desk.specs.Branches.{branch_kind}
use Rattle.spl_desk.proofs.Quiet.{quiet_then}
use Rattle.spl_compactor.specs.Compacting.{IsStarted, IsUnderWay}
use Rattle.spl_compactor.proofs.Merges.{way_first}
use Rattle.spl_compactor.proofs.Stops.{stopped_behind}
use Rattle.spl_compactor.proofs.merging.merge.Given.{Over}
use Rattle.spl_compactor.proofs.merging.merge.Goals as goal
use Rattle.spl_compactor.proofs.merging.merge.Goals.{After-new-builder}

-- before the first entry
way : (g : Over) (c : After-new-builder g) (least : ℕ) → IsStarted (g.T.Turns.means c.args.desk.now.turns) least c.args.ticket.now → IsUnderWay g.P.Seal.Seal.TELLS (g.T.Turns.means c.args.desk.now.turns) least c.new-builder.result c.in_ok-merged.merged
way g c least started =
    let tells = g.P.Seal.Seal.TELLS in
    let now = g.T.Turns.means c.args.desk.now.turns in
    let branches : List Branch = map (λ branch. branch.value) c.as_slice-inputs.result.now in
    subst (λ (merging : Merging). IsUnderWay tells now least c.new-builder.result merging) (sym c.in_ok-merged.ensures)
    (way_first tells now least c.args.ticket.now c.new-builder.result branches (sum_by pages_of branches) started c.as_slice-inputs.ensures c.are_told.ensures c.new-builder.ensures)

pub merge_all-requires-clause-under_way : goal.merge_all-requires-clause-under_way
merge_all-requires-clause-under_way g c κs within =
    way g (goal.at.merge_all-requires-clause-under_way g c).After-new-builder 0 c.requires.started

pub write_out-requires-clause-merged : goal.write_out-requires-clause-merged
write_out-requires-clause-merged g c κs within =
    c.in_ok-merge_all.ensures.merged 0 (way g (goal.at.write_out-requires-clause-merged g c).After-new-builder 0 c.requires.started)

pub returns-clause-quiet : goal.returns-clause-quiet
returns-clause-quiet g c =
    quiet_then (branch_kind g.P.Seal.Seal.TELLS) (g.T.Turns.means c.args.desk.now.turns) (g.T.Turns.means c.merge_all.new.turns) (g.T.Turns.means c.write_out.new.turns)
    (g.T.Turns.saw c.args.desk.now.turns) (g.T.Turns.saw c.merge_all.new.turns) (g.T.Turns.saw c.write_out.new.turns)
    c.merge_all.ensures.quiet c.write_out.ensures.quiet

pub returns-clause-written : goal.returns-clause-written
returns-clause-written g c = λ least started.
    c.write_out.ensures.written least (c.in_ok-merge_all.ensures.merged least (way g (goal.at.returns-clause-written g c).After-new-builder least started))

pub returns-clause-cause : goal.returns-clause-cause
returns-clause-cause g c =
    stopped_behind (branch_kind g.P.Seal.Seal.TELLS) (g.T.Turns.means c.args.desk.now.turns) (g.T.Turns.means c.merge_all.new.turns) (g.T.Turns.means c.write_out.new.turns)
    (g.T.Turns.saw c.args.desk.now.turns) (g.T.Turns.saw c.merge_all.new.turns) (g.T.Turns.saw c.write_out.new.turns)
    c.write_out.result (g.P.Port.counts c.args.desk.now.port.now) (g.P.Port.counts c.merge_all.new.port) (g.P.Port.counts c.write_out.new.port)
    c.merge_all.ensures.quiet c.merge_all.ensures.port c.write_out.ensures.cause
