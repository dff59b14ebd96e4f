use Rattle.std.proofs.Common.{[], refl, ap}
use Rattle.spl_build.specs.Builder.{Building, added}
use Rattle.spl_desk.specs.Branches.{branch_kind}
use Rattle.spl_desk.specs.Quiet.{HasWorkCause}
use Rattle.spl_desk.proofs.Quiet.{cause_behind, quiet_then}
use Rattle.spl_packer.proofs.Fills.{filled_built, filled_some, fills_first, picked_in_order}
use Rattle.spl_packer.proofs.Stops.{if_err_same}
use Rattle.spl_packer.proofs.build.build.Goals as goal

pub fill-requires-clause-begun : goal.fill-requires-clause-begun
fill-requires-clause-begun g c κs within =
    let is = c.new-builder.ensures in
    let old = g.T.Turns.means c.args.turns.now in
    fills_first g.P.Seal.Seal.TELLS old c.new-builder.result c.args.picked.now
    (picked_in_order old c.args.picked.now [] c.requires.picked)
    (ap (λ (b : Building). b.number) is) (ap (λ (b : Building). b.extents) is) (ap (λ (b : Building). b.entries) is) (ap (λ (b : Building). b.last) is)
    (ap (λ (b : Building). b.stage) is) (ap (λ (b : Building). b.stopped) is) (ap (λ (b : Building). added b) is)
    c.requires.picked

pub returns-in_err-branch-clause-quiet : goal.returns-in_err-branch-clause-quiet
returns-in_err-branch-clause-quiet g c =
    quiet_then (branch_kind g.P.Seal.Seal.TELLS) (g.T.Turns.means c.args.turns.now) (g.T.Turns.means c.fill.new.turns) (g.T.Turns.means c.finish.new.turns)
    (g.T.Turns.saw c.args.turns.now) (g.T.Turns.saw c.fill.new.turns) (g.T.Turns.saw c.finish.new.turns)
    c.fill.ensures.quiet c.finish.ensures.quiet

pub returns-in_err-branch-clause-cause : goal.returns-in_err-branch-clause-cause
returns-in_err-branch-clause-cause g c =
    let kind = branch_kind g.P.Seal.Seal.TELLS in
    let old = g.T.Turns.means c.args.turns.now in
    let new = g.T.Turns.means c.finish.new.turns in
    let before = g.P.Port.counts c.args.port.now in
    let after = g.P.Port.counts c.finish.new.port in
    if_err_same c.from_residual-in_err-branch.result c.in_err-branch.field-0.0
    (HasWorkCause kind old (g.T.Turns.saw c.args.turns.now) new (g.T.Turns.saw c.finish.new.turns) before after)
    c.from_residual-in_err-branch.ensures.1
    (cause_behind kind old (g.T.Turns.means c.fill.new.turns) new (g.T.Turns.saw c.args.turns.now) (g.T.Turns.saw c.fill.new.turns) (g.T.Turns.saw c.finish.new.turns)
    before (g.P.Port.counts c.fill.new.port) after c.in_err-branch.field-0.0 c.fill.ensures.quiet c.fill.ensures.port c.in_err-branch.ensures.cause)

pub unreachable-requires : goal.unreachable-requires
unreachable-requires g c =
    filled_some g.P.Seal.Seal.TELLS (g.T.Turns.means c.fill.new.turns) c.fill.new.builder c.args.picked.now c.in_ok-fill.ensures.filled
    (c.in_ok-branch.ensures.none.0 (rw c.in-None.is refl))

pub returns-clause-quiet : goal.returns-clause-quiet
returns-clause-quiet g c =
    quiet_then (branch_kind g.P.Seal.Seal.TELLS) (g.T.Turns.means c.args.turns.now) (g.T.Turns.means c.fill.new.turns) (g.T.Turns.means c.finish.new.turns)
    (g.T.Turns.saw c.args.turns.now) (g.T.Turns.saw c.fill.new.turns) (g.T.Turns.saw c.finish.new.turns)
    c.fill.ensures.quiet c.finish.ensures.quiet

pub returns-clause-built : goal.returns-clause-built
returns-clause-built g c =
    filled_built g.P.Seal.Seal.TELLS (g.T.Turns.means c.fill.new.turns) (g.T.Turns.means c.finish.new.turns) c.fill.new.builder c.args.picked.now c.in-Some.branch
    c.in_ok-fill.ensures.filled (rw c.in-Some.is at c.in_ok-branch.ensures.built)
