use Rattle.std.proofs.Common.{◌∙◌, ap, arith}
use Rattle.std.specs.Prelude.{Ok}
use Rattle.spl_desk.specs.Branches.{branch_kind}
use Rattle.spl_desk.specs.Quiet.{HasWorkCause}
use Rattle.spl_desk.proofs.Quiet.{cause_behind, counts_on, quiet_then}
use Rattle.spl_compactor.proofs.Stops.{if_err_same}
use Rattle.spl_compactor.proofs.merging.merge_all.Goals as goal

pub merge_once-requires-clause-under_way : goal.merge_once-requires-clause-under_way
merge_once-requires-clause-under_way g c κs within = c.loop.invariant.under_way 0 c.requires.under_way

pub returns-in_err-merge_once-clause-quiet : goal.returns-in_err-merge_once-clause-quiet
returns-in_err-merge_once-clause-quiet g c =
    quiet_then (branch_kind g.P.Seal.Seal.TELLS) (g.T.Turns.means c.args.turns.now) (g.T.Turns.means c.loop.turns) (g.T.Turns.means c.merge_once.new.turns)
    (g.T.Turns.saw c.args.turns.now) (g.T.Turns.saw c.loop.turns) (g.T.Turns.saw c.merge_once.new.turns)
    c.loop.invariant.quiet c.merge_once.ensures.quiet

pub returns-in_err-merge_once-clause-cause : goal.returns-in_err-merge_once-clause-cause
returns-in_err-merge_once-clause-cause g c =
    let kind = branch_kind g.P.Seal.Seal.TELLS in
    let old = g.T.Turns.means c.args.turns.now in
    let saw = g.T.Turns.saw c.args.turns.now in
    let new = g.T.Turns.means c.merge_once.new.turns in
    let sees = g.T.Turns.saw c.merge_once.new.turns in
    let before = g.P.Port.counts c.args.port.now in
    let after = g.P.Port.counts c.merge_once.new.port in
    if_err_same c.from_residual.result c.in_err-merge_once.field-0.0
    (HasWorkCause kind old saw new sees before after)
    c.from_residual.ensures.1
    (cause_behind kind old (g.T.Turns.means c.loop.turns) new saw (g.T.Turns.saw c.loop.turns) sees before (g.P.Port.counts c.loop.port) after c.in_err-merge_once.field-0.0
    c.loop.invariant.quiet c.loop.invariant.port c.in_err-merge_once.ensures.cause)

pub returns-then-not-branch-clause-quiet : goal.returns-then-not-branch-clause-quiet
returns-then-not-branch-clause-quiet g c =
    quiet_then (branch_kind g.P.Seal.Seal.TELLS) (g.T.Turns.means c.args.turns.now) (g.T.Turns.means c.loop.turns) (g.T.Turns.means c.merge_once.new.turns)
    (g.T.Turns.saw c.args.turns.now) (g.T.Turns.saw c.loop.turns) (g.T.Turns.saw c.merge_once.new.turns)
    c.loop.invariant.quiet c.merge_once.ensures.quiet

pub returns-then-not-branch-clause-merged : goal.returns-then-not-branch-clause-merged
returns-then-not-branch-clause-merged g c = λ least way.
    c.in_ok-merge_once.ensures.ended (ap Ok c.if-not-branch.true) least (c.loop.invariant.under_way least way)

pub loop-preserved : goal.loop-preserved
loop-preserved g c =
    let inv = c.loop.invariant in
    let one = inv.few in
    let two = c.merge_once.ensures.few in
    record {
      quiet = quiet_then (branch_kind g.P.Seal.Seal.TELLS) (g.T.Turns.means c.args.turns.now) (g.T.Turns.means c.loop.turns) (g.T.Turns.means c.merge_once.new.turns)
          (g.T.Turns.saw c.args.turns.now) (g.T.Turns.saw c.loop.turns) (g.T.Turns.saw c.merge_once.new.turns)
          inv.quiet c.merge_once.ensures.quiet;
      few = omega (arith, one, two);
      ready = c.merge_once.ensures.ready;
      under_way = λ least way. c.in_ok-merge_once.ensures.goes_on (ap Ok c.if-not-branch.false) least (inv.under_way least way);
      port = counts_on (g.P.Port.counts c.args.port.now) (g.P.Port.counts c.loop.port) (g.P.Port.counts c.merge_once.new.port) inv.port c.merge_once.ensures.port;
      faults = c.in_ok-merge_once.ensures.faults ∙ inv.faults;
    }
