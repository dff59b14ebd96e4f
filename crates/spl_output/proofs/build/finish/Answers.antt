use Rattle.std.proofs.Common.{◌≢◌, refl, sym, ap, ◌∙◌, arith}
use Rattle.std.specs.Prelude.{Ok}
use Rattle.spl_desk.specs.Branches.{branch_kind}
use Rattle.spl_desk.specs.Quiet.{HasWorkCause}
use Rattle.spl_desk.proofs.Quiet.{cause_behind, counts_on, counts_same, quiet_none, quiet_then}
use Rattle.spl_output.proofs.Causes.{grant_cause, if_err_same}
use Rattle.spl_output.proofs.Finishing.{builds_at, builds_on, extended_stage, extended_stopped, grown_first, grown_more}
use Rattle.spl_output.proofs.build.finish.Goals as goal

pub loop-turns-init : goal.loop-turns-init
loop-turns-init g c =
    let old = g.T.Turns.means c.args.turns.now in
    record {
      quiet = quiet_none (branch_kind g.P.Seal.Seal.TELLS) old (g.T.Turns.saw c.args.turns.now) c.requires.seen;
      few = omega arith;
      ready = c.requires.ready;
      grown = grown_first g.P.Seal.Seal.TELLS old c.args.builder.now;
      stopped = c.requires.stopped;
      stage = c.requires.stage;
      counts = counts_same (g.P.Port.counts c.args.port.now);
      faults = refl;
    }

pub extend-requires-clause-holds : goal.extend-requires-clause-holds
extend-requires-clause-holds g c κs within =
    builds_on g.P.Seal.Seal.TELLS (g.T.Turns.means c.args.turns.now) (g.T.Turns.means c.loop-turns.turns) c.args.builder.now c.loop-turns.builder c.loop-turns.invariant.grown c.requires.holds

pub loop-turns-preserved : goal.loop-turns-preserved
loop-turns-preserved g c =
    let tells = g.P.Seal.Seal.TELLS in
    let old = g.T.Turns.means c.args.turns.now in
    let mid = g.T.Turns.means c.loop-turns.turns in
    let new = g.T.Turns.means c.extend.new.turns in
    let inv = c.loop-turns.invariant in
    let one = inv.few in
    let two = c.in_ok-extend-in-Needs.ensures.few in
    let needs = c.in_ok-finish_once.ensures.needs (ap Ok c.in-Needs.is) in
    let more = c.in_ok-extend-in-Needs.ensures.extends in
    let some : c.loop-turns.builder.entries ≢ 0 = λ nothing. (let empty = c.in_ok-finish_once.ensures.empty.1 nothing in cc (empty, c.in-Needs.is)) in
    record {
      quiet = quiet_then (branch_kind tells) old mid new (g.T.Turns.saw c.args.turns.now) (g.T.Turns.saw c.loop-turns.turns) (g.T.Turns.saw c.extend.new.turns) inv.quiet c.in_ok-extend-in-Needs.ensures.quiet;
      few = omega (arith, one, two);
      ready = c.in_ok-extend-in-Needs.ensures.ready;
      grown = grown_more tells old mid new c.args.builder.now c.loop-turns.builder c.finish_once.new.builder c.extend.new.builder inv.grown some needs more;
      stopped = extended_stopped mid new c.finish_once.new.builder c.extend.new.builder more needs.stopped;
      stage = extended_stage mid new c.finish_once.new.builder c.extend.new.builder more needs.stage;
      counts = counts_on (g.P.Port.counts c.args.port.now) (g.P.Port.counts c.loop-turns.port) (g.P.Port.counts c.finish_once.new.port) inv.counts c.in_ok-finish_once.ensures.counts;
      faults = c.in_ok-finish_once.ensures.faults ∙ inv.faults;
    }

pub returns-in_err-extend-in-Needs-clause-quiet : goal.returns-in_err-extend-in-Needs-clause-quiet
returns-in_err-extend-in-Needs-clause-quiet g c =
    quiet_then (branch_kind g.P.Seal.Seal.TELLS) (g.T.Turns.means c.args.turns.now) (g.T.Turns.means c.loop-turns.turns) (g.T.Turns.means c.extend.new.turns)
    (g.T.Turns.saw c.args.turns.now) (g.T.Turns.saw c.loop-turns.turns) (g.T.Turns.saw c.extend.new.turns) c.loop-turns.invariant.quiet c.in_err-extend-in-Needs.ensures.quiet

pub returns-in_err-extend-in-Needs-clause-cause : goal.returns-in_err-extend-in-Needs-clause-cause
returns-in_err-extend-in-Needs-clause-cause g c =
    let kind = branch_kind g.P.Seal.Seal.TELLS in
    let old = g.T.Turns.means c.args.turns.now in
    let mid = g.T.Turns.means c.loop-turns.turns in
    let new = g.T.Turns.means c.extend.new.turns in
    let was = g.T.Turns.saw c.args.turns.now in
    let between = g.T.Turns.saw c.loop-turns.turns in
    let saw = g.T.Turns.saw c.extend.new.turns in
    let before = g.P.Port.counts c.args.port.now in
    let counts = g.P.Port.counts c.loop-turns.port in
    let after = g.P.Port.counts c.finish_once.new.port in
    let fault = c.in_err-extend-in-Needs.field-0.0 in
    if_err_same c.from_residual-in_err-extend-in-Needs.result fault (HasWorkCause kind old was new saw before after)
    c.from_residual-in_err-extend-in-Needs.ensures.1
    (cause_behind kind old mid new was between saw before counts after fault c.loop-turns.invariant.quiet c.loop-turns.invariant.counts
    (grant_cause kind mid between new saw counts after fault c.in_err-extend-in-Needs.ensures.cause))

pub returns-in-Empty-clause-none_same : goal.returns-in-Empty-clause-none_same
returns-in-Empty-clause-none_same g c = λ is holding had.
    let grown = c.loop-turns.invariant.grown in
    grown.none (sym grown.kept.entries ∙ c.in_ok-finish_once.ensures.empty.0 c.in-Empty.is) holding had

pub returns-in-Built-clause-built : goal.returns-in-Built-clause-built
returns-in-Built-clause-built g c =
    builds_at g.P.Seal.Seal.TELLS (g.T.Turns.means c.args.turns.now) (g.T.Turns.means c.loop-turns.turns) c.args.builder.now c.loop-turns.builder
    _ c.loop-turns.invariant.grown (rw c.in-Built.is at c.in_ok-finish_once.ensures.pages) (rw c.in-Built.is at c.in_ok-finish_once.ensures.built)
