use Rattle.std.proofs.Common.{◌∙◌, subst, arith}
use Rattle.spl_message.specs.Entries.{Entries}
use Rattle.spl_desk.specs.Branches.{branch_kind}
use Rattle.spl_desk.specs.Quiet.{HasWorkCause}
use Rattle.spl_desk.proofs.Quiet.{cause_behind, counts_on, quiet_then}
use Rattle.spl_packer.specs.Packs.{IsFilling}
use Rattle.spl_packer.proofs.Fills.{fills_more}
use Rattle.spl_packer.proofs.Stops.{if_err_same}
use Rattle.spl_packer.proofs.build.fill.Goals as goal

pub loop-key-preserved : goal.loop-key-preserved
loop-key-preserved g c =
    let kind = branch_kind g.P.Seal.Seal.TELLS in
    let mid = g.T.Turns.means c.loop-key.turns in
    let new = g.T.Turns.means c.add.new.turns in
    let one = c.loop-key.invariant.few in
    let two = c.add.ensures.few in
    record {
      quiet = quiet_then kind (g.T.Turns.means c.args.turns.now) mid new (g.T.Turns.saw c.args.turns.now) (g.T.Turns.saw c.loop-key.turns) (g.T.Turns.saw c.add.new.turns) c.loop-key.invariant.quiet c.add.ensures.quiet;
      few = omega (arith, one, two);
      ready = c.add.ensures.ready;
      filling = fills_more g.P.Seal.Seal.TELLS mid new c.loop-key.builder c.add.new.builder c.args.picked.now c.in-Some.key.now c.in-Some.message.now c.next.new.self
          (subst (λ (left : Entries). IsFilling g.P.Seal.Seal.TELLS mid c.loop-key.builder c.args.picked.now left) c.in-Some.ensures.steps c.loop-key.invariant.filling)
          c.in_ok-add.ensures.adds;
      port = counts_on (g.P.Port.counts c.args.port.now) (g.P.Port.counts c.loop-key.port) (g.P.Port.counts c.add.new.port) c.loop-key.invariant.port c.add.ensures.counts;
      faults = c.in_ok-add.ensures.faults ∙ c.loop-key.invariant.faults;
    }

pub returns-in_err-add-clause-quiet : goal.returns-in_err-add-clause-quiet
returns-in_err-add-clause-quiet g c =
    quiet_then (branch_kind g.P.Seal.Seal.TELLS) (g.T.Turns.means c.args.turns.now) (g.T.Turns.means c.loop-key.turns) (g.T.Turns.means c.add.new.turns)
    (g.T.Turns.saw c.args.turns.now) (g.T.Turns.saw c.loop-key.turns) (g.T.Turns.saw c.add.new.turns)
    c.loop-key.invariant.quiet c.add.ensures.quiet

pub returns-in_err-add-clause-cause : goal.returns-in_err-add-clause-cause
returns-in_err-add-clause-cause g c =
    let kind = branch_kind g.P.Seal.Seal.TELLS in
    let old = g.T.Turns.means c.args.turns.now in
    let mid = g.T.Turns.means c.loop-key.turns in
    let new = g.T.Turns.means c.add.new.turns in
    let before = g.P.Port.counts c.args.port.now in
    let after = g.P.Port.counts c.add.new.port in
    if_err_same c.from_residual.result c.in_err-add.field-0.0
    (HasWorkCause kind old (g.T.Turns.saw c.args.turns.now) new (g.T.Turns.saw c.add.new.turns) before after)
    c.from_residual.ensures.1
    (cause_behind kind old mid new (g.T.Turns.saw c.args.turns.now) (g.T.Turns.saw c.loop-key.turns) (g.T.Turns.saw c.add.new.turns)
    before (g.P.Port.counts c.loop-key.port) after c.in_err-add.field-0.0 c.loop-key.invariant.quiet c.loop-key.invariant.port c.in_err-add.ensures.cause)
