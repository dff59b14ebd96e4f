use Rattle.std.proofs.Common.{subst, ◌∙◌, arith}
use Rattle.std.specs.Prelude.{Ok}
use Rattle.spl_message.specs.declared.call.Call.TheVariants as call
use Rattle.spl_desk.specs.Branches.{branch_kind}
use Rattle.spl_desk.specs.Causes.{HasCallCause}
use Rattle.spl_session.specs.declared.steps.Progress.{Progress}
use Rattle.spl_session.specs.Putting.{AfterAttempt}
use Rattle.spl_session.specs.Writes.{message_of}
use Rattle.spl_session.proofs.Stays.{alike_of, call_then, called_on, cause_then, fell_on, if_err_same, no_call_then, on_err}
use Rattle.spl_session.proofs.puts.put.Goals as goal

pub returns-in_err-place-clause-failed : goal.returns-in_err-place-clause-failed
returns-in_err-place-clause-failed g c =
    let kind = branch_kind g.P.Seal.Seal.TELLS in
    let old = g.T.Turns.means c.args.desk.now.turns in
    let mid = g.T.Turns.means c.loop-place.desk.turns in
    let new = g.T.Turns.means c.attempt_or_give_up.new.turns in
    let was = g.T.Turns.saw c.args.desk.now.turns in
    let between = g.T.Turns.saw c.loop-place.desk.turns in
    let saw = g.T.Turns.saw c.attempt_or_give_up.new.turns in
    let made = call.Put c.args.key.now (message_of c.args.write) in
    let inv = c.loop-place.invariant in
    let alike = alike_of old mid inv.called in
    let none = no_call_then kind old mid new was between saw alike inv.no_call c.in_err-place.ensures.made in
    λ history s. on_err c.from_residual.result _ (none history s)

pub returns-in-Placed-clause-placed : goal.returns-in-Placed-clause-placed
returns-in-Placed-clause-placed g c =
    let kind = branch_kind g.P.Seal.Seal.TELLS in
    let old = g.T.Turns.means c.args.desk.now.turns in
    let mid = g.T.Turns.means c.loop-place.desk.turns in
    let new = g.T.Turns.means c.attempt_or_give_up.new.turns in
    let was = g.T.Turns.saw c.args.desk.now.turns in
    let between = g.T.Turns.saw c.loop-place.desk.turns in
    let saw = g.T.Turns.saw c.attempt_or_give_up.new.turns in
    let made = call.Put c.args.key.now (message_of c.args.write) in
    let inv = c.loop-place.invariant in
    let alike = alike_of old mid inv.called in
    call_then kind old mid new was between saw alike inv.no_call made c.in-Placed.place
    (λ history s. subst (λ (p : Progress). AfterAttempt kind mid history new saw made (Ok p)) c.in-Placed.is (c.in_ok-place.ensures.made history s))

pub loop-place-preserved-in-Again : goal.loop-place-preserved-in-Again
loop-place-preserved-in-Again g c =
    let kind = branch_kind g.P.Seal.Seal.TELLS in
    let old = g.T.Turns.means c.args.desk.now.turns in
    let mid = g.T.Turns.means c.loop-place.desk.turns in
    let new = g.T.Turns.means c.attempt_or_give_up.new.turns in
    let was = g.T.Turns.saw c.args.desk.now.turns in
    let between = g.T.Turns.saw c.loop-place.desk.turns in
    let saw = g.T.Turns.saw c.attempt_or_give_up.new.turns in
    let made = call.Put c.args.key.now (message_of c.args.write) in
    let inv = c.loop-place.invariant in
    let alike = alike_of old mid inv.called in
    let none = no_call_then kind old mid new was between saw alike inv.no_call
    (λ history s. subst (λ (p : Progress). AfterAttempt kind mid history new saw made (Ok p)) c.in-Again.is (c.in_ok-place.ensures.made history s)) in
    record {
      called = called_on old mid new inv.called c.attempt_or_give_up.ensures.called;
      ready = c.attempt_or_give_up.ensures.ready;
      no_call = none;
      law = inv.law;
      device = inv.device;
      pager = inv.pager;
      port = inv.port;
      few = let below = c.in_ok-place.ensures.ok_few in omega (arith, below);
    }

pub loop-place-preserved : goal.loop-place-preserved
loop-place-preserved g c =
    let kind = branch_kind g.P.Seal.Seal.TELLS in
    let old = g.T.Turns.means c.args.desk.now.turns in
    let mid = g.T.Turns.means c.loop-place.desk.turns in
    let new = g.T.Turns.means c.attempt_or_give_up.new.turns in
    let was = g.T.Turns.saw c.args.desk.now.turns in
    let between = g.T.Turns.saw c.loop-place.desk.turns in
    let saw = g.T.Turns.saw c.attempt_or_give_up.new.turns in
    let made = call.Put c.args.key.now (message_of c.args.write) in
    let inv = c.loop-place.invariant in
    let alike = alike_of old mid inv.called in
    let none = no_call_then kind old mid new was between saw alike inv.no_call
    (λ history s. subst (λ (p : Progress). AfterAttempt kind mid history new saw made (Ok p)) c.in-Frozen.is (c.in_ok-place.ensures.made history s)) in
    let after = g.T.Turns.means c.make_way.new.desk.turns in
    let seen = g.T.Turns.saw c.make_way.new.desk.turns in
    let called = called_on old mid new inv.called c.attempt_or_give_up.ensures.called in
    record {
      called = called_on old new after called c.make_way.ensures.called;
      ready = c.make_way.ensures.ready;
      no_call = no_call_then kind old new after was saw seen (alike_of old new called) none c.make_way.ensures.no_call;
      law = c.make_way.ensures.law ∙ inv.law;
      device = c.make_way.ensures.device ∙ inv.device;
      pager = c.make_way.ensures.pager ∙ inv.pager;
      port = fell_on (g.P.Port.counts c.args.desk.now.port.now) (g.P.Port.counts c.loop-place.desk.port.now) (g.P.Port.counts c.make_way.new.desk.port.now) inv.port c.make_way.ensures.port;
      few = let below = c.in_ok-place.ensures.ok_few in let more = c.in_ok-make_way-in-Frozen.ensures.ok_few in omega (arith, below, more);
    }

pub returns-in_err-make_way-in-Frozen-clause-failed : goal.returns-in_err-make_way-in-Frozen-clause-failed
returns-in_err-make_way-in-Frozen-clause-failed g c =
    let kind = branch_kind g.P.Seal.Seal.TELLS in
    let old = g.T.Turns.means c.args.desk.now.turns in
    let mid = g.T.Turns.means c.loop-place.desk.turns in
    let new = g.T.Turns.means c.attempt_or_give_up.new.turns in
    let was = g.T.Turns.saw c.args.desk.now.turns in
    let between = g.T.Turns.saw c.loop-place.desk.turns in
    let saw = g.T.Turns.saw c.attempt_or_give_up.new.turns in
    let made = call.Put c.args.key.now (message_of c.args.write) in
    let inv = c.loop-place.invariant in
    let alike = alike_of old mid inv.called in
    let none = no_call_then kind old mid new was between saw alike inv.no_call
    (λ history s. subst (λ (p : Progress). AfterAttempt kind mid history new saw made (Ok p)) c.in-Frozen.is (c.in_ok-place.ensures.made history s)) in
    let after = g.T.Turns.means c.make_way.new.desk.turns in
    let seen = g.T.Turns.saw c.make_way.new.desk.turns in
    let called = called_on old mid new inv.called c.attempt_or_give_up.ensures.called in
    λ history s. on_err c.from_residual-in_err-make_way-in-Frozen.result _
    (no_call_then kind old new after was saw seen (alike_of old new called) none c.make_way.ensures.no_call history s)

pub returns-in_err-make_way-in-Frozen-clause-cause : goal.returns-in_err-make_way-in-Frozen-clause-cause
returns-in_err-make_way-in-Frozen-clause-cause g c =
    let kind = branch_kind g.P.Seal.Seal.TELLS in
    let old = g.T.Turns.means c.args.desk.now.turns in
    let mid = g.T.Turns.means c.loop-place.desk.turns in
    let new = g.T.Turns.means c.attempt_or_give_up.new.turns in
    let was = g.T.Turns.saw c.args.desk.now.turns in
    let between = g.T.Turns.saw c.loop-place.desk.turns in
    let saw = g.T.Turns.saw c.attempt_or_give_up.new.turns in
    let made = call.Put c.args.key.now (message_of c.args.write) in
    let inv = c.loop-place.invariant in
    let alike = alike_of old mid inv.called in
    let none = no_call_then kind old mid new was between saw alike inv.no_call
    (λ history s. subst (λ (p : Progress). AfterAttempt kind mid history new saw made (Ok p)) c.in-Frozen.is (c.in_ok-place.ensures.made history s)) in
    let after = g.T.Turns.means c.make_way.new.desk.turns in
    let seen = g.T.Turns.saw c.make_way.new.desk.turns in
    let called = called_on old mid new inv.called c.attempt_or_give_up.ensures.called in
    let cause = cause_then kind old new after was saw seen (alike_of old new called) none
    (g.P.Port.counts c.args.desk.now.port.now) (g.P.Port.counts c.loop-place.desk.port.now) (g.P.Port.counts c.make_way.new.desk.port.now) c.in_err-make_way-in-Frozen.field-0.0 inv.port
    c.in_err-make_way-in-Frozen.ensures.cause in
    λ history s. if_err_same c.from_residual-in_err-make_way-in-Frozen.result c.in_err-make_way-in-Frozen.field-0.0
    (HasCallCause kind old history after seen (g.P.Port.counts c.args.desk.now.port.now) (g.P.Port.counts c.make_way.new.desk.port.now))
    c.from_residual-in_err-make_way-in-Frozen.ensures.1 (cause history s)
