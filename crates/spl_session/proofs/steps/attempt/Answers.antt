use Rattle.std.proofs.Common.{subst, ℕ}
use Rattle.std.specs.Prelude.{Option, Ok}
use Rattle.spl_message.specs.declared.call.Call.TheVariants as call
use Rattle.spl_state.specs.View.{branch_data}
use Rattle.spl_desk.specs.Holder.{kind_of}
use Rattle.spl_session.specs.Putting.{AfterTry}
use Rattle.spl_session.specs.Writes.{message_of}
use Rattle.spl_session.proofs.Stays.{after_err, alike_of, no_call_then}
use Rattle.spl_session.proofs.steps.attempt.Goals as goal

pub returns-then-branch-clause-made : goal.returns-then-branch-clause-made
returns-then-branch-clause-made g c =
    let kind = kind_of g.B.Content.number (branch_data g.B.Content.extents g.B.Content.entries g.B.Content.cuts g.B.Content.table) g.B.Content.TELLS in
    let old = g.T.Turns.means c.args.turns.now in
    let mid = g.T.Turns.means c.try_put.new.turns in
    let new = g.T.Turns.means c.try_rotate.new.turns in
    no_call_then kind old mid new (g.T.Turns.saw c.args.turns.now) (g.T.Turns.saw c.try_put.new.turns) (g.T.Turns.saw c.try_rotate.new.turns) (alike_of old mid c.try_put.ensures.called)
    (λ history saw. subst (λ (o : Option ℕ). AfterTry kind old history mid (g.T.Turns.saw c.try_put.new.turns) (call.Put c.args.key.now c.in_ok-message.message) (Ok o)) c.in_default.is (c.in_ok-place.ensures.made history saw))
    c.try_rotate.ensures.no_call

pub returns-else-branch-clause-made : goal.returns-else-branch-clause-made
returns-else-branch-clause-made g c =
    let kind = kind_of g.B.Content.number (branch_data g.B.Content.extents g.B.Content.entries g.B.Content.cuts g.B.Content.table) g.B.Content.TELLS in
    let old = g.T.Turns.means c.args.turns.now in
    let mid = g.T.Turns.means c.try_put.new.turns in
    let new = g.T.Turns.means c.try_rotate.new.turns in
    no_call_then kind old mid new (g.T.Turns.saw c.args.turns.now) (g.T.Turns.saw c.try_put.new.turns) (g.T.Turns.saw c.try_rotate.new.turns) (alike_of old mid c.try_put.ensures.called)
    (λ history saw. subst (λ (o : Option ℕ). AfterTry kind old history mid (g.T.Turns.saw c.try_put.new.turns) (call.Put c.args.key.now c.in_ok-message.message) (Ok o)) c.in_default.is (c.in_ok-place.ensures.made history saw))
    c.try_rotate.ensures.no_call

pub returns-in_err-try_rotate-clause-made : goal.returns-in_err-try_rotate-clause-made
returns-in_err-try_rotate-clause-made g c =
    let kind = kind_of g.B.Content.number (branch_data g.B.Content.extents g.B.Content.entries g.B.Content.cuts g.B.Content.table) g.B.Content.TELLS in
    let old = g.T.Turns.means c.args.turns.now in
    let mid = g.T.Turns.means c.try_put.new.turns in
    let new = g.T.Turns.means c.try_rotate.new.turns in
    let none = no_call_then kind old mid new (g.T.Turns.saw c.args.turns.now) (g.T.Turns.saw c.try_put.new.turns) (g.T.Turns.saw c.try_rotate.new.turns) (alike_of old mid c.try_put.ensures.called)
    (λ history saw. subst (λ (o : Option ℕ). AfterTry kind old history mid (g.T.Turns.saw c.try_put.new.turns) (call.Put c.args.key.now c.in_ok-message.message) (Ok o)) c.in_default.is (c.in_ok-place.ensures.made history saw))
    c.try_rotate.ensures.no_call in
    λ history saw. after_err kind old history new (g.T.Turns.saw c.try_rotate.new.turns) (call.Put c.args.key.now (message_of c.args.write.now)) c.from_residual-in_err-try_rotate.result c.from_residual-in_err-try_rotate.ensures.0 (none history saw)
