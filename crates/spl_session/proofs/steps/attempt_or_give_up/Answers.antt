use Rattle.std.proofs.Common.{rules}
use Rattle.std.specs.Result.{IsErr}
use Rattle.spl_message.specs.declared.call.Call.TheVariants as call
use Rattle.spl_state.specs.View.{branch_data}
use Rattle.spl_desk.specs.Holder.{kind_of}
use Rattle.spl_session.specs.Writes.{message_of}
use Rattle.spl_session.proofs.Stays.{after_err, alike_of, no_call_then, none_of_err}
use Rattle.spl_session.proofs.steps.attempt_or_give_up.Goals as goal

pub returns-then-is_err-clause-made : goal.returns-then-is_err-clause-made
returns-then-is_err-clause-made g c =
    let kind = kind_of g.B.Content.number (branch_data g.B.Content.extents g.B.Content.entries g.B.Content.cuts g.B.Content.table) g.B.Content.TELLS in
    let old = g.T.Turns.means c.args.turns.now in
    let mid = g.T.Turns.means c.attempt-outcome.new.turns in
    let new = g.T.Turns.means c.abandon.new.turns in
    let made = call.Put c.args.key.now (message_of c.args.write.now) in
    let is : IsErr c.attempt-outcome.result = search (rules, c.if-is_err.ensures.value, c.is_err.ensures.value, c.if-is_err.true) in
    let none = no_call_then kind old mid new (g.T.Turns.saw c.args.turns.now) (g.T.Turns.saw c.attempt-outcome.new.turns) (g.T.Turns.saw c.abandon.new.turns) (alike_of old mid c.attempt-outcome.ensures.called)
    (λ history saw. none_of_err kind old history mid (g.T.Turns.saw c.attempt-outcome.new.turns) made c.attempt-outcome.result is (c.attempt-outcome.ensures.made history saw))
    c.abandon.ensures.no_call in
    λ history saw. after_err kind old history new (g.T.Turns.saw c.abandon.new.turns) made c.attempt-outcome.result is (none history saw)
