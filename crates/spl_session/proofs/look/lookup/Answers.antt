use Rattle.std.proofs.Common.{◌≡◌, ◌+◌, [], refl, subst, arith}
use Rattle.spl_message.specs.declared.call.Call.TheVariants as call
use Rattle.spl_message.specs.Message.{act_all}
use Rattle.spl_message.specs.Rule.{Rule}
use Rattle.spl_message.specs.Table.{chain}
use Rattle.spl_branch.specs.Reading.{reach_of}
use Rattle.spl_descent.specs.Sights.{rest}
use Rattle.spl_desk.specs.Branches.{branch_kind}
use Rattle.spl_desk.specs.Calls.{span_of_key}
use Rattle.spl_desk.proofs.Walks.{call_then_none, none_then_none}
use Rattle.spl_down.specs.Arrivals.{height_in, reach_at}
use Rattle.spl_down.specs.Descending.{Began}
use Rattle.spl_down.proofs.Answers.{came_nowhere, came_on, came_without_call}
use Rattle.spl_down.proofs.Walking.{alike, call_of, same_then}
use Rattle.spl_session.proofs.Keys.{for_front, is_for_key}
use Rattle.spl_session.proofs.Walking.{looked_behind}
use Rattle.spl_session.proofs.Ways.{answered_behind, way_on, way_without_call, within_behind, within_none}
use Rattle.spl_session.proofs.look.lookup.Given.{Over}
use Rattle.spl_session.proofs.look.lookup.Goals as goal

pub returns-in-Err-clause-stopped : goal.returns-in-Err-clause-stopped
returns-in-Err-clause-stopped g c = λ history saw.
    let kind = branch_kind g.P.Seal.Seal.TELLS in
    let old = g.T.Turns.means c.args.desk.now.turns in
    let mid = g.T.Turns.means c.begin.new.turns in
    let none = came_without_call kind old history mid (g.T.Turns.saw c.begin.new.turns) 1 [] (c.in-Err.ensures.walk history saw) in
    none_then_none kind old history mid (g.T.Turns.means c.abandon.new.turns) (g.T.Turns.saw c.begin.new.turns) (g.T.Turns.saw c.abandon.new.turns) (alike c.in-Err.ensures.same) none c.abandon.ensures.no_call

pub returns-in-Err-clause-within : goal.returns-in-Err-clause-within
returns-in-Err-clause-within g c = λ history saw.
    let kind = branch_kind g.P.Seal.Seal.TELLS in
    let old = g.T.Turns.means c.args.desk.now.turns in
    let mid = g.T.Turns.means c.begin.new.turns in
    let new = g.T.Turns.means c.abandon.new.turns in
    let counts = g.P.Port.counts c.args.desk.now.port.now in
    within_none kind g.P.Seal.Seal.TELLS c.args.key.now old history new (g.T.Turns.saw c.abandon.new.turns) counts counts refl
    (came_on kind old history mid new (g.T.Turns.saw c.begin.new.turns) (g.T.Turns.saw c.abandon.new.turns) 1 1 [] [] (alike c.in-Err.ensures.same) (c.in-Err.ensures.walk history saw) c.abandon.ensures.walk)

pub value_at-requires-clause-wanted : goal.value_at-requires-clause-wanted
value_at-requires-clause-wanted g c κs outlives =
    let key = c.args.key.now in
    for_front (span_of_key key) c.in-Ok.sight.span key (rw c.span_of.ensures at c.in-Ok.ensures.entered.front) (is_for_key key)

pub returns-in-Ok-value_at-clause-looked : goal.returns-in-Ok-value_at-clause-looked
returns-in-Ok-value_at-clause-looked g c = λ history saw.
    let kind = branch_kind g.P.Seal.Seal.TELLS in
    let key = c.args.key.now in
    let old = g.T.Turns.means c.args.desk.now.turns in
    let mid = g.T.Turns.means c.begin.new.turns in
    let new = g.T.Turns.means c.value_at.new.desk.turns in
    let before = g.P.Port.counts c.args.desk.now.port.now in
    let after = g.P.Port.counts c.value_at.new.desk.port.now in
    let sight = c.in-Ok.sight in
    let wanted = for_front (span_of_key key) sight.span key (rw c.span_of.ensures at c.in-Ok.ensures.entered.front) (is_for_key key) in
    looked_behind kind old history mid new (g.T.Turns.saw c.begin.new.turns) (g.T.Turns.saw c.value_at.new.desk.turns) key sight c.in-Ok-value_at.value (alike c.in-Ok.ensures.same) wanted.inside (rw c.span_of.ensures at (c.in-Ok.ensures.walk history saw))
    (λ seen s. way_without_call kind g.P.Seal.Seal.TELLS key mid seen new (g.T.Turns.saw c.value_at.new.desk.turns) before after 0 (height_in mid.at sight + 1) 0 (reach_at reach_of key sight) (c.in-Ok-value_at.ensures.walk seen s))
    (λ tells. subst (λ (r : Rule). c.in-Ok-value_at.value ≡ act_all r key (rest r mid.at sight.node key) (chain sight.tables key)) c.in-Ok.ensures.same.rule (c.in-Ok-value_at.ensures.value tells))

pub returns-in-Err-value_at-clause-stopped : goal.returns-in-Err-value_at-clause-stopped
returns-in-Err-value_at-clause-stopped g c = λ history saw.
    let kind = branch_kind g.P.Seal.Seal.TELLS in
    let key = c.args.key.now in
    let old = g.T.Turns.means c.args.desk.now.turns in
    let mid = g.T.Turns.means c.begin.new.turns in
    let late = g.T.Turns.means c.value_at.new.desk.turns in
    let before = g.P.Port.counts c.args.desk.now.port.now in
    let after = g.P.Port.counts c.value_at.new.desk.port.now in
    let sight = c.in-Ok.sight in
    let made = call.Piece (span_of_key key) in
    let began = call_of kind old history mid (g.T.Turns.saw c.begin.new.turns) (span_of_key key) sight (rw c.span_of.ensures at (c.in-Ok.ensures.walk history saw)) in
    let read = call_then_none kind old history mid late (g.T.Turns.saw c.begin.new.turns) (g.T.Turns.saw c.value_at.new.desk.turns) made sight.place (alike c.in-Ok.ensures.same) began
    (λ seen s. way_without_call kind g.P.Seal.Seal.TELLS key mid seen late (g.T.Turns.saw c.value_at.new.desk.turns) before after 0 (height_in mid.at sight + 1) 0 (reach_at reach_of key sight) (c.in-Err-value_at.ensures.walk seen s)) in
    call_then_none kind old history late (g.T.Turns.means c.abandon-in-Err-value_at.new.turns) (g.T.Turns.saw c.value_at.new.desk.turns) (g.T.Turns.saw c.abandon-in-Err-value_at.new.turns) made sight.place
    (alike (same_then old mid late c.in-Ok.ensures.same c.in-Err-value_at.ensures.same)) read c.abandon-in-Err-value_at.ensures.no_call

pub returns-in-Ok-value_at-clause-within : goal.returns-in-Ok-value_at-clause-within
returns-in-Ok-value_at-clause-within g c = λ history saw.
    let kind = branch_kind g.P.Seal.Seal.TELLS in
    let tells = g.P.Seal.Seal.TELLS in
    let key = c.args.key.now in
    let old = g.T.Turns.means c.args.desk.now.turns in
    let mid = g.T.Turns.means c.begin.new.turns in
    let new = g.T.Turns.means c.value_at.new.desk.turns in
    let before = g.P.Port.counts c.args.desk.now.port.now in
    let after = g.P.Port.counts c.value_at.new.desk.port.now in
    let sight = c.in-Ok.sight in
    let late = g.T.Turns.saw c.value_at.new.desk.turns in
    answered_behind kind tells key old history mid new (g.T.Turns.saw c.begin.new.turns) late sight before after (alike c.in-Ok.ensures.same) (rw c.span_of.ensures at (c.in-Ok.ensures.walk history saw)) 0
    (λ seen s. way_on kind tells key mid seen new new late late before after after 0 (height_in mid.at sight + 1) 0 (reach_at reach_of key sight) 0 (height_in mid.at sight + 1 + 0) 0 0 []
    (alike c.in-Ok-value_at.ensures.same) (c.in-Ok-value_at.ensures.walk seen s) (λ seen s. came_nowhere kind new seen late s) (omega arith) (λ tells. omega arith))

pub returns-in-Err-value_at-clause-within : goal.returns-in-Err-value_at-clause-within
returns-in-Err-value_at-clause-within g c = λ history saw.
    let kind = branch_kind g.P.Seal.Seal.TELLS in
    let tells = g.P.Seal.Seal.TELLS in
    let key = c.args.key.now in
    let old = g.T.Turns.means c.args.desk.now.turns in
    let mid = g.T.Turns.means c.begin.new.turns in
    let late = g.T.Turns.means c.value_at.new.desk.turns in
    let new = g.T.Turns.means c.abandon-in-Err-value_at.new.turns in
    let before = g.P.Port.counts c.args.desk.now.port.now in
    let after = g.P.Port.counts c.value_at.new.desk.port.now in
    let sight = c.in-Ok.sight in
    within_behind kind tells key old history mid new (g.T.Turns.saw c.begin.new.turns) (g.T.Turns.saw c.abandon-in-Err-value_at.new.turns) sight before after (alike c.in-Ok.ensures.same) (rw c.span_of.ensures at (c.in-Ok.ensures.walk history saw)) 1
    (λ seen s. way_on kind tells key mid seen late new (g.T.Turns.saw c.value_at.new.desk.turns) (g.T.Turns.saw c.abandon-in-Err-value_at.new.turns) before after after 0 (height_in mid.at sight + 1) 0 (reach_at reach_of key sight) 1 (height_in mid.at sight + 1 + 1) 0 0 []
    (alike c.in-Err-value_at.ensures.same) (c.in-Err-value_at.ensures.walk seen s) c.abandon-in-Err-value_at.ensures.walk (omega arith) (λ tells. omega arith))
