use Rattle.std.proofs.Common.{refl, subst}
use Rattle.std.specs.Prelude.{List, ℕ, []}
use Rattle.spl_message.specs.declared.call.Call.TheVariants as call
use Rattle.spl_message.specs.Message.{act_all}
use Rattle.spl_message.specs.Rule.{Rule}
use Rattle.spl_message.specs.Table.{chain}
use Rattle.spl_descent.specs.Sights.{rest}
use Rattle.spl_desk.specs.Branches.{branch_kind}
use Rattle.spl_desk.proofs.Walks.{call_then_none, none_then_none}
use Rattle.spl_down.proofs.Walking.{alike, call_of, same_then}
use Rattle.spl_range.specs.declared.pieces.Piece.{Piece}
use Rattle.spl_range.specs.Pieces.{AreValues}
use Rattle.spl_range.proofs.Walking.{came_quietly, pieced_behind}
use Rattle.spl_range.proofs.piece.piece.Goals as goal

pub returns-in-Err-clause-stopped : goal.returns-in-Err-clause-stopped
returns-in-Err-clause-stopped g c = λ history saw.
    let kind = branch_kind g.P.Seal.Seal.TELLS in
    let old = g.T.Turns.means c.args.desk.now.turns in
    let mid = g.T.Turns.means c.begin.new.turns in
    none_then_none kind old history mid (g.T.Turns.means c.abandon.new.turns) (g.T.Turns.saw c.begin.new.turns) (g.T.Turns.saw c.abandon.new.turns) (alike c.in-Err.ensures.same)
    (came_quietly kind old history mid (g.T.Turns.saw c.begin.new.turns) 1 [] (c.in-Err.ensures.walk history saw)) c.abandon.ensures.no_call

pub returns-in-Ok-pairs_at-clause-pieced : goal.returns-in-Ok-pairs_at-clause-pieced
returns-in-Ok-pairs_at-clause-pieced g c = λ history saw.
    let old = g.T.Turns.means c.args.desk.now.turns in
    let mid = g.T.Turns.means c.begin.new.turns in
    let sight = c.in-Ok.sight in
    let read = c.in-Ok-pairs_at.ensures in
    let piece : Piece = record { span = c.in-Ok-pairs_at.span; place = sight.place; pairs = c.in-Ok-pairs_at.pairs } in
    pieced_behind (branch_kind g.P.Seal.Seal.TELLS) old history mid (g.T.Turns.means c.pairs_at.new.desk.turns) (g.T.Turns.saw c.begin.new.turns) (g.T.Turns.saw c.pairs_at.new.desk.turns) c.args.span.now sight piece
    (alike c.in-Ok.ensures.same) (c.in-Ok.ensures.walk history saw) read.walk refl read.front read.from read.to read.order
    (λ tells. subst (λ (r : Rule). AreValues piece.span (λ (key : List ℕ). act_all r key (rest r mid.at sight.node key) (chain sight.tables key)) piece.pairs) c.in-Ok.ensures.same.rule (read.values tells))

pub returns-in-Err-pairs_at-clause-stopped : goal.returns-in-Err-pairs_at-clause-stopped
returns-in-Err-pairs_at-clause-stopped g c = λ history saw.
    let kind = branch_kind g.P.Seal.Seal.TELLS in
    let old = g.T.Turns.means c.args.desk.now.turns in
    let mid = g.T.Turns.means c.begin.new.turns in
    let late = g.T.Turns.means c.pairs_at.new.desk.turns in
    let made = call.Piece c.args.span.now in
    let place = c.in-Ok.sight.place in
    let began = call_of kind old history mid (g.T.Turns.saw c.begin.new.turns) c.args.span.now c.in-Ok.sight (c.in-Ok.ensures.walk history saw) in
    let read = call_then_none kind old history mid late (g.T.Turns.saw c.begin.new.turns) (g.T.Turns.saw c.pairs_at.new.desk.turns) made place (alike c.in-Ok.ensures.same) began c.in-Err-pairs_at.ensures.walk in
    call_then_none kind old history late (g.T.Turns.means c.abandon-in-Err-pairs_at.new.turns) (g.T.Turns.saw c.pairs_at.new.desk.turns) (g.T.Turns.saw c.abandon-in-Err-pairs_at.new.turns) made place
    (alike (same_then old mid late c.in-Ok.ensures.same c.in-Err-pairs_at.ensures.same)) read c.abandon-in-Err-pairs_at.ensures.no_call
