use Rattle.std.proofs.Common.{IfSome}
use Rattle.std.specs.Prelude.{MatchOption}
use Rattle.spl_message.specs.declared.call.Call.TheVariants as call
use Rattle.spl_message.specs.declared.span.Span.{Span}
use Rattle.spl_desk.specs.Branches.{branch_kind}
use Rattle.spl_desk.specs.Calls.{MadeCall, MadeNoCall}
use Rattle.spl_range.specs.declared.pieces.Piece.{Piece}
use Rattle.spl_range.specs.Pieces.{Pieced}
use Rattle.spl_run.proofs.Calling.{piece_made, piece_stopped}
use Rattle.spl_run.proofs.Lists.{at_some}
use Rattle.spl_run.proofs.calls.make_piece.Goals as goal

pub returns-in-Ok-Some-clause-made : goal.returns-in-Ok-Some-clause-made
returns-in-Ok-Some-clause-made g c = λ history saw.
    let tells = g.P.Seal.Seal.TELLS in
    let old = g.T.Turns.means c.args.desk.now.turns in
    let new = g.T.Turns.means c.next.new.desk.turns in
    let seen = g.T.Turns.saw c.next.new.desk.turns in
    let span = c.args.left.now in
    let next = c.in-Ok-Some.field-0 in
    let pieced : Span → Piece → Type 0 = Pieced (branch_kind tells) old history new seen in
    let given : IfSome next (pieced span) = at_some c.args.pieces.now span (λ (s : Span). IfSome next (pieced s)) c.requires.left (c.in-Ok-Some.ensures.pieced history saw) in
    piece_made tells old history new seen (g.P.Port.counts c.args.desk.now.port.now) (g.P.Port.counts c.next.new.desk.port.now) c.requires.alone span c.in-Ok-Some.piece
    (at_some next c.in-Ok-Some.piece (pieced span) c.in-Ok-Some.field-0-is given)

pub returns-in-Err-clause-made : goal.returns-in-Err-clause-made
returns-in-Err-clause-made g c = λ history saw.
    let tells = g.P.Seal.Seal.TELLS in
    let old = g.T.Turns.means c.args.desk.now.turns in
    let new = g.T.Turns.means c.next.new.desk.turns in
    let seen = g.T.Turns.saw c.next.new.desk.turns in
    let span = c.args.left.now in
    let cut = c.in-Err.cut in
    let kind = branch_kind tells in
    rw c.cause_for.ensures
    (piece_stopped tells old history new seen (g.P.Port.counts c.args.desk.now.port.now) (g.P.Port.counts c.next.new.desk.port.now) c.requires.alone span cut.fault cut.place c.in-Err.ensures.cause
    (at_some c.args.pieces.now span (λ (s : Span). MatchOption cut.place (MadeNoCall kind old history new seen) (λ place. MadeCall kind old history new seen (call.Piece s) place)) c.requires.left (c.in-Err.ensures.stopped history saw)))
