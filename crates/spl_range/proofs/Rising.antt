-- The places of the pieces of a scan rise.
use Rattle.std.proofs.Common.{◌≡◌, subst, ◌<◌, ◌≤◌, length, arith}
use Rattle.std.specs.Prelude.{Option, Some, IfSome, Result, Ok, IfOk}
use Rattle.std.proofs.lemmas.Option.{slice_get_within}
use Rattle.spl_message.specs.declared.call.Call.TheVariants as call
use Rattle.spl_message.specs.declared.span.Span.{Span}
use Rattle.spl_message.specs.History.{History}
use Rattle.spl_desk.specs.Holder.{BranchKind, Holder}
use Rattle.spl_range.specs.declared.pieces.Piece.{Piece}
use Rattle.spl_range.specs.Pieces.{Pieced}

-- the piece that a call gave
pub piece_of : {E : Type 0} (span : Span) (left : Option Span) (result : Result (Option Piece) E) (next : Option Piece) (piece : Piece) (Is : Span → Piece → Type 0) → left ≡ Some span → result ≡ Ok next → next ≡ Some piece
    → IfSome left (λ span. IfOk result (λ next. IfSome next (Is span))) → Is span piece
piece_of span left result next piece Is some ok given is =
    let one : IfOk result (λ next. IfSome next (Is span)) = subst (λ (l : Option Span). IfSome l (λ span. IfOk result (λ next. IfSome next (Is span)))) some is in
    let two : IfSome next (Is span) = subst (λ r. IfOk r (λ next. IfSome next (Is span))) ok one in
    subst (λ (n : Option Piece). IfSome n (Is span)) given two

-- A next piece has its place behind that of the one before: the holder had seen that one's call.
pub places_rise : {B : Type 0} (kind : BranchKind B) (old mid new : Holder) (history : History) (Between Saw : History → Type 0) (span left : Span) (piece next : Piece)
    → (one : Pieced kind old history mid Between span piece) → Pieced kind mid one.seen new Saw left next → piece.place < next.place
places_rise kind old mid new history Between Saw span left piece next one two =
    let within : piece.place < length one.seen = slice_get_within one.seen piece.place (record { actor = old.actor; call = call.Piece span }) one.says.0.at in
    let after : length one.seen ≤ next.place = two.says.0.after in
    omega (arith, within, after)
