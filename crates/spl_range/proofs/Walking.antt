-- The walks of a piece, one behind the other.
use Rattle.std.proofs.Common.{◌≡◌, ℕ, ◌<◌, true, cond, List, [], ◌∷◌, ◌++◌, Option, None, length, refl, sym, ap, subst, ◌∙◌, arith}
use Rattle.std.specs.Prelude.{slice_get}
use Rattle.std.proofs.lemmas.Option.{slice_get_within}
use Rattle.spl_message.specs.declared.answer.Answer.TheVariants as answer
use Rattle.spl_message.specs.declared.call.Call.TheVariants as call
use Rattle.spl_message.specs.declared.span.Span.{Span}
use Rattle.spl_message.specs.Answer.{Answered, AreLiving, EndsIn}
use Rattle.spl_message.specs.History.{Event, History, cell_at}
use Rattle.spl_message.specs.Message.{act_all}
use Rattle.spl_message.specs.Pairs.{AreInOrder}
use Rattle.spl_message.specs.Span.{in_span}
use Rattle.spl_message.specs.Table.{chain}
use Rattle.spl_message.proofs.Histories.{cell_at-append}
use Rattle.spl_state.specs.declared.sight.Sight.{Sight}
use Rattle.spl_descent.specs.Sights.{rest}
use Rattle.spl_desk.specs.Calls.{HasCalled, IsOnlyCall, IsSameCaller, MadeNoCall, MayCall}
use Rattle.spl_desk.specs.Holder.{BranchKind, Holder}
use Rattle.spl_desk.specs.Turn.{Turn}
use Rattle.spl_desk.specs.Walk.{Walks, calls_in}
use Rattle.spl_desk.proofs.Walks.{IsAlike, calls_on, get_before, went_none, went_on, walks_more}
use Rattle.spl_down.specs.Arrivals.{Arrival, CameTo}
use Rattle.spl_down.specs.Descending.{Began, IsBegin}
use Rattle.spl_down.specs.Spans.{IsFront}
use Rattle.spl_down.proofs.Fronts.{front_keys}
use Rattle.spl_range.specs.declared.pieces.Piece.{Piece}
use Rattle.spl_range.specs.Pieces.{AreValues, Pieced}
use Rattle.spl_range.proofs.Living.{same_values}

module _ {B : Type 0} (kind : BranchKind B) (old : Holder) (history : History) where
  pub no_turn : (Saw : History → Type 0) → Saw history → MadeNoCall kind old history old Saw
  no_turn Saw saw = went_none kind old history old Saw (λ turns seen. calls_in old.actor turns ≡ []) refl saw refl

  -- turns that come to nodes make no call
  pub came_quietly : (new : Holder) (Saw : History → Type 0) (most : ℕ) (arrivals : List (Arrival B)) → CameTo kind old history new Saw most arrivals → MadeNoCall kind old history new Saw
  came_quietly new Saw most arrivals came = record { turns = came.turns; seen = came.seen; walks = came.walks; saw = came.saw; says = came.says.calls }

  -- turns without a call behind the begin of the descent, and the pairs that they found
  pub pieced_behind : (mid new : Holder) (Before Saw : History → Type 0) (asked : Span) (sight : Sight B) (piece : Piece) → IsAlike old mid → Began kind old history mid Before asked sight
      → ((seen : History) → Before seen → MadeNoCall kind mid seen new Saw) → piece.place ≡ sight.place → IsFront sight.span piece.span → piece.span.from ≡ asked.from → EndsIn asked piece.span.to → AreInOrder piece.pairs
      → (kind.tells ≡ true → AreValues piece.span (λ key. act_all old.rule key (rest old.rule mid.at sight.node key) (chain sight.tables key)) piece.pairs)
      → Pieced kind old history new Saw asked piece
  pieced_behind mid new Before Saw asked sight piece like one two at front from to order values =
      went_on kind old history mid new Before Saw (IsBegin kind old history mid asked sight) (λ turns seen. calls_in mid.actor turns ≡ [])
      (λ turns seen. IsOnlyCall old.actor history (call.Piece asked) piece.place turns seen × (kind.tells ≡ true → Answered old.rule seen piece.place (call.Piece asked) (answer.Pairs piece.span.to piece.pairs)))
      like one (two one.seen one.saw) behind
    where
      behind : (more : List (Turn B)) (seen : History) → Walks kind mid one.seen more new.at seen → calls_in mid.actor more ≡ []
          → IsOnlyCall old.actor history (call.Piece asked) piece.place (one.turns ++ more) seen × (kind.tells ≡ true → Answered old.rule seen piece.place (call.Piece asked) (answer.Pairs piece.span.to piece.pairs))
      behind more seen walks none =
          let event : Event = record { actor = old.actor; call = call.Piece asked } in
          let grown = walks_more kind mid one.seen more new.at seen walks in
          let begun = one.says.only_call in
          let within : sight.place < length one.seen = slice_get_within one.seen sight.place event begun.at in
          let only : IsOnlyCall old.actor history (call.Piece asked) sight.place (one.turns ++ more) seen = record {
            only =
                calls_on kind old.actor one.turns more
                ∙ ap (λ (h : History). h ++ calls_in old.actor more) begun.only
                ∙ ap (λ (n : ℕ). event ∷ calls_in n more) (sym like.actor)
                ∙ ap (λ (h : History). event ∷ h) none;
            at = ap (λ (h : History). slice_get h sight.place) grown.1 ∙ get_before one.seen grown.0 sight.place event begun.at;
            after = begun.after;
          } in
          let same : (key : List ℕ) → cell_at old.rule seen sight.place key ≡ cell_at old.rule one.seen sight.place key =
          λ key. ap (λ (h : History). cell_at old.rule h sight.place key) grown.1 ∙ cell_at-append old.rule one.seen grown.0 sight.place key (omega (arith, within)) in
          let living : kind.tells ≡ true → AreLiving (cell_at old.rule seen sight.place) (record asked { to = piece.span.to }) piece.pairs =
          λ tells.
          let there = same_values piece.span (λ key. act_all old.rule key (rest old.rule mid.at sight.node key) (chain sight.tables key)) (cell_at old.rule seen sight.place) piece.pairs (values tells)
          (λ key inside. sym (same key ∙ one.says.cells tells key (front_keys sight.span piece.span front key inside))) in
          record {
            order = order;
            values = λ key. there.values key ∙ ap (λ (start : Option (List ℕ)). cond (in_span (record { from = start; to = piece.span.to }) key) (cell_at old.rule seen sight.place key) None) from;
          } in
          subst (λ (n : ℕ). IsOnlyCall old.actor history (call.Piece asked) n (one.turns ++ more) seen × (kind.tells ≡ true → Answered old.rule seen n (call.Piece asked) (answer.Pairs piece.span.to piece.pairs))) (sym at)
          (only, λ tells. (to, living tells))

-- a call that ends with nothing
pub has_called : (old new : Holder) → IsSameCaller old new → MayCall new → HasCalled old new
has_called old new same nothing = record { alone = same.alone; actor = same.actor; rule = same.rule; turns = same.turns; nothing = nothing }

pub called_after : (old mid new : Holder) → IsSameCaller old mid → HasCalled mid new → HasCalled old new
called_after old mid new one two = record {
  alone = two.alone ∙ one.alone;
  actor = two.actor ∙ one.actor;
  rule = two.rule ∙ one.rule;
  turns = let a = one.turns in let b = two.turns in omega (arith, a, b);
  nothing = two.nothing;
}
