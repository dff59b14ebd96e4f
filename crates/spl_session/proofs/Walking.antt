-- What a lookup found, as the walk of its turns tells it.
use Rattle.std.proofs.Common.{◌≡◌, ℕ, ◌<◌, true, List, [], ◌∷◌, ◌++◌, length, sym, ap, ◌∙◌, arith}
use Rattle.std.specs.Prelude.{slice_get}
use Rattle.std.proofs.lemmas.Option.{slice_get_within}
use Rattle.spl_message.specs.declared.call.Call.TheVariants as call
use Rattle.spl_message.specs.Cell.{Cell}
use Rattle.spl_message.specs.History.{Event, History, cell_at}
use Rattle.spl_message.specs.Message.{act_all}
use Rattle.spl_message.specs.Span.{InSpan}
use Rattle.spl_message.specs.Table.{chain}
use Rattle.spl_message.proofs.Histories.{cell_at-append}
use Rattle.spl_state.specs.declared.sight.Sight.{Sight}
use Rattle.spl_descent.specs.Sights.{rest}
use Rattle.spl_desk.specs.Calls.{IsOnlyCall, Looked, MadeNoCall, span_of_key}
use Rattle.spl_desk.specs.Holder.{BranchKind, Holder}
use Rattle.spl_desk.specs.Walk.{calls_in}
use Rattle.spl_desk.proofs.Walks.{IsAlike, calls_on, get_before, went_on, walks_more}
use Rattle.spl_down.specs.Descending.{Began, IsBegin}

module _ {B : Type 0} (kind : BranchKind B) (old : Holder) (history : History) where
  -- turns without a call behind the begin of the descent, and the value that they found
  pub looked_behind : (mid new : Holder) (Before Saw : History → Type 0) (key : List ℕ) (sight : Sight B) (value : Cell) → IsAlike old mid → InSpan sight.span key → Began kind old history mid Before (span_of_key key) sight → ((seen : History) → Before seen → MadeNoCall kind mid seen new Saw) → (kind.tells ≡ true → value ≡ act_all old.rule key (rest old.rule mid.at sight.node key) (chain sight.tables key)) → Looked kind old history new Saw key sight.place value
  looked_behind mid new Before Saw key sight value like inside one two is =
      went_on kind old history mid new Before Saw (IsBegin kind old history mid (span_of_key key) sight)
      (λ turns seen. calls_in mid.actor turns ≡ [])
      (λ turns seen. IsOnlyCall old.actor history (call.Piece (span_of_key key)) sight.place turns seen × (kind.tells ≡ true → value ≡ cell_at old.rule seen sight.place key))
      like one (two one.seen one.saw)
      (λ more seen walks none.
      let event : Event = record { actor = old.actor; call = call.Piece (span_of_key key) } in
      let grown = walks_more kind mid one.seen more new.at seen walks in
      let within : sight.place < length one.seen = slice_get_within one.seen sight.place event one.says.only_call.at in
      let only : IsOnlyCall old.actor history (call.Piece (span_of_key key)) sight.place (one.turns ++ more) seen = record {
        only =
            calls_on kind old.actor one.turns more
            ∙ ap (λ (h : History). h ++ calls_in old.actor more) one.says.only_call.only
            ∙ ap (λ (n : ℕ). event ∷ calls_in n more) (sym like.actor)
            ∙ ap (λ (h : History). event ∷ h) none;
        at = ap (λ (h : History). slice_get h sight.place) grown.1 ∙ get_before one.seen grown.0 sight.place event one.says.only_call.at;
        after = one.says.only_call.after;
      } in
      let same : cell_at old.rule seen sight.place key ≡ cell_at old.rule one.seen sight.place key =
      ap (λ (h : History). cell_at old.rule h sight.place key) grown.1 ∙ cell_at-append old.rule one.seen grown.0 sight.place key (omega (arith, within)) in
      (only, λ tells. is tells ∙ sym (one.says.cells tells key inside) ∙ sym same))
