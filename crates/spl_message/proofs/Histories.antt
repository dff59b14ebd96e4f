-- Histories that grow: what more calls behind the others do to a cell and to an answer at a place, under any rule.
use Rattle.std.proofs.Common.{◌≡◌, ℕ, ◌+◌, ◌≤◌, Bool, true, false, cond, List, [], ◌∷◌, ◌++◌, length, flat_map, None, refl, ap, ◌∙◌, sym, subst, arith, length-append}
use Rattle.std.proofs.lemmas.List.{append-nil, take-append-le, take_all}
use Rattle.std.proofs.lemmas.List.Sums.{fold-append}
use Rattle.std.proofs.lemmas.Grind.{flat_map-append}
use Rattle.spl_message.specs.declared.answer.Answer.{Answer}
use Rattle.spl_message.specs.declared.call.Call.{Call}
use Rattle.spl_message.specs.declared.call.Call.TheVariants.{Put, Look, Piece}
use Rattle.spl_message.specs.declared.message.Message.{Message}
use Rattle.spl_message.specs.Answer.{Answered, IsPieceOf, told_of}
use Rattle.spl_message.specs.Cell.{Cell}
use Rattle.spl_message.specs.History.{Event, History, messages_to, cell_at}
use Rattle.spl_message.specs.Message.{act, act_all}
use Rattle.spl_message.specs.Rule.{Rule}

module _ (rule : Rule) where
  -- calls behind a place change no cell at it
  pub cell_at-append : (history more : History) (place : ℕ) (key : List ℕ) → place ≤ length history → cell_at rule (history ++ more) place key ≡ cell_at rule history place key
  cell_at-append history more place key within =
      ap (λ h. act_all rule key None (flat_map (λ (e : Event). messages_to key e.call) h)) (take-append-le place history more within)

  -- and no answer
  pub Answered-append : (history more : History) (place : ℕ) (call : Call) (answer : Answer) → place ≤ length history → Answered rule history place call answer → Answered rule (history ++ more) place call answer
  Answered-append history more place (Put key message) answer within a = a
  Answered-append history more place (Look key) answer within a = a ∙ ap told_of (sym (cell_at-append history more place key within))
  Answered-append history more place (Piece span) answer within a =
      let cells : cell_at rule history place ≡ cell_at rule (history ++ more) place = λ i key. sym (cell_at-append history more place key within) i in
      subst (λ c. IsPieceOf c span answer) cells a

  -- a message that is there or not
  pub act_all-cond : (key : List ℕ) (cell : Cell) (message : Message) (b : Bool) → act_all rule key cell (cond b (message ∷ []) []) ≡ cond b (act rule key cell message) cell
  act_all-cond key cell message true = refl
  act_all-cond key cell message false = refl

  -- the cell behind the last call is what that call's messages make of the cell before it
  pub cell_at-more : (history : History) (event : Event) (key : List ℕ) →
      cell_at rule (history ++ event ∷ []) (length history + 1) key ≡ act_all rule key (cell_at rule history (length history) key) (messages_to key event.call)
  cell_at-more history event key =
      let messages : Event → List Message = λ e. messages_to key e.call in
      let count : length (history ++ event ∷ []) ≡ length history + 1 = length-append history (event ∷ []) in
      ap (λ h. act_all rule key None (flat_map messages h)) (take_all (length history + 1) (history ++ event ∷ []) (omega arith))
      ∙ ap (act_all rule key None) (flat_map-append messages history (event ∷ []))
      ∙ fold-append (act rule key) None (flat_map messages history) (flat_map messages (event ∷ []))
      ∙ ap (λ h. act_all rule key (act_all rule key None (flat_map messages h)) (flat_map messages (event ∷ []))) (sym (take_all (length history) history (omega arith)))
      ∙ ap (act_all rule key (cell_at rule history (length history) key)) (append-nil (messages_to key event.call))
