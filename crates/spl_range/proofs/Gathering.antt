-- What is in hand at a node, and below it.
use Rattle.std.proofs.Common.{◌≡◌, ℕ, true, List, [], Option, Some, None, option_to_list, refl, sym, ap, ◌∙◌}
use Rattle.std.proofs.lemmas.List.Sums.{fold-append}
use Rattle.spl_message.specs.declared.message.Message.{Message}
use Rattle.spl_message.specs.Cell.{Cell}
use Rattle.spl_message.specs.Entries.{Entries, message_in}
use Rattle.spl_message.specs.Message.{act, act_all, settle}
use Rattle.spl_message.specs.Rule.{Rule}
use Rattle.spl_message.specs.Span.{InSpan}
use Rattle.spl_message.specs.Table.{chain}
use Rattle.spl_state.specs.declared.sight.Sight.{Sight}
use Rattle.spl_descent.specs.Sights.{rest}
use Rattle.spl_desk.specs.Holder.{BranchKind, Holder}
use Rattle.spl_down.specs.Descending.{Arrived, Descended, tables_in}
use Rattle.spl_down.proofs.Fronts.{front_keys}
use Rattle.spl_down.proofs.Leaves.{at_leaf}
use Rattle.spl_range.specs.Adding.{AddsAt, AddsUnder, HasSame}

-- the one message of no value comes to what it settles to
settles : (rule : Rule) (key : List ℕ) (found : Option Message) → settle rule key found ≡ act_all rule key None (option_to_list found)
settles rule key None = refl
settles rule key (Some message) = refl

module _ (rule : Rule) (key : List ℕ) where
  -- what the older messages make of a cell, and what was in hand makes of that
  over : (older : List ℕ → List Message) (old new : Entries) (low : Cell) → AddsAt rule older old new key
      → act_all rule key low (option_to_list (message_in new key)) ≡ act_all rule key (act_all rule key low (older key)) (option_to_list (message_in old key))
  over older old new low adds = adds low ∙ fold-append (act rule key) low (older key) (option_to_list (message_in old key))

  -- what is in hand makes of no value what the messages make of the rest
  pub settled : (older : List ℕ → List Message) (first : Entries) (all : Entries) (low : Cell) → first ≡ [] → ((now : Entries) → AddsAt rule older first now key
      → act_all rule key None (option_to_list (message_in all key)) ≡ act_all rule key low (option_to_list (message_in now key))
      → settle rule key (message_in all key) ≡ act_all rule key low (older key))
  settled older first all low none now adds is =
      settles rule key (message_in all key)
      ∙ is
      ∙ over older first now low adds
      ∙ ap (λ (es : Entries). act_all rule key (act_all rule key low (older key)) (option_to_list (message_in es key))) none

module _ {B : Type 0} (kind : BranchKind B) (holder : Holder) (sight : Sight B) (old new : Entries) (adds : AddsUnder holder.rule sight.span (chain (tables_in kind sight)) old new) where
  -- below a leaf lies nothing
  pub gathered_last : Arrived kind holder sight → sight.leaf ≡ true → (key : List ℕ) → InSpan sight.span key
      → act_all holder.rule key None (option_to_list (message_in new key)) ≡ act_all holder.rule key (rest holder.rule holder.at sight.node key) (option_to_list (message_in old key))
  gathered_last arrived low key inside =
      over holder.rule key (chain (tables_in kind sight)) old new None (adds key inside)
      ∙ ap (λ (c : Cell). act_all holder.rule key c (option_to_list (message_in old key))) (sym (at_leaf kind holder sight arrived low key inside))

  -- the child has the rest of the keys that are left
  pub gathered_on : (after : Holder) (next : Sight B) (kept : Entries) → Descended kind holder after sight next → HasSame next.span new kept → kind.tells ≡ true → (key : List ℕ) → InSpan next.span key
      → act_all holder.rule key (rest holder.rule after.at next.node key) (option_to_list (message_in kept key)) ≡ act_all holder.rule key (rest holder.rule holder.at sight.node key) (option_to_list (message_in old key))
  gathered_on after next kept moved same tells key inside =
      let low = rest holder.rule after.at next.node key in
      ap (λ (o : Option Message). act_all holder.rule key low (option_to_list o)) (same key inside)
      ∙ over holder.rule key (chain (tables_in kind sight)) old new low (adds key (front_keys sight.span next.span moved.front key inside))
      ∙ ap (λ (c : Cell). act_all holder.rule key c (option_to_list (message_in old key))) (sym (moved.leads tells key inside))
