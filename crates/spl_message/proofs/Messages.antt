-- Messages of a key, one after another and all in one.
use Rattle.std.proofs.Common.{◌≡◌, ℕ, false, true, cond, List, [], ◌∷◌, fold, Option, Some, None, option_to_list, refl, ap, ◌∙◌, sym}
use Rattle.spl_message.specs.declared.message.Message.{Message}
use Rattle.spl_message.specs.declared.message.Message.TheVariants.{Insert, Delete, Update}
use Rattle.spl_message.specs.declared.span.Span.{Span}
use Rattle.spl_message.specs.Cell.{Cell}
use Rattle.spl_message.specs.Message.{act, act_all, combine, combine_all}
use Rattle.spl_message.specs.Rule.{Rule}
use Rattle.spl_message.specs.Span.{InSpan}
use Rattle.spl_message.specs.Table.{Table, IsMerged, chain, kept, message_at}

module _ (rule : Rule) (key : List ℕ) where
  -- acting with the combination is acting with both, in order
  pub act-combine : (cell : Cell) (older newer : Message) → act rule key cell (combine rule key older newer) ≡ act rule key (act rule key cell older) newer
  act-combine cell older (Insert value) = refl
  act-combine cell older Delete = refl
  act-combine cell (Insert value) (Update operand) = refl
  act-combine cell Delete (Update operand) = refl
  act-combine cell (Update older) (Update newer) = ap Some (sym (rule.agrees key cell older newer))

  act-fold : (cell : Cell) (oldest : Message) (messages : List Message) → act rule key cell (fold (combine rule key) oldest messages) ≡ act_all rule key (act rule key cell oldest) messages
  act-fold cell oldest [] = refl
  act-fold cell oldest (message ∷ messages) =
      act-fold cell (combine rule key oldest message) messages ∙ ap (λ c. act_all rule key c messages) (act-combine cell oldest message)

  -- acting with the one message that stands for all is acting with all
  pub act_all-combine_all : (cell : Cell) (messages : List Message) → act_all rule key cell (option_to_list (combine_all rule key messages)) ≡ act_all rule key cell messages
  act_all-combine_all cell [] = refl
  act_all-combine_all cell (oldest ∷ messages) = act-fold cell oldest messages

  act_all-kept : (message : Option Message) → act_all rule key None (option_to_list (kept rule true key message)) ≡ act_all rule key None (option_to_list message)
  act_all-kept None = refl
  act_all-kept (Some (Insert value)) = refl
  act_all-kept (Some Delete) = refl
  act_all-kept (Some (Update operand)) = refl

  -- merged tables act on a key of the span as the tables do, one after another; those of the bottom where nothing lies below
  pub act_all-merged : (tables : List Table) (span : Span) (table : Table) (cell : Cell) → IsMerged rule tables span false table → InSpan span key →
      act_all rule key cell (option_to_list (message_at table key)) ≡ act_all rule key cell (chain tables key)
  act_all-merged tables span table cell is inside =
      ap (λ m. act_all rule key cell (option_to_list m)) (is.messages key ∙ ap (λ b. cond b (combine_all rule key (chain tables key)) None) inside)
      ∙ act_all-combine_all cell (chain tables key)

  pub act_all-merged_bottom : (tables : List Table) (span : Span) (table : Table) → IsMerged rule tables span true table → InSpan span key →
      act_all rule key None (option_to_list (message_at table key)) ≡ act_all rule key None (chain tables key)
  act_all-merged_bottom tables span table is inside =
      ap (λ m. act_all rule key None (option_to_list m)) (is.messages key ∙ ap (λ b. cond b (kept rule true key (combine_all rule key (chain tables key))) None) inside)
      ∙ act_all-kept (combine_all rule key (chain tables key))
      ∙ act_all-combine_all None (chain tables key)
