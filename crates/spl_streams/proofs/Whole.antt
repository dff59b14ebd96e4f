-- A whole merge of branches, from its first entry to its last.
use Rattle.std.proofs.Common.{◌≡◌, ℕ, Bool, true, false, cond, List, [], ◌∷◌, ◌++◌, map, Option, None, option_to_list, refl, ap, ◌∙◌, sym, subst}
use Rattle.std.proofs.lemmas.List.{append-nil}
use Rattle.spl_message.specs.declared.message.Message.{Message}
use Rattle.spl_message.specs.declared.span.Span.{Span}
use Rattle.spl_message.specs.Entries.{Entries}
use Rattle.spl_message.specs.Message.{combine_all}
use Rattle.spl_message.specs.Rule.{Rule}
use Rattle.spl_message.specs.Span.{in_span}
use Rattle.spl_message.specs.Table.{Table, IsMerged, as_table, chain, kept, merged, message_at, part_of}
use Rattle.spl_message.proofs.Tables.{message_at-part_of}
use Rattle.spl_branch.specs.Branch.{Branch, table_of}
use Rattle.spl_merge.specs.Merging.{IsMergedSoFar}
use Rattle.spl_merge.proofs.Runs.{merged_more}

module _ (span : Span) (key : List ℕ) (inside : in_span span key ≡ true) where
  part_chain : (tables : List Table) → chain (map (part_of span) tables) key ≡ chain tables key
  part_chain [] = refl
  part_chain (table ∷ tables) =
      ap (λ (found : Option Message). option_to_list found ++ chain (map (part_of span) tables) key)
      (message_at-part_of span table key ∙ ap (λ b. cond b (message_at table key) None) inside)
      ∙ ap (λ (messages : List Message). option_to_list (message_at table key) ++ messages) (part_chain tables)

module _ (rule : Rule) (span : Span) (bottom : Bool) where
  part_merged : (tables : List Table) (key : List ℕ) → merged rule (map (part_of span) tables) span bottom key ≡ merged rule tables span bottom key
  part_merged tables key = by (in_span span key) refl
    where
      keeps : List Message → Option Message
      keeps messages = kept rule bottom key (combine_all rule key messages)

      by : (b : Bool) → in_span span key ≡ b → merged rule (map (part_of span) tables) span bottom key ≡ merged rule tables span bottom key
      by true is = ap (λ (messages : List Message). cond (in_span span key) (kept rule bottom key (combine_all rule key messages)) None)
          (part_chain span key is tables)
      by false is =
          ap (λ b. cond b (kept rule bottom key (combine_all rule key (chain (map (part_of span) tables) key))) None) is
          ∙ ap (λ b. cond b (kept rule bottom key (combine_all rule key (chain tables key))) None) (sym is)

  -- the merge of the tables' parts is the merge of the tables
  pub merged_parts : (tables : List Table) (table : Table) → IsMerged rule (map (part_of span) tables) span bottom table →
      IsMerged rule tables span bottom table
  merged_parts tables table is = record {
    order = is.order;
    messages = λ key. is.messages key ∙ part_merged tables key;
  }

  parts_of_tables : (branches : List Branch) → map (λ branch. part_of span (table_of branch)) branches ≡ map (part_of span) (map table_of branches)
  parts_of_tables [] = refl
  parts_of_tables (branch ∷ branches) = ap (λ (ts : List Table). part_of span (table_of branch) ∷ ts) (parts_of_tables branches)

  -- before the first entry
  pub so_far_none : (branches : List Branch) →
      IsMergedSoFar rule (map table_of branches) span bottom [] (map (λ branch. part_of span (table_of branch)) branches)
  so_far_none branches rest is =
      merged_parts (map table_of branches) (as_table rest)
      (subst (λ (ts : List Table). IsMerged rule ts span bottom (as_table rest)) (parts_of_tables branches) is)

  -- after one more entry, or several
  pub so_far_then : (tables : List Table) (built more : Entries) (left less : List Table) →
      IsMergedSoFar rule tables span bottom built left → IsMergedSoFar rule left span bottom more less →
      IsMergedSoFar rule tables span bottom (built ++ more) less
  so_far_then tables built more left less so_far next = merged_more rule tables span bottom built more left less so_far next

  -- at the end
  pub so_far_all : (tables : List Table) (built : Entries) (left : List Table) → IsMergedSoFar rule tables span bottom built left →
      IsMerged rule left span bottom (as_table []) → IsMerged rule tables span bottom (as_table built)
  so_far_all tables built left so_far ended =
      subst (λ (entries : Entries). IsMerged rule tables span bottom (as_table entries)) (append-nil built) (so_far [] ended)
