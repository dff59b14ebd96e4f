-- The messages of a key in parts of tables.
use Rattle.std.proofs.Common.{◌≡◌, ℕ, true, cond, List, [], ◌∷◌, ◌++◌, map, None, Option, option_to_list, refl, ap, sym, ◌∙◌}
use Rattle.std.proofs.lemmas.List.{map-append}
use Rattle.spl_message.specs.declared.message.Message.{Message}
use Rattle.spl_message.specs.declared.span.Span.{Span}
use Rattle.spl_message.specs.Span.{in_span}
use Rattle.spl_message.specs.Table.{Table, chain, message_at, part_of}
use Rattle.spl_message.proofs.Tables.{message_at-part_of}
use Rattle.spl_tables.specs.Memtables.{FrozenData, MemtableData, tables_of}

message_at-inside : (span : Span) (table : Table) (key : List ℕ) → in_span span key ≡ true → message_at (part_of span table) key ≡ message_at table key
message_at-inside span table key inside =
    message_at-part_of span table key ∙ ap (λ b. cond b (message_at table key) None) inside

-- a key of the span has in the parts what it has in the tables
pub chain-parts : (span : Span) (key : List ℕ) → in_span span key ≡ true → (tables : List Table) → chain (map (part_of span) tables) key ≡ chain tables key
chain-parts span key inside [] = refl
chain-parts span key inside (table ∷ tables) =
    ap (λ (message : Option Message). option_to_list message ++ chain (map (part_of span) tables) key) (message_at-inside span table key inside)
    ∙ ap (λ (messages : List Message). option_to_list (message_at table key) ++ messages) (chain-parts span key inside tables)

map-tables : (span : Span) (frozen : List FrozenData) → map (λ (one : FrozenData). part_of span one.table) frozen ≡ map (part_of span) (map (λ (one : FrozenData). one.table) frozen)
map-tables span [] = refl
map-tables span (one ∷ frozen) = ap (λ (parts : List Table). part_of span one.table ∷ parts) (map-tables span frozen)

-- the parts of the frozen tables and then the active one's are the parts of all tables
pub parts_of : (span : Span) (tables : MemtableData) → map (λ (one : FrozenData). part_of span one.table) tables.frozen ++ part_of span tables.active ∷ [] ≡ map (part_of span) (tables_of tables)
parts_of span tables =
    ap (λ (parts : List Table). parts ++ part_of span tables.active ∷ []) (map-tables span tables.frozen)
    ∙ sym (map-append (part_of span) (map (λ (one : FrozenData). one.table) tables.frozen) (tables.active ∷ []))
