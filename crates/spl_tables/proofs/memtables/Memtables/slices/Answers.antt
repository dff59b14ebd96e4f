use Rattle.std.proofs.Common.{◌≡◌, List, [], ◌∷◌, ◌++◌, map, ap, ◌∙◌}
use Rattle.spl_message.specs.Table.{Table, chain, part_of}
use Rattle.spl_tables.specs.Memtables.{FrozenData, MemtableData, tables_of}
use Rattle.spl_tables.specs.Room.{data_of}
use Rattle.spl_tables.proofs.Chains.{chain-parts, parts_of}
use Rattle.spl_tables.proofs.memtables.Memtables.slices.Goals as goal

pub returns-clause-parts : goal.returns-clause-parts
returns-clause-parts c =
    let inside = c.self.inside in
    let span = c.args.span.now in
    c.of.ensures ∙ c.push_reserved.ensures.items
    ∙ ap (λ (parts : List Table). parts ++ c.in_ok-newest.newest ∷ []) (c.in_ok-slices.ensures.parts ∙ ap (λ (items : List FrozenData). map (λ (one : FrozenData). part_of span one.table) items) c.as_slice.ensures.value)
    ∙ ap (λ (part : Table). map (λ (one : FrozenData). part_of span one.table) inside.frozen.items ++ part ∷ []) c.in_ok-newest.ensures.part
    ∙ parts_of span (data_of inside.active inside.frozen.items inside.next)
    ∙ ap (λ (tables : MemtableData). map (part_of span) (tables_of tables)) c.self.view_is

pub returns-clause-chain : goal.returns-clause-chain
returns-clause-chain c = λ key inside.
    ap (λ (tables : List Table). chain tables key) (returns-clause-parts c) ∙ chain-parts c.args.span.now key inside (tables_of c.args.self.now)
