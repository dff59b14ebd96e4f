use Rattle.std.proofs.Common.{◌≡◌, true, false, map, Some, sym, ap, subst, ◌∙◌, arith}
use Rattle.spl_message.specs.Key.{AreRising, same_key}
use Rattle.spl_message.specs.Entries.{AreEntries}
use Rattle.spl_port.specs.Page.{leaf_row, leaf_row_length}
use Rattle.spl_page.specs.Slots.{leaf_slot_row}
use Rattle.spl_page.specs.Sound.{count_below, entries_of}
use Rattle.spl_page.specs.Tables.{leaf_table, table_entry}
use Rattle.spl_page.proofs.SoundTables.{find_at, find_past, leaf_count_is, leaf_keys_are}
use Rattle.spl_page.proofs.sound_leaf.SoundPage+LeafForm.find.Goals as goal
use Rattle.spl_page.proofs.sound_leaf.SoundPage+LeafForm.find.Goals.{After-count}

is_table : (c : After-count) → AreEntries (leaf_table c.args.self.now.bytes)
is_table c = subst AreRising (leaf_keys_are c.args.self.now.bytes) c.count.ensures.rising

place_is : (c : After-count) → c.rank-place.result ≡ count_below (map (λ row. row.key) (entries_of leaf_row leaf_row_length c.args.self.now.bytes)) c.args.key.now
place_is c = c.rank-place.ensures.place ∙ ap (count_below (map (λ row. row.key) (entries_of leaf_row leaf_row_length c.args.self.now.bytes))) c.bytes-bytes.ensures.value

pub returns-then-place-count : goal.returns-then-place-count
returns-then-place-count c =
    let before = (goal.at.returns-then-place-count c).After-count in
    find_past c.args.self.now.bytes c.args.key.now c.rank-place.result c.count.result (is_table before) (place_is before) c.count.ensures.number c.if-place-count.true

pub slot_at-slot-requires : goal.slot_at-slot-requires
slot_at-slot-requires c = omega (arith, c.count.ensures.number, leaf_count_is c.args.self.now.bytes, c.if-place-count.false)

pub returns-then-eq : goal.returns-then-eq
returns-then-eq c =
    let before = (goal.at.returns-then-eq c).After-count in
    ap Some c.message.ensures
    ∙ find_at c.args.self.now.bytes c.args.key.now c.rank-place.result (table_entry (leaf_slot_row c.slot_at-slot.result)) true (is_table before) (place_is before) c.slot_at-slot.ensures
    (sym c.if-eq.true ∙ c.eq.ensures ∙ ap (λ key. same_key key c.slot_at-slot.result.key.now) c.bytes-bytes.ensures.value)

pub returns : goal.returns
returns c =
    let before = (goal.at.returns c).After-count in
    find_at c.args.self.now.bytes c.args.key.now c.rank-place.result (table_entry (leaf_slot_row c.slot_at-slot.result)) false (is_table before) (place_is before) c.slot_at-slot.ensures
    (sym c.if-eq.false ∙ c.eq.ensures ∙ ap (λ key. same_key key c.slot_at-slot.result.key.now) c.bytes-bytes.ensures.value)
