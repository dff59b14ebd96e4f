use Rattle.std.proofs.Common.{sym, ◌∙◌, arith}
use Rattle.spl_port.specs.Page.{leaf_row, leaf_row_length}
use Rattle.spl_page.specs.Slots.{leaf_slot_row}
use Rattle.spl_page.specs.Sound.{entries_of}
use Rattle.spl_page.proofs.SoundTables.{leaf_count_is, leaf_entry_is, never}
use Rattle.spl_page.proofs.sound_leaf.SoundPage+LeafForm.slot_at.Goals as goal

pub entry_bytes-requires : goal.entry_bytes-requires
entry_bytes-requires c = omega (arith, leaf_count_is c.args.self.now.bytes, c.requires)

pub unreachable-requires : goal.unreachable-requires
unreachable-requires c =
    let value = rw c.in-None.is at c.read.ensures.value in
    never (entries_of leaf_row leaf_row_length c.args.self.now.bytes) c.args.place (omega (arith, leaf_count_is c.args.self.now.bytes, c.requires)) (c.entry_bytes.ensures ∙ sym value)

pub returns : goal.returns
returns c =
    let value = rw c.in-Some.is at c.read.ensures.value in
    leaf_entry_is c.args.self.now.bytes c.args.place (leaf_slot_row c.in-Some.slot) (c.entry_bytes.ensures ∙ sym value)
