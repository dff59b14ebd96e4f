use Rattle.std.proofs.Common.{sym, ap, ◌∙◌, arith}
use Rattle.spl_port.specs.declared.at.At.{At}
use Rattle.spl_port.specs.Page.{index_row, index_row_length}
use Rattle.spl_page.specs.Slots.{index_slot_row}
use Rattle.spl_page.specs.Sound.{entries_of}
use Rattle.spl_page.proofs.SoundTables.{index_child_is, index_count_is, never}
use Rattle.spl_page.proofs.sound_index.SoundPage+IndexForm.child_at.Goals as goal

pub entry_bytes-requires : goal.entry_bytes-requires
entry_bytes-requires c = omega (arith, index_count_is c.args.self.now.at.page c.args.self.now.bytes, c.requires)

pub unreachable-requires : goal.unreachable-requires
unreachable-requires c =
    let value = rw c.in-None.is at c.read.ensures.value in
    let same = ap (λ (at : At). index_row at.page c.entry_bytes.result.now) c.at-page.ensures.value in
    never (entries_of (index_row c.args.self.now.at.page) index_row_length c.args.self.now.bytes) c.args.place
    (omega (arith, index_count_is c.args.self.now.at.page c.args.self.now.bytes, c.requires)) (c.entry_bytes.ensures ∙ sym same ∙ sym value)

pub returns-clause-child : goal.returns-clause-child
returns-clause-child c =
    let value = rw c.in-Some.is at c.read.ensures.value in
    let same = ap (λ (at : At). index_row at.page c.entry_bytes.result.now) c.at-page.ensures.value in
    index_child_is c.args.self.now.at.page c.args.self.now.bytes c.args.place (index_slot_row c.in-Some.slot) (c.entry_bytes.ensures ∙ sym same ∙ sym value)
