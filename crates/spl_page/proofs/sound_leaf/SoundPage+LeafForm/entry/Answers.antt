use Rattle.std.proofs.Common.{arith}
use Rattle.spl_page.proofs.SoundTables.{entry_past, leaf_count_is}
use Rattle.spl_page.proofs.sound_leaf.SoundPage+LeafForm.entry.Goals as goal

pub returns-then-place-count : goal.returns-then-place-count
returns-then-place-count c = entry_past c.args.self.now.bytes c.args.place c.count.result c.count.ensures.number c.if-place-count.true

pub slot_at-slot-requires : goal.slot_at-slot-requires
slot_at-slot-requires c = omega (arith, c.count.ensures.number, leaf_count_is c.args.self.now.bytes, c.if-place-count.false)
