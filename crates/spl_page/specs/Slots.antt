-- Entries where they stand in a page, and what a search of a page comes to.
use Rattle.std.specs.Prelude.{ℕ, ◌+◌, length}
use Rattle.spl_message.specs.declared.message.Message.{Message}
use Rattle.spl_port.specs.Page.{IndexRow, LeafRow}
use Rattle.spl_page.specs.declared.index_slot.IndexSlot.{IndexSlot}
use Rattle.spl_page.specs.declared.leaf_slot.LeafSlot.{LeafSlot}
use Rattle.spl_page.specs.Tables.{message_of}

-- the entries as the page grammar has them
abbrev pub leaf_slot_row : LeafSlot → LeafRow
leaf_slot_row slot = record { key = slot.key.now; kind = slot.kind; value = slot.value.now }

abbrev pub index_slot_row : IndexSlot → IndexRow
index_slot_row slot = record { child = slot.child; key = slot.key.now }

-- the message that stands in an entry
abbrev pub slot_message : LeafSlot → Message
slot_message slot = message_of (leaf_slot_row slot)

-- how many bytes an entry takes
abbrev pub leaf_slot_length : LeafSlot → ℕ
leaf_slot_length slot = 4 + length slot.key.now + length slot.value.now

abbrev pub index_slot_length : IndexSlot → ℕ
index_slot_length slot = 5 + length slot.key.now
