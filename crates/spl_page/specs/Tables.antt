-- What a page says to the layers above: a leaf page is a table, and an index page is a list of children.
use Rattle.std.specs.Prelude.{ℕ, ◌+◌, ◌==◌, if◌then◌else◌, List, [], ◌∷◌, map, sum_by, Option, Some, None}
use Rattle.spl_message.specs.declared.message.Message.{Message}
use Rattle.spl_message.specs.declared.message.Message.TheVariants.{Insert, Delete, Update}
use Rattle.spl_message.specs.Key.{is_below}
use Rattle.spl_message.specs.Entries.{Entries}
use Rattle.spl_port.specs.Page.{LeafRow, IndexRow, Rows, leaf_rows, index_rows}
use Rattle.spl_page.specs.IndexPage.{index_entry_length}
use Rattle.spl_page.specs.LeafPage.{leaf_entry_length}

-- the message of an entry of a leaf page
abbrev pub message_of : LeafRow → Message
message_of row = if row.kind == 0 then Insert row.value else (if row.kind == 1 then Delete else Update row.value)

-- the entry as a key with its message
abbrev pub table_entry : LeafRow → List ℕ × Message
table_entry row = (row.key, message_of row)

-- how many bytes it takes
abbrev pub leaf_size : LeafRow → ℕ
leaf_size row = leaf_entry_length row.key (message_of row)

-- the entries of a page that were found there
abbrev pub found_rows : {R : Type 0} → Option (Rows R) → List R
found_rows None = []
found_rows (Some found) = found.rows

-- the table that the bytes of a leaf page hold
unfoldable pub leaf_table : List ℕ → Entries
leaf_table bytes = map table_entry (found_rows (leaf_rows bytes))

-- the children in the bytes of an index page with this number
unfoldable pub children : ℕ → List ℕ → List IndexRow
children page bytes = found_rows (index_rows page bytes)

-- the keys of children
abbrev pub child_keys : List IndexRow → List (List ℕ)
child_keys rows = map (λ row. row.key) rows

-- the child that was found further on, or else this one
abbrev pub later : Option ℕ → ℕ → ℕ
later None child = child
later (Some further) child = further

-- the child under which a key belongs: the last one whose first key is not above it, if there is one
abbrev pub child_for : List IndexRow → List ℕ → Option ℕ
child_for [] key = None
child_for (row ∷ rows) key = if is_below key row.key then None else Some (later (child_for rows key) row.child)

-- how many bytes a leaf page with this table takes before its zeros
abbrev pub table_length : Entries → ℕ
table_length table = 16 + sum_by (λ entry. leaf_entry_length entry.0 entry.1) table

-- how many bytes an index page with these children takes before its zeros
abbrev pub children_length : List IndexRow → ℕ
children_length rows = 16 + sum_by (λ row. index_entry_length row.key) rows
