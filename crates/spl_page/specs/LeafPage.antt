-- Leaf pages as lists of keys and messages.
use Rattle.std.specs.Prelude.{◌≡◌, ℕ, ◌+◌, ◌-◌, ◌^◌, min, nat_le, Bool, not, ◌==◌, ◌&&◌, ◌||◌, IsTrue, List, [], ◌∷◌, length, map, sum_by}
use Rattle.byteorder.specs.Endian.{big_bytes}
use Rattle.spl_message.specs.declared.message.Message.{Message}
use Rattle.spl_message.specs.declared.message.Message.TheVariants.{Insert, Delete, Update}
use Rattle.spl_port.specs.Page.{LeafRow, is_rising}
use Rattle.spl_page.specs.declared.leaf_entry.LeafEntry.{LeafEntry}

-- the number of a message's kind
abbrev pub kind_of : Message → ℕ
kind_of (Insert value) = 0
kind_of Delete = 1
kind_of (Update value) = 2

-- the value that stands in a message
abbrev pub value_of : Message → List ℕ
value_of (Insert value) = value
value_of Delete = []
value_of (Update value) = value

-- whether a kind and a value are those of a message
abbrev pub is_message : ℕ → ℕ → Bool
is_message kind len = nat_le kind 2 && nat_le len 512 && (not (kind == 1) || len == 0)

-- the entries as the page grammar has them
abbrev pub leaf_row_of : LeafEntry → LeafRow
leaf_row_of entry = record { key = entry.key; kind = kind_of entry.message; value = value_of entry.message }

abbrev pub leaf_rows_of : List LeafEntry → List LeafRow
leaf_rows_of entries = map leaf_row_of entries

-- their keys
abbrev pub leaf_keys : List LeafEntry → List (List ℕ)
leaf_keys entries = map (λ entry. entry.key) entries

-- how many bytes an entry with this key and this message takes
abbrev pub leaf_entry_length : List ℕ → Message → ℕ
leaf_entry_length key message = 4 + length key + length (value_of message)

-- how many bytes a page takes before its zeros
abbrev pub leaf_length : List LeafEntry → ℕ
leaf_length entries = 16 + sum_by (λ entry. leaf_entry_length entry.key entry.message) entries

-- the bytes of an entry before its key
abbrev pub leaf_head : ℕ → ℕ → ℕ → List ℕ
leaf_head key kind value = key ∷ kind ∷ big_bytes 2 value

-- the keys rise, and the count of bytes is right, up to its type's end
pub record IsSound (entries : List LeafEntry) (bytes : ℕ) : Type 0 where
  pub rising : IsTrue (is_rising (leaf_keys entries))
  pub length : bytes ≡ min (leaf_length entries) (2 ^ 64 - 1)
