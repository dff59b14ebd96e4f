-- Index pages as lists of children.
use Rattle.std.specs.Prelude.{◌≡◌, ℕ, ◌+◌, ◌-◌, ◌^◌, min, IsTrue, List, [], ◌∷◌, ◌++◌, length, map, sum_by}
use Rattle.byteorder.specs.Endian.{big_bytes}
use Rattle.spl_port.specs.Page.{IndexRow, is_rising}
use Rattle.spl_page.specs.declared.index_entry.IndexEntry.{IndexEntry}

-- the entries as the page grammar has them
abbrev pub index_row_of : IndexEntry → IndexRow
index_row_of entry = record { child = entry.child; key = entry.first }

abbrev pub index_rows_of : List IndexEntry → List IndexRow
index_rows_of entries = map index_row_of entries

-- their keys
abbrev pub first_keys : List IndexEntry → List (List ℕ)
first_keys entries = map (λ entry. entry.first) entries

-- how many bytes an entry with this first key takes
abbrev pub index_entry_length : List ℕ → ℕ
index_entry_length key = 5 + length key

-- how many bytes a page takes before its zeros
abbrev pub index_length : List IndexEntry → ℕ
index_length entries = 16 + sum_by (λ entry. index_entry_length entry.first) entries

-- the bytes of an entry before its key
abbrev pub index_head : ℕ → ℕ → List ℕ
index_head child key = big_bytes 4 child ++ key ∷ []

-- the keys rise, and the count of bytes is right, up to its type's end
pub record IsSound (entries : List IndexEntry) (bytes : ℕ) : Type 0 where
  pub rising : IsTrue (is_rising (first_keys entries))
  pub length : bytes ≡ min (index_length entries) (2 ^ 64 - 1)
