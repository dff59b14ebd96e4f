-- The pages of a branch, by their fields. A page has 4,096 bytes, and its numbers have their highest byte first.
--
-- | bytes   | content                                            |
-- | 0       | 0x4C for a leaf page, 0x49 for an index page       |
-- | 1       | 1, the format                                      |
-- | 2 to 3  | how many entries there are, at least one           |
-- | 4 to 7  | the page's number in the branch                    |
-- | 8 to 15 | the branch's number                                |
-- | 16 on   | the entries, one after the other, in rising order  |
-- | rest    | zeros                                              |
use Rattle.std.specs.Prelude.{◌≡◌, ℕ, zero, suc, ◌+◌, ◌*◌, ◌^◌, ◌==◌, nat_lt, nat_le, Bool, true, not, ◌&&◌, ◌||◌, if◌then◌else◌, List, [], ◌∷◌, length, take, drop, map, slice_index, Option, Some, None}
use Rattle.std.specs.List.{list_all}
use Rattle.std.specs.Option.{option_map, option_and_then}
use Rattle.std.specs.Ordering.{nat_cmp, is_lt}
use Rattle.std.specs.Cmp.Lexicographic.{slice_cmp}
use Rattle.spl_port.specs.declared.at.At.{At}
use Rattle.spl_port.specs.declared.damaged.Why.{Why}
use Rattle.spl_port.specs.declared.damaged.Why.TheVariants.{Kind, Number, Count, Entry, Order, Rest}

-- the number in the n bytes from place i on, the highest byte first
abbrev pub number_at : ℕ → ℕ → List ℕ → ℕ
number_at i zero bytes = 0
number_at i (suc n) bytes = slice_index bytes i * 256 ^ n + number_at (suc i) n bytes

-- an entry of a leaf page: a key, and its message, whose kind is 0 for an insert, 1 for a delete and 2 for an update
pub record LeafRow : Type 0 where
  pub key : List ℕ
  pub kind : ℕ
  pub value : List ℕ

-- an entry of an index page: the number of a child's page, and the first key under it
pub record IndexRow : Type 0 where
  pub child : ℕ
  pub key : List ℕ

-- entries that stand one after the other, and the bytes behind them
pub record Rows (R : Type 0) : Type 0 where
  pub rows : List R
  pub rest : List ℕ

-- An entry of a leaf page has the key's length (one byte), the kind (one byte), the value's length (two
-- bytes), the key and the value. Its fields are in range, and all of it is there.
abbrev pub is_leaf_row : List ℕ → Bool
is_leaf_row bytes =
    let key = slice_index bytes 0 in
    let kind = slice_index bytes 1 in
    let value = number_at 2 2 bytes in
    nat_le 1 key && nat_le key 64 && nat_le kind 2 && nat_le value 512 && (not (kind == 1) || value == 0)
    && nat_le (4 + key + value) (length bytes)

-- the entry of a leaf page at the front of these bytes, if there is one
abbrev pub leaf_row : List ℕ → Option LeafRow
leaf_row bytes =
    let key = slice_index bytes 0 in
    if is_leaf_row bytes
    then Some (record {
      key = take key (drop 4 bytes);
      kind = slice_index bytes 1;
      value = take (number_at 2 2 bytes) (drop (4 + key) bytes);
    })
    else None

-- how many bytes it has
abbrev pub leaf_row_length : List ℕ → ℕ
leaf_row_length bytes = 4 + slice_index bytes 0 + number_at 2 2 bytes

-- An entry of an index page has the child's page number (four bytes), which is below the page's own, the
-- key's length (one byte) and the key. Its fields are in range, and all of it is there.
abbrev pub is_index_row : ℕ → List ℕ → Bool
is_index_row page bytes =
    let key = slice_index bytes 4 in
    nat_lt (number_at 0 4 bytes) page && nat_le 1 key && nat_le key 64 && nat_le (5 + key) (length bytes)

-- the entry of an index page at the front of these bytes, if there is one
abbrev pub index_row : ℕ → List ℕ → Option IndexRow
index_row page bytes =
    if is_index_row page bytes
    then Some (record { child = number_at 0 4 bytes; key = take (slice_index bytes 4) (drop 5 bytes) })
    else None

-- how many bytes it has
abbrev pub index_row_length : List ℕ → ℕ
index_row_length bytes = 5 + slice_index bytes 4

-- so many entries at the front of these bytes, if they are there
abbrev pub rows_of : {R : Type 0} → (List ℕ → Option R) → (List ℕ → ℕ) → ℕ → List ℕ → Option (Rows R)
rows_of row row_length zero bytes = Some (record { rows = []; rest = bytes })
rows_of row row_length (suc n) bytes =
    option_and_then
    (λ first. option_map (λ more. record { rows = first ∷ more.rows; rest = more.rest }) (rows_of row row_length n (drop (row_length bytes) bytes)))
    (row bytes)

-- how many entries a page has by its bytes 2 and 3
abbrev pub row_count : List ℕ → ℕ
row_count bytes = number_at 2 2 bytes

-- the entries of a leaf page, if they are there
abbrev pub leaf_rows : List ℕ → Option (Rows LeafRow)
leaf_rows bytes = rows_of leaf_row leaf_row_length (row_count bytes) (drop 16 bytes)

-- the entries of an index page with this number, if they are there
abbrev pub index_rows : ℕ → List ℕ → Option (Rows IndexRow)
index_rows page bytes = rows_of (index_row page) index_row_length (row_count bytes) (drop 16 bytes)

-- whether the keys rise above this one, each above the one before it
abbrev pub is_rising_above : List ℕ → List (List ℕ) → Bool
is_rising_above last [] = true
is_rising_above last (key ∷ keys) = is_lt (slice_cmp nat_cmp last key) && is_rising_above key keys

-- whether each key is above the one before it
abbrev pub is_rising : List (List ℕ) → Bool
is_rising [] = true
is_rising (key ∷ keys) = is_rising_above key keys

-- the first reason against the entries and what is behind them
abbrev pub rows_fault : {R : Type 0} → (R → List ℕ) → Option (Rows R) → Option Why
rows_fault key None = Some Entry
rows_fault key (Some found) =
    if not (is_rising (map key found.rows)) then Some Order
    else (if not (list_all (λ byte. byte == 0) found.rest) then Some Rest else None)

-- the first reason why the bytes are no page of this kind for the place
abbrev pub kind_fault : {R : Type 0} → ℕ → (R → List ℕ) → Option (Rows R) → At → List ℕ → Option Why
kind_fault kind key found at bytes =
    if not (slice_index bytes 0 == kind && slice_index bytes 1 == 1) then Some Kind
    else (if not (number_at 4 4 bytes == at.page && number_at 8 8 bytes == at.branch) then Some Number
    else (if row_count bytes == 0 then Some Count else rows_fault key found))

-- the first reason why the bytes are no leaf page for the place
unfoldable pub leaf_fault : At → List ℕ → Option Why
leaf_fault at bytes = kind_fault 76 (λ row. row.key) (leaf_rows bytes) at bytes

-- the first reason why the bytes are no index page for the place
unfoldable pub index_fault : At → List ℕ → Option Why
index_fault at bytes = kind_fault 73 (λ row. row.key) (index_rows at.page bytes) at bytes

-- the first reason why the bytes are no page for the place, whose kind is the one that is wanted there
unfoldable pub page_fault : At → List ℕ → Option Why
page_fault at bytes = if at.leaf then leaf_fault at bytes else index_fault at bytes

-- the bytes are a leaf page for the place, with these entries
pub record IsLeafPage (at : At) (bytes : List ℕ) (rows : List LeafRow) : Type 0 where
  pub sound : leaf_fault at bytes ≡ None
  pub entries : option_map (λ found. found.rows) (leaf_rows bytes) ≡ Some rows

-- the bytes are an index page for the place, with these entries
pub record IsIndexPage (at : At) (bytes : List ℕ) (rows : List IndexRow) : Type 0 where
  pub sound : index_fault at bytes ≡ None
  pub entries : option_map (λ found. found.rows) (index_rows at.page bytes) ≡ Some rows
