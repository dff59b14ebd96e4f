-- Pages that are written entry by entry, over what an entry of a page is: how the one at the front of some bytes
-- of a page with a number is read, how many of the bytes it has, its key, how many bytes it takes when it is written,
-- and in a page with which number it can stand.
use Rattle.std.specs.Prelude.{◌≡◌, ℕ, ◌+◌, ◌*◌, ◌^◌, ◌≤◌, List, [], ◌∷◌, ◌++◌, length, map, sum_by, All, Option, Some}
use Rattle.spl_message.specs.Entries.{Entries}
use Rattle.spl_message.specs.Key.{AreRising}
use Rattle.spl_port.specs.Page.{IndexRow, LeafRow, index_row, index_row_length, leaf_row, leaf_row_length, rows_of}
use Rattle.spl_page.specs.Tables.{found_rows, table_entry}

-- how many entries are written, and their bytes
pub record Written : Type 0 where
  pub count : ℕ
  pub text : List ℕ

abbrev pub nothing : Written
nothing = record { count = 0; text = [] }

-- with one more entry, which has these bytes
abbrev pub with_text : Written → List ℕ → Written
with_text written text = record { count = written.count + 1; text = written.text ++ text }

-- the entries that are written, with any numbers that an entry can have
abbrev pub rows_written : {R : Type 0} → (ℕ → List ℕ → Option R) → (List ℕ → ℕ) → Written → List R
rows_written row row_length written = found_rows (rows_of (row (2 ^ 32)) row_length written.count written.text)

-- those of a leaf page, and their table
abbrev pub leaf_rows_written : Written → List LeafRow
leaf_rows_written written = rows_written (λ page. leaf_row) leaf_row_length written

unfoldable pub written_table : Written → Entries
written_table written = map table_entry (leaf_rows_written written)

-- the children of an index page
unfoldable pub written_children : Written → List IndexRow
written_children written = rows_written index_row index_row_length written

-- these are the bytes of the entry: it is read whatever stands behind them, in each page in which it can stand
pub record IsText {R : Type 0} (row : ℕ → List ℕ → Option R) (row_length : List ℕ → ℕ) (size : R → ℕ) (IsAt : ℕ → R → Type 0) (entry : R)
    (text : List ℕ) : Type 0 where
  pub read : (page : ℕ) (rest : List ℕ) → page ≤ 2 ^ 32 → IsAt page entry → row page (text ++ rest) ≡ Some entry
  pub long : (rest : List ℕ) → row_length (text ++ rest) ≡ length text
  pub sized : length text ≡ size entry

-- these are the entries that are written, and whatever stands behind their bytes, they are read in each page in which they can stand
pub record IsWritten {R : Type 0} (row : ℕ → List ℕ → Option R) (row_length : List ℕ → ℕ) (key : R → List ℕ) (size : R → ℕ)
    (IsAt : ℕ → R → Type 0) (rows : List R) (written : Written) : Type 0 where
  pub read : (page : ℕ) (rest : List ℕ) → page ≤ 2 ^ 32 → All (IsAt page) rows
      → rows_of (row page) row_length written.count (written.text ++ rest) ≡ Some (record { rows = rows; rest = rest })
  pub anywhere : All (IsAt (2 ^ 32)) rows
  pub counted : written.count ≡ length rows
  pub order : AreRising (map key rows)
  pub sized : length written.text ≡ sum_by size rows
  pub least : 5 * written.count ≤ length written.text
  pub fits : 16 + length written.text ≤ 4096

-- the entries that stand there are all that is written
abbrev pub IsConsistent : {R : Type 0} → (ℕ → List ℕ → Option R) → (List ℕ → ℕ) → (R → List ℕ) → (R → ℕ) → (ℕ → R → Type 0) → Written → Type 0
IsConsistent row row_length key size IsAt written = IsWritten row row_length key size IsAt (rows_written row row_length written) written

-- these are the bytes of an entry that can be the next one
pub record IsNext {R : Type 0} (row : ℕ → List ℕ → Option R) (row_length : List ℕ → ℕ) (key : R → List ℕ) (size : R → ℕ)
    (IsAt : ℕ → R → Type 0) (written : Written) (text : List ℕ) : Type 0 where
  pub entry : R
  pub is : IsText row row_length size IsAt entry text
  pub anywhere : IsAt (2 ^ 32) entry
  pub order : AreRising (map key (rows_written row row_length written ++ entry ∷ []))
  pub least : 5 ≤ size entry
  pub fits : 16 + sum_by size (rows_written row row_length written) + size entry ≤ 4096
