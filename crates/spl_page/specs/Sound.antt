-- Pages that were checked, over what an entry of a page is: how an entry at the front of some bytes is read, how many bytes it has,
-- and its key.
use Rattle.std.specs.Prelude.{◌≡◌, ℕ, ◌<◌, ◌≤◌, Bool, List, [], ◌∷◌, All, take, drop, map, Option, Some, None, if◌then◌else◌, suc}
use Rattle.spl_message.specs.Key.{is_below}
use Rattle.spl_port.specs.declared.at.At.{At}
use Rattle.std.specs.List.{slice_get}
use Rattle.std.specs.Option.{option_map}
use Rattle.spl_port.specs.Page.{IndexRow, Rows, is_rising, kind_fault, row_count, rows_of}
use Rattle.spl_page.specs.Tables.{found_rows}

-- the entries of a page, if they are there
abbrev pub page_rows : {R : Type 0} → (List ℕ → Option R) → (List ℕ → ℕ) → List ℕ → Option (Rows R)
page_rows row row_length bytes = rows_of row row_length (row_count bytes) (drop 16 bytes)

-- the entries that were found there
abbrev pub entries_of : {R : Type 0} → (List ℕ → Option R) → (List ℕ → ℕ) → List ℕ → List R
entries_of row row_length bytes = found_rows (page_rows row row_length bytes)

-- what is read at these places of the bytes
abbrev pub read_at : {R : Type 0} → (List ℕ → Option R) → List ℕ → List ℕ → List (Option R)
read_at row bytes starts = map (λ start. row (drop start bytes)) starts

-- at these places stand the entries of the page, in order
pub record AreStarts {R : Type 0} (row : List ℕ → Option R) (row_length : List ℕ → ℕ) (bytes starts : List ℕ) : Type 0 where
  pub entries : read_at row bytes starts ≡ map Some (entries_of row row_length bytes)
  pub within : All (λ start. start < 4096) starts

-- the entries of a page are there, with these bytes behind them
pub record IsScan {R : Type 0} (row : List ℕ → Option R) (row_length : List ℕ → ℕ) (key : R → List ℕ) (bytes starts : List ℕ) (rises : Bool)
    (rest : List ℕ) : Type 0 where
  pub rows : page_rows row row_length bytes ≡ Some (record { rows = entries_of row row_length bytes; rest = rest })
  pub rising : rises ≡ is_rising (map key (entries_of row row_length bytes))
  pub places : AreStarts row row_length bytes (take (row_count bytes) starts)
  pub few : row_count bytes ≤ 816

-- nothing stands against the page, and these are the places of its entries
pub record IsChecked {R : Type 0} (kind : ℕ) (row : List ℕ → Option R) (row_length : List ℕ → ℕ) (key : R → List ℕ) (at : At)
    (bytes starts : List ℕ) : Type 0 where
  pub sound : kind_fault kind key (page_rows row row_length bytes) at bytes ≡ None
  pub places : AreStarts row row_length bytes starts

-- how many keys at the front are below this one
abbrev pub count_below : List (List ℕ) → List ℕ → ℕ
count_below [] key = 0
count_below (first ∷ keys) key = if is_below first key then suc (count_below keys key) else 0

-- the child that stands at this place
abbrev pub child_at : List IndexRow → ℕ → Option ℕ
child_at rows place = option_map (λ row. row.child) (slice_get rows place)
