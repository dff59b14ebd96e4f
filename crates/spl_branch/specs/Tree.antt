-- The tree that the pages of a branch make: leaf pages at the bottom, and over them index pages, each of which names the pages
-- of its children with the first key under each.
use Rattle.std.specs.Prelude.{◌≡◌, ℕ, zero, suc, true, false, List, [], ◌∷◌, flat_map, Option, Some, None}
use Rattle.std.specs.List.{slice_get, AllByRecursion}
use Rattle.std.specs.Option.{IsSomeAnd}
use Rattle.spl_message.specs.Entries.{Entries}
use Rattle.spl_port.specs.Counts.{Shown}
use Rattle.spl_port.specs.Page.{IndexRow, leaf_fault, index_fault}
use Rattle.spl_page.specs.Tables.{leaf_table, children}

abbrev pub shown_table : Option Shown → Entries
shown_table None = []
shown_table (Some shown) = leaf_table shown.bytes

-- the table of the leaf page with this number
abbrev pub table_at : List Shown → ℕ → Entries
table_at pages page = shown_table (slice_get pages page)

abbrev pub shown_children : Option Shown → List IndexRow
shown_children None = []
shown_children (Some shown) = children shown.at.page shown.bytes

-- the children of the index page with this number
abbrev pub children_at : List Shown → ℕ → List IndexRow
children_at pages page = shown_children (slice_get pages page)

-- the table under a page that stands this high over the leaf pages: a leaf page's own, and else those of its children in order
unfoldable pub table_under : ℕ → List Shown → ℕ → Entries
table_under zero pages page = table_at pages page
table_under (suc height) pages page = flat_map (λ row. table_under height pages row.child) (children_at pages page)

-- the first key of a table
abbrev pub first_key : Entries → Option (List ℕ)
first_key [] = None
first_key (entry ∷ table) = Some entry.0

-- the page is there, and a leaf page for its place
abbrev pub IsLeafAt : List Shown → ℕ → Type 0
IsLeafAt pages page = IsSomeAnd (slice_get pages page) (λ shown. (shown.at.leaf ≡ true) × (leaf_fault shown.at shown.bytes ≡ None))

-- the page is there, and an index page for its place
abbrev pub IsIndexAt : List Shown → ℕ → Type 0
IsIndexAt pages page = IsSomeAnd (slice_get pages page) (λ shown. (shown.at.leaf ≡ false) × (index_fault shown.at shown.bytes ≡ None))

-- the pages under a page that stands this high over the leaf pages are sound, and under each child stands its first key
unfoldable pub IsTree : ℕ → List Shown → ℕ → Type 0
IsTree zero pages page = IsLeafAt pages page
IsTree (suc height) pages page =
    IsIndexAt pages page
    × AllByRecursion (λ row. IsTree height pages row.child × (first_key (table_under height pages row.child) ≡ Some row.key)) (children_at pages page)

-- the children stand this high over the leaf pages, each with its first key
abbrev pub AreChildren : ℕ → List Shown → List IndexRow → Type 0
AreChildren height pages rows =
    AllByRecursion (λ row. IsTree height pages row.child × (first_key (table_under height pages row.child) ≡ Some row.key)) rows

-- the tables under the children, in order
abbrev pub tables_under : ℕ → List Shown → List IndexRow → Entries
tables_under height pages rows = flat_map (λ row. table_under height pages row.child) rows
