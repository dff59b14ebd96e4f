-- A branch, as contracts see it, and what holds of it.
use Rattle.std.specs.Prelude.{◌≡◌, ℕ, ◌-◌, ◌<◌, ◌≤◌, ◌↔◌, ◌++◌, true, false, if◌then◌else◌, List, [], length, map, flat_map, replicate, Contains, None}
use Rattle.std.specs.List.{AllByRecursion}
use Rattle.std.specs.Map.{keys_of}
use Rattle.spl_message.specs.Entries.{Entries}
use Rattle.spl_message.specs.Table.{Table, IsTable, as_table, cuts_of, key_count}
use Rattle.spl_page.specs.Tables.{leaf_table}
use Rattle.spl_port.specs.Counts.{Shown}
use Rattle.spl_port.specs.Page.{leaf_fault}
use Rattle.spl_port.specs.Seal.{Sealed}
use Rattle.spl_quotient.specs.Exponent.{IsExponent}
use Rattle.spl_quotient.specs.Filter.{Filter}
use Rattle.spl_quotient.specs.Fnv.{fingerprint_of}
use Rattle.spl_branch.specs.declared.branch.Parts.{Parts}
use Rattle.spl_branch.specs.Pages.{AreParts, AreTold, kinds_of, page_total, shown_pages}
use Rattle.spl_branch.specs.Tree.{IsTree, table_under}

-- its number, its extents, what was sealed of it, how many of its pages are leaf pages, how many levels of pages and how many keys
-- it has, where it may be cut, and its filter
pub record Branch : Type 0 where
  pub number : ℕ
  pub extents : List ℕ
  pub parts : List Sealed
  pub leaves : ℕ
  pub levels : ℕ
  pub entries : ℕ
  pub cuts : List (List ℕ)
  pub filter : Filter

-- what its parts show of it
abbrev pub shown : {S : Type 0} → (S → Sealed) → Parts S → Branch
shown means parts = record {
  number = parts.number;
  extents = parts.extents.items;
  parts = map means parts.seals.items;
  leaves = parts.leaves;
  levels = parts.levels;
  entries = parts.entries;
  cuts = parts.cuts.items;
  filter = parts.filter;
}

-- the entries of the leaf pages, page by page
abbrev pub leaf_entries : List Shown → Entries
leaf_entries pages = flat_map (λ shown. if shown.at.leaf then leaf_table shown.bytes else []) pages

-- the entries of a branch whose pages are told
abbrev pub entries_in : Branch → Entries
entries_in branch = leaf_entries (shown_pages branch.parts)

-- its table
abbrev pub table_of : Branch → Table
table_of branch = as_table (entries_in branch)

-- where it is a leaf page, it is sound
abbrev pub IsSoundLeaf : Shown → Type 0
IsSoundLeaf shown = shown.at.leaf ≡ true → leaf_fault shown.at shown.bytes ≡ None

-- the pages hold the table as a tree, whose root is the last page, and all else that is kept is that table's
pub record HoldsTable (branch : Branch) : Type 0 where
  pub order : IsTable (table_of branch)
  pub leaves : AllByRecursion IsSoundLeaf (shown_pages branch.parts)
  pub entries : branch.entries ≡ key_count (table_of branch)
  pub cuts : branch.cuts ≡ cuts_of (table_of branch)
  pub tree : IsTree (branch.levels - 1) (shown_pages branch.parts) (page_total branch.parts - 1)
  pub whole : table_under (branch.levels - 1) (shown_pages branch.parts) (page_total branch.parts - 1) ≡ entries_in branch
  pub exponent : IsExponent branch.entries branch.filter.q
  pub prints : (print : ℕ) → Contains branch.filter.prints print ↔ Contains (map (fingerprint_of branch.filter.q) (keys_of (entries_in branch))) print

-- what holds of every branch; of what its pages hold only where they are told
pub record IsBranch (branch : Branch) : Type 0 where
  pub parts : AreParts branch.number branch.extents branch.parts
  pub extents : length branch.extents ≤ 65536
  pub some : 0 < branch.leaves
  pub kinds : kinds_of branch.parts ≡ replicate branch.leaves true ++ replicate (page_total branch.parts - branch.leaves) false
  pub levels : 0 < branch.levels
  pub entries : 0 < branch.entries
  pub told : AreTold branch.parts → HoldsTable branch
