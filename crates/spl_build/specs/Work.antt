-- A branch while it is built.
use Rattle.std.specs.Prelude.{◌≡◌, ℕ, suc, ◌+◌, ◌-◌, ◌*◌, ◌<◌, ◌≤◌, ◌⊎◌, true, false, List, [], ◌∷◌, ◌++◌, length, map, replicate, Option, None, IfSome}
use Rattle.std.specs.List.{AllByRecursion, last_or}
use Rattle.std.specs.Map.{keys_of}
use Rattle.spl_message.specs.declared.message.Message.{Message}
use Rattle.spl_message.specs.Key.{AreRising, is_below}
use Rattle.spl_message.specs.Entries.{Entries, AreEntries}
use Rattle.spl_message.specs.Table.{as_table, cuts_of}
use Rattle.spl_message.specs.Fnv.{fnv_of}
use Rattle.spl_port.specs.Counts.{Shown}
use Rattle.spl_port.specs.Page.{IndexRow}
use Rattle.spl_port.specs.Seal.{Sealed}
use Rattle.spl_page.specs.Tables.{child_keys, table_length}
use Rattle.spl_page.specs.LeafPage.{leaf_entry_length}
use Rattle.spl_branch.specs.Branch.{IsSoundLeaf, leaf_entries}
use Rattle.spl_branch.specs.Pages.{AreTold, kinds_of, page_total, shown_pages}
use Rattle.spl_branch.specs.Tree.{AreChildren, first_key, tables_under}
use Rattle.spl_build.specs.Levels.{LevelState}
use Rattle.spl_build.specs.Pyramid.{IsPyramid}
use Rattle.spl_build.specs.Written.{IsFull, Written}

-- the pages that are written, the leaf page that is begun and its first key, what is kept of the keys, how many leaf pages are
-- written, and the pages that have no parent yet
pub record WorkState : Type 0 where
  pub written : Written
  pub begun : Entries
  pub first : Option (List ℕ)
  pub hashes : List ℕ
  pub cuts : List (List ℕ)
  pub last : Option (List ℕ)
  pub leaves : ℕ
  pub levels : LevelState

-- what was added, where pages are told
abbrev pub table_in : List Sealed → Entries → Entries
table_in parts begun = leaf_entries (shown_pages parts) ++ begun

-- the pages that have no parent yet, in the order of the keys under them
abbrev pub rootless : LevelState → List IndexRow
rootless levels = levels.above ++ levels.waiting

-- a key may come behind these keys
abbrev pub HasRoom : List (List ℕ) → Option (List ℕ) → Type 0
HasRoom keys last = (key : List ℕ) → IfSome last (λ last. is_below last key ≡ true) → AreRising (keys ++ key ∷ [])

-- the leaf pages are sound, and the pages that have no parent yet are the roots of trees, which hold the leaf pages in order
pub record IsGrove (pages : List Shown) (levels : LevelState) : Type 0 where
  pub leaves : AllByRecursion IsSoundLeaf pages
  pub low : AreChildren levels.height pages levels.waiting
  pub high : AreChildren (suc levels.height) pages levels.above
  pub whole : tables_under (suc levels.height) pages levels.above ++ tables_under levels.height pages levels.waiting ≡ leaf_entries pages

-- of the present level's pages, those that wait have no parent, and the others stand under the pages above, which are packed
pub record IsLevel (levels : LevelState) (pages count lower : ℕ) : Type 0 where
  pub packed : 59 * length levels.above + length levels.waiting ≤ count
  pub few : count ≤ length levels.waiting + 680 * length levels.above
  pub total : pages ≡ lower + count + length levels.above

-- so many leaf pages are at the bottom, and so many pages are written
abbrev pub IsStacked : ℕ → LevelState → ℕ → Type 0
IsStacked leaves levels pages = (count : ℕ) × (lower : ℕ) × IsPyramid leaves levels.height count lower × IsLevel levels pages count lower

-- what the told pages hold
pub record IsTold (work : WorkState) : Type 0 where
  pub order : AreEntries (table_in work.written.parts work.begun)
  pub hashes : work.hashes ≡ map fnv_of (keys_of (table_in work.written.parts work.begun))
  pub cuts : work.cuts ≡ cuts_of (as_table (table_in work.written.parts work.begun))
  pub grove : IsGrove (shown_pages work.written.parts) work.levels

-- what holds of the work; of what its pages hold only where they are told
pub record IsWork (work : WorkState) : Type 0 where
  pub kinds : kinds_of work.written.parts ≡ replicate work.leaves true ++ replicate (page_total work.written.parts - work.leaves) false
  pub most : length work.hashes ≤ 816 * work.leaves + length work.begun
  pub first : work.first ≡ first_key work.begun
  pub height : work.levels.height + work.leaves ≤ page_total work.written.parts
  pub shape : IsStacked work.leaves work.levels (page_total work.written.parts)
  pub some : 0 < page_total work.written.parts → 0 < length work.levels.waiting
  pub rising : AreRising (child_keys (rootless work.levels) ++ keys_of work.begun)
  pub children : AllByRecursion (λ row. row.child < page_total work.written.parts) (rootless work.levels)
  -- the page that was written last has no parent yet, and comes last
  pub newest : IfSome (last_or None (work.levels.waiting ++ work.levels.above)) (λ row. row.child + 1 ≡ page_total work.written.parts)
  pub told : AreTold work.written.parts → IsTold work

-- only leaf pages are written, so keys may still come
pub record IsAdding (work : WorkState) : Type 0 where
  pub sound : IsWork work
  pub above : work.levels.above ≡ []
  pub height : work.levels.height ≡ 0
  pub leaves : page_total work.written.parts ≡ work.leaves
  pub room : HasRoom (child_keys work.levels.waiting ++ keys_of work.begun) work.last
  pub told : AreTold work.written.parts → HasRoom (keys_of (table_in work.written.parts work.begun)) work.last

-- no key comes any more, and there is one
pub record IsFinishing (work : WorkState) : Type 0 where
  pub sound : IsWork work
  pub some : 0 < length work.hashes
  pub leaf : (work.begun ≡ []) ⊎ IsAdding work

-- the key does not fit into the leaf page that is begun, and the next page has no extent left
abbrev pub NoRoom : WorkState → List ℕ → Message → Type 0
NoRoom work key message = (4096 < table_length work.begun + leaf_entry_length key message) × IsFull work.written.extents work.written.parts
