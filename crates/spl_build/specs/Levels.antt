-- The pages that have no parent yet.
use Rattle.std.specs.Prelude.{ℕ, suc, ◌+◌, ◌<◌, List, [], ◌∷◌, ◌++◌, drop, length, IfSome}
use Rattle.std.specs.List.{slice_get}
use Rattle.spl_port.specs.Page.{IndexRow}
use Rattle.spl_page.specs.IndexPage.{index_entry_length}
use Rattle.spl_page.specs.Tables.{children_length}

-- the pages of the present level that have no parent, the parents of the others, and how high the level stands over the leaf pages
pub record LevelState : Type 0 where
  pub waiting : List IndexRow
  pub above : List IndexRow
  pub height : ℕ

-- a level of which each page has a parent gives way to the level of the parents
abbrev pub risen : List IndexRow → List IndexRow → ℕ → LevelState
risen [] above height = record { waiting = above; above = []; height = suc height }
risen (row ∷ rows) above height = record { waiting = row ∷ rows; above = above; height = height }

-- the parent of pages, which stands under the first one's key
abbrev pub parent_of : List IndexRow → ℕ → List IndexRow
parent_of [] page = []
parent_of (row ∷ rows) page = record { child = page; key = row.key } ∷ []

-- the first waiting pages, so many, have this page as their parent
abbrev pub adopted : LevelState → ℕ → ℕ → LevelState
adopted levels count page = risen (drop count levels.waiting) (levels.above ++ parent_of levels.waiting page) levels.height

-- a page takes the first of these children, as many as fit: the next one does not
abbrev pub IsPacked : List IndexRow → List IndexRow → Type 0
IsPacked page rows = IfSome (slice_get rows (length page)) (λ row. 4096 < children_length page + index_entry_length row.key)
