-- The leaf pages of a branch: its first pages, in the order of their keys.
use Rattle.std.specs.Prelude.{ℕ, suc, Bool, if◌then◌else◌, List, [], ◌∷◌, map, take}
use Rattle.std.specs.List.{list_all}
use Rattle.spl_message.specs.Entries.{Entries}
use Rattle.spl_message.specs.Key.{is_below}
use Rattle.spl_page.specs.Tables.{leaf_table}
use Rattle.spl_branch.specs.Branch.{Branch}
use Rattle.spl_branch.specs.Pages.{shown_pages}

-- what each of them holds, where pages are told
abbrev pub leaf_tables : Branch → List Entries
leaf_tables branch = map (λ shown. leaf_table shown.bytes) (take branch.leaves (shown_pages branch.parts))

-- whether the keys of all entries are below the key
abbrev pub are_below : Entries → List ℕ → Bool
are_below entries key = list_all (λ entry. is_below entry.0 key) entries

-- how many tables at the front have only entries below the key: the place of the first one that has another entry
abbrev pub tables_below : List Entries → List ℕ → ℕ
tables_below [] key = 0
tables_below (table ∷ tables) key = if are_below table key then suc (tables_below tables key) else 0
