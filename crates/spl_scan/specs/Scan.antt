-- A scan, as contracts see it.
use Rattle.std.specs.Prelude.{◌≡◌, ℕ, ◌≤◌, ◌+◌, ◌-◌, Bool, true, false, if◌then◌else◌, List, [], ◌∷◌, ◌++◌, drop, flat_map, Option, Some, None}
use Rattle.std.specs.Arc.{arc_value}
use Rattle.std.specs.declared.sync.Arc.{Arc}
use Rattle.spl_message.specs.declared.message.Message.{Message}
use Rattle.spl_message.specs.declared.span.Span.{Span}
use Rattle.spl_message.specs.Entries.{Entries, AreEntries}
use Rattle.spl_page.specs.declared.any_page.AnyPage.{AnyPage}
use Rattle.spl_page.specs.AnyPage.{is_leaf, shown_of}
use Rattle.spl_page.specs.Tables.{leaf_table}
use Rattle.spl_branch.specs.Branch.{Branch, entries_in}
use Rattle.spl_branch.specs.Leaves.{leaf_tables}
use Rattle.spl_branch.specs.Pages.{page_total}
use Rattle.spl_scan.specs.declared.met.Met.{Met}
use Rattle.spl_scan.specs.declared.met.Met.TheVariants.{Entry, Past, Over}
use Rattle.spl_scan.specs.Search.{is_next, over, search, to_come}

-- its branch and its span, the key that it gave last, whether it knows where the span begins, how many leaf pages it has
-- read or skipped, and the entries of the page at hand that it has not looked at
pub record Scan : Type 0 where
  pub branch : Branch
  pub span : Span
  pub last : Option (List ℕ)
  pub begun : Bool
  pub pages : ℕ
  pub here : Entries

-- the latest key after this was given
abbrev pub last_of : Option (List ℕ) → Option (List ℕ × Message) → Option (List ℕ)
last_of last None = last
last_of last (Some entry) = Some entry.0

-- the entries of the branch's table that are still to come, where pages are told
abbrev pub left_of : Scan → Entries
left_of scan = to_come scan.span scan.last (entries_in scan.branch)

-- the entries of a page from a place on
abbrev pub rest_of : {Z : Type 0} → Option (Arc AnyPage Z) → ℕ → Entries
rest_of None place = []
rest_of (Some page) place = drop place (leaf_table (shown_of (arc_value page)).bytes)

-- a page at hand is a leaf page
abbrev pub IsOnLeaf : {Z : Type 0} → Option (Arc AnyPage Z) → Type 0
IsOnLeaf None = Unit {0}
IsOnLeaf (Some page) = is_leaf (arc_value page) ≡ true

-- the entries of the leaf pages with this number and above
abbrev pub pages_from : Branch → ℕ → Entries
pages_from branch number = flat_map (λ entries. entries) (drop number (leaf_tables branch))

-- whatever is still to come is ahead
pub record IsAhead (span : Span) (last : Option (List ℕ)) (entries ahead : Entries) : Type 0 where
  pub order : AreEntries ahead
  pub same : to_come span last entries ≡ to_come span last ahead

-- how many pages the scan may still read
abbrev pub unread : Scan → ℕ
unread scan = scan.branch.leaves - scan.pages + (if scan.begun then 0 else page_total scan.branch.parts)

-- where pages are told, what is still to come is ahead of the place where the scan stands
pub record Stands (tells : Bool) (scan : Scan) : Type 0 where
  pub within : scan.pages ≤ scan.branch.leaves
  pub fresh : scan.begun ≡ false → (scan.here ≡ []) × (scan.pages ≡ 0)
  pub told : tells ≡ true → scan.begun ≡ true →
      IsAhead scan.span scan.last (entries_in scan.branch) (scan.here ++ pages_from scan.branch scan.pages)

-- the same entries are still to come
pub record SamePlace (old new : Scan) : Type 0 where
  pub branch : new.branch ≡ old.branch
  pub span : new.span ≡ old.span
  pub last : new.last ≡ old.last

-- what the next call gives: the first of the entries that are still to come, or that there is none
abbrev pub Gives : Scan → Option (List ℕ × Message) → Scan → Type 0
Gives old None new = left_of old ≡ []
Gives old (Some entry) new = left_of old ≡ entry ∷ left_of new

-- the scan goes on behind what it gave
pub record GoesOn (old : Scan) (given : Option (List ℕ × Message)) (new : Scan) : Type 0 where
  pub branch : new.branch ≡ old.branch
  pub span : new.span ≡ old.span
  pub last : new.last ≡ last_of old.last given

-- what a look at the page at hand comes to
abbrev pub Looks : Bool → Scan → Met → Scan → Type 0
Looks tells old (Entry key message next) new =
    (is_next old.span old.last key ≡ true)
    × (new ≡ record old { last = Some key; here = new.here })
    × (tells ≡ true → left_of old ≡ (key, message) ∷ left_of new)
Looks tells old Past new = (new ≡ old) × (tells ≡ true → left_of old ≡ [])
Looks tells old Over new = (new ≡ old) × (search old.span old.last old.here ≡ over)
