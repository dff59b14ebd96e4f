-- What a draft and a seal mean: pages that were written one after the other, from a place of a branch on.
use Rattle.std.specs.Prelude.{◌≡◌, ℕ, ◌+◌, ◌==◌, Bool, false, if◌then◌else◌, List, [], ◌∷◌, ◌++◌, length, slice_index, Option, Some, None, IfSome}
use Rattle.std.specs.List.{slice_get, slice_index_or}
use Rattle.std.specs.Option.{option_map}
use Rattle.spl_port.specs.declared.at.At.{At}

-- the extent, the branch, the number in the branch of the first page, for each page whether it begins as
-- a leaf page, and the pages, where they are told
pub record Sealed : Type 0 where
  pub extent : ℕ
  pub branch : ℕ
  pub first : ℕ
  pub leaves : List Bool
  pub told : Option (List (List ℕ))

-- how many pages there are
abbrev pub page_count : Sealed → ℕ
page_count sealed = length sealed.leaves

-- whether the page's first byte is that of a leaf page
abbrev pub begins_leaf : List ℕ → Bool
begins_leaf bytes = slice_index bytes 0 == 76

-- a draft with no page yet
abbrev pub empty_draft : Bool → ℕ → ℕ → ℕ → Sealed
empty_draft tells extent branch first =
    record { extent = extent; branch = branch; first = first; leaves = []; told = if tells then Some [] else None }

-- the draft with one more page
abbrev pub with_page : Sealed → List ℕ → Sealed
with_page sealed bytes = record sealed {
  leaves = sealed.leaves ++ begins_leaf bytes ∷ [];
  told = option_map (λ pages. pages ++ bytes ∷ []) sealed.told;
}

-- the place of a page
abbrev pub place : Sealed → ℕ → At
place sealed page = record {
  extent = sealed.extent;
  branch = sealed.branch;
  page = sealed.first + page;
  leaf = slice_index_or sealed.leaves page false;
}

-- the pages are not told, or these bytes are the told page
abbrev pub Allows : Sealed → ℕ → List ℕ → Type 0
Allows sealed page bytes = IfSome sealed.told (λ pages. slice_get pages page ≡ Some bytes)
