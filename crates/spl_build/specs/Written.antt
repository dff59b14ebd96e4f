-- The pages of a branch while they are written.
use Rattle.std.specs.Prelude.{◌≡◌, ℕ, ◌*◌, ◌/◌, ◌<◌, ◌≤◌, Bool, true, List, [], ◌∷◌, ◌++◌, length, Option, Some, None, unwrap_or, IfSome}
use Rattle.std.specs.List.{slice_get}
use Rattle.spl_branch.specs.Pages.{AreParts, AreTold, kinds_of, page_total, shown_pages}
use Rattle.spl_port.specs.declared.at.At.{At}
use Rattle.spl_port.specs.Seal.{Sealed, begins_leaf, page_count}

-- the branch's number, the extents that were handed in, and the parts that were begun
pub record Written : Type 0 where
  pub number : ℕ
  pub extents : List ℕ
  pub parts : List Sealed

-- the next page has no extent left
abbrev pub IsFull : List ℕ → List Sealed → Type 0
IsFull extents parts = page_total parts ≡ 32 * length extents

-- the place of the next page
abbrev pub next_place : Written → Bool → At
next_place written leaf = record {
  extent = unwrap_or (slice_get written.extents (page_total written.parts / 32)) 0;
  branch = written.number;
  page = page_total written.parts;
  leaf = leaf;
}

-- one more page stands behind the others
pub record Appends (tells : Bool) (old new : Written) (bytes : List ℕ) : Type 0 where
  pub number : new.number ≡ old.number
  pub extents : new.extents ≡ old.extents
  pub kinds : kinds_of new.parts ≡ kinds_of old.parts ++ begins_leaf bytes ∷ []
  pub told : tells ≡ true → AreTold new.parts
  pub back : AreTold new.parts → AreTold old.parts
  pub count : AreTold old.parts → length (shown_pages old.parts) ≡ page_total old.parts
  pub pages : AreTold new.parts → shown_pages new.parts ≡ shown_pages old.parts ++ record { at = next_place old (begins_leaf bytes); bytes = bytes } ∷ []

-- the part that is written, where there is one
abbrev pub begun_part : Option (Sealed × ℕ) → List Sealed
begun_part None = []
begun_part (Some begun) = begun.0 ∷ []

-- what is kept of the pages: the parts that are sealed are full, and the one that is written has so many pages
pub record IsPages (tells : Bool) (number : ℕ) (extents : List ℕ) (front : List Sealed) (begun : Option (Sealed × ℕ)) : Type 0 where
  pub parts : AreParts number extents (front ++ begun_part begun)
  pub full : page_total front ≡ 32 * length front
  pub count : IfSome begun (λ part. page_count part.0 ≡ part.1)
  pub most : length extents ≤ 65536
  pub told : tells ≡ true → AreTold (front ++ begun_part begun)

-- a part has room for the next page: it has so many, and all parts before it are full
pub record Opens (tells : Bool) (number : ℕ) (extents : List ℕ) (old front : List Sealed) (part : Sealed) (filled : ℕ) : Type 0 where
  pub parts : AreParts number extents (front ++ part ∷ [])
  pub full : page_total front ≡ 32 * length front
  pub room : page_count part < 32
  pub count : page_count part ≡ filled
  pub kinds : kinds_of (front ++ part ∷ []) ≡ kinds_of old
  pub told : tells ≡ true → AreTold (front ++ part ∷ [])
  pub back : AreTold (front ++ part ∷ []) → AreTold old
  pub shown : shown_pages (front ++ part ∷ []) ≡ shown_pages old
