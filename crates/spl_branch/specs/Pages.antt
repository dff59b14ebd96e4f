-- The pages of a branch: those of its sealed parts, one part after the other. A part is a draft or a seal of one extent.
use Rattle.std.specs.Prelude.{◌≡◌, ℕ, ◌+◌, ◌*◌, ◌<◌, ◌≤◌, Bool, IsTrue, List, length, map, flat_map, Some, IfSome, is_some, unwrap_or, []}
use Rattle.std.specs.List.{enumerate_from, slice_get}
use Rattle.spl_port.specs.Counts.{Shown}
use Rattle.spl_port.specs.Seal.{Sealed, page_count, place}

-- the pages of a part, where they are told
abbrev pub told_pages : Sealed → List (List ℕ)
told_pages part = unwrap_or part.told []

-- they are told
abbrev pub IsTold : Sealed → Type 0
IsTold part = IsTrue (is_some part.told)

-- the told pages of a part, each with its place
abbrev pub shown_part : Sealed → List Shown
shown_part part = map (λ numbered. record { at = place part numbered.0; bytes = numbered.1 }) (enumerate_from 0 (told_pages part))

-- the told pages of all parts; a page stands at its own number
abbrev pub shown_pages : List Sealed → List Shown
shown_pages parts = flat_map shown_part parts

-- for each page whether it begins as a leaf page
abbrev pub kinds_of : List Sealed → List Bool
kinds_of parts = flat_map (λ part. part.leaves) parts

-- how many pages there are
abbrev pub page_total : List Sealed → ℕ
page_total parts = length (kinds_of parts)

-- part number j of a branch: it lies in the branch's extent number j, from page 32 * j on
pub record IsPart (number : ℕ) (extents : List ℕ) (j : ℕ) (part : Sealed) : Type 0 where
  pub extent : slice_get extents j ≡ Some part.extent
  pub branch : part.branch ≡ number
  pub first : part.first ≡ 32 * j
  pub most : page_count part ≤ 32
  pub told : IfSome part.told (λ pages. length pages ≡ page_count part)

-- the parts of a branch with this number and these extents: each but the last one is full
pub record AreParts (number : ℕ) (extents : List ℕ) (parts : List Sealed) : Type 0 where
  pub each : (j : ℕ) (part : Sealed) → slice_get parts j ≡ Some part → IsPart number extents j part
  pub full : (j : ℕ) (part : Sealed) → slice_get parts j ≡ Some part → j + 1 < length parts → page_count part ≡ 32

-- every part tells its pages
abbrev pub AreTold : List Sealed → Type 0
AreTold parts = (j : ℕ) (part : Sealed) → slice_get parts j ≡ Some part → IsTold part
