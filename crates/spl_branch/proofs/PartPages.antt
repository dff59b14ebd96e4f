-- Where the pages of parts stand, of which each but the last one is full: page i is at place i % 32 of part i / 32.
use Rattle.std.proofs.Common.{◌≡◌, ℕ, zero, suc, ◌+◌, ◌-◌, ◌*◌, ◌/◌, ◌%◌, ◌<◌, ◌≤◌, true, false, List, [], ◌∷◌, ◌++◌, Some, length, get_or, map, flat_map, replicate, refl, ap, ◌∙◌, inl, inr, arith}
use Rattle.std.specs.List.{slice_get}
use Rattle.std.specs.Option.{option_map}
use Rattle.std.proofs.lemmas.Bool.{cases_lt}
use Rattle.std.proofs.lemmas.List.{length-append, length-map, length-replicate, nil_from_length}
use Rattle.std.proofs.lemmas.Option.{slice_get-map, slice_get_read, slice_get_within}
use Rattle.spl_port.specs.Seal.{Sealed, page_count, place}
use Rattle.spl_branch.specs.Branch.{Branch, IsBranch}
use Rattle.spl_branch.specs.Pages.{AreParts, kinds_of, page_total}
use Rattle.spl_branch.proofs.GrowingParts.{parts_most}

pub slice_get-append_left : {X : Type 0} (xs ys : List X) (i : ℕ) → i < length xs → slice_get (xs ++ ys) i ≡ slice_get xs i
slice_get-append_left [] ys i within = absurd (omega arith)
slice_get-append_left (x ∷ xs) ys zero within = refl
slice_get-append_left (x ∷ xs) ys (suc i) within = slice_get-append_left xs ys i (omega arith)

pub slice_get-append_right : {X : Type 0} (xs ys : List X) (i j : ℕ) → i ≡ length xs + j → slice_get (xs ++ ys) i ≡ slice_get ys j
slice_get-append_right [] ys i j is = ap (slice_get ys) (let e : i ≡ j = omega arith in e)
slice_get-append_right (x ∷ xs) ys zero j is = absurd (omega arith)
slice_get-append_right (x ∷ xs) ys (suc i) j is = slice_get-append_right xs ys i j (omega arith)

-- an element that is there
pub slice_get_some : {X : Type 0} (xs : List X) (i : ℕ) → i < length xs → (x : X) × (slice_get xs i ≡ Some x)
slice_get_some [] i within = absurd (omega arith)
slice_get_some (x ∷ xs) zero within = (x, refl)
slice_get_some (x ∷ xs) (suc i) within = slice_get_some xs i (omega arith)

-- lists of 32 elements, one for each part, of which the last one may be shorter
pub record Are32 {X : Type 0} (f : Sealed → List X) (parts : List Sealed) : Type 0 where
  pub most : (j : ℕ) (part : Sealed) → slice_get parts j ≡ Some part → length (f part) ≤ 32
  pub full : (j : ℕ) (part : Sealed) → slice_get parts j ≡ Some part → j + 1 < length parts → length (f part) ≡ 32

tail-32 : {X : Type 0} (f : Sealed → List X) (part : Sealed) (parts : List Sealed) → Are32 f (part ∷ parts) → Are32 f parts
tail-32 f part parts are = record {
  most = λ j other at. are.most (suc j) other at;
  full = λ j other at within. are.full (suc j) other at (omega arith);
}

-- a list that is not the last one is full
head-32 : {X : Type 0} (f : Sealed → List X) (part : Sealed) (parts : List Sealed) → Are32 f (part ∷ parts) → 0 < length parts → length (f part) ≡ 32
head-32 f part parts are more = are.full 0 part refl (omega arith)

total-32 : {X : Type 0} (f : Sealed → List X) (parts : List Sealed) (n : ℕ) (last : Sealed) → Are32 f parts → length parts ≡ suc n → slice_get parts n ≡ Some last
    → length (flat_map f parts) ≡ n * 32 + length (f last)
total-32 f [] n last are len at = absurd (omega arith)
total-32 f (part ∷ []) zero last are len at =
    let is : part ≡ last = cc in
    length-append (f part) [] ∙ (let e : length (f part) + 0 ≡ 0 * 32 + length (f part) = omega arith in e) ∙ ap (λ p. 0 * 32 + length (f p)) is
total-32 f (part ∷ []) (suc n) last are len at = absurd (omega arith)
total-32 f (part ∷ next ∷ parts) zero last are len at = absurd (omega arith)
total-32 f (part ∷ next ∷ parts) (suc n) last are len at =
    let rest = total-32 f (next ∷ parts) n last (tail-32 f part (next ∷ parts) are) (omega arith) at in
    let first = head-32 f part (next ∷ parts) are (omega arith) in
    let both = length-append (f part) (flat_map f (next ∷ parts)) in
    omega (arith, rest, first, both)

pub at-32 : {X : Type 0} (f : Sealed → List X) (parts : List Sealed) (j r i : ℕ) (part : Sealed) → Are32 f parts → slice_get parts j ≡ Some part → r < length (f part) → i ≡ 32 * j + r
    → slice_get (flat_map f parts) i ≡ slice_get (f part) r
at-32 f [] j r i part are at within is = absurd cc
at-32 f (first ∷ parts) zero r i part are at within is =
    let same : first ≡ part = cc in
    let here : r < length (f first) = rw same within in
    let e : i ≡ r = omega arith in
    ap (slice_get (f first ++ flat_map f parts)) e ∙ slice_get-append_left (f first) (flat_map f parts) r here ∙ ap (λ p. slice_get (f p) r) same
at-32 f (first ∷ parts) (suc j) r i part are at within is =
    let more = slice_get_within parts j part at in
    let full = head-32 f first parts are (omega arith) in
    slice_get-append_right (f first) (flat_map f parts) i (32 * j + r) (omega arith)
    ∙ at-32 f parts j r (32 * j + r) part (tail-32 f first parts are) at within refl

-- element i is element r of the list of part j
record Found {X : Type 0} (f : Sealed → List X) (parts : List Sealed) (i : ℕ) : Type 0 where
  j : ℕ
  r : ℕ
  part : Sealed
  there : slice_get parts j ≡ Some part
  within : r < length (f part)
  number : i ≡ 32 * j + r

found-32 : {X : Type 0} (f : Sealed → List X) (parts : List Sealed) (i : ℕ) → Are32 f parts → i < length (flat_map f parts) → Found f parts i
found-32 f [] i are within = absurd (omega arith)
found-32 f (part ∷ []) i are within =
    record { j = 0; r = i; part = part; there = refl; within = omega (arith, length-append (f part) []); number = omega arith }
found-32 f (part ∷ next ∷ parts) i are within =
    elim (cases_lt i (length (f part))) [
      | inl first ↦ record { j = 0; r = i; part = part; there = refl; within = first; number = omega arith }
      | inr later ↦
          let full = head-32 f part (next ∷ parts) are (omega arith) in
          let rest = found-32 f (next ∷ parts) (i - 32) (tail-32 f part (next ∷ parts) are) (omega (arith, full, length-append (f part) (flat_map f (next ∷ parts)))) in
          record { j = suc rest.j; r = rest.r; part = rest.part; there = rest.there; within = rest.within; number = omega (arith, rest.number) }
    ]

-- so it is element i % 32 of the list of part i / 32
record Stands {X : Type 0} (f : Sealed → List X) (parts : List Sealed) (i : ℕ) : Type 0 where
  part : Sealed
  there : slice_get parts (i / 32) ≡ Some part
  within : i % 32 < length (f part)

stands : {X : Type 0} (f : Sealed → List X) (parts : List Sealed) (i : ℕ) → Are32 f parts → i < length (flat_map f parts) → Stands f parts i
stands f parts i are within =
    let found = found-32 f parts i are within in
    let most = are.most found.j found.part found.there in
    let small : found.r < 32 = omega (arith, found.within) in
    let quotient : i / 32 ≡ found.j = omega (arith, found.number) in
    let remainder : i % 32 ≡ found.r = omega (arith, found.number) in
    record { part = found.part; there = ap (slice_get parts) quotient ∙ found.there; within = omega (arith, found.within, remainder) }

-- ---- the pages

are-32 : (number : ℕ) (extents : List ℕ) (parts : List Sealed) → AreParts number extents parts → Are32 (λ part. part.leaves) parts
are-32 number extents parts are = record { most = λ j part at. (are.each j part at).most; full = are.full }

pub page_total_is : (number : ℕ) (extents : List ℕ) (parts : List Sealed) (n : ℕ) (last : Sealed) → AreParts number extents parts
    → length parts ≡ suc n → slice_get parts n ≡ Some last → page_total parts ≡ n * 32 + page_count last
page_total_is number extents parts n last are len at = total-32 (λ part. part.leaves) parts n last (are-32 number extents parts are) len at

-- the kind of a page of a part
pub kind_at : (number : ℕ) (extents : List ℕ) (parts : List Sealed) (page : ℕ) (part : Sealed) → AreParts number extents parts → slice_get parts (page / 32) ≡ Some part
    → page % 32 < page_count part → slice_get (kinds_of parts) page ≡ slice_get part.leaves (page % 32)
kind_at number extents parts page part are there within =
    at-32 (λ part. part.leaves) parts (page / 32) (page % 32) page part (are-32 number extents parts are) there within (omega arith)

-- there is a page, so there is a part
pub some_pages : (branch : Branch) → IsBranch branch → 0 < page_total branch.parts
some_pages branch is =
    let kinds = ap length is.kinds in
    let both = length-append (replicate branch.leaves true) (replicate (page_total branch.parts - branch.leaves) false) in
    let leaves = length-replicate branch.leaves true in
    omega (arith, kinds, both, leaves, is.some)

pub some_parts : (branch : Branch) → IsBranch branch → 0 < length branch.parts
some_parts branch is =
    elim (cases_lt 0 (length branch.parts)) [
      | inl some ↦ some
      | inr none ↦
          let empty : branch.parts ≡ [] = nil_from_length branch.parts (omega arith) in
          let no_pages : page_total branch.parts ≡ 0 = ap page_total empty in
          absurd (omega (arith, no_pages, some_pages branch is))
    ]

-- ---- the pages of seals, which mean parts

pub seal_part : {S : Type 0} (means : S → Sealed) (seals : List S) (i : ℕ) (seal : S) → i < length seals → seal ≡ get_or seals i seal
    → slice_get (map means seals) i ≡ Some (means seal)
seal_part means seals i seal within is = slice_get-map means seals i ∙ ap (option_map means) (slice_get_read seals (length seals) i seal refl within is)

pub seals_within : {S : Type 0} (means : S → Sealed) (branch : Branch) (seals : List S) → IsBranch branch → branch.parts ≡ map means seals → length seals ≤ 65536
seals_within means branch seals is parts =
    let len : length branch.parts ≡ length seals = ap length parts ∙ length-map seals means in
    omega (arith, parts_most branch.number branch.extents branch.parts is.parts, is.extents)

-- what holds of a branch that is made of these seals, the last of which is at place n
pub record Counted (branch : Branch) (n pages : ℕ) : Type 0 where
  pub most : n * 32 + pages ≤ 2097152
  pub total : n * 32 + pages ≡ page_total branch.parts

pub counted : {S : Type 0} (means : S → Sealed) (branch : Branch) (seals : List S) (n pages : ℕ) (seal : S) → IsBranch branch → branch.parts ≡ map means seals
    → n ≡ length seals - 1 → seal ≡ get_or seals n seal → pages ≡ page_count (means seal) → Counted branch n pages
counted means branch seals n pages seal is parts last read count =
    let len : length branch.parts ≡ length seals = ap length parts ∙ length-map seals means in
    let some = some_parts branch is in
    let at : slice_get branch.parts n ≡ Some (means seal) = ap (λ ps. slice_get ps n) parts ∙ seal_part means seals n seal (omega arith) read in
    let total = page_total_is branch.number branch.extents branch.parts n (means seal) is.parts (omega arith) at in
    let most = (is.parts.each n (means seal) at).most in
    let within = parts_most branch.number branch.extents branch.parts is.parts in
    record { most = omega (arith, is.extents); total = omega arith }

-- ---- where a page stands

-- the part that has the page
pub record PartAt (parts : List Sealed) (page : ℕ) : Type 0 where
  pub part : Sealed
  pub there : slice_get parts (page / 32) ≡ Some part
  pub within : page % 32 < page_count part
  pub own : (place part (page % 32)).page ≡ page

pub part_at : (number : ℕ) (extents : List ℕ) (parts : List Sealed) (page : ℕ) → AreParts number extents parts → page < page_total parts → PartAt parts page
part_at number extents parts page are within =
    let stands = stands (λ part. part.leaves) parts page (are-32 number extents parts are) within in
    let first = (are.each (page / 32) stands.part stands.there).first in
    record { part = stands.part; there = stands.there; within = stands.within; own = omega (arith, first) }
