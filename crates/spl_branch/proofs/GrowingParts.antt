-- A page more in the last part of a branch, and a new part behind the others.
use Rattle.std.proofs.Common.{◌≡◌, ℕ, zero, suc, ◌+◌, ◌*◌, ◌<◌, ◌≤◌, Bool, true, false, IsTrue, List, [], ◌∷◌, ◌++◌, inl, inr, Option, Some, None, IfSome, is_some, length, map, get_or, slice_get, refl, sym, ap, ap₂, ◌∙◌, subst, append-nil, arith}
use Rattle.std.specs.List.{enumerate_from}
use Rattle.std.specs.Option.{option_map}
use Rattle.std.proofs.lemmas.Bool.{cases_lt}
use Rattle.std.proofs.lemmas.List.{get_or_append_left, get_or_push, length-append, length-map, length_push, map_push}
use Rattle.std.proofs.lemmas.List.FromFn.{length-enumerate_from}
use Rattle.std.proofs.lemmas.Option.{slice_get_cases, slice_get_within}
use Rattle.spl_port.specs.declared.at.At.{At}
use Rattle.spl_port.specs.Counts.{Shown}
use Rattle.spl_port.specs.Seal.{Sealed, begins_leaf, empty_draft, page_count, place, with_page}
use Rattle.spl_branch.specs.Pages.{AreParts, AreTold, IsPart, IsTold, kinds_of, page_total, shown_pages, shown_part}
use Rattle.spl_branch.proofs.GrowingLists.{enumerate_push, flat_map_grow, flat_map_push, slice_get_end, slice_get_push_cases, some_front}

-- ---- what is shown

-- the pages with their places by these kinds
abbrev pages_at : ℕ → ℕ → ℕ → List Bool → List (ℕ × List ℕ) → List Shown
pages_at extent branch first leaves numbered =
    map (λ page. record { at = record { extent = extent; branch = branch; page = first + page.0; leaf = get_or leaves page.0 false }; bytes = page.1 }) numbered

-- the kind of a page more changes no earlier place
places_stay : (extent branch first : ℕ) (leaves : List Bool) (kind : Bool) (n : ℕ) (pages : List (List ℕ)) → n + length pages ≤ length leaves
    → pages_at extent branch first (leaves ++ kind ∷ []) (enumerate_from n pages) ≡ pages_at extent branch first leaves (enumerate_from n pages)
places_stay extent branch first leaves kind n [] fits = refl
places_stay extent branch first leaves kind n (bytes ∷ pages) fits =
    let here : n < length leaves = omega arith in
    ap₂ (λ (leaf : Bool) (rest : List Shown). record { at = record { extent = extent; branch = branch; page = first + n; leaf = leaf }; bytes = bytes } ∷ rest)
    (get_or_append_left leaves (kind ∷ []) false n here)
    (places_stay extent branch first leaves kind (n + 1) pages (omega arith))

part_grow : (extent branch first : ℕ) (leaves : List Bool) (told : Option (List (List ℕ))) (bytes : List ℕ) → IsTrue (is_some told) → IfSome told (λ pages. length pages ≡ length leaves)
    → shown_part (with_page (record { extent = extent; branch = branch; first = first; leaves = leaves; told = told }) bytes)
    ≡ shown_part (record { extent = extent; branch = branch; first = first; leaves = leaves; told = told })
    ++ record { at = place (with_page (record { extent = extent; branch = branch; first = first; leaves = leaves; told = told }) bytes) (length leaves); bytes = bytes } ∷ []
part_grow extent branch first leaves None bytes is_told counted = absurd (cc)
part_grow extent branch first leaves (Some pages) bytes is_told counted =
    let kinds = leaves ++ begins_leaf bytes ∷ [] in
    ap (pages_at extent branch first kinds) (enumerate_push 0 pages bytes)
    ∙ map_push (λ page. record { at = record { extent = extent; branch = branch; page = first + page.0; leaf = get_or kinds page.0 false }; bytes = page.1 }) (enumerate_from 0 pages) (0 + length pages, bytes)
    ∙ ap₂ (λ (shown : List Shown) (page : ℕ). shown ++ record { at = record { extent = extent; branch = branch; page = first + page; leaf = get_or kinds page false }; bytes = bytes } ∷ [])
    (places_stay extent branch first leaves (begins_leaf bytes) 0 pages (omega arith))
    (omega arith)

pub shown_grow : (front : List Sealed) (part : Sealed) (bytes : List ℕ) → IsTold part → IfSome part.told (λ pages. length pages ≡ page_count part)
    → shown_pages (front ++ with_page part bytes ∷ []) ≡ shown_pages (front ++ part ∷ []) ++ record { at = place (with_page part bytes) (page_count part); bytes = bytes } ∷ []
shown_grow front part bytes is_told counted =
    flat_map_grow shown_part front part (with_page part bytes) (record { at = place (with_page part bytes) (page_count part); bytes = bytes } ∷ [])
    (part_grow part.extent part.branch part.first part.leaves part.told bytes is_told counted)

pub kinds_grow : (front : List Sealed) (part : Sealed) (bytes : List ℕ) → kinds_of (front ++ with_page part bytes ∷ []) ≡ kinds_of (front ++ part ∷ []) ++ begins_leaf bytes ∷ []
kinds_grow front part bytes = flat_map_grow (λ part. part.leaves) front part (with_page part bytes) (begins_leaf bytes ∷ []) refl

pub total_grow : (front : List Sealed) (part : Sealed) (bytes : List ℕ) → page_total (front ++ with_page part bytes ∷ []) ≡ page_total (front ++ part ∷ []) + 1
total_grow front part bytes = ap length (kinds_grow front part bytes) ∙ length_push (kinds_of (front ++ part ∷ [])) (begins_leaf bytes)

module _ (parts : List Sealed) (tells : Bool) (extent number first : ℕ) where
  pub shown_begins : shown_pages (parts ++ empty_draft tells extent number first ∷ []) ≡ shown_pages parts
  shown_begins =
      flat_map_push shown_part parts (empty_draft tells extent number first)
      ∙ ap (λ more. shown_pages parts ++ more) (elim tells as (λ tells. shown_part (empty_draft tells extent number first) ≡ []) [ true ↦ refl | false ↦ refl ])
      ∙ append-nil (shown_pages parts)

  pub kinds_begins : kinds_of (parts ++ empty_draft tells extent number first ∷ []) ≡ kinds_of parts
  kinds_begins = flat_map_push (λ part. part.leaves) parts (empty_draft tells extent number first) ∙ append-nil (kinds_of parts)

-- ---- what holds of the parts

told_map : (told : Option (List (List ℕ))) (bytes : List ℕ) (count more : ℕ) → count + 1 ≡ more → IfSome told (λ pages. length pages ≡ count)
    → IfSome (option_map (λ pages. pages ++ bytes ∷ []) told) (λ pages. length pages ≡ more)
told_map None bytes count more is counted = tt
told_map (Some pages) bytes count more is counted = length_push pages bytes ∙ ap (λ (n : ℕ). n + 1) counted ∙ is

part_goes_on : (number : ℕ) (extents : List ℕ) (j : ℕ) (part : Sealed) (bytes : List ℕ) → IsPart number extents j part → page_count part < 32 → IsPart number extents j (with_page part bytes)
part_goes_on number extents j part bytes is room =
    let more = length_push part.leaves (begins_leaf bytes) in
    record {
      extent = is.extent;
      branch = is.branch;
      first = is.first;
      most = omega arith;
      told = told_map part.told bytes (page_count part) (page_count (with_page part bytes)) (sym more) is.told;
    }

-- the last one
pub last_part : (number : ℕ) (extents : List ℕ) (front : List Sealed) (part : Sealed) → AreParts number extents (front ++ part ∷ []) → IsPart number extents (length front) part
last_part number extents front part parts = parts.each (length front) part (slice_get_end front part [])

pub parts_grow : (number : ℕ) (extents : List ℕ) (front : List Sealed) (part : Sealed) (bytes : List ℕ) → AreParts number extents (front ++ part ∷ []) → page_count part < 32 → AreParts number extents (front ++ with_page part bytes ∷ [])
parts_grow number extents front part bytes parts room = record {
  each = λ j other at. elim (slice_get_push_cases front (with_page part bytes) j other at) [
    | inl before ↦ parts.each j other (some_front front (part ∷ []) j other before.1)
    | inr last ↦
        let here = part_goes_on number extents (length front) part bytes (last_part number extents front part parts) room in
        subst (λ (j : ℕ). IsPart number extents j other) (sym last.0) (subst (IsPart number extents (length front)) last.1 here)
  ];
  full = λ j other at behind. elim (slice_get_push_cases front (with_page part bytes) j other at) [
    | inl before ↦ parts.full j other (some_front front (part ∷ []) j other before.1) (omega (arith, length_push front part))
    | inr last ↦ absurd (omega (arith, length_push front (with_page part bytes)))
  ];
}

-- ---- how many pages there are

pub total_push : (front : List Sealed) (part : Sealed) → page_total (front ++ part ∷ []) ≡ page_total front + page_count part
total_push front part = ap length (flat_map_push (λ part. part.leaves) front part) ∙ length-append (kinds_of front) part.leaves

total_at_most : (parts : List Sealed) → ((j : ℕ) (part : Sealed) → slice_get parts j ≡ Some part → page_count part ≤ 32) → page_total parts ≤ 32 * length parts
total_at_most [] most = omega arith
total_at_most (part ∷ parts) most =
    omega (arith, most 0 part refl, total_at_most parts (λ j. most (suc j)), length-append part.leaves (kinds_of parts))

-- each part is full where there are as many pages as there can be
each_full : (parts : List Sealed) → ((j : ℕ) (part : Sealed) → slice_get parts j ≡ Some part → page_count part ≤ 32) → page_total parts ≡ 32 * length parts
    → (j : ℕ) (part : Sealed) → slice_get parts j ≡ Some part → page_count part ≡ 32
each_full [] most total j part at = absurd (cc)
each_full (first ∷ parts) most total zero part at =
    let same : first ≡ part = cc in
    let count : page_count first ≡ 32 = omega (arith, most 0 first refl, total_at_most parts (λ j. most (suc j)), length-append first.leaves (kinds_of parts)) in
    ap page_count (sym same) ∙ count
each_full (first ∷ parts) most total (suc j) part at =
    each_full parts (λ j. most (suc j)) (omega (arith, most 0 first refl, total_at_most parts (λ j. most (suc j)), length-append first.leaves (kinds_of parts))) j part at

total_full : (parts : List Sealed) → ((j : ℕ) (part : Sealed) → slice_get parts j ≡ Some part → page_count part ≡ 32) → page_total parts ≡ 32 * length parts
total_full [] full = omega arith
total_full (part ∷ parts) full = omega (arith, full 0 part refl, total_full parts (λ j. full (suc j)), length-append part.leaves (kinds_of parts))

pub part_begins : (number : ℕ) (extents : List ℕ) (parts : List Sealed) (tells : Bool) (extent : ℕ) → AreParts number extents parts → page_total parts ≡ 32 * length parts → slice_get extents (length parts) ≡ Some extent
    → AreParts number extents (parts ++ empty_draft tells extent number (32 * length parts) ∷ [])
part_begins number extents parts tells extent are total granted =
    let draft = empty_draft tells extent number (32 * length parts) in
    let here : IsPart number extents (length parts) draft = record {
      extent = granted;
      branch = refl;
      first = refl;
      most = omega arith;
      told = elim tells as (λ tells. IfSome (empty_draft tells extent number (32 * length parts)).told (λ pages. length pages ≡ 0)) [ true ↦ refl | false ↦ tt ];
    } in
    record {
      each = λ j other at. elim (slice_get_push_cases parts draft j other at) [
        | inl before ↦ are.each j other before.1
        | inr last ↦ subst (λ (j : ℕ). IsPart number extents j other) (sym last.0) (subst (IsPart number extents (length parts)) last.1 here)
      ];
      full = λ j other at behind. elim (slice_get_push_cases parts draft j other at) [
        | inl before ↦ each_full parts (λ j part at. (are.each j part at).most) total j other before.1
        | inr last ↦ absurd (omega (arith, length_push parts draft))
      ];
    }

pub total_of : (number : ℕ) (extents : List ℕ) (front : List Sealed) (part : Sealed) → AreParts number extents (front ++ part ∷ []) → page_total (front ++ part ∷ []) ≡ 32 * length front + page_count part
total_of number extents front part parts =
    let full = total_full front (λ j other at. parts.full j other (some_front front (part ∷ []) j other at) (omega (arith, slice_get_within front j other at, length_push front part))) in
    omega (arith, full, total_push front part)

-- there are no more parts than extents
pub parts_most : (number : ℕ) (extents : List ℕ) (parts : List Sealed) → AreParts number extents parts → length parts ≤ length extents
parts_most number extents parts are = elim (cases_lt (length extents) (length parts)) [
  | inl more ↦ elim (slice_get_cases parts (length extents)).1 [
    | inl there ↦ absurd (omega (arith, slice_get_within extents (length extents) there.0.extent (are.each (length extents) there.0 there.2).extent))
    | inr past ↦ absurd (omega arith)
  ]
  | inr fits ↦ fits
]

pub total_most : (number : ℕ) (extents : List ℕ) (parts : List Sealed) → AreParts number extents parts → page_total parts ≤ 32 * length extents
total_most number extents parts are =
    omega (arith, total_at_most parts (λ j part at. (are.each j part at).most), parts_most number extents parts are)

same_at : (extent branch number page there : ℕ) (leaf kind : Bool) → branch ≡ number → page ≡ there → leaf ≡ kind
    → ◌≡◌ {A = At} (record { extent = extent; branch = branch; page = page; leaf = leaf }) (record { extent = extent; branch = number; page = there; leaf = kind })
same_at extent branch number page there leaf kind same_branch same_page same_kind = cc

pub place_grown : (number : ℕ) (extents : List ℕ) (front : List Sealed) (part : Sealed) (bytes : List ℕ) → AreParts number extents (front ++ part ∷ [])
    → place (with_page part bytes) (page_count part) ≡ record { extent = part.extent; branch = number; page = page_total (front ++ part ∷ []); leaf = begins_leaf bytes }
place_grown number extents front part bytes parts =
    let last = last_part number extents front part parts in
    same_at part.extent part.branch number (part.first + page_count part) (page_total (front ++ part ∷ [])) (get_or (part.leaves ++ begins_leaf bytes ∷ []) (page_count part) false) (begins_leaf bytes)
    last.branch
    (omega (arith, last.first, total_of number extents front part parts))
    (get_or_push part.leaves (begins_leaf bytes) false (page_count part) refl)

-- ---- parts that tell their pages

still_told : (told : Option (List (List ℕ))) (bytes : List ℕ) → is_some (option_map (λ pages. pages ++ bytes ∷ []) told) ≡ is_some told
still_told None bytes = refl
still_told (Some pages) bytes = refl

-- the last one of parts that tell their pages
pub last_told : (front : List Sealed) (part : Sealed) → AreTold (front ++ part ∷ []) → IsTold part
last_told front part told = told (length front) part (slice_get_end front part [])

-- another part in the place of the last one
told_last : (front : List Sealed) (part other : Sealed) → IsTold other → AreTold (front ++ part ∷ []) → AreTold (front ++ other ∷ [])
told_last front part other is_told told j one at = elim (slice_get_push_cases front other j one at) [
  | inl before ↦ told j one (some_front front (part ∷ []) j one before.1)
  | inr last ↦ subst IsTold last.1 is_told
]

pub told_grow : (front : List Sealed) (part : Sealed) (bytes : List ℕ) → AreTold (front ++ part ∷ []) → AreTold (front ++ with_page part bytes ∷ [])
told_grow front part bytes told = told_last front part (with_page part bytes) (still_told part.told bytes ∙ last_told front part told) told

pub told_grow_back : (front : List Sealed) (part : Sealed) (bytes : List ℕ) → AreTold (front ++ with_page part bytes ∷ []) → AreTold (front ++ part ∷ [])
told_grow_back front part bytes told =
    told_last front (with_page part bytes) part (sym (still_told part.told bytes) ∙ last_told front (with_page part bytes) told) told

pub told_begins : (parts : List Sealed) (extent number first : ℕ) → AreTold parts → AreTold (parts ++ empty_draft true extent number first ∷ [])
told_begins parts extent number first told j one at = elim (slice_get_push_cases parts (empty_draft true extent number first) j one at) [
  | inl before ↦ told j one before.1
  | inr last ↦ subst IsTold last.1 refl
]

-- ---- extents that are granted ahead, and told pages counted

pub extent_given : (number : ℕ) (extents : List ℕ) (parts : List Sealed) (extent : ℕ) → AreParts number extents parts → AreParts number (extents ++ extent ∷ []) parts
extent_given number extents parts extent are = record {
  each = λ j part at.
      let is = are.each j part at in
      record {
        extent = some_front extents (extent ∷ []) j part.extent is.extent;
        branch = is.branch;
        first = is.first;
        most = is.most;
        told = is.told;
      };
  full = are.full;
}

part_length : (extent branch first : ℕ) (leaves : List Bool) (told : Option (List (List ℕ))) → IsTrue (is_some told) → IfSome told (λ pages. length pages ≡ length leaves)
    → length (shown_part (record { extent = extent; branch = branch; first = first; leaves = leaves; told = told })) ≡ length leaves
part_length extent branch first leaves None is_told counted = absurd (cc)
part_length extent branch first leaves (Some pages) is_told counted =
    length-map (enumerate_from 0 pages) (λ page. record { at = record { extent = extent; branch = branch; page = first + page.0; leaf = get_or leaves page.0 false }; bytes = page.1 })
    ∙ length-enumerate_from 0 pages
    ∙ counted

lengths : (parts : List Sealed) → ((j : ℕ) (part : Sealed) → slice_get parts j ≡ Some part → length (shown_part part) ≡ page_count part) → length (shown_pages parts) ≡ page_total parts
lengths [] each = refl
lengths (part ∷ parts) each =
    length-append (shown_part part) (shown_pages parts)
    ∙ ap₂ (λ (a b : ℕ). a + b) (each 0 part refl) (lengths parts (λ j. each (suc j)))
    ∙ sym (length-append part.leaves (kinds_of parts))

pub shown_length : (number : ℕ) (extents : List ℕ) (parts : List Sealed) → AreParts number extents parts → AreTold parts → length (shown_pages parts) ≡ page_total parts
shown_length number extents parts are told =
    lengths parts (λ j part at. part_length part.extent part.branch part.first part.leaves part.told (told j part at) (are.each j part at).told)
