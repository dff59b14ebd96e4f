-- The leaf pages of a branch are its first pages, and hold its table in order.
use Rattle.std.proofs.Common.{◌≡◌, ℕ, zero, suc, ◌+◌, ◌-◌, ◌<◌, ◌≤◌, ◌/◌, ◌%◌, Bool, true, false, cond, List, [], ◌∷◌, ◌++◌, Option, Some, None, Result, Ok, Err, flat_map, length, get_or, map, take, replicate, refl, sym, ap, ap₂, ◌∙◌, append_assoc, arith}
use Rattle.std.specs.List.{enumerate_from, slice_get}
use Rattle.std.specs.Option.{IfSome, is_some, option_map, unwrap_or}
use Rattle.std.specs.Bool.{IsTrue}
use Rattle.std.specs.Result.{IfErr, IfOk}
use Rattle.std.proofs.lemmas.List.{length-append, length-replicate, length_push, map-append}
use Rattle.std.proofs.lemmas.Option.{get_or_from_slice_get, slice_get-map}
use Rattle.spl_message.specs.Entries.{Entries}
use Rattle.spl_port.specs.declared.at.At.{At}
use Rattle.spl_port.specs.Counts.{Shown}
use Rattle.spl_port.specs.Seal.{Sealed, page_count, place}
use Rattle.spl_page.specs.Tables.{leaf_table}
use Rattle.spl_branch.specs.Branch.{Branch, IsBranch, entries_in, leaf_entries}
use Rattle.spl_branch.specs.Leaves.{leaf_tables}
use Rattle.spl_branch.specs.Reading.{IsPlaceOf}
use Rattle.spl_branch.proofs.PartPages.{kind_at, slice_get_some}
use Rattle.spl_branch.proofs.Visits.{some_and}
use Rattle.spl_branch.specs.Pages.{AreTold, kinds_of, page_total, shown_pages, shown_part, told_pages}

-- ---- the kinds of the told pages

kind_there : (front : List Bool) (kind : Bool) (kinds : List Bool) → get_or (front ++ kind ∷ kinds) (length front) false ≡ kind
kind_there [] kind kinds = refl
kind_there (first ∷ front) kind kinds = kind_there front kind kinds

kinds_again : (extent branch first n : ℕ) (front kinds all : List Bool) (pages : List (List ℕ)) → n ≡ length front → all ≡ front ++ kinds → length pages ≡ length kinds
    → map (λ (shown : Shown). shown.at.leaf)
    (map (λ page. record { at = record { extent = extent; branch = branch; page = first + page.0; leaf = get_or all page.0 false }; bytes = page.1 }) (enumerate_from n pages)) ≡ kinds
kinds_again extent branch first n front [] all [] at is same = refl
kinds_again extent branch first n front [] all (page ∷ pages) at is same = absurd (omega arith)
kinds_again extent branch first n front (kind ∷ kinds) all [] at is same = absurd (omega arith)
kinds_again extent branch first n front (kind ∷ kinds) all (page ∷ pages) at is same =
    let here : get_or all n false ≡ kind = ap (λ (all : List Bool). get_or all n false) is ∙ ap (λ (n : ℕ). get_or (front ++ kind ∷ kinds) n false) at ∙ kind_there front kind kinds in
    let next : all ≡ (front ++ kind ∷ []) ++ kinds = is ∙ sym (append_assoc front (kind ∷ []) kinds) in
    let one : n + 1 ≡ length (front ++ kind ∷ []) = omega (arith, length_push front kind, at) in
    ap₂ (λ (kind : Bool) (kinds : List Bool). kind ∷ kinds) here (kinds_again extent branch first (n + 1) (front ++ kind ∷ []) kinds all pages one next (omega arith))

told_count : (told : Option (List (List ℕ))) (n : ℕ) → IfSome told (λ pages. length pages ≡ n) → IsTrue (is_some told) → length (unwrap_or told []) ≡ n
told_count None n is there = absurd cc
told_count (Some pages) n is there = is

part_kinds : (part : Sealed) → IfSome part.told (λ pages. length pages ≡ page_count part) → IsTrue (is_some part.told)
    → map (λ (shown : Shown). shown.at.leaf) (shown_part part) ≡ part.leaves
part_kinds part counted told =
    kinds_again part.extent part.branch part.first 0 [] part.leaves part.leaves (told_pages part) refl refl (told_count part.told (page_count part) counted told)

pub kinds_are : (parts : List Sealed) → ((j : ℕ) (part : Sealed) → slice_get parts j ≡ Some part → IfSome part.told (λ pages. length pages ≡ page_count part)) → AreTold parts
    → map (λ (shown : Shown). shown.at.leaf) (shown_pages parts) ≡ kinds_of parts
kinds_are [] counted told = refl
kinds_are (part ∷ parts) counted told =
    map-append (λ (shown : Shown). shown.at.leaf) (shown_part part) (shown_pages parts)
    ∙ ap₂ (λ (here : List Bool) (more : List Bool). here ++ more)
    (part_kinds part (counted 0 part refl) (told 0 part refl))
    (kinds_are parts (λ j. counted (suc j)) (λ j. told (suc j)))

-- ---- their entries

no_leaf : (pages : List Shown) (n : ℕ) → map (λ (shown : Shown). shown.at.leaf) pages ≡ replicate n false → leaf_entries pages ≡ []
no_leaf [] n is = refl
no_leaf (shown ∷ pages) zero is = absurd (cc)
no_leaf (shown ∷ pages) (suc n) is =
    let index : shown.at.leaf ≡ false = cc in
    let more : map (λ (shown : Shown). shown.at.leaf) pages ≡ replicate n false = cc in
    ap (λ (leaf : Bool). cond leaf (leaf_table shown.bytes) [] ++ leaf_entries pages) index ∙ no_leaf pages n more

first_leaves : (pages : List Shown) (leaves n : ℕ) → map (λ (shown : Shown). shown.at.leaf) pages ≡ replicate leaves true ++ replicate n false
    → leaf_entries pages ≡ flat_map (λ (entries : Entries). entries) (map (λ (shown : Shown). leaf_table shown.bytes) (take leaves pages))
first_leaves pages zero n is = no_leaf pages n is
first_leaves [] (suc leaves) n is = absurd (cc)
first_leaves (shown ∷ pages) (suc leaves) n is =
    let leaf : shown.at.leaf ≡ true = cc in
    let more : map (λ (shown : Shown). shown.at.leaf) pages ≡ replicate leaves true ++ replicate n false = cc in
    ap (λ (leaf : Bool). cond leaf (leaf_table shown.bytes) [] ++ leaf_entries pages) leaf ∙ ap (λ (more : Entries). leaf_table shown.bytes ++ more) (first_leaves pages leaves n more)

-- the branch's entries are those of its leaf pages, in order
pub in_order : (branch : Branch) → IsBranch branch → AreTold branch.parts → entries_in branch ≡ flat_map (λ (entries : Entries). entries) (leaf_tables branch)
in_order branch is told =
    first_leaves (shown_pages branch.parts) branch.leaves (page_total branch.parts - branch.leaves)
    (kinds_are branch.parts (λ j part at. (is.parts.each j part at).told) told ∙ is.kinds)

-- ---- a leaf page by its number

first_true : (leaves page : ℕ) (rest : List Bool) → page < leaves → slice_get (replicate leaves true ++ rest) page ≡ Some true
first_true zero page rest within = absurd (omega arith)
first_true (suc leaves) zero rest within = refl
first_true (suc leaves) (suc page) rest within = first_true leaves page rest (omega arith)

pub leaf_there : (branch : Branch) (at : At) (page : ℕ) → IsBranch branch → page < branch.leaves → IsPlaceOf branch.parts at → at.page ≡ page → at.leaf ≡ true
leaf_there branch at page is within place_is number =
    let found = some_and (λ part. (at.page % 32 < page_count part) × (at ≡ place part (at.page % 32))) (slice_get branch.parts (at.page / 32)) place_is in
    let kind : slice_get found.0.leaves (at.page % 32) ≡ Some true =
    sym (kind_at branch.number branch.extents branch.parts at.page found.0 is.parts found.1 found.2.0)
    ∙ ap (λ (kinds : List Bool). slice_get kinds at.page) is.kinds
    ∙ first_true branch.leaves at.page (replicate (page_total branch.parts - branch.leaves) false) (omega (arith, number)) in
    ap (λ at. at.leaf) found.2.1 ∙ get_or_from_slice_get found.0.leaves (at.page % 32) true false kind

no_true : (n page : ℕ) → slice_get (replicate n false) page ≡ Some true → ⊥
no_true zero page is = cc
no_true (suc n) zero is = cc
no_true (suc n) (suc page) is = no_true n page is

true_within : (leaves page n : ℕ) → slice_get (replicate leaves true ++ replicate n false) page ≡ Some true → page < leaves
true_within zero page n is = absurd (no_true n page is)
true_within (suc leaves) zero n is = omega arith
true_within (suc leaves) (suc page) n is = omega (arith, true_within leaves page n is)

-- a place of a leaf page is one of the first
pub leaf_place : (branch : Branch) (at : At) → IsBranch branch → IsPlaceOf branch.parts at → at.leaf ≡ true → at.page < branch.leaves
leaf_place branch at is place_is leaf =
    let found = some_and (λ part. (at.page % 32 < page_count part) × (at ≡ place part (at.page % 32))) (slice_get branch.parts (at.page / 32)) place_is in
    let there = slice_get_some found.0.leaves (at.page % 32) found.2.0 in
    let kind : there.0 ≡ true =
    sym (get_or_from_slice_get found.0.leaves (at.page % 32) there.0 false there.1) ∙ sym (ap (λ at. at.leaf) found.2.1) ∙ leaf in
    true_within branch.leaves at.page (page_total branch.parts - branch.leaves) (
    sym (ap (λ (kinds : List Bool). slice_get kinds at.page) is.kinds)
    ∙ kind_at branch.number branch.extents branch.parts at.page found.0 is.parts found.1 found.2.0
    ∙ there.1
    ∙ ap Some kind
    )

-- there are no more leaf pages than pages
pub leaves_within : (branch : Branch) → IsBranch branch → branch.leaves ≤ page_total branch.parts
leaves_within branch is =
    let both = length-append (replicate branch.leaves true) (replicate (page_total branch.parts - branch.leaves) false) in
    omega (arith, ap length is.kinds, both, length-replicate branch.leaves true)

taken : {X : Type 0} (xs : List X) (n i : ℕ) → i < n → slice_get (take n xs) i ≡ slice_get xs i
taken xs zero i within = absurd (omega arith)
taken [] (suc n) i within = refl
taken (x ∷ xs) (suc n) zero within = refl
taken (x ∷ xs) (suc n) (suc i) within = taken xs n i (omega arith)

pub leaf_told : (branch : Branch) (page : ℕ) (shown : Shown) → page < branch.leaves → slice_get (shown_pages branch.parts) page ≡ Some shown
    → slice_get (leaf_tables branch) page ≡ Some (leaf_table shown.bytes)
leaf_told branch page shown within told =
    slice_get-map (λ (shown : Shown). leaf_table shown.bytes) (take branch.leaves (shown_pages branch.parts)) page
    ∙ ap (option_map (λ (shown : Shown). leaf_table shown.bytes)) (taken (shown_pages branch.parts) branch.leaves page within ∙ told)

-- what follows from a value that was answered
pub if_ok_then : {T E : Type 0} (P Q : T → Type 0) (result : Result T E) → ((value : T) → P value → Q value) → IfOk result P → IfOk result Q
if_ok_then P Q (Ok value) then is = then value is
if_ok_then P Q (Err fault) then is = tt

-- what follows from a fault that was answered
pub if_err_then : {T E : Type 0} (P Q : E → Type 0) (result : Result T E) → ((fault : E) → P fault → Q fault) → IfErr result P → IfErr result Q
if_err_then P Q (Ok value) then is = tt
if_err_then P Q (Err fault) then is = then fault is
