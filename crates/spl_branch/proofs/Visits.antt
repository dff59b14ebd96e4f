-- What the page that was fetched is to the branch.
use Rattle.std.proofs.Common.{◌≡◌, ℕ, ◌/◌, ◌%◌, ◌<◌, List, [], Option, Some, None, length, get_or, map, refl, sym, ap, ◌∙◌, subst, arith}
use Rattle.std.specs.List.{slice_get}
use Rattle.std.specs.Option.{IsSomeAnd}
use Rattle.std.proofs.lemmas.List.{length-map}
use Rattle.std.proofs.lemmas.Option.{slice_get_within}
use Rattle.spl_port.specs.declared.at.At.{At}
use Rattle.spl_port.specs.Counts.{Counts, Shown}
use Rattle.spl_port.specs.Page.{page_fault}
use Rattle.spl_port.specs.Seal.{Allows, Sealed, page_count, place}
use Rattle.spl_pager.specs.declared.fault.FetchFault.{FetchFault}
use Rattle.spl_pager.specs.declared.fault.FetchFault.TheVariants.{Failed, Damaged as DamagedPage, NoMemory as NoMemoryForPage}
use Rattle.spl_pager.specs.Fetching.{HasFetchCause}
use Rattle.spl_branch.specs.Branch.{Branch, IsBranch}
use Rattle.spl_branch.specs.Faults.{of_fetch}
use Rattle.spl_branch.specs.Pages.{AreTold, page_total, shown_pages}
use Rattle.spl_branch.specs.Path.{Gives, IsGiven}
use Rattle.spl_branch.specs.Reading.{IsPlaceOf}
use Rattle.spl_branch.specs.Visiting.{HasVisitCause}
use Rattle.spl_branch.proofs.PartPages.{part_at, seal_part}
use Rattle.spl_branch.proofs.ToldPages.{read_is}

-- the branch has a part for the page
pub seal_there : {S : Type 0} (means : S → Sealed) (branch : Branch) (seals : List S) (page : ℕ) → IsBranch branch → branch.parts ≡ map means seals → page < page_total branch.parts
    → page / 32 < length seals
seal_there means branch seals page is parts within =
    let at = part_at branch.number branch.extents branch.parts page is.parts within in
    omega (arith, slice_get_within branch.parts (page / 32) at.part at.there, ap length parts, length-map seals means)

-- the place of a page of the branch, which stands in this part
pub record IsPage (branch : Branch) (page : ℕ) (part : Sealed) : Type 0 where
  pub is : IsBranch branch
  pub there : slice_get branch.parts (page / 32) ≡ Some part
  pub within : page % 32 < page_count part
  pub own : (place part (page % 32)).page ≡ page

pub page_is : {S : Type 0} (means : S → Sealed) (branch : Branch) (seals : List S) (page : ℕ) (seal : S) → IsBranch branch → branch.parts ≡ map means seals
    → page < page_total branch.parts → seal ≡ get_or seals (page / 32) seal → IsPage branch page (means seal)
page_is means branch seals page seal is parts within read =
    let at = part_at branch.number branch.extents branch.parts page is.parts within in
    let mine : slice_get branch.parts (page / 32) ≡ Some (means seal) =
    ap (λ ps. slice_get ps (page / 32)) parts ∙ seal_part means seals (page / 32) seal (seal_there means branch seals page is parts within) read in
    let same : at.part ≡ means seal = let both : Some at.part ≡ Some (means seal) = sym at.there ∙ mine in cc in
    record {
      is = is;
      there = mine;
      within = subst (λ part. page % 32 < page_count part) same at.within;
      own = subst (λ part. (place part (page % 32)).page ≡ page) same at.own;
    }

module _ (branch : Branch) (page : ℕ) (part : Sealed) (at : At) (bytes : List ℕ) (is : IsPage branch page part) (place_is : at ≡ place part (page % 32)) where
  pub own_number : at.page ≡ page
  own_number = ap (λ at. at.page) place_is ∙ is.own

  pub own_rest : at.page % 32 ≡ page % 32
  own_rest = ap (λ (page : ℕ). page % 32) own_number

  pub within_part : at.page % 32 < page_count part
  within_part = omega (arith, own_rest, is.within)

  pub place_in_part : at ≡ place part (at.page % 32)
  place_in_part = place_is ∙ ap (place part) (sym own_rest)

  its_place : IsPlaceOf branch.parts at
  its_place =
      let there : slice_get branch.parts (at.page / 32) ≡ Some part = ap (λ (n : ℕ). slice_get branch.parts (n / 32)) own_number ∙ is.there in
      rw there (within_part, place_in_part)

  pub told_is : Allows part (at.page % 32) bytes → AreTold branch.parts → slice_get (shown_pages branch.parts) page ≡ Some (record { at = at; bytes = bytes })
  told_is allows told =
      read_is branch.number branch.extents branch.parts is.is.parts told page part bytes is.there is.within (subst (λ (r : ℕ). Allows part r bytes) own_rest allows)
      ∙ ap (λ at. Some (record { at = at; bytes = bytes })) (sym place_is)

  -- what holds of the page that was fetched holds of the told one
  pub told_page : (P : Shown → Type 0) → Allows part (at.page % 32) bytes → P (record { at = at; bytes = bytes }) → AreTold branch.parts
      → IsSomeAnd (slice_get (shown_pages branch.parts) page) P
  told_page P allows holds told = rw (told_is allows told) holds

pub some_and : {X : Type 0} (P : X → Type 0) (o : Option X) → IsSomeAnd o P → (x : X) × (o ≡ Some x) × P x
some_and P None is = absurd is
some_and P (Some x) is = (x, refl, is)

module _ (branch : Branch) (page : ℕ) (part : Sealed) (at : At) (is : IsPage branch page part) (place_is : at ≡ place part (page % 32)) (before after : Counts) where
  -- why the page was not given
  pub refused : (fault : FetchFault) → HasFetchCause part at before after fault → HasVisitCause branch page before after (of_fetch fault)
  refused Failed cause = cause
  refused NoMemoryForPage cause = tt
  refused (DamagedPage damage) cause =
      let last = some_and (λ shown. (shown.at ≡ at) × (page_fault at shown.bytes ≡ Some damage.why) × Allows part (at.page % 32) shown.bytes) after.last cause.latest in
      record {
        place = subst (IsPlaceOf branch.parts) (sym cause.place) (its_place branch page part at [] is place_is);
        latest = rw last.1 (last.2.0 ∙ sym cause.place, subst (λ at. page_fault at last.0.bytes ≡ Some damage.why) (sym last.2.0) last.2.1);
        read = cause.read;
        told = told_page branch page part at last.0.bytes is place_is (λ shown. page_fault shown.at shown.bytes ≡ Some damage.why) last.2.2 last.2.1;
      }

  -- the page that was given is the branch's
  pub given : (gives : Gives) (shown : Shown) → shown.at ≡ at → gives before after shown → page_fault shown.at shown.bytes ≡ None
      → IsGiven gives branch page before (record { shown = shown; after = after })
  given gives shown here shows sound = record {
    shown = shows;
    place = subst (IsPlaceOf branch.parts) (sym here) (its_place branch page part at [] is place_is);
    number = ap (λ at. at.page) here ∙ own_number branch page part at [] is place_is;
    sound = sound;
  }

  pub told_given : (shown : Shown) → shown.at ≡ at → Allows part (at.page % 32) shown.bytes → AreTold branch.parts → slice_get (shown_pages branch.parts) page ≡ Some shown
  told_given shown here allows told =
      told_is branch page part at shown.bytes is place_is allows told ∙ ap (λ at. Some (record { at = at; bytes = shown.bytes })) (sym here)
