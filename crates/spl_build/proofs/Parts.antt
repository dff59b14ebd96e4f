-- The parts of a branch while its pages are written.
use Rattle.std.proofs.Common.{◌≡◌, ℕ, ◌+◌, ◌*◌, ◌/◌, ◌<◌, ◌≤◌, Bool, true, List, [], ◌∷◌, ◌++◌, Option, Some, None, length, map, get_or, slice_get, refl, sym, ap, ap₂, ◌∙◌, subst, append-nil, arith}
use Rattle.std.proofs.lemmas.List.{length-append, length-map, length_push, map_push}
use Rattle.std.proofs.lemmas.Option.{slice_get-get_or}
use Rattle.std.specs.Prelude.{unwrap_or}
use Rattle.std.specs.Option.{option_map}
use Rattle.spl_port.specs.declared.at.At.{At}
use Rattle.spl_port.specs.Counts.{Shown}
use Rattle.spl_port.specs.Seal.{Sealed, begins_leaf, empty_draft, page_count, place, with_page}
use Rattle.spl_branch.specs.Pages.{AreParts, AreTold, page_total}
use Rattle.spl_branch.proofs.GrowingLists.{some_front}
use Rattle.spl_branch.proofs.GrowingParts.{extent_given, kinds_begins, kinds_grow, last_part, last_told, part_begins, parts_grow, parts_most, place_grown, shown_begins, shown_grow, shown_length, told_begins, told_grow, told_grow_back, total_most, total_of, total_push}
use Rattle.spl_build.specs.Written.{Appends, IsPages, Opens, Written, begun_part, next_place}

-- ---- the first parts of some

parts_front : (number : ℕ) (extents : List ℕ) (front more : List Sealed) → AreParts number extents (front ++ more) → AreParts number extents front
parts_front number extents front more parts = record {
  each = λ j part at. parts.each j part (some_front front more j part at);
  full = λ j part at before. parts.full j part (some_front front more j part at) (omega (arith, length-append front more));
}

told_front : (front more : List Sealed) → AreTold (front ++ more) → AreTold front
told_front front more told j part at = told j part (some_front front more j part at)

pub pages_front : (tells : Bool) (number : ℕ) (extents : List ℕ) (front : List Sealed) (begun : Option (Sealed × ℕ)) → IsPages tells number extents front begun → IsPages tells number extents front None
pages_front tells number extents front begun pages = record {
  parts = subst (AreParts number extents) (sym (append-nil front)) (parts_front number extents front (begun_part begun) pages.parts);
  full = pages.full;
  count = tt;
  most = pages.most;
  told = λ is. subst AreTold (sym (append-nil front)) (told_front front (begun_part begun) (pages.told is));
}

pub pages_given : (tells : Bool) (number : ℕ) (extents : List ℕ) (front : List Sealed) (begun : Option (Sealed × ℕ)) (extent : ℕ) → IsPages tells number extents front begun → length extents < 65536 →
    IsPages tells number (extents ++ extent ∷ []) front begun
pages_given tells number extents front begun extent pages room = record {
  parts = extent_given number extents (front ++ begun_part begun) extent pages.parts;
  full = pages.full;
  count = pages.count;
  most = omega (arith, length_push extents extent);
  told = pages.told;
}

-- ---- how many there are

pub front_most : (tells : Bool) (number : ℕ) (extents : List ℕ) (front : List Sealed) (begun : Option (Sealed × ℕ)) → IsPages tells number extents front begun → length front ≤ 65536
front_most tells number extents front begun pages = omega (arith, length-append front (begun_part begun), parts_most number extents (front ++ begun_part begun) pages.parts, pages.most)

pub none_most : (tells : Bool) (number : ℕ) (extents : List ℕ) (front : List Sealed) → IsPages tells number extents front None → 32 * length front ≤ 32 * length extents
none_most tells number extents front pages =
    omega (arith, length-append front [], parts_most number extents (front ++ []) pages.parts)

pub some_most : (tells : Bool) (number : ℕ) (extents : List ℕ) (front : List Sealed) (part : Sealed) (filled : ℕ) → IsPages tells number extents front (Some (part, filled)) →
    (32 * length front + filled ≤ 32 * length extents) × (filled ≤ 32)
some_most tells number extents front part filled pages =
    let total = total_most number extents (front ++ part ∷ []) pages.parts in
    let count : page_count part ≡ filled = pages.count in
    (omega (arith, total, total_push front part, pages.full, count), omega (arith, count, (last_part number extents front part pages.parts).most))

-- ---- the part that the next page goes to

module _ (tells : Bool) (number : ℕ) (extents : List ℕ) (front : List Sealed) where
  told_more : (extent first : ℕ) → tells ≡ true → AreTold front → AreTold (front ++ empty_draft tells extent number first ∷ [])
  told_more extent first is told = subst (λ (t : Bool). AreTold (front ++ empty_draft t extent number first ∷ [])) (sym is) (told_begins front extent number first told)

  opens_empty : (extent : ℕ) → AreParts number extents front → page_total front ≡ 32 * length front → (tells ≡ true → AreTold front) → slice_get extents (length front) ≡ Some extent →
      Opens tells number extents front front (empty_draft tells extent number (32 * length front)) 0
  opens_empty extent parts full told granted = record {
    parts = part_begins number extents front tells extent parts full granted;
    full = full;
    room = omega arith;
    count = refl;
    kinds = kinds_begins front tells extent number (32 * length front);
    told = λ is. told_more extent (32 * length front) is (told is);
    back = told_front front (empty_draft tells extent number (32 * length front) ∷ []);
    shown = shown_begins front tells extent number (32 * length front);
  }

  -- the next extent is begun where the parts are full
  pub opens_next : (old : List Sealed) (part : Sealed) (filled : ℕ) → front ≡ old → AreParts number extents old → page_total old ≡ 32 * length old → page_total old < 32 * length extents → (tells ≡ true → AreTold old) →
      ((extent : ℕ) → slice_get extents (length front) ≡ Some extent → part ≡ empty_draft tells extent number (32 * length front)) → filled ≡ 0 → Opens tells number extents old front part filled
  opens_next old part filled is parts full room told begun none =
      let total : page_total front ≡ 32 * length front = subst (λ (xs : List Sealed). page_total xs ≡ 32 * length xs) (sym is) full in
      let within : length front < length extents = omega (arith, total, ap page_total is) in
      let granted = slice_get-get_or extents (length front) 0 within in
      let opens = opens_empty (get_or extents (length front) 0) (subst (AreParts number extents) (sym is) parts) total (λ yes. subst AreTold (sym is) (told yes)) granted in
      let P : List Sealed → Sealed → ℕ → Type 0 = λ xs p n. Opens tells number extents xs front p n in
      subst (λ (xs : List Sealed). P xs part filled) is
      (subst (λ (p : Sealed). P front p filled) (sym (begun (get_or extents (length front) 0) granted))
      (subst (λ (n : ℕ). P front (empty_draft tells (get_or extents (length front) 0) number (32 * length front)) n) (sym none) opens))

-- a part that is full makes all parts full
pub full_more : (tells : Bool) (number : ℕ) (extents : List ℕ) (front : List Sealed) (part : Sealed) (filled : ℕ) → IsPages tells number extents front (Some (part, filled)) → 32 ≤ filled →
    page_total (front ++ part ∷ []) ≡ 32 * length (front ++ part ∷ [])
full_more tells number extents front part filled pages full =
    let count : page_count part ≡ filled = pages.count in
    let most = (some_most tells number extents front part filled pages).1 in
    omega (arith, total_push front part, pages.full, length_push front part)

-- ---- one more page

pub pages_more : (tells : Bool) (number : ℕ) (extents : List ℕ) (old front : List Sealed) (part : Sealed) (filled : ℕ) (bytes : List ℕ) → Opens tells number extents old front part filled → length extents ≤ 65536 →
    IsPages tells number extents front (Some (with_page part bytes, filled + 1))
pages_more tells number extents old front part filled bytes opens most = record {
  parts = parts_grow number extents front part bytes opens.parts opens.room;
  full = opens.full;
  count = length_push part.leaves (begins_leaf bytes) ∙ ap (λ n. n + 1) opens.count;
  most = most;
  told = λ is. told_grow front part bytes (opens.told is);
}

quotient : (n m : ℕ) → m < 32 → (32 * n + m) / 32 ≡ n
quotient n m small = omega arith

pub appends : (tells : Bool) (number : ℕ) (extents : List ℕ) (old front : List Sealed) (part : Sealed) (filled : ℕ) (bytes : List ℕ) → Opens tells number extents old front part filled → AreParts number extents old →
    Appends tells (record { number = number; extents = extents; parts = old }) (record { number = number; extents = extents; parts = front ++ with_page part bytes ∷ [] }) bytes
appends tells number extents old front part filled bytes opens parts =
    let total : page_total (front ++ part ∷ []) ≡ page_total old = ap length opens.kinds in
    let place_is : page_total old / 32 ≡ length front =
    ap (λ n. n / 32) (sym total ∙ total_of number extents front part opens.parts) ∙ quotient (length front) (page_count part) opens.room in
    let extent_is : part.extent ≡ unwrap_or (slice_get extents (page_total old / 32)) 0 =
    sym (ap (λ n. unwrap_or (slice_get extents n) 0) place_is ∙ ap (λ (o : Option ℕ). unwrap_or o 0) (last_part number extents front part opens.parts).extent) in
    let place_same : place (with_page part bytes) (page_count part) ≡ next_place (record { number = number; extents = extents; parts = old }) (begins_leaf bytes) =
    place_grown number extents front part bytes opens.parts
    ∙ ap₂ (λ (e n : ℕ). let at : At = record { extent = e; branch = number; page = n; leaf = begins_leaf bytes } in at) extent_is total in
    record {
      number = refl;
      extents = refl;
      kinds = kinds_grow front part bytes ∙ ap (λ (kinds : List Bool). kinds ++ begins_leaf bytes ∷ []) opens.kinds;
      told = λ is. told_grow front part bytes (opens.told is);
      back = λ told. opens.back (told_grow_back front part bytes told);
      count = shown_length number extents old parts;
      pages = λ told.
          let before = told_grow_back front part bytes told in
          shown_grow front part bytes (last_told front part before) (last_part number extents front part opens.parts).told
          ∙ ap₂ (λ (shown : List Shown) (at : At). shown ++ record { at = at; bytes = bytes } ∷ []) opens.shown place_same;
    }

-- ---- the same as the fields have it: seals and a draft, which mean parts

module _ {B S : Type 0} (means : S → Sealed) (shown : B → Sealed × ℕ) (tells : Bool) (number : ℕ) (extents : List ℕ) where
  pub some_at : (front : List Sealed) (begun : Option B) (x : B) → begun ≡ Some x → IsPages tells number extents front (option_map shown begun) → IsPages tells number extents front (Some (shown x))
  some_at front begun x is pages = subst (λ (b : Option B). IsPages tells number extents front (option_map shown b)) is pages

  pub none_at : (front : List Sealed) (begun : Option B) → begun ≡ None → IsPages tells number extents front (option_map shown begun) → IsPages tells number extents front None
  none_at front begun is pages = subst (λ (b : Option B). IsPages tells number extents front (option_map shown b)) is pages

  pub opens_sealed : (old new : List S) (seal : S) (begun : Option B) (x y : B) (part : Sealed) (filled : ℕ) → begun ≡ Some x → begun ≡ Some y → 32 ≤ (shown y).1 → new ≡ old ++ seal ∷ [] → means seal ≡ (shown x).0 →
      IsPages tells number extents (map means old) (option_map shown begun) → page_total (map means old ++ begun_part (option_map shown begun)) < 32 * length extents →
      ((extent : ℕ) → slice_get extents (length new) ≡ Some extent → part ≡ empty_draft tells extent number (32 * length new)) → filled ≡ 0 →
      Opens tells number extents (map means old ++ begun_part (option_map shown begun)) (map means new) part filled
  opens_sealed old new seal begun x y part filled is also full_also pushed sealed pages room begins none =
      let same : y ≡ x = cc in
      let full : 32 ≤ (shown x).1 = subst (λ (z : B). 32 ≤ (shown z).1) same full_also in
      let at_some = some_at (map means old) begun x is pages in
      let parts_are : map means new ≡ map means old ++ begun_part (option_map shown begun) =
      ap (λ (xs : List S). map means xs) pushed ∙ map_push means old seal ∙ ap (λ (p : Sealed). map means old ++ p ∷ []) sealed
      ∙ ap (λ (b : Option B). map means old ++ begun_part (option_map shown b)) (sym is) in
      let counted : length (map means new) ≡ length new = length-map new means in
      opens_next tells number extents (map means new) (map means old ++ begun_part (option_map shown begun)) part filled parts_are pages.parts
      (subst (λ (b : Option B). page_total (map means old ++ begun_part (option_map shown b)) ≡ 32 * length (map means old ++ begun_part (option_map shown b))) (sym is)
      (full_more tells number extents (map means old) (shown x).0 (shown x).1 at_some full))
      room pages.told
      (λ extent granted. begins extent (subst (λ (n : ℕ). slice_get extents n ≡ Some extent) counted granted) ∙ ap (λ (n : ℕ). empty_draft tells extent number (32 * n)) (sym counted))
      none

  pub opens_first : (old : List S) (begun : Option B) (part : Sealed) (filled : ℕ) → begun ≡ None →
      IsPages tells number extents (map means old) (option_map shown begun) → page_total (map means old ++ begun_part (option_map shown begun)) < 32 * length extents →
      ((extent : ℕ) → slice_get extents (length old) ≡ Some extent → part ≡ empty_draft tells extent number (32 * length old)) → filled ≡ 0 →
      Opens tells number extents (map means old ++ begun_part (option_map shown begun)) (map means old) part filled
  opens_first old begun part filled is pages room begins none =
      let parts_are : map means old ≡ map means old ++ begun_part (option_map shown begun) =
      sym (append-nil (map means old)) ∙ ap (λ (b : Option B). map means old ++ begun_part (option_map shown b)) (sym is) in
      let counted : length (map means old) ≡ length old = length-map old means in
      opens_next tells number extents (map means old) (map means old ++ begun_part (option_map shown begun)) part filled parts_are pages.parts
      (subst (λ (xs : List Sealed). page_total xs ≡ 32 * length xs) parts_are pages.full)
      room pages.told
      (λ extent granted. begins extent (subst (λ (n : ℕ). slice_get extents n ≡ Some extent) counted granted) ∙ ap (λ (n : ℕ). empty_draft tells extent number (32 * n)) (sym counted))
      none

  -- the draft was lost before the next one was there
  pub pages_failed : (number' : ℕ) (extents' : List ℕ) (seals seals' : List S) (begun begun' : Option B) → number' ≡ number → extents' ≡ extents → seals' ≡ seals → begun' ≡ None →
      IsPages tells number extents (map means seals) (option_map shown begun) → IsPages tells number' extents' (map means seals') (option_map shown begun')
  pages_failed number' extents' seals seals' begun begun' number_is extents_is seals_are none pages =
      let P : ℕ → List ℕ → List S → Option B → Type 0 = λ n e s b. IsPages tells n e (map means s) (option_map shown b) in
      subst (λ (n : ℕ). P n extents' seals' begun') (sym number_is)
      (subst (λ (e : List ℕ). P number e seals' begun') (sym extents_is)
      (subst (λ (s : List S). P number extents s begun') (sym seals_are)
      (subst (λ (b : Option B). P number extents seals b) (sym none) (pages_front tells number extents (map means seals) (option_map shown begun) pages))))

  pub pages_lost : (number' : ℕ) (extents' : List ℕ) (old : List Sealed) (seals : List S) (part : Sealed) (filled : ℕ) (begun : Option B) → number' ≡ number → extents' ≡ extents → begun ≡ None → length extents ≤ 65536 →
      Opens tells number extents old (map means seals) part filled → IsPages tells number' extents' (map means seals) (option_map shown begun)
  pages_lost number' extents' old seals part filled begun number_is extents_is none most opens =
      let kept : IsPages tells number extents (map means seals) (Some (part, filled)) = record { parts = opens.parts; full = opens.full; count = opens.count; most = most; told = opens.told } in
      let P : ℕ → List ℕ → Option B → Type 0 = λ n e b. IsPages tells n e (map means seals) (option_map shown b) in
      subst (λ (n : ℕ). P n extents' begun) (sym number_is)
      (subst (λ (e : List ℕ). P number e begun) (sym extents_is)
      (subst (λ (b : Option B). P number extents b) (sym none) (pages_front tells number extents (map means seals) (Some (part, filled)) kept)))

module _ (tells : Bool) (number number' : ℕ) (extents extents' : List ℕ) (old front : List Sealed) (part part' : Sealed) (filled : ℕ) (bytes bytes' : List ℕ)
    (number_is : number' ≡ number) (extents_are : extents' ≡ extents) (part_is : part' ≡ with_page part bytes') (bytes_are : bytes' ≡ bytes) (opens : Opens tells number extents old front part filled) where
  part_more : part' ≡ with_page part bytes
  part_more = part_is ∙ ap (λ (b : List ℕ). with_page part b) bytes_are

  pub pages_grown : length extents ≤ 65536 → IsPages tells number' extents' front (Some (part', filled + 1))
  pages_grown most =
      let P : ℕ → List ℕ → Sealed → Type 0 = λ n e p. IsPages tells n e front (Some (p, filled + 1)) in
      subst (λ (n : ℕ). P n extents' part') (sym number_is)
      (subst (λ (e : List ℕ). P number e part') (sym extents_are)
      (subst (λ (p : Sealed). P number extents p) (sym part_more) (pages_more tells number extents old front part filled bytes opens most)))

  pub appended : (before : Written) (parts : List Sealed) → record { number = number; extents = extents; parts = parts } ≡ before → old ≡ parts → AreParts number extents parts →
      Appends tells before (record { number = number'; extents = extents'; parts = front ++ part' ∷ [] }) bytes
  appended before parts before_is parts_are are =
      let opened : Opens tells number extents parts front part filled = subst (λ (xs : List Sealed). Opens tells number extents xs front part filled) parts_are opens in
      let P : Written → ℕ → List ℕ → Sealed → Type 0 = λ w n e p. Appends tells w (record { number = n; extents = e; parts = front ++ p ∷ [] }) bytes in
      subst (λ (w : Written). P w number' extents' part') before_is
      (subst (λ (n : ℕ). P (record { number = number; extents = extents; parts = parts }) n extents' part') (sym number_is)
      (subst (λ (e : List ℕ). P (record { number = number; extents = extents; parts = parts }) number e part') (sym extents_are)
      (subst (λ (p : Sealed). P (record { number = number; extents = extents; parts = parts }) number extents p) (sym part_more)
      (appends tells number extents parts front part filled bytes opened are))))
