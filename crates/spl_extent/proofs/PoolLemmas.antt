-- What a grant, a change of owner and a return leave of the numbers of the free extents.
use Rattle.std.proofs.Common.{◌≡◌, ◌≢◌, ℕ, zero, suc, ◌+◌, ◌<◌, ◌≤◌, List, [], ◌∷◌, ◌++◌, length, get_or, set, slice_get, Some, None, IsSomeAnd, Option, false, cond, replicate, All, slice_index, refl, subst, arith}
use Rattle.std.proofs.lemmas.List.{length_push, get_or_push, get_or_append_left, length-set, length-replicate, get_or_default, get_or-replicate}
use Rattle.std.proofs.lemmas.List.Sums.{sum_by-set, count_by-le-length}
use Rattle.std.proofs.lemmas.List.Folds.{sum_by-replicate}
use Rattle.std.proofs.lemmas.List.Elements.{All-push}
use Rattle.std.proofs.lemmas.List.Quantifiers.{all_pairs_push}
use Rattle.std.proofs.lemmas.Option.{get_or_from_slice_get, slice_get_within, slice_get-get_or}
use Rattle.spl_extent.specs.declared.owner.Owner.{Owner}
use Rattle.spl_extent.specs.declared.owner.Owner.TheVariants.{Free, Granted, Held}
use Rattle.spl_extent.specs.declared.pool.TheConstants.{EXTENTS}
use Rattle.spl_extent.specs.Pool.{is_free, free_count}
use Rattle.spl_extent.specs.Spare.{IsSpare}

is_free-taken : (owner : Owner) → owner ≢ Free → is_free owner ≡ false
is_free-taken Free taken = absurd (taken refl)
is_free-taken (Granted actor) taken = refl
is_free-taken (Held branch) taken = refl

-- what a change of one extent's owner leaves, there and elsewhere
pub slice_get-set_other : (owners : List Owner) (extent other : ℕ) (owner : Owner) → other ≢ extent → slice_get (set owners extent owner) other ≡ slice_get owners other
slice_get-set_other [] extent other owner apart = refl
slice_get-set_other (x ∷ owners) zero zero owner apart = absurd (apart refl)
slice_get-set_other (x ∷ owners) zero (suc other) owner apart = refl
slice_get-set_other (x ∷ owners) (suc extent) zero owner apart = refl
slice_get-set_other (x ∷ owners) (suc extent) (suc other) owner apart =
    slice_get-set_other owners extent other owner (λ same. apart cc)

pub slice_get-set_same : (owners : List Owner) (extent : ℕ) (was owner : Owner) → slice_get owners extent ≡ Some was → slice_get (set owners extent owner) extent ≡ Some owner
slice_get-set_same [] extent was owner had = cc
slice_get-set_same (x ∷ owners) zero was owner had = refl
slice_get-set_same (x ∷ owners) (suc extent) was owner had = slice_get-set_same owners extent was owner had

-- how the count of the free extents changes with the owner of one
pub free_count-set : (owners : List Owner) (extent : ℕ) (was owner : Owner) → slice_get owners extent ≡ Some was → free_count (set owners extent owner) + cond (is_free was) 1 0 ≡ free_count owners + cond (is_free owner) 1 0
free_count-set owners extent was owner had =
    rw (get_or_from_slice_get owners extent was was had) at (sum_by-set (λ other. cond (is_free other) 1 0) owners extent owner was (slice_get_within owners extent was had))

-- what is known of the other spare numbers stays true where one number's extent passes on
free-set : (owners : List Owner) (spare : List ℕ) (extent : ℕ) (owner : Owner) → All (λ number. slice_get owners number ≡ Some Free) spare → All (λ number. number ≢ extent) spare → All (λ number. slice_get (set owners extent owner) number ≡ Some Free) spare
free-set owners spare extent owner free apart = λ k d within.
    rw (slice_get-set_other owners extent (get_or spare k d) owner (apart k d within)) (free k d within)

-- an extent that is taken is none of the spare ones
apart_from_taken : (owners : List Owner) (spare : List ℕ) (extent : ℕ) (was : Owner) → All (λ number. slice_get owners number ≡ Some Free) spare → slice_get owners extent ≡ Some was → is_free was ≡ false → All (λ number. number ≢ extent) spare
apart_from_taken owners spare extent was free had taken = λ k d within same.
    let here = rw same at (free k d within) in
    cc

-- the number that is granted next is that of a free extent
last_is_free : (owners : List Owner) (rest : List ℕ) (extent room : ℕ) → IsSpare owners (rest ++ extent ∷ []) room → slice_get owners extent ≡ Some Free
last_is_free owners rest extent room h =
    rw (get_or_push rest extent 0 (length rest) refl) at (h.free (length rest) 0 (omega (arith, length_push rest extent)))

pub popped_is_free : (owners : List Owner) (old rest : List ℕ) (extent room : ℕ) → old ≡ rest ++ extent ∷ [] → IsSpare owners old room → slice_get owners extent ≡ Some Free
popped_is_free owners old rest extent room popped h =
    last_is_free owners rest extent room (subst (λ spare. IsSpare owners spare room) popped h)

-- that extent passes to an owner
IsSpare-pop : (owners : List Owner) (rest : List ℕ) (extent room : ℕ) (owner : Owner) → IsSpare owners (rest ++ extent ∷ []) room → is_free owner ≡ false → IsSpare (set owners extent owner) rest room
IsSpare-pop owners rest extent room owner h taken =
    let len = length_push rest extent in
    let front = get_or_append_left rest (extent ∷ []) in
    let next = last_is_free owners rest extent room h in
    record {
      free =
          free-set owners rest extent owner
          (λ k d within. rw (front d k within) at (h.free k d (omega arith)))
          (λ k d within same. h.apart k (length rest) d within (omega arith) (let e = front d k within in let f = get_or_push rest extent d (length rest) refl in cc));
      apart = λ i j d before within same.
          h.apart i j d before (omega arith) (let e = front d i (omega arith) in let f = front d j within in cc);
      count = grind (arith, free_count-set owners extent Free owner next, taken, h.count, len);
      room_for_all = rw length-set h.room_for_all;
      limit = rw length-set h.limit;
    }

-- the same, for the numbers before and after
pub IsSpare-grant : (owners : List Owner) (old new : List ℕ) (extent room : ℕ) (owner : Owner) → old ≡ new ++ extent ∷ [] → IsSpare owners old room → is_free owner ≡ false → IsSpare (set owners extent owner) new room
IsSpare-grant owners old new extent room owner popped h taken =
    IsSpare-pop owners new extent room owner (subst (λ spare. IsSpare owners spare room) popped h) taken

-- a taken extent passes to another owner
pub IsSpare-pass : (owners : List Owner) (spare : List ℕ) (extent room : ℕ) (was owner : Owner) → IsSpare owners spare room → slice_get owners extent ≡ Some was → is_free was ≡ false → is_free owner ≡ false → IsSpare (set owners extent owner) spare room
IsSpare-pass owners spare extent room was owner h had taken new =
    record {
      free =
          free-set owners spare extent owner h.free
          (apart_from_taken owners spare extent was h.free had taken);
      apart = h.apart;
      count = grind (arith, free_count-set owners extent was owner had, taken, new, h.count);
      room_for_all = rw length-set h.room_for_all;
      limit = rw length-set h.limit;
    }

-- a taken extent becomes free, and its number the next to be granted
pub IsSpare-free : (owners : List Owner) (old new : List ℕ) (extent room : ℕ) (more : ℕ) (was : Owner) → new ≡ old ++ extent ∷ [] → room ≤ more → IsSpare owners old room → slice_get owners extent ≡ Some was → is_free was ≡ false → IsSpare (set owners extent Free) new more
IsSpare-free owners old new extent room more was pushed grown h had taken =
    let apart = apart_from_taken owners old extent was h.free had taken in
    let len = length_push old extent in
    rw pushed record {
      free =
          All-push (λ number. slice_get (set owners extent Free) number ≡ Some Free) old extent
          (free-set owners old extent Free h.free apart) (slice_get-set_same owners extent was Free had);
      apart = all_pairs_push (λ number other. number ≢ other) old extent h.apart apart;
      count = grind (arith, free_count-set owners extent was Free had, taken, h.count, len);
      room_for_all = omega (arith, h.room_for_all, length-set owners extent Free);
      limit = rw length-set h.limit;
    }

-- some extent is taken, so there is room for one more number
pub IsSpare-room : (owners : List Owner) (spare : List ℕ) (extent room : ℕ) (was : Owner) → IsSpare owners spare room → slice_get owners extent ≡ Some was → is_free was ≡ false → length spare < room
IsSpare-room owners spare extent room was h had taken =
    grind (arith, count_by-le-length is_free (set owners extent Free), free_count-set owners extent was Free had, taken, h.count, h.room_for_all, length-set owners extent Free)

-- the numbers of a new pool's extents, the least of them the last
pub IsSpare-new : (owners : List Owner) (spare : List ℕ) (count room : ℕ) → owners ≡ replicate count Free → length spare ≡ count → ((k : ℕ) → k < length spare → slice_index spare k + k + 1 ≡ count) → count ≤ room → count ≤ EXTENTS → IsSpare owners spare room
IsSpare-new owners spare count room made len falling enough limit =
    rw made record {
      free = λ k d within.
          let number : get_or spare k d < count = omega (arith, get_or_default spare k d 0 within, falling k within) in
          rw (get_or-replicate count (get_or spare k d) Free Free number) at (slice_get-get_or (replicate count Free) (get_or spare k d) Free (omega (arith, length-replicate count Free)));
      apart = λ i j d before within same.
          let first : i < length spare = omega arith in
          omega (arith, get_or_default spare i d 0 first, get_or_default spare j d 0 within, falling i first, falling j within);
      count = omega (arith, sum_by-replicate (λ owner. cond (is_free owner) 1 0) count Free);
      room_for_all = rw length-replicate enough;
      limit = rw length-replicate limit;
    }

-- the owner of an extent that is taken
pub taken_owner : (owners : List Owner) (extent : ℕ) → IsSomeAnd (slice_get owners extent) (λ owner. owner ≢ Free) → (was : Owner) × (slice_get owners extent ≡ Some was) × (is_free was ≡ false)
taken_owner owners extent taken = some_and (slice_get owners extent) taken where
  some_and : (found : Option Owner) → IsSomeAnd found (λ owner. owner ≢ Free) → (was : Owner) × (found ≡ Some was) × (is_free was ≡ false)
  some_and (Some was) taken = (was, refl, is_free-taken was taken)
  some_and None taken = absurd taken
