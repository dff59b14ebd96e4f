-- What a change of one extent's owner leaves of the actors' grants.
use Rattle.std.proofs.Common.{◌≡◌, ◌≢◌, ℕ, zero, suc, ◌+◌, ◌<◌, ◌≤◌, List, [], ◌∷◌, ◌++◌, length, get_or, set, slice_get, replicate, map, Some, Bool, true, false, cond, eqb, refl, ⊎_elim, ap, sym, subst, ◌∙◌, arith}
use Rattle.std.proofs.lemmas.List.{length-set, length_push, get_or_push, get_or_append_left, get_or-set_same, get_or-set_other, get_or_default, map-set, same_lists, get_or-replicate, length-replicate, length-map, get_or-map}
use Rattle.std.proofs.lemmas.Option.{get_or_from_slice_get, slice_get_within, slice_get-get_or, same_Some}
use Rattle.std.proofs.lemmas.Bool.{cases_eq}
use Rattle.std.proofs.lemmas.Bool.Decides.{nat_tests}
use Rattle.std.proofs.Math.Seq.{map-set_same}
use Rattle.spl_numbers.specs.Numbers.{has, size_of}
use Rattle.spl_numbers.proofs.LevelLemmas.{size_of-set}
use Rattle.spl_numbers.proofs.ListedLemmas.{none_has}
use Rattle.spl_extent.specs.declared.owner.Owner.{Owner}
use Rattle.spl_extent.specs.declared.owner.Owner.TheVariants.{Free, Granted, Held}
use Rattle.spl_base.specs.declared.TheConstants.{ACTORS}
use Rattle.spl_extent.specs.declared.pool.TheConstants.{EXTENTS}
use Rattle.spl_extent.specs.Pool.{is_free, is_granted, granted_to, without_grants}
use Rattle.spl_extent.specs.Spare.{IsSpare}
use Rattle.spl_extent.specs.Kept.{IsKept}
use Rattle.spl_extent.proofs.PoolLemmas.{IsSpare-grant, IsSpare-pass, IsSpare-free}

granted_same : (actor : ℕ) → is_granted actor (Granted actor) ≡ true
granted_same actor = grind (arith, nat_tests)

granted_other : (actor other : ℕ) → other ≢ actor → is_granted other (Granted actor) ≡ false
granted_other actor other apart = grind (arith, nat_tests)

-- the sets of all actors after a change of one extent's owner that only this actor's set shows
each-change : (owners : List Owner) (granted : List (List Bool)) (actor extent : ℕ) (was owner : Owner) (lent numbers : List Bool) → length granted ≡ ACTORS → ((other : ℕ) → other < ACTORS → get_or granted other [] ≡ granted_to owners other) → actor < ACTORS → slice_get owners extent ≡ Some was → lent ≡ get_or granted actor lent → numbers ≡ set lent extent (is_granted actor owner) → ((other : ℕ) → other ≢ actor → is_granted other owner ≡ is_granted other was) → (other : ℕ) → other < ACTORS → get_or (set granted actor numbers) other [] ≡ granted_to (set owners extent owner) other
each-change owners granted actor extent was owner lent numbers len each known had read wrote others other among =
    ⊎_elim
    (λ (same : other ≡ actor).
    let lent_is : lent ≡ granted_to owners actor = read ∙ get_or_default granted actor lent [] (omega arith) ∙ each actor known in
    rw same
    (get_or-set_same granted actor numbers [] (omega arith)
    ∙ wrote ∙ ap (λ l. set l extent (is_granted actor owner)) lent_is
    ∙ sym (map-set (is_granted actor) owners extent owner)))
    (λ apart.
    get_or-set_other granted actor other numbers [] apart
    ∙ each other among
    ∙ sym (map-set_same (is_granted other) owners extent owner was (others other apart ∙ sym (ap (is_granted other) (get_or_from_slice_get owners extent was was had)))))
    (cases_eq other actor)

pub IsKept-grant : (owners : List Owner) (old new : List ℕ) (room actor extent : ℕ) (granted : List (List Bool)) (lent numbers : List Bool) → IsKept owners old room granted → old ≡ new ++ extent ∷ [] → slice_get owners extent ≡ Some Free → actor < ACTORS → lent ≡ get_or granted actor lent → numbers ≡ set lent extent true → IsKept (set owners extent (Granted actor)) new room (set granted actor numbers)
IsKept-grant owners old new room actor extent granted lent numbers h popped had known read wrote =
    let wrote_is : numbers ≡ set lent extent (is_granted actor (Granted actor)) = wrote ∙ ap (λ b. set lent extent b) (sym (granted_same actor)) in
    record {
      free = IsSpare-grant owners old new extent room (Granted actor) popped h.free refl;
      actors = length-set granted actor numbers ∙ h.actors;
      each = each-change owners granted actor extent Free (Granted actor) lent numbers h.actors h.each known had read wrote_is (λ other apart. granted_other actor other apart);
    }

pub IsKept-hold : (owners : List Owner) (spare : List ℕ) (room actor extent branch : ℕ) (granted : List (List Bool)) (lent numbers : List Bool) → IsKept owners spare room granted → slice_get owners extent ≡ Some (Granted actor) → actor < ACTORS → lent ≡ get_or granted actor lent → numbers ≡ set lent extent false → IsKept (set owners extent (Held branch)) spare room (set granted actor numbers)
IsKept-hold owners spare room actor extent branch granted lent numbers h had known read wrote =
    record {
      free = IsSpare-pass owners spare extent room (Granted actor) (Held branch) h.free had refl refl;
      actors = length-set granted actor numbers ∙ h.actors;
      each = each-change owners granted actor extent (Granted actor) (Held branch) lent numbers h.actors h.each known had read wrote (λ other apart. sym (granted_other actor other apart));
    }

pub IsKept-give_back : (owners : List Owner) (old new : List ℕ) (room more actor extent : ℕ) (granted : List (List Bool)) (lent numbers : List Bool) → IsKept owners old room granted → new ≡ old ++ extent ∷ [] → room ≤ more → slice_get owners extent ≡ Some (Granted actor) → actor < ACTORS → lent ≡ get_or granted actor lent → numbers ≡ set lent extent false → IsKept (set owners extent Free) new more (set granted actor numbers)
IsKept-give_back owners old new room more actor extent granted lent numbers h pushed grown had known read wrote =
    record {
      free = IsSpare-free owners old new extent room more (Granted actor) pushed grown h.free had refl;
      actors = length-set granted actor numbers ∙ h.actors;
      each = each-change owners granted actor extent (Granted actor) Free lent numbers h.actors h.each known had read wrote (λ other apart. sym (granted_other actor other apart));
    }

pub IsKept-release : (owners : List Owner) (old new : List ℕ) (room more branch extent : ℕ) (granted : List (List Bool)) → IsKept owners old room granted → new ≡ old ++ extent ∷ [] → room ≤ more → slice_get owners extent ≡ Some (Held branch) → IsKept (set owners extent Free) new more granted
IsKept-release owners old new room more branch extent granted h pushed grown had =
    record {
      free = IsSpare-free owners old new extent room more (Held branch) pushed grown h.free had refl;
      actors = h.actors;
      each = λ actor known.
          h.each actor known ∙ sym (map-set_same (is_granted actor) owners extent Free (Held branch) (sym (ap (is_granted actor) (get_or_from_slice_get owners extent (Held branch) (Held branch) had))));
    }

-- in a new pool nobody was granted anything
pub granted_to-new : (count actor : ℕ) → granted_to (replicate count Free) actor ≡ replicate count false
granted_to-new count actor =
    let len : length (granted_to (replicate count Free) actor) ≡ count = length-map (replicate count Free) (is_granted actor) ∙ length-replicate count Free in
    same_lists (granted_to (replicate count Free) actor) (replicate count false) (len ∙ sym (length-replicate count false))
    (λ k d within.
    let below : k < count = omega arith in
    get_or-map (is_granted actor) (replicate count Free) k Free d (omega (arith, length-replicate count Free))
    ∙ ap (is_granted actor) (get_or-replicate count k Free Free below)
    ∙ sym (get_or-replicate count k false d below))

pub IsKept-new : (owners : List Owner) (spare : List ℕ) (count room : ℕ) (granted : List (List Bool)) → owners ≡ replicate count Free → IsSpare owners spare room → length granted ≡ ACTORS → ((k : ℕ) → k < length granted → get_or granted k [] ≡ replicate count false) → IsKept owners spare room granted
IsKept-new owners spare count room granted made free len none =
    record {
      free = free;
      actors = len;
      each = λ actor known. none actor (omega arith) ∙ sym (granted_to-new count actor) ∙ ap (λ o. granted_to o actor) (sym made);
    }

-- ---- giving all back

slice_get-granted_to : (owners : List Owner) (actor extent : ℕ) → slice_get owners extent ≡ Some (Granted actor) → slice_get (granted_to owners actor) extent ≡ Some true
slice_get-granted_to [] actor extent had = cc
slice_get-granted_to (owner ∷ owners) actor zero had =
    ap Some (ap (is_granted actor) (same_Some owner (Granted actor) had) ∙ granted_same actor)
slice_get-granted_to (owner ∷ owners) actor (suc extent) had = slice_get-granted_to owners actor extent had

pub fewer_grants : (owners : List Owner) (actor extent : ℕ) → slice_get owners extent ≡ Some (Granted actor) → size_of (granted_to (set owners extent Free) actor) < size_of (granted_to owners actor)
fewer_grants owners actor extent had =
    rw (map-set (is_granted actor) owners extent Free) (omega (arith, size_of-set (granted_to owners actor) extent true false (slice_get-granted_to owners actor extent had)))

pub without_grants-set : (owners : List Owner) (actor extent : ℕ) → slice_get owners extent ≡ Some (Granted actor) → without_grants (set owners extent Free) actor ≡ without_grants owners actor
without_grants-set owners actor extent had =
    map-set_same (λ owner. cond (is_granted actor owner) Free owner) owners extent Free Free
    (sym (ap (λ owner. cond (is_granted actor owner) Free owner) (get_or_from_slice_get owners extent (Granted actor) Free had) ∙ ap (λ b. cond b Free (Granted actor)) (granted_same actor)))

stays : (b : Bool) (owner : Owner) → b ≡ false → cond b Free owner ≡ owner
stays true owner wrong = cc
stays false owner none = refl

all_stay : (owners : List Owner) (actor : ℕ) → ((n : ℕ) → has (granted_to owners actor) n ≡ false) → without_grants owners actor ≡ owners
all_stay [] actor none = refl
all_stay (owner ∷ owners) actor none =
    ap (λ first. first ∷ without_grants owners actor) (stays (is_granted actor owner) owner (none zero)) ∙ ap (λ rest. owner ∷ rest) (all_stay owners actor (λ n. none (suc n)))

-- where the actor has no grant, nothing changes
pub without_grants-none : (owners : List Owner) (actor : ℕ) → size_of (granted_to owners actor) ≡ 0 → without_grants owners actor ≡ owners
without_grants-none owners actor empty = all_stay owners actor (none_has (granted_to owners actor) empty)
