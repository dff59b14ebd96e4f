-- An extent more in the list of those that an actor was granted.
use Rattle.std.proofs.Common.{◌≡◌, ◌≢◌, ℕ, ◌+◌, ◌<◌, Bool, true, false, eqb, List, [], ◌∷◌, ◌++◌, length, set, slice_get, Some, refl, sym, ap, subst, ◌∙◌, ⊎_elim, arith}
use Rattle.std.proofs.lemmas.Bool.{cases_eq}
use Rattle.std.proofs.lemmas.Bool.Decides.{nat_tests}
use Rattle.std.proofs.lemmas.List.{get_or-set_same, get_or-set_other, get_or-map, length-map, map-set}
use Rattle.std.proofs.lemmas.List.Sums.{sum_by-append}
use Rattle.std.proofs.lemmas.Option.{get_or_from_slice_get, slice_get_within}
use Rattle.spl_numbers.specs.Numbers.{has, times, one_if, ListsEach}
use Rattle.spl_extent.specs.declared.owner.Owner.{Owner}
use Rattle.spl_extent.specs.declared.owner.Owner.TheVariants.{Free, Granted}
use Rattle.spl_extent.specs.Pool.{granted_to, is_granted}

granted_self : (actor : ℕ) → is_granted actor (Granted actor) ≡ true
granted_self actor = grind (arith, nat_tests)

eqb_self : (n : ℕ) → eqb n n ≡ true
eqb_self n = grind (arith, nat_tests)

eqb_other : (n other : ℕ) → n ≢ other → eqb n other ≡ false
eqb_other n other apart = grind (arith, nat_tests)

add_none : (n : ℕ) → n + 0 ≡ n
add_none n = omega arith

times_more : (xs : List ℕ) (e n : ℕ) → times (xs ++ e ∷ []) n ≡ times xs n + one_if (eqb e n)
times_more xs e n =
    let all = sum_by-append (λ (other : ℕ). one_if (eqb other n)) xs (e ∷ []) in
    omega (arith, all)

module _ (owners : List Owner) (actor extent : ℕ) (free : slice_get owners extent ≡ Some Free) where
  abbrev before : List Bool
  before = granted_to owners actor

  after_is : granted_to (set owners extent (Granted actor)) actor ≡ set before extent true
  after_is = map-set (is_granted actor) owners extent (Granted actor) ∙ ap (λ (b : Bool). set before extent b) (granted_self actor)

  inside : extent < length owners
  inside = slice_get_within owners extent Free free

  within : extent < length before
  within = subst (λ (n : ℕ). extent < n) (sym (length-map owners (is_granted actor))) inside

  was_not : has before extent ≡ false
  was_not = get_or-map (is_granted actor) owners extent Free false inside ∙ ap (is_granted actor) (get_or_from_slice_get owners extent Free Free free)

  more : (n : ℕ) → one_if (has (set before extent true) n) ≡ one_if (has before n) + one_if (eqb extent n)
  more n =
      ⊎_elim
      (λ (same : extent ≡ n).
      let there : has (set before extent true) n ≡ true = ap (has (set before extent true)) (sym same) ∙ get_or-set_same before extent true false within in
      let none : has before n ≡ false = ap (has before) (sym same) ∙ was_not in
      let here : eqb extent n ≡ true = ap (eqb extent) (sym same) ∙ eqb_self extent in
      rw (there, none, here) refl)
      (λ apart.
      let left : has (set before extent true) n ≡ has before n = get_or-set_other before extent n true false (λ e. apart (sym e)) in
      ap one_if left ∙ sym (ap (λ (b : Bool). one_if (has before n) + one_if b) (eqb_other extent n apart) ∙ add_none (one_if (has before n))))
      (cases_eq extent n)

  pub lists_more : (extents : List ℕ) → ListsEach extents before → ListsEach (extents ++ extent ∷ []) (granted_to (set owners extent (Granted actor)) actor)
  lists_more extents lists = λ n.
      times_more extents extent n
      ∙ ap (λ (m : ℕ). m + one_if (eqb extent n)) (lists n)
      ∙ sym (more n)
      ∙ ap (λ (members : List Bool). one_if (has members n)) (sym after_is)
