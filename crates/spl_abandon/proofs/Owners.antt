-- The owners of the extents after an actor's grants are given back.
use Rattle.std.proofs.Common.{◌≡◌, ◌≢◌, ℕ, zero, suc, Bool, true, false, nat_eq, if◌then◌else◌, List, [], ◌∷◌, length, refl, sym, ap₂, ◌∙◌}
use Rattle.std.proofs.lemmas.List.{length-map}
use Rattle.std.proofs.lemmas.Bool.{eqb-true, ne_eqb}
use Rattle.spl_numbers.specs.Numbers.{has}
use Rattle.spl_extent.specs.declared.owner.Owner.{Owner}
use Rattle.spl_extent.specs.declared.owner.Owner.TheVariants.{Free, Granted, Held}
use Rattle.spl_extent.specs.Pool.{granted_to, is_granted, without_grants}
use Rattle.spl_state.specs.Extents.{held_by, is_held_by}

module _ (actor : ℕ) where
  abbrev given_back : Owner → Owner
  given_back owner = if is_granted actor owner then Free else owner

  held_one : (owner : Owner) (branch : ℕ) → is_held_by branch (given_back owner) ≡ is_held_by branch owner
  held_one Free branch = refl
  held_one (Held other) branch = refl
  held_one (Granted to) branch = by (nat_eq to actor)
    where
      by : (mine : Bool) → is_held_by branch (if mine then Free else Granted to) ≡ false
      by true = refl
      by false = refl

  -- each branch holds what it held
  pub held_stays : (owners : List Owner) (branch : ℕ) → held_by (without_grants owners actor) branch ≡ held_by owners branch
  held_stays [] branch = refl
  held_stays (owner ∷ owners) branch = ap₂ (λ (b : Bool) (bs : List Bool). b ∷ bs) (held_one owner branch) (held_stays owners branch)

  granted_one : (owner : Owner) (other : ℕ) → other ≢ actor → is_granted other (given_back owner) ≡ is_granted other owner
  granted_one Free other apart = refl
  granted_one (Held branch) other apart = refl
  granted_one (Granted to) other apart = by (nat_eq to actor) refl
    where
      by : (mine : Bool) → nat_eq to actor ≡ mine → is_granted other (if mine then Free else Granted to) ≡ nat_eq to other
      by true mine = sym (ne_eqb to other (λ same. apart (sym same ∙ eqb-true to actor mine)))
      by false mine = refl

  -- every other actor is granted what it was
  pub granted_stays : (owners : List Owner) (other : ℕ) → other ≢ actor → granted_to (without_grants owners actor) other ≡ granted_to owners other
  granted_stays [] other apart = refl
  granted_stays (owner ∷ owners) other apart = ap₂ (λ (b : Bool) (bs : List Bool). b ∷ bs) (granted_one owner other apart) (granted_stays owners other apart)

  granted_none : (owner : Owner) → is_granted actor (given_back owner) ≡ false
  granted_none Free = refl
  granted_none (Held branch) = refl
  granted_none (Granted to) = by (nat_eq to actor) refl
    where
      by : (mine : Bool) → nat_eq to actor ≡ mine → is_granted actor (if mine then Free else Granted to) ≡ false
      by true mine = refl
      by false mine = mine

  -- and the actor nothing
  pub nothing_granted : (owners : List Owner) (extent : ℕ) → has (granted_to (without_grants owners actor) actor) extent ≡ false
  nothing_granted [] extent = refl
  nothing_granted (owner ∷ owners) zero = granted_none owner
  nothing_granted (owner ∷ owners) (suc extent) = nothing_granted owners extent

  -- there are as many extents
  pub extents_stay : (owners : List Owner) → length (without_grants owners actor) ≡ length owners
  extents_stay owners = length-map owners given_back
