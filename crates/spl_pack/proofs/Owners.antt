-- What it makes of the owners that a branch holds all that its actor was granted.
use Rattle.std.proofs.Common.{◌≡◌, ◌≢◌, ℕ, zero, suc, ◌+◌, ◌<◌, ◌≤◌, Bool, true, false, cond, List, [], ◌∷◌, Some, length, set, get_or, take, slice_get, refl, sym, ap, ◌∙◌, arith, eq-eqb}
use Rattle.std.proofs.lemmas.Bool.{false≢true, eqb-true}
use Rattle.std.proofs.lemmas.List.{map-set, take_all}
use Rattle.std.proofs.lemmas.Option.{get_or_from_slice_get}
use Rattle.std.proofs.Math.Seq.{map-set_same}
use Rattle.std.proofs.lemmas.Bool.Decides.{nat_tests}
use Rattle.spl_numbers.specs.Numbers.{has, one_if, ListsEach}
use Rattle.spl_numbers.specs.Numbers as numbers
use Rattle.spl_numbers.proofs.ListedLemmas.{times-this, times-take, taken_more, one_if-true, one_if-false}
use Rattle.spl_extent.specs.declared.owner.Owner.{Owner}
use Rattle.spl_extent.specs.declared.owner.Owner.TheVariants.{Free, Granted, Held}
use Rattle.spl_extent.specs.Pool.{is_granted, granted_to}
use Rattle.spl_state.specs.Extents.{is_held_by, held_by}
use Rattle.spl_pack.specs.Publishing.{held_all}

module _ (actor branch : ℕ) where
  abbrev pub passed : Owner → Owner
  passed owner = cond (is_granted actor owner) (Held branch) owner

  to_other : (b : Bool) (other to : ℕ) (owner : Owner) → is_granted actor owner ≡ b → other ≢ actor → is_granted other (cond b (Held branch) owner) ≡ is_granted other owner
  to_other true other to Free is apart = absurd (false≢true is)
  to_other true other to (Held held) is apart = absurd (false≢true is)
  to_other true other to (Granted whom) is apart = grind (arith, nat_tests)
  to_other false other to owner is apart = refl

  -- what others were granted they still are
  pub others_granted : (owners : List Owner) (other : ℕ) → other ≢ actor → granted_to (held_all owners actor branch) other ≡ granted_to owners other
  others_granted [] other apart = refl
  others_granted (owner ∷ owners) other apart =
      ap (λ (b : Bool). b ∷ granted_to (held_all owners actor branch) other) (to_other (is_granted actor owner) other 0 owner refl apart)
      ∙ ap (λ (rest : List Bool). is_granted other owner ∷ rest) (others_granted owners other apart)

  to_none : (b : Bool) (owner : Owner) → is_granted actor owner ≡ b → is_granted actor (cond b (Held branch) owner) ≡ false
  to_none true owner is = refl
  to_none false owner is = is

  -- the actor is granted nothing
  pub none_granted : (owners : List Owner) (extent : ℕ) → has (granted_to (held_all owners actor branch) actor) extent ≡ false
  none_granted [] extent = refl
  none_granted (owner ∷ owners) zero = to_none (is_granted actor owner) owner refl
  none_granted (owner ∷ owners) (suc extent) = none_granted owners extent

  held_here : (b : Bool) (owner : Owner) → is_held_by branch owner ≡ false → is_held_by branch (cond b (Held branch) owner) ≡ b
  held_here true owner none = eq-eqb branch branch refl
  held_here false owner none = none

  -- the branch holds what the actor was granted, if it held nothing
  pub branch_holds : (owners : List Owner) → ((extent : ℕ) → has (held_by owners branch) extent ≡ false) → held_by (held_all owners actor branch) branch ≡ granted_to owners actor
  branch_holds [] none = refl
  branch_holds (owner ∷ owners) none =
      ap (λ (b : Bool). b ∷ held_by (held_all owners actor branch) branch) (held_here (is_granted actor owner) owner (none zero))
      ∙ ap (λ (rest : List Bool). is_granted actor owner ∷ rest) (branch_holds owners (λ extent. none (suc extent)))

  held_there : (b : Bool) (other : ℕ) (owner : Owner) → is_granted actor owner ≡ b → other ≢ branch → is_held_by other (cond b (Held branch) owner) ≡ is_held_by other owner
  held_there true other Free is apart = absurd (false≢true is)
  held_there true other (Held held) is apart = absurd (false≢true is)
  held_there true other (Granted whom) is apart = grind (arith, nat_tests)
  held_there false other owner is apart = refl

  -- and every other branch what it held
  pub others_hold : (owners : List Owner) (other : ℕ) → other ≢ branch → held_by (held_all owners actor branch) other ≡ held_by owners other
  others_hold [] other apart = refl
  others_hold (owner ∷ owners) other apart =
      ap (λ (b : Bool). b ∷ held_by (held_all owners actor branch) other) (held_there (is_granted actor owner) other owner refl apart)
      ∙ ap (λ (rest : List Bool). is_held_by other owner ∷ rest) (others_hold owners other apart)

granted_here : (owners : List Owner) (actor extent : ℕ) → has (granted_to owners actor) extent ≡ true → slice_get owners extent ≡ Some (Granted actor)
granted_here [] actor extent is = absurd (false≢true is)
granted_here (owner ∷ owners) actor zero is = ap Some (by owner is)
  where
    by : (o : Owner) → is_granted actor o ≡ true → o ≡ Granted actor
    by Free wrong = absurd (false≢true wrong)
    by (Held branch) wrong = absurd (false≢true wrong)
    by (Granted to) test = ap Granted (eqb-true to actor test)
granted_here (owner ∷ owners) actor (suc extent) is = granted_here owners actor extent is

one_at_most : (b : Bool) → one_if b ≤ 1
one_at_most true = omega arith
one_at_most false = omega arith

-- While the extents are passed to the branch one by one, those that were not passed yet are granted still.
pub record Passing (old now : List Owner) (actor branch : ℕ) (passed : List ℕ) : Type 0 where
  pub same : held_all now actor branch ≡ held_all old actor branch
  pub left : (n : ℕ) → numbers.times passed n + one_if (has (granted_to now actor) n) ≡ one_if (has (granted_to old actor) n)

module _ (old now : List Owner) (actor branch : ℕ) (extents : List ℕ) (all : ListsEach extents (granted_to old actor)) (i : ℕ) (so_far : Passing old now actor branch (take i extents)) where
  abbrev next : ℕ
  next = get_or extents i 0

  module _ (within : i < length extents) where
    has_next : has (granted_to now actor) next ≡ true
    has_next =
        let more = times-this extents i next within refl in
        let most = times-take extents (i + 1) next in
        let is = all next in
        let left = so_far.left next in
        let one = one_at_most (has (granted_to old actor) next) in
        one_if-true (has (granted_to now actor) next) (omega arith)

    pub next_granted : slice_get now next ≡ Some (Granted actor)
    next_granted = granted_here now actor next has_next

    pub passes_next : Passing old (set now next (Held branch)) actor branch (take (i + 1) extents)
    passes_next = record {
      same = map-set_same (passed actor branch) now next (Held branch) (Granted actor)
          (sym (ap (passed actor branch) (get_or_from_slice_get now next (Granted actor) (Granted actor) next_granted) ∙ ap (λ (b : Bool). cond b (Held branch) (Granted actor)) (eq-eqb actor actor refl)))
          ∙ so_far.same;
      left = λ n.
          let gone = ap (λ (members : List Bool). one_if (has members n)) (map-set (is_granted actor) now next (Held branch)) in
          let more = taken_more extents (granted_to now actor) i n within has_next in
          let before = so_far.left n in
          omega arith;
    }

  pub all_passed : length extents ≤ i → now ≡ held_all old actor branch
  all_passed past =
      let none : (n : ℕ) → has (granted_to now actor) n ≡ false = λ n.
      let whole = ap (λ (list : List ℕ). numbers.times list n) (take_all i extents past) in
      let left = so_far.left n in
      let is = all n in
      one_if-false (has (granted_to now actor) n) (omega arith) in
      sym (all_stay now none) ∙ so_far.same
    where
      stays : (b : Bool) (owner : Owner) → b ≡ false → cond b (Held branch) owner ≡ owner
      stays true owner wrong = absurd (false≢true (sym wrong))
      stays false owner is = refl

      all_stay : (owners : List Owner) → ((n : ℕ) → has (granted_to owners actor) n ≡ false) → held_all owners actor branch ≡ owners
      all_stay [] none = refl
      all_stay (owner ∷ owners) none =
          ap (λ (first : Owner). first ∷ held_all owners actor branch) (stays (is_granted actor owner) owner (none zero)) ∙ ap (λ (rest : List Owner). owner ∷ rest) (all_stay owners (λ n. none (suc n)))
