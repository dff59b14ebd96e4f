-- A name that ends, and the extents of a branch that nothing names any more.
use Rattle.std.proofs.Common.{◌≡◌, ◌≢◌, ℕ, zero, suc, ◌+◌, ◌<◌, ◌≤◌, Bool, true, false, cond, nat_eq, List, [], ◌∷◌, ◌++◌, Option, Some, None, map, length, get_or, set, drop, refl, sym, ap, subst, ◌∙◌, inl, inr, arith, eq-eqb}
use Rattle.std.specs.Prelude.{IsSome, IfSome, ◌↔◌, ◌-◌, slice_get, slice_set, unwrap_or}
use Rattle.std.specs.Option.{option_map}
use Rattle.std.proofs.Math.ListN.{length-set}
use Rattle.std.proofs.lemmas.Bool.{cases_eq, false≢true}
use Rattle.std.proofs.lemmas.Bool.Decides.{nat_tests}
use Rattle.std.proofs.lemmas.List.Sums.{sum_by-cons}
use Rattle.spl_numbers.specs.Numbers.{has, ListsEach, one_if}
use Rattle.spl_numbers.specs.Numbers as numbers
use Rattle.spl_numbers.proofs.ListedLemmas.{has_within, slice_get-has, one_if-true}
use Rattle.spl_extent.specs.declared.owner.Owner.{Owner}
use Rattle.spl_extent.specs.declared.owner.Owner.TheVariants.{Free, Granted, Held}
use Rattle.spl_extent.specs.Pool.{granted_to, is_granted}
use Rattle.spl_refs.specs.Refs.{Published, held_at, branch_at, count_at, one_less, last_of, SetsAt, CountsAt}
use Rattle.spl_trunk.specs.Tree.{times}
use Rattle.spl_state.specs.Extents.{held_by, is_held_by}
use Rattle.spl_state.specs.Names.{IsFreed, AreAccounted}

-- how often a number stands in a list with one more
pub times-cons : (n x : ℕ) (xs : List ℕ) → times n (x ∷ xs) ≡ cond (nat_eq x n) 1 0 + times n xs
times-cons n x xs = sum_by-cons (λ (other : ℕ). cond (nat_eq other n) 1 0) x xs

apart_test : (x n : ℕ) → x ≢ n → nat_eq x n ≡ false
apart_test x n apart = grind (arith, nat_tests)

pub times_this : (n : ℕ) (xs : List ℕ) → times n (n ∷ xs) ≡ 1 + times n xs
times_this n xs = times-cons n n xs ∙ ap (λ (b : Bool). cond b 1 0 + times n xs) (eq-eqb n n refl)

pub times_other : (n x : ℕ) (xs : List ℕ) → x ≢ n → times n (x ∷ xs) ≡ times n xs
times_other n x xs apart =
    let none : times n (x ∷ xs) ≡ 0 + times n xs = times-cons n x xs ∙ ap (λ (b : Bool). cond b 1 0 + times n xs) (apart_test x n apart) in
    omega arith

listed-cons : (n x : ℕ) (xs : List ℕ) → numbers.times (x ∷ xs) n ≡ cond (nat_eq x n) 1 0 + numbers.times xs n
listed-cons n x xs = sum_by-cons (λ (other : ℕ). cond (nat_eq other n) 1 0) x xs

listed_this : (n : ℕ) (xs : List ℕ) → numbers.times (n ∷ xs) n ≡ 1 + numbers.times xs n
listed_this n xs = listed-cons n n xs ∙ ap (λ (b : Bool). cond b 1 0 + numbers.times xs n) (eq-eqb n n refl)

listed_other : (n x : ℕ) (xs : List ℕ) → x ≢ n → numbers.times (x ∷ xs) n ≡ numbers.times xs n
listed_other n x xs apart =
    let none : numbers.times (x ∷ xs) n ≡ 0 + numbers.times xs n = listed-cons n x xs ∙ ap (λ (b : Bool). cond b 1 0 + numbers.times xs n) (apart_test x n apart) in
    omega arith

-- what the owners say of an extent
at_extent : (owners : List Owner) (number extent : ℕ) → has (held_by owners number) extent ≡ is_held_by number (get_or owners extent Free)
at_extent [] number extent = refl
at_extent (owner ∷ owners) number zero = refl
at_extent (owner ∷ owners) number (suc extent) = at_extent owners number extent

is_held : (owner : Owner) (number : ℕ) → is_held_by number owner ≡ true → owner ≡ Held number
is_held Free number held = absurd (false≢true held)
is_held (Granted actor) number held = absurd (false≢true held)
is_held (Held branch) number held = grind (arith)

-- an extent that the branch holds
held_here : (owners : List Owner) (number extent : ℕ) → has (held_by owners number) extent ≡ true → slice_get owners extent ≡ Some (Held number)
held_here [] number extent held = absurd (false≢true held)
held_here (owner ∷ owners) number zero held = ap (λ (o : Owner). Some o) (is_held owner number held)
held_here (owner ∷ owners) number (suc extent) held = held_here owners number extent held

-- after it is freed
freed_here : (owners : List Owner) (number extent : ℕ) → has (held_by (slice_set owners extent Free) number) extent ≡ false
freed_here [] number extent = refl
freed_here (owner ∷ owners) number zero = refl
freed_here (owner ∷ owners) number (suc extent) = freed_here owners number extent

freed_elsewhere : (owners : List Owner) (number extent other : ℕ) → other ≢ extent → has (held_by (slice_set owners extent Free) number) other ≡ has (held_by owners number) other
freed_elsewhere [] number extent other apart = refl
freed_elsewhere (owner ∷ owners) number zero zero apart = absurd (apart refl)
freed_elsewhere (owner ∷ owners) number zero (suc other) apart = refl
freed_elsewhere (owner ∷ owners) number (suc extent) zero apart = refl
freed_elsewhere (owner ∷ owners) number (suc extent) (suc other) apart = freed_elsewhere owners number extent other (λ same. apart (ap (λ (n : ℕ). suc n) same))

freed_granted : (owners : List Owner) (number extent actor : ℕ) → slice_get owners extent ≡ Some (Held number) → granted_to (slice_set owners extent Free) actor ≡ granted_to owners actor
freed_granted [] number extent actor held = refl
freed_granted (owner ∷ owners) number zero actor held =
    let is : owner ≡ Held number = cc in
    rw is refl
freed_granted (owner ∷ owners) number (suc extent) actor held = ap (λ (rest : List Bool). is_granted actor owner ∷ rest) (freed_granted owners number extent actor held)

-- what is left of a branch's extents while they are freed
pub record Freeing (old now : List Owner) (branch : ℕ) (left : List ℕ) : Type 0 where
  pub count : length now ≡ length old
  pub listed : ListsEach left (held_by now branch)
  pub others : (other extent : ℕ) → other ≢ branch → has (held_by now other) extent ≡ has (held_by old other) extent
  pub granted : (actor : ℕ) → granted_to now actor ≡ granted_to old actor

pub begins_freeing : (owners : List Owner) (branch : ℕ) (extents : List ℕ) → ListsEach extents (held_by owners branch) → Freeing owners owners branch extents
begins_freeing owners branch extents lists = record { count = refl; listed = lists; others = λ other extent apart. refl; granted = λ actor. refl }

listed_first : (extent : ℕ) (left : List ℕ) (members : List Bool) → ListsEach (extent ∷ left) members → has members extent ≡ true
listed_first extent left members lists =
    let here = listed_this extent left in
    let is = lists extent in
    one_if-true (has members extent) (omega arith)

pub next_is_held : (old now : List Owner) (branch extent : ℕ) (left : List ℕ) → Freeing old now branch (extent ∷ left) → slice_get now extent ≡ Some (Held branch)
next_is_held old now branch extent left freeing = held_here now branch extent (listed_first extent left (held_by now branch) freeing.listed)

other_not_held : (owners : List Owner) (branch other extent : ℕ) → other ≢ branch → slice_get owners extent ≡ Some (Held branch) → has (held_by owners other) extent ≡ false
other_not_held [] branch other extent apart held = refl
other_not_held (owner ∷ owners) branch other zero apart held =
    let is : owner ≡ Held branch = cc in
    rw is (grind (arith))
other_not_held (owner ∷ owners) branch other (suc extent) apart held = other_not_held owners branch other extent apart held

pub frees_next : (old now : List Owner) (branch extent : ℕ) (left : List ℕ) → Freeing old now branch (extent ∷ left) → Freeing old (slice_set now extent Free) branch left
frees_next old now branch extent left freeing =
    let held = next_is_held old now branch extent left freeing in
    let first = listed_first extent left (held_by now branch) freeing.listed in
    record {
      count = length-set now extent Free ∙ freeing.count;
      listed = λ number. elim (cases_eq number extent) [
        | inl same ↦
            let here = listed_this extent left in
            let is = freeing.listed extent ∙ ap one_if first in
            let none : numbers.times left extent ≡ 0 = omega arith in
            subst (λ (n : ℕ). numbers.times left n ≡ one_if (has (held_by (slice_set now extent Free) branch) n)) (sym same) (none ∙ sym (ap one_if (freed_here now branch extent)))
        | inr other ↦
            let here = listed_other number extent left (λ same. other (sym same)) in
            sym here ∙ freeing.listed number ∙ sym (ap one_if (freed_elsewhere now branch extent number other))
      ];
      others = λ other number apart. elim (cases_eq number extent) [
        | inl same ↦
            let before = other_not_held now branch other extent apart held in
            let after = freed_here now other extent in
            subst (λ (n : ℕ). has (held_by (slice_set now extent Free) other) n ≡ has (held_by old other) n) (sym same) (after ∙ sym before ∙ freeing.others other extent apart)
        | inr away ↦ freed_elsewhere now other extent number away ∙ freeing.others other number apart
      ];
      granted = λ actor. freed_granted now branch extent actor held ∙ freeing.granted actor;
    }

none_listed : (members : List Bool) → ListsEach [] members → (extent : ℕ) → has members extent ≡ false
none_listed members lists extent = grind (arith, lists extent)

pub ends_freed : (old now : List Owner) (branch : ℕ) → Freeing old now branch [] → IsFreed old now branch
ends_freed old now branch freeing = record { count = freeing.count; freed = none_listed (held_by now branch) freeing.listed; others = freeing.others; granted = freeing.granted }

module _ {B : Type 0} (extents_of : B → List ℕ) (number : ℕ) (rest : List ℕ) (refs : Published B) (owners : List Owner) (accounted : AreAccounted extents_of (number ∷ rest) refs owners) where
  -- a branch that is named stands
  pub stands_named : IsSome (held_at refs number)
  stands_named =
      let all = times_this number rest in
      let is = accounted.counts number in
      let above : 0 < count_at refs number = omega arith in
      stands_there (held_at refs number) ((accounted.stands number).1 above)
    where
      stands_there : (held : Option (ℕ × B)) → IsSome (option_map (λ h. h.1) held) → IsSome held
      stands_there None some = some
      stands_there (Some h) some = some

-- what one name less leaves at a number, and what is given out
one_less_stands : {B : Type 0} (held : Option (ℕ × B)) → IfSome held (λ h. 0 < h.0) → IsSome (option_map (λ (h : ℕ × B). h.1) (one_less held)) ↔ (0 < unwrap_or (option_map (λ (h : ℕ × B). h.0) (one_less held)) 0)
one_less_stands {B = B} None above = ((λ some. absurd (false≢true some)), λ more. absurd (omega arith))
one_less_stands {B = B} (Some h) above = by (nat_eq h.0 1) refl
  where
    by : (last : Bool) → nat_eq h.0 1 ≡ last → IsSome (option_map (λ (h : ℕ × B). h.1) (cond last None (Some (h.0 - 1, h.1)))) ↔ (0 < unwrap_or (option_map (λ (h : ℕ × B). h.0) (cond last None (Some (h.0 - 1, h.1)))) 0)
    by true is = ((λ some. absurd (false≢true some)), λ more. absurd (omega arith))
    by false is =
        let more : h.0 ≢ 1 = λ one. absurd (false≢true (sym is ∙ eq-eqb h.0 1 one)) in
        ((λ some. omega arith), λ below. refl)

above_none : {B : Type 0} (held : Option (ℕ × B)) → (IsSome (option_map (λ (h : ℕ × B). h.1) held) → 0 < unwrap_or (option_map (λ (h : ℕ × B). h.0) held) 0) → IfSome held (λ h. 0 < h.0)
above_none None above = tt
above_none (Some h) above = above refl

gone_at : {B : Type 0} (o : Option B) (count : ℕ) → IsSome o ↔ (0 < count) → count ≡ 0 → o ≡ None
gone_at None count stands none = refl
gone_at (Some branch) count stands none = absurd (omega (arith, stands.0 refl))

-- one name less: a branch of which it was the last is gone, and its extents are free
module _ {B : Type 0} (extents_of : B → List ℕ) (number : ℕ) (rest : List ℕ) (refs new : Published B) (owners after : List Owner) (accounted : AreAccounted extents_of (number ∷ rest) refs owners) (cell : SetsAt refs new number (one_less (held_at refs number))) (counts : CountsAt refs new number (count_at refs number - 1)) (branches : (other : ℕ) → 0 < count_at new other → branch_at new other ≡ branch_at refs other) where
  same_branch : (n : ℕ) → n ≢ number → branch_at new n ≡ branch_at refs n
  same_branch n other = ap (λ (held : Option (ℕ × B)). option_map (λ h. h.1) held) (cell.other_numbers n other)

  fewer : (n : ℕ) → count_at new n ≡ times n rest
  fewer n = elim (cases_eq n number) [
    | inl same ↦
        let all = times_this number rest in
        let is = accounted.counts number in
        let this = counts.this_number in
        let at_number : count_at new number ≡ times number rest = omega arith in
        subst (λ (m : ℕ). count_at new m ≡ times m rest) (sym same) at_number
    | inr other ↦ counts.other_numbers n other ∙ accounted.counts n ∙ times_other n number rest (λ same. other (sym same))
  ]

  still_stands : (n : ℕ) → IsSome (branch_at new n) ↔ (0 < count_at new n)
  still_stands n = elim (cases_eq n number) [
    | inl same ↦
        let there : IsSome (option_map (λ h. h.1) (held_at new number)) ↔ (0 < unwrap_or (option_map (λ h. h.0) (held_at new number)) 0) = rw cell.this_number (one_less_stands (held_at refs number) (above_none (held_at refs number) (accounted.stands number).0)) in
        subst (λ (m : ℕ). IsSome (branch_at new m) ↔ (0 < count_at new m)) (sym same) there
    | inr other ↦ rw (same_branch n other, counts.other_numbers n other) (accounted.stands n)
  ]

  pub kept_accounted : count_at refs number ≢ 1 → AreAccounted extents_of rest new owners
  kept_accounted more =
      let all = times_this number rest in
      let is = accounted.counts number in
      let this = counts.this_number in
      let left : 0 < count_at new number = omega (arith, more) in
      let here = branches number left in
      record {
        counts = fewer;
        stands = still_stands;
        held = λ n. elim (cases_eq n number) [
          | inl same ↦ subst (λ (m : ℕ). IfSome (branch_at new m) (λ branch. ListsEach (extents_of branch) (held_by owners m))) (sym same) (rw here (accounted.held number))
          | inr other ↦ rw (same_branch n other) (accounted.held n)
        ];
        not_held = λ n extent none. elim (cases_eq n number) [
          | inl same ↦ accounted.not_held n extent (subst (λ (m : ℕ). branch_at refs m ≡ None) (sym same) (sym here ∙ subst (λ (m : ℕ). branch_at new m ≡ None) same none))
          | inr other ↦ accounted.not_held n extent (sym (same_branch n other) ∙ none)
        ];
      }

  listed_same : (o : Option B) (n : ℕ) → ((extent : ℕ) → has (held_by after n) extent ≡ has (held_by owners n) extent) → IfSome o (λ branch. ListsEach (extents_of branch) (held_by owners n)) → IfSome o (λ branch. ListsEach (extents_of branch) (held_by after n))
  listed_same None n same lists = tt
  listed_same (Some branch) n same lists = λ extent. lists extent ∙ sym (ap one_if (same extent))

  pub freed_accounted : count_at refs number ≡ 1 → IsFreed owners after number → AreAccounted extents_of rest new after
  freed_accounted one freed =
      let this = counts.this_number in
      let none_left : count_at new number ≡ 0 = omega arith in
      let gone = gone_at (branch_at new number) (count_at new number) (still_stands number) none_left in
      record {
        counts = fewer;
        stands = still_stands;
        held = λ n. elim (cases_eq n number) [
          | inl same ↦ subst (λ (m : ℕ). IfSome (branch_at new m) (λ branch. ListsEach (extents_of branch) (held_by after m))) (sym same) (rw gone tt)
          | inr other ↦ listed_same (branch_at new n) n (λ extent. freed.others n extent other) (rw (same_branch n other) (accounted.held n))
        ];
        not_held = λ n extent none. elim (cases_eq n number) [
          | inl same ↦ subst (λ (m : ℕ). has (held_by after m) extent ≡ false) (sym same) (freed.freed extent)
          | inr other ↦ freed.others n extent other ∙ accounted.not_held n extent (sym (same_branch n other) ∙ none)
        ];
      }

-- while the names of a list end, those of the list's rest are left
pub record LettingGo {B : Type 0} (extents_of : B → List ℕ) (all : List ℕ) (old now : Published B) (owners after : List Owner) (numbers : List ℕ) : Type 0 where
  pub accounted : (rest : List ℕ) → AreAccounted extents_of (all ++ rest) old owners → AreAccounted extents_of (numbers ++ rest) now after
  pub granted : (actor : ℕ) → granted_to after actor ≡ granted_to owners actor
  pub branches : (other : ℕ) → 0 < count_at now other → branch_at now other ≡ branch_at old other
  pub fewer : (other : ℕ) → count_at now other ≤ count_at old other

pub lets_next_go : {B : Type 0} (extents_of : B → List ℕ) (all : List ℕ) (old now new : Published B) (owners after last : List Owner) (number : ℕ) (numbers : List ℕ) → LettingGo extents_of all old now owners after (number ∷ numbers) → ((rest : List ℕ) → AreAccounted extents_of (number ∷ rest) now after → AreAccounted extents_of rest new last) → ((actor : ℕ) → granted_to last actor ≡ granted_to after actor) → ((other : ℕ) → 0 < count_at new other → branch_at new other ≡ branch_at now other) → ((other : ℕ) → count_at new other ≤ count_at now other) → LettingGo extents_of all old new owners last numbers
lets_next_go extents_of all old now new owners after last number numbers so_far accounted granted branches fewer = record {
  accounted = λ rest all_accounted. accounted (numbers ++ rest) (so_far.accounted rest all_accounted);
  granted = λ actor. granted actor ∙ so_far.granted actor;
  branches = λ other above. branches other above ∙ so_far.branches other (omega (arith, fewer other));
  fewer = λ other. omega (arith, fewer other, so_far.fewer other);
}
