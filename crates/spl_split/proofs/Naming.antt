-- Branches that are named once more, one list after another.
use Rattle.std.proofs.Common.{◌≡◌, ◌≢◌, ℕ, zero, suc, ◌+◌, ◌-◌, ◌*◌, ◌<◌, ◌≤◌, ◌^◌, Bool, true, false, cond, nat_eq, List, [], ◌∷◌, ◌++◌, Option, Some, None, length, get_or, take, drop, refl, sym, ap, subst, ◌∙◌, inl, inr, arith, length-append, take-append-drop}
use Rattle.std.specs.Prelude.{IsSome, All}
use Rattle.std.specs.Option.{option_map}
use Rattle.std.proofs.lemmas.Bool.{cases_eq, false≢true}
use Rattle.std.proofs.lemmas.Bool.Decides.{nat_tests}
use Rattle.std.proofs.lemmas.List.{take_more, take_all, get_or_default}
use Rattle.spl_bundle.specs.Numbered.{Numbered, Bundle, IsWithinLimits, bundle_at, next_of, joined, names}
use Rattle.spl_bundle.proofs.Live.{live_below, live_more, live_all, live_none, joined-append}
use Rattle.spl_refs.specs.Refs.{Published, held_at, count_at, branch_at, CountsAt}
use Rattle.spl_trunk.specs.Tree.{times}
use Rattle.spl_trunk.proofs.Counts.{times-append, times_itself}
use Rattle.spl_split.specs.Naming.{AreNamed, HaveRoom, NamedMore}

apart_once : (n number : ℕ) → n ≢ number → times n (number ∷ []) ≡ 0
apart_once n number apart = grind (arith, nat_tests)

-- the front of a list has a number no more often than the list
times-take : (n k : ℕ) (xs : List ℕ) → times n (take k xs) ≤ times n xs
times-take n k xs =
    let parts = ap (times n) (take-append-drop k xs) in
    let sum = times-append n (take k xs) (drop k xs) in
    omega arith

-- and one time less where the next one is that number
times-next : (n k : ℕ) (xs : List ℕ) → k < length xs → get_or xs k n ≡ n
    → times n (take k xs) + 1 ≤ times n xs
times-next n k xs within is =
    let upto = times-take n (k + 1) xs in
    let more = ap (times n) (take_more xs k n within) ∙ times-append n (take k xs) (get_or xs k n ∷ []) in
    let one = ap (λ (m : ℕ). times n (m ∷ [])) is ∙ times_itself n in
    omega arith

times_short : (n : ℕ) (xs : List ℕ) → times n xs ≤ length xs
times_short n [] = omega arith
times_short n (x ∷ xs) =
    let all = times-append n (x ∷ []) xs in
    let rest = times_short n xs in
    let one : times n (x ∷ []) ≤ 1 = at_most (nat_eq x n) in
    omega arith
  where
    at_most : (b : Bool) → 0 + cond b 1 0 ≤ 1
    at_most true = omega arith
    at_most false = omega arith

length-joined_within : (bundles : List Bundle)
    → All (λ (bundle : Bundle). length bundle.branches ≤ 32) bundles
    → length (joined bundles) ≤ 32 * length bundles
length-joined_within [] all = omega arith
length-joined_within (bundle ∷ bundles) all =
    let first : length bundle.branches ≤ 32 = all 0 bundle (omega arith) in
    let rest = length-joined_within bundles (λ k d within. all (suc k) d (omega (arith, within))) in
    let long = length-append bundle.branches (joined bundles) in
    omega arith

-- a node has at most 24 bundles of at most 32 branches
pub times_within : (n : ℕ) (queue : Numbered) → IsWithinLimits queue → times n (names queue) ≤ 768
times_within n queue within =
    let long = length-joined_within queue.bundles within.branches in
    let lists = within.lists in
    let short = times_short n (names queue) in
    omega arith

-- one bundle after another
module _ (queue : Numbered) where
  abbrev front : ℕ → List ℕ
  front number = live_below queue queue.first number

  front_none : front queue.first ≡ []
  front_none = live_none queue queue.first

  front_all : (number : ℕ) → next_of queue ≤ number → front number ≡ names queue
  front_all number past = live_all queue 0 queue.first number (omega arith) (omega arith) past
      ∙ ap (λ (k : ℕ). joined (drop k queue.bundles)) (let none : 0 - queue.first ≡ 0 = omega arith in none)

  front_more : (number : ℕ) → queue.first ≤ number → number < next_of queue
      → front (number + 1) ≡ front number ++ (bundle_at queue number).branches
  front_more number above below = live_more queue 0 queue.first number (omega arith) above below

  times-front : (n number : ℕ) → times n (front number) ≤ times n (names queue)
  times-front n number =
      let none : queue.first - queue.first ≡ 0 = omega arith in
      let k = number - queue.first in
      let is : front number ≡ joined (take k queue.bundles) = ap
      (λ (m : ℕ). joined (take k (drop m queue.bundles))) none in
      let here = ap (times n) is in
      let parts = ap (λ (bundles : List Bundle). times n (joined bundles))
      (take-append-drop k queue.bundles) in
      let joins = ap (times n) (joined-append (take k queue.bundles) (drop k queue.bundles))
      ∙ times-append n (joined (take k queue.bundles)) (joined (drop k queue.bundles)) in
      omega arith

  module _ (number : ℕ) (above : queue.first ≤ number) (below : number < next_of queue) where
    abbrev list : List ℕ
    list = (bundle_at queue number).branches

    times-list : (n : ℕ) → times n (front number) + times n list ≤ times n (names queue)
    times-list n =
        let more = ap (times n) (front_more number above below) ∙ times-append n (front number) list in
        let all = times-front n (number + 1) in
        omega arith

module _ {B : Type 0} where
  some_held : (o : Option (ℕ × B)) → IsSome (option_map (λ h. h.1) o) → IsSome o
  some_held None some = absurd (false≢true some)
  some_held (Some h) some = refl

  pub named_none : (refs : Published B) → NamedMore refs refs []
  named_none refs = record { counts = λ n. omega arith; branches = λ n. refl }

  -- the number at a place of the list, where the numbers before it were named once more
  module _ (old mid : Published B) (list : List ℕ) (k : ℕ) (within : k < length list)
      (named : NamedMore old mid (take k list)) where
    abbrev x : ℕ
    x = get_or list k 0

    stands_there : 0 < times x list
    stands_there = let one = times-next x k list within (get_or_default list k x 0 within) in omega arith

    pub next_held : AreNamed old list → IsSome (held_at mid x)
    next_held stand = some_held (held_at mid x) (subst (λ (o : Option B). IsSome o) (sym (named.branches x))
        (stand x stands_there))

    pub next_few : HaveRoom old list → count_at mid x < 2 ^ 63
    next_few room =
        let one = times-next x k list within (get_or_default list k x 0 within) in
        let all = room x stands_there in
        let so_far = named.counts x in
        omega arith

    pub named_next : (new : Published B) → CountsAt mid new x (count_at mid x + 1)
        → ((n : ℕ) → branch_at new n ≡ branch_at mid n) → NamedMore old new (take (k + 1) list)
    named_next new counts branches = record {
      counts = λ n.
          let more = ap (times n) (take_more list k 0 within) ∙ times-append n (take k list) (x ∷ []) in
          let so_far = named.counts n in
          elim (cases_eq n x) [
            | inl same ↦
                let this = ap (count_at new) same ∙ counts.this_number in
                let before = ap (count_at mid) same in
                let one = ap (λ (m : ℕ). times m (x ∷ [])) same ∙ times_itself x in
                omega arith
            | inr apart ↦
                let other = counts.other_numbers n apart in
                let none = apart_once n x apart in
                omega arith
          ];
      branches = λ n. branches n ∙ named.branches n;
    }

  pub named_all : (old new : Published B) (list : List ℕ) (k : ℕ) → length list ≤ k
      → NamedMore old new (take k list) → NamedMore old new list
  named_all old new list k past named = subst (λ (xs : List ℕ). NamedMore old new xs)
      (take_all k list past) named

  module _ (queue : Numbered) (number : ℕ) (above : queue.first ≤ number)
      (below : number < next_of queue) where
    pub list_named : (old mid : Published B) → AreNamed old (names queue)
        → NamedMore old mid (front queue number) → AreNamed mid (list queue number above below)
    list_named old mid stand named n some =
        subst (λ (o : Option B). IsSome o) (sym (named.branches n))
        (stand n (let all = times-list queue number above below n in omega arith))

    pub list_room : (old mid : Published B) → HaveRoom old (names queue)
        → NamedMore old mid (front queue number) → HaveRoom mid (list queue number above below)
    list_room old mid room named n some =
        let all = times-list queue number above below n in
        let enough = room n (omega arith) in
        let so_far = named.counts n in
        omega arith

    pub named_list : (old mid new : Published B) → NamedMore old mid (front queue number)
        → NamedMore mid new (list queue number above below) → NamedMore old new (front queue (number + 1))
    named_list old mid new named more = record {
      counts = λ n.
          let both = ap (times n) (front_more queue number above below)
          ∙ times-append n (front queue number) (list queue number above below) in
          let first = named.counts n in
          let second = more.counts n in
          omega arith;
      branches = λ n. more.branches n ∙ named.branches n;
    }

  module _ (queue : Numbered) where
    -- bundles have few branches, so what is named less often than the limit has room for all of their names
    pub few_have_room : IsWithinLimits queue → (refs : Published B) → ((n : ℕ) → count_at refs n < 2 ^ 62)
        → HaveRoom refs (names queue)
    few_have_room limits refs few n some =
        let below = few n in
        let short = times_within n queue limits in
        omega arith
