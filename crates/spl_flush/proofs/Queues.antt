-- The bundles of a queue below and from a number, and how many branches are live.
use Rattle.std.proofs.Common.{◌≡◌, ℕ, suc, ◌+◌, ◌-◌, ◌*◌, ◌<◌, ◌≤◌, Bool, true, false, cond, nat_eq, nat_lt, List, [], ◌∷◌, ◌++◌, Option, Some, None, length, get_or, take, drop, refl, ap, ◌∙◌, arith, length-append, take-append-drop}
use Rattle.std.specs.Prelude.{All, position}
use Rattle.std.specs.Option.{option_eq}
use Rattle.std.proofs.lemmas.Bool.{lt-ltb, le-ltb}
use Rattle.std.proofs.lemmas.List.{drop_more}
use Rattle.std.proofs.lemmas.List.Sums.{position_or_len_is}
use Rattle.spl_bundle.specs.declared.bundles.TheConstants.{MAX_BRANCHES}
use Rattle.spl_bundle.specs.Numbered.{Numbered, Bundle, unmarked, bundle_at, next_of, joined, live}
use Rattle.spl_bundle.proofs.Live.{live_below, joined-append}
use Rattle.spl_flush.specs.Flushing.{is_to}

module _ {X : Type 0} (p : X → Bool) (xs : List X) (d : X) where
  -- the first that passes
  pub position_found : (i : ℕ) → i < length xs → ((k : ℕ) → k < i → p (get_or xs k d) ≡ false)
      → p (get_or xs i d) ≡ true → position p xs ≡ Some i
  position_found i within fails passes =
      let is = position_or_len_is p xs i d (omega arith) fails (λ below. passes) in
      ap (λ (n : ℕ). cond {A = Option ℕ} (nat_lt n (length xs)) (Some n) None) is
      ∙ ap (λ (b : Bool). cond {A = Option ℕ} b (Some i) None) (lt-ltb i (length xs) within)

  pub position_none : ((k : ℕ) → k < length xs → p (get_or xs k d) ≡ false) → position p xs ≡ None
  position_none fails =
      let is = position_or_len_is p xs (length xs) d (omega arith) fails (λ below. absurd (omega arith)) in
      ap (λ (n : ℕ). cond {A = Option ℕ} (nat_lt n (length xs)) (Some n) None) is
      ∙ ap (λ (b : Bool). cond {A = Option ℕ} b (Some (length xs)) None)
      (le-ltb (length xs) (length xs) (omega arith))

-- the test of a pivot's child
pub leads_here : (to : Option ℕ) (child : ℕ) → option_eq nat_eq to (Some child) ≡ is_to child to
leads_here None child = refl
leads_here (Some other) child = refl

-- from a bundle on: its own, and then those behind it
pub names_next : (queue : Numbered) (from number : ℕ) → queue.first ≤ from → from < number
    → number ≤ next_of queue → live_below queue from number ≡
    (bundle_at queue from).branches ++ live_below queue (from + 1) number
names_next queue from number stands below made =
    let k = from - queue.first in
    let more : number - from ≡ suc (number - (from + 1)) = omega arith in
    ap (λ (bundles : List Bundle). joined (take (number - from) bundles))
    (drop_more queue.bundles k (unmarked []) (omega arith))
    ∙ ap (λ (n : ℕ). joined (take n (bundle_at queue from ∷ drop (k + 1) queue.bundles))) more
    ∙ ap (λ (n : ℕ). (bundle_at queue from).branches ++ joined
    (take (number - (from + 1)) (drop n queue.bundles))) (omega arith)

length-joined : (bundles : List Bundle)
    → All (λ (bundle : Bundle). length bundle.branches ≤ MAX_BRANCHES) bundles
    → length (joined bundles) ≤ MAX_BRANCHES * length bundles
length-joined [] all = omega arith
length-joined (bundle ∷ bundles) all =
    let parts = length-append bundle.branches (joined bundles) in
    let first : length bundle.branches ≤ MAX_BRANCHES = all 0 bundle (omega arith) in
    let rest = length-joined bundles (λ k d within. all (suc k) d (omega arith)) in
    omega arith

length-back : (bundles : List Bundle) (k : ℕ) → length (joined (drop k bundles)) ≤ length (joined bundles)
length-back bundles k =
    let whole = ap (λ (bs : List Bundle). length (joined bs)) (take-append-drop k bundles) in
    let parts = ap length (joined-append (take k bundles) (drop k bundles))
    ∙ length-append (joined (take k bundles)) (joined (drop k bundles)) in
    omega arith

-- at most so many branches are live
pub live_few : (queue : Numbered) (mark : ℕ)
    → All (λ (bundle : Bundle). length bundle.branches ≤ MAX_BRANCHES) queue.bundles
    → length queue.bundles ≤ 24 → length (live queue mark) ≤ 768
live_few queue mark all few =
    let most = length-joined queue.bundles all in
    let back = length-back queue.bundles (mark - queue.first) in
    omega arith
