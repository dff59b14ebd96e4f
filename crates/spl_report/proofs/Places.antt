-- Where the places are the numbers below a count, each row in order stands at its place.
use Rattle.std.proofs.Common.{◌≡◌, ℕ, ◌+◌, ◌<◌, ◌≤◌, ◌⊎◌, inl, inr, List, [], ◌∷◌, length, take, drop, map, get_or, Contains, IfSome, Option, Some, None, refl, sym, ap, ◌∙◌, true, suc, zero, arith}
use Rattle.std.proofs.lemmas.Bool.{ltb-true}
use Rattle.std.proofs.lemmas.List.Elements.{All-contains, All-from_recursion}
use Rattle.std.proofs.lemmas.List.Sorted.{Contains-permutation, IsPermutation-sym}
use Rattle.std.specs.List.{AllByRecursion}
use Rattle.std.specs.List.Sorted.{IsPermutation, IsStrictlyIncreasing}
use Rattle.spl_message.specs.Answer.{IsStopped}
use Rattle.spl_report.specs.declared.report.Row.{Row}
use Rattle.spl_report.specs.Merge.{comes_before, stands_before, IsOrdered, ArePlaced, HavePlaces, IsInOrder}
use Rattle.spl_report.proofs.Members.{In, in_from_contains, contains_from_in, all_at, all_from_in}

no_place : (o : Option ℕ) → ((p : ℕ) → o ≡ Some p → ⊥) → o ≡ None
no_place None never = refl
no_place (Some p) never = absurd (never p refl)

-- what comes before a place has a smaller place
before_place : (o : Option ℕ) (c q d : ℕ) → comes_before o c (Some q) d ≡ true → (k : ℕ) × (o ≡ Some k) × (k < q)
before_place None c q d h = absurd (cc)
before_place (Some k) c q d h = (k, refl, ltb-true k q h)

smaller : (row later : Row) (q : ℕ) → stands_before row later ≡ true → later.place ≡ Some q → (k : ℕ) × (row.place ≡ Some k) × (k < q)
smaller row later q h e = before_place row.place row.caller q later.caller (ap (λ t. comes_before row.place row.caller t later.caller) (sym e) ∙ h)

same_place : (o : Option ℕ) (p q : ℕ) → o ≡ Some p → o ≡ Some q → p ≡ q
same_place o p q e f = cc

head_place : (first : ℕ) (row : Row) (rows : List Row) (x : Row) → IsOrdered (row ∷ rows) → ((p : ℕ) → row.place ≡ Some p → first ≤ p)
    → (x ≡ row) ⊎ In x rows → x.place ≡ Some first → row.place ≡ Some first
head_place first row rows x order low (inl e) h = ap (λ (t : Row). t.place) (sym e) ∙ h
head_place first row rows x order low (inr i) h =
    let found = smaller row x first (all_at _ rows x order.0 i) h in
    absurd (omega (arith, low found.0 found.1, found.2))

at_front : (first count : ℕ) (rows : List Row) → IsOrdered rows
    → ((place : ℕ) → first ≤ place → place < first + count → (row : Row) × In row rows × (row.place ≡ Some place))
    → ((row : Row) (place : ℕ) → In row rows → row.place ≡ Some place → (first ≤ place) × (place < first + count))
    → (count ≤ length rows) × HavePlaces first (take count rows) × AllByRecursion (λ row. row.place ≡ None) (drop count rows)
at_front first zero rows order each below =
    (omega arith, tt, all_from_in _ rows (λ row i. no_place row.place (λ p e. let b = below row p i e in omega (arith, b.0, b.1))))
at_front first (suc count) [] order each below = let found = each first (omega arith) (omega arith) in absurd (found.1)
at_front first (suc count) (row ∷ rows) order each below =
    let found = each first (omega arith) (omega arith) in
    let head : row.place ≡ Some first = head_place first row rows found.0 order (λ p e. (below row p (inl refl) e).0) found.1 found.2 in
    let more = at_front (first + 1) count rows order.1 (each_later head) (below_later head) in
    (omega (arith, more.0), (head, more.1), more.2)
  where
    later_in : (place : ℕ) (x : Row) → row.place ≡ Some first → first + 1 ≤ place → (x ≡ row) ⊎ In x rows → x.place ≡ Some place → In x rows
    later_in place x head low (inl e) h =
        let same = same_place row.place first place head (ap (λ (t : Row). t.place) (sym e) ∙ h) in
        absurd (omega (arith, low, same))
    later_in place x head low (inr i) h = i

    each_later : row.place ≡ Some first → (place : ℕ) → first + 1 ≤ place → place < first + 1 + count → (x : Row) × In x rows × (x.place ≡ Some place)
    each_later head place low high =
        let found = each place (omega (arith, low)) (omega (arith, high)) in
        (found.0, later_in place found.0 head low found.1 found.2, found.2)

    below_later : row.place ≡ Some first → (x : Row) (place : ℕ) → In x rows → x.place ≡ Some place → (first + 1 ≤ place) × (place < first + 1 + count)
    below_later head x place i e =
        let b = below x place (inr i) e in
        let found = smaller row x place (all_at _ rows x order.0 i) e in
        let same = same_place row.place first found.0 head found.1 in
        (omega (arith, found.2, same), omega (arith, b.1))

ordered_drop : (k : ℕ) (rows : List Row) → IsOrdered rows → IsOrdered (drop k rows)
ordered_drop zero rows h = h
ordered_drop (suc k) [] h = tt
ordered_drop (suc k) (row ∷ rows) h = ordered_drop k rows h.1

in_drop : (k : ℕ) (rows : List Row) (x : Row) → In x (drop k rows) → In x rows
in_drop zero rows x i = i
in_drop (suc k) [] x i = absurd i
in_drop (suc k) (row ∷ rows) x i = inr (in_drop k rows x i)

callers_rise : (a b : Row) → stands_before a b ≡ true → a.place ≡ None → b.place ≡ None → a.caller < b.caller
callers_rise a b h ea eb = ltb-true a.caller b.caller (ap (λ t. comes_before t a.caller None b.caller) (sym ea) ∙ ap (λ t. comes_before a.place a.caller t b.caller) (sym eb) ∙ h)

rising : (rows : List Row) → IsOrdered rows → AllByRecursion (λ row. row.place ≡ None) rows → (k : ℕ) → suc k < length (map (λ (row : Row). row.caller) rows)
    → get_or (map (λ (row : Row). row.caller) rows) k 0 < get_or (map (λ (row : Row). row.caller) rows) (suc k) 0
rising [] order none k l = absurd (omega (arith, l))
rising (a ∷ []) order none k l = absurd (omega (arith, l))
rising (a ∷ b ∷ rows) order none zero l = callers_rise a b order.0.0 none.0 none.1.0
rising (a ∷ b ∷ rows) order none (suc k) l = rising (b ∷ rows) order.1 none.1 k (omega (arith, l))

some_below : (o : Option ℕ) (p n : ℕ) → IfSome o (λ place. place < n) → o ≡ Some p → p < n
some_below None p n h e = absurd (cc)
some_below (Some q) p n h e = let same : q ≡ p = cc in omega (arith, h, same)

pub in_order_of : (placed : ℕ) (logged rows : List Row) → IsOrdered rows → IsPermutation logged rows → ArePlaced placed logged → IsInOrder placed rows
in_order_of placed logged rows order moved h =
    let each : (place : ℕ) → 0 ≤ place → place < 0 + placed → (row : Row) × In row rows × (row.place ≡ Some place) = λ place low high.
    let found = h.each place (omega (arith, high)) in
    (found.0, in_from_contains rows found.0 (Contains-permutation logged rows found.0 moved found.1), found.2) in
    let back : (row : Row) → In row rows → Contains logged row = λ row i.
    Contains-permutation rows logged row (IsPermutation-sym logged rows moved) (contains_from_in rows row i) in
    let below : (row : Row) (place : ℕ) → In row rows → row.place ≡ Some place → (0 ≤ place) × (place < 0 + placed) = λ row place i e.
    let small : place < placed = some_below row.place place placed (All-contains (λ (row : Row). IfSome row.place (λ place. place < placed)) logged row h.below (back row i)) e in
    (omega arith, omega (arith, small)) in
    let front = at_front 0 placed rows order each below in
    record {
      within = front.0;
      places = front.1;
      stopped = All-from_recursion (λ (row : Row). (row.place ≡ None) × IsStopped row.answer) (drop placed rows) (all_from_in (λ (row : Row). (row.place ≡ None) × IsStopped row.answer) (drop placed rows) (λ row i.
          let none : row.place ≡ None = all_at (λ (row : Row). row.place ≡ None) (drop placed rows) row front.2 i in
          (none, All-contains (λ (row : Row). row.place ≡ None → IsStopped row.answer) logged row h.stopped (back row (in_drop placed rows row i)) none)));
      by_caller = λ k l. rising_at (drop placed rows) (ordered_drop placed rows order) front.2 k l;
    }
  where
    rising_at : (xs : List Row) → IsOrdered xs → AllByRecursion (λ row. row.place ≡ None) xs → IsStrictlyIncreasing (map (λ (row : Row). row.caller) xs)
    rising_at xs o n k l = let e : k + 1 ≡ suc k = omega arith in rw e (rising xs o n k (omega (arith, l)))
