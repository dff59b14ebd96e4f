-- Which row stands before which: the order of a report is a strict one.
use Rattle.std.proofs.Common.{◌≡◌, ℕ, ◌+◌, ◌≤◌, ◌⊎◌, inl, inr, Bool, true, false, cond, not, ◌&&◌, List, [], ◌∷◌, length, filter, Option, Some, None, IsSome, refl, sym, ap, ◌∙◌, arith, suc}
use Rattle.std.proofs.lemmas.Bool.{ltb-true, ltb-false, le-ltb}
use Rattle.std.proofs.lemmas.List.Elements.{All-from_get_or, recursion_from_All}
use Rattle.std.proofs.lemmas.List.Sorted.{sorted_far}
use Rattle.std.specs.Cmp.{IsStrictWeakOrder}
use Rattle.std.specs.List.{AllByRecursion}
use Rattle.std.specs.List.Sorted.{IsSortedBy, ties}
use Rattle.spl_report.specs.declared.report.Row.{Row}
use Rattle.spl_report.specs.Merge.{comes_before, stands_before, IsOrdered}
use Rattle.spl_report.proofs.Lists.{filter_none}
use Rattle.spl_report.proofs.Members.{all_at, all_from_in}

-- ---- the order

one_way : (p : Option ℕ) (c : ℕ) (q : Option ℕ) (d : ℕ) → comes_before p c q d ≡ true → comes_before q d p c ≡ false
one_way (Some p) c (Some q) d h = le-ltb q p (omega (arith, ltb-true p q h))
one_way (Some p) c None d h = refl
one_way None c (Some q) d h = absurd (cc)
one_way None c None d h = le-ltb d c (omega (arith, ltb-true c d h))

chain : (p : Option ℕ) (c : ℕ) (q : Option ℕ) (d : ℕ) (r : Option ℕ) (e : ℕ) → comes_before p c q d ≡ false → comes_before q d r e ≡ false → comes_before p c r e ≡ false
chain (Some p) c (Some q) d (Some r) e h k = le-ltb p r (omega (arith, ltb-false p q h, ltb-false q r k))
chain (Some p) c (Some q) d None e h k = absurd (cc)
chain (Some p) c None d r e h k = absurd (cc)
chain None c q d (Some r) e h k = refl
chain None c (Some q) d None e h k = absurd (cc)
chain None c None d None e h k = le-ltb c e (omega (arith, ltb-false c d h, ltb-false d e k))

pub is_order : IsStrictWeakOrder stands_before
is_order = record {
  one_way = λ a b h. one_way a.place a.caller b.place b.caller h;
  chain = λ a b c h k. chain a.place a.caller b.place b.caller c.place c.caller h k;
}

true_or_false : (b : Bool) → (b ≡ true) ⊎ (b ≡ false)
true_or_false true = inl refl
true_or_false false = inr refl

not_both : {b : Bool} → b ≡ true → b ≡ false → ⊥
not_both t f = cc

pub not_itself : (a : Row) → stands_before a a ≡ false
not_itself a = by (true_or_false (stands_before a a))
  where
    by : (stands_before a a ≡ true) ⊎ (stands_before a a ≡ false) → stands_before a a ≡ false
    by (inl t) = is_order.one_way a a t
    by (inr f) = f

-- ---- rows that tie

tie_parts : (a b : Row) → ties stands_before a b ≡ true → (stands_before a b ≡ false) × (stands_before b a ≡ false)
tie_parts a b h = by (stands_before a b) (stands_before b a) refl refl h
  where
    by : (s t : Bool) → stands_before a b ≡ s → stands_before b a ≡ t → (not s && not t) ≡ true → (stands_before a b ≡ false) × (stands_before b a ≡ false)
    by true t es et e = absurd (cc)
    by false true es et e = absurd (cc)
    by false false es et e = (es, et)

tie_of : (a b : Row) → stands_before a b ≡ false → stands_before b a ≡ false → ties stands_before a b ≡ true
tie_of a b f g = ap (λ s. not s && not (stands_before b a)) f ∙ ap (λ t. not t) g

-- of two rows in order no more than one ties with a row
one_ties : (x a b : Row) → stands_before a b ≡ true → ties stands_before x a ≡ true → ties stands_before x b ≡ false
one_ties x a b before tie = by (true_or_false (ties stands_before x b))
  where
    by : (ties stands_before x b ≡ true) ⊎ (ties stands_before x b ≡ false) → ties stands_before x b ≡ false
    by (inl t) = absurd (not_both before (is_order.chain a x b (tie_parts x a tie).1 (tie_parts x b t).0))
    by (inr f) = f

pub few_tie : (x : Row) (rows : List Row) → IsOrdered rows → length (filter (ties stands_before x) rows) ≤ 1
few_tie x [] order = omega arith
few_tie x (row ∷ rows) order = by (ties stands_before x row) refl (few_tie x rows order.1)
  where
    by : (b : Bool) → ties stands_before x row ≡ b → length (filter (ties stands_before x) rows) ≤ 1 → length (cond b (row ∷ filter (ties stands_before x) rows) (filter (ties stands_before x) rows)) ≤ 1
    by true e rest =
        let none = filter_none (ties stands_before x) rows (all_from_in _ rows (λ other i. one_ties x row other (all_at _ rows other order.0 i) e)) in
        let empty = ap length none in
        omega (arith, empty)
    by false e rest = rest

-- ---- a sorted list is in order, if no two of its rows tie

none_passes : (p : Row → Bool) (rows : List Row) → length (filter p rows) ≤ 0 → AllByRecursion (λ row. p row ≡ false) rows
none_passes p [] few = tt
none_passes p (row ∷ rows) few = by (p row) refl few (λ l. none_passes p rows l)
  where
    by : (b : Bool) → p row ≡ b → length (cond b (row ∷ filter p rows) (filter p rows)) ≤ 0 → (length (filter p rows) ≤ 0 → AllByRecursion (λ other. p other ≡ false) rows) → AllByRecursion (λ other. p other ≡ false) (row ∷ rows)
    by true e l rest = absurd (omega (arith, l))
    by false e l rest = (e, rest l)

fewer : (p : Row → Bool) (row : Row) (rows : List Row) → length (filter p (row ∷ rows)) ≤ 1 → length (filter p rows) ≤ 1
fewer p row rows few = by (p row) few
  where
    by : (b : Bool) → length (cond b (row ∷ filter p rows) (filter p rows)) ≤ 1 → length (filter p rows) ≤ 1
    by true l = omega (arith, l)
    by false l = l

other_ties : (p : Row → Bool) (row : Row) (rows : List Row) → p row ≡ true → length (filter p (row ∷ rows)) ≤ 1 → length (filter p rows) ≤ 0
other_ties p row rows t few =
    let same = ap (λ b. length (cond b (row ∷ filter p rows) (filter p rows))) t in
    omega (arith, few, same)

before_of : (a b : Row) → stands_before b a ≡ false → ties stands_before a b ≡ false → stands_before a b ≡ true
before_of a b back tie = by (true_or_false (stands_before a b))
  where
    by : (stands_before a b ≡ true) ⊎ (stands_before a b ≡ false) → stands_before a b ≡ true
    by (inl t) = t
    by (inr f) = absurd (not_both (tie_of a b f back) tie)

pub sorted_in_order : (rows : List Row) → IsSortedBy stands_before rows → ((x : Row) → length (filter (ties stands_before x) rows) ≤ 1) → IsOrdered rows
sorted_in_order [] sorted few = tt
sorted_in_order (row ∷ rows) sorted few =
    let back = recursion_from_All (λ other. stands_before other row ≡ false) rows
    (All-from_get_or (λ other. stands_before other row ≡ false) rows row (λ i l. sorted_far stands_before is_order (row ∷ rows) sorted 0 (suc i) row (omega arith) (omega (arith, l)))) in
    let self : ties stands_before row row ≡ true = tie_of row row (not_itself row) (not_itself row) in
    let apart = none_passes (ties stands_before row) rows (other_ties (ties stands_before row) row rows self (few row)) in (
      all_from_in _ rows (λ other i. before_of row other (all_at _ rows other back i) (all_at _ rows other apart i)),
      sorted_in_order rows (λ k d low l. sorted_far stands_before is_order (row ∷ rows) sorted (suc k) (suc (k + 1)) d (omega arith) (omega (arith, l))) (λ x. fewer (ties stands_before x) row rows (few x)),
    )

-- a row that ties with another ties with none of another caller, if rows of one place have one caller
pub tied : (x a b : Row) → ties stands_before x a ≡ true → (a.caller ≡ b.caller → ⊥) → (IsSome a.place → a.place ≡ b.place → a.caller ≡ b.caller) → ties stands_before x b ≡ false
tied x a b tie differ apart = by (true_or_false (ties stands_before x b))
  where
    same : stands_before a b ≡ false → stands_before b a ≡ false → a.caller ≡ b.caller
    same f g = of a.place b.place refl refl f g
      where
        of : (p q : Option ℕ) → a.place ≡ p → b.place ≡ q → comes_before p a.caller q b.caller ≡ false → comes_before q b.caller p a.caller ≡ false → a.caller ≡ b.caller
        of (Some p) (Some q) ep eq f g =
            let one : p ≡ q = omega (arith, ltb-false p q f, ltb-false q p g) in
            apart (rw ep refl) (ep ∙ ap Some one ∙ sym eq)
        of (Some p) None ep eq f g = absurd (cc)
        of None (Some q) ep eq f g = absurd (cc)
        of None None ep eq f g = omega (arith, ltb-false a.caller b.caller f, ltb-false b.caller a.caller g)

    by : (ties stands_before x b ≡ true) ⊎ (ties stands_before x b ≡ false) → ties stands_before x b ≡ false
    by (inl t) =
        let left = tie_parts x a tie in
        let right = tie_parts x b t in
        absurd (differ (same (is_order.chain a x b left.1 right.0) (is_order.chain b x a right.1 left.0)))
    by (inr f) = f
