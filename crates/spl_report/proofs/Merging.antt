-- The sorted rows of logs are in order, and those of a caller are its log.
use Rattle.std.proofs.Common.{◌≡◌, ℕ, ◌+◌, ◌≤◌, ◌⊎◌, inl, inr, Bool, true, false, cond, eqb, List, [], ◌∷◌, ◌++◌, length, filter, get_or, IsSome, refl, sym, ap, ◌∙◌, arith, append-nil, suc, zero}
use Rattle.std.proofs.lemmas.Bool.{eqb-true, eq-eqb}
use Rattle.std.proofs.lemmas.List.Elements.{filter-append}
use Rattle.std.proofs.lemmas.List.Sorted.{Contains-permutation, IsPermutation-sym}
use Rattle.std.specs.List.{AllByRecursion}
use Rattle.std.specs.List.Sorted.{IsPermutation, IsSortedBy, IsStableBy, ties}
use Rattle.spl_report.specs.declared.report.Row.{Row}
use Rattle.spl_report.specs.Merge.{stands_before, IsOrdered, AreLogs, HaveCallers, rows_in, rows_of, log_of}
use Rattle.spl_report.proofs.Lists.{filter_none}
use Rattle.spl_report.proofs.Members.{In, in_from_contains, contains_from_in, all_at, all_from_in, in_append, in_left, in_right, in_filter, from_filter, all_filter, passes_or_none}
use Rattle.spl_report.proofs.Order.{is_order, not_itself, few_tie, sorted_in_order, tied}

-- ---- where a row of the logs stands

-- a row of the logs stands in its caller's
in_its_log : (first : ℕ) (logs : List (List Row)) (row : Row) → HaveCallers first logs → In row (rows_in logs) → (k : ℕ) × (row.caller ≡ first + k) × In row (get_or logs k [])
in_its_log first [] row own i = absurd i
in_its_log first (log ∷ logs) row own i = by (in_append log (rows_in logs) row i) (λ there. in_its_log (first + 1) logs row own.1 there)
  where
    by : In row log ⊎ In row (rows_in logs) → (In row (rows_in logs) → (k : ℕ) × (row.caller ≡ first + 1 + k) × In row (get_or logs k [])) → (k : ℕ) × (row.caller ≡ first + k) × In row (get_or (log ∷ logs) k [])
    by (inl here) deeper = (zero, omega (arith, all_at _ log row own.0 here), here)
    by (inr there) deeper = let found = deeper there in (suc found.0, omega (arith, found.1), found.2)

-- and the other way round
from_its_log : (first : ℕ) (logs : List (List Row)) (k : ℕ) (row : Row) → HaveCallers first logs → In row (get_or logs k []) → In row (rows_in logs) × (row.caller ≡ first + k)
from_its_log first [] k row own i = absurd (i)
from_its_log first (log ∷ logs) zero row own i = (in_left log (rows_in logs) row i, omega (arith, all_at _ log row own.0 i))
from_its_log first (log ∷ logs) (suc k) row own i =
    let found = from_its_log (first + 1) logs k row own.1 i in
    (in_right log (rows_in logs) row found.0, omega (arith, found.1))

log_in_order : (logs : List (List Row)) (k : ℕ) → AllByRecursion IsOrdered logs → IsOrdered (get_or logs k [])
log_in_order [] k h = tt
log_in_order (log ∷ logs) zero h = h.0
log_in_order (log ∷ logs) (suc k) h = log_in_order logs k h.1

-- ---- no two rows of the logs tie

nothing_more : (rows : List Row) → length rows ≤ 1 → length (rows ++ []) ≤ 1
nothing_more rows few = rw (append-nil rows) few

few_in_logs : (x : Row) (first : ℕ) (logs : List (List Row)) → HaveCallers first logs → AllByRecursion IsOrdered logs
    → ((a b : Row) → In a (rows_in logs) → In b (rows_in logs) → IsSome a.place → a.place ≡ b.place → a.caller ≡ b.caller)
    → length (filter (ties stands_before x) (rows_in logs)) ≤ 1
few_in_logs x first [] own order apart = omega arith
few_in_logs x first (log ∷ logs) own order apart =
    by (passes_or_none (ties stands_before x) log)
    (few_in_logs x (first + 1) logs own.1 order.1 (λ a b i j. apart a b (in_right log (rows_in logs) a i) (in_right log (rows_in logs) b j)))
  where
    split : filter (ties stands_before x) (log ++ rows_in logs) ≡ filter (ties stands_before x) log ++ filter (ties stands_before x) (rows_in logs)
    split = filter-append (ties stands_before x) log (rows_in logs)

    by : ((a : Row) × In a log × (ties stands_before x a ≡ true)) ⊎ AllByRecursion (λ a. ties stands_before x a ≡ false) log → length (filter (ties stands_before x) (rows_in logs)) ≤ 1 → length (filter (ties stands_before x) (log ++ rows_in logs)) ≤ 1
    by (inr none) rest =
        let here = filter_none (ties stands_before x) log none in
        rw split (rw here rest)
    by (inl (a, i, tie)) rest =
        let later : (b : Row) → In b (rows_in logs) → ties stands_before x b ≡ false = λ b j.
        let found = in_its_log (first + 1) logs b own.1 j in
        let mine = all_at _ log a own.0 i in
        let differ : (a.caller ≡ b.caller) → ⊥ = λ same. omega (arith, found.1, mine, same) in
        tied x a b tie differ (λ some same. apart a b (in_left log (rows_in logs) a i) (in_right log (rows_in logs) b j) some same) in
        let there = filter_none (ties stands_before x) (rows_in logs) (all_from_in _ (rows_in logs) later) in
        let few = few_tie x log order.0 in
        rw split (rw there (nothing_more (filter (ties stands_before x) log) few))

-- ---- two lists in order with the same rows are one

pub one_order : (rows others : List Row) → IsOrdered rows → IsOrdered others → ((x : Row) → In x rows → In x others) → ((x : Row) → In x others → In x rows) → rows ≡ others
one_order [] [] ho ho' there back = refl
one_order [] (b ∷ bs) ho ho' there back = absurd (back b (inl refl))
one_order (a ∷ as') [] ho ho' there back = absurd (there a (inl refl))
one_order (a ∷ as') (b ∷ bs) ho ho' there back =
    let first : a ≡ b = heads (there a (inl refl)) (back b (inl refl)) in
    let more : as' ≡ bs = one_order as' bs ho.1 ho'.1 (λ x i. rest_there first x i (there x (inr i))) (λ x i. rest_back first x i (back x (inr i))) in
    λ i. first i ∷ more i
  where
    clash : {t : Bool} → t ≡ false → t ≡ true → ⊥
    clash f t = cc

    heads : (a ≡ b) ⊎ In a bs → (b ≡ a) ⊎ In b as' → a ≡ b
    heads (inl e) k = e
    heads (inr i) (inl e) = sym e
    heads (inr i) (inr j) = absurd (clash (is_order.one_way b a (all_at _ bs a ho'.0 i)) (all_at _ as' b ho.0 j))

    itself : (y x : Row) → stands_before y x ≡ true → x ≡ y → ⊥
    itself y x before same = clash (ap (λ t. stands_before y t) same ∙ not_itself y) before

    rest_there : a ≡ b → (x : Row) → In x as' → (x ≡ b) ⊎ In x bs → In x bs
    rest_there first x i (inl e) = absurd (itself a x (all_at _ as' x ho.0 i) (e ∙ sym first))
    rest_there first x i (inr j) = j

    rest_back : a ≡ b → (x : Row) → In x bs → (x ≡ a) ⊎ In x as' → In x as'
    rest_back first x i (inl e) = absurd (itself b x (all_at _ bs x ho'.0 i) (e ∙ first))
    rest_back first x i (inr j) = j

filter_in_order : (p : Row → Bool) (rows : List Row) → IsOrdered rows → IsOrdered (filter p rows)
filter_in_order p [] h = tt
filter_in_order p (row ∷ rows) h = by (p row) (filter_in_order p rows h.1)
  where
    by : (b : Bool) → IsOrdered (filter p rows) → IsOrdered (cond b (row ∷ filter p rows) (filter p rows))
    by true rest = (all_filter _ p rows h.0, rest)
    by false rest = rest

-- ---- what the merge gives

pub merged_in_order : (logs : List (List Row)) (rows : List Row) → AreLogs logs → IsSortedBy stands_before rows → IsStableBy stands_before (rows_in logs) rows → IsOrdered rows
merged_in_order logs rows h sorted stable =
    let apart : (a b : Row) → In a (rows_in logs) → In b (rows_in logs) → IsSome a.place → a.place ≡ b.place → a.caller ≡ b.caller =
    λ a b i j. h.apart a b (contains_from_in (rows_in logs) a i) (contains_from_in (rows_in logs) b j) in
    sorted_in_order rows sorted (λ x. rw (stable x) (few_in_logs x 0 logs h.callers h.in_order apart))

pub merged_logs : (logs : List (List Row)) (rows : List Row) → AreLogs logs → IsOrdered rows → IsPermutation (rows_in logs) rows → (caller : ℕ) → rows_of caller rows ≡ log_of caller logs
merged_logs logs rows h order moved caller = one_order (rows_of caller rows) (log_of caller logs) (filter_in_order _ rows order) (log_in_order logs caller h.in_order) there back
  where
    there : (x : Row) → In x (rows_of caller rows) → In x (log_of caller logs)
    there x i =
        let part = from_filter (λ row. eqb row.caller caller) rows x i in
        let whole = in_from_contains (rows_in logs) x (Contains-permutation rows (rows_in logs) x (IsPermutation-sym (rows_in logs) rows moved) (contains_from_in rows x part.0)) in
        let found = in_its_log 0 logs x h.callers whole in
        let same : found.0 ≡ caller = omega (arith, found.1, eqb-true x.caller caller part.1) in
        rw same at found.2

    back : (x : Row) → In x (log_of caller logs) → In x (rows_of caller rows)
    back x i =
        let found = from_its_log 0 logs caller x h.callers i in
        let whole = in_from_contains rows x (Contains-permutation (rows_in logs) rows x moved (contains_from_in (rows_in logs) x found.0)) in
        let mine : x.caller ≡ caller = omega (arith, found.1) in
        in_filter (λ row. eqb row.caller caller) rows x whole (eq-eqb x.caller caller mine)
