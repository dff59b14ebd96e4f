-- What a number more of a list leaves, where the set's numbers are taken out and put back.
use Rattle.std.proofs.Common.{◌≡◌, ◌≢◌, ℕ, zero, suc, ◌+◌, ◌<◌, ◌≤◌, List, [], ◌∷◌, length, get_or, set, take, slice_get, Some, Bool, true, false, eqb, refl, ⊎_elim, ap, sym, ◌∙◌, arith}
use Rattle.std.proofs.lemmas.List.{length-set, get_or-set_same, get_or-set_other, get_or_past, get_or_default, same_lists}
use Rattle.std.proofs.lemmas.List.Sums.{count_by_more_yes, count_by_more_no, sum_by-take-le}
use Rattle.std.proofs.lemmas.Option.{slice_get-get_or}
use Rattle.std.proofs.lemmas.Bool.{cases_eq, cases_lt, true≢false}
use Rattle.std.proofs.lemmas.Bool.Decides.{nat_tests}
use Rattle.spl_numbers.specs.Numbers.{has, size_of, times, one_if, ListsEach}
use Rattle.spl_numbers.proofs.LevelLemmas.{size_of-some}

eqb_same : (n : ℕ) → eqb n n ≡ true
eqb_same n = grind (arith, nat_tests)

eqb_apart : (n other : ℕ) → n ≢ other → eqb n other ≡ false
eqb_apart n other apart = grind (arith, nat_tests)

pub times-this : (numbers : List ℕ) (i number : ℕ) → i < length numbers → get_or numbers i 0 ≡ number → times (take (i + 1) numbers) number ≡ times (take i numbers) number + 1
times-this numbers i number within is =
    count_by_more_yes (λ other. eqb other number) numbers i 0 within (rw is (eqb_same number))

pub times-other : (numbers : List ℕ) (i number : ℕ) → i < length numbers → get_or numbers i 0 ≢ number → times (take (i + 1) numbers) number ≡ times (take i numbers) number
times-other numbers i number within apart =
    count_by_more_no (λ other. eqb other number) numbers i 0 within (eqb_apart (get_or numbers i 0) number apart)

pub times-take : (numbers : List ℕ) (i number : ℕ) → times (take i numbers) number ≤ times numbers number
times-take numbers i number = sum_by-take-le (λ other. one_if (eqb other number)) numbers i

-- a number of the list stands in it
pub times-some : (numbers : List ℕ) (i : ℕ) → i < length numbers → 1 ≤ times numbers (get_or numbers i 0)
times-some numbers i within =
    omega (arith, times-this numbers i (get_or numbers i 0) within refl, times-take numbers (i + 1) (get_or numbers i 0))

pub has_within : (members : List Bool) (number : ℕ) → has members number ≡ true → number < length members
has_within members number here =
    ⊎_elim (λ within. within) (λ past. absurd (true≢false (sym here ∙ get_or_past members number false past))) (cases_lt number (length members))

pub slice_get-has : (members : List Bool) (number : ℕ) (is : Bool) → number < length members → has members number ≡ is → slice_get members number ≡ Some is
slice_get-has members number is within here = slice_get-get_or members number false within ∙ ap Some here

pub one_if-true : (b : Bool) → 1 ≤ one_if b → b ≡ true
one_if-true true some = refl
one_if-true false some = absurd (omega arith)

pub one_if-false : (b : Bool) → one_if b ≡ 0 → b ≡ false
one_if-false true none = absurd (omega arith)
one_if-false false none = refl

pub one_if-same : (a b : Bool) → one_if a ≡ one_if b → a ≡ b
one_if-same true b same = sym (one_if-true b (omega arith))
one_if-same false b same = sym (one_if-false b (sym same))

-- a number more is taken out
pub taken_more : (numbers : List ℕ) (members : List Bool) (i number : ℕ) → i < length numbers → has members (get_or numbers i 0) ≡ true → times (take (i + 1) numbers) number + one_if (has (set members (get_or numbers i 0) false) number) ≡ times (take i numbers) number + one_if (has members number)
taken_more numbers members i number within here =
    let inside = has_within members (get_or numbers i 0) here in
    ⊎_elim
    (λ (same : get_or numbers i 0 ≡ number).
    let member : has members number ≡ true = rw same at here in
    let gone : has (set members (get_or numbers i 0) false) number ≡ false = rw same (get_or-set_same members number false false (rw same at inside)) in
    rw (gone, member) (omega (arith, times-this numbers i number within same)))
    (λ apart.
    let left : has (set members (get_or numbers i 0) false) number ≡ has members number = get_or-set_other members (get_or numbers i 0) number false false (λ e. apart (sym e)) in
    rw left (omega (arith, times-other numbers i number within apart)))
    (cases_eq (get_or numbers i 0) number)

-- a number more is put back
pub put_more : (numbers : List ℕ) (members : List Bool) (i number : ℕ) → i < length numbers → get_or numbers i 0 < length members → has members (get_or numbers i 0) ≡ false → one_if (has (set members (get_or numbers i 0) true) number) + times (take i numbers) number ≡ times (take (i + 1) numbers) number + one_if (has members number)
put_more numbers members i number within inside free =
    ⊎_elim
    (λ (same : get_or numbers i 0 ≡ number).
    let none : has members number ≡ false = rw same at free in
    let there : has (set members (get_or numbers i 0) true) number ≡ true = rw same (get_or-set_same members number true false (rw same at inside)) in
    rw (there, none) (omega (arith, times-this numbers i number within same)))
    (λ apart.
    let left : has (set members (get_or numbers i 0) true) number ≡ has members number = get_or-set_other members (get_or numbers i 0) number true false (λ e. apart (sym e)) in
    rw left (omega (arith, times-other numbers i number within apart)))
    (cases_eq (get_or numbers i 0) number)

-- a number that stands in what is left of a list without repeats is not in the set yet
pub put_free : (numbers : List ℕ) (old members : List Bool) (i : ℕ) → i < length numbers → ((n : ℕ) → times numbers n + one_if (has old n) ≤ 1) → ((n : ℕ) → one_if (has members n) ≡ times (take i numbers) n + one_if (has old n)) → has members (get_or numbers i 0) ≡ false
put_free numbers old members i within once added =
    let number = get_or numbers i 0 in
    one_if-false (has members (get_or numbers i 0))
    (omega (arith, once (get_or numbers i 0), added (get_or numbers i 0), times-this numbers i (get_or numbers i 0) within refl, times-take numbers (i + 1) (get_or numbers i 0)))

pub size_of-none_has : (members : List Bool) → ((n : ℕ) → has members n ≡ false) → size_of members ≡ 0
size_of-none_has [] none = refl
size_of-none_has (true ∷ members) none = absurd (true≢false (none zero))
size_of-none_has (false ∷ members) none = size_of-none_has members (λ n. none (suc n))

pub none_has : (members : List Bool) → size_of members ≡ 0 → (n : ℕ) → has members n ≡ false
none_has members empty n =
    one_if-false (has members n)
    (⊎_elim
    (λ (some : 0 < one_if (has members n)).
    let here = one_if-true (has members n) some in
    absurd (omega (arith, size_of-some members n (slice_get-has members n true (has_within members n here) here))))
    (λ none. omega arith)
    (cases_lt 0 (one_if (has members n))))

pub same_members : (old new : List Bool) → length new ≡ length old → ((n : ℕ) → one_if (has new n) ≡ one_if (has old n)) → new ≡ old
same_members old new len same =
    same_lists new old len
    (λ k d within.
    get_or_default new k d false within ∙ one_if-same (has new k) (has old k) (same k) ∙ sym (get_or_default old k d false (omega arith)))

-- where all numbers were taken out, and none is left, the list has each once
pub listed : (numbers : List ℕ) (old left : List Bool) → ((n : ℕ) → times numbers n + one_if (has left n) ≡ one_if (has old n)) → size_of left ≡ 0 → ListsEach numbers old
listed numbers old left taken empty = λ n.
    let none : one_if (has left n) ≡ 0 = ap one_if (none_has left empty n) in
    omega (arith, taken n)

-- where one is left, it is not in the list
pub not_listed : (numbers : List ℕ) (old left : List Bool) → ((n : ℕ) → times numbers n + one_if (has left n) ≡ one_if (has old n)) → ListsEach numbers old → size_of left ≡ 0
not_listed numbers old left taken lists =
    size_of-none_has left (λ n. one_if-false (has left n) (omega (arith, taken n, lists n)))

-- and where the next number is not in the set any more, it stands in the list too often
pub not_listed_next : (numbers : List ℕ) (old left : List Bool) (seen : ℕ) → seen < length numbers → ((n : ℕ) → times (take seen numbers) n + one_if (has left n) ≡ one_if (has old n)) → has left (get_or numbers seen 0) ≡ false → ListsEach numbers old → ⊥
not_listed_next numbers old left seen within taken gone lists =
    let number = get_or numbers seen 0 in
    let none : one_if (has left (get_or numbers seen 0)) ≡ 0 = ap one_if gone in
    omega (arith, taken (get_or numbers seen 0), lists (get_or numbers seen 0), times-this numbers seen (get_or numbers seen 0) within refl, times-take numbers (seen + 1) (get_or numbers seen 0))

-- what was taken out is below the set's limit
pub taken_within : (numbers : List ℕ) (old left : List Bool) → ((n : ℕ) → times numbers n + one_if (has left n) ≡ one_if (has old n)) → length left ≡ length old → (k : ℕ) → k < length numbers → get_or numbers k 0 < length left
taken_within numbers old left taken len k within =
    let here = one_if-true (has old (get_or numbers k 0)) (omega (arith, taken (get_or numbers k 0), times-some numbers k within)) in
    rw len (has_within old (get_or numbers k 0) here)
