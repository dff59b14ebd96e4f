-- Lemmas on counting the numbers that pass a test.
use Rattle.std.proofs.Common.{◌≡◌, ◌≢◌, ℕ, zero, suc, ◌+◌, ◌-◌, ◌<◌, ◌≤◌, Bool, true, false, ◌||◌, cond, refl, sym, ap, ◌∙◌, inl, inr, arith, add-one}
use Rattle.std.proofs.lemmas.Bool.{cases_eq, cases_Bool, or_cases}
use Rattle.spl_quotient.specs.Counts.{tally, some_below}

pub or_true : (b : Bool) → (b || true) ≡ true
or_true b = elim b as (λ v. (v || true) ≡ true) [ true ↦ refl | false ↦ refl ]

module _ (test : ℕ → Bool) where
  pub tally-zero : tally test 0 ≡ 0
  unfolding tally
  tally-zero = refl

  pub tally-pass : (n : ℕ) → test n ≡ true → tally test (suc n) ≡ tally test n + 1
  unfolding tally
  tally-pass n pass = ap (λ b. tally test n + cond b 1 0) pass

  pub tally-fail : (n : ℕ) → test n ≡ false → tally test (suc n) ≡ tally test n
  unfolding tally
  tally-fail n fail = ap (λ b. tally test n + cond b 1 0) fail ∙ omega arith

  -- the same, where the next number is written as a sum
  pub tally-pass_one : (n : ℕ) → test n ≡ true → tally test (n + 1) ≡ tally test n + 1
  tally-pass_one n pass = rw add-one (tally-pass n pass)

  pub tally-fail_one : (n : ℕ) → test n ≡ false → tally test (n + 1) ≡ tally test n
  tally-fail_one n fail = rw add-one (tally-fail n fail)

  -- and where it is the number before
  pub tally-pass_before : (n : ℕ) → 0 < n → test (n - 1) ≡ true → tally test n ≡ tally test (n - 1) + 1
  tally-pass_before n some pass = let same : suc (n - 1) ≡ n = omega arith in ap (tally test) (sym same) ∙ tally-pass (n - 1) pass

  pub tally-fail_before : (n : ℕ) → 0 < n → test (n - 1) ≡ false → tally test n ≡ tally test (n - 1)
  tally-fail_before n some fail = let same : suc (n - 1) ≡ n = omega arith in ap (tally test) (sym same) ∙ tally-fail (n - 1) fail

  pub tally_next : (n : ℕ) → tally test n ≤ tally test (suc n)
  tally_next n = elim (cases_Bool (test n)) [
    | inl pass ↦ omega (arith, tally-pass n pass)
    | inr fail ↦ omega (arith, tally-fail n fail)
  ]

  -- more numbers are looked at, and not fewer pass
  pub tally_mono : (i j : ℕ) → i ≤ j → tally test i ≤ tally test j
  tally_mono i zero below = let same : i ≡ 0 = omega arith in rw same (omega arith)
  tally_mono i (suc j) below = elim (cases_eq i (suc j)) [
    | inl same ↦ rw same (omega arith)
    | inr other ↦ omega (arith, tally_mono i j (omega arith), tally_next j)
  ]

  -- one that passes counts
  pub tally_strict : (i k j : ℕ) → test k ≡ true → i ≤ k → k < j → tally test i + 1 ≤ tally test j
  tally_strict i k j pass from below =
      omega (arith, tally_mono i k from, tally-pass k pass, tally_mono (suc k) j (omega arith))

  -- where none passes, the count stays
  pub tally_none : (i j : ℕ) → i ≤ j → ((k : ℕ) → i ≤ k → k < j → test k ≡ false) → tally test i ≡ tally test j
  tally_none i zero below none = let same : i ≡ 0 = omega arith in rw same refl
  tally_none i (suc j) below none = elim (cases_eq i (suc j)) [
    | inl same ↦ rw same refl
    | inr other ↦
        tally_none i j (omega arith) (λ k from under. none k from (omega arith))
        ∙ sym (tally-fail j (none j (omega arith) (omega arith)))
  ]

  -- where the counts agree, none passes between
  pub none_between : (i j k : ℕ) → tally test i ≡ tally test j → i ≤ k → k < j → test k ≡ false
  none_between i j k same from below = elim (cases_Bool (test k)) [
    | inl pass ↦ absurd (omega (arith, tally_strict i k j pass from below))
    | inr fail ↦ fail
  ]

  pub some_found : (k n : ℕ) → k < n → test k ≡ true → some_below test n ≡ true
  unfolding some_below
  some_found k zero below pass = absurd (omega arith)
  some_found k (suc n) below pass = elim (cases_eq k n) [
    | inl same ↦ let here : test n ≡ true = rw (← same) pass in rw here refl
    | inr other ↦ let later = some_found k n (omega arith) pass in rw later (or_true (test n))
  ]

  pub some_none : (n : ℕ) → ((k : ℕ) → k < n → test k ≡ false) → some_below test n ≡ false
  unfolding some_below
  some_none zero none = refl
  some_none (suc n) none = rw (none n (omega arith), some_none n (λ k below. none k (omega arith))) refl

  pub some_where : (n : ℕ) → some_below test n ≡ true → (k : ℕ) × (k < n) × (test k ≡ true)
  unfolding some_below
  some_where zero some = cc
  some_where (suc n) some = elim (or_cases (test n) (some_below test n) some) [
    | inl here ↦ (n, omega arith, here)
    | inr later ↦ let found = some_where n later in (found.0, omega (arith, found.1), found.2)
  ]

module _ (test other : ℕ → Bool) where
  pub tally_same : (n : ℕ) → ((k : ℕ) → k < n → other k ≡ test k) → tally other n ≡ tally test n
  tally_same zero same = tally-zero other ∙ sym (tally-zero test)
  tally_same (suc n) same =
      let before = tally_same n (λ k below. same k (omega arith)) in
      let here = same n (omega arith) in
      elim (cases_Bool (test n)) [
        | inl pass ↦ omega (arith, tally-pass test n pass, tally-pass other n (here ∙ pass))
        | inr fail ↦ omega (arith, tally-fail test n fail, tally-fail other n (here ∙ fail))
      ]

  -- one number more passes
  pub tally_more : (m n : ℕ) → test m ≡ false → other m ≡ true → ((k : ℕ) → k ≢ m → other k ≡ test k) → m < n → tally other n ≡ tally test n + 1
  tally_more m zero was is same below = absurd (omega arith)
  tally_more m (suc n) was is same below = elim (cases_eq m n) [
    | inl last ↦
        let before = tally_same m (λ k under. same k (omega arith)) in
        rw (← last) (omega (arith, before, tally-fail test m was, tally-pass other m is))
    | inr earlier ↦
        let before = tally_more m n was is same (omega arith) in
        let here = same n (λ e. earlier (sym e)) in
        elim (cases_Bool (test n)) [
          | inl pass ↦ omega (arith, tally-pass test n pass, tally-pass other n (here ∙ pass))
          | inr fail ↦ omega (arith, tally-fail test n fail, tally-fail other n (here ∙ fail))
        ]
  ]
