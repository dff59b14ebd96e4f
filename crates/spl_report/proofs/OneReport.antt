-- No two lists of rows have the same text.
use Rattle.std.proofs.Common.{◌≡◌, ℕ, ◌^◌, ◌<◌, List, [], ◌∷◌, ◌++◌, codes, decimal, Option, Some, None, IfSome, refl, ap, ◌∙◌, sym, arith, append_assoc, lit<}
use Rattle.std.proofs.lemmas.Fmt.{decimal_injective}
use Rattle.std.specs.List.{AllByRecursion}
use Rattle.spl_report.specs.declared.report.Row.{Row}
use Rattle.spl_report.specs.ReportText.{place_text, call_text, answer_text, row_text, report_text, IsInRange}
use Rattle.spl_report.proofs.AnswerTexts.{answer_cut}
use Rattle.spl_report.proofs.CallTexts.{spelled, call_spelled, call_cut}
use Rattle.spl_report.proofs.Numbers.{Digits, decimal_digits, decimal_above}
use Rattle.spl_report.proofs.Spellings.{Above, cut}

-- ---- places

place_above : (place : Option ℕ) → IfSome place (λ p. p < 2 ^ 64) → Above (place_text place)
place_above None h = (lit< tt, tt)
place_above (Some p) h = decimal_above p h

no_digit : (bytes : List ℕ) → Digits bytes → 45 ∷ [] ≡ bytes → ⊥
no_digit [] h e = cc
no_digit (b ∷ bs) h e = let same : 45 ≡ b = cc in omega (arith, h.0.0)

place_same : (a b : Option ℕ) → IfSome a (λ p. p < 2 ^ 64) → IfSome b (λ p. p < 2 ^ 64) → place_text a ≡ place_text b → a ≡ b
place_same None None ha hb e = refl
place_same None (Some q) ha hb e = absurd (no_digit (decimal q) (decimal_digits q hb) e)
place_same (Some p) None ha hb e = absurd (no_digit (decimal p) (decimal_digits p ha) (sym e))
place_same (Some p) (Some q) ha hb e = ap Some (decimal_injective p q ha hb e)

-- ---- rows

row_spelled : (row : Row) (rest : List ℕ) → row_text row ++ rest ≡ place_text row.place ++ 32 ∷ (decimal row.caller ++ 32 ∷ spelled row.call (32 ∷ (answer_text row.answer ++ 10 ∷ rest)))
row_spelled row rest = by (place_text row.place) (decimal row.caller) (call_text row.call) (answer_text row.answer)
    ∙ ap (λ t. place_text row.place ++ 32 ∷ (decimal row.caller ++ 32 ∷ t)) (call_spelled row.call (32 ∷ (answer_text row.answer ++ 10 ∷ rest)))
  where
    by : (p c k a : List ℕ) → (p ++ codes " " ++ c ++ codes " " ++ k ++ codes " " ++ a ++ codes "\n") ++ rest ≡ p ++ 32 ∷ (c ++ 32 ∷ (k ++ 32 ∷ (a ++ 10 ∷ rest)))
    by p c k a = simp append_assoc

row_cut : (a b : Row) (x y : List ℕ) → IsInRange a → IsInRange b → row_text a ++ x ≡ row_text b ++ y → (a ≡ b) × (x ≡ y)
row_cut a b x y ha hb e =
    let whole = sym (row_spelled a x) ∙ e ∙ row_spelled b y in
    let small_a : a.caller < 2 ^ 64 = omega (arith, ha.caller) in
    let small_b : b.caller < 2 ^ 64 = omega (arith, hb.caller) in
    let places = cut 32 (place_text a.place) (place_text b.place) _ _ (omega arith) (place_above a.place ha.place) (place_above b.place hb.place) whole in
    let callers = cut 32 (decimal a.caller) (decimal b.caller) _ _ (omega arith) (decimal_above a.caller small_a) (decimal_above b.caller small_b) places.1 in
    let calls = call_cut a.call b.call _ _ ha.call hb.call callers.1 in
    let answers = answer_cut a.answer b.answer x y ha.answer hb.answer calls.1 in
    let place : a.place ≡ b.place = place_same a.place b.place ha.place hb.place places.0 in
    let caller : a.caller ≡ b.caller = decimal_injective a.caller b.caller small_a small_b callers.0 in
    ((λ i. record { place = place i; caller = caller i; call = calls.0 i; answer = answers.0 i }), answers.1)

nothing_is_longer : (front rest : List ℕ) → [] ≡ front ++ 32 ∷ rest → ⊥
nothing_is_longer [] rest e = cc
nothing_is_longer (b ∷ bs) rest e = cc

pub one_report_of : (rows others : List Row) → AllByRecursion IsInRange rows → AllByRecursion IsInRange others → report_text rows ≡ report_text others → rows ≡ others
one_report_of [] [] ha hb e = refl
one_report_of [] (o ∷ os) ha hb e = absurd (nothing_is_longer _ _ (e ∙ row_spelled o (report_text os)))
one_report_of (r ∷ rs) [] ha hb e = absurd (nothing_is_longer _ _ (sym e ∙ row_spelled r (report_text rs)))
one_report_of (r ∷ rs) (o ∷ os) ha hb e =
    let first = row_cut r o (report_text rs) (report_text os) ha.0 hb.0 e in
    let more = one_report_of rs os ha.1 hb.1 first.1 in
    λ i. first.0 i ∷ more i
