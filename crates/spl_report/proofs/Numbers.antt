-- The text of a number holds digits alone.
use Rattle.std.proofs.Common.{ℕ, ◌+◌, ◌%◌, ◌^◌, ◌<◌, ◌≤◌, List, [], ◌∷◌, decimal, arith}
use Rattle.std.proofs.lemmas.Fmt.{decimal_by_steps}
use Rattle.std.specs.List.{AllByRecursion}
use Rattle.spl_report.proofs.Lists.{all_push}
use Rattle.spl_report.proofs.Spellings.{Above}

abbrev pub Digits : List ℕ → Type 0
Digits bytes = AllByRecursion (λ byte. (48 ≤ byte) × (byte < 58)) bytes

pub decimal_digits : (n : ℕ) → n < 2 ^ 64 → Digits (decimal n)
decimal_digits n small = decimal_by_steps (λ _ ds. Digits ds) (λ m low. ((omega arith, omega arith), tt)) (λ m ds low h. all_push _ ds (48 + m % 10) h (omega arith, omega arith)) n small

above_digits : (bytes : List ℕ) → Digits bytes → Above bytes
above_digits [] h = tt
above_digits (b ∷ bs) h = (omega (arith, h.0.0), above_digits bs h.1)

pub decimal_above : (n : ℕ) → n < 2 ^ 64 → Above (decimal n)
decimal_above n small = above_digits (decimal n) (decimal_digits n small)
