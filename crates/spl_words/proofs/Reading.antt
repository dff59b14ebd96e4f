-- A number, digit by digit.
use Rattle.std.proofs.Common.{◌≡◌, ℕ, ◌+◌, ◌-◌, ◌*◌, ◌^◌, ◌<◌, ◌≤◌, Bool, true, false, cond, ◌&&◌, ltb, leb, List, length, get_or, take, Some, None, refl, ap, ◌∙◌, arith, le-ltb}
use Rattle.std.proofs.lemmas.List.Folds.{list_all_more}
use Rattle.std.proofs.lemmas.Int.Digits.{digits_value_more}
use Rattle.std.proofs.lemmas.Str.{digit_value_digit}
use Rattle.std.proofs.lemmas.Str.Parse.{digits_value-take-le}
use Rattle.std.specs.Char.{is_ascii_digit, digit_value}
use Rattle.std.specs.List.{list_all}
use Rattle.std.specs.Str.Parse.{digits_value}
use Rattle.spl_words.specs.Numbers.{number_of}

and_false : (a : Bool) → (a && false) ≡ false
and_false true = refl
and_false false = refl

-- one digit more
pub digits_more : (bytes : List ℕ) (i : ℕ) → i < length bytes → list_all is_ascii_digit (take i bytes) ≡ true → is_ascii_digit (get_or bytes i 0) ≡ true → list_all is_ascii_digit (take (i + 1) bytes) ≡ true
digits_more bytes i within so_far digit = list_all_more is_ascii_digit bytes i 0 within ∙ ap (λ t. t && is_ascii_digit (get_or bytes i 0)) so_far ∙ digit

pub value_more : (bytes : List ℕ) (i number : ℕ) → i < length bytes → digits_value 10 (take i bytes) ≡ number → 48 ≤ get_or bytes i 0 → get_or bytes i 0 ≤ 57 → digits_value 10 (take (i + 1) bytes) ≡ 10 * number + (get_or bytes i 0 - 48)
value_more bytes i number within so_far low high =
    let digit : digit_value (get_or bytes i 0) + 48 ≡ get_or bytes i 0 = digit_value_digit (get_or bytes i 0) (low, high) in
    omega (arith, digits_value_more 10 bytes i within)

-- a number that has more than 64 bits before the last digit only grows
pub none_at_large : (bytes : List ℕ) (i : ℕ) → 2 ^ 64 ≤ digits_value 10 (take i bytes) → number_of bytes ≡ None
none_at_large bytes i large =
    let whole : 2 ^ 64 ≤ digits_value 10 bytes = omega (arith, digits_value-take-le 10 bytes i (omega arith)) in
    let spells = ltb 0 (length bytes) && leb (length bytes) 20 && list_all is_ascii_digit bytes in
    ap (λ t. cond (spells && t) (Some (digits_value 10 bytes)) None) (le-ltb _ _ whole)
    ∙ ap (λ t. cond t (Some (digits_value 10 bytes)) None) (and_false spells)
