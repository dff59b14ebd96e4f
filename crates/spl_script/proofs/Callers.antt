-- A caller's field, digit by digit.
use Rattle.std.proofs.Common.{◌≡◌, ℕ, ◌+◌, ◌-◌, ◌*◌, ◌<◌, ◌≤◌, Bool, true, false, cond, ◌&&◌, ltb, leb, eqb, ◌≢◌, List, length, get_or, take, Some, None, refl, ap, ◌∙◌, sym, arith, le-ltb}
use Rattle.std.proofs.lemmas.List.Folds.{list_all_at, list_all_more}
use Rattle.std.proofs.lemmas.List.{take_all}
use Rattle.std.proofs.lemmas.Bool.{eqb-false}
use Rattle.std.proofs.lemmas.Int.Digits.{digits_value_more}
use Rattle.std.proofs.lemmas.Str.{digit_value_digit}
use Rattle.std.proofs.lemmas.Str.Parse.{digits_value-take-le}
use Rattle.std.specs.Char.{is_ascii_digit, digit_value}
use Rattle.std.specs.List.{list_all}
use Rattle.std.specs.Str.Parse.{digits_value}
use Rattle.spl_script.specs.Names.{caller_of}

and_false : (a : Bool) → (a && false) ≡ false
and_false true = refl
and_false false = refl

-- a byte that is no digit
pub none_at_other : (callers : ℕ) (field : List ℕ) (i : ℕ) → i < length field → is_ascii_digit (get_or field i 0) ≡ false → caller_of callers field ≡ None
none_at_other callers field i within other =
    let digits : list_all is_ascii_digit field ≡ false = list_all_at is_ascii_digit field i 0 within other in
    ap (λ t. cond (ltb 0 (length field) && leb (length field) 20 && t && ltb (digits_value 10 field) callers) (Some (digits_value 10 field)) None) digits
    ∙ ap (λ t. cond (t && ltb (digits_value 10 field) callers) (Some (digits_value 10 field)) None) (and_false (ltb 0 (length field) && leb (length field) 20))

-- a number that is not below the callers, and only grows
pub none_at_large : (callers : ℕ) (field : List ℕ) (i : ℕ) → callers ≤ digits_value 10 (take i field) → caller_of callers field ≡ None
none_at_large callers field i large =
    let whole : callers ≤ digits_value 10 field = omega (arith, digits_value-take-le 10 field i (omega arith)) in
    ap (λ t. cond (ltb 0 (length field) && leb (length field) 20 && list_all is_ascii_digit field && t) (Some (digits_value 10 field)) None) (le-ltb _ _ whole)
    ∙ ap (λ t. cond t (Some (digits_value 10 field)) None) (and_false (ltb 0 (length field) && leb (length field) 20 && list_all is_ascii_digit field))

-- one digit more
pub digits_more : (field : List ℕ) (i : ℕ) → i < length field → list_all is_ascii_digit (take i field) ≡ true → is_ascii_digit (get_or field i 0) ≡ true → list_all is_ascii_digit (take (i + 1) field) ≡ true
digits_more field i within so_far digit = list_all_more is_ascii_digit field i 0 within ∙ ap (λ t. t && is_ascii_digit (get_or field i 0)) so_far ∙ digit

pub value_more : (field : List ℕ) (i number : ℕ) → i < length field → digits_value 10 (take i field) ≡ number → 48 ≤ get_or field i 0 → get_or field i 0 ≤ 57 → digits_value 10 (take (i + 1) field) ≡ 10 * number + (get_or field i 0 - 48)
value_more field i number within so_far low high =
    let digit : digit_value (get_or field i 0) + 48 ≡ get_or field i 0 = digit_value_digit (get_or field i 0) (low, high) in
    omega (arith, digits_value_more 10 field i within)

-- the digits are all read
pub some_at_end : (callers : ℕ) (field : List ℕ) (i number : ℕ) → length field ≤ i → 0 < length field → length field ≤ 20 → list_all is_ascii_digit (take i field) ≡ true → digits_value 10 (take i field) ≡ number → number < callers → caller_of callers field ≡ Some number
some_at_end callers field i number whole low high digits value below =
    let all : take i field ≡ field = take_all i field whole in
    let ds : list_all is_ascii_digit field ≡ true = rw all at digits in
    let v : digits_value 10 field ≡ number = rw all at value in
    grind arith

pub not_empty : (empty : Bool) (n : ℕ) → empty ≡ eqb n 0 → empty ≡ false → 0 < n
not_empty empty n is not_so = let apart : n ≢ 0 = eqb-false n 0 (sym is ∙ not_so) in omega arith
