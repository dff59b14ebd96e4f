-- A text that is written spells its bytes again, and holds no byte up to a space.
use Rattle.std.proofs.Common.{◌≡◌, ℕ, ◌+◌, ◌*◌, ◌/◌, ◌%◌, ◌^◌, ◌<◌, ◌≤◌, ◌⊎◌, inl, inr, Bool, true, false, cond, not, ◌&&◌, ltb, leb, eqb, List, [], ◌∷◌, ◌++◌, length, codes, decimal, Option, Some, None, IfSome, Ok, Err, refl, ap, ◌∙◌, arith, lit<}
use Rattle.std.proofs.lemmas.Bool.Decides.{nat_tests}
use Rattle.std.proofs.lemmas.Bool.{cases_lt, ltb-true, lt-ltb, le-ltb, le-leb, ne_eqb, and_parts, and_from, not-true}
use Rattle.std.proofs.lemmas.Fmt.{decimal_by_steps, decimal_is_IsNumeral, decimal_nonempty, length-decimal-le}
use Rattle.std.proofs.lemmas.List.Elements.{recursion_from_All}
use Rattle.std.proofs.lemmas.List.Folds.{list_all-append}
use Rattle.std.proofs.lemmas.List.Splits.{slice_split-cons_no}
use Rattle.std.specs.Char.{is_ascii_digit}
use Rattle.std.specs.List.{AllByRecursion, list_all, slice_split, onto_first}
use Rattle.std.specs.Option.{option_map}
use Rattle.std.specs.Str.{bytes_eq}
use Rattle.std.specs.Str.Parse.{digits_value}
use Rattle.spl_message.specs.Key.{IsKey}
use Rattle.spl_script.specs.declared.reason.LineWhy.TheVariants.{Text, Key, Value}
use Rattle.spl_script.specs.Names.{caller_of, key_of_bytes, key_of, value_of_bytes, value_of, end_of}
use Rattle.spl_script.specs.Reason.{◌>>=◌, told}
use Rattle.spl_script.specs.Text.{is_plain, is_shown, digit_of, hex_digit, byte_text, text_of, spelled}
use Rattle.spl_script.specs.Writing.{IsValueText, end_text}
use Rattle.spl_script.proofs.Texts.{plain_cons, escape_cons}

-- ---- each byte is above a number

abbrev pub Over : ℕ → List ℕ → Type 0
Over low bytes = AllByRecursion (λ byte. low < byte) bytes

pub over_append : (low : ℕ) (xs ys : List ℕ) → Over low xs → Over low ys → Over low (xs ++ ys)
over_append low [] ys h p = p
over_append low (x ∷ xs) ys h p = (h.0, over_append low xs ys h.1 p)

pub over_weaker : (low high : ℕ) (xs : List ℕ) → low ≤ high → Over high xs → Over low xs
over_weaker low high [] less h = tt
over_weaker low high (x ∷ xs) less h = let here : high < x = h.0 in (omega arith, over_weaker low high xs less h.1)

pub over_by_test : (low : ℕ) (bytes : List ℕ) → list_all (λ byte. ltb low byte) bytes ≡ true → Over low bytes
over_by_test low [] e = tt
over_by_test low (b ∷ bs) e = let both = and_parts (ltb low b) (list_all (λ byte. ltb low byte) bs) e in (ltb-true low b both.0, over_by_test low bs both.1)

-- the first part ends at the first separator, and the last one has none
pub split_front : (end : ℕ) (front rest : List ℕ) → Over end front → slice_split (λ byte. eqb byte end) (front ++ end ∷ rest) ≡ front ∷ slice_split (λ byte. eqb byte end) rest
split_front end [] rest over = ap (λ t. cond t ([] ∷ slice_split (λ byte. eqb byte end) rest) (onto_first end (slice_split (λ byte. eqb byte end) rest))) (same end)
  where
    same : (n : ℕ) → eqb n n ≡ true
    same n = grind (arith, nat_tests)
split_front end (x ∷ xs) rest over =
    let here : end < x = over.0 in
    slice_split-cons_no (λ byte. eqb byte end) x (xs ++ end ∷ rest) (ne_eqb x end (λ e. omega arith))
    ∙ ap (onto_first x) (split_front end xs rest over.1)

pub split_last : (end : ℕ) (last : List ℕ) → Over end last → slice_split (λ byte. eqb byte end) last ≡ last ∷ []
split_last end [] over = refl
split_last end (x ∷ xs) over =
    let here : end < x = over.0 in
    slice_split-cons_no (λ byte. eqb byte end) x xs (ne_eqb x end (λ e. omega arith)) ∙ ap (onto_first x) (split_last end xs over.1)

-- ---- a byte's text

shown_is_plain : (b : ℕ) → is_shown b ≡ true → is_plain b ≡ true
shown_is_plain b e = (and_parts (is_plain b) (not (eqb b 42)) e).0

shown_is_above : (b : ℕ) → is_shown b ≡ true → 32 < b
shown_is_above b e = ltb-true 32 b ((and_parts (ltb 32 b) (ltb b 127) ((and_parts (ltb 32 b && ltb b 127) (not (eqb b 37)) (shown_is_plain b e)).0)).0)

digit_back : (d : ℕ) → d < 16 → digit_of (hex_digit d) ≡ Some d
digit_back d small = by (cases_lt d 10)
  where
    by : (d < 10) ⊎ (10 ≤ d) → digit_of (hex_digit d) ≡ Some d
    by (inl low) = grind (arith, nat_tests)
    by (inr high) = grind (arith, nat_tests)

byte_back : (b : ℕ) (rest : List ℕ) → b < 256 → spelled (byte_text b ++ rest) ≡ option_map (λ bytes. b ∷ bytes) (spelled rest)
byte_back b rest small = by (is_shown b) refl
  where
    by : (s : Bool) → is_shown b ≡ s → spelled (cond s (b ∷ []) (37 ∷ hex_digit (b / 16) ∷ hex_digit (b % 16) ∷ []) ++ rest) ≡ option_map (λ bytes. b ∷ bytes) (spelled rest)
    by true e = plain_cons b rest (shown_is_plain b e)
    by false e =
        let whole : 16 * (b / 16) + b % 16 ≡ b = omega arith in
        escape_cons (hex_digit (b / 16)) (hex_digit (b % 16)) (b / 16) (b % 16) rest (digit_back (b / 16) (omega arith)) (digit_back (b % 16) (omega arith))
        ∙ ap (λ n. option_map (λ bytes. n ∷ bytes) (spelled rest)) whole

pub text_back : (bytes : List ℕ) → AllByRecursion (λ byte. byte < 256) bytes → spelled (text_of bytes) ≡ Some bytes
text_back [] h = refl
text_back (b ∷ bs) h = byte_back b (text_of bs) h.0 ∙ ap (option_map (λ bytes. b ∷ bytes)) (text_back bs h.1)

hex_digit_above : (d : ℕ) → 32 < hex_digit d
hex_digit_above d = by (cases_lt d 10)
  where
    by : (d < 10) ⊎ (10 ≤ d) → 32 < cond (ltb d 10) (48 + d) (55 + d)
    by (inl low) = rw (lt-ltb d 10 low) (omega arith)
    by (inr high) = rw (le-ltb d 10 high) (omega arith)

byte_above : (b : ℕ) → Over 32 (byte_text b)
byte_above b = by (is_shown b) refl
  where
    by : (s : Bool) → is_shown b ≡ s → Over 32 (cond s (b ∷ []) (37 ∷ hex_digit (b / 16) ∷ hex_digit (b % 16) ∷ []))
    by true e = (shown_is_above b e, tt)
    by false e = (lit< tt, (hex_digit_above (b / 16), (hex_digit_above (b % 16), tt)))

pub text_above : (bytes : List ℕ) → Over 32 (text_of bytes)
text_above [] = tt
text_above (b ∷ bs) = over_append 32 (byte_text b) (text_of bs) (byte_above b) (text_above bs)

-- ---- the fields of a line

pub key_back : (key : List ℕ) → IsKey key → key_of (text_of key) ≡ Ok key
key_back key is =
    ap (λ o. told Text o >>= key_of_bytes) (text_back key (recursion_from_All (λ byte. byte < 256) key is.2))
    ∙ ap (λ t. cond t (Ok key) (Err Key)) (and_from (ltb 0 (length key)) (leb (length key) 64) (lt-ltb 0 (length key) is.0) (le-leb (length key) 64 is.1))

pub value_back : (value : List ℕ) → IsValueText value → value_of (61 ∷ text_of value) ≡ Ok value
value_back value is =
    ap (λ o. told Text o >>= value_of_bytes) (text_back value (recursion_from_All (λ byte. byte < 256) value is.1))
    ∙ ap (λ t. cond t (Ok value) (Err Value)) (le-leb (length value) 512 is.0)

-- no key is written as `*`
not_open : (key : List ℕ) → 0 < length key → bytes_eq (text_of key) (codes "*") ≡ false
not_open [] some = absurd (omega arith)
not_open (b ∷ bs) some = by (is_shown b) refl
  where
    by : (s : Bool) → is_shown b ≡ s → bytes_eq (cond s (b ∷ []) (37 ∷ hex_digit (b / 16) ∷ hex_digit (b % 16) ∷ []) ++ text_of bs) (codes "*") ≡ false
    by true e = ap (λ t. t && bytes_eq (text_of bs) []) (not-true (eqb b 42) ((and_parts (is_plain b) (not (eqb b 42)) e).1))
    by false e = refl

pub end_back : (end : Option (List ℕ)) → IfSome end IsKey → end_of (end_text end) ≡ Ok end
end_back None is = refl
end_back (Some key) is =
    ap (λ t. cond t (Ok None) (key_of (text_of key) >>= λ key. Ok (Some key))) (not_open key is.0)
    ∙ ap (λ r. r >>= λ key. Ok (Some key)) (key_back key is)

abbrev Digits : List ℕ → Type 0
Digits bytes = (list_all is_ascii_digit bytes ≡ true) × Over 32 bytes

digits_push : (bytes : List ℕ) (d : ℕ) → d < 10 → Digits bytes → Digits (bytes ++ (48 + d) ∷ [])
digits_push bytes d small h = (
  list_all-append is_ascii_digit bytes ((48 + d) ∷ []) ∙ and_from (list_all is_ascii_digit bytes) (is_ascii_digit (48 + d) && true) h.0 (digit d small),
  over_append 32 bytes ((48 + d) ∷ []) h.1 (omega arith, tt),
)
  where
    digit : (d : ℕ) → d < 10 → (is_ascii_digit (48 + d) && true) ≡ true
    digit d small = grind (arith, nat_tests)

decimal_digits : (n : ℕ) → n < 2 ^ 64 → Digits (decimal n)
decimal_digits n small = decimal_by_steps (λ _ ds. Digits ds) (λ m low. digits_push [] m low (refl, tt)) (λ m ds low h. digits_push ds (m % 10) (omega arith) h) n small

pub decimal_above : (n : ℕ) → n < 2 ^ 64 → Over 32 (decimal n)
decimal_above n small = (decimal_digits n small).1

pub caller_back : (callers n : ℕ) → n < callers → n < 2 ^ 32 → caller_of callers (decimal n) ≡ Some n
caller_back callers n below small =
    let fits : n < 2 ^ 64 = omega arith in
    let value : digits_value 10 (decimal n) ≡ n = (decimal_is_IsNumeral n fits).1 in
    let digits = (decimal_digits n fits).0 in
    let some = lt-ltb 0 (length (decimal n)) (decimal_nonempty n fits) in
    let short = le-leb (length (decimal n)) 20 (length-decimal-le 20 n (omega arith) (omega arith) fits) in
    ap (λ v. cond (ltb 0 (length (decimal n)) && leb (length (decimal n)) 20 && list_all is_ascii_digit (decimal n) && ltb v callers) (Some v) None) value
    ∙ ap (λ t. cond (t && ltb n callers) (Some n) None) (and_from _ _ (and_from _ _ some short) digits)
    ∙ ap (λ t. cond t (Some n) None) (lt-ltb n callers below)
