-- The text of bytes, and of an end of a scan, gives them back, and holds no space and no LF.
use Rattle.std.proofs.Common.{◌≡◌, ℕ, ◌+◌, ◌-◌, ◌*◌, ◌/◌, ◌%◌, ◌<◌, ◌≤◌, ◌⊎◌, inl, inr, Bool, true, false, cond, not, ◌&&◌, ltb, eqb, List, [], ◌∷◌, ◌++◌, Option, Some, None, refl, ap, ◌∙◌, sym, arith, lit<}
use Rattle.std.proofs.lemmas.Bool.{cases_lt, ltb-true, lt-ltb, le-ltb}
use Rattle.std.specs.List.{AllByRecursion, list_all}
use Rattle.spl_report.specs.ReportText.{is_shown, hex_digit, byte_text, text_of, end_text, AreBytes, HasEndBytes}
use Rattle.spl_report.proofs.Lists.{all_append}

-- ---- no byte up to a space

abbrev pub Above : List ℕ → Type 0
Above bytes = AllByRecursion (λ byte. 32 < byte) bytes

-- two texts before a space or an LF are one if what they begin is one
pub cut : (end : ℕ) (a b x y : List ℕ) → end ≤ 32 → Above a → Above b → a ++ end ∷ x ≡ b ++ end ∷ y → (a ≡ b) × (x ≡ y)
cut end [] [] x y low ha hb e = let rest : x ≡ y = cc in (refl, rest)
cut end [] (b ∷ bs) x y low ha hb e = let same : end ≡ b = cc in absurd (omega (arith, hb.0))
cut end (a ∷ as') [] x y low ha hb e = let same : a ≡ end = cc in absurd (omega (arith, ha.0))
cut end (a ∷ as') (b ∷ bs) x y low ha hb e =
    let first : a ≡ b = cc in
    let rest : as' ++ end ∷ x ≡ bs ++ end ∷ y = cc in
    let more = cut end as' bs x y low ha.1 hb.1 rest in
    ((λ i. first i ∷ more.0 i), more.1)

-- what ends at an LF is nothing that goes on behind a space
pub no_line : (a b x y : List ℕ) → Above a → Above b → a ++ 10 ∷ x ≡ b ++ 32 ∷ y → ⊥
no_line [] [] x y ha hb e = let same : ◌≡◌ {A = ℕ} 10 32 = cc in omega (arith, same)
no_line [] (b ∷ bs) x y ha hb e = let same : 10 ≡ b = cc in omega (arith, hb.0)
no_line (a ∷ as') [] x y ha hb e = let same : a ≡ 32 = cc in omega (arith, ha.0)
no_line (a ∷ as') (b ∷ bs) x y ha hb e = let rest : as' ++ 10 ∷ x ≡ bs ++ 32 ∷ y = cc in no_line as' bs x y ha.1 hb.1 rest

-- ---- a byte's text

undigit : ℕ → ℕ
undigit digit = cond (ltb digit 58) (digit - 48) (digit - 55)

undigit-hex_digit : (d : ℕ) → d < 16 → undigit (hex_digit d) ≡ d
unfolding undigit
undigit-hex_digit d small = by (cases_lt d 10)
  where
    by : (d < 10) ⊎ (10 ≤ d) → cond (ltb (cond (ltb d 10) (48 + d) (55 + d)) 58) (cond (ltb d 10) (48 + d) (55 + d) - 48) (cond (ltb d 10) (48 + d) (55 + d) - 55) ≡ d
    by (inl low) = rw (lt-ltb d 10 low) (rw (lt-ltb (48 + d) 58 (omega arith)) (omega arith))
    by (inr high) = rw (le-ltb d 10 high) (rw (le-ltb (55 + d) 58 (omega arith)) (omega arith))

pub bytes_of : List ℕ → List ℕ
bytes_of [] = []
bytes_of (b ∷ []) = b ∷ []
bytes_of (b ∷ h ∷ []) = b ∷ bytes_of (h ∷ [])
bytes_of (b ∷ h ∷ l ∷ rest) = cond (eqb b 37) ((16 * undigit h + undigit l) ∷ bytes_of rest) (b ∷ bytes_of (h ∷ l ∷ rest))

plain : (b : ℕ) (rest : List ℕ) → eqb b 37 ≡ false → bytes_of (b ∷ rest) ≡ b ∷ bytes_of rest
unfolding bytes_of
plain b [] e = refl
plain b (h ∷ []) e = refl
plain b (h ∷ l ∷ rest) e = ap (λ t. cond t ((16 * undigit h + undigit l) ∷ bytes_of rest) (b ∷ bytes_of (h ∷ l ∷ rest))) e

escaped : (h l : ℕ) (rest : List ℕ) → bytes_of (37 ∷ h ∷ l ∷ rest) ≡ (16 * undigit h + undigit l) ∷ bytes_of rest
unfolding bytes_of
escaped h l rest = refl

and_true : (a b : Bool) → (a && b) ≡ true → (a ≡ true) × (b ≡ true)
and_true true b e = (refl, e)
and_true false b e = absurd (cc)

not_true : (a : Bool) → not a ≡ true → a ≡ false
not_true true e = absurd (cc)
not_true false e = refl

shown_is_no_percent : (b : ℕ) → is_shown b ≡ true → eqb b 37 ≡ false
shown_is_no_percent b e = not_true (eqb b 37) ((and_true _ (not (eqb b 37)) ((and_true _ (not (eqb b 42)) e).0)).1)

shown_is_above : (b : ℕ) → is_shown b ≡ true → 32 < b
shown_is_above b e = ltb-true 32 b ((and_true (ltb 32 b) _ ((and_true _ _ ((and_true _ (not (eqb b 42)) e).0)).0)).0)

byte_back : (b : ℕ) (rest : List ℕ) → b < 256 → bytes_of (byte_text b ++ rest) ≡ b ∷ bytes_of rest
byte_back b rest small = by (is_shown b) refl
  where
    by : (s : Bool) → is_shown b ≡ s → bytes_of (cond s (b ∷ []) (37 ∷ hex_digit (b / 16) ∷ hex_digit (b % 16) ∷ []) ++ rest) ≡ b ∷ bytes_of rest
    by true e = plain b rest (shown_is_no_percent b e)
    by false e =
        let high : undigit (hex_digit (b / 16)) ≡ b / 16 = undigit-hex_digit (b / 16) (omega arith) in
        let low : undigit (hex_digit (b % 16)) ≡ b % 16 = undigit-hex_digit (b % 16) (omega arith) in
        let whole : 16 * (b / 16) + b % 16 ≡ b = omega arith in
        escaped (hex_digit (b / 16)) (hex_digit (b % 16)) rest
        ∙ ap (λ n. (16 * n + undigit (hex_digit (b % 16))) ∷ bytes_of rest) high ∙ ap (λ n. (16 * (b / 16) + n) ∷ bytes_of rest) low ∙ ap (λ n. n ∷ bytes_of rest) whole

pub text_back : (bytes : List ℕ) → AreBytes bytes → bytes_of (text_of bytes) ≡ bytes
unfolding bytes_of
text_back [] h = refl
text_back (b ∷ bs) h = byte_back b (text_of bs) h.0 ∙ ap (λ r. b ∷ r) (text_back bs h.1)

pub text_of-injective : (a b : List ℕ) → AreBytes a → AreBytes b → text_of a ≡ text_of b → a ≡ b
text_of-injective a b ha hb e = sym (text_back a ha) ∙ ap bytes_of e ∙ text_back b hb

hex_digit_above : (d : ℕ) → 32 < hex_digit d
hex_digit_above d = by (cases_lt d 10)
  where
    by : (d < 10) ⊎ (10 ≤ d) → 32 < cond (ltb d 10) (48 + d) (55 + d)
    by (inl low) = rw (lt-ltb d 10 low) (omega arith)
    by (inr high) = rw (le-ltb d 10 high) (omega arith)

byte_above : (b : ℕ) → Above (byte_text b)
byte_above b = by (is_shown b) refl
  where
    by : (s : Bool) → is_shown b ≡ s → Above (cond s (b ∷ []) (37 ∷ hex_digit (b / 16) ∷ hex_digit (b % 16) ∷ []))
    by true e = (shown_is_above b e, tt)
    by false e = (lit< tt, (hex_digit_above (b / 16), (hex_digit_above (b % 16), tt)))

pub text_above : (bytes : List ℕ) → Above (text_of bytes)
text_above [] = tt
text_above (b ∷ bs) = all_append (λ byte. 32 < byte) (byte_text b) (text_of bs) (byte_above b) (text_above bs)

pub above_by_test : (bytes : List ℕ) → list_all (λ byte. ltb 32 byte) bytes ≡ true → Above bytes
above_by_test [] e = tt
above_by_test (b ∷ bs) e = let both = and_true (ltb 32 b) (list_all (λ byte. ltb 32 byte) bs) e in (ltb-true 32 b both.0, above_by_test bs both.1)

-- ---- an end of a scan

shown_is_no_star : (b : ℕ) → is_shown b ≡ true → eqb b 42 ≡ false
shown_is_no_star b e = not_true (eqb b 42) ((and_true _ (not (eqb b 42)) e).1)

no_star : (bytes : List ℕ) → 42 ∷ [] ≡ text_of bytes → ⊥
no_star [] e = cc
no_star (b ∷ bs) e = by (is_shown b) refl e
  where
    by : (s : Bool) → is_shown b ≡ s → 42 ∷ [] ≡ cond s (b ∷ []) (37 ∷ hex_digit (b / 16) ∷ hex_digit (b % 16) ∷ []) ++ text_of bs → ⊥
    by true shown e =
        let same : 42 ≡ b = cc in
        let test : eqb 42 42 ≡ false = ap (λ n. eqb n 42) same ∙ shown_is_no_star b shown in
        absurd (cc)
    by false shown e = let same : ◌≡◌ {A = ℕ} 42 37 = cc in omega (arith, same)

pub end_same : (a b : Option (List ℕ)) → HasEndBytes a → HasEndBytes b → end_text a ≡ end_text b → a ≡ b
end_same None None ha hb e = refl
end_same None (Some b) ha hb e = absurd (no_star b e)
end_same (Some a) None ha hb e = absurd (no_star a (sym e))
end_same (Some a) (Some b) ha hb e = ap Some (text_of-injective a b ha hb e)

pub end_above : (end : Option (List ℕ)) → Above (end_text end)
end_above None = (lit< tt, tt)
end_above (Some bytes) = text_above bytes
