-- What the first byte of a text spells, and a text without `%`.
use Rattle.std.proofs.Common.{◌≡◌, ℕ, ◌+◌, ◌*◌, ◌<◌, Bool, true, false, cond, not, ◌&&◌, eqb, List, [], ◌∷◌, ◌++◌, length, get_or, take, drop, ◌-◌, Option, Some, None, refl, ap, ◌∙◌, sym, arith, append_assoc}
use Rattle.std.proofs.lemmas.List.{take_all}
use Rattle.std.specs.List.{list_all}
use Rattle.std.specs.Option.{option_map}
use Rattle.spl_script.specs.Text.{is_plain, digit_of, plain_first, escaped_first, spelled}

-- these bytes, before what the rest spells
abbrev pub behind_bytes : List ℕ → Option (List ℕ) → Option (List ℕ)
behind_bytes done read = option_map (λ bytes. done ++ bytes) read

first_plain : (byte : ℕ) (read : Option (List ℕ)) → is_plain byte ≡ true → plain_first byte read ≡ option_map (λ bytes. byte ∷ bytes) read
first_plain byte None is = refl
first_plain byte (Some bytes) is = ap (λ t. cond t (Some (byte ∷ bytes)) None) is

first_other : (byte : ℕ) (read : Option (List ℕ)) → is_plain byte ≡ false → plain_first byte read ≡ None
first_other byte None is = refl
first_other byte (Some bytes) is = ap (λ t. cond t (Some (byte ∷ bytes)) None) is

and_true : (a b : Bool) → (a && b) ≡ true → (a ≡ true) × (b ≡ true)
and_true true b e = (refl, e)
and_true false b e = absurd (cc)

not_true : (a : Bool) → not a ≡ true → a ≡ false
not_true true e = absurd (cc)
not_true false e = refl

plain_is_no_percent : (byte : ℕ) → is_plain byte ≡ true → eqb byte 37 ≡ false
plain_is_no_percent byte is = not_true (eqb byte 37) ((and_true _ (not (eqb byte 37)) is).1)

-- a byte that is no `%` spells itself or nothing
pub other_first : (byte : ℕ) (text : List ℕ) → eqb byte 37 ≡ false → spelled (byte ∷ text) ≡ plain_first byte (spelled text)
other_first byte [] is = refl
other_first byte (next ∷ []) is = refl
other_first byte (next ∷ last ∷ text) is =
    ap (λ t. cond t (escaped_first (digit_of next) (digit_of last) (spelled text)) (plain_first byte (spelled (next ∷ last ∷ text)))) is

pub plain_cons : (byte : ℕ) (text : List ℕ) → is_plain byte ≡ true → spelled (byte ∷ text) ≡ option_map (λ bytes. byte ∷ bytes) (spelled text)
plain_cons byte text is = other_first byte text (plain_is_no_percent byte is) ∙ first_plain byte (spelled text) is

pub other_cons : (byte : ℕ) (text : List ℕ) → eqb byte 37 ≡ false → is_plain byte ≡ false → spelled (byte ∷ text) ≡ None
other_cons byte text percent is = other_first byte text percent ∙ first_other byte (spelled text) is

-- a text without `%` spells itself
pub plain_text : (text : List ℕ) → list_all is_plain text ≡ true → spelled text ≡ Some text
plain_text [] all = refl
plain_text (byte ∷ text) all =
    let both = and_true (is_plain byte) (list_all is_plain text) all in
    plain_cons byte text both.0 ∙ ap (option_map (λ bytes. byte ∷ bytes)) (plain_text text both.1)

-- an escape
pub escape_cons : (next last high low : ℕ) (text : List ℕ) → digit_of next ≡ Some high → digit_of last ≡ Some low → spelled (37 ∷ next ∷ last ∷ text) ≡ option_map (λ bytes. (16 * high + low) ∷ bytes) (spelled text)
escape_cons next last high low text h l = ap (λ o. escaped_first o (digit_of last) (spelled text)) h ∙ ap (λ o. escaped_first (Some high) o (spelled text)) l ∙ by (spelled text)
  where
    by : (read : Option (List ℕ)) → escaped_first (Some high) (Some low) read ≡ option_map (λ bytes. (16 * high + low) ∷ bytes) read
    by None = refl
    by (Some bytes) = refl

pub no_high : (next last : ℕ) (text : List ℕ) → digit_of next ≡ None → spelled (37 ∷ next ∷ last ∷ text) ≡ None
no_high next last text h = ap (λ o. escaped_first o (digit_of last) (spelled text)) h

pub no_low : (next last : ℕ) (text : List ℕ) → digit_of last ≡ None → spelled (37 ∷ next ∷ last ∷ text) ≡ None
no_low next last text l = ap (λ o. escaped_first (digit_of next) o (spelled text)) l ∙ by (digit_of next) (spelled text)
  where
    by : (o : Option ℕ) (read : Option (List ℕ)) → escaped_first o None read ≡ None
    by None read = refl
    by (Some high) read = refl

-- one byte more is spelled
pub one_byte : (done : List ℕ) (byte : ℕ) (read : Option (List ℕ)) → behind_bytes done (option_map (λ bytes. byte ∷ bytes) read) ≡ behind_bytes (done ++ byte ∷ []) read
one_byte done byte None = refl
one_byte done byte (Some bytes) = ap Some (sym (append_assoc done (byte ∷ []) bytes))

pub nothing_spelled : (read : Option (List ℕ)) → behind_bytes [] read ≡ read
nothing_spelled None = refl
nothing_spelled (Some bytes) = refl

pub byte_spelled : (done left : List ℕ) (d byte : ℕ) (after items : List ℕ) (whole : Option (List ℕ)) → 0 < length left →
    spelled (get_or left 0 d ∷ take (length left - 1) (drop 1 left)) ≡ option_map (λ bytes. byte ∷ bytes) (spelled after) →
    items ≡ done ++ byte ∷ [] → behind_bytes done (spelled left) ≡ whole → behind_bytes items (spelled after) ≡ whole
byte_spelled done [] d byte after items whole some is now so_far = absurd (omega arith)
byte_spelled done (x ∷ xs) d byte after items whole some is now so_far =
    let rest : take (length (x ∷ xs) - 1) xs ≡ xs = take_all _ xs (omega arith) in
    ap (λ b. behind_bytes b (spelled after)) now
    ∙ sym (one_byte done byte (spelled after))
    ∙ ap (behind_bytes done) (sym is ∙ ap (λ r. spelled (x ∷ r)) rest)
    ∙ so_far
