-- The text of a script, read again, is the script.
use Rattle.std.proofs.Common.{◌≡◌, ℕ, zero, suc, ◌+◌, ◌-◌, ◌^◌, ◌<◌, ◌≤◌, false, cond, ◌≢◌, ltb, eqb, List, [], ◌∷◌, ◌++◌, length, length-append, take, get_or, codes, decimal, Option, Some, None, IfSome, Result, Ok, Err, All, refl, ap, ◌∙◌, sym, subst, arith, append_assoc}
use Rattle.std.proofs.lemmas.Bool.{le-ltb, ne_eqb}
use Rattle.std.proofs.lemmas.List.{take_all, take_more, flat_map_more}
use Rattle.std.proofs.lemmas.List.Elements.{All-push, recursion_from_All}
use Rattle.std.specs.List.{AllByRecursion, flat_map, slice_split}
use Rattle.std.specs.Option.{option_to_list}
use Rattle.spl_message.specs.declared.call.Call.TheVariants.{Put, Look, Piece}
use Rattle.spl_message.specs.declared.message.Message.TheVariants.{Insert, Delete, Update}
use Rattle.spl_message.specs.declared.span.Span.{Span}
use Rattle.spl_message.specs.Key.{IsKey}
use Rattle.spl_message.specs.Bound.{IsBound}
use Rattle.spl_script.specs.declared.reason.LineWhy.TheVariants.{Size, Caller}
use Rattle.spl_script.specs.declared.lines.Deed.{Deed}
use Rattle.spl_script.specs.declared.lines.Deed.TheVariants.{One, Scan}
use Rattle.spl_script.specs.declared.lines.ScriptLine.{ScriptLine}
use Rattle.spl_script.specs.Lines.{Faulty, at_line, is_too_far, numbered, lines_from, script_text}
use Rattle.spl_script.specs.Names.{key_of, value_of, end_of}
use Rattle.spl_script.specs.Reason.{◌>>=◌, told}
use Rattle.spl_script.specs.Text.{text_of}
use Rattle.spl_script.specs.Verb.{IsDeed, fields_of, pair_of, deed_of, asked, without_cr, line_of}
use Rattle.spl_script.specs.Writing.{HasParts, IsWhole, end_text, span_text, deed_text, line_text, lines_text}
use Rattle.spl_script.proofs.Canonical.{Over, over_append, over_weaker, over_by_test, split_front, split_last, text_above, key_back, value_back, end_back, decimal_above, caller_back}
use Rattle.spl_script.proofs.Readings.{lines_behind, more_read}

-- ---- a deed

-- the fields of a deed's text, with which its verb asks for it
record Fields (deed : Deed) : Type 0 where
  verb : List ℕ
  rest : List (List ℕ)
  are : fields_of (deed_text deed) ≡ verb ∷ rest
  back : deed_of verb rest ≡ Ok deed

-- two fields, and the last one
two_fields : (front last : List ℕ) → Over 32 front → Over 32 last → fields_of (front ++ 32 ∷ last) ≡ front ∷ last ∷ []
two_fields front last f l = split_front 32 front last f ∙ ap (λ fs. front ∷ fs) (split_last 32 last l)

pair_back : (k v key value : List ℕ) → key_of k ≡ Ok key → value_of v ≡ Ok value → pair_of (k ∷ v ∷ []) ≡ Ok (key, value)
pair_back k v key value hk hv = ap (λ r. r >>= λ key. value_of v >>= λ value. Ok (key, value)) hk ∙ ap (λ r. r >>= λ value. Ok (key, value)) hv

-- the text of a pair, from the left
pair_text : (key value : List ℕ) → text_of key ++ codes " =" ++ text_of value ≡ text_of key ++ 32 ∷ (61 ∷ text_of value)
pair_text key value = append_assoc (text_of key) (codes " =") (text_of value)

pair_fields : (key value : List ℕ) → fields_of (text_of key ++ codes " =" ++ text_of value) ≡ text_of key ∷ (61 ∷ text_of value) ∷ []
pair_fields key value = ap fields_of (pair_text key value) ∙ two_fields (text_of key) (61 ∷ text_of value) (text_above key) (omega arith, text_above value)

end_above : (end : Option (List ℕ)) → Over 32 (end_text end)
end_above None = over_by_test 32 (codes "*") refl
end_above (Some bytes) = text_above bytes

as_key : (end : Option (List ℕ)) → IfSome end IsBound → IfSome end (λ end. length end ≤ 64) → IfSome end IsKey
as_key None is short = tt
as_key (Some bytes) is short = (is.0, short, is.2)

scan_fields : (start end : Option (List ℕ)) → fields_of (end_text start ++ codes " " ++ end_text end) ≡ end_text start ∷ end_text end ∷ []
scan_fields start end = ap fields_of (append_assoc (end_text start) (codes " ") (end_text end)) ∙ two_fields (end_text start) (end_text end) (end_above start) (end_above end)

deed_fields : (deed : Deed) → HasParts deed → IsDeed deed → Fields deed
deed_fields (One (Put key (Insert value))) is fit = record {
  verb = codes "put";
  rest = text_of key ∷ (61 ∷ text_of value) ∷ [];
  are = ap (λ fs. codes "put" ∷ fs) (pair_fields key value);
  back = ap (λ r. r >>= λ pair. Ok (One (Put pair.0 (Insert pair.1)))) (pair_back (text_of key) (61 ∷ text_of value) key value (key_back key is.0) (value_back value is.1));
}
deed_fields (One (Put key (Update value))) is fit = record {
  verb = codes "upd";
  rest = text_of key ∷ (61 ∷ text_of value) ∷ [];
  are = ap (λ fs. codes "upd" ∷ fs) (pair_fields key value);
  back = ap (λ r. r >>= λ pair. Ok (One (Put pair.0 (Update pair.1)))) (pair_back (text_of key) (61 ∷ text_of value) key value (key_back key is.0) (value_back value is.1));
}
deed_fields (One (Put key Delete)) is fit = record {
  verb = codes "del";
  rest = text_of key ∷ [];
  are = ap (λ fs. codes "del" ∷ fs) (split_last 32 (text_of key) (text_above key));
  back = ap (λ r. r >>= λ key. Ok (One (Put key Delete))) (key_back key is);
}
deed_fields (One (Look key)) is fit = record {
  verb = codes "get";
  rest = text_of key ∷ [];
  are = ap (λ fs. codes "get" ∷ fs) (split_last 32 (text_of key) (text_above key));
  back = ap (λ r. r >>= λ key. Ok (One (Look key))) (key_back key is);
}
deed_fields (One (Piece span)) is fit = absurd fit
deed_fields (Scan span) is fit = record {
  verb = codes "scan";
  rest = end_text span.from ∷ end_text span.to ∷ [];
  are = ap (λ fs. codes "scan" ∷ fs) (scan_fields span.from span.to);
  back = ap (λ r. r >>= λ start. end_of (end_text span.to) >>= λ end. Ok (Scan (record { from = start; to = end }))) (end_back span.from is.0)
      ∙ ap (λ r. r >>= λ end. Ok (Scan (record { from = span.from; to = end }))) (end_back span.to (as_key span.to is.1 fit));
}

-- ---- a line

-- a line's text without its LF
abbrev body : ScriptLine → List ℕ
body line = decimal line.caller ++ 32 ∷ deed_text line.deed

line_body : (line : ScriptLine) (rest : List ℕ) → line_text line ++ rest ≡ body line ++ 10 ∷ rest
line_body line rest = by (decimal line.caller) (deed_text line.deed)
  where
    by : (c d : List ℕ) → (c ++ codes " " ++ d ++ codes "\n") ++ rest ≡ (c ++ 32 ∷ d) ++ 10 ∷ rest
    by c d = simp append_assoc

-- no byte of it is below a space
text_over : (bytes : List ℕ) → Over 31 (text_of bytes)
text_over bytes = over_weaker 31 32 (text_of bytes) (omega arith) (text_above bytes)

end_over : (end : Option (List ℕ)) → Over 31 (end_text end)
end_over end = over_weaker 31 32 (end_text end) (omega arith) (end_above end)

pair_over : (verb key value : List ℕ) → Over 31 verb → Over 31 (verb ++ text_of key ++ codes " =" ++ text_of value)
pair_over verb key value over =
    over_append 31 (verb ++ text_of key ++ codes " =") (text_of value)
    (over_append 31 (verb ++ text_of key) (codes " =") (over_append 31 verb (text_of key) over (text_over key)) (over_by_test 31 (codes " =") refl)) (text_over value)

span_over : (span : Span) → Over 31 (span_text span)
span_over span =
    over_append 31 (codes "scan " ++ end_text span.from ++ codes " ") (end_text span.to)
    (over_append 31 (codes "scan " ++ end_text span.from) (codes " ") (over_append 31 (codes "scan ") (end_text span.from) (over_by_test 31 (codes "scan ") refl) (end_over span.from)) (over_by_test 31 (codes " ") refl)) (end_over span.to)

deed_over : (deed : Deed) → Over 31 (deed_text deed)
deed_over (One (Put key (Insert value))) = pair_over (codes "put ") key value (over_by_test 31 (codes "put ") refl)
deed_over (One (Put key (Update value))) = pair_over (codes "upd ") key value (over_by_test 31 (codes "upd ") refl)
deed_over (One (Put key Delete)) = over_append 31 (codes "del ") (text_of key) (over_by_test 31 (codes "del ") refl) (text_over key)
deed_over (One (Look key)) = over_append 31 (codes "get ") (text_of key) (over_by_test 31 (codes "get ") refl) (text_over key)
deed_over (One (Piece span)) = span_over span
deed_over (Scan span) = span_over span

body_over : (line : ScriptLine) → line.caller < 2 ^ 64 → Over 31 (body line)
body_over line small = over_append 31 (decimal line.caller) (32 ∷ deed_text line.deed) (over_weaker 31 32 (decimal line.caller) (omega arith) (decimal_above line.caller small)) (omega arith, deed_over line.deed)

-- so no CR is at its end
no_cr : (bytes : List ℕ) (n : ℕ) → Over 31 bytes → eqb (get_or bytes n 0) 13 ≡ false
no_cr [] n over = refl
no_cr (b ∷ bs) zero over = let here : 31 < b = over.0 in ne_eqb b 13 (λ e. omega arith)
no_cr (b ∷ bs) (suc n) over = no_cr bs n over.1

whole_line : (bytes : List ℕ) → Over 31 bytes → without_cr bytes ≡ bytes
whole_line bytes over = ap (λ t. cond t (take (length bytes - 1) bytes) bytes) (no_cr bytes (length bytes - 1) over)

line_back : (callers : ℕ) (line : ScriptLine) → IsWhole line → IsDeed line.deed → line.caller < callers → line_of callers (body line) ≡ Ok (Some line)
line_back callers line is fit below =
    let caller : line.caller < 2 ^ 32 = is.0 in
    let small : line.caller < 2 ^ 64 = omega arith in
    let fields = deed_fields line.deed is.1 fit in
    let some : length (body line) ≢ 0 = not_none in
    let split : fields_of (body line) ≡ decimal line.caller ∷ fields.verb ∷ fields.rest = split_front 32 (decimal line.caller) (deed_text line.deed) (decimal_above line.caller small) ∙ ap (λ fs. decimal line.caller ∷ fs) fields.are in
    ap (λ t. cond t (Ok None) (asked callers (fields_of (body line)) >>= λ line. Ok (Some line))) (ne_eqb (length (body line)) 0 some)
    ∙ ap (λ fs. asked callers fs >>= λ line. Ok (Some line)) split
    ∙ ap (λ o. (told Caller o >>= λ caller. deed_of fields.verb fields.rest >>= λ deed. Ok (record { caller = caller; deed = deed })) >>= λ line. Ok (Some line)) (caller_back callers line.caller below caller)
    ∙ ap (λ r. (r >>= λ deed. Ok (record { caller = line.caller; deed = deed })) >>= λ line. Ok (Some line)) fields.back
  where
    not_none : length (body line) ≢ 0
    not_none = λ none. omega (arith, length-append (decimal line.caller) (32 ∷ deed_text line.deed))

-- ---- a script

numbered_back : (callers number end : ℕ) (line : ScriptLine) → IsWhole line → IsDeed line.deed → line.caller < callers → number ≤ 500000 → end ≤ 16777216 → numbered callers number end (body line) ≡ Ok (Some line)
numbered_back callers number end line is fit below few near =
    let caller : line.caller < 2 ^ 32 = is.0 in
    let over : Over 31 (body line) = body_over line (omega arith) in
    ap (λ t. at_line number (cond t (Err Size) (line_of callers (without_cr (body line))))) (far (le-ltb 500000 number few) (le-ltb 16777216 end near))
    ∙ ap (λ t. at_line number (line_of callers t)) (whole_line (body line) over)
    ∙ ap (at_line number) (line_back callers line is fit below)
  where
    far : ltb 500000 number ≡ false → ltb 16777216 end ≡ false → is_too_far number end ≡ false
    far a b = rw a (rw b refl)

from_behind : (lines : List ScriptLine) (line : ScriptLine) (read : Result (List ScriptLine) Faulty) (whole : Result (List ScriptLine) Faulty) → lines_behind [] whole ≡ lines_behind ([] ++ option_to_list (Some line)) read → read ≡ Ok lines → whole ≡ Ok (line ∷ lines)
from_behind lines line read whole step rest = sym (none_behind whole) ∙ step ∙ ap (lines_behind (line ∷ [])) rest
  where
    none_behind : (read : Result (List ScriptLine) Faulty) → lines_behind [] read ≡ read
    none_behind (Ok lines) = refl
    none_behind (Err faulty) = refl

-- each line may be read again
abbrev pub AreReadable : ℕ → List ScriptLine → Type 0
AreReadable callers lines = AllByRecursion (λ line. IsWhole line × IsDeed line.deed × (line.caller < callers)) lines

lines_back : (callers number before : ℕ) (lines : List ScriptLine) → AreReadable callers lines → number + length lines ≤ 500001 → before + length (lines_text lines) ≤ 16777216 →
    lines_from callers number before (slice_split (λ byte. eqb byte 10) (lines_text lines)) ≡ Ok lines
lines_back callers number before [] are few near = refl
lines_back callers number before (line ∷ lines) are few near =
    let split : lines_text (line ∷ lines) ≡ body line ++ 10 ∷ lines_text lines = line_body line (lines_text lines) in
    let caller : line.caller < 2 ^ 32 = are.0.0.0 in
    let over : Over 10 (body line) = over_weaker 10 31 (body line) (omega arith) (body_over line (omega arith)) in
    let size : length (lines_text (line ∷ lines)) ≡ length (body line) + length (10 ∷ lines_text lines) = ap length split ∙ length-append (body line) (10 ∷ lines_text lines) in
    let end = before + length (body line) + 1 in
    from_behind lines line
    (lines_from callers (number + 1) end (slice_split (λ byte. eqb byte 10) (lines_text lines)))
    (lines_from callers number before (slice_split (λ byte. eqb byte 10) (lines_text (line ∷ lines))))
    (more_read callers number before end [] (Some line) (body line) (λ byte. eqb byte 10) (lines_text lines) (slice_split (λ byte. eqb byte 10) (lines_text (line ∷ lines)))
    (ap (slice_split (λ byte. eqb byte 10)) split ∙ split_front 10 (body line) (lines_text lines) over) refl
    (numbered_back callers number end line are.0.0 are.0.1 are.0.2 (omega arith) (omega (arith, size))))
    (lines_back callers (number + 1) end lines are.1 (omega arith) (omega (arith, size)))

pub read_again : (callers : ℕ) (lines : List ScriptLine) (text : List ℕ) → AreReadable callers lines → length lines ≤ 500000 → text ≡ lines_text lines → length text ≤ 16777216 → script_text callers text ≡ Ok lines
read_again callers lines text are few is near =
    let size : length text ≡ length (lines_text lines) = ap length is in
    ap (λ t. lines_from callers 1 0 (slice_split (λ byte. eqb byte 10) t)) (take_all 16777217 text (omega arith) ∙ is)
    ∙ lines_back callers 1 0 lines are (omega arith) (omega arith)

-- ---- line by line

here_more : (lines : List ScriptLine) (i : ℕ) (line : ScriptLine) → i < length lines → line ≡ get_or lines i line → take (i + 1) lines ≡ take i lines ++ line ∷ []
here_more lines i line within is = take_more lines i line within ∙ ap (λ x. take i lines ++ x ∷ []) (sym is)

-- one line more is written
pub lines_written : (lines : List ScriptLine) (i : ℕ) (line : ScriptLine) (before after : List ℕ) → i < length lines → line ≡ get_or lines i line → before ≡ flat_map line_text (take i lines) → after ≡ before ++ line_text line → after ≡ flat_map line_text (take (i + 1) lines)
lines_written lines i line before after within is so_far now =
    now ∙ ap (λ t. t ++ line_text line) so_far ∙ flat_map_more line_text [] (take i lines) line ∙ ap (flat_map line_text) (sym (here_more lines i line within is))

pub all_written : (lines : List ScriptLine) (i : ℕ) (line : ScriptLine) → i < length lines → line ≡ get_or lines i line → All IsWhole (take i lines) → IsWhole line → All IsWhole (take (i + 1) lines)
all_written lines i line within is all here = subst (All IsWhole) (sym (here_more lines i line within is)) (All-push IsWhole (take i lines) line all here)

pub all_readable : (callers : ℕ) (lines : List ScriptLine) → All IsWhole lines → All (λ line. IsDeed line.deed) lines → All (λ line. line.caller < callers) lines → AreReadable callers lines
all_readable callers lines whole deeds below = recursion_from_All _ lines (λ k d within. (whole k d within, deeds k d within, below k d within))
