-- What is read of a script so far, and what is left to read.
use Rattle.std.proofs.Common.{◌≡◌, ℕ, ◌+◌, ◌-◌, ◌≤◌, ◌<◌, min, ◌⊎◌, inl, inr, arith, take, ◌==◌, List, [], ◌∷◌, ◌++◌, length, length-append, Option, Some, None, subst, Result, Ok, Err, refl, ap, ◌∙◌, sym, append_assoc, Bool}
use Rattle.std.specs.Prelude.{All, IfSome}
use Rattle.std.proofs.lemmas.Bool.{cases_lt}
use Rattle.std.proofs.lemmas.List.{append-nil}
use Rattle.std.proofs.lemmas.List.Elements.{All-push}
use Rattle.std.specs.List.{slice_split}
use Rattle.std.specs.Option.{option_to_list}
use Rattle.std.specs.Result.{IsErrAnd}
use Rattle.spl_script.specs.declared.lines.ScriptLine.{ScriptLine}
use Rattle.spl_script.specs.declared.reason.ScriptFault.{ScriptFault}
use Rattle.spl_script.specs.declared.reason.ScriptFault.TheVariants.{Line, NoMemory}
use Rattle.spl_script.specs.Reason.{◌>>=◌}
use Rattle.spl_script.specs.Lines.{Faulty, GivesFrom, script_text, lines_from, last_of, numbered}
use Rattle.spl_script.proofs.Parts.{first_of_parts}

-- these lines, and then those that are read
abbrev pub lines_behind : List ScriptLine → Result (List ScriptLine) Faulty → Result (List ScriptLine) Faulty
lines_behind done (Ok lines) = Ok (done ++ lines)
lines_behind done (Err faulty) = Err faulty

one_more : (done : List ScriptLine) (line : Option ScriptLine) (read : Result (List ScriptLine) Faulty) → lines_behind done (read >>= λ lines. Ok (option_to_list line ++ lines)) ≡ lines_behind (done ++ option_to_list line) read
one_more done line (Ok lines) = ap Ok (sym (append_assoc done (option_to_list line) lines))
one_more done line (Err faulty) = refl

-- a line is read, and more parts follow
pub more_read : (callers number before end : ℕ) (done : List ScriptLine) (line : Option ScriptLine) (text : List ℕ) (p : ℕ → Bool) (after : List ℕ) (parts : List (List ℕ)) →
    parts ≡ text ∷ slice_split p after → before + length text + 1 ≡ end → numbered callers number end text ≡ Ok line →
    lines_behind done (lines_from callers number before parts) ≡ lines_behind (done ++ option_to_list line) (lines_from callers (number + 1) end (slice_split p after))
more_read callers number before end done line text p after parts are there is =
    let more = first_of_parts p after in
    let whole : parts ≡ text ∷ more.0 ∷ more.1 = are ∙ ap (λ r. text ∷ r) more.2 in
    ap (λ ps. lines_behind done (lines_from callers number before ps)) whole
    ∙ ap (λ e. lines_behind done (numbered callers number e text >>= λ l. lines_from callers (number + 1) e (more.0 ∷ more.1) >>= λ ls. Ok (option_to_list l ++ ls))) there
    ∙ ap (λ r. lines_behind done (r >>= λ l. lines_from callers (number + 1) end (more.0 ∷ more.1) >>= λ ls. Ok (option_to_list l ++ ls))) is
    ∙ one_more done line (lines_from callers (number + 1) end (more.0 ∷ more.1))
    ∙ ap (λ ps. lines_behind (done ++ option_to_list line) (lines_from callers (number + 1) end ps)) (sym more.2)

-- a line is faulty, and more parts follow
line_faulty : (callers number before end : ℕ) (done : List ScriptLine) (faulty : Faulty) (text : List ℕ) (p : ℕ → Bool) (after : List ℕ) (parts : List (List ℕ)) →
    parts ≡ text ∷ slice_split p after → before + length text + 1 ≡ end → numbered callers number end text ≡ Err faulty →
    lines_behind done (lines_from callers number before parts) ≡ Err faulty
line_faulty callers number before end done faulty text p after parts are there is =
    let more = first_of_parts p after in
    let whole : parts ≡ text ∷ more.0 ∷ more.1 = are ∙ ap (λ r. text ∷ r) more.2 in
    ap (λ ps. lines_behind done (lines_from callers number before ps)) whole
    ∙ ap (λ e. lines_behind done (numbered callers number e text >>= λ l. lines_from callers (number + 1) e (more.0 ∷ more.1) >>= λ ls. Ok (option_to_list l ++ ls))) there
    ∙ ap (λ r. lines_behind done (r >>= λ l. lines_from callers (number + 1) end (more.0 ∷ more.1) >>= λ ls. Ok (option_to_list l ++ ls))) is

-- a fault of a line is the fault of the script
pub more_faulty : (callers number before end : ℕ) (done : List ScriptLine) (fault : ScriptFault) (text : List ℕ) (p : ℕ → Bool) (after : List ℕ) (parts : List (List ℕ)) (script : Result (List ScriptLine) Faulty) →
    parts ≡ text ∷ slice_split p after → before + length text + 1 ≡ end → GivesFrom {X = Option ScriptLine} (Err fault) (numbered callers number end text) →
    lines_behind done (lines_from callers number before parts) ≡ script → GivesFrom {X = List ScriptLine} (Err fault) script
more_faulty callers number before end done (Line line why) text p after parts script are there gives is =
    sym is ∙ line_faulty callers number before end done (record { line = line; why = why }) text p after parts are there gives
more_faulty callers number before end done NoMemory text p after parts script are there gives is = tt

-- nothing follows the last part
last_step : (callers number before end : ℕ) (done : List ScriptLine) (last : List ℕ) (parts : List (List ℕ)) → parts ≡ last ∷ [] → before + length last ≡ end →
    lines_behind done (lines_from callers number before parts) ≡ lines_behind done (last_of callers number end last >>= λ line. Ok (option_to_list line))
last_step callers number before end done last parts are there =
    ap (λ ps. lines_behind done (lines_from callers number before ps)) are
    ∙ ap (λ e. lines_behind done (last_of callers number e last >>= λ line. Ok (option_to_list line))) there

pub last_read : (callers number before end : ℕ) (done : List ScriptLine) (line : Option ScriptLine) (last : List ℕ) (parts : List (List ℕ)) (script : Result (List ScriptLine) Faulty) →
    parts ≡ last ∷ [] → before + length last ≡ end → last_of callers number end last ≡ Ok line →
    lines_behind done (lines_from callers number before parts) ≡ script → script ≡ Ok (done ++ option_to_list line)
last_read callers number before end done line last parts script are there is so_far =
    sym so_far ∙ last_step callers number before end done last parts are there ∙ ap (λ r. lines_behind done (r >>= λ line. Ok (option_to_list line))) is

pub last_faulty : (callers number before end : ℕ) (done : List ScriptLine) (fault : ScriptFault) (last : List ℕ) (parts : List (List ℕ)) (script : Result (List ScriptLine) Faulty) →
    parts ≡ last ∷ [] → before + length last ≡ end → GivesFrom {X = Option ScriptLine} (Err fault) (last_of callers number end last) →
    lines_behind done (lines_from callers number before parts) ≡ script → GivesFrom {X = List ScriptLine} (Err fault) script
last_faulty callers number before end done (Line line why) last parts script are there gives so_far =
    sym so_far ∙ last_step callers number before end done last parts are there ∙ ap (λ r. lines_behind done (r >>= λ line. Ok (option_to_list line))) gives
last_faulty callers number before end done NoMemory last parts script are there gives so_far = tt

behind_none : (read : Result (List ScriptLine) Faulty) → lines_behind [] read ≡ read
behind_none (Ok lines) = refl
behind_none (Err faulty) = refl

-- nothing is read yet
pub none_read : (callers : ℕ) (input whole : List ℕ) (done : List ScriptLine) → done ≡ [] → whole ≡ take 16777217 input →
    lines_behind done (lines_from callers 1 (length whole - length whole) (slice_split (λ byte. byte == 10) whole)) ≡ script_text callers input
none_read callers input whole done none is =
    let start : length whole - length whole ≡ 0 = omega arith in
    ap (λ d. lines_behind d (lines_from callers 1 (length whole - length whole) (slice_split (λ byte. byte == 10) whole))) none
    ∙ behind_none _
    ∙ ap (λ n. lines_from callers 1 n (slice_split (λ byte. byte == 10) whole)) start
    ∙ ap (λ w. lines_from callers 1 0 (slice_split (λ byte. byte == 10) w)) is

-- a line is put behind the others, where there is one
pub all_added : (P : ScriptLine → Type 0) (lines : List ScriptLine) (line : Option ScriptLine) → All P lines → IfSome line P → All P (lines ++ option_to_list line)
all_added P lines None all here = subst (All P) (sym (append-nil lines)) all
all_added P lines (Some line) all here = All-push P lines line all here

pub length_added : (lines : List ScriptLine) (line : Option ScriptLine) → length (lines ++ option_to_list line) ≤ length lines + 1
length_added lines None = omega (arith, length-append lines [])
length_added lines (Some line) = omega (arith, length-append lines (line ∷ []))

-- so few that one more may come, where there is one
pub few_added : (lines : List ScriptLine) (line : Option ScriptLine) (number : ℕ) → length lines + 1 ≤ number → number ≤ 500001 → IfSome line (λ _. number ≤ 500000) → length (lines ++ option_to_list line) ≤ 500000
few_added lines None number few near some = omega (arith, length-append lines [])
few_added lines (Some line) number few near some = omega (arith, length-append lines (line ∷ []))

-- a fault that is told on
pub fault_told : {X : Type 0} (result : Result X ScriptFault) (fault : ScriptFault) (script : Result X Faulty) → IsErrAnd result (λ e. e ≡ fault) → GivesFrom {X = X} (Err fault) script → GivesFrom result script
fault_told (Ok x) fault script is gives = absurd is
fault_told (Err e) fault script is gives = subst (λ f. GivesFrom (Err f) script) (sym is) gives

-- an input whose last line is near is small
pub small_by : (text left whole input : ℕ) → text ≡ left → whole - left ≤ 16777216 → (0 < text → whole ≤ 16777216) → whole ≡ min 16777217 input → input ≤ 16777216
small_by text left whole input are before near is = by (cases_lt 0 text)
  where
    by : (0 < text) ⊎ (text ≤ 0) → input ≤ 16777216
    by (inl some) = omega (arith, near some)
    by (inr none) = omega arith
