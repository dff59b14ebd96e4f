-- A script: which lines the bytes of an input spell, or the first faulty line and why.
use Rattle.std.specs.Prelude.{◌≡◌, ℕ, ◌+◌, ◌==◌, nat_lt, Bool, ◌||◌, if◌then◌else◌, List, [], ◌∷◌, ◌++◌, length, take, Option, None, option_to_list, Result, Ok, Err}
use Rattle.std.specs.List.{slice_split}
use Rattle.spl_script.specs.declared.reason.LineWhy.{LineWhy}
use Rattle.spl_script.specs.declared.reason.LineWhy.TheVariants.{Size}
use Rattle.spl_script.specs.declared.reason.ScriptFault.{ScriptFault}
use Rattle.spl_script.specs.declared.reason.ScriptFault.TheVariants.{Line, NoMemory}
use Rattle.spl_script.specs.declared.lines.ScriptLine.{ScriptLine}
use Rattle.spl_script.specs.Verb.{line_of, without_cr}
use Rattle.spl_script.specs.Reason.{◌>>=◌}

-- a faulty line, counted from 1, and why
pub record Faulty : Type 0 where
  pub line : ℕ
  pub why : LineWhy

abbrev pub at_line : {X : Type 0} → ℕ → Result X LineWhy → Result X Faulty
at_line number (Ok x) = Ok x
at_line number (Err why) = Err (record { line = number; why = why })

-- the line has byte number 16,777,217 of the input, or is line 500,001
abbrev pub is_too_far : ℕ → ℕ → Bool
is_too_far number end = nat_lt 500000 number || nat_lt 16777216 end

-- A line by its number, by how many bytes of the input end with it, its LF included, and by its bytes without the LF.
-- The size is looked at first.
abbrev pub numbered : ℕ → ℕ → ℕ → List ℕ → Result (Option ScriptLine) Faulty
numbered callers number end text = at_line number (if is_too_far number end then Err Size else line_of callers (without_cr text))

-- what stands behind the last LF is a line only if it has a byte
abbrev pub last_of : ℕ → ℕ → ℕ → List ℕ → Result (Option ScriptLine) Faulty
last_of callers number end last = if length last == 0 then Ok None else numbered callers number end last

-- The lines from a line's number on, behind so many bytes of the input, without the empty ones. The parts are what
-- stands between the LFs.
abbrev pub lines_from : ℕ → ℕ → ℕ → List (List ℕ) → Result (List ScriptLine) Faulty
lines_from callers number before [] = Ok []
lines_from callers number before (last ∷ []) = last_of callers number (before + length last) last >>= λ line. Ok (option_to_list line)
lines_from callers number before (text ∷ next ∷ parts) =
    numbered callers number (before + length text + 1) text >>= λ line.
    lines_from callers (number + 1) (before + length text + 1) (next ∷ parts) >>= λ lines. Ok (option_to_list line ++ lines)

-- The script that an input spells. No more than 16,777,217 bytes of an input are read, since a line that has the last
-- of them is faulty.
abbrev pub script_text : ℕ → List ℕ → Result (List ScriptLine) Faulty
script_text callers input = lines_from callers 1 0 (slice_split (λ byte. byte == 10) (take 16777217 input))

-- what was answered is what the bytes spell, unless memory ran out
abbrev pub GivesFrom : {X : Type 0} → Result X ScriptFault → Result X Faulty → Type 0
GivesFrom (Ok x) read = read ≡ Ok x
GivesFrom (Err (Line line why)) read = read ≡ Err (record { line = line; why = why })
GivesFrom (Err NoMemory) read = Unit {0}
