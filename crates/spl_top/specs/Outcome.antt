-- What a run of the program has to tell when it ends, and why.
use Rattle.std.specs.Prelude.{◌≡◌, ℕ, Bool, ◌+◌, ◌≤◌, ◌⊎◌, length, List, [], ◌∷◌, ◌++◌, codes, decimal, Option, Ok, Err, IfSome}
use Rattle.spl_port.specs.Counts.{raised_count}
use Rattle.spl_port.specs.Streams.{Input}
use Rattle.spl_message.specs.Rule.{Rule}
use Rattle.spl_script.specs.declared.reason.LineWhy.{LineWhy}
use Rattle.spl_script.specs.declared.reason.LineWhy.TheVariants.{Size, Fields, Caller, Verb, Value, Text, Key}
use Rattle.spl_script.specs.declared.lines.ScriptLine.{ScriptLine}
use Rattle.spl_script.specs.Lines.{Faulty, script_text}
use Rattle.spl_report.specs.declared.report.Row.{Row}
use Rattle.spl_report.specs.ReportText.{report_text}
use Rattle.spl_run.specs.Status.{IsRunOf}

abbrev pub why_text : LineWhy → List ℕ
why_text Size = codes "size"
why_text Fields = codes "fields"
why_text Caller = codes "caller"
why_text Verb = codes "verb"
why_text Value = codes "value"
why_text Text = codes "text"
why_text Key = codes "key"

abbrev pub fault_text : Faulty → List ℕ
fault_text faulty = codes "line " ++ decimal faulty.line ++ codes ": " ++ why_text faulty.why ++ codes "\n"

-- what there is to tell of a run: a refusal, that memory ran out before there was a report, or the rows of a run of a
-- script and its status
pub data Outcome : Type 0 where
  bad_source : Outcome
  bad_line : Faulty → Outcome
  no_memory : Outcome
  ran : List ScriptLine → List Row → ℕ → Outcome

abbrev pub status_of : Outcome → ℕ
status_of (bad_line faulty) = 2
status_of bad_source = 3
status_of no_memory = 7
status_of (ran script rows status) = status

abbrev pub text_of : Outcome → List ℕ
text_of (bad_line faulty) = fault_text faulty
text_of bad_source = codes "source\n"
text_of no_memory = codes "memory\n"
text_of (ran script rows status) = report_text rows

-- an outcome of an input that was read: a line is faulty, or the rows are those of a run of the script that the bytes spell
abbrev pub EndsByInput : Rule → Bool → ℕ → List ℕ → Outcome → Type 0
EndsByInput rule tells callers input bad_source = ⊥
EndsByInput rule tells callers input (bad_line faulty) = script_text callers input ≡ Err faulty
EndsByInput rule tells callers input no_memory = ⊥
EndsByInput rule tells callers input (ran script rows status) =
    (length input ≤ 16777216) × (script_text callers input ≡ Ok script) × IsRunOf rule tells script rows status

-- the source was read to its end, or 16,777,217 bytes of it were read
abbrev pub IsRead : Option (List ℕ) → Option (List ℕ) → Type 0
IsRead left rest = IfSome left (λ input. IfSome rest (λ more. (more ≡ []) ⊎ (length input ≡ 16777217 + length more)))

-- the cause of an outcome in the source before and after: a bad source failed once, and in every other case no read failed;
-- where rows are told, the source was read to its end
abbrev pub EndsBy : Rule → Bool → ℕ → Input → Input → Outcome → Type 0
EndsBy rule tells callers before after bad_source = after.faults ≡ raised_count before.faults
EndsBy rule tells callers before after no_memory = after.faults ≡ before.faults
EndsBy rule tells callers before after (bad_line faulty) =
    (after.faults ≡ before.faults)
    × IfSome before.left (λ input. script_text callers input ≡ Err faulty)
    × IsRead before.left after.left
EndsBy rule tells callers before after (ran script rows status) =
    (after.faults ≡ before.faults)
    × IfSome before.left (λ input. (length input ≤ 16777216) × (script_text callers input ≡ Ok script))
    × IfSome after.left (λ rest. rest ≡ [])
    × IsRunOf rule tells script rows status

-- the status and the text are those of an outcome of this input
abbrev pub EndsWithInput : Rule → Bool → ℕ → ℕ → List ℕ → List ℕ → Type 0
EndsWithInput rule tells callers status text input =
    (outcome : Outcome) × EndsByInput rule tells callers input outcome × (status ≡ status_of outcome) × (text ≡ text_of outcome)
