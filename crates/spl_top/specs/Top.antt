-- What the program leaves in its sink, and with which status it ends.
use Rattle.std.specs.Prelude.{◌≡◌, ℕ, Bool, ◌⊎◌, List, Option, Ok, codes, String}
use Rattle.spl_port.specs.Bytes.{Takes, TakesPart}
use Rattle.spl_port.specs.Counts.{Counts, raised_count}
use Rattle.spl_port.specs.Streams.{Input, Output}
use Rattle.spl_message.specs.Rule.{Rule}
use Rattle.spl_script.specs.declared.lines.ScriptLine.{ScriptLine}
use Rattle.spl_script.specs.Lines.{Faulty, script_text}
use Rattle.spl_report.specs.declared.report.Row.{Row}
use Rattle.spl_report.specs.ReportText.{report_text}
use Rattle.spl_script.specs.Generator.{generated}
use Rattle.spl_state.specs.Sound.{IsEmpty}
use Rattle.spl_state.specs.Whole.{Whole}
use Rattle.spl_load.specs.Line.{load_text}
use Rattle.spl_load.specs.Load.{HasLoaded}
use Rattle.spl_words.specs.declared.command.Command.{Command}
use Rattle.spl_words.specs.declared.command.Command.TheVariants.{Run, Load}
use Rattle.spl_words.specs.declared.command.Setup.{Setup}
use Rattle.spl_run.specs.Status.{IsRunOf}
use Rattle.spl_top.specs.Asked.{Asks, IsCommand, rule_of_merge}
use Rattle.spl_top.specs.Outcome.{Outcome, EndsBy, status_of, text_of, fault_text}

-- the sink took the whole text, no write failed, and the status is this one
abbrev pub TellsAll : Output → Output → ℕ → List ℕ → ℕ → Type 0
TellsAll before after status text result = (result ≡ status) × Takes before.held after.held text × (after.faults ≡ before.faults)

-- a write failed, the sink holds a front of the text, and the status is 4
abbrev pub TellsPart : Output → Output → List ℕ → ℕ → Type 0
TellsPart before after text result = (result ≡ 4) × TakesPart before.held after.held text × (after.faults ≡ raised_count before.faults)

abbrev pub Tells : Output → Output → ℕ → List ℕ → ℕ → Type 0
Tells before after status text result = TellsAll before after status text result ⊎ TellsPart before after text result

-- the words are refused, and the source is left as it was
abbrev pub Refuses : {A : Type 0} → List (String A) → Input → Input → Output → Output → ℕ → Type 0
Refuses words source source' sink sink' result =
    ¬ (IsCommand words) × (source' ≡ source) × Tells sink sink' 1 (codes "words\n") result

-- a run had an outcome, which has its cause, and it was told
abbrev pub EndsRun : Rule → Bool → ℕ → Input → Input → Output → Output → ℕ → Type 0
EndsRun rule tells callers source source' sink sink' result =
    (outcome : Outcome) × EndsBy rule tells callers source source' outcome × Tells sink sink' (status_of outcome) (text_of outcome) result

-- a load told the line of rows that are those of a run of the seed's script, with its status; or memory ran out before there
-- was a line
abbrev pub EndsLoad : Rule → Bool → ℕ → ℕ → Output → Output → ℕ → Type 0
EndsLoad rule tells seed lines sink sink' result =
    ((rows : List Row) × (status pages leaves : ℕ) × IsRunOf rule tells (generated lines seed) rows status
    × Tells sink sink' status (load_text rows pages leaves) result)
    ⊎ Tells sink sink' 7 (codes "memory\n") result

-- The words are refused; or they spell a run, which ended so under the rule of its setup; or they spell a load, which reads no
-- input.
abbrev pub Ends : Rule → Bool → ℕ → {A : Type 0} → List (String A) → Input → Input → Output → Output → ℕ → Type 0
Ends own tells callers words source source' sink sink' result =
    Refuses words source source' sink sink' result
    ⊎ ((setup : Setup) × Asks words (Run setup)
    × EndsRun (rule_of_merge own setup.merge) tells callers source source' sink sink' result)
    ⊎ ((setup : Setup) × (seed lines : ℕ) × Asks words (Load setup seed lines) × (source' ≡ source)
    × EndsLoad (rule_of_merge own setup.merge) tells seed lines sink sink' result)

-- the sink holds what a command tells of its rows behind what it held: a run the report, a load the line
abbrev pub IsTold : Command → Option (List ℕ) → Option (List ℕ) → List Row → Type 0
IsTold (Run setup) held now rows = Takes held now (report_text rows)
IsTold (Load setup seed lines) held now rows = (pages leaves : ℕ) × Takes held now (load_text rows pages leaves)

-- a load over an empty store of so many extents made this line, with this status, while its device's counts went from the old
-- ones to the new ones
abbrev pub WasLoaded : Rule → ℕ → Bool → ℕ → ℕ → Counts → Counts → List ℕ → ℕ → Type 0
WasLoaded rule extents tells seed lines before after line status =
    (start end : Whole) × IsEmpty extents 1 start × HasLoaded rule tells seed lines start before after end line status

-- the sink holds the line of such a load behind what it held; or memory ran out before there was one, and it holds that
abbrev pub Loads : Rule → ℕ → Bool → ℕ → ℕ → Counts → Counts → Option (List ℕ) → Option (List ℕ) → ℕ → Type 0
Loads rule extents tells seed lines before after held now result =
    ((line : List ℕ) × WasLoaded rule extents tells seed lines before after line result × Takes held now line)
    ⊎ ((result ≡ 7) × Takes held now (codes "memory\n"))

-- the sink holds the report of a run of the script behind what it held, whose status is this one; or memory ran out before
-- there was one, and it holds that
abbrev pub Reports : Rule → Bool → List ScriptLine → Option (List ℕ) → Option (List ℕ) → ℕ → Type 0
Reports rule tells script held now result =
    ((rows : List Row) × IsRunOf rule tells script rows result × Takes held now (report_text rows))
    ⊎ ((result ≡ 7) × Takes held now (codes "memory\n"))

-- the whole script that the input spells is answered, and its report stands in the sink
abbrev pub IsDone : Rule → Bool → ℕ → Option (List ℕ) → Option (List ℕ) → List ℕ → Type 0
IsDone rule tells callers held now input =
    (script : List ScriptLine) × (script_text callers input ≡ Ok script) × (rows : List Row) × IsRunOf rule tells script rows 0 × Takes held now (report_text rows)

-- the faulty line is told, or that memory ran out
abbrev pub RefusesLine : Output → Output → Faulty → ℕ → Type 0
RefusesLine before after faulty result = TellsAll before after 2 (fault_text faulty) result ⊎ TellsAll before after 7 (codes "memory\n") result
