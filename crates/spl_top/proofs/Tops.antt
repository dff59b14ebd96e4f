-- From what was read to what the source told, and from what was told to what each status says.
use Rattle.std.proofs.Common.{◌≡◌, ◌≢◌, ℕ, ◌+◌, ◌-◌, ◌<◌, ◌≤◌, ◌⊎◌, inl, inr, List, [], ◌∷◌, ◌++◌, length, get_or, take, map, Bool, true, Option, Some, None, IfSome, Ok, Err, String, string_bytes, ◌==◌, codes, refl, ap, ◌∙◌, sym, subst, arith, length-append}
use Rattle.std.proofs.Math.ListN.{set}
use Rattle.std.proofs.lemmas.Bool.{cases_lt}
use Rattle.std.proofs.lemmas.List.{append-nil, take-append-le}
use Rattle.std.specs.Option.{option_map}
use Rattle.std.specs.List.{slice_split}
use Rattle.spl_port.specs.Bytes.{Gives, Takes}
use Rattle.spl_port.specs.Counts.{Counts, Rose, raised_count}
use Rattle.spl_port.specs.Streams.{Input, Output}
use Rattle.spl_message.specs.declared.answer.Cause.{Cause}
use Rattle.spl_message.specs.declared.answer.Cause.TheVariants.{Fault, Damaged, Full, Nodes, Spent, Memory}
use Rattle.spl_message.specs.Rule.{Rule}
use Rattle.spl_script.specs.declared.lines.ScriptLine.{ScriptLine}
use Rattle.spl_script.specs.declared.reason.LineWhy.{LineWhy}
use Rattle.spl_script.specs.Lines.{Faulty, script_text, lines_from}
use Rattle.spl_report.specs.declared.report.Row.{Row}
use Rattle.spl_report.specs.Merge.{rows_of}
use Rattle.spl_report.specs.ReportText.{report_text}
use Rattle.spl_words.specs.declared.command.Command.{Command}
use Rattle.spl_words.specs.declared.command.Command.TheVariants.{Run, Load}
use Rattle.spl_words.specs.declared.command.Setup.{Setup}
use Rattle.spl_words.specs.Words.{command_of}
use Rattle.spl_run.specs.Solo.{HasCause, WasFull, WasWide, WasSpent, first}
use Rattle.spl_run.specs.Status.{cause_in, status_of_cause, HasStatus, IsRunOf}
use Rattle.spl_run.specs.Turns.{HasReadDamage}
use Rattle.spl_run.proofs.Solos.{cause_of_run, no_cause}
use Rattle.spl_core.specs.Leaves.{leaf_count}
use Rattle.spl_load.specs.Line.{load_text}
use Rattle.spl_top.specs.Asked.{Asks, IsCommand, IsRun, rule_of_merge, setup_in}
use Rattle.spl_top.specs.Outcome.{Outcome, bad_source, bad_line, no_memory, ran, EndsByInput, EndsBy, EndsWithInput, IsRead, status_of, text_of, fault_text}
use Rattle.spl_top.specs.Top.{Tells, TellsAll, Refuses, EndsRun, EndsLoad, Ends, IsTold, Loads, Reports, RefusesLine, IsDone, WasLoaded}

-- ---- what was read, and what the source told

-- the input is looked at no further than it was read
script_told : (callers : ℕ) (read rest : List ℕ) → length read ≤ 16777217 → (length read < 16777217 → rest ≡ []) → script_text callers (read ++ rest) ≡ script_text callers read
script_told callers read rest bound none = ap (λ bytes. lines_from callers 1 0 (slice_split (λ byte. byte == 10) bytes)) (same (cases_lt (length read) 16777217))
  where
    same : (length read < 16777217) ⊎ (16777217 ≤ length read) → take 16777217 (read ++ rest) ≡ take 16777217 read
    same (inl few) = ap (λ r. take 16777217 (read ++ r)) (none few) ∙ ap (take 16777217) (append-nil read)
    same (inr all) = take-append-le 16777217 read rest all

module _ (rule : Rule) (callers : ℕ) (left rest : Option (List ℕ)) (read : List ℕ) where
  line_told : (faulty : Faulty) → Gives left rest read → length read ≤ 16777217 → (length read < 16777217 → IfSome rest (λ r. r ≡ [])) → script_text callers read ≡ Err faulty →
      IfSome left (λ input. script_text callers input ≡ Err faulty)
  line_told faulty gives bound none is = subst (λ l. IfSome l (λ input. script_text callers input ≡ Err faulty)) (sym gives) (by rest none)
    where
      by : (o : Option (List ℕ)) → (length read < 16777217 → IfSome o (λ r. r ≡ [])) → IfSome (option_map (λ r. read ++ r) o) (λ input. script_text callers input ≡ Err faulty)
      by None n = tt
      by (Some r) n = script_told callers read r bound n ∙ is

  all_read : Gives left rest read → length read ≤ 16777217 → (length read < 16777217 → IfSome rest (λ r. r ≡ [])) → IsRead left rest
  all_read gives bound none = subst (λ l. IsRead l rest) (sym gives) (by rest none)
    where
      by : (o : Option (List ℕ)) → (length read < 16777217 → IfSome o (λ r. r ≡ [])) → IsRead (option_map (λ r. read ++ r) o) o
      by None n = tt
      by (Some r) n = at (cases_lt (length read) 16777217)
        where
          at : (length read < 16777217) ⊎ (16777217 ≤ length read) → (r ≡ []) ⊎ (length (read ++ r) ≡ 16777217 + length r)
          at (inl few) = inl (n few)
          at (inr all) = inr (omega (arith, length-append read r))

  script_of : (script : List ScriptLine) → Gives left rest read → IfSome rest (λ r. r ≡ []) → (length read ≤ 16777216) × (script_text callers read ≡ Ok script) →
      IfSome left (λ input. (length input ≤ 16777216) × (script_text callers input ≡ Ok script))
  script_of script gives none is = subst (λ l. IfSome l (λ input. (length input ≤ 16777216) × (script_text callers input ≡ Ok script))) (sym gives) (by rest none)
    where
      by : (o : Option (List ℕ)) → IfSome o (λ r. r ≡ []) → IfSome (option_map (λ r. read ++ r) o) (λ input. (length input ≤ 16777216) × (script_text callers input ≡ Ok script))
      by None n = tt
      by (Some r) n = subst (λ input. (length input ≤ 16777216) × (script_text callers input ≡ Ok script)) (sym (append-nil read) ∙ ap (λ t. read ++ t) (sym n)) is

-- an outcome of what was read is one of the source, and so is its telling
pub told_from : (rule : Rule) (tells : Bool) (callers : ℕ) (i i' : Input) (o o' : Output) (result status : ℕ) (text read : List ℕ) → i'.faults ≡ i.faults →
    Gives i.left i'.left read → length read ≤ 16777217 → (length read < 16777217 → IfSome i'.left (λ r. r ≡ [])) → EndsWithInput rule tells callers status text read → Tells o o' status text result →
    EndsRun rule tells callers i i' o o' result
told_from rule tells callers i i' o o' result status text read same gives bound none e telling =
    (e.0, by e.0 e.1, subst (λ s. Tells o o' s (text_of e.0) result) e.2 (subst (λ t. Tells o o' status t result) e.3 telling))
  where
    by : (outcome : Outcome) → EndsByInput rule tells callers read outcome → EndsBy rule tells callers i i' outcome
    by bad_source h = absurd h
    by no_memory h = absurd h
    by (bad_line faulty) h = (same, line_told rule callers i.left i'.left read faulty gives bound none h, all_read rule callers i.left i'.left read gives bound none)
    by (ran script rows status) h =
        let end : IfSome i'.left (λ r. r ≡ []) = none (omega (arith, h.0)) in (same, script_of rule callers i.left i'.left read script gives end (h.0, h.1), end, h.2)

-- ---- the status of a run

cause_status : (cause : Option Cause) → (5 ≤ status_of_cause cause) × (status_of_cause cause ≤ 10)
cause_status None = (omega arith, omega arith)
cause_status (Some Memory) = (omega arith, omega arith)
cause_status (Some Fault) = (omega arith, omega arith)
cause_status (Some Damaged) = (omega arith, omega arith)
cause_status (Some Full) = (omega arith, omega arith)
cause_status (Some Nodes) = (omega arith, omega arith)
cause_status (Some Spent) = (omega arith, omega arith)

run_status : (rule : Rule) (tells : Bool) (script : List ScriptLine) (rows : List Row) (status : ℕ) → IsRunOf rule tells script rows status → (status ≡ 0) ⊎ ((5 ≤ status) × (status ≤ 10))
run_status rule tells script rows status run = by run.ended
  where
    by : HasStatus rows script status → (status ≡ 0) ⊎ ((5 ≤ status) × (status ≤ 10))
    by (inl whole) = inl whole.0
    by (inr early) =
        let is : status ≡ status_of_cause (cause_in (rows_of early.0 rows)) = early.2 in
        let within : (5 ≤ status_of_cause (cause_in (rows_of early.0 rows))) × (status_of_cause (cause_in (rows_of early.0 rows)) ≤ 10) = cause_status (cause_in (rows_of early.0 rows)) in
        let least : 5 ≤ status_of_cause (cause_in (rows_of early.0 rows)) = within.0 in
        let most : status_of_cause (cause_in (rows_of early.0 rows)) ≤ 10 = within.1 in
        inr (omega (arith, is, least), omega (arith, is, most))

-- ---- what was told

-- the status is that of what was told, or 4
told_status : (o o' : Output) (status : ℕ) (text : List ℕ) (result : ℕ) → Tells o o' status text result → (result ≡ status) ⊎ (result ≡ 4)
told_status o o' status text result (inl t) = inl t.0
told_status o o' status text result (inr t) = inr t.0

told_sink : (o o' : Output) (status : ℕ) (text : List ℕ) (result : ℕ) → Tells o o' status text result → result ≢ 4 → o'.faults ≡ o.faults
told_sink o o' status text result (inl t) whole = t.2
told_sink o o' status text result (inr t) whole = absurd (whole t.0)

told_fault : (o o' : Output) (status : ℕ) (text : List ℕ) (result : ℕ) → status ≢ 4 → Tells o o' status text result → result ≡ 4 → o'.faults ≡ raised_count o.faults
told_fault o o' status text result other (inl t) four = absurd (other (sym t.0 ∙ four))
told_fault o o' status text result other (inr t) four = t.2

-- the text of a fault by its parts
pub fault_same : (line other : ℕ) (why reason : LineWhy) → line ≡ other → why ≡ reason → fault_text (record { line = other; why = reason }) ≡ fault_text (record { line = line; why = why })
fault_same line other why reason lines reasons = ap (λ (f : Faulty). fault_text f) (λ i. record { line = sym lines i; why = sym reasons i })

-- ---- causes, and the end of the input

-- no read was made after the end of what was read, which was met or not
pub late_by : (late : Option ℕ) (count : ℕ) → count ≤ 16777217 → (count < 16777217 → late ≡ Some 0) → (count ≡ 16777217 → late ≡ None) → IfSome late (λ reads. reads ≡ 0)
late_by late count bound met full = by (cases_lt count 16777217)
  where
    by : (count < 16777217) ⊎ (16777217 ≤ count) → IfSome late (λ reads. reads ≡ 0)
    by (inl few) = subst (λ l. IfSome l (λ reads. reads ≡ 0)) (sym (met few)) refl
    by (inr all) = subst (λ l. IfSome l (λ reads. reads ≡ 0)) (sym (full (omega arith))) tt

-- what is said of the rows may be said in other words
pub cause_as : (rule : Rule) (extents : ℕ) (tells : Bool) (before after : Counts) (status : ℕ) (Are Be : List Row → Type 0) → ((rows : List Row) → Are rows → Be rows) → HasCause rule extents tells before after status Are → HasCause rule extents tells before after status Be
cause_as rule extents tells before after status Are Be f cause = record {
  device = cause.device;
  full = λ is. (((cause.full is).0, f (cause.full is).0 (cause.full is).1, (cause.full is).2));
  damaged = cause.damaged;
  nodes = λ is. (((cause.nodes is).0, f (cause.nodes is).0 (cause.nodes is).1, (cause.nodes is).2));
  spent = λ is. (((cause.spent is).0, f (cause.spent is).0 (cause.spent is).1, (cause.spent is).2));
}

-- the cause of a status is that of what is answered: the status with the text that is told, or 4
pub cause_told : (rule : Rule) (extents : ℕ) (tells : Bool) (before after : Counts) (o o' : Output) (status : ℕ) (text : List ℕ) (result : ℕ) → Tells o o' status text result → HasCause rule extents tells before after status (λ rows. text ≡ report_text rows) →
    HasCause rule extents tells before after result (λ rows. Takes o.held o'.held (report_text rows))
cause_told rule extents tells before after o o' status text result (inl t) cause =
    subst (λ s. HasCause rule extents tells before after s (λ rows. Takes o.held o'.held (report_text rows))) (sym t.0)
    (cause_as rule extents tells before after status (λ rows. text ≡ report_text rows) (λ rows. Takes o.held o'.held (report_text rows)) (λ rows is. subst (Takes o.held o'.held) is t.1) cause)
cause_told rule extents tells before after o o' status text result (inr t) cause = let four : result ≡ 4 = t.0 in no_cause rule extents tells before after result (λ rows. Takes o.held o'.held (report_text rows)) (inl (omega (arith, four)))

-- ---- what each status of a run says

module _ (rule : Rule) (tells : Bool) (i i' : Input) (o o' : Output) (result : ℕ) where
  -- the status of an outcome is none of a refusal of words, and not 4
  outcome_status : (outcome : Outcome) → EndsBy rule tells 1 i i' outcome → ((status_of outcome ≡ 0) ⊎ (2 ≤ status_of outcome)) × (status_of outcome ≢ 4) × (status_of outcome ≤ 10)
  outcome_status bad_source cause = (inr (omega arith), (λ four. omega arith), omega arith)
  outcome_status (bad_line faulty) cause = (inr (omega arith), (λ four. omega arith), omega arith)
  outcome_status no_memory cause = (inr (omega arith), (λ four. omega arith), omega arith)
  outcome_status (ran script rows status) cause = at (run_status rule tells script rows status cause.3)
    where
      at : (status ≡ 0) ⊎ ((5 ≤ status) × (status ≤ 10)) → ((status ≡ 0) ⊎ (2 ≤ status)) × (status ≢ 4) × (status ≤ 10)
      at (inl zero) = (inl zero, (λ four. omega arith), omega arith)
      at (inr more) = let least : 5 ≤ status = more.0 in let most : status ≤ 10 = more.1 in (inr (omega arith), (λ four. omega arith), most)

  -- a status other than 4 is that of the outcome, which was told whole
  told_whole : (outcome : Outcome) → Tells o o' (status_of outcome) (text_of outcome) result → result ≢ 4 → TellsAll o o' (status_of outcome) (text_of outcome) result
  told_whole outcome (inl t) whole = t
  told_whole outcome (inr t) whole = absurd (whole t.0)

  run_known : EndsRun rule tells 1 i i' o o' result → ((result ≡ 0) ⊎ (2 ≤ result)) × (result ≤ 10)
  run_known e = by (told_status o o' _ _ result e.2)
    where
      by : (result ≡ status_of e.0) ⊎ (result ≡ 4) → ((result ≡ 0) ⊎ (2 ≤ result)) × (result ≤ 10)
      by (inl is) = let most : status_of e.0 ≤ 10 = (outcome_status e.0 e.1).2 in (at (outcome_status e.0 e.1).0, omega (arith, is, most))
        where
          at : (status_of e.0 ≡ 0) ⊎ (2 ≤ status_of e.0) → (result ≡ 0) ⊎ (2 ≤ result)
          at (inl zero) = inl (is ∙ zero)
          at (inr more) = inr (omega (arith, is, more))
      by (inr is) = (inr (omega (arith, is)), omega (arith, is))

  run_source : EndsRun rule tells 1 i i' o o' result → i'.faults ≢ i.faults → Tells o o' 3 (codes "source\n") result
  run_source e rose = by e.0 e.1 e.2
    where
      by : (outcome : Outcome) → EndsBy rule tells 1 i i' outcome → Tells o o' (status_of outcome) (text_of outcome) result → Tells o o' 3 (codes "source\n") result
      by bad_source cause t = t
      by (bad_line faulty) cause t = absurd (rose cause.0)
      by no_memory cause t = absurd (rose cause)
      by (ran script rows status) cause t = absurd (rose cause.0)

  run_fault : EndsRun rule tells 1 i i' o o' result → result ≡ 4 → o'.faults ≡ raised_count o.faults
  run_fault e four = told_fault o o' _ _ result (outcome_status e.0 e.1).1 e.2 four

  run_source_only : EndsRun rule tells 1 i i' o o' result → result ≡ 3 → (i'.faults ≡ raised_count i.faults) × Takes o.held o'.held (codes "source\n")
  run_source_only e three = by e.0 e.1 (told_whole e.0 e.2 (λ four. omega arith))
    where
      by : (outcome : Outcome) → EndsBy rule tells 1 i i' outcome → TellsAll o o' (status_of outcome) (text_of outcome) result → (i'.faults ≡ raised_count i.faults) × Takes o.held o'.held (codes "source\n")
      by bad_source cause t = (cause, t.1)
      by (bad_line faulty) cause t = absurd (omega (arith, t.0))
      by no_memory cause t = absurd (omega (arith, t.0))
      by (ran script rows status) cause t = at (run_status rule tells script rows status cause.3)
        where
          at : (status ≡ 0) ⊎ ((5 ≤ status) × (status ≤ 10)) → (i'.faults ≡ raised_count i.faults) × Takes o.held o'.held (codes "source\n")
          at (inl zero) = absurd (omega (arith, t.0, zero))
          at (inr more) = let is : result ≡ status = t.0 in let least : 5 ≤ status = more.0 in absurd (omega (arith, is, least))

  -- what holds of the bytes that the source tells follows from what holds of them
  of_bytes : (P Q : List ℕ → Type 0) (l : Option (List ℕ)) → ((bytes : List ℕ) → P bytes → Q bytes) → IfSome l P → IfSome l Q
  of_bytes P Q None f h = tt
  of_bytes P Q (Some bytes) f h = f bytes h

  run_line_only : EndsRun rule tells 1 i i' o o' result → result ≡ 2 →
      IfSome i.left (λ bytes. (faulty : Faulty) × (script_text 1 bytes ≡ Err faulty) × Takes o.held o'.held (fault_text faulty)) × IsRead i.left i'.left
  run_line_only e two = by e.0 e.1 (told_whole e.0 e.2 (λ four. omega arith))
    where
      by : (outcome : Outcome) → EndsBy rule tells 1 i i' outcome → TellsAll o o' (status_of outcome) (text_of outcome) result → IfSome i.left (λ bytes. (faulty : Faulty) × (script_text 1 bytes ≡ Err faulty) × Takes o.held o'.held (fault_text faulty)) × IsRead i.left i'.left
      by bad_source cause t = absurd (omega (arith, t.0))
      by (bad_line faulty) cause t =
          (of_bytes (λ bytes. script_text 1 bytes ≡ Err faulty) (λ bytes. (faulty : Faulty) × (script_text 1 bytes ≡ Err faulty) × Takes o.held o'.held (fault_text faulty)) i.left (λ bytes is. (faulty, is, t.1)) cause.1, cause.2)
      by no_memory cause t = absurd (omega (arith, t.0))
      by (ran script rows status) cause t = at (run_status rule tells script rows status cause.3)
        where
          at : (status ≡ 0) ⊎ ((5 ≤ status) × (status ≤ 10)) → IfSome i.left (λ bytes. (faulty : Faulty) × (script_text 1 bytes ≡ Err faulty) × Takes o.held o'.held (fault_text faulty)) × IsRead i.left i'.left
          at (inl zero) = absurd (omega (arith, t.0, zero))
          at (inr more) = let is : result ≡ status = t.0 in let least : 5 ≤ status = more.0 in absurd (omega (arith, is, least))

  run_done : EndsRun rule tells 1 i i' o o' result → result ≡ 0 → IfSome i.left (IsDone rule tells 1 o.held o'.held) × IfSome i'.left (λ rest. rest ≡ [])
  run_done e zero = by e.0 e.1 (told_whole e.0 e.2 (λ four. omega arith))
    where
      by : (outcome : Outcome) → EndsBy rule tells 1 i i' outcome → TellsAll o o' (status_of outcome) (text_of outcome) result →
          IfSome i.left (IsDone rule tells 1 o.held o'.held) × IfSome i'.left (λ rest. rest ≡ [])
      by bad_source cause t = absurd (omega (arith, t.0))
      by (bad_line faulty) cause t = absurd (omega (arith, t.0))
      by no_memory cause t = absurd (omega (arith, t.0))
      by (ran script rows status) cause t =
          let run : IsRunOf rule tells script rows 0 = subst (IsRunOf rule tells script rows) (sym t.0 ∙ zero) cause.3 in
          (of_bytes (λ bytes. (length bytes ≤ 16777216) × (script_text 1 bytes ≡ Ok script)) (IsDone rule tells 1 o.held o'.held) i.left (λ bytes is. (script, is.1, rows, run, t.1)) cause.1, cause.2)

  run_memory : EndsRun rule tells 1 i i' o o' result → result ≡ 7 → (script : List ScriptLine) × Reports rule tells script o.held o'.held 7
  run_memory e is = by e.0 e.1 (told_whole e.0 e.2 (λ four. omega arith))
    where
      by : (outcome : Outcome) → EndsBy rule tells 1 i i' outcome → TellsAll o o' (status_of outcome) (text_of outcome) result → (script : List ScriptLine) × Reports rule tells script o.held o'.held 7
      by bad_source cause t = absurd (omega (arith, t.0))
      by (bad_line faulty) cause t = absurd (omega (arith, t.0))
      by no_memory cause t = ([], inr (refl, t.1))
      by (ran script rows status) cause t = (script, inl (rows, subst (IsRunOf rule tells script rows) (sym t.0 ∙ is) cause.3, t.1))

  -- a script that is told and valid is reported
  run_headline : EndsRun rule tells 1 i i' o o' result →
      IfSome i.left (λ bytes. (script : List ScriptLine) → script_text 1 bytes ≡ Ok script → result ≢ 3 → result ≢ 4 → Reports rule tells script o.held o'.held result)
  run_headline e = by i.left refl
    where
      at : (bytes : List ℕ) (script : List ScriptLine) (outcome : Outcome) → i.left ≡ Some bytes → EndsBy rule tells 1 i i' outcome → script_text 1 bytes ≡ Ok script →
          result ≢ 3 → TellsAll o o' (status_of outcome) (text_of outcome) result → Reports rule tells script o.held o'.held result
      at bytes script bad_source told cause valid kept t = absurd (kept t.0)
      at bytes script (bad_line faulty) told cause valid kept t =
          let line : script_text 1 bytes ≡ Err faulty = subst (λ l. IfSome l (λ input. script_text 1 input ≡ Err faulty)) told cause.1 in absurd (cc)
      at bytes script no_memory told cause valid kept t = inr (t.0, t.1)
      at bytes script (ran other rows status) told cause valid kept t =
          let is : (length bytes ≤ 16777216) × (script_text 1 bytes ≡ Ok other) = subst (λ l. IfSome l (λ input. (length input ≤ 16777216) × (script_text 1 input ≡ Ok other))) told cause.1 in
          let same : other ≡ script = cc (is.1) in
          inl (rows, subst (λ s. IsRunOf rule tells script rows s) (sym t.0) (subst (λ s. IsRunOf rule tells s rows status) same cause.3), t.1)

      by : (l : Option (List ℕ)) → i.left ≡ l → IfSome l (λ bytes. (script : List ScriptLine) → script_text 1 bytes ≡ Ok script → result ≢ 3 → result ≢ 4 → Reports rule tells script o.held o'.held result)
      by None is = tt
      by (Some bytes) is = λ script valid kept whole. at bytes script e.0 is e.1 valid kept (told_whole e.0 e.2 whole)

  -- a faulty line that is told is refused
  run_refusal : EndsRun rule tells 1 i i' o o' result →
      IfSome i.left (λ bytes. (faulty : Faulty) → script_text 1 bytes ≡ Err faulty → result ≢ 3 → result ≢ 4 → RefusesLine o o' faulty result)
  run_refusal e = by i.left refl
    where
      at : (bytes : List ℕ) (faulty : Faulty) (outcome : Outcome) → i.left ≡ Some bytes → EndsBy rule tells 1 i i' outcome → script_text 1 bytes ≡ Err faulty →
          result ≢ 3 → TellsAll o o' (status_of outcome) (text_of outcome) result → RefusesLine o o' faulty result
      at bytes faulty bad_source told cause wrong kept t = absurd (kept t.0)
      at bytes faulty (bad_line other) told cause wrong kept t =
          let line : script_text 1 bytes ≡ Err other = subst (λ l. IfSome l (λ input. script_text 1 input ≡ Err other)) told cause.1 in
          let same : other ≡ faulty = cc in
          inl (subst (λ f. TellsAll o o' 2 (fault_text f) result) same t)
      at bytes faulty no_memory told cause wrong kept t = inr t
      at bytes faulty (ran other rows status) told cause wrong kept t =
          let is : (length bytes ≤ 16777216) × (script_text 1 bytes ≡ Ok other) = subst (λ l. IfSome l (λ input. (length input ≤ 16777216) × (script_text 1 input ≡ Ok other))) told cause.1 in absurd (cc (is.1))

      by : (l : Option (List ℕ)) → i.left ≡ l → IfSome l (λ bytes. (faulty : Faulty) → script_text 1 bytes ≡ Err faulty → result ≢ 3 → result ≢ 4 → RefusesLine o o' faulty result)
      by None is = tt
      by (Some bytes) is = λ faulty wrong kept whole. at bytes faulty e.0 is e.1 wrong kept (told_whole e.0 e.2 whole)

-- ---- what each status of a load says

module _ (rule : Rule) (tells : Bool) (seed lines : ℕ) (o o' : Output) (result : ℕ) where
  load_known : EndsLoad rule tells seed lines o o' result → (result ≡ 0) ⊎ ((4 ≤ result) × (result ≤ 10))
  load_known (inl told) = by (told_status o o' told.1 _ result told.5)
    where
      by : (result ≡ told.1) ⊎ (result ≡ 4) → (result ≡ 0) ⊎ ((4 ≤ result) × (result ≤ 10))
      by (inl is) = at (run_status rule tells _ told.0 told.1 told.4)
        where
          at : (told.1 ≡ 0) ⊎ ((5 ≤ told.1) × (told.1 ≤ 10)) → (result ≡ 0) ⊎ ((4 ≤ result) × (result ≤ 10))
          at (inl zero) = inl (is ∙ zero)
          at (inr more) = let least : 5 ≤ told.1 = more.0 in let most : told.1 ≤ 10 = more.1 in inr (omega (arith, is, least), omega (arith, is, most))
      by (inr is) = inr (omega (arith, is), omega (arith, is))
  load_known (inr t) = by (told_status o o' 7 _ result t)
    where
      by : (result ≡ 7) ⊎ (result ≡ 4) → (result ≡ 0) ⊎ ((4 ≤ result) × (result ≤ 10))
      by (inl is) = inr (omega (arith, is), omega (arith, is))
      by (inr is) = inr (omega (arith, is), omega (arith, is))

  load_sink : EndsLoad rule tells seed lines o o' result → result ≢ 4 → o'.faults ≡ o.faults
  load_sink (inl told) whole = told_sink o o' told.1 _ result told.5 whole
  load_sink (inr t) whole = told_sink o o' 7 _ result t whole

  load_fault : EndsLoad rule tells seed lines o o' result → result ≡ 4 → o'.faults ≡ raised_count o.faults
  load_fault (inl told) four = told_fault o o' told.1 _ result (other (run_status rule tells _ told.0 told.1 told.4)) told.5 four
    where
      other : (told.1 ≡ 0) ⊎ ((5 ≤ told.1) × (told.1 ≤ 10)) → told.1 ≢ 4
      other (inl zero) = λ is. omega (arith, zero, is)
      other (inr more) = let least : 5 ≤ told.1 = more.0 in λ is. omega (arith, least, is)
  load_fault (inr t) four = told_fault o o' 7 _ result (λ is. omega arith) t four

module _ (rule : Rule) (extents : ℕ) (tells : Bool) (seed lines : ℕ) (before after : Counts) (o o' : Output) (line : List ℕ) (status result : ℕ)
    (was : WasLoaded rule extents tells seed lines before after line status) (told : Tells o o' status line result) where
  -- the line that a load made was told
  pub load_told : EndsLoad rule tells seed lines o o' result
  load_told = inl (was.3.rows, status, after.writes - before.writes, leaf_count was.1.nodes, was.3.is, subst (λ text. Tells o o' status text result) was.3.line told)

  pub load_loads : result ≢ 4 → Loads rule extents tells seed lines before after o.held o'.held result
  load_loads whole = by told
    where
      by : Tells o o' status line result → Loads rule extents tells seed lines before after o.held o'.held result
      by (inl t) = inl (line, subst (λ s. WasLoaded rule extents tells seed lines before after line s) (sym t.0) was, t.1)
      by (inr t) = absurd (whole t.0)

  pub load_caused : HasCause rule extents tells before after result (λ rows. (pages leaves : ℕ) × Takes o.held o'.held (load_text rows pages leaves))
  load_caused = by told
    where
      Told : List Row → Type 0
      Told rows = (pages leaves : ℕ) × Takes o.held o'.held (load_text rows pages leaves)

      by : Tells o o' status line result → HasCause rule extents tells before after result Told
      by (inl t) =
          subst (λ s. HasCause rule extents tells before after s Told) (sym t.0)
          (cause_as rule extents tells before after status (λ rows. rows ≡ was.3.rows) Told
          (λ rows is. (after.writes - before.writes, leaf_count was.1.nodes, subst (Takes o.held o'.held) (was.3.line ∙ ap (λ rs. load_text rs (after.writes - before.writes) (leaf_count was.1.nodes)) (sym is)) t.1))
          (cause_of_run rule extents tells was.0 was.2 before after was.1 was.3.rows status was.3.run))
      by (inr t) = let four : result ≡ 4 = t.0 in no_cause rule extents tells before after result Told (inl (omega (arith, four)))

-- memory ran out before there was a line
pub memory_loads : (rule : Rule) (extents : ℕ) (tells : Bool) (seed lines : ℕ) (before after : Counts) (o o' : Output) (result : ℕ) → Tells o o' 7 (codes "memory\n") result → result ≢ 4 →
    Loads rule extents tells seed lines before after o.held o'.held result
memory_loads rule extents tells seed lines before after o o' result (inl t) whole = inr (t.0, t.1)
memory_loads rule extents tells seed lines before after o o' result (inr t) whole = absurd (whole t.0)

pub memory_caused : (rule : Rule) (extents : ℕ) (tells : Bool) (before after : Counts) (o o' : Output) (result : ℕ) (Are : List Row → Type 0) → Tells o o' 7 (codes "memory\n") result → HasCause rule extents tells before after result Are
memory_caused rule extents tells before after o o' result Are (inl t) = no_cause rule extents tells before after result Are (inr t.0)
memory_caused rule extents tells before after o o' result Are (inr t) = let four : result ≡ 4 = t.0 in no_cause rule extents tells before after result Are (inl (omega (arith, four)))

-- ---- what each status says

-- words spell one command
same_command : {A : Type 0} (words : List (String A)) (one other : Command) → Asks words one → Asks words other → one ≡ other
same_command words one other is so =
    let both : Some one ≡ Some other = sym is ∙ so in cc

run_is_run : (one other : Setup) → Run one ≡ Run other → one ≡ other
run_is_run one other is = cc

run_is_no_load : (setup other : Setup) (seed lines : ℕ) → Run setup ≡ Load other seed lines → ⊥
run_is_no_load setup other seed lines is = cc

module _ (own : Rule) (tells : Bool) {A : Type 0} (words : List (String A)) (before after : Counts) (o o' : Output) (result : ℕ) where
  -- what is said of the command that the words spell is said of each that they spell
  pub caused_by : (one : Command) → Asks words one → HasCause (rule_of_merge own (setup_in one).merge) (setup_in one).extents tells before after result (IsTold one o.held o'.held) →
      (command : Command) → Asks words command → HasCause (rule_of_merge own (setup_in command).merge) (setup_in command).extents tells before after result (IsTold command o.held o'.held)
  caused_by one is cause command asks =
      subst (λ (c : Command). HasCause (rule_of_merge own (setup_in c).merge) (setup_in c).extents tells before after result (IsTold c o.held o'.held)) (same_command words one command is asks) cause

  abbrev LoadsBy : Command → Type 0
  LoadsBy (Run setup) = Unit {0}
  LoadsBy (Load setup seed lines) = result ≢ 4 → Loads (rule_of_merge own setup.merge) setup.extents tells seed lines before after o.held o'.held result

  pub loads_by : (one : Command) → Asks words one → LoadsBy one → (setup : Setup) (seed lines : ℕ) → Asks words (Load setup seed lines) →
      result ≢ 4 → Loads (rule_of_merge own setup.merge) setup.extents tells seed lines before after o.held o'.held result
  loads_by one is loads setup seed lines asks = subst LoadsBy (same_command words one (Load setup seed lines) is asks) loads

module _ (own : Rule) (tells : Bool) {A : Type 0} (words : List (String A)) (i i' : Input) (o o' : Output) (result : ℕ) where
  -- a refusal tells `words`, and nothing else
  refused_status : Refuses words i i' o o' result → (result ≡ 1) ⊎ (result ≡ 4)
  refused_status r = told_status o o' 1 _ result r.2

  -- with a status of a run alone the words spell a run
  run_behind : Ends own tells 1 words i i' o o' result → (result ≡ 2) ⊎ (result ≡ 3) → (setup : Setup) × Asks words (Run setup) × EndsRun (rule_of_merge own setup.merge) tells 1 i i' o o' result
  run_behind (inl r) is = absurd (by (refused_status r) is)
    where
      by : (result ≡ 1) ⊎ (result ≡ 4) → (result ≡ 2) ⊎ (result ≡ 3) → ⊥
      by (inl one) (inl two) = omega (arith, one, two)
      by (inl one) (inr three) = omega (arith, one, three)
      by (inr four) (inl two) = omega (arith, four, two)
      by (inr four) (inr three) = omega (arith, four, three)
  run_behind (inr (inl run)) is = run
  run_behind (inr (inr load)) is = absurd (by (load_known (rule_of_merge own load.0.merge) tells load.1 load.2 o o' result load.5) is)
    where
      by : (result ≡ 0) ⊎ ((4 ≤ result) × (result ≤ 10)) → (result ≡ 2) ⊎ (result ≡ 3) → ⊥
      by (inl zero) (inl two) = omega (arith, zero, two)
      by (inl zero) (inr three) = omega (arith, zero, three)
      by (inr more) (inl two) = let least : 4 ≤ result = more.0 in omega (arith, least, two)
      by (inr more) (inr three) = let least : 4 ≤ result = more.0 in omega (arith, least, three)

  -- words that spell a run of this setup end by it
  run_of : (setup : Setup) → Ends own tells 1 words i i' o o' result → Asks words (Run setup) → EndsRun (rule_of_merge own setup.merge) tells 1 i i' o o' result
  run_of setup (inl r) asks = absurd (r.0 (Run setup, asks))
  run_of setup (inr (inl run)) asks =
      subst (λ (s : Setup). EndsRun (rule_of_merge own s.merge) tells 1 i i' o o' result) (run_is_run run.0 setup (same_command words (Run run.0) (Run setup) run.1 asks)) run.2
  run_of setup (inr (inr load)) asks = absurd (run_is_no_load setup load.0 load.1 load.2 (same_command words (Run setup) (Load load.0 load.1 load.2) asks load.3))

  -- with every status but 1 and 4 the words spell a command
  command_behind : Ends own tells 1 words i i' o o' result → result ≢ 1 → result ≢ 4 → IsCommand words
  command_behind (inl r) one four = absurd (by (refused_status r))
    where
      by : (result ≡ 1) ⊎ (result ≡ 4) → ⊥
      by (inl is) = one is
      by (inr is) = four is
  command_behind (inr (inl run)) one four = (Run run.0, run.1)
  command_behind (inr (inr load)) one four = (Load load.0 load.1 load.2, load.3)

  pub known_from : Ends own tells 1 words i i' o o' result → result ≤ 10
  known_from (inl r) = by (refused_status r)
    where
      by : (result ≡ 1) ⊎ (result ≡ 4) → result ≤ 10
      by (inl is) = omega (arith, is)
      by (inr is) = omega (arith, is)
  known_from (inr (inl run)) = (run_known (rule_of_merge own run.0.merge) tells i i' o o' result run.2).1
  known_from (inr (inr load)) = by (load_known (rule_of_merge own load.0.merge) tells load.1 load.2 o o' result load.5)
    where
      by : (result ≡ 0) ⊎ ((4 ≤ result) × (result ≤ 10)) → result ≤ 10
      by (inl zero) = omega (arith, zero)
      by (inr more) = more.1

  pub words_from : Ends own tells 1 words i i' o o' result → ¬ (IsCommand words) → Tells o o' 1 (codes "words\n") result × (i' ≡ i)
  words_from (inl r) not = (r.2, r.1)
  words_from (inr (inl run)) not = absurd (not (Run run.0, run.1))
  words_from (inr (inr load)) not = absurd (not (Load load.0 load.1 load.2, load.3))

  pub words_only_from : Ends own tells 1 words i i' o o' result → result ≡ 1 → ¬ (IsCommand words)
  words_only_from (inl r) one = r.0
  words_only_from (inr (inl run)) one = absurd (by (run_known (rule_of_merge own run.0.merge) tells i i' o o' result run.2).0)
    where
      by : (result ≡ 0) ⊎ (2 ≤ result) → ⊥
      by (inl zero) = omega (arith, zero, one)
      by (inr more) = omega (arith, more, one)
  words_only_from (inr (inr load)) one = absurd (by (load_known (rule_of_merge own load.0.merge) tells load.1 load.2 o o' result load.5))
    where
      by : (result ≡ 0) ⊎ ((4 ≤ result) × (result ≤ 10)) → ⊥
      by (inl zero) = omega (arith, zero, one)
      by (inr more) = let least : 4 ≤ result = more.0 in omega (arith, least, one)

  pub unread_from : Ends own tells 1 words i i' o o' result → (setup : Setup) (seed lines : ℕ) → Asks words (Load setup seed lines) → i' ≡ i
  unread_from (inl r) setup seed lines asks = absurd (r.0 (Load setup seed lines, asks))
  unread_from (inr (inl run)) setup seed lines asks = absurd (run_is_no_load run.0 setup seed lines (same_command words (Run run.0) (Load setup seed lines) run.1 asks))
  unread_from (inr (inr load)) setup seed lines asks = load.4

  pub source_from : Ends own tells 1 words i i' o o' result → i'.faults ≢ i.faults → Tells o o' 3 (codes "source\n") result
  source_from (inl r) rose = absurd (rose (ap (λ (input : Input). input.faults) r.1))
  source_from (inr (inl run)) rose = run_source (rule_of_merge own run.0.merge) tells i i' o o' result run.2 rose
  source_from (inr (inr load)) rose = absurd (rose (ap (λ (input : Input). input.faults) load.4))

  pub sink_from : Ends own tells 1 words i i' o o' result → result ≢ 4 → o'.faults ≡ o.faults
  sink_from (inl r) whole = told_sink o o' 1 _ result r.2 whole
  sink_from (inr (inl run)) whole = told_sink o o' _ _ result run.2.2 whole
  sink_from (inr (inr load)) whole = load_sink (rule_of_merge own load.0.merge) tells load.1 load.2 o o' result load.5 whole

  pub fault_from : Ends own tells 1 words i i' o o' result → result ≡ 4 → o'.faults ≡ raised_count o.faults
  fault_from (inl r) four = told_fault o o' 1 _ result (λ is. omega arith) r.2 four
  fault_from (inr (inl run)) four = run_fault (rule_of_merge own run.0.merge) tells i i' o o' result run.2 four
  fault_from (inr (inr load)) four = load_fault (rule_of_merge own load.0.merge) tells load.1 load.2 o o' result load.5 four

  pub source_only_from : Ends own tells 1 words i i' o o' result → result ≡ 3 → IsRun words × (i'.faults ≡ raised_count i.faults) × Takes o.held o'.held (codes "source\n")
  source_only_from e three =
      let run = run_behind e (inr three) in
      let said = run_source_only (rule_of_merge own run.0.merge) tells i i' o o' result run.2 three in
      ((run.0, run.1), said.0, said.1)

  pub script_only_from : Ends own tells 1 words i i' o o' result → result ≡ 2 →
      IsRun words × IfSome i.left (λ bytes. (faulty : Faulty) × (script_text 1 bytes ≡ Err faulty) × Takes o.held o'.held (fault_text faulty)) × IsRead i.left i'.left
  script_only_from e two =
      let run = run_behind e (inl two) in
      let said = run_line_only (rule_of_merge own run.0.merge) tells i i' o o' result run.2 two in
      ((run.0, run.1), said.0, said.1)

  pub done_from : Ends own tells 1 words i i' o o' result → (setup : Setup) → Asks words (Run setup) → result ≡ 0 →
      IfSome i.left (IsDone (rule_of_merge own setup.merge) tells 1 o.held o'.held) × IfSome i'.left (λ rest. rest ≡ [])
  done_from e setup asks zero = run_done (rule_of_merge own setup.merge) tells i i' o o' result (run_of setup e asks) zero

  pub memory_from : Ends own tells 1 words i i' o o' result → (setup : Setup) → Asks words (Run setup) → result ≡ 7 →
      (script : List ScriptLine) × Reports (rule_of_merge own setup.merge) tells script o.held o'.held 7
  memory_from e setup asks is = run_memory (rule_of_merge own setup.merge) tells i i' o o' result (run_of setup e asks) is

  pub headline_from : Ends own tells 1 words i i' o o' result → (setup : Setup) → Asks words (Run setup) →
      IfSome i.left (λ bytes. (script : List ScriptLine) → script_text 1 bytes ≡ Ok script → result ≢ 3 → result ≢ 4 → Reports (rule_of_merge own setup.merge) tells script o.held o'.held result)
  headline_from e setup asks = run_headline (rule_of_merge own setup.merge) tells i i' o o' result (run_of setup e asks)

  pub refusal_from : Ends own tells 1 words i i' o o' result → IsRun words →
      IfSome i.left (λ bytes. (faulty : Faulty) → script_text 1 bytes ≡ Err faulty → result ≢ 3 → result ≢ 4 → RefusesLine o o' faulty result)
  refusal_from e run = run_refusal (rule_of_merge own run.0.merge) tells i i' o o' result (run_of run.0 e run.1)

  -- ---- the causes

  module _ (e : Ends own tells 1 words i i' o o' result) (before after : Counts)
      (causes : (command : Command) → Asks words command → HasCause (rule_of_merge own (setup_in command).merge) (setup_in command).extents tells before after result (IsTold command o.held o'.held)) where
    pub device_from : result ≡ 5 → Rose before.faults after.faults
    device_from is = let command = command_behind e (λ one. omega arith) (λ four. omega arith) in (causes command.0 command.1).device is

    pub full_from : result ≡ 6 → (command : Command) × Asks words command × (rows : List Row) × IsTold command o.held o'.held rows × WasFull (rule_of_merge own (setup_in command).merge) (setup_in command).extents tells rows
    full_from is =
        let command = command_behind e (λ one. omega arith) (λ four. omega arith) in
        let why = (causes command.0 command.1).full is in
        (command.0, command.1, why.0, why.1, why.2)

    pub damaged_from : result ≡ 8 → (tells ≡ true → ⊥) × HasReadDamage before after
    damaged_from is = let command = command_behind e (λ one. omega arith) (λ four. omega arith) in (causes command.0 command.1).damaged is

    pub nodes_from : result ≡ 9 → (command : Command) × Asks words command × (rows : List Row) × IsTold command o.held o'.held rows × WasWide (rule_of_merge own (setup_in command).merge) (setup_in command).extents tells rows
    nodes_from is =
        let command = command_behind e (λ one. omega arith) (λ four. omega arith) in
        let why = (causes command.0 command.1).nodes is in
        (command.0, command.1, why.0, why.1, why.2)

    pub spent_from : result ≡ 10 → (command : Command) × Asks words command × (rows : List Row) × IsTold command o.held o'.held rows × WasSpent (rule_of_merge own (setup_in command).merge) (setup_in command).extents tells rows
    spent_from is =
        let command = command_behind e (λ one. omega arith) (λ four. omega arith) in
        let why = (causes command.0 command.1).spent is in
        (command.0, command.1, why.0, why.1, why.2)

-- ---- the first device

pub first_before : {X : Type 0} (counts : X → Counts) (ports : List X) (port : X) → 0 < length ports → counts (get_or ports 0 port) ≡ first (map counts ports)
first_before counts [] port some = absurd (omega arith)
first_before counts (p ∷ ps) port some = refl

pub first_after : {X : Type 0} (counts : X → Counts) (ports : List X) (port : X) → 0 < length ports → counts port ≡ first (map counts (set ports 0 port))
first_after counts [] port some = absurd (omega arith)
first_after counts (p ∷ ps) port some = refl

module _ (own : Rule) (tells : Bool) {A : Type 0} (words : List (String A)) (before after start end : Counts) (o o' : Output) (result : ℕ) (same : before ≡ start) (so : after ≡ end) where
  pub causes_of : ((command : Command) → Asks words command → HasCause (rule_of_merge own (setup_in command).merge) (setup_in command).extents tells before after result (IsTold command o.held o'.held)) →
      (command : Command) → Asks words command → HasCause (rule_of_merge own (setup_in command).merge) (setup_in command).extents tells start end result (IsTold command o.held o'.held)
  causes_of causes command asks =
      subst (λ counts. HasCause (rule_of_merge own (setup_in command).merge) (setup_in command).extents tells start counts result (IsTold command o.held o'.held)) so
      (subst (λ counts. HasCause (rule_of_merge own (setup_in command).merge) (setup_in command).extents tells counts after result (IsTold command o.held o'.held)) same (causes command asks))

  pub loads_of : ((setup : Setup) (seed lines : ℕ) → Asks words (Load setup seed lines) → result ≢ 4 → Loads (rule_of_merge own setup.merge) setup.extents tells seed lines before after o.held o'.held result) →
      (setup : Setup) (seed lines : ℕ) → Asks words (Load setup seed lines) → result ≢ 4 → Loads (rule_of_merge own setup.merge) setup.extents tells seed lines start end o.held o'.held result
  loads_of loads setup seed lines asks whole =
      subst (λ counts. Loads (rule_of_merge own setup.merge) setup.extents tells seed lines start counts o.held o'.held result) so
      (subst (λ counts. Loads (rule_of_merge own setup.merge) setup.extents tells seed lines counts after o.held o'.held result) same (loads setup seed lines asks whole))
