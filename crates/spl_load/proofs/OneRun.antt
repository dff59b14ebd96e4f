-- The rows of a run that was answered to its end follow from the script, where each line is a put or a lookup of caller 0.
use Rattle.std.proofs.Common.{◌≡◌, ◌≢◌, ℕ, zero, suc, ◌+◌, ◌/◌, ◌^◌, ◌≤◌, inl, inr, Bool, true, false, cond, nat_lt, List, [], ◌∷◌, ◌++◌, length, map, filter, drop, All, is_some, Option, Some, None, refl, sym, ap, subst, ◌∙◌, arith, eq-eqb, eqb}
use Rattle.std.specs.List.{AllByRecursion}
use Rattle.std.proofs.lemmas.Bool.{ne_eqb}
use Rattle.std.proofs.lemmas.List.{take_all}
use Rattle.spl_message.specs.declared.answer.Answer.{Answer}
use Rattle.spl_message.specs.declared.answer.Answer.TheVariants.{Done, Missing}
use Rattle.spl_message.specs.declared.answer.Cause.{Cause}
use Rattle.spl_message.specs.declared.answer.Cause.TheVariants.{Fault, Damaged, Full, Nodes, Spent, Memory}
use Rattle.spl_message.specs.declared.call.Call.{Call}
use Rattle.spl_message.specs.declared.call.Call.TheVariants.{Put, Look, Piece}
use Rattle.spl_message.specs.declared.message.Message.TheVariants.{Insert, Delete, Update}
use Rattle.spl_message.specs.Answer.{Answered, IsStopped, told_of}
use Rattle.spl_message.specs.History.{Event, History, cell_at}
use Rattle.spl_message.specs.Rule.{Rule}
use Rattle.spl_script.specs.declared.lines.Deed.{Deed}
use Rattle.spl_script.specs.declared.lines.Deed.TheVariants.{One, Scan}
use Rattle.spl_script.specs.declared.lines.ScriptLine.{ScriptLine}
use Rattle.spl_script.specs.Generator.{call_by, generated, key_at, next_state, value_at}
use Rattle.spl_script.specs.Verb.{IsPutOrLook, lines_of}
use Rattle.spl_report.specs.declared.report.Row.{Row}
use Rattle.spl_report.specs.Merge.{HavePlaces, rows_of}
use Rattle.spl_run.specs.Legal.{Expand, IsAnswered, IsChain, IsComplete, history_of}
use Rattle.spl_run.specs.Status.{HasStatus, IsRunOf, status_of_cause}

-- each line is a put or a lookup of caller 0
abbrev pub AreCalls : List ScriptLine → Type 0
AreCalls [] = Unit {0}
AreCalls (line ∷ lines) = (line.caller ≡ 0) × ((call : Call) × (line.deed ≡ One call) × IsPutOrLook call) × AreCalls lines

one_of_four : (a b c : Bool) (w x y z : Call) → IsPutOrLook w → IsPutOrLook x → IsPutOrLook y → IsPutOrLook z → IsPutOrLook (cond a w (cond b x (cond c y z)))
one_of_four true b c w x y z p q r s = p
one_of_four false true c w x y z p q r s = q
one_of_four false false true w x y z p q r s = r
one_of_four false false false w x y z p q r s = s

is_call_by : (top state : ℕ) → IsPutOrLook (call_by top state)
is_call_by top state =
    one_of_four (nat_lt top 8) (nat_lt top 11) (nat_lt top 13)
    (Put (key_at state) (Insert (value_at state))) (Put (key_at state) (Update (value_at state))) (Put (key_at state) Delete) (Look (key_at state))
    tt tt tt tt

generated_calls : (lines state : ℕ) → AreCalls (generated lines state)
generated_calls zero state = tt
generated_calls (suc lines) state =
    let next = next_state state in
    (refl, (call_by (next / 2 ^ 60) next, refl, is_call_by (next / 2 ^ 60) next), generated_calls lines next)

-- the call of a line
abbrev pub call_of : Deed → Call
call_of (One call) = call
call_of (Scan span) = Piece span

-- the history of the calls of a script
abbrev pub event_for : ScriptLine → Event
event_for line = record { actor = 0; call = call_of line.deed }

-- what a put or a lookup is answered at a place
abbrev pub answer_for : Rule → History → ℕ → Call → Answer
answer_for rule history place (Put key message) = Done
answer_for rule history place (Look key) = told_of (cell_at rule history place key)
answer_for rule history place (Piece span) = Missing

-- the rows of the lines, from a place on
abbrev pub row_for : Rule → History → ℕ → ScriptLine → Row
row_for rule history place line = record { place = Some place; caller = 0; call = call_of line.deed; answer = answer_for rule history place (call_of line.deed) }

abbrev pub rows_for : Rule → History → ℕ → List ScriptLine → List Row
rows_for rule history place [] = []
rows_for rule history place (line ∷ lines) = row_for rule history place line ∷ rows_for rule history (place + 1) lines

-- each row is that of its line's call, and was answered
abbrev pub Follow : List ScriptLine → List Row → Type 0
Follow [] [] = Unit {0}
Follow [] (row ∷ rows) = ⊥
Follow (line ∷ lines) [] = ⊥
Follow (line ∷ lines) (row ∷ rows) = (line.deed ≡ One row.call) × ¬ (IsStopped row.answer) × Follow lines rows

follow : (lines : List ScriptLine) (rows : List Row) → AreCalls lines → Expand lines rows → Follow lines rows
follow [] rows calls is = subst (λ (rs : List Row). Follow [] rs) (sym is) tt
follow (line ∷ lines) rows calls ex =
    let one = subst (λ (d : Deed). IsChain d ex.0) calls.1.1 ex.3 in
    let is : rows ≡ one.0 ∷ ex.1 = ex.2 ∙ ap (λ (c : List Row). c ++ ex.1) one.1 in
    subst (λ (rs : List Row). Follow (line ∷ lines) rs) (sym is) (calls.1.1 ∙ ap (λ (c : Call). One c) (sym one.2), one.3, follow lines ex.1 calls.2 ex.4)

follow_answered : (lines : List ScriptLine) (rows : List Row) → Follow lines rows → AllByRecursion (λ (row : Row). ¬ (IsStopped row.answer)) rows
follow_answered [] [] h = tt
follow_answered [] (row ∷ rows) h = absurd h
follow_answered (line ∷ lines) [] h = tt
follow_answered (line ∷ lines) (row ∷ rows) h = (h.1, follow_answered lines rows h.2)

-- the lines of a caller
all_lines : (lines : List ScriptLine) → AreCalls lines → lines_of 0 lines ≡ lines
all_lines [] calls = refl
all_lines (line ∷ lines) calls =
    ap (λ (b : Bool). cond b (line ∷ lines_of 0 lines) (lines_of 0 lines)) (eq-eqb line.caller 0 calls.0) ∙ ap (λ (ls : List ScriptLine). line ∷ ls) (all_lines lines calls.2)

no_lines : (lines : List ScriptLine) (caller : ℕ) → AreCalls lines → caller ≢ 0 → lines_of caller lines ≡ []
no_lines [] caller calls other = refl
no_lines (line ∷ lines) caller calls other =
    ap (λ (b : Bool). cond b (line ∷ lines_of caller lines) (lines_of caller lines)) (ne_eqb line.caller caller (λ same. other (sym same ∙ calls.0)))
    ∙ no_lines lines caller calls.2 other

-- where no other caller has rows, all rows are those of caller 0
none_behind : (b : Bool) (row : Row) (rest : List Row) → cond b (row ∷ rest) rest ≡ [] → rest ≡ []
none_behind true row rest h = cc
none_behind false row rest h = h

first_caller : (row : Row) (rows : List Row) (caller : ℕ) → row.caller ≡ caller → ((other : ℕ) → other ≢ 0 → rows_of other (row ∷ rows) ≡ []) → caller ≡ 0
first_caller row rows zero is others = refl
first_caller row rows (suc n) is others =
    let apart : suc n ≢ 0 = omega arith in
    let none = others (suc n) apart in
    let here : row ∷ rows_of (suc n) rows ≡ [] = ap (λ (b : Bool). cond b (row ∷ rows_of (suc n) rows) (rows_of (suc n) rows)) (sym (eq-eqb row.caller (suc n) is)) ∙ none in
    cc

callers_are : (rows : List Row) → ((other : ℕ) → other ≢ 0 → rows_of other rows ≡ []) → AllByRecursion (λ (row : Row). row.caller ≡ 0) rows
callers_are [] others = tt
callers_are (row ∷ rows) others =
    (first_caller row rows row.caller refl others, callers_are rows (λ other apart. none_behind (eqb row.caller other) row (rows_of other rows) (others other apart)))

all_rows : (rows : List Row) → AllByRecursion (λ (row : Row). row.caller ≡ 0) rows → rows_of 0 rows ≡ rows
all_rows [] callers = refl
all_rows (row ∷ rows) callers =
    ap (λ (b : Bool). cond b (row ∷ rows_of 0 rows) (rows_of 0 rows)) (eq-eqb row.caller 0 callers.0) ∙ ap (λ (rs : List Row). row ∷ rs) (all_rows rows callers.1)

-- no row without a place follows those that have one
none_left : (rows : List Row) (placed : ℕ) → All (λ (row : Row). (row.place ≡ None) × IsStopped row.answer) (drop placed rows) → AllByRecursion (λ (row : Row). ¬ (IsStopped row.answer)) rows → length rows ≤ placed
none_left [] placed stopped answered = omega arith
none_left (row ∷ rows) zero stopped answered = absurd (answered.0 (stopped 0 row (omega arith)).1)
none_left (row ∷ rows) (suc placed) stopped answered = omega (arith, none_left rows placed stopped answered.1)

each_of : {X : Type 0} (P : X → Type 0) (xs : List X) → All P xs → AllByRecursion P xs
each_of P [] all = tt
each_of P (x ∷ xs) all = (all 0 x (omega arith), each_of P xs (λ k d inside. all (suc k) d (omega arith)))

-- the history that such rows show is that of the lines
history_is : (lines : List ScriptLine) (rows : List Row) (first : ℕ) → Follow lines rows → AllByRecursion (λ (row : Row). row.caller ≡ 0) rows → HavePlaces first rows → history_of rows ≡ map event_for lines
history_is [] [] first h callers places = refl
history_is [] (row ∷ rows) first h callers places = absurd h
history_is (line ∷ lines) [] first h callers places = absurd h
history_is (line ∷ lines) (row ∷ rows) first h callers places =
    let make : ℕ → Call → Event = λ a c. record { actor = a; call = c } in
    let event : make row.caller row.call ≡ event_for line = ap (λ (a : ℕ). make a row.call) callers.0 ∙ ap (λ (d : Deed). make 0 (call_of d)) (sym h.0) in
    ap (λ (p : Option ℕ). map (λ (r : Row). make r.caller r.call) (cond (is_some p) (row ∷ filter (λ (r : Row). is_some r.place) rows) (filter (λ (r : Row). is_some r.place) rows))) places.0
    ∙ ap (λ (e : Event). e ∷ history_of rows) event
    ∙ ap (λ (es : List Event). event_for line ∷ es) (history_is lines rows (first + 1) h.2 callers.1 places.1)

answer_is : (rule : Rule) (history : History) (place : ℕ) (call : Call) (answer : Answer) → IsPutOrLook call → Answered rule history place call answer → answer ≡ answer_for rule history place call
answer_is rule history place (Put key message) answer known is = is
answer_is rule history place (Look key) answer known is = is
answer_is rule history place (Piece span) answer known is = absurd known

rows_are : (rule : Rule) (history : History) (lines : List ScriptLine) (rows : List Row) (first : ℕ) → AreCalls lines → Follow lines rows → AllByRecursion (λ (row : Row). row.caller ≡ 0) rows → HavePlaces first rows → AllByRecursion (IsAnswered rule history) rows → rows ≡ rows_for rule history first lines
rows_are rule history [] [] first calls h callers places answers = refl
rows_are rule history [] (row ∷ rows) first calls h callers places answers = absurd h
rows_are rule history (line ∷ lines) [] first calls h callers places answers = absurd h
rows_are rule history (line ∷ lines) (row ∷ rows) first calls h callers places answers =
    let call : row.call ≡ call_of line.deed = ap call_of (sym h.0) in
    let known : IsPutOrLook row.call = subst IsPutOrLook (ap call_of (sym calls.1.1 ∙ h.0)) calls.1.2 in
    let answer : row.answer ≡ answer_for rule history first row.call = answer_is rule history first row.call row.answer known (answers.0 first places.0 h.1) in
    let make : Option ℕ → ℕ → Call → Answer → Row = λ p c k a. record { place = p; caller = c; call = k; answer = a } in
    let here : row ≡ row_for rule history first line =
    ap (λ (a : Answer). make row.place row.caller row.call a) answer
    ∙ ap (λ (p : Option ℕ). make p row.caller row.call (answer_for rule history first row.call)) places.0
    ∙ ap (λ (c : ℕ). make (Some first) c row.call (answer_for rule history first row.call)) callers.0
    ∙ ap (λ (k : Call). make (Some first) 0 k (answer_for rule history first k)) call in
    ap (λ (r : Row). r ∷ rows) here ∙ ap (λ (rs : List Row). row_for rule history first line ∷ rs) (rows_are rule history lines rows (first + 1) calls.2 h.2 callers.1 places.1 answers.1)

-- a run that ends with status 0 is complete
some_status : (cause : Option Cause) → status_of_cause cause ≡ 0 → ⊥
some_status (Some Fault) is = omega arith
some_status (Some Full) is = omega arith
some_status (Some Memory) is = omega arith
some_status (Some Damaged) is = omega arith
some_status (Some Nodes) is = omega arith
some_status (Some Spent) is = omega arith
some_status None is = omega arith

complete : (rows : List Row) (script : List ScriptLine) → HasStatus rows script 0 → IsComplete rows script
complete rows script (inl all) = all.1
complete rows script (inr early) = absurd (some_status _ (sym early.2))

rows_of_run : (rule : Rule) (script : List ScriptLine) (rows : List Row) → AreCalls script → IsRunOf rule true script rows 0 → rows ≡ rows_for rule (map event_for script) 0 script
rows_of_run rule script rows calls run =
    let whole = complete rows script run.ended in
    let others : (other : ℕ) → other ≢ 0 → rows_of other rows ≡ [] = λ other apart. subst (λ (ls : List ScriptLine). Expand ls (rows_of other rows)) (no_lines script other calls apart) (whole other) in
    let callers = callers_are rows others in
    let expands : Expand script rows = subst (λ (rs : List Row). Expand script rs) (all_rows rows callers) (subst (λ (ls : List ScriptLine). Expand ls (rows_of 0 rows)) (all_lines script calls) (whole 0)) in
    let follows = follow script rows calls expands in
    let order = run.history.order in
    let few = none_left rows order.0 order.1.stopped (follow_answered script rows follows) in
    let places : HavePlaces 0 rows = subst (λ (rs : List Row). HavePlaces 0 rs) (take_all order.0 rows few) order.1.places in
    let history = history_is script rows 0 follows callers places in
    let answers : AllByRecursion (IsAnswered rule (map event_for script)) rows = subst (λ (h : History). AllByRecursion (IsAnswered rule h) rows) history (each_of (IsAnswered rule (history_of rows)) rows (run.legal refl).answers) in
    rows_are rule (map event_for script) script rows 0 calls follows callers places answers

pub one_run_of : (rule : Rule) (seed lines : ℕ) (rows others : List Row) → IsRunOf rule true (generated lines seed) rows 0 → IsRunOf rule true (generated lines seed) others 0 → rows ≡ others
one_run_of rule seed lines rows others run other =
    rows_of_run rule (generated lines seed) rows (generated_calls lines seed) run ∙ sym (rows_of_run rule (generated lines seed) others (generated_calls lines seed) other)
