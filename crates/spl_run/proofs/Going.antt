-- The rows of a run so far, the history that they show, and one row more.
use Rattle.std.proofs.Common.{◌≡◌, ℕ, zero, suc, ◌+◌, ◌≤◌, Bool, true, cond, List, [], ◌∷◌, ◌++◌, length, take, map, filter, flat_map, Option, Some, None, is_some, IfSome, refl, ap, ◌∙◌, sym, subst, arith}
use Rattle.std.specs.Prelude.{IsSome, MatchOption}
use Rattle.std.specs.List.{AllByRecursion}
use Rattle.std.proofs.lemmas.Bool.{false≢true}
use Rattle.std.proofs.lemmas.List.{length-map, map-append}
use Rattle.std.proofs.lemmas.List.Elements.{filter-append}
use Rattle.spl_message.specs.declared.answer.Answer.{Answer}
use Rattle.spl_message.specs.declared.answer.Answer.TheVariants.{Done, Missing, Value, Pairs, Stopped}
use Rattle.spl_message.specs.declared.answer.Cause.{Cause}
use Rattle.spl_message.specs.declared.call.Call.{Call}
use Rattle.spl_message.specs.declared.call.Call.TheVariants.{Put, Look, Piece}
use Rattle.spl_message.proofs.Histories.{Answered-append}
use Rattle.spl_message.specs.Answer.{Answered, IsPieceOf, IsStopped, told_of}
use Rattle.spl_message.specs.Message.{act_all}
use Rattle.spl_message.specs.Rule.{Rule}
use Rattle.spl_message.specs.History.{Event, History, messages_to, cell_at}
use Rattle.spl_port.specs.Counts.{Counts}
use Rattle.spl_branch.specs.Branch.{Branch}
use Rattle.spl_desk.specs.Holder.{Holder}
use Rattle.spl_desk.specs.Turn.{Turn}
use Rattle.spl_report.specs.declared.report.Row.{Row}
use Rattle.spl_report.specs.Merge.{HavePlaces}
use Rattle.spl_run.specs.Legal.{IsAnswered, MayHavePlace, event_of, history_of}
use Rattle.spl_run.specs.Run.{Adds, AreGoing, Stops}
use Rattle.spl_run.specs.Status.{MayStop, cause_of}
use Rattle.spl_run.specs.Turns.{IsStoppedBy, added, as_counted, counted, counted_event}
use Rattle.spl_run.proofs.Lists.{all_push, filter_all}

-- ---- rows and the history of the core

placed_all : (n : ℕ) (rows : List Row) → HavePlaces n rows → AllByRecursion (λ (row : Row). is_some row.place ≡ true) rows
placed_all n [] h = tt
placed_all n (row ∷ rows) h = (ap is_some h.0, placed_all (n + 1) rows h.1)

-- where rows have places, all are in the history
pub placed_rows : (n : ℕ) (rows : List Row) → HavePlaces n rows → filter (λ (row : Row). is_some row.place) rows ≡ rows
placed_rows n rows places = filter_all (λ (row : Row). is_some row.place) rows (placed_all n rows places)

all_placed : (rows : List Row) → HavePlaces 0 rows → history_of rows ≡ map event_of rows
all_placed rows places = ap (λ (rs : List Row). map event_of rs) (placed_rows 0 rows places)

history_length : (rows : List Row) → HavePlaces 0 rows → length (history_of rows) ≡ length rows
history_length rows places = ap length (all_placed rows places) ∙ length-map rows event_of

counted_length : (rows : List Row) → HavePlaces 0 rows → length (counted rows) ≡ length rows
counted_length rows places = length-map (history_of rows) counted_event ∙ history_length rows places

counted_push : (rows : List Row) (row : Row) → counted (rows ++ row ∷ []) ≡ counted rows ++ added row.caller row.call row.place
counted_push rows row =
    let placed : Row → Bool = λ row. is_some row.place in
    ap (λ (rs : List Row). map counted_event (map event_of rs)) (filter-append placed rows (row ∷ []))
    ∙ ap (map counted_event) (map-append event_of (filter placed rows) (filter placed (row ∷ [])))
    ∙ map-append counted_event (history_of rows) (map event_of (filter placed (row ∷ [])))
    ∙ ap (λ h. counted rows ++ h) (one row.place)
  where
    one : (place : Option ℕ) → map counted_event (map event_of (cond (is_some place) (row ∷ []) [])) ≡ added row.caller row.call place
    one None = refl
    one (Some place) = refl

same_messages : (key : List ℕ) (call : Call) → messages_to key (as_counted call) ≡ messages_to key call
same_messages key (Put other message) = refl
same_messages key (Look other) = refl
same_messages key (Piece span) = refl

same_writes : (key : List ℕ) (n : ℕ) (history : History) → flat_map (λ (e : Event). messages_to key e.call) (take n (map counted_event history)) ≡ flat_map (λ (e : Event). messages_to key e.call) (take n history)
same_writes key zero history = refl
same_writes key (suc n) [] = refl
same_writes key (suc n) (e ∷ history) =
    ap (λ m. m ++ flat_map (λ (e : Event). messages_to key e.call) (take n (map counted_event history))) (same_messages key e.call)
    ∙ ap (λ m. messages_to key e.call ++ m) (same_writes key n history)

module _ (rule : Rule) where
  -- the core's history gives each key the cell that the rows give it
  same_cell : (history : History) (place : ℕ) (key : List ℕ) → cell_at rule (map counted_event history) place key ≡ cell_at rule history place key
  same_cell history place key = ap (act_all rule key None) (same_writes key place history)

  same_answer : (history : History) (place : ℕ) (call : Call) (answer : Answer) → Answered rule (map counted_event history) place call answer → Answered rule history place call answer
  same_answer history place (Put key message) answer a = a
  same_answer history place (Look key) answer a = a ∙ ap told_of (same_cell history place key)
  same_answer history place (Piece span) answer a = subst (λ c. IsPieceOf c span answer) (λ i key. same_cell history place key i) a

-- ---- answers

none_is_some : {A : Type 0} (x : A) → None ≡ Some x → ⊥
none_is_some x is = cc

pub not_stopped : (answer : Answer) → cause_of answer ≡ None → ¬ (IsStopped answer)
not_stopped Done is = λ h. h
not_stopped Missing is = λ h. h
not_stopped (Value value) is = λ h. h
not_stopped (Pairs end pairs) is = λ h. h
not_stopped (Stopped cause) is = λ h. none_is_some cause (sym is)

pub is_stopped : (answer : Answer) (cause : Cause) → cause_of answer ≡ Some cause → IsStopped answer
is_stopped Done cause is = absurd (none_is_some cause is)
is_stopped Missing cause is = absurd (none_is_some cause is)
is_stopped (Value value) cause is = absurd (none_is_some cause is)
is_stopped (Pairs end pairs) cause is = absurd (none_is_some cause is)
is_stopped (Stopped other) cause is = tt

placed_at : (place : Option ℕ) (n : ℕ) → IsSome place → IfSome place (λ p. p ≡ n) → place ≡ Some n
placed_at None n some is = absurd (false≢true some)
placed_at (Some p) n some is = ap Some is

-- ---- one row more

-- nothing is done yet
pub nothing_going : (rule : Rule) (tells : Bool) → AreGoing rule tells []
nothing_going rule tells = record { places = tt; callers = tt; going = tt; answers = λ is. tt }

pub places_push : (n : ℕ) (rows : List Row) (row : Row) → HavePlaces n rows → row.place ≡ Some (n + length rows) → HavePlaces n (rows ++ row ∷ [])
places_push n [] row h e = let zero : n + 0 ≡ n = omega arith in (e ∙ ap Some zero, tt)
places_push n (x ∷ xs) row h e = let shift : n + length (x ∷ xs) ≡ n + 1 + length xs = omega arith in (h.0, places_push (n + 1) xs row h.1 (e ∙ ap Some shift))

same_some : (n place : ℕ) → Some n ≡ Some place → n ≡ place
same_some n place is = cc

module _ (rule : Rule) where
  answers_kept : (history : History) (event : Event) (n : ℕ) (rows : List Row) → HavePlaces n rows → n + length rows ≤ length history → AllByRecursion (IsAnswered rule history) rows → AllByRecursion (IsAnswered rule (history ++ event ∷ [])) rows
  answers_kept history event n [] places within a = tt
  answers_kept history event n (row ∷ rows) places within a = (
    (λ place is not.
        let same : n ≡ place = same_some n place (sym places.0 ∙ is) in
        Answered-append rule history (event ∷ []) place row.call row.answer (omega (arith, same)) (a.0 place is not)),
    answers_kept history event (n + 1) rows places.1 (omega arith) a.1,
  )

  -- a row more at the next place, of a call whose answer is so
  module _ (rows : List Row) (row : Row) (places : HavePlaces 0 rows) (next : row.place ≡ Some (length rows)) where
    pub places_more : HavePlaces 0 (rows ++ row ∷ [])
    places_more = let from_zero : 0 + length rows ≡ length rows = omega arith in places_push 0 rows row places (next ∙ ap Some (sym from_zero))

    history_more : history_of (rows ++ row ∷ []) ≡ history_of rows ++ event_of row ∷ []
    history_more = all_placed (rows ++ row ∷ []) places_more ∙ map-append event_of rows (row ∷ []) ∙ ap (λ (h : History). h ++ event_of row ∷ []) (sym (all_placed rows places))

    pub answers_more : (¬ (IsStopped row.answer) → Answered rule (history_of rows) (length rows) row.call row.answer) → AllByRecursion (IsAnswered rule (history_of rows)) rows → AllByRecursion (IsAnswered rule (history_of (rows ++ row ∷ []))) (rows ++ row ∷ [])
    answers_more answer answers =
        let history : History = history_of rows in
        let count : length history ≡ length rows = history_length rows places in
        let last : IsAnswered rule (history ++ event_of row ∷ []) row = λ place is not.
        subst (λ n. Answered rule (history ++ event_of row ∷ []) n row.call row.answer) (same_some (length rows) place (sym next ∙ is))
        (Answered-append rule history (event_of row ∷ []) (length rows) row.call row.answer (omega (arith, count)) (answer not)) in
        subst (λ h. AllByRecursion (IsAnswered rule h) (rows ++ row ∷ [])) (sym history_more)
        (all_push (IsAnswered rule (history ++ event_of row ∷ [])) rows row (answers_kept history (event_of row) 0 rows places (omega (arith, count)) answers) last)

  going_more : (tells : Bool) (rows : List Row) (row : Row) → AreGoing rule tells rows → row.place ≡ Some (length rows) → row.caller ≡ 0 → cause_of row.answer ≡ None → (tells ≡ true → Answered rule (history_of rows) (length rows) row.call row.answer) → AreGoing rule tells (rows ++ row ∷ [])
  going_more tells rows row so_far next caller going answer = record {
    places = places_more rows row so_far.places next;
    callers = all_push _ rows row so_far.callers caller;
    going = all_push _ rows row so_far.going going;
    answers = λ is. answers_more rows row so_far.places next (λ not. answer is) (so_far.answers is);
  }

-- ---- a call over a desk

module _ (rule : Rule) (tells : Bool) (holder : Holder) (history : History) (before after : Counts) (steps : ℕ) (old new : List Row) (caller : ℕ) (made : Call) (turns : List (Turn Branch)) (seen : History) (row : Row)
    (adds : Adds tells holder history before after steps old new caller made turns seen row) (known : history ≡ counted old) (first : caller ≡ 0) where
  at_zero : row.caller ≡ 0
  at_zero = adds.caller ∙ first

  -- the history grows by what the row shows
  pub grown : holder.actor ≡ 0 → seen ≡ counted new
  grown actor =
      adds.is.added
      ∙ ap (λ h. h ++ added holder.actor row.call row.place) known
      ∙ ap (λ n. counted old ++ added n row.call row.place) (actor ∙ sym at_zero)
      ∙ sym (counted_push old row)
      ∙ ap counted (sym adds.rows)

  module _ (so_far : AreGoing rule tells old) where
    count_is : length history ≡ length old
    count_is = ap length known ∙ counted_length old so_far.places

    next_is : IfSome row.place (λ p. p ≡ length old)
    next_is = by row.place adds.is.next
      where
        by : (place : Option ℕ) → IfSome place (λ p. p ≡ length history) → IfSome place (λ p. p ≡ length old)
        by None h = tt
        by (Some p) h = h ∙ count_is

    abbrev Ends : Option Cause → Type 0
    Ends c = MatchOption c (IsSome row.place × (tells ≡ true → Answered holder.rule history (length history) row.call row.answer))
        (λ cause. MayHavePlace row.call row.place × MayStop tells row.call cause × IsStoppedBy tells before after steps turns cause)

    -- a row that was not stopped goes on with the others
    pub row_going : holder.rule ≡ rule → cause_of row.answer ≡ None → AreGoing rule tells new
    row_going same going =
        let ends : IsSome row.place × (tells ≡ true → Answered holder.rule history (length history) row.call row.answer) = subst Ends going adds.is.ends in
        let answer : tells ≡ true → Answered rule (history_of old) (length old) row.call row.answer = λ is.
        same_answer rule (history_of old) (length old) row.call row.answer
        (subst (λ r. Answered r (counted old) (length old) row.call row.answer) same
        (subst (λ n. Answered holder.rule (counted old) n row.call row.answer) count_is
        (subst (λ h. Answered holder.rule h (length history) row.call row.answer) known (ends.1 is)))) in
        subst (AreGoing rule tells) (sym adds.rows) (going_more rule tells old row so_far (placed_at row.place (length old) ends.0 next_is) at_zero going answer)

    -- a row that was stopped has its cause
    pub row_stops : (cause : Cause) → cause_of row.answer ≡ Some cause → MayHavePlace row.call row.place × Stops tells before after steps (length old) turns row cause
    row_stops cause stops =
        let ends : MayHavePlace row.call row.place × MayStop tells row.call cause × IsStoppedBy tells before after steps turns cause = subst Ends stops adds.is.ends in
        (ends.0, record { caller = at_zero; next = next_is; stopped = stops; may = ends.1; why = ends.2 })
