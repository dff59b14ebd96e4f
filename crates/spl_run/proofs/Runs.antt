-- A run of one caller, line by line: what its rows are so far, and what they are at its end.
use Rattle.std.proofs.Common.{◌≡◌, ℕ, zero, suc, ◌+◌, ◌<◌, ◌≤◌, Bool, true, eqb, ◌⊎◌, inl, inr, List, [], ◌∷◌, ◌++◌, length, get_or, take, drop, map, filter, Option, Some, None, is_some, IfSome, All, refl, ap, ◌∙◌, sym, subst, arith, append_assoc, length-append}
use Rattle.std.specs.List.{AllByRecursion}
use Rattle.std.specs.Option.{option_or}
use Rattle.std.proofs.Math.Dec.{eqb-zero-suc}
use Rattle.std.proofs.lemmas.List.{append-nil, take_at, drop_at, take_more, take-append-drop, length-map}
use Rattle.std.proofs.lemmas.List.Elements.{All-from_recursion, recursion_from_All, filter-append, Contains-append_right}
use Rattle.spl_message.specs.declared.answer.Cause.{Cause}
use Rattle.spl_message.specs.declared.answer.Cause.TheVariants.{Fault, Damaged, Full, Nodes, Spent, Memory}
use Rattle.spl_message.specs.Answer.{IsStopped}
use Rattle.spl_message.specs.Rule.{Rule}
use Rattle.spl_message.specs.History.{History}
use Rattle.spl_port.specs.Counts.{Counts, Rose}
use Rattle.spl_branch.specs.Branch.{Branch}
use Rattle.spl_desk.specs.Calls.{NeverFell}
use Rattle.spl_desk.specs.Turn.{Turn}
use Rattle.spl_script.specs.declared.lines.ScriptLine.{ScriptLine}
use Rattle.spl_script.specs.Verb.{lines_of}
use Rattle.spl_report.specs.declared.report.Row.{Row}
use Rattle.spl_report.specs.Merge.{HavePlaces, rows_of}
use Rattle.spl_run.specs.Legal.{IsChain, IsCutShort, Expand, EndEarly, IsAnswered, IsLegal, IsOneHistory, event_of, history_of}
use Rattle.spl_run.specs.Run.{AreGoing, Breaks, Does, Stops}
use Rattle.spl_run.specs.Status.{cause_of, cause_in, status_of_cause, MayStand, MayStop, IsRunOf}
use Rattle.spl_run.specs.Turns.{EndsFor, IsStoppedBy}
use Rattle.spl_run.proofs.Going.{answers_more, is_stopped, nothing_going, placed_rows, places_more}
use Rattle.spl_run.proofs.Lists.{all_push, all_append, all_weaker, filter_all, filter_none}

-- so far: the lines that are done made these rows, none of which was stopped
pub record Ran (rule : Rule) (tells : Bool) (done : List ScriptLine) (rows : List Row) : Type 0 where
  pub going : AreGoing rule tells rows
  pub expands : Expand done rows

-- nothing is done yet
pub nothing_ran : (rule : Rule) (tells : Bool) → Ran rule tells [] []
nothing_ran rule tells = record { going = nothing_going rule tells; expands = refl }

expand_push : (done : List ScriptLine) (rows : List Row) (line : ScriptLine) (chain : List Row) → Expand done rows → IsChain line.deed chain → Expand (done ++ line ∷ []) (rows ++ chain)
expand_push [] rows line chain e c = (chain, [], ap (λ r. r ++ chain) e ∙ sym (append-nil chain), c, refl)
expand_push (l ∷ ls) rows line chain e c = (e.0, e.1 ++ chain, ap (λ r. r ++ chain) e.2 ∙ append_assoc e.0 e.1 chain, e.3, expand_push ls e.1 line chain e.4 c)

-- a line more is done
pub line_ran : (rule : Rule) (tells : Bool) (before after : Counts) (steps : ℕ) (old new : List Row) (line : ScriptLine) (done : List ScriptLine) (seen : History) → Ran rule tells done old → Does rule tells before after steps old new line.deed seen → Ran rule tells (done ++ line ∷ []) new
line_ran rule tells before after steps old new line done seen ran does = record {
  going = does.going;
  expands = subst (Expand (done ++ line ∷ [])) (sym does.rows) (expand_push done old line does.chain ran.expands does.is);
}

-- ---- the end

-- what may stand behind the rows with places: the stopped row of the caller
record IsTail (tail : List Row) : Type 0 where
  stopped : AllByRecursion (λ (row : Row). (row.place ≡ None) × IsStopped row.answer) tail
  callers : AllByRecursion (λ (row : Row). row.caller ≡ 0) tail
  one : length tail ≤ 1

nothing_behind : IsTail []
nothing_behind = record { stopped = tt; callers = tt; one = omega arith }

-- where there is only caller 0, its lines and rows are all of them
caller_zero : (R : List ScriptLine → List Row → Type 0) (script : List ScriptLine) (rows : List Row) → AllByRecursion (λ (line : ScriptLine). line.caller ≡ 0) script →
    AllByRecursion (λ (row : Row). row.caller ≡ 0) rows → R script rows → R (lines_of 0 script) (rows_of 0 rows)
caller_zero R script rows lines_zero rows_zero whole =
    subst (λ ls. R ls (rows_of 0 rows)) (sym (filter_all _ script (all_weaker _ _ script (λ (line : ScriptLine) e. ap (λ n. eqb n 0) e) lines_zero)))
    (subst (R script) (sym (filter_all _ rows (all_weaker _ _ rows (λ (row : Row) e. ap (λ n. eqb n 0) e) rows_zero))) whole)

-- where there is only caller 0, what holds of the whole holds of each caller
per_caller : (R : List ScriptLine → List Row → Type 0) (script : List ScriptLine) (rows : List Row) → AllByRecursion (λ (line : ScriptLine). line.caller ≡ 0) script →
    AllByRecursion (λ (row : Row). row.caller ≡ 0) rows → R [] [] → R script rows → (caller : ℕ) → R (lines_of caller script) (rows_of caller rows)
per_caller R script rows lines_zero rows_zero none whole zero = caller_zero R script rows lines_zero rows_zero whole
per_caller R script rows lines_zero rows_zero none whole (suc c) =
    subst (λ ls. R ls (rows_of (suc c) rows)) (sym (filter_none _ script (all_weaker _ _ script (λ (line : ScriptLine) e. ap (λ n. eqb n (suc c)) e ∙ eqb-zero-suc c) lines_zero)))
    (subst (R []) (sym (filter_none _ rows (all_weaker _ _ rows (λ (row : Row) e. ap (λ n. eqb n (suc c)) e ∙ eqb-zero-suc c) rows_zero))) none)

module _ (script : List ScriptLine) (rows tail : List Row) (places : HavePlaces 0 rows) (callers : AllByRecursion (λ (row : Row). row.caller ≡ 0) rows) (t : IsTail tail) (zeros : AllByRecursion (λ (line : ScriptLine). line.caller ≡ 0) script)
    (expands : Expand script (rows ++ tail) ⊎ EndEarly script (rows ++ tail)) where
  one_history : IsOneHistory (rows ++ tail) script
  one_history =
      let stopped : Row → Type 0 = λ row. (row.place ≡ None) × IsStopped row.answer in
      let rest : drop (length rows) (rows ++ tail) ≡ tail = drop_at rows tail _ refl in
      let count : length (map (λ (row : Row). row.caller) (drop (length rows) (rows ++ tail))) ≡ length tail = length-map _ _ ∙ ap length rest in
      record {
        order = (
          length rows,
          record {
            within = omega (arith, length-append rows tail);
            places = subst (HavePlaces 0) (sym (take_at rows tail _ refl)) places;
            stopped = subst (All stopped) (sym rest) (All-from_recursion stopped tail t.stopped);
            by_caller = λ k within. absurd (omega (arith, t.one));
          },
        );
        each_caller = per_caller (λ ls rs. Expand ls rs ⊎ EndEarly ls rs) script (rows ++ tail) zeros (all_append _ rows tail callers t.callers) (inl refl) expands;
      }

  legal : (rule : Rule) → AllByRecursion (IsAnswered rule (history_of rows)) rows → IsLegal rule (rows ++ tail) script
  legal rule answers =
      let placed : Row → Bool = λ row. is_some row.place in
      let stopped : Row → Type 0 = λ row. (row.place ≡ None) × IsStopped row.answer in
      let front : filter placed rows ≡ rows = placed_rows 0 rows places in
      let back : filter placed tail ≡ [] = filter_none placed tail (all_weaker _ _ tail (λ (row : Row) s. ap is_some s.0) t.stopped) in
      let history : history_of (rows ++ tail) ≡ history_of rows =
      ap (λ (rs : List Row). map event_of rs) (filter-append placed rows tail ∙ ap (λ r. filter placed rows ++ r) back ∙ append-nil (filter placed rows)) in
      record {
        history = one_history;
        answers = subst (λ h. All (IsAnswered rule h) (rows ++ tail)) (sym history) (All-from_recursion (IsAnswered rule (history_of rows)) (rows ++ tail)
            (all_append (IsAnswered rule (history_of rows)) rows tail answers (all_weaker stopped (IsAnswered rule (history_of rows)) tail (λ (row : Row) s place is not. absurd (not s.1)) t.stopped)));
      }

end_early : (done : List ScriptLine) (rows : List Row) (line : ScriptLine) (later : List ScriptLine) (tail : List Row) → Expand done rows → IsCutShort line.deed tail → EndEarly (done ++ line ∷ later) (rows ++ tail)
end_early [] rows line later tail e cut = inl (subst (IsCutShort line.deed) (sym (ap (λ r. r ++ tail) e)) cut)
end_early (l ∷ ls) rows line later tail e cut = inr (e.0, e.1 ++ tail, ap (λ r. r ++ tail) e.2 ∙ append_assoc e.0 e.1 tail, e.3, end_early ls e.1 line later tail e.4 cut)

pub cause_behind : (rows tail : List Row) → AllByRecursion (λ (row : Row). cause_of row.answer ≡ None) rows → cause_in (rows ++ tail) ≡ cause_in tail
cause_behind [] tail going = refl
cause_behind (row ∷ rows) tail going = ap (λ cause. option_or cause (cause_in (rows ++ tail))) going.0 ∙ cause_behind rows tail going.1

pub no_cause : (rows : List Row) → AllByRecursion (λ (row : Row). cause_of row.answer ≡ None) rows → cause_in rows ≡ None
no_cause rows going = ap cause_in (sym (append-nil rows)) ∙ cause_behind rows [] going

module _ (rule : Rule) (tells : Bool) where
  none_stopped : (rows : List Row) → AllByRecursion (λ (row : Row). cause_of row.answer ≡ None) rows → AllByRecursion (MayStand tells) rows
  none_stopped rows going = all_weaker _ (MayStand tells) rows (λ (row : Row) none. subst (λ cause. IfSome cause (MayStop tells row.call)) (sym none) tt) going

  -- all lines are done
  pub all_ran : (script : List ScriptLine) (rows : List Row) → Ran rule tells script rows → AllByRecursion (λ (line : ScriptLine). line.caller ≡ 0) script → IsRunOf rule tells script rows 0
  all_ran script rows ran zeros =
      let g = ran.going in
      let none : rows ++ [] ≡ rows = append-nil rows in
      let expands : Expand script (rows ++ []) ⊎ EndEarly script (rows ++ []) = inl (subst (Expand script) (sym none) ran.expands) in
      record {
        history = subst (λ rs. IsOneHistory rs script) none (one_history script rows [] g.places g.callers nothing_behind zeros expands);
        legal = λ is. subst (λ rs. IsLegal rule rs script) none (legal script rows [] g.places g.callers nothing_behind zeros expands rule (g.answers is));
        ended = inl (refl, per_caller Expand script rows zeros g.callers refl ran.expands);
        causes = All-from_recursion (MayStand tells) rows (none_stopped rows g.going);
      }

  module _ (script : List ScriptLine) (zeros : AllByRecursion (λ (line : ScriptLine). line.caller ≡ 0) script) where
    -- the caller ended early, with these rows
    ended_early : (rows tail : List Row) (cause : Option Cause) → HavePlaces 0 rows → AllByRecursion (λ (row : Row). row.caller ≡ 0) rows → IsTail tail →
        EndEarly script (rows ++ tail) → (tells ≡ true → AllByRecursion (IsAnswered rule (history_of rows)) rows) → AllByRecursion (MayStand tells) (rows ++ tail) → cause_in (rows ++ tail) ≡ cause → IsRunOf rule tells script (rows ++ tail) (status_of_cause cause)
    ended_early rows tail cause places callers t early answers causes is =
        let all : AllByRecursion (λ (row : Row). row.caller ≡ 0) (rows ++ tail) = all_append _ rows tail callers t.callers in
        record {
          history = one_history script rows tail places callers t zeros (inr early);
          legal = λ told. legal script rows tail places callers t zeros (inr early) rule (answers told);
          ended = inr (
            0,
            record { early = caller_zero EndEarly script (rows ++ tail) zeros all early; others = λ other below. absurd (omega arith) },
            caller_zero (λ _ rs. status_of_cause cause ≡ status_of_cause (cause_in rs)) script (rows ++ tail) zeros all (ap status_of_cause (sym is)),
          );
          causes = All-from_recursion (MayStand tells) (rows ++ tail) causes;
        }

    module _ (rows : List Row) (g : AreGoing rule tells rows) where
      -- memory ran out before a call was made
      missing_ran : EndEarly script rows → IsRunOf rule tells script rows 7
      missing_ran early =
          let none : rows ++ [] ≡ rows = append-nil rows in
          subst (λ rs. IsRunOf rule tells script rs 7) none (ended_early rows [] None g.places g.callers nothing_behind (subst (EndEarly script) (sym none) early) g.answers
          (subst (AllByRecursion (MayStand tells)) (sym none) (none_stopped rows g.going)) (cause_behind rows [] g.going))

      module _ (before after : Counts) (steps : ℕ) (turns : List (Turn Branch)) (row : Row) (cause : Cause) (stops : Stops tells before after steps (length rows) turns row cause) (early : EndEarly script (rows ++ row ∷ [])) where
        causes_in : AllByRecursion (MayStand tells) (rows ++ row ∷ [])
        causes_in = all_push (MayStand tells) rows row (none_stopped rows g.going) (subst (λ c. IfSome c (MayStop tells row.call)) (sym stops.stopped) stops.may)

        pub cause_is : cause_in (rows ++ row ∷ []) ≡ Some cause
        cause_is = cause_behind rows (row ∷ []) g.going ∙ ap (λ c. option_or c None) stops.stopped

        -- a call was stopped, without a place
        unplaced_ran : row.place ≡ None → IsRunOf rule tells script (rows ++ row ∷ []) (status_of_cause (Some cause))
        unplaced_ran none =
            let tail : IsTail (row ∷ []) = record { stopped = ((none, is_stopped row.answer cause stops.stopped), tt); callers = (stops.caller, tt); one = omega arith } in
            ended_early rows (row ∷ []) (Some cause) g.places g.callers tail early g.answers causes_in cause_is

        -- or with one
        placed_ran : row.place ≡ Some (length rows) → IsRunOf rule tells script (rows ++ row ∷ []) (status_of_cause (Some cause))
        placed_ran place =
            let all : List Row = rows ++ row ∷ [] in
            let none : all ++ [] ≡ all = append-nil all in
            subst (λ rs. IsRunOf rule tells script rs (status_of_cause (Some cause))) none
            (ended_early all [] (Some cause) (places_more rule rows row g.places place) (all_push _ rows row g.callers stops.caller) nothing_behind
            (subst (EndEarly script) (sym none) early)
            (λ told. answers_more rule rows row g.places place (λ not. absurd (not (is_stopped row.answer cause stops.stopped))) (g.answers told))
            (subst (AllByRecursion (MayStand tells)) (sym none) causes_in) (ap cause_in none ∙ cause_is))

        pub stopped_ran : IsRunOf rule tells script (rows ++ row ∷ []) (status_of_cause (Some cause))
        stopped_ran = by row.place refl
          where
            by : (place : Option ℕ) → row.place ≡ place → IsRunOf rule tells script (rows ++ row ∷ []) (status_of_cause (Some cause))
            by None none = unplaced_ran none
            by (Some p) some =
                let here : p ≡ length rows = subst (λ o. IfSome o (λ p. p ≡ length rows)) some stops.next in
                placed_ran (some ∙ ap Some here)

-- what stopped the later turns stopped the whole
pub stopped_longer : (tells : Bool) (before mid after : Counts) (steps : ℕ) (first more : List (Turn Branch)) → NeverFell before mid → (cause : Cause) → IsStoppedBy tells mid after steps more cause → IsStoppedBy tells before after steps (first ++ more) cause
stopped_longer tells before mid after steps first more fell Fault h = rose before.faults mid.faults after.faults fell.faults h
  where
    rose : (a b c : ℕ) → a ≤ b → Rose b c → Rose a c
    rose a b c below r = omega (arith, below, r)
stopped_longer tells before mid after steps first more fell Damaged h =
    let before_mid : before.reads ≤ mid.reads = fell.reads in
    let read : mid.reads < after.reads = h.1.read in
    (h.0, record { read = omega (arith, before_mid, read); latest = h.1.latest })
stopped_longer tells before mid after steps first more fell Full h = (h.0, Contains-append_right first more h.0 h.1, h.2)
stopped_longer tells before mid after steps first more fell Nodes h = (h.0, Contains-append_right first more h.0 h.1, h.2)
stopped_longer tells before mid after steps first more fell Spent h = h
stopped_longer tells before mid after steps first more fell Memory h = tt

-- a line in which the caller ends early ends the run
module _ (rule : Rule) (tells : Bool) (mid after : Counts) (steps : ℕ) (old new : List Row) (line : ScriptLine) (cause : Cause) (turns : List (Turn Branch)) (seen : History)
    (breaks : Breaks rule tells mid after steps old new line.deed cause turns seen) where
  pub last_rows : (done : List ScriptLine) → Ran rule tells done old → (script later : List ScriptLine) → AllByRecursion (λ (line : ScriptLine). line.caller ≡ 0) script → script ≡ done ++ line ∷ later → IsRunOf rule tells script new (status_of_cause (Some cause))
  last_rows done ran script later zeros is = subst (λ rs. IsRunOf rule tells script rs (status_of_cause (Some cause))) (sym breaks.rows) (by breaks.last)
    where
      early : EndEarly script ((old ++ breaks.front) ++ breaks.tail)
      early = subst (λ rs. EndEarly script rs) (sym (append_assoc old breaks.front breaks.tail))
          (subst (λ s. EndEarly s (old ++ (breaks.front ++ breaks.tail))) (sym is) (end_early done old line later (breaks.front ++ breaks.tail) ran.expands breaks.cut))

      by : ((breaks.tail ≡ []) × (cause ≡ Memory)) ⊎ ((row : Row) × (breaks.tail ≡ row ∷ []) × Stops tells mid after steps (length (old ++ breaks.front)) turns row cause) → IsRunOf rule tells script ((old ++ breaks.front) ++ breaks.tail) (status_of_cause (Some cause))
      by (inl none) =
          let same : (old ++ breaks.front) ++ breaks.tail ≡ old ++ breaks.front = ap (λ t. (old ++ breaks.front) ++ t) none.0 ∙ append-nil (old ++ breaks.front) in
          subst (λ rs. IsRunOf rule tells script rs (status_of_cause (Some cause))) (sym same)
          (subst (λ c. IsRunOf rule tells script (old ++ breaks.front) (status_of_cause (Some c))) (sym none.1)
          (missing_ran rule tells script zeros (old ++ breaks.front) breaks.going (subst (EndEarly script) same early)))
      by (inr one) =
          let same : (old ++ breaks.front) ++ breaks.tail ≡ (old ++ breaks.front) ++ one.0 ∷ [] = ap (λ t. (old ++ breaks.front) ++ t) one.1 in
          subst (λ rs. IsRunOf rule tells script rs (status_of_cause (Some cause))) (sym same)
          (stopped_ran rule tells script zeros (old ++ breaks.front) breaks.going mid after steps turns one.0 cause one.2 (subst (EndEarly script) same early))

  pub last_ends : (before : Counts) (earlier : List (Turn Branch)) → NeverFell before mid → EndsFor tells before after steps (earlier ++ turns) new (status_of_cause (Some cause))
  last_ends before earlier fell = by breaks.last
    where
      by : ((breaks.tail ≡ []) × (cause ≡ Memory)) ⊎ ((row : Row) × (breaks.tail ≡ row ∷ []) × Stops tells mid after steps (length (old ++ breaks.front)) turns row cause) → EndsFor tells before after steps (earlier ++ turns) new (status_of_cause (Some cause))
      by (inl none) =
          let are : new ≡ old ++ breaks.front = breaks.rows ∙ ap (λ t. (old ++ breaks.front) ++ t) none.0 ∙ append-nil (old ++ breaks.front) in
          inl (ap cause_in are ∙ no_cause (old ++ breaks.front) breaks.going.going, inr (ap (λ c. status_of_cause (Some c)) none.1))
      by (inr one) =
          let are : new ≡ (old ++ breaks.front) ++ one.0 ∷ [] = breaks.rows ∙ ap (λ t. (old ++ breaks.front) ++ t) one.1 in
          let stops : Stops tells mid after steps (length (old ++ breaks.front)) turns one.0 cause = one.2 in
          inr (
            cause,
            ap cause_in are ∙ cause_behind (old ++ breaks.front) (one.0 ∷ []) breaks.going.going ∙ ap (λ c. option_or c None) stops.stopped,
            refl,
            stopped_longer tells before mid after steps earlier turns fell cause stops.why,
          )

-- ---- the script's lines

pub all_zero : (script : List ScriptLine) → All (λ (line : ScriptLine). line.caller < 1) script → AllByRecursion (λ (line : ScriptLine). line.caller ≡ 0) script
all_zero script below = all_weaker (λ (line : ScriptLine). line.caller < 1) _ script (λ line small. omega arith) (recursion_from_All _ script below)

pub split_line : (script : List ScriptLine) (i : ℕ) (line : ScriptLine) → i < length script → line ≡ get_or script i line → script ≡ take i script ++ line ∷ drop (i + 1) script
split_line script i line within is =
    sym (take-append-drop (i + 1) script)
    ∙ ap (λ front. front ++ drop (i + 1) script) (take_more script i line within ∙ ap (λ x. take i script ++ x ∷ []) (sym is))
    ∙ append_assoc (take i script) (line ∷ []) (drop (i + 1) script)

pub zero_at : (script : List ScriptLine) (i : ℕ) (line : ScriptLine) → All (λ (line : ScriptLine). line.caller < 1) script → i < length script → line ≡ get_or script i line → line.caller ≡ 0
zero_at script i line below within is =
    let small : (get_or script i line).caller < 1 = below i line within in
    let same : line.caller ≡ (get_or script i line).caller = ap (λ (l : ScriptLine). l.caller) is in
    omega arith

pub take_line : (script : List ScriptLine) (i : ℕ) (line : ScriptLine) → i < length script → line ≡ get_or script i line → take (i + 1) script ≡ take i script ++ line ∷ []
take_line script i line within is = take_more script i line within ∙ ap (λ x. take i script ++ x ∷ []) (sym is)
