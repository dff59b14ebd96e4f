-- The rows of a scan, piece by piece.
use Rattle.std.proofs.Common.{◌≡◌, ◌≢◌, ℕ, Bool, true, false, ◌⊎◌, inl, inr, List, [], ◌∷◌, ◌++◌, length, Option, Some, None, refl, ap, ◌∙◌, sym, subst, append_assoc}
use Rattle.std.specs.Prelude.{Result, Ok, Err}
use Rattle.std.specs.Result.{IsErrAnd}
use Rattle.std.specs.Cmp.Lexicographic.{bytes_decides}
use Rattle.std.specs.Str.{bytes_eq}
use Rattle.std.proofs.lemmas.List.{append-nil}
use Rattle.spl_message.specs.declared.answer.Answer.{Answer}
use Rattle.spl_message.specs.declared.answer.Answer.TheVariants.{Done, Missing, Value, Pairs, Stopped}
use Rattle.spl_message.specs.declared.answer.Cause.{Cause}
use Rattle.spl_message.specs.declared.answer.Cause.TheVariants.{Memory}
use Rattle.spl_message.specs.declared.call.Call.TheVariants.{Piece}
use Rattle.spl_message.specs.declared.span.Span.{Span}
use Rattle.spl_message.specs.History.{History}
use Rattle.spl_message.specs.Rule.{Rule}
use Rattle.spl_port.specs.Counts.{Counts}
use Rattle.spl_branch.specs.Branch.{Branch}
use Rattle.spl_script.specs.declared.lines.Deed.TheVariants.{Scan}
use Rattle.spl_desk.specs.Calls.{NeverFell}
use Rattle.spl_desk.specs.Holder.{Holder}
use Rattle.spl_desk.specs.Turn.{Turn}
use Rattle.spl_range.specs.Pieces.{IsLeft}
use Rattle.spl_report.specs.declared.report.Row.{Row}
use Rattle.spl_run.specs.Legal.{AreCut, AreLinked, IfPairs, IsStoppedRow, piece_from}
use Rattle.spl_run.specs.Run.{AreGoing, Breaks, Does, Logs, Runs, Stops}
use Rattle.spl_run.specs.Status.{cause_of}
use Rattle.spl_run.specs.Turns.{counted}
use Rattle.spl_run.proofs.Going.{grown, is_stopped, row_going, row_stops}
use Rattle.spl_run.proofs.Runs.{stopped_longer}

-- ---- ends

same_bytes : (a b : List ℕ) (same : Bool) → bytes_eq a b ≡ same → (a ≡ b) ⊎ (a ≢ b)
same_bytes a b true is = inl ((bytes_decides a b).0 is)
same_bytes a b false is = inr (λ e. let yes : bytes_eq a b ≡ true = (bytes_decides a b).1 e in absurd (cc (is, yes)))

some_same : (a b : List ℕ) → (a ≡ b) ⊎ (a ≢ b) → (Some a ≡ Some b) ⊎ (Some a ≢ Some b)
some_same a b (inl e) = inl (ap Some e)
some_same a b (inr not) = inr (λ e. not (cc))

-- two ends are the same, or they are not
same_end : (a b : Option (List ℕ)) → (a ≡ b) ⊎ (a ≢ b)
same_end None None = inl refl
same_end None (Some b) = inr (λ e. absurd (cc))
same_end (Some a) None = inr (λ e. absurd (cc))
same_end (Some a) (Some b) = some_same a b (same_bytes a b (bytes_eq a b) refl)

-- what holds of the end of a piece may be said in other words
if_pairs : (answer : Answer) (P Q : Option (List ℕ) → Type 0) → ((reached : Option (List ℕ)) → P reached → Q reached) → IfPairs answer P → IfPairs answer Q
if_pairs (Pairs end pairs) P Q f h = f end h
if_pairs Done P Q f h = absurd h
if_pairs Missing P Q f h = absurd h
if_pairs (Value value) P Q f h = absurd h
if_pairs (Stopped cause) P Q f h = absurd h

either : {A B C : Type 0} → (A → C) → (B → C) → A ⊎ B → C
either f g (inl a) = f a
either f g (inr b) = g b

by_end : (answer : Answer) (Last More Goal : Option (List ℕ) → Type 0) → ((reached : Option (List ℕ)) → Last reached → Goal reached) → ((reached : Option (List ℕ)) → More reached → Goal reached) → IfPairs answer (λ reached. Last reached ⊎ More reached) → IfPairs answer Goal
by_end answer Last More Goal last more h = if_pairs answer (λ reached. Last reached ⊎ More reached) Goal (λ reached. either (last reached) (more reached)) h

going_pairs : (answer : Answer) (P : Option (List ℕ) → Type 0) → IfPairs answer P → cause_of answer ≡ None
going_pairs (Pairs end pairs) P h = refl
going_pairs Done P h = absurd h
going_pairs Missing P h = absurd h
going_pairs (Value value) P h = absurd h
going_pairs (Stopped cause) P h = absurd h

none_is_some : {A : Type 0} (x : A) → None ≡ Some x → ⊥
none_is_some x is = cc

same_span : (left span : Span) → Some left ≡ Some span → left ≡ span
same_span left span is = cc

-- ---- the way of a scan

-- The rows so far of a scan that ends here, from this start on, and what is left behind them: pieces that link up, and then what starts
-- where the last one ended, or nothing where that is the end.
abbrev pub OnWay : Option (List ℕ) → Option (List ℕ) → Option Span → List Row → Type 0
OnWay end start left [] = left ≡ Some (record { from = start; to = end })
OnWay end start left (row ∷ rows) =
    (row.call ≡ piece_from end start)
    × IfPairs row.answer (λ reached. ((reached ≡ end) × (rows ≡ []) × (left ≡ None)) ⊎ ((reached ≢ end) × OnWay end reached left rows))

-- where nothing is left, the scan is done
pub way_done : (end start : Option (List ℕ)) (rows : List Row) → OnWay end start None rows → AreLinked end start rows
way_done end start [] way = absurd (none_is_some _ way)
way_done end start (row ∷ rows) way = (way.0, by_end row.answer _ _ _ (λ reached last. inl (last.0, last.1)) (λ reached more. inr (more.0, way_done end reached rows more.1)) way.1)

module _ (end : Option (List ℕ)) (left : Span) where
  -- where something is left, the rows are those of a scan that was cut
  pub way_cut : (start : Option (List ℕ)) (rows : List Row) → OnWay end start (Some left) rows → AreCut end start rows
  way_cut start [] way = tt
  way_cut start (row ∷ rows) way = inr (way.0, by_end row.answer _ _ _ (λ reached last. absurd (none_is_some _ (sym last.2))) (λ reached more. (more.0, way_cut reached rows more.1)) way.1)

  -- and so with the row of the next piece, which was stopped
  pub way_stopped : (start : Option (List ℕ)) (rows : List Row) (row : Row) → OnWay end start (Some left) rows → IsStoppedRow (Piece left) row → AreCut end start (rows ++ row ∷ [])
  way_stopped start [] row way stopped = inl (refl, subst (λ (s : Span). IsStoppedRow (Piece s) row) (same_span left _ way) stopped)
  way_stopped start (first ∷ rows) row way stopped =
      inr (way.0, by_end first.answer _ _ _ (λ reached last. absurd (none_is_some _ (sym last.2))) (λ reached more. (more.0, way_stopped reached rows row more.1 stopped)) way.1)

  -- one piece more
  pub way_more : (start : Option (List ℕ)) (rows : List Row) (row : Row) (behind : Option Span) → OnWay end start (Some left) rows → row.call ≡ Piece left → IfPairs row.answer (λ reached. IsLeft left reached behind) → OnWay end start behind (rows ++ row ∷ [])
  way_more start [] row behind way call pairs = (call ∙ ap Piece is, if_pairs row.answer _ _ (λ reached. at reached (same_end reached end)) pairs)
    where
      is : left ≡ record { from = start; to = end }
      is = same_span left _ way

      at : (reached : Option (List ℕ)) → (reached ≡ end) ⊎ (reached ≢ end) → IsLeft left reached behind → ((reached ≡ end) × (let none : List Row = [] in none ≡ none) × (behind ≡ None)) ⊎ ((reached ≢ end) × (behind ≡ Some (record { from = reached; to = end })))
      at reached (inl last) h = inl (last, refl, h.last (last ∙ sym (ap (λ (s : Span). s.to) is)))
      at reached (inr more) h = inr (more, h.more (λ e. more (e ∙ ap (λ (s : Span). s.to) is)) ∙ ap (λ (s : Span). Some (record { from = reached; to = s.to })) is)
  way_more start (first ∷ rows) row behind way call pairs =
      (way.0, by_end first.answer _ _ _ (λ reached last. absurd (none_is_some _ (sym last.2))) (λ reached more. inr (more.0, way_more reached rows row behind more.1 call pairs)) way.1)

-- ---- a piece over a desk

-- behind the rows at which a scan of the span began stand those of its pieces so far
pub record IsScanned (span : Span) (start : List Row) (left : Option Span) (rows : List Row) : Type 0 where
  pub front : List Row
  pub are : rows ≡ start ++ front
  pub way : OnWay span.to span.from left front

module _ (rule : Rule) (tells : Bool) (holder : Holder) (history : History) (before after : Counts) (steps : ℕ) (start old new : List Row) (span left : Span) (behind : Option Span) (caller : ℕ) (turns : List (Turn Branch)) (seen : History)
    (known : history ≡ counted old) (first : caller ≡ 0) (so_far : AreGoing rule tells old) (scanned : IsScanned span start (Some left) old) where
  abbrev Is : Answer → Type 0
  Is answer = IfPairs answer (λ reached. IsLeft left reached behind)

  module _ (logs : Logs tells holder history before after steps old new caller (Piece left) Is (Ok tt) turns seen) where
    pub piece_seen : holder.actor ≡ 0 → seen ≡ counted new
    piece_seen actor = grown rule tells holder history before after steps old new caller (Piece left) turns seen logs.0 logs.1 known first actor

    pub piece_going : holder.rule ≡ rule → AreGoing rule tells new
    piece_going same = row_going rule tells holder history before after steps old new caller (Piece left) turns seen logs.0 logs.1 known first so_far same (going_pairs logs.0.answer _ logs.2)

    pub piece_scanned : IsScanned span start behind new
    piece_scanned = record {
      front = scanned.front ++ logs.0 ∷ [];
      are = logs.1.rows ∙ ap (λ (rs : List Row). rs ++ logs.0 ∷ []) scanned.are ∙ append_assoc start scanned.front (logs.0 ∷ []);
      way = way_more span.to left span.from scanned.front logs.0 behind scanned.way logs.1.call logs.2;
    }

  -- a piece at which the caller ends early
  pub piece_breaks : (cause : Cause) → holder.actor ≡ 0 → Logs tells holder history before after steps old new caller (Piece left) Is (Err cause) turns seen → Breaks rule tells before after steps start new (Scan span) cause turns seen
  piece_breaks cause actor (inl none) = record {
    front = scanned.front;
    tail = [];
    rows = none.0 ∙ scanned.are ∙ sym (append-nil (start ++ scanned.front));
    cut = subst (AreCut span.to span.from) (sym (append-nil scanned.front)) (way_cut span.to left span.from scanned.front scanned.way);
    going = subst (AreGoing rule tells) scanned.are so_far;
    last = inl (refl, none.1);
    seen = none.2 ∙ known ∙ ap counted (sym none.0);
  }
  piece_breaks cause actor (inr one) =
      let row : Row = one.0 in
      let stops = row_stops rule tells holder history before after steps old new caller (Piece left) turns seen row one.1 known first so_far cause one.2 in
      record {
        front = scanned.front;
        tail = row ∷ [];
        rows = one.1.rows ∙ ap (λ (rs : List Row). rs ++ row ∷ []) scanned.are;
        cut = way_stopped span.to left span.from scanned.front row scanned.way (record { is = one.1.call; stopped = is_stopped row.answer cause one.2; place = stops.0 });
        going = subst (AreGoing rule tells) scanned.are so_far;
        last = inr (row, refl, subst (λ (rs : List Row). Stops tells before after steps (length rs) turns row cause) scanned.are stops.1);
        seen = grown rule tells holder history before after steps old new caller (Piece left) turns seen row one.1 known first actor;
      }

-- where nothing is left, the scan's line is done
pub scan_does : (rule : Rule) (tells : Bool) (before after : Counts) (steps : ℕ) (start new : List Row) (span : Span) (left : Option Span) (seen : History) → left ≡ None → IsScanned span start left new → AreGoing rule tells new → seen ≡ counted new → Does rule tells before after steps start new (Scan span) seen
scan_does rule tells before after steps start new span left seen none scanned going is = record {
  chain = scanned.front;
  rows = scanned.are;
  is = way_done span.to span.from scanned.front (subst (λ (l : Option Span). OnWay span.to span.from l scanned.front) none scanned.way);
  going = going;
  seen = is;
}

-- what a line leaves that ends with this cause
pub breaks_runs : (rule : Rule) (tells : Bool) (before after : Counts) (steps : ℕ) (start new : List Row) (span : Span) (cause : Cause) (result : Result (Unit {0}) Cause) (turns : List (Turn Branch)) (seen : History) → IsErrAnd result (λ c. c ≡ cause)
    → Breaks rule tells before after steps start new (Scan span) cause turns seen → Runs rule tells before after steps start new (Scan span) result turns seen
breaks_runs rule tells before after steps start new span cause (Ok _) turns seen is breaks = absurd is
breaks_runs rule tells before after steps start new span cause (Err other) turns seen is breaks = subst (λ c. Breaks rule tells before after steps start new (Scan span) c turns seen) (sym is) breaks

-- an end in the later turns of a line is one in all of them
pub breaks_longer : (rule : Rule) (tells : Bool) (before mid after : Counts) (steps : ℕ) (start new : List Row) (span : Span) (cause : Cause) (earlier turns : List (Turn Branch)) (seen : History) → NeverFell before mid
    → Breaks rule tells mid after steps start new (Scan span) cause turns seen → Breaks rule tells before after steps start new (Scan span) cause (earlier ++ turns) seen
breaks_longer rule tells before mid after steps start new span cause earlier turns seen fell breaks = record {
  front = breaks.front;
  tail = breaks.tail;
  rows = breaks.rows;
  cut = breaks.cut;
  going = breaks.going;
  last = by breaks.last;
  seen = breaks.seen;
}
  where
    by : ((breaks.tail ≡ []) × (cause ≡ Memory)) ⊎ ((row : Row) × (breaks.tail ≡ row ∷ []) × Stops tells mid after steps (length (start ++ breaks.front)) turns row cause)
        → ((breaks.tail ≡ []) × (cause ≡ Memory)) ⊎ ((row : Row) × (breaks.tail ≡ row ∷ []) × Stops tells before after steps (length (start ++ breaks.front)) (earlier ++ turns) row cause)
    by (inl none) = inl none
    by (inr one) =
        let stops : Stops tells mid after steps (length (start ++ breaks.front)) turns one.0 cause = one.2 in
        inr (one.0, one.1, record { caller = stops.caller; next = stops.next; stopped = stops.stopped; may = stops.may; why = stopped_longer tells before mid after steps earlier turns fell cause stops.why })
