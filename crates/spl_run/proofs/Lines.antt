-- A line of one call.
use Rattle.std.proofs.Common.{◌≡◌, ℕ, Bool, inl, inr, List, [], ◌∷◌, ◌++◌, length, None, refl, ap, ◌∙◌, sym, subst}
use Rattle.std.specs.Prelude.{Result, Ok, Err}
use Rattle.std.proofs.lemmas.List.{append-nil}
use Rattle.spl_message.specs.declared.answer.Answer.{Answer}
use Rattle.spl_message.specs.declared.answer.Cause.{Cause}
use Rattle.spl_message.specs.declared.call.Call.{Call}
use Rattle.spl_message.specs.History.{History}
use Rattle.spl_message.specs.Rule.{Rule}
use Rattle.spl_port.specs.Counts.{Counts}
use Rattle.spl_branch.specs.Branch.{Branch}
use Rattle.spl_script.specs.declared.lines.Deed.TheVariants.{One}
use Rattle.spl_desk.specs.Holder.{Holder}
use Rattle.spl_desk.specs.Turn.{Turn}
use Rattle.spl_report.specs.declared.report.Row.{Row}
use Rattle.spl_run.specs.Run.{AreGoing, Logs, Runs, Stops}
use Rattle.spl_run.specs.Status.{cause_of}
use Rattle.spl_run.specs.Turns.{counted}
use Rattle.spl_run.proofs.Going.{grown, is_stopped, not_stopped, row_going, row_stops}

module _ (rule : Rule) (tells : Bool) (holder : Holder) (history : History) (before after : Counts) (steps : ℕ) (old new : List Row) (caller : ℕ) (made : Call) (turns : List (Turn Branch)) (seen : History)
    (known : history ≡ counted old) (first : caller ≡ 0) (actor : holder.actor ≡ 0) (same : holder.rule ≡ rule) (so_far : AreGoing rule tells old) where
  -- what the call of a line leaves is what the line leaves
  pub call_runs : (result : Result (Unit {0}) Cause) → Logs tells holder history before after steps old new caller made (λ (answer : Answer). cause_of answer ≡ None) result turns seen → Runs rule tells before after steps old new (One made) result turns seen
  call_runs (Ok _) logs = record {
    chain = logs.0 ∷ [];
    rows = logs.1.rows;
    is = (logs.0, refl, logs.1.call, not_stopped logs.0.answer logs.2);
    going = row_going rule tells holder history before after steps old new caller made turns seen logs.0 logs.1 known first so_far same logs.2;
    seen = grown rule tells holder history before after steps old new caller made turns seen logs.0 logs.1 known first actor;
  }
  call_runs (Err cause) (inl none) = record {
    front = [];
    tail = [];
    rows = none.0 ∙ sym (append-nil (old ++ []) ∙ append-nil old);
    cut = inl refl;
    going = subst (AreGoing rule tells) (sym (append-nil old)) so_far;
    last = inl (refl, none.1);
    seen = none.2 ∙ known ∙ ap counted (sym none.0);
  }
  call_runs (Err cause) (inr one) =
      let row : Row = one.0 in
      let stops = row_stops rule tells holder history before after steps old new caller made turns seen row one.1 known first so_far cause one.2 in
      record {
        front = [];
        tail = row ∷ [];
        rows = one.1.rows ∙ ap (λ (rs : List Row). rs ++ row ∷ []) (sym (append-nil old));
        cut = inr (row, refl, record { is = one.1.call; stopped = is_stopped row.answer cause one.2; place = stops.0 });
        going = subst (AreGoing rule tells) (sym (append-nil old)) so_far;
        last = inr (row, refl, subst (λ (rs : List Row). Stops tells before after steps (length rs) turns row cause) (sym (append-nil old)) stops.1);
        seen = grown rule tells holder history before after steps old new caller made turns seen row one.1 known first actor;
      }
