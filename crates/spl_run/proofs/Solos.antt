-- From the turns of a run to what its status shows.
use Rattle.std.proofs.Common.{◌≡◌, ℕ, ◌≤◌, ◌⊎◌, Bool, List, [], inl, inr, Some, refl, subst, sym, ap, arith}
use Rattle.spl_message.specs.declared.answer.Cause.{Cause}
use Rattle.spl_message.specs.declared.answer.Cause.TheVariants.{Fault, Damaged, Full, Nodes, Spent, Memory}
use Rattle.spl_message.specs.Rule.{Rule}
use Rattle.spl_port.specs.Counts.{Counts}
use Rattle.spl_core.specs.Standing.{StandsFor}
use Rattle.spl_state.specs.declared.counters.Counters.{Counters}
use Rattle.spl_state.specs.Sound.{IsEmpty}
use Rattle.spl_state.specs.Whole.{Whole}
use Rattle.spl_report.specs.declared.report.Row.{Row}
use Rattle.spl_alone.specs.Alone.{only_holder}
use Rattle.spl_desk.specs.Branches.{branch_kind}
use Rattle.spl_desk.specs.Walk.{Walks, Went}
use Rattle.spl_session.proofs.Fresh.{empty_nothing}
use Rattle.spl_run.specs.Solo.{HasCause, HasRun, IsFresh}
use Rattle.spl_run.specs.Status.{status_of_cause}
use Rattle.spl_run.specs.Turns.{EndsFor, IsStoppedBy, counted}

-- a status below 5 and 7 need none
pub no_cause : (rule : Rule) (extents : ℕ) (tells : Bool) (before after : Counts) (status : ℕ) (Are : List Row → Type 0) → (status ≤ 4) ⊎ (status ≡ 7) → HasCause rule extents tells before after status Are
no_cause rule extents tells before after status Are (inl low) = record {
  device = λ is. absurd (omega (arith, low, is));
  full = λ is. absurd (omega (arith, low, is));
  damaged = λ is. absurd (omega (arith, low, is));
  nodes = λ is. absurd (omega (arith, low, is));
  spent = λ is. absurd (omega (arith, low, is));
}
no_cause rule extents tells before after status Are (inr seven) = record {
  device = λ is. absurd (omega (arith, seven, is));
  full = λ is. absurd (omega (arith, seven, is));
  damaged = λ is. absurd (omega (arith, seven, is));
  nodes = λ is. absurd (omega (arith, seven, is));
  spent = λ is. absurd (omega (arith, seven, is));
}

module _ (rule : Rule) (extents : ℕ) (tells : Bool) (start : Whole) (empty : IsEmpty extents 1 start) (before after : Counts) (end : Whole) (rows : List Row) where
  pub cause_of_run : (status : ℕ) → HasRun rule tells start before after end rows status → HasCause rule extents tells before after status (λ rs. rs ≡ rows)
  cause_of_run status run = by run.ends
    where
      for : (cause : Cause) → IsStoppedBy tells before after end.counters.steps run.turns cause → HasCause rule extents tells before after (status_of_cause (Some cause)) (λ rs. rs ≡ rows)
      for Fault why = record { device = λ is. why; full = λ is. absurd (omega (arith, is)); damaged = λ is. absurd (omega (arith, is)); nodes = λ is. absurd (omega (arith, is)); spent = λ is. absurd (omega (arith, is)) }
      for Full why = record {
        device = λ is. absurd (omega (arith, is));
        full = λ is. (rows, refl, record { start = start; empty = empty; turns = run.turns; end = end; walks = run.walks; says = why });
        damaged = λ is. absurd (omega (arith, is));
        nodes = λ is. absurd (omega (arith, is));
        spent = λ is. absurd (omega (arith, is));
      }
      for Memory why = no_cause rule extents tells before after 7 (λ rs. rs ≡ rows) (inr refl)
      for Damaged why = record { device = λ is. absurd (omega (arith, is)); full = λ is. absurd (omega (arith, is)); damaged = λ is. why; nodes = λ is. absurd (omega (arith, is)); spent = λ is. absurd (omega (arith, is)) }
      for Nodes why = record {
        device = λ is. absurd (omega (arith, is));
        full = λ is. absurd (omega (arith, is));
        damaged = λ is. absurd (omega (arith, is));
        nodes = λ is. (rows, refl, record { start = start; empty = empty; turns = run.turns; end = end; walks = run.walks; says = why });
        spent = λ is. absurd (omega (arith, is));
      }
      for Spent why = record {
        device = λ is. absurd (omega (arith, is));
        full = λ is. absurd (omega (arith, is));
        damaged = λ is. absurd (omega (arith, is));
        nodes = λ is. absurd (omega (arith, is));
        spent = λ is. (rows, refl, record { start = start; empty = empty; turns = run.turns; end = end; walks = run.walks; says = why });
      }

      by : EndsFor tells before after end.counters.steps run.turns rows status → HasCause rule extents tells before after status (λ rs. rs ≡ rows)
      by (inl all) = at all.1
        where
          at : (status ≡ 0) ⊎ (status ≡ 7) → HasCause rule extents tells before after status (λ rs. rs ≡ rows)
          at (inl zero) = no_cause rule extents tells before after status (λ rs. rs ≡ rows) (inl (omega (arith, zero)))
          at (inr seven) = no_cause rule extents tells before after status (λ rs. rs ≡ rows) (inr seven)
      by (inr stopped) = subst (λ s. HasCause rule extents tells before after s (λ rs. rs ≡ rows)) (sym stopped.2) (for stopped.0 stopped.3)

-- an empty core is fresh
pub is_fresh : (rule : Rule) (tells : Bool) (extents callers : ℕ) (whole : Whole) → IsEmpty extents callers whole → StandsFor rule tells whole [] → IsFresh rule tells whole
is_fresh rule tells extents callers whole empty stands = record {
  stands = stands;
  nothing = empty_nothing extents callers whole empty;
  steps = let none : whole.counters.steps ≡ 0 = ap (λ (c : Counters). c.steps) empty.counters in omega (arith, none);
}

-- what the turns of the only caller of a core show of it, where its law's rule was and is the same
pub has_run : (rule first last : Rule) (tells : Bool) (start begun : Whole) (before after later : Counts) (left end : Whole) (rows : List Row) (status : ℕ) → first ≡ rule → last ≡ rule → begun ≡ start → end ≡ left → later ≡ after →
    Went (branch_kind tells) (only_holder first begun) [] (only_holder last left) (λ history. StandsFor last tells left history) (λ turns seen. (seen ≡ counted rows) × EndsFor tells before after left.counters.steps turns rows status) →
    HasRun rule tells start before later end rows status
has_run rule first last tells start begun before after later left end rows status from to begins ends counts went =
    rw (← begins, ends, counts) (record {
      turns = went.turns;
      walks = subst (λ seen. Walks (branch_kind tells) (only_holder rule begun) [] went.turns left seen) went.says.0 walks;
      stands = subst (λ seen. StandsFor rule tells left seen) went.says.0 (subst (λ r. StandsFor r tells left went.seen) to went.saw);
      ends = went.says.1;
    })
  where
    walks : Walks (branch_kind tells) (only_holder rule begun) [] went.turns left went.seen
    walks = subst (λ (r : Rule). Walks (branch_kind tells) (only_holder r begun) [] went.turns left went.seen) from went.walks
