-- The part of a node whose bundles have waited longest.
use Rattle.std.proofs.Common.{◌≡◌, ◌≢◌, ◌⊎◌, ℕ, ◌<◌, ◌≤◌, nat_le, cond, Bool, true, false, List, [], ◌∷◌, ◌++◌, Option, Some, None, inl, inr, refl, sym, ap, subst, ◌∙◌, arith}
use Rattle.std.specs.Prelude.{All, Contains, IsSome, IfSome}
use Rattle.std.proofs.lemmas.Bool.{leb-true, leb-false}
use Rattle.std.proofs.lemmas.List.Elements.{All-contains, All-push, All-weaker, Contains-append_left, Contains-push}
use Rattle.spl_node.specs.declared.pivot.Pivot.{Pivot}
use Rattle.spl_state.specs.declared.view.View.{View}
use Rattle.spl_desk.specs.Holder.{Holder}
use Rattle.spl_job.specs.Holding.{told_by}
use Rattle.spl_job.specs.Merging.{NamesChildren}
use Rattle.spl_worker.specs.Plans.{IsLeast, IsPlanFor, IsPlanned, IsWay, LeadsTo, nearer, nearer_to, nearer_way}
use Rattle.spl_worker.specs.declared.plan.Plan.{Plan}
use Rattle.spl_worker.specs.declared.plan.Plan.TheVariants.{Raise, Merge, Pass}
use Rattle.spl_worker.specs.declared.plan.Way.{Way}

-- the actor was told of the nodes of a plan that was made by a view
pub planned : (holder : Holder) (node : ℕ) (view : View) (plan : Plan) → node < told_by holder → NamesChildren holder node view → IsPlanFor view plan → IsPlanned holder node plan
planned holder node view Raise here names for = tt
planned holder node view (Merge run) here names for = tt
planned holder node view (Pass way) here names for =
    let child : (way.child < told_by holder) × (way.child ≢ node) =
    subst (λ (c : Option ℕ). IfSome c (λ child. (child < told_by holder) × (child ≢ node))) for.leads.2
    (All-contains (λ (pivot : Pivot). IfSome pivot.child (λ child. (child < told_by holder) × (child ≢ node))) view.pivots for.leads.0 names for.leads.1) in
    record { here = here; child = child.0; apart = λ same. child.1 (sym same) }

abbrev Waits : ℕ → Pivot → Type 0
Waits mark pivot = IsSome pivot.child → mark ≤ pivot.mark

abbrev Ends : Pivot → Type 0
Ends pivot = pivot.child ≡ None

no_child : (child : Option ℕ) → child ≡ None → IsSome child → ⊥
no_child None is some = cc
no_child (Some n) is some = cc

still_leads : (pivots more : List Pivot) (found : Option Way) → IfSome found (LeadsTo pivots) → IfSome found (LeadsTo (pivots ++ more))
still_leads pivots more None leads = tt
still_leads pivots more (Some way) leads = (leads.0, Contains-append_left pivots more leads.0 leads.1, leads.2, leads.3)

some_way : (way : Way) → Some way ≡ None → ⊥
some_way way is = cc

module _ (pivots : List Pivot) (pivot : Pivot) where
  -- a part that leads nowhere
  passes_by : (found : Option Way) → Ends pivot → IsLeast pivots found → IsLeast (pivots ++ pivot ∷ []) found
  passes_by None ends is = record {
    leads = tt;
    least = tt;
    none = λ none. All-push Ends pivots pivot (is.none none) ends;
  }
  passes_by (Some way) ends is = record {
    leads = still_leads pivots (pivot ∷ []) (Some way) is.leads;
    least = All-push (Waits way.mark) pivots pivot is.least (λ some. absurd (no_child pivot.child ends some));
    none = λ none. absurd (some_way way none);
  }

  module _ (child : ℕ) (leads : pivot.child ≡ Some child) where
    abbrev new : Way
    new = record { child = child; mark = pivot.mark }

    new_leads : LeadsTo (pivots ++ pivot ∷ []) new
    new_leads = (pivot, Contains-push pivots pivot, leads, refl)

    by_mark : (way : Way) (older : Bool) → nat_le way.mark pivot.mark ≡ older → IsLeast pivots (Some way) → IsLeast (pivots ++ pivot ∷ []) (Some (cond older way new))
    by_mark way true before is = record {
      leads = still_leads pivots (pivot ∷ []) (Some way) is.leads;
      least = All-push (Waits way.mark) pivots pivot is.least (λ some. leb-true way.mark pivot.mark before);
      none = λ none. absurd (some_way way none);
    }
    by_mark way false before is = record {
      leads = new_leads;
      least = All-push (Waits pivot.mark) pivots pivot
          (All-weaker (Waits way.mark) (Waits pivot.mark) (λ other waits some. sooner other (waits some)) pivots is.least)
          (λ some. omega arith);
      none = λ none. absurd (some_way new none);
    }
      where
        sooner : (other : Pivot) → way.mark ≤ other.mark → pivot.mark ≤ other.mark
        sooner other later = let less = leb-false way.mark pivot.mark before in omega (arith, less, later)

    leads_on : (found : Option Way) → IsLeast pivots found → IsLeast (pivots ++ pivot ∷ []) (Some (nearer_way found child pivot.mark))
    leads_on None is = record {
      leads = new_leads;
      least = All-push (Waits pivot.mark) pivots pivot
          (All-weaker Ends (Waits pivot.mark) (λ other ends some. absurd (no_child other.child ends some)) pivots (is.none refl))
          (λ some. omega arith);
      none = λ none. absurd (some_way new none);
    }
    leads_on (Some way) is = by_mark way (nat_le way.mark pivot.mark) refl is

  pub nearer_least : (found : Option Way) → IsLeast pivots found → IsLeast (pivots ++ pivot ∷ []) (nearer found pivot)
  nearer_least found is = by pivot.child refl
    where
      by : (child : Option ℕ) → pivot.child ≡ child → IsLeast (pivots ++ pivot ∷ []) (nearer_to found child pivot.mark)
      by None ends = passes_by found ends is
      by (Some child) leads = leads_on child leads found is
