-- A node that has another one's bundles and marks, and no keys but that one's, holds the runs that it holds.
use Rattle.std.proofs.Common.{◌≡◌, ℕ, ◌+◌, ◌≤◌, List, Option, None, Some, refl, sym, ap, subst, ◌∙◌}
use Rattle.spl_message.specs.Span.{InSpan}
use Rattle.spl_bundle.specs.Numbered.{Numbered, bundle_at}
use Rattle.spl_node.specs.Node.{NodeData}
use Rattle.spl_node.specs.Parts.{branches_from, IsUncut}
use Rattle.spl_state.specs.declared.job.Job.{Job}
use Rattle.spl_state.specs.declared.job.Job.TheVariants.{Pack, Merge}
use Rattle.spl_state.specs.declared.job.Run.{Run}
use Rattle.spl_state.specs.Runs.{Stands, HoldsRun, IsInRun}

pub record Inherits (was now : NodeData) : Type 0 where
  pub lists : now.lists ≡ was.lists
  pub height : now.height ≡ was.height
  pub within : (key : List ℕ) → InSpan now.range key → InSpan was.range key
  pub uncut : (first last : ℕ) → IsUncut was first last → IsUncut now first last

pub inherits_itself : (node : NodeData) → Inherits node node
inherits_itself node = record {
  lists = refl;
  height = refl;
  within = λ key inside. inside;
  uncut = λ first
      last uncut. uncut;
}

module _ (was now : NodeData) (inherits : Inherits was now) where
  pub holds_still : (who : ℕ) (run : Run) → HoldsRun was who run → HoldsRun now who run
  holds_still who run holds = record {
    stands = subst (λ (q : Numbered). Stands q run.last) (sym inherits.lists) holds.stands;
    marks = subst (λ (q : Numbered). (number : ℕ) → run.first ≤ number → number ≤ run.last → q.first ≤ number
        → (bundle_at q number).owner ≡ Some who) (sym inherits.lists) holds.marks;
    inputs = ap (λ (q : Numbered). branches_from q run.first (run.last + 1)) inherits.lists ∙ holds.inputs;
    whole = inherits.uncut run.first run.last holds.whole;
    within = λ key inside. holds.within key (inherits.within key inside);
    leaf = λ is. inherits.height ∙ holds.leaf is;
    oldest = λ is. subst (λ (q : Numbered). run.first ≤ q.first) (sym inherits.lists) (holds.oldest is);
  }

  pub in_run_still : (bundle who : ℕ) (job : Option Job) → IsInRun was bundle who job
      → IsInRun now bundle who job
  in_run_still bundle who None is = is
  in_run_still bundle who (Some (Pack n table)) is = is
  in_run_still bundle who (Some (Merge n run)) is = (is.0, is.1, holds_still who run is.2)
