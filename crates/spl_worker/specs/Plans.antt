-- What a worker may do about a node, by what it saw of it.
use Rattle.std.specs.Prelude.{◌≡◌, ◌≢◌, ◌⊎◌, ℕ, ◌<◌, ◌≤◌, nat_le, if◌then◌else◌, List, All, Contains, Option, Some, None, IsSome, IfSome, slice_get}
use Rattle.spl_node.specs.declared.pivot.Pivot.{Pivot}
use Rattle.spl_state.specs.declared.view.BundleView.{BundleView}
use Rattle.spl_state.specs.declared.view.View.{View}
use Rattle.spl_desk.specs.Holder.{Holder}
use Rattle.spl_job.specs.Holding.{told_by}
use Rattle.spl_worker.specs.declared.plan.Plan.{Plan}
use Rattle.spl_worker.specs.declared.plan.Plan.TheVariants.{Raise, Merge, Pass}
use Rattle.spl_worker.specs.declared.plan.Way.{Way}
use Rattle.spl_worker.specs.declared.run.Run.{Run}
use Rattle.spl_worker.specs.Wide.{newest}

-- one of the parts leads to the child, and this is the first bundle that is live for it
abbrev pub LeadsTo : List Pivot → Way → Type 0
LeadsTo pivots way = (pivot : Pivot) × Contains pivots pivot × (pivot.child ≡ Some way.child) × (pivot.mark ≡ way.mark)

-- the way whose bundles have waited longest, of the one found before and that of the pivot
abbrev pub nearer_way : Option Way → ℕ → ℕ → Way
nearer_way None child mark = record { child = child; mark = mark }
nearer_way (Some way) child mark = if nat_le way.mark mark then way else (record { child = child; mark = mark })

abbrev pub nearer_to : Option Way → Option ℕ → ℕ → Option Way
nearer_to found None mark = found
nearer_to found (Some child) mark = Some (nearer_way found child mark)

abbrev pub nearer : Option Way → Pivot → Option Way
nearer found pivot = nearer_to found pivot.child pivot.mark

-- of the parts that lead to a child it is one whose bundles have waited longest; there is none where no part leads to a child
pub record IsLeast (pivots : List Pivot) (found : Option Way) : Type 0 where
  pub leads : IfSome found (LeadsTo pivots)
  pub least : IfSome found (λ way. All (λ (pivot : Pivot). IsSome pivot.child → way.mark ≤ pivot.mark) pivots)
  pub none : found ≡ None → All (λ (pivot : Pivot). pivot.child ≡ None) pivots

-- the run goes from the first bundle of the node to the last one
abbrev pub IsWhole : View → Run → Type 0
IsWhole view run =
    IfSome (slice_get view.bundles 0) (λ (bundle : BundleView). run.first ≡ bundle.number)
    × IfSome (newest view.bundles) (λ (bundle : BundleView). run.last ≡ bundle.number)

-- bundles pass to the child that has waited longest; all bundles of a node that leads nowhere are merged
abbrev pub IsPlanFor : View → Plan → Type 0
IsPlanFor view Raise = IsSome view.split
IsPlanFor view (Merge run) = All (λ (pivot : Pivot). pivot.child ≡ None) view.pivots × IsWhole view run
IsPlanFor view (Pass way) = IsLeast view.pivots (Some way)

-- the node is the root, or one that the actor was told of
abbrev pub IsNamed : Holder → ℕ → Type 0
IsNamed holder node = (node ≡ 0) ⊎ (node < told_by holder)

-- the actor was told of the node and of the child, which is another one
pub record IsWay (holder : Holder) (node : ℕ) (way : Way) : Type 0 where
  pub here : node < told_by holder
  pub child : way.child < told_by holder
  pub apart : node ≢ way.child

-- and so of each node that the plan needs
abbrev pub IsPlanned : Holder → ℕ → Plan → Type 0
IsPlanned holder node Raise = Unit {0}
IsPlanned holder node (Merge run) = Unit {0}
IsPlanned holder node (Pass way) = IsWay holder node way
