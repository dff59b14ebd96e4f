-- What the view of a node says of its children, and of its split key.
use Rattle.std.proofs.Common.{◌≡◌, ◌≢◌, ◌↔◌, ℕ, zero, suc, ◌<◌, ◌≤◌, max, fold, List, [], ◌∷◌, ◌++◌, Option, Some, None, length, refl, sym, ap, subst, ◌∙◌, arith}
use Rattle.std.specs.Prelude.{All, IsSome, IfSome}
use Rattle.std.specs.Option.{option_to_list}
use Rattle.std.proofs.lemmas.List.Elements.{All-from_get_or, All-get_or}
use Rattle.spl_base.specs.declared.TheConstants.{ACTORS}
use Rattle.spl_message.specs.History.{History}
use Rattle.spl_node.specs.declared.pivot.Pivot.{Pivot}
use Rattle.spl_node.specs.Node.{IsNode, NodeData, bare, pivot_at}
use Rattle.spl_node.specs.Steps.{fresh}
use Rattle.spl_trunk.specs.Tree.{IsShaped}
use Rattle.spl_trunk.specs.Trunk.{node_at}
use Rattle.spl_state.specs.declared.reply.Reply.{Reply}
use Rattle.spl_state.specs.declared.reply.Reply.TheVariants as reply
use Rattle.spl_state.specs.declared.view.View.{View}
use Rattle.spl_state.specs.Frame.{refused}
use Rattle.spl_state.specs.Whole.{Whole}
use Rattle.spl_survey.specs.Surveys.{IfView, IsViewOf, OnView, children_of, greatest_named, surveyed}
use Rattle.spl_core.specs.declared.step.Step.TheVariants.{Survey}
use Rattle.spl_core.specs.Steps.{IsSurvey}
use Rattle.spl_desk.specs.Holder.{BranchKind, Holder, IsSameHolder}
use Rattle.spl_desk.specs.Turn.{MadeTurn}
use Rattle.spl_desk.proofs.Walks.{step_made}
use Rattle.spl_job.specs.Holding.{Holding, Holds, IsKnown, told_by}
use Rattle.spl_job.specs.Merging.{HasChildren, NamesChildren, split_in}
use Rattle.spl_job.proofs.Merges.{exists_there, told_now}

fold_grows : (xs : List ℕ) (greatest : ℕ) → greatest ≤ fold max greatest xs
fold_grows [] greatest = omega arith
fold_grows (x ∷ xs) greatest = let later = fold_grows xs (max greatest x) in omega (arith, later)

-- no child is above the greatest that is named
child_below : (pivots : List Pivot) (greatest i child : ℕ) → i < length pivots → (pivot_at pivots i).child ≡ Some child → child ≤ fold max greatest (children_of pivots)
child_below [] greatest i child within is = absurd (omega arith)
child_below (pivot ∷ pivots) greatest zero child within is =
    let later = fold_grows (children_of pivots) (max greatest child) in
    subst (λ (o : Option ℕ). child ≤ fold max greatest (option_to_list o ++ children_of pivots)) (sym is) (omega (arith, later))
child_below (pivot ∷ pivots) greatest (suc i) child within is = by pivot.child (λ other. child_below pivots other i child (omega arith) is)
  where
    by : (o : Option ℕ) → ((other : ℕ) → child ≤ fold max other (children_of pivots)) → child ≤ fold max greatest (option_to_list o ++ children_of pivots)
    by None later = later greatest
    by (Some first) later = later (max greatest first)

module _ (whole : Whole) (node : ℕ) (shaped : IsShaped whole.nodes) (exists : node < length whole.nodes) (view : View) (shown : IsViewOf whole node view) where
  abbrev here : NodeData
  here = node_at whole.nodes node

  here_is : IsNode here
  here_is = All-get_or IsNode whole.nodes node (fresh 0 bare) exists shaped.each

  has_children : HasChildren view
  has_children above =
      let higher : 0 < here.height = subst (λ (n : ℕ). 0 < n) shown.height above in
      subst (λ (pivots : List Pivot). (0 < length pivots) × All (λ (pivot : Pivot). IsSome pivot.child) pivots) (sym shown.pivots) (
        here_is.some,
        All-from_get_or (λ (pivot : Pivot). IsSome pivot.child) here.pivots bare
            (λ i within. (All-get_or (λ (pivot : Pivot). IsSome pivot.child ↔ (0 < here.height)) here.pivots i bare within here_is.children).1 higher),
      )

  module _ (holder : Holder) (told : greatest_named whole node < told_by holder) where
    abbrev IsTold : ℕ → Type 0
    IsTold child = (child < told_by holder) × (child ≢ node)

    abbrev Is : Pivot → Type 0
    Is pivot = IfSome pivot.child IsTold

    told_child : (i : ℕ) → i < length here.pivots → (o : Option ℕ) → (pivot_at here.pivots i).child ≡ o → IfSome o IsTold
    told_child i within None is = tt
    told_child i within (Some child) is =
        let below = child_below here.pivots node i child within is in
        let lower = (shaped.children node i child exists within is).height in
        (omega (arith, below, told), (λ same. let high : (node_at whole.nodes child).height ≡ here.height = ap (λ (n : ℕ). (node_at whole.nodes n).height) same in omega (arith, high, lower)))

    names_children : NamesChildren holder node view
    names_children =
        subst (λ (pivots : List Pivot). All Is pivots) (sym shown.pivots) (All-from_get_or Is here.pivots bare (λ i within. told_child i within (pivot_at here.pivots i).child refl))

module _ {B : Type 0} (kind : BranchKind B) (old new : Holder) (history : History) (answer : Reply B) (Saw : History → Type 0) (same : IsSameHolder old new 1) (node : ℕ) (turn : MadeTurn kind old new history (Survey node) answer Saw) (known : old.actor < ACTORS) (holds : (p : Holding) × Holds old p × IsKnown p node) (view : View) (is : answer ≡ reply.View view) where
  abbrev viewed : Whole
  viewed = refused turn.turn.before

  survey_step : IsSurvey viewed old.actor node answer new.at
  survey_step = step_made kind old new history (Survey node) answer Saw turn

  exists : node < length viewed.nodes
  exists = exists_there kind old new history (Survey node) answer Saw turn node known holds.0 holds.1 holds.2

  shown : IsViewOf viewed node view
  shown = subst (λ (r : Reply B). IfView r (IsViewOf viewed node)) is survey_step.view

  pub survey_inner : HasChildren view
  survey_inner = has_children viewed node turn.legal.sound.shaped exists view shown

  at : new.at ≡ surveyed viewed old.actor node
  at = subst (λ (r : Reply B). OnView r (λ v. new.at ≡ surveyed viewed old.actor node) (new.at ≡ viewed)) is survey_step.state

  -- the view shows where the node is to be split
  pub survey_split : view.split ≡ split_in new.at node
  survey_split = shown.split ∙ sym (ap (λ (w : Whole). split_in w node) at)

  pub survey_children : NamesChildren new node view
  survey_children =
      let greatest = greatest_named viewed node in
      let told = told_now kind old new history (Survey node) answer Saw turn greatest same.actor known at holds.0 holds.1 in
      let now : told_by new ≡ told.0 = told.3.has.told in
      let above : greatest < told.0 = told.2 in
      names_children viewed node turn.legal.sound.shaped exists view shown new (omega (arith, now, above))
