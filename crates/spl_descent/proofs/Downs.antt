-- What a descent that goes on answers, what it makes of the state, and what its sight says.
use Rattle.std.proofs.Common.{◌≡◌, ℕ, suc, ◌-◌, ◌<◌, Bool, true, false, nat_eq, if◌then◌else◌, List, Option, Some, None, map, set, refl, sym, ap, ap₂, subst, ◌∙◌, arith}
use Rattle.std.specs.Prelude.{IfSome}
use Rattle.std.proofs.lemmas.Bool.Decides.{nat_tests}
use Rattle.spl_base.specs.declared.TheConstants.{ACTORS}
use Rattle.spl_message.specs.Rule.{Rule}
use Rattle.spl_message.specs.Table.{Table}
use Rattle.spl_holds.specs.declared.grip.Grip.{Grip}
use Rattle.spl_holds.specs.declared.grip.Grip.TheVariants.{Free, Read}
use Rattle.spl_holds.specs.Latch.{writer_of}
use Rattle.spl_holds.specs.Holds.{grips_at, with_grip}
use Rattle.spl_node.specs.Node.{pivot_at}
use Rattle.spl_trunk.specs.Trunk.{node_at}
use Rattle.spl_state.specs.declared.descent.Descent.{Descent}
use Rattle.spl_state.specs.declared.actor.Actor.{Actor}
use Rattle.spl_state.specs.declared.reply.Reply.{Reply}
use Rattle.spl_state.specs.declared.reply.Reply.TheVariants.{Again, Leaf}
use Rattle.spl_state.specs.Actor.{actor_in}
use Rattle.spl_state.specs.Actors.{pivot_from}
use Rattle.spl_state.specs.Sound.{IsSound}
use Rattle.spl_state.specs.Whole.{BranchData, Whole, branches}
use Rattle.spl_descent.specs.Descents.{arrived, child_of, descent_at, live_under, move_refusal, moved_down, moved_from, next_descent, refusal_from, unless_written}
use Rattle.spl_descent.specs.Sights.{AreBranches, Answers, IsRight, LeadsRight}
use Rattle.spl_descent.proofs.Ends.{descending}
use Rattle.spl_descent.proofs.Arrivals.{child_same, child_is_lower, child_lies, is_high}
use Rattle.spl_descent.proofs.Named.{shared_tables}
use Rattle.spl_descent.proofs.Places.{in_under}
use Rattle.spl_descent.proofs.Rights.{right_at, leads_at}

zero_is : (n : ℕ) → n ≡ 0 → nat_eq n 0 ≡ true
zero_is n is = grind (arith, nat_tests)

high_is : (n : ℕ) → 0 < n → nat_eq n 0 ≡ false
high_is n is = grind (arith, nat_tests)

-- what holds of the actor's descent
pub if_descent : (old before : Whole) (actor : ℕ) (descent : Descent) (P : Whole → Descent → Type 0) → old ≡ before → (actor_in old.actors actor).descent ≡ Some descent → P old descent → IfSome (actor_in before.actors actor).descent (P before)
if_descent old before actor descent P is_old has holds =
    subst (λ (w : Whole). IfSome (actor_in w.actors actor).descent (P w)) is_old (subst (λ (o : Option Descent). IfSome o (P old)) (sym has) holds)

module _ (B : Type 0) (old before : Whole) (is_old : old ≡ before) (actor : ℕ) (descent : Descent) (has : (actor_in old.actors actor).descent ≡ Some descent) where
  abbrev held_by : Option (Reply B)
  held_by = unless_written (child_of old descent) (writer_of (grips_at old.grips (child_of old descent)))

  answers_by : (refusal : Option (Reply B)) (answer : Reply B) → move_refusal {B = B} old actor ≡ refusal → Answers refusal answer → Answers (move_refusal {B = B} before actor) answer
  answers_by refusal answer is answers =
      subst (λ (w : Whole). Answers (move_refusal {B = B} w actor) answer) is_old (subst (λ (r : Option (Reply B)). Answers r answer) (sym is) answers)

  pub leaf_answers : (node_at old.nodes descent.node).height ≡ 0 → Answers {B = B} (move_refusal {B = B} before actor) Leaf
  leaf_answers low =
      answers_by (Some Leaf) Leaf (ap (refusal_from {B = B} old actor) has ∙ ap (λ (b : Bool). if b then Some Leaf else held_by) (zero_is (node_at old.nodes descent.node).height low)) refl

  refused_above : (held : Option ℕ) (child : ℕ) → 0 < (node_at old.nodes descent.node).height → child ≡ child_of old descent → held ≡ writer_of (grips_at old.grips child) → move_refusal {B = B} old actor ≡ unless_written {B = B} child held
  refused_above held child high is_child is_held =
      ap (refusal_from {B = B} old actor) has
      ∙ ap (λ (b : Bool). if b then Some Leaf else held_by) (high_is (node_at old.nodes descent.node).height high)
      ∙ sym (ap (λ (c : ℕ). unless_written {B = B} c (writer_of (grips_at old.grips c))) is_child)
      ∙ ap (unless_written {B = B} child) (sym is_held)

  pub again_answers : (held : Option ℕ) (child by : ℕ) → 0 < (node_at old.nodes descent.node).height → child ≡ child_of old descent → held ≡ writer_of (grips_at old.grips child) → held ≡ Some by → Answers {B = B} (move_refusal {B = B} before actor) (Again child by)
  again_answers held child by high is_child is_held is_by =
      answers_by (Some (Again child by)) (Again child by) (refused_above held child high is_child is_held ∙ ap (unless_written {B = B} child) is_by) refl

  pub sight_answers : (held : Option ℕ) (child : ℕ) (answer : Reply B) → 0 < (node_at old.nodes descent.node).height → child ≡ child_of old descent → held ≡ writer_of (grips_at old.grips child) → held ≡ None → Answers None answer → Answers (move_refusal {B = B} before actor) answer
  sight_answers held child answer high is_child is_held is_none answers =
      answers_by None answer (refused_above held child high is_child is_held ∙ ap (unless_written {B = B} child) is_none) answers

module _ (old : Whole) (actor : ℕ) (descent : Descent) (sound : IsSound old) (known : actor < ACTORS) (has : (actor_in old.actors actor).descent ≡ Some descent) (child : ℕ) (there : (pivot_at (node_at old.nodes descent.node).pivots (pivot_from (node_at old.nodes descent.node).pivots descent.span.from)).child ≡ Some child) where
  same_child : child ≡ child_of old descent
  same_child = child_same old actor descent sound known has child there

  next_is : descent_at old descent.place descent.span child ≡ next_descent old descent
  next_is = ap (λ (c : ℕ). descent_at old descent.place descent.span c) same_child

  pub moved_where : (grips : List (List Grip)) (actors : List Actor) → grips ≡ with_grip (with_grip old.grips actor child Read) actor descent.node Free → actors ≡ set old.actors actor (arrived (actor_in old.actors actor) (descent_at old descent.place descent.span child)) → record old { grips = grips; actors = actors } ≡ moved_down old actor
  moved_where grips actors are_left are_set =
      ap₂ (λ (g : List (List Grip)) (a : List Actor). record old { grips = g; actors = a }) are_left are_set
      ∙ ap (λ (c : ℕ). record old { grips = with_grip (with_grip old.grips actor c Read) actor descent.node Free; actors = set old.actors actor (arrived (actor_in old.actors actor) (descent_at old descent.place descent.span c)) }) same_child
      ∙ ap (moved_from old actor) (sym has)

  -- the parent has what its live tables make of what the child has
  pub leads_next : (rule : Rule) → LeadsRight rule old descent (next_descent old descent)
  leads_next rule key inside =
      let way = descending old actor descent sound known has in
      let high = is_high old actor descent sound known has child there in
      let height = (node_at old.nodes descent.node).height in
      let next : height ≡ suc (height - 1) = omega arith in
      leads_at rule old sound descent way.exists way.lies (height - 1) next key (in_under (node_at old.nodes (child_of old descent)) descent.span key inside)

  -- and the branches of the sight tell what the child has
  module _ {B : Type 0} (number_of : B → ℕ) (table_of : B → Table) (data_of : B → BranchData) (same : (b : B) → (data_of b).table ≡ table_of b) where
    pub right_next : (shared : List B) (rule : Rule) → AreBranches number_of data_of (branches old) (live_under (node_at old.nodes child) (descent_at old descent.place descent.span child).span) shared → IsRight rule old (next_descent old descent) (map table_of shared)
    right_next shared rule are =
        let lower = descent_at old descent.place descent.span child in
        let exists = (child_is_lower old actor descent sound known has child there).exists in
        let right = right_at rule old sound lower exists (child_lies old actor descent sound known has child there) (map table_of shared)
        (shared_tables number_of table_of data_of same (branches old) (live_under (node_at old.nodes child) lower.span) shared are) in
        subst (λ (d : Descent). IsRight rule old d (map table_of shared)) next_is right
