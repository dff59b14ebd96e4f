-- What the change of one actor, and of one element of a list, leaves.
use Rattle.std.proofs.Common.{◌≡◌, ◌≢◌, ℕ, zero, suc, ◌+◌, ◌<◌, List, [], ◌∷◌, Option, Some, None, length, flat_map, set, slice_get, refl, sym, ap, subst, ◌∙◌, inl, inr, arith}
use Rattle.std.proofs.lemmas.Bool.{cases_eq, cases_lt}
use Rattle.std.proofs.lemmas.List.{get_or-set_same, get_or-set_other, get_or_past}
use Rattle.spl_base.specs.declared.TheConstants.{ACTORS}
use Rattle.spl_node.specs.Node.{NodeData}
use Rattle.spl_trunk.specs.Trunk.{node_at}
use Rattle.spl_trunk.specs.Tree.{times, named}
use Rattle.spl_trunk.proofs.Counts.{times-append, times-replaced}
use Rattle.spl_tables.specs.Memtables.{FrozenData, MemtableData, AreMemtables}
use Rattle.std.proofs.lemmas.Option.{get_or_from_slice_get, slice_get_within}
use Rattle.std.specs.Prelude.{◌⊎◌}
use Rattle.spl_state.specs.declared.actor.Actor.{Actor}
use Rattle.spl_state.specs.declared.job.Job.{Job}
use Rattle.spl_state.specs.Actor.{idle, actor_in}
use Rattle.spl_state.specs.Actors.{IsAtWork, IsWorking}
use Rattle.spl_state.specs.Extents.{named_by, mentioned}
use Rattle.spl_state.specs.Runs.{AreInRuns, IsInRun}
use Rattle.spl_state.specs.Sound.{IsSound}
use Rattle.spl_state.specs.Whole.{Whole, branches}

module _ {A : Type 0} where
  pub slice_get_at : (xs : List A) (i : ℕ) (was now : A) → slice_get xs i ≡ Some was → slice_get (set xs i now) i ≡ Some now
  slice_get_at [] i was now here = cc
  slice_get_at (x ∷ xs) zero was now here = refl
  slice_get_at (x ∷ xs) (suc i) was now here = slice_get_at xs i was now here

  pub slice_get_off : (xs : List A) (i other : ℕ) (now : A) → other ≢ i → slice_get (set xs i now) other ≡ slice_get xs other
  slice_get_off [] i other now apart = refl
  slice_get_off (x ∷ xs) zero zero now apart = absurd (apart refl)
  slice_get_off (x ∷ xs) zero (suc other) now apart = refl
  slice_get_off (x ∷ xs) (suc i) zero now apart = refl
  slice_get_off (x ∷ xs) (suc i) (suc other) now apart = slice_get_off xs i other now (λ same. apart (ap suc same))

-- one actor is replaced
module _ (actors : List Actor) (count : length actors ≡ ACTORS) (actor : ℕ) (known : actor < ACTORS) (after : Actor) where
  within : actor < length actors
  within = omega (arith, count)

  pub this_actor : actor_in (set actors actor after) actor ≡ after
  this_actor = get_or-set_same actors actor after idle within

  pub other_actor : (other : ℕ) → other ≢ actor → actor_in (set actors actor after) other ≡ actor_in actors other
  other_actor other apart = get_or-set_other actors actor other after idle apart

  -- what holds of the new one, and of the others, holds of each
  pub each_actor : (P : ℕ → Actor → Type 0) → P actor after → ((other : ℕ) → other ≢ actor → P other (actor_in actors other)) → (number : ℕ) → P number (actor_in (set actors actor after) number)
  each_actor P here there number =
      elim (cases_eq number actor) [
        | inl same ↦ subst (λ (n : ℕ). P n (actor_in (set actors actor after) n)) (sym same) (subst (λ (a : Actor). P actor a) (sym this_actor) here)
        | inr apart ↦ subst (λ (a : Actor). P number a) (sym (other_actor number apart)) (there number apart)
      ]

  -- and the count of what is named changes by what it names
  pub times-actor : (nodes : List NodeData) (n : ℕ) → times n (mentioned nodes (set actors actor after)) + times n (named_by (actor_in actors actor)) ≡ times n (mentioned nodes actors) + times n (named_by after)
  times-actor nodes n =
      let before = times-append n (named nodes) (flat_map named_by actors) in
      let now = times-append n (named nodes) (flat_map named_by (set actors actor after)) in
      let change = times-replaced named_by n actors actor after idle within in
      omega arith

  -- an actor that merged nothing has no run
  pub runs_kept : (nodes : List NodeData) → ((node : NodeData) (number : ℕ) → IsInRun node number actor (actor_in actors actor).job → ⊥) → AreInRuns nodes actors → AreInRuns nodes (set actors actor after)
  runs_kept nodes no_run runs n number who below stands owned =
      let before = runs n number who below stands owned in (
        before.0,
        elim (cases_eq who actor) [
          | inl same ↦ absurd (no_run (node_at nodes n) number (subst (λ (m : ℕ). IsInRun (node_at nodes n) number m (actor_in actors m).job) same before.1))
          | inr apart ↦ subst (λ (a : Actor). IsInRun (node_at nodes n) number who a.job) (sym (other_actor who apart)) before.1
        ],
      )

  -- whose job this is
  pub job_of : (j : Job) (number : ℕ) → (actor_in (set actors actor after) number).job ≡ Some j → ((number ≡ actor) × (after.job ≡ Some j)) ⊎ ((number ≢ actor) × ((actor_in actors number).job ≡ Some j))
  job_of j = each_actor (λ (n : ℕ) (a : Actor). a.job ≡ Some j → ((n ≡ actor) × (after.job ≡ Some j)) ⊎ ((n ≢ actor) × ((actor_in actors n).job ≡ Some j))) (λ is. inl (refl, is)) (λ other apart is. inr (apart, is))

-- an actor with a job is one that there is, and it is at work
module _ (old : Whole) (sound : IsSound old) (number : ℕ) (job : Job) (is : (actor_in old.actors number).job ≡ Some job) where
  pub known_of : number < ACTORS
  known_of = elim (cases_lt number ACTORS) [
    | inl below ↦ below
    | inr past ↦ absurd (no_some (sym (ap (λ (a : Actor). a.job) (get_or_past old.actors number idle (omega (arith, sound.count)))) ∙ is))
  ]
    where
      no_some : None ≡ Some job → ⊥
      no_some wrong = cc

  pub working : IsWorking old.nodes (branches old) old.owners old.tables.frozen old.counters.branches number job (actor_in old.actors number).published
  working = subst (λ (j : Option Job). IsAtWork old.nodes (branches old) old.owners old.tables.frozen old.counters.branches number j (actor_in old.actors number).published) is (sound.actors number known_of).job

-- no two frozen memtables have the same number
pub one_number : (tables : MemtableData) → AreMemtables tables → (i j : ℕ) (f g : FrozenData) → slice_get tables.frozen i ≡ Some f → slice_get tables.frozen j ≡ Some g → f.number ≡ g.number → i ≡ j
one_number tables are i j f g at_i at_j same =
    let in_i = slice_get_within tables.frozen i f at_i in
    let in_j = slice_get_within tables.frozen j g at_j in
    let is_i = ap (λ (h : FrozenData). h.number) (get_or_from_slice_get tables.frozen i f f at_i) in
    let is_j = ap (λ (h : FrozenData). h.number) (get_or_from_slice_get tables.frozen j g f at_j) in
    elim (cases_eq i j) [
      | inl equal ↦ equal
      | inr apart ↦ elim (cases_lt i j) [
        | inl lower ↦ let below = are.rising i j f lower in_j in absurd (omega arith)
        | inr upper ↦ let below = are.rising j i f (omega arith) in_i in absurd (omega arith)
      ]
    ]
