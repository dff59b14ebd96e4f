-- An actor that comes to a node: the root, or the child of the node that it then leaves.
use Rattle.std.proofs.Common.{◌≡◌, ◌≢◌, ℕ, zero, suc, ◌+◌, ◌<◌, ◌≤◌, Bool, true, false, ◌||◌, cond, nat_lt, List, [], ◌∷◌, Option, Some, None, length, get_or, set, refl, sym, ap, subst, ◌∙◌, inl, inr, arith}
use Rattle.std.specs.Prelude.{All, IsSome, ◌↔◌, is_some, count_by}
use Rattle.std.proofs.lemmas.Bool.{cases_eq, cases_lt, false≢true, lt-ltb}
use Rattle.std.proofs.lemmas.List.{get_or-set_same, get_or_past}
use Rattle.std.proofs.lemmas.List.Elements.{All-get_or}
use Rattle.std.proofs.lemmas.List.Sums.{sum_by-append}
use Rattle.spl_base.specs.declared.TheConstants.{ACTORS}
use Rattle.spl_message.specs.declared.span.Span.{Span}
use Rattle.spl_holds.specs.declared.grip.Grip.{Grip}
use Rattle.spl_holds.specs.declared.grip.Grip.TheVariants.{Free, Read, Claim, Write}
use Rattle.spl_holds.specs.Grip.{is_read, is_claim, is_write}
use Rattle.spl_holds.specs.Latch.{IsLatched, grip_in}
use Rattle.spl_holds.specs.Holds.{grip_of, with_grip}
use Rattle.spl_holds.proofs.HoldsLemmas.{length-with_grip, grip_of-with_grip, grip_of-with_grip_elsewhere, grip_of-with_grip_others}
use Rattle.spl_node.specs.declared.pivot.Pivot.{Pivot}
use Rattle.spl_node.specs.Node.{NodeData, IsNode, bare, pivot_at}
use Rattle.spl_node.specs.Steps.{fresh, all_keys}
use Rattle.spl_trunk.specs.Trunk.{node_at}
use Rattle.spl_trunk.specs.Tree.{number_of, IsChild}
use Rattle.spl_state.specs.declared.descent.Descent.{Descent}
use Rattle.spl_state.specs.declared.actor.Actor.{Actor}
use Rattle.spl_state.specs.Actor.{idle, actor_in, with_descent, told_of}
use Rattle.spl_state.specs.Actors.{IsDescending, LiesUnder, StartsInside, pivot_from}
use Rattle.spl_state.specs.Reply.{state_of}
use Rattle.spl_state.specs.Sound.{IsSound}
use Rattle.spl_state.specs.Whole.{Whole}
use Rattle.spl_descent.specs.Descents.{arrived, child_of, descent_at, first_descent, is_busy}
use Rattle.spl_descent.proofs.Moves.{IsMove}
use Rattle.spl_descent.proofs.Ends.{descending}
use Rattle.spl_descent.proofs.Places.{pivot_from_within, lies_under, starts_in_part}

set_twice : {A : Type 0} (xs : List A) (i : ℕ) (x y : A) → set (set xs i x) i y ≡ set xs i y
set_twice [] i x y = refl
set_twice (z ∷ xs) zero x y = refl
set_twice (z ∷ xs) (suc i) x y = ap (λ (ys : List _). z ∷ ys) (set_twice xs i x y)

-- the descent is given first, and then the actor is told of its node
pub arrived_in : (actors : List Actor) (actor : ℕ) (descent : Descent) → actor < length actors → set (set actors actor (with_descent (actor_in actors actor) (Some descent))) actor (told_of (actor_in (set actors actor (with_descent (actor_in actors actor) (Some descent))) actor) descent.node) ≡ set actors actor (arrived (actor_in actors actor) descent)
arrived_in actors actor descent within =
    let new = with_descent (actor_in actors actor) (Some descent) in
    set_twice actors actor new _ ∙ ap (λ (a : Actor). set actors actor (told_of a descent.node)) (get_or-set_same actors actor new idle within)

neither : (a b : Bool) → (a || b) ≡ false → (a ≡ false) × (b ≡ false)
neither true b none = absurd (false≢true (sym none))
neither false b none = (refl, none)

none_where : {A : Type 0} (o : Option A) → is_some o ≡ false → o ≡ None
none_where None is = refl
none_where (Some x) is = absurd (false≢true (sym is))

counted_once : {A : Type 0} (p : A → Bool) (xs : List A) (i : ℕ) (d : A) → i < length xs → p (get_or xs i d) ≡ true → 1 ≤ count_by p xs
counted_once p [] i d within counted = absurd (omega arith)
counted_once p (x ∷ xs) zero d within counted =
    let all = sum_by-append (λ (y : _). cond (p y) 1 0) (x ∷ []) xs in
    let one : 0 + cond (p x) 1 0 ≡ 1 = ap (λ (b : Bool). 0 + cond b 1 0) counted in
    omega arith
counted_once p (x ∷ xs) (suc i) d within counted =
    let all = sum_by-append (λ (y : _). cond (p y) 1 0) (x ∷ []) xs in
    let rest = counted_once p xs i d (omega arith) counted in
    omega arith

by_test : (b : Bool) (P : Type 0) → (b ≡ true → P) → (b ≡ false → P) → P
by_test true P on_true on_false = on_true refl
by_test false P on_true on_false = on_false refl

not_counted : {A : Type 0} (p : A → Bool) (xs : List A) (i : ℕ) (d : A) → i < length xs → nat_lt 0 (count_by p xs) ≡ false → p (get_or xs i d) ≡ false
not_counted p xs i d within none =
    by_test (p (get_or xs i d)) (p (get_or xs i d) ≡ false)
    (λ counted. absurd (false≢true (sym none ∙ lt-ltb 0 (count_by p xs) (counted_once p xs i d within counted))))
    (λ not_there. not_there)

free_of : (grip : Grip) → is_read grip ≡ false → is_claim grip ≡ false → is_write grip ≡ false → grip ≡ Free
free_of Free read claim write = refl
free_of Read read claim write = absurd (false≢true (sym read))
free_of Claim read claim write = absurd (false≢true (sym claim))
free_of Write read claim write = absurd (false≢true (sym write))

-- what an actor with nothing has
pub record IsAtRest (old : Whole) (actor : ℕ) : Type 0 where
  pub descent : (actor_in old.actors actor).descent ≡ None
  pub job : (actor_in old.actors actor).job ≡ None
  pub free : (node : ℕ) → grip_of old.grips actor node ≡ Free

pub at_rest : (old : Whole) (actor : ℕ) → is_busy (state_of old actor) ≡ false → IsAtRest old actor
at_rest old actor at_ease =
    let has = state_of old actor in
    let one = neither has.descent (has.job || (nat_lt 0 has.reads || (nat_lt 0 has.claims || nat_lt 0 has.writes))) at_ease in
    let two = neither has.job (nat_lt 0 has.reads || (nat_lt 0 has.claims || nat_lt 0 has.writes)) one.1 in
    let three = neither (nat_lt 0 has.reads) (nat_lt 0 has.claims || nat_lt 0 has.writes) two.1 in
    let four = neither (nat_lt 0 has.claims) (nat_lt 0 has.writes) three.1 in
    record {
      descent = none_where (actor_in old.actors actor).descent one.0;
      job = none_where (actor_in old.actors actor).job two.0;
      free = λ node. elim (cases_lt node (length old.grips)) [
        | inl within ↦
            free_of (grip_of old.grips actor node)
            (not_counted (λ (grips : List Grip). is_read (grip_in grips actor)) old.grips node [] within three.0)
            (not_counted (λ (grips : List Grip). is_claim (grip_in grips actor)) old.grips node [] within four.0)
            (not_counted (λ (grips : List Grip). is_write (grip_in grips actor)) old.grips node [] within four.1)
        | inr past ↦ ap (λ (grips : List Grip). grip_in grips actor) (get_or_past old.grips node [] past)
      ];
    }

node_is : (old : Whole) (n : ℕ) → IsSound old → n < length old.nodes → IsNode (node_at old.nodes n)
node_is old n sound exists = All-get_or IsNode old.nodes n (fresh 0 bare) exists sound.shaped.each

starts_in_all : (start : Option (List ℕ)) → StartsInside all_keys start
starts_in_all None = refl
starts_in_all (Some start) = refl

-- every start lies in the root
pub starts_in_root : (old : Whole) (span : Span) → IsSound old → StartsInside (node_at old.nodes 0).range span.from
starts_in_root old span sound = subst (λ (range : Span). StartsInside range span.from) (sym sound.shaped.root) (starts_in_all span.from)

module _ (old : Whole) (actor : ℕ) (span : Span) (sound : IsSound old) (known : actor < ACTORS) where
  pub root_lies : LiesUnder (node_at old.nodes 0) (first_descent old span).span
  root_lies = lies_under (node_at old.nodes 0) (node_is old 0 sound sound.shaped.some) span (starts_in_root old span sound)

  abbrev first : Actor
  first = arrived (actor_in old.actors actor) (first_descent old span)

  abbrev reading : List (List Grip)
  reading = with_grip old.grips actor 0 Read

  pub begun_move : IsAtRest old actor → All IsLatched reading → old.counters.places < old.counters.steps → IsMove old actor first reading (old.counters.places + 1)
  begun_move rest latched few =
      let some = sound.shaped.some in
      let root : 0 < length old.grips = let nodes = sound.latches in omega arith in
      let told = (sound.actors actor known).told in
      record {
        known = known;
        job = refl;
        published = refl;
        others = λ other n apart. grip_of-with_grip_others old.grips actor 0 other n Read apart;
        nodes = length-with_grip old.grips actor 0 Read;
        latched = latched;
        told = omega arith;
        knows_root = omega arith;
        way = record {
          exists = some;
          told = omega arith;
          reads = grip_of-with_grip old.grips actor 0 Read sound.latched known root;
          alone = λ n away. grip_of-with_grip_elsewhere old.grips actor 0 actor n Read away ∙ rest.free n;
          no_job = rest.job;
          place = omega arith;
          lies = root_lies;
        };
        more = omega arith;
        few = omega arith;
      }

-- a descent whose node has a child
module _ (old : Whole) (actor : ℕ) (descent : Descent) (sound : IsSound old) (known : actor < ACTORS) (is : (actor_in old.actors actor).descent ≡ Some descent) where
  abbrev parent : NodeData
  parent = node_at old.nodes descent.node

  abbrev at : ℕ
  at = pivot_from parent.pivots descent.span.from

  way : IsDescending old.nodes old.grips old.counters.places actor (actor_in old.actors actor) descent
  way = descending old actor descent sound known is

  parent_is : IsNode parent
  parent_is = node_is old descent.node sound way.exists

  at_within : at < length parent.pivots
  at_within = pivot_from_within parent.pivots descent.span.from parent_is.some

  child_known : IsSome (pivot_at parent.pivots at).child ↔ (0 < parent.height)
  child_known = All-get_or (λ (p : Pivot). IsSome p.child ↔ (0 < parent.height)) parent.pivots at bare at_within parent_is.children

  -- a pivot without a child is a leaf's
  pub leaf_where : (pivot_at parent.pivots at).child ≡ None → parent.height ≡ 0
  leaf_where none = elim (cases_lt 0 parent.height) [
    | inl high ↦ absurd (no_child (pivot_at parent.pivots at).child none (child_known.1 high))
    | inr low ↦ omega arith
  ]
    where
      no_child : (o : Option ℕ) → o ≡ None → IsSome o → ⊥
      no_child None none some = false≢true some
      no_child (Some n) none some = cc

  module _ (child : ℕ) (there : (pivot_at parent.pivots at).child ≡ Some child) where
    pub child_same : child ≡ child_of old descent
    child_same = ap number_of (sym there)

    some_child : (o : Option ℕ) → o ≡ Some child → IsSome o
    some_child None o_is = cc
    some_child (Some n) o_is = refl

    pub is_high : 0 < parent.height
    is_high = child_known.0 (some_child (pivot_at parent.pivots at).child there)

    pub child_is_lower : IsChild old.nodes parent at child
    child_is_lower = sound.shaped.children descent.node at child way.exists at_within there

    apart : child ≢ descent.node
    apart same =
        let lower = child_is_lower.height in
        let P : ℕ → Type 0 = λ n. (node_at old.nodes n).height + 1 ≡ parent.height in
        let here : parent.height + 1 ≡ parent.height = subst P same lower in
        absurd (omega arith)

    pub child_free : grip_of old.grips actor child ≡ Free
    child_free = way.alone child apart

    -- the start of the descent lies in the child
    pub starts_in_child : StartsInside (node_at old.nodes child).range descent.span.from
    starts_in_child = subst (λ (range : Span). StartsInside range descent.span.from) (sym child_is_lower.range) (starts_in_part parent parent_is descent.span.from way.lies.start)

    pub child_lies : LiesUnder (node_at old.nodes child) (descent_at old descent.place descent.span child).span
    child_lies = lies_under (node_at old.nodes child) (node_is old child sound child_is_lower.exists) descent.span starts_in_child

    abbrev lower : Actor
    lower = arrived (actor_in old.actors actor) (descent_at old descent.place descent.span child)

    abbrev both_read : List (List Grip)
    both_read = with_grip old.grips actor child Read

    abbrev parent_left : List (List Grip)
    parent_left = with_grip both_read actor descent.node Free

    keeps_nodes : length parent_left ≡ length old.grips
    keeps_nodes = length-with_grip both_read actor descent.node Free ∙ length-with_grip old.grips actor child Read

    all_free : All IsLatched both_read → (n : ℕ) → n ≢ child → grip_of parent_left actor n ≡ Free
    all_free latched n away = elim (cases_eq n descent.node) [
      | inl same ↦
          let exists : descent.node < length both_read = let nodes = sound.latches in let there = way.exists in let long = length-with_grip old.grips actor child Read in omega arith in
          ap (λ (m : ℕ). grip_of parent_left actor m) same ∙ grip_of-with_grip both_read actor descent.node Free latched known exists
      | inr other ↦
          grip_of-with_grip_elsewhere both_read actor descent.node actor n Free other
          ∙ grip_of-with_grip_elsewhere old.grips actor child actor n Read away
          ∙ way.alone n other
    ]

    pub lower_move : All IsLatched both_read → All IsLatched parent_left → IsMove old actor lower parent_left old.counters.places
    lower_move latched latched_after =
        let told = (sound.actors actor known).told in
        let knows = (sound.actors actor known).knows_root in
        let there = child_is_lower.exists in
        let place = way.place in
        let exists : child < length old.grips = let nodes = sound.latches in omega arith in
        record {
          known = known;
          job = refl;
          published = refl;
          others = λ other n away. grip_of-with_grip_others both_read actor descent.node other n Free away ∙ grip_of-with_grip_others old.grips actor child other n Read away;
          nodes = keeps_nodes;
          latched = latched_after;
          told = omega arith;
          knows_root = omega arith;
          way = record {
            exists = there;
            told = omega arith;
            reads = grip_of-with_grip_elsewhere both_read actor descent.node actor child Free apart ∙ grip_of-with_grip old.grips actor child Read sound.latched known exists;
            alone = all_free latched;
            no_job = way.no_job;
            place = place;
            lies = child_lies;
          };
          more = omega arith;
          few = sound.bounds.places;
        }
