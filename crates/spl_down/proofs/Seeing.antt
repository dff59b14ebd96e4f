-- What a descent that has come to a node knows there.
use Rattle.std.proofs.Common.{◌≡◌, ◌≢◌, ℕ, zero, suc, ◌+◌, ◌<◌, Bool, true, false, ◌||◌, nat_lt, cond, List, [], ◌∷◌, Option, Some, None, Result, Ok, Err, length, map, get_or, refl, sym, ap, subst, ◌∙◌, arith}
use Rattle.std.specs.Prelude.{◌↔◌, IsTrue, count_by, is_some}
use Rattle.std.proofs.lemmas.Bool.{false≢true}
use Rattle.std.proofs.lemmas.List.Sums.{sum_by-append}
use Rattle.std.proofs.lemmas.List.Elements.{All-get_or}
use Rattle.std.proofs.lemmas.Simd.{map-map}
use Rattle.spl_message.specs.declared.span.Span.{Span}
use Rattle.spl_message.specs.Table.{Table, part_of}
use Rattle.spl_numbers.specs.Numbers.{has}
use Rattle.spl_extent.specs.Pool.{granted_to}
use Rattle.spl_holds.specs.declared.grip.Grip.{Grip}
use Rattle.spl_holds.specs.declared.grip.Grip.TheVariants.{Free}
use Rattle.spl_holds.specs.Grip.{is_read, is_claim, is_write}
use Rattle.spl_holds.specs.Latch.{grip_in}
use Rattle.spl_node.specs.Node.{IsNode, bare}
use Rattle.spl_node.specs.Steps.{fresh}
use Rattle.spl_trunk.specs.Trunk.{node_at}
use Rattle.spl_state.specs.declared.descent.Descent.{Descent}
use Rattle.spl_state.specs.declared.reply.Reply.{Reply}
use Rattle.spl_state.specs.declared.reply.Reply.TheVariants as reply
use Rattle.spl_state.specs.declared.sight.Sight.{Sight}
use Rattle.spl_state.specs.Actor.{actor_in}
use Rattle.spl_state.specs.Reply.{state_of}
use Rattle.spl_state.specs.Sound.{IsSound}
use Rattle.spl_state.specs.Whole.{Whole, branches, table_in}
use Rattle.spl_descent.specs.Descents.{is_busy, live_under, unless_written}
use Rattle.spl_descent.specs.Sights.{Answers, IsRight, IsSightOf, OnSight, tables_seen}
use Rattle.spl_descent.proofs.Named.{shared_tables}
use Rattle.spl_desk.specs.Calls.{HasNothing}
use Rattle.spl_desk.specs.Holder.{BranchKind, Holder}
use Rattle.spl_down.specs.Arrivals.{IsAnswer, OnTry, is_again}
use Rattle.spl_down.specs.Descending.{Arrived, IsAt, MaySee, descent_of, tables_in}
use Rattle.spl_base.specs.declared.NoMemory.{NoMemory}

none_counted : {A : Type 0} (p : A → Bool) (xs : List A) → ((i : ℕ) (d : A) → i < length xs → p (get_or xs i d) ≡ false) → count_by p xs ≡ 0
none_counted p [] none = refl
none_counted p (x ∷ xs) none =
    let all = sum_by-append (λ (y : _). cond (p y) 1 0) (x ∷ []) xs in
    let one : 0 + cond (p x) 1 0 ≡ 0 = ap (λ (b : Bool). 0 + cond b 1 0) (none 0 x (omega arith)) in
    let rest = none_counted p xs (λ i d within. none (suc i) d (omega arith)) in
    omega arith

none_of : (a b c d e : Bool) → a ≡ false → b ≡ false → c ≡ false → d ≡ false → e ≡ false → (a || (b || (c || (d || e)))) ≡ false
none_of a b c d e no_a no_b no_c no_d no_e =
    ap (λ (x : Bool). x || (b || (c || (d || e)))) no_a
    ∙ ap (λ (x : Bool). x || (c || (d || e))) no_b
    ∙ ap (λ (x : Bool). x || (d || e)) no_c
    ∙ ap (λ (x : Bool). x || e) no_d
    ∙ no_e

-- an actor with nothing is not busy
pub not_busy : (whole : Whole) (actor : ℕ) → HasNothing whole actor → is_busy (state_of whole actor) ≡ false
not_busy whole actor nothing =
    let free : (p : Grip → Bool) → p Free ≡ false → nat_lt 0 (count_by (λ (grips : List Grip). p (grip_in grips actor)) whole.grips) ≡ false =
    λ (p : Grip → Bool) (none : p Free ≡ false). ap (nat_lt 0) (none_counted (λ (grips : List Grip). p (grip_in grips actor)) whole.grips (λ i d within. here p none i d within)) in
    none_of _ _ _ _ _ (ap (λ (o : Option _). is_some o) nothing.descent) (ap (λ (o : Option _). is_some o) nothing.job) (free is_read refl) (free is_claim refl) (free is_write refl)
  where
    get_same : {A : Type 0} (xs : List A) (i : ℕ) (d e : A) → i < length xs → get_or xs i d ≡ get_or xs i e
    get_same [] i d e within = absurd (omega arith)
    get_same (x ∷ xs) zero d e within = refl
    get_same (x ∷ xs) (suc i) d e within = get_same xs i d e (omega arith)

    here : (p : Grip → Bool) → p Free ≡ false → (i : ℕ) (d : List Grip) → i < length whole.grips → p (grip_in (get_or whole.grips i d) actor) ≡ false
    here p none i d within = ap (λ (grips : List Grip). p (grip_in grips actor)) (get_same whole.grips i d [] within) ∙ ap p (nothing.latches i) ∙ none

module _ {B : Type 0} where
  may_none : (answer : Reply B) → OnSight answer (λ sight. Unit {0}) (answer ≡ reply.NoMemory) → MaySee answer
  may_none (reply.Sight sight) on = λ no_sight no_again. absurd (no_sight sight refl)
  may_none answer on = λ no_sight no_again. on

  pub may_see : (node : ℕ) (writer : Option ℕ) (answer : Reply B) → Answers (unless_written node writer) answer → MaySee answer
  may_see node None answer answers = may_none answer answers
  may_see node (Some by) answer answers = λ no_sight no_again. absurd (no_again node by answers)

  other_answer : (answer : Reply B) (P : Sight B → Type 0) (Q : Type 0) → ((sight : Sight B) → answer ≢ reply.Sight sight) → OnSight answer P Q → Q
  other_answer (reply.Sight sight) P Q none on = absurd (none sight refl)
  other_answer answer P Q none on = on

  -- what holds of the answer holds of what was read in it
  pub on_try : (answer : Reply B) (tried : Result (Option (Sight B)) NoMemory) (P : Sight B → Type 0) (Q : Type 0) → IsAnswer answer tried → OnSight answer P Q → OnTry tried P Q Q
  on_try answer (Ok (Some sight)) P Q is on = subst (λ (r : Reply B). OnSight r P Q) is on
  on_try answer (Ok None) P Q is on = other_answer answer P Q (again_is_none answer is) on
    where
      again_is_none : (r : Reply B) → is_again r ≡ true → (sight : Sight B) → r ≢ reply.Sight sight
      again_is_none r again sight same = false≢true (ap is_again (sym same) ∙ again)
  on_try answer (Err fault) P Q is on = subst (λ (r : Reply B). OnSight r P Q) is on

-- each node of a sound state is one
pub node_is : (whole : Whole) (n : ℕ) → IsSound whole → n < length whole.nodes → IsNode (node_at whole.nodes n)
node_is whole n sound exists = All-get_or IsNode whole.nodes n (fresh 0 bare) exists sound.shaped.each

module _ {B : Type 0} (kind : BranchKind B) where
  pub descent_is : (sight : Sight B) (descent : Descent) → sight.place ≡ descent.place → sight.span ≡ descent.span → sight.node ≡ descent.node → descent ≡ descent_of sight
  descent_is sight descent place span node =
      sym (ap (λ (p : ℕ). record { place = p; span = sight.span; node = sight.node }) place
      ∙ ap (λ (s : Span). record { place = descent.place; span = s; node = sight.node }) span
      ∙ ap (λ (n : ℕ). record { place = descent.place; span = descent.span; node = n }) node)

  abbrev pub table_of : B → Table
  table_of branch = (kind.data_of branch).table

  -- the state in which the sight was given, and the actor's descent in it
  pub is_at : (holder : Holder) (sight : Sight B) (descent : Descent) → IsSound holder.at → IsSightOf kind.number_of kind.data_of holder.at descent sight → (actor_in holder.at.actors holder.actor).descent ≡ Some descent → ((extent : ℕ) → has (granted_to holder.at.owners holder.actor) extent ≡ false) → IsAt kind holder sight
  is_at holder sight descent sound sees there none =
      let whole = holder.at in
      let same = descent_is sight descent sees.place sees.span sees.node in
      let seen = shared_tables kind.number_of table_of kind.data_of (λ b. refl) (branches whole) (live_under (node_at whole.nodes descent.node) descent.span) sight.branches sees.branches in
      let tables : tables_seen whole descent ≡ map (part_of descent.span) (tables_in kind sight) =
      sym (map-map (part_of descent.span) (table_in (branches whole)) (live_under (node_at whole.nodes descent.node) descent.span)) ∙ ap (map (part_of descent.span)) (sym seen) in
      record {
        descent = there ∙ ap (λ (d : Descent). Some d) same;
        leaf = subst (λ (n : ℕ). IsTrue sight.leaf ↔ ((node_at whole.nodes n).height ≡ 0)) (sym sees.node) sees.leaf;
        tables = subst (λ (d : Descent). tables_seen whole d ≡ map (part_of d.span) (tables_in kind sight)) same tables;
        extents = none;
        sound = sound;
      }

  pub arrived : (holder : Holder) (sight : Sight B) (descent : Descent) → IsSound holder.at → IsSightOf kind.number_of kind.data_of holder.at descent sight → (actor_in holder.at.actors holder.actor).descent ≡ Some descent → ((extent : ℕ) → has (granted_to holder.at.owners holder.actor) extent ≡ false) → IsRight holder.rule holder.at descent (tables_in kind sight) → Arrived kind holder sight
  arrived holder sight descent sound sees there none right = record {
    at = is_at holder sight descent sound sees there none;
    right = subst (λ (d : Descent). IsRight holder.rule holder.at d (tables_in kind sight)) (descent_is sight descent sees.place sees.span sees.node) right;
  }

  -- only the core, the actor and the rule of the holder matter
  pub is_at_as : (a b : Holder) (sight : Sight B) → b.at ≡ a.at → b.actor ≡ a.actor → IsAt kind a sight → IsAt kind b sight
  is_at_as a b sight at actor has = record {
    descent = rw (at, actor) has.descent;
    leaf = rw at has.leaf;
    tables = rw at has.tables;
    extents = rw (at, actor) has.extents;
    sound = rw at has.sound;
  }

  pub arrived_as : (a b : Holder) (sight : Sight B) → b.at ≡ a.at → b.actor ≡ a.actor → b.rule ≡ a.rule → Arrived kind a sight → Arrived kind b sight
  arrived_as a b sight at actor rule has = record {
    at = is_at_as a b sight at actor has.at;
    right = rw (at, rule) has.right;
  }

module _ {B : Type 0} where
  -- what follows from what holds of the answer
  pub on_more : (answer : Reply B) (P R : Sight B → Type 0) (Q S : Type 0) → ((sight : Sight B) → P sight → R sight) → (Q → S) → OnSight answer P Q → OnSight answer R S
  on_more (reply.Sight sight) P R Q S seen none on = seen sight on
  on_more answer P R Q S seen none on = none on
