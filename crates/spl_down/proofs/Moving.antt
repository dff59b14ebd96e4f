-- A descent that goes on, and one that ends, as turns.
use Rattle.std.proofs.Common.{◌≡◌, ◌≢◌, ℕ, ◌+◌, ◌<◌, Bool, true, false, if◌then◌else◌, nat_eq, List, [], ◌∷◌, Option, Some, None, Result, length, refl, sym, ap, subst, ◌∙◌, inl, inr, arith}
use Rattle.std.specs.Prelude.{◌↔◌, IsSome, IfSome}
use Rattle.std.proofs.lemmas.Bool.{cases_eq, false≢true}
use Rattle.std.proofs.lemmas.Bool.Decides.{nat_tests}
use Rattle.std.proofs.lemmas.List.{get_or-set_same}
use Rattle.std.proofs.lemmas.List.Elements.{All-get_or}
use Rattle.spl_base.specs.declared.TheConstants.{ACTORS}
use Rattle.spl_message.specs.Cell.{Cell}
use Rattle.spl_message.specs.History.{History}
use Rattle.spl_message.specs.Message.{act_all}
use Rattle.spl_message.specs.declared.message.Message.{Message}
use Rattle.spl_message.specs.declared.span.Span.{Span}
use Rattle.spl_message.specs.Span.{InSpan}
use Rattle.spl_message.specs.Table.{Table, chain}
use Rattle.spl_numbers.specs.Numbers.{has}
use Rattle.spl_holds.specs.declared.grip.Grip.TheVariants.{Free}
use Rattle.spl_holds.specs.Latch.{writer_of}
use Rattle.spl_holds.specs.Holds.{grip_of, grips_at}
use Rattle.spl_holds.proofs.HoldsLemmas.{grip_of-with_grip, grip_of-with_grip_elsewhere}
use Rattle.spl_node.specs.declared.pivot.Pivot.{Pivot}
use Rattle.spl_node.specs.Node.{NodeData, bare, pivot_at}
use Rattle.spl_trunk.specs.Trunk.{node_at}
use Rattle.spl_trunk.specs.Tree.{IsChild, number_of}
use Rattle.spl_base.specs.declared.NoMemory.{NoMemory}
use Rattle.spl_tables.proofs.Chains.{chain-parts}
use Rattle.spl_state.specs.declared.actor.Actor.{Actor}
use Rattle.spl_state.specs.declared.descent.Descent.{Descent}
use Rattle.spl_state.specs.declared.reply.Reply.{Reply}
use Rattle.spl_state.specs.declared.reply.Reply.TheVariants as reply
use Rattle.spl_state.specs.declared.sight.Sight.{Sight}
use Rattle.spl_state.specs.Actor.{actor_in, idle, with_descent}
use Rattle.spl_state.specs.Actors.{pivot_from}
use Rattle.spl_state.specs.Frame.{refused}
use Rattle.spl_state.specs.Sight.{KeepsSight}
use Rattle.spl_state.specs.Sound.{IsSound}
use Rattle.spl_state.specs.Whole.{Whole}
use Rattle.spl_descent.specs.Descents.{arrived, child_of, end_answer, end_at, ended, left_from, moved_from, next_descent, refusal_from, unless_written}
use Rattle.spl_descent.specs.Sights.{Answers, IsSightOf, OnSight, rest, tables_seen}
use Rattle.spl_descent.proofs.Arrivals.{child_is_lower, starts_in_child}
use Rattle.spl_descent.proofs.Downs.{leads_next, right_next}
use Rattle.spl_descent.proofs.Ends.{descending}
use Rattle.spl_descent.proofs.Places.{pivot_from_within}
use Rattle.spl_core.specs.declared.step.Step.{Step}
use Rattle.spl_core.specs.declared.step.Step.TheVariants.{MoveDown, End}
use Rattle.spl_core.specs.Steps.{IsAnswered, IsMove, IsStep}
use Rattle.spl_desk.specs.Calls.{HasNothing}
use Rattle.spl_desk.specs.Holder.{BranchKind, Holder}
use Rattle.spl_desk.specs.Turn.{MadeTurn}
use Rattle.spl_desk.specs.Walk.{holder_at}
use Rattle.spl_down.specs.Arrivals.{CameTo, IsAnswer, OnTry, arrival_in, arrival_of, height_in}
use Rattle.spl_down.specs.Descending.{Arrived, Descended, IsAt, MaySee, Waits, descent_of, tables_in}
use Rattle.spl_down.specs.Spans.{IsFront}
use Rattle.spl_down.proofs.Answers.{came_by, came_by_try, few_of_one}
use Rattle.spl_down.proofs.Fronts.{front_keys, front_under}
use Rattle.spl_down.proofs.Seeing as seeing

some_is : (o : Option ℕ) → IsSome o → o ≡ Some (number_of o)
some_is None some = absurd (false≢true some)
some_is (Some n) some = refl

not_zero : (n : ℕ) → n ≢ 0 → nat_eq n 0 ≡ false
not_zero n other = grind (arith, nat_tests)

module _ {B : Type 0} (kind : BranchKind B) (old : Holder) (sight : Sight B) (at : IsAt kind old sight) (before after : Whole) (kept : KeepsSight old.rule kind.tells old.at before old.actor) (sound : IsSound before) where
  abbrev here : Descent
  here = descent_of sight

  abbrev node : NodeData
  node = node_at before.nodes sight.node

  has_descent : (actor_in before.actors old.actor).descent ≡ Some here
  has_descent = ap (λ (a : Actor). a.descent) kept.actor ∙ at.descent

  -- others leave the sight as it was
  pub still_at : IsAt kind (holder_at old before) sight
  still_at =
      let sees = kept.descent here at.descent in
      record {
        descent = has_descent;
        leaf = rw sees.height at.leaf;
        tables = sees.tables ∙ at.tables;
        extents = λ extent. ap (λ (n : List Bool). has n extent) kept.extents ∙ at.extents extent;
        sound = sound;
      }

  still_height : height_in before sight ≡ height_in old.at sight
  still_height = (kept.descent here at.descent).height

  still_rest : kind.tells ≡ true → (key : List ℕ) → InSpan sight.span key → rest old.rule before sight.node key ≡ rest old.rule old.at sight.node key
  still_rest tells key inside = (kept.descent here at.descent).rest tells key inside

  module _ (known : old.actor < ACTORS) where
    -- refused, the descent waits
    pub waits_by : IsSound after → after ≡ refused before → Waits kind old (holder_at old after) sight
    waits_by sound_after same =
        let there : IsAt kind (holder_at old (refused before)) sight = record { descent = still_at.descent; leaf = still_at.leaf; tables = still_at.tables; extents = still_at.extents; sound = subst IsSound same sound_after } in
        record {
          at = subst (λ (w : Whole). IsAt kind (holder_at old w) sight) (sym same) there;
          height = ap (λ (w : Whole). height_in w sight) same ∙ still_height;
          rest = λ tells key inside. ap (λ (w : Whole). rest old.rule w sight.node key) same ∙ still_rest tells key inside;
        }

    module _ (high : sight.leaf ≡ false) where
      is_high : node.height ≢ 0
      is_high low = false≢true (sym high ∙ still_at.leaf.1 low)

      pub may_move : (answer : Reply B) → IsMove kind.number_of kind.data_of (refused before) old.actor answer after → MaySee answer
      may_move answer is =
          let w = refused before in
          let child = child_of w here in
          let writer = writer_of (grips_at before.grips child) in
          let from : Answers (refusal_from w old.actor (Some here)) answer = subst (λ (o : Option Descent). Answers (refusal_from w old.actor o) answer) has_descent is.answer in
          let answers : Answers (unless_written child writer) answer =
          subst (λ (b : Bool). Answers (if b then Some reply.Leaf else unless_written child writer) answer) (not_zero node.height is_high) from in
          seeing.may_see child writer answer answers

      abbrev place : ℕ
      place = pivot_from node.pivots sight.span.from

      there : (pivot_at node.pivots place).child ≡ Some (child_of before here)
      there =
          let exists = (descending before old.actor here sound known has_descent).exists in
          let is = seeing.node_is before sight.node sound exists in
          let within = pivot_from_within node.pivots sight.span.from is.some in
          let known_child = All-get_or (λ (p : Pivot). IsSome p.child ↔ (0 < node.height)) node.pivots place bare within is.children in
          let above = is_high in
          some_is (pivot_at node.pivots place).child (known_child.1 (omega arith))

      next : Descent
      next = next_descent before here

      is_child : IsChild before.nodes node place (child_of before here)
      is_child = child_is_lower before old.actor here sound known has_descent (child_of before here) there

      front_next : IsFront sight.span (next_descent before here).span
      front_next =
          let child = child_of before here in
          front_under (node_at before.nodes child) sight.span (seeing.node_is before child sound is_child.exists) (starts_in_child before old.actor here sound known has_descent child there)

      leads_key : kind.tells ≡ true → (key : List ℕ) → InSpan (next_descent before here).span key → rest old.rule old.at sight.node key ≡ act_all old.rule key (rest old.rule before (child_of before here) key) (chain (tables_in kind sight) key)
      leads_key tells key inside =
          let above : InSpan sight.span key = front_keys sight.span (next_descent before here).span front_next key inside in
          let leads = leads_next before old.actor here sound known has_descent (child_of before here) there old.rule key inside in
          let tables : chain (tables_seen before here) key ≡ chain (tables_in kind sight) key =
          ap (λ (ts : List Table). chain ts key) still_at.tables ∙ chain-parts sight.span key above (tables_in kind sight) in
          sym (still_rest tells key above) ∙ leads ∙ ap (λ (ms : List Message). act_all old.rule key (rest old.rule before (child_of before here) key) ms) tables

      -- what is known at the child
      pub moved_by : (answer : Reply B) → IsSound after → IsMove kind.number_of kind.data_of (refused before) old.actor answer after → OnSight answer (Descended kind old (holder_at old after) sight) (Waits kind old (holder_at old after) sight)
      moved_by (reply.Sight found) sound_after is =
          let actor = old.actor in
          let w = moved_from (refused before) actor (Some here) in
          let state : after ≡ w = is.state ∙ ap (moved_from (refused before) actor) has_descent in
          let sees_then : IsSightOf kind.number_of kind.data_of (refused before) (next_descent (refused before) here) found =
          subst (λ (o : Option Descent). IfSome o (λ (d : Descent). IsSightOf kind.number_of kind.data_of (refused before) (next_descent (refused before) d) found)) has_descent is.sight in
          let sees : IsSightOf kind.number_of kind.data_of w (next_descent before here) found = record { place = sees_then.place; span = sees_then.span; node = sees_then.node; leaf = sees_then.leaf; branches = sees_then.branches } in
          let within : actor < length before.actors = let count = sound.count in omega arith in
          let mine : actor_in w.actors actor ≡ arrived (actor_in before.actors actor) (next_descent before here) = get_or-set_same before.actors actor (arrived (actor_in before.actors actor) (next_descent before here)) idle within in
          let right = right_next before actor here sound known has_descent (child_of before here) there kind.number_of (seeing.table_of kind) kind.data_of (λ b. refl) found.branches old.rule sees_then.branches in
          let has : Arrived kind (holder_at old w) found = seeing.arrived kind (holder_at old w) found (next_descent before here) (subst IsSound state sound_after) sees (ap (λ (a : Actor). a.descent) mine) still_at.extents right in
          record {
            arrived = subst (λ (x : Whole). Arrived kind (holder_at old x) found) (sym state) has;
            place = sees.place;
            front = subst (IsFront sight.span) (sym sees.span) front_next;
            lower =
                ap (λ (x : Whole). height_in x found + 1) state
                ∙ ap (λ (n : ℕ). (node_at before.nodes n).height + 1) sees.node
                ∙ is_child.height
                ∙ still_height;
            memtables = is.tables;
            leads = λ tells key inside.
                leads_key tells key (subst (λ (s : Span). InSpan s key) sees.span inside)
                ∙ ap (λ (c : Cell). act_all old.rule key c (chain (tables_in kind sight) key)) (sym (ap (λ (x : Whole). rest old.rule x found.node key) state ∙ ap (λ (n : ℕ). rest old.rule before n key) sees.node));
          }
      moved_by answer sound_after is = waits_by sound_after is.state

-- only the core, the actor and the rule of the holder matter
module _ {B : Type 0} (kind : BranchKind B) (old mid new : Holder) (sight : Sight B) (at : new.at ≡ mid.at) (actor : new.actor ≡ mid.actor) (rule : new.rule ≡ mid.rule) where
  waits_as : Waits kind old mid sight → Waits kind old new sight
  waits_as has = record {
    at = seeing.is_at_as kind mid new sight at actor has.at;
    height = ap (λ (w : Whole). height_in w sight) at ∙ has.height;
    rest = λ tells key inside. ap (λ (w : Whole). rest old.rule w sight.node key) at ∙ has.rest tells key inside;
  }

  descended_as : (next : Sight B) → Descended kind old mid sight next → Descended kind old new sight next
  descended_as next has = record {
    arrived = seeing.arrived_as kind mid new next at actor rule has.arrived;
    place = has.place;
    front = has.front;
    lower = ap (λ (w : Whole). height_in w next + 1) at ∙ has.lower;
    memtables = has.memtables;
    leads = λ tells key inside. has.leads tells key inside ∙ ap (λ (w : Whole). act_all old.rule key (rest old.rule w next.node key) (chain (tables_in kind sight) key)) (sym at);
  }

module _ {B : Type 0} (kind : BranchKind B) (old new : Holder) (sight : Sight B) (at : IsAt kind old sight) (history : History) (Saw : History → Type 0) (known : old.actor < ACTORS) (actor : new.actor ≡ old.actor) (rule : new.rule ≡ old.rule) where
  module _ (high : sight.leaf ≡ false) (answer : Reply B) (made : MadeTurn kind old new history MoveDown answer Saw) where
    is_move : IsMove kind.number_of kind.data_of (refused made.turn.before) old.actor answer made.turn.after
    is_move =
        let t = made.turn in
        subst (λ (s : Step B). IsStep kind.number_of kind.data_of old.rule (refused t.before) old.actor s answer t.after) made.step
        (subst (λ (r : Reply B). IsStep kind.number_of kind.data_of old.rule (refused t.before) old.actor t.step r t.after) made.reply made.legal.step)

    pub move_may : MaySee answer
    move_may = may_move kind old sight at made.turn.before made.turn.after made.legal.kept made.legal.sound known high answer is_move

    pub move_done : OnSight answer (Descended kind old new sight) (Waits kind old new sight)
    move_done =
        let after = made.turn.after in
        let mid = holder_at old after in
        seeing.on_more answer (Descended kind old mid sight) (Descended kind old new sight) (Waits kind old mid sight) (Waits kind old new sight)
        (descended_as kind old mid new sight (sym made.after) actor rule)
        (waits_as kind old mid new sight (sym made.after) actor rule)
        (moved_by kind old sight at made.turn.before after made.legal.kept made.legal.sound known high answer made.legal.after is_move)

    pub move_walk : (tried : Result (Option (Sight B)) NoMemory) → IsAnswer answer tried → OnTry tried (λ next. CameTo kind old history new Saw 1 (arrival_in new.at next ∷ [])) (CameTo kind old history new Saw 0 []) (CameTo kind old history new Saw 1 [])
    move_walk tried is = came_by_try kind old new history MoveDown answer Saw refl made tried is

  module _ (answer : Reply B) (made : MadeTurn kind old new history End answer Saw) where
    abbrev before : Whole
    before = made.turn.before

    has_here : (actor_in before.actors old.actor).descent ≡ Some (descent_of sight)
    has_here = has_descent kind old sight at before made.turn.after made.legal.kept made.legal.sound

    is_end : IsAnswered (refused before) (end_answer (refused before) old.actor) (ended (refused before) old.actor) answer made.turn.after
    is_end =
        let t = made.turn in
        subst (λ (s : Step B). IsStep kind.number_of kind.data_of old.rule (refused t.before) old.actor s answer t.after) made.step
        (subst (λ (r : Reply B). IsStep kind.number_of kind.data_of old.rule (refused t.before) old.actor t.step r t.after) made.reply made.legal.step)

    pub end_done : answer ≡ reply.Done
    end_done = is_end.answer ∙ ap (λ (o : Option Descent). end_from o) has_here
      where
        end_from : Option Descent → Reply B
        end_from o = end_at (refused before) old.actor o

    pub end_nothing : HasNothing new.at new.actor
    end_nothing =
        let w = left_from (refused before) old.actor (Some (descent_of sight)) in
        let state : made.turn.after ≡ w = is_end.done end_done ∙ ap (left_from (refused before) old.actor) has_here in
        let way = descending before old.actor (descent_of sight) made.legal.sound known has_here in
        let within : old.actor < length before.actors = let count = made.legal.sound.count in omega arith in
        let mine : actor_in w.actors old.actor ≡ with_descent (actor_in before.actors old.actor) None = get_or-set_same before.actors old.actor (with_descent (actor_in before.actors old.actor) None) idle within in
        let exists : sight.node < length before.grips = let nodes = made.legal.sound.latches in let there = way.exists in omega arith in
        let free : (node : ℕ) → grip_of w.grips old.actor node ≡ Free =
        λ (node : ℕ). elim (cases_eq node sight.node) [
          | inl same ↦ ap (λ (n : ℕ). grip_of w.grips old.actor n) same ∙ grip_of-with_grip before.grips old.actor sight.node Free made.legal.sound.latched known exists
          | inr other ↦ grip_of-with_grip_elsewhere before.grips old.actor sight.node old.actor node Free other ∙ way.alone node other
        ] in
        let none : HasNothing w old.actor = record {
          descent = ap (λ (a : Actor). a.descent) mine;
          job = ap (λ (a : Actor). a.job) mine ∙ way.no_job;
          latches = free;
          extents = λ extent. ap (λ (n : List Bool). has n extent) made.legal.kept.extents ∙ at.extents extent;
        } in
        let at_new : new.at ≡ w = sym made.after ∙ state in
        subst (λ (x : Whole). HasNothing x new.actor) (sym at_new) (subst (λ (n : ℕ). HasNothing w n) (sym actor) none)

    pub end_walk : CameTo kind old history new Saw 1 []
    end_walk = came_by kind old new history End answer Saw refl made 1 [] (few_of_one made.turn) (ap (λ (r : Reply B). arrival_of r new.at) end_done)
