-- The begin of a descent, as a turn.
use Rattle.std.proofs.Common.{◌≡◌, ℕ, ◌<◌, Bool, true, if◌then◌else◌, List, [], ◌∷◌, ◌++◌, Option, Some, None, Result, Ok, Err, length, refl, sym, ap, ap₂, subst, ◌∙◌, append-nil, length-append, arith}
use Rattle.std.specs.Prelude.{slice_get}
use Rattle.std.proofs.lemmas.Bool.{false≢true}
use Rattle.std.proofs.lemmas.List.{get_or-set_same}
use Rattle.spl_base.specs.declared.NoMemory.{NoMemory}
use Rattle.spl_message.specs.declared.span.Span.{Span}
use Rattle.spl_message.specs.Span.{InSpan}
use Rattle.spl_node.specs.Node.{IsNode}
use Rattle.spl_descent.proofs.Arrivals.{starts_in_root}
use Rattle.spl_base.specs.declared.TheConstants.{ACTORS}
use Rattle.spl_message.specs.declared.call.Call.TheVariants as call
use Rattle.spl_message.specs.Cell.{Cell}
use Rattle.spl_message.specs.History.{Event, History, cell_at}
use Rattle.spl_message.specs.Message.{act_all}
use Rattle.spl_message.specs.Table.{chain}
use Rattle.spl_message.proofs.Histories.{cell_at-append}
use Rattle.spl_holds.specs.Latch.{writer_of}
use Rattle.spl_holds.specs.Holds.{grips_at}
use Rattle.spl_trunk.specs.Trunk.{node_at}
use Rattle.spl_state.specs.declared.actor.Actor.{Actor}
use Rattle.spl_state.specs.declared.descent.Descent.{Descent}
use Rattle.spl_state.specs.declared.reply.Reply.{Reply}
use Rattle.spl_state.specs.declared.reply.Reply.TheVariants as reply
use Rattle.spl_state.specs.declared.sight.Sight.{Sight}
use Rattle.spl_state.specs.Actor.{actor_in, idle}
use Rattle.spl_state.specs.Frame.{refused}
use Rattle.spl_state.specs.Reply.{state_of}
use Rattle.spl_state.specs.Sound.{IsSound}
use Rattle.spl_state.specs.Whole.{Whole}
use Rattle.spl_descent.specs.Descents.{arrived, begun, first_descent, unless_written}
use Rattle.spl_descent.specs.Sights.{Answers, IsSightOf, OnSight, rest}
use Rattle.spl_descent.proofs.Begins.{means_at, right_first}
use Rattle.spl_core.specs.declared.step.Step.{Step}
use Rattle.spl_core.specs.declared.step.Step.TheVariants.{Begin}
use Rattle.spl_core.specs.Standing.{StandsFor, called}
use Rattle.spl_core.specs.Steps.{IsBeginning, IsStep}
use Rattle.spl_desk.specs.Calls.{HasNothing, IsOnlyCall}
use Rattle.spl_desk.specs.Holder.{BranchKind, Holder}
use Rattle.spl_desk.specs.Turn.{MadeTurn, history_after}
use Rattle.spl_desk.specs.Walk.{holder_at}
use Rattle.spl_desk.proofs.Walks.{still_nothing, went_turn}
use Rattle.spl_down.specs.Arrivals.{CameTo, IsAnswer, OnTry, arrival_in, is_again}
use Rattle.spl_down.specs.Descending.{Arrived, Began, HasEntered, IsBegin, MaySee}
use Rattle.spl_down.specs.Spans.{IsFront}
use Rattle.spl_down.proofs.Answers.{arrivals_of_one, came_by_try, few_of_one}
use Rattle.spl_down.proofs.Fronts.{front_under, whole_under}
use Rattle.spl_down.proofs.Seeing as seeing

-- an entry behind a list
pub get_last : {X : Type 0} (xs : List X) (x : X) (at : ℕ) → at ≡ length xs → slice_get (xs ++ x ∷ []) at ≡ Some x
get_last [] x at is = rw is refl
get_last (y ∷ ys) x at is = rw is (get_last ys x (length ys) refl)

module _ {B : Type 0} (kind : BranchKind B) (old : Holder) (span : Span) (before after : Whole) (nothing : HasNothing before old.actor) (known : old.actor < ACTORS) (sound : IsSound before) where
  pub may_begin : (answer : Reply B) → IsBeginning kind.number_of kind.data_of (refused before) old.actor span answer after → MaySee answer
  may_begin answer is =
      let free : HasNothing (refused before) old.actor = record { descent = nothing.descent; job = nothing.job; latches = nothing.latches; extents = nothing.extents } in
      let writer = writer_of (grips_at before.grips 0) in
      let answers : Answers (unless_written 0 writer) answer =
      subst (λ (b : Bool). Answers (if b then Some (reply.Unfit (state_of (refused before) old.actor)) else unless_written 0 writer) answer) (seeing.not_busy (refused before) old.actor free) is.answer in
      seeing.may_see 0 writer answer answers

  abbrev first : Descent
  first = first_descent before span

  -- what is known at the root
  pub begun_by : (answer : Reply B) → IsSound after → IsBeginning kind.number_of kind.data_of (refused before) old.actor span answer after → OnSight answer (HasEntered kind (holder_at old after) span) (HasNothing after old.actor)
  begun_by (reply.Sight sight) sound_after is =
      let actor = old.actor in
      let w = begun (refused before) actor span in
      let within : actor < length before.actors = let count = sound.count in omega arith in
      let mine : actor_in w.actors actor ≡ arrived (actor_in before.actors actor) first = get_or-set_same before.actors actor (arrived (actor_in before.actors actor) first) idle within in
      let sees : IsSightOf kind.number_of kind.data_of w first sight = record { place = is.sight.place; span = is.sight.span; node = is.sight.node; leaf = is.sight.leaf; branches = is.sight.branches } in
      let sound_w : IsSound w = subst IsSound is.state sound_after in
      let right = right_first kind.number_of (seeing.table_of kind) kind.data_of (λ b. refl) before sound actor span sight.branches old.rule known is.sight.branches in
      let has : Arrived kind (holder_at old w) sight = seeing.arrived kind (holder_at old w) sight first sound_w sees (ap (λ (a : Actor). a.descent) mine) nothing.extents right in
      let root : IsNode (node_at before.nodes 0) = seeing.node_is before 0 sound sound.shaped.some in
      record {
        arrived = subst (λ (x : Whole). Arrived kind (holder_at old x) sight) (sym is.state) has;
        root = is.sight.node;
        front = subst (IsFront span) (sym is.sight.span) (front_under (node_at before.nodes 0) span root (starts_in_root before span sound));
        leaf = λ low. is.sight.span ∙ whole_under (node_at before.nodes 0) span root (is.sight.leaf.0 low) sound.shaped.root;
      }
  begun_by answer sound_after is = rw is.state (record { descent = nothing.descent; job = nothing.job; latches = nothing.latches; extents = nothing.extents })

  -- each key at its place
  module _ (history others : History) (stood : StandsFor old.rule kind.tells before (history ++ others)) where
    pub cell_then : (sight : Sight B) → IsBeginning kind.number_of kind.data_of (refused before) old.actor span (reply.Sight sight) after → kind.tells ≡ true → (key : List ℕ) → InSpan sight.span key → (more : History) → cell_at old.rule ((history ++ others) ++ more) sight.place key ≡ act_all old.rule key (rest old.rule after sight.node key) (chain sight.tables key)
    cell_then sight is tells key inside more =
        let rule = old.rule in
        let seen = history ++ others in
        let place : sight.place ≡ length seen = is.sight.place ∙ stood.places in
        let under : InSpan first.span key = subst (λ (s : Span). InSpan s key) is.sight.span inside in
        let means = means_at before old.actor span rule sight.span sight.tables is.sight.span is.tables key under in
        let here : rest rule after sight.node key ≡ rest rule before 0 key = rw (is.state, is.sight.node) refl in
        cell_at-append rule seen more sight.place key (omega (arith, place))
        ∙ ap (λ (n : ℕ). cell_at rule seen n key) place
        ∙ sym (stood.means tells key)
        ∙ means
        ∙ ap (λ (c : Cell). act_all rule key c (chain sight.tables key)) (sym here)

module _ {B : Type 0} (kind : BranchKind B) (old new : Holder) (span : Span) (history : History) (Saw : History → Type 0) (known : old.actor < ACTORS) (nothing : HasNothing old.at old.actor) (actor : new.actor ≡ old.actor) (rule : new.rule ≡ old.rule) where
  abbrev Made : Reply B → Type 0
  Made answer = MadeTurn kind old new history (Begin span) answer Saw

  is_beginning : (answer : Reply B) (made : Made answer) → IsBeginning kind.number_of kind.data_of (refused made.turn.before) old.actor span answer made.turn.after
  is_beginning answer made =
      let t = made.turn in
      subst (λ (s : Step B). IsStep kind.number_of kind.data_of old.rule (refused t.before) old.actor s answer t.after) made.step
      (subst (λ (r : Reply B). IsStep kind.number_of kind.data_of old.rule (refused t.before) old.actor t.step r t.after) made.reply made.legal.step)

  still : (answer : Reply B) (made : Made answer) → HasNothing made.turn.before old.actor
  still answer made = still_nothing old.rule kind.tells old.at made.turn.before old.actor made.legal.kept nothing

  pub turn_may : (answer : Reply B) → Made answer → MaySee answer
  turn_may answer made = may_begin kind old span made.turn.before made.turn.after (still answer made) known made.legal.sound answer (is_beginning answer made)

  pub turn_begun : (answer : Reply B) → Made answer → OnSight answer (HasEntered kind new span) (HasNothing new.at new.actor)
  turn_begun answer made =
      let after = made.turn.after in
      let at = sym made.after in
      seeing.on_more answer (HasEntered kind (holder_at old after) span) (HasEntered kind new span) (HasNothing after old.actor) (HasNothing new.at new.actor)
      (λ sight has. record { arrived = seeing.arrived_as kind (holder_at old after) new sight at actor rule has.arrived; root = has.root; front = has.front; leaf = has.leaf })
      (λ none. rw (at, actor) none)
      (begun_by kind old span made.turn.before after (still answer made) known made.legal.sound answer made.legal.after (is_beginning answer made))

  began_by : (sight : Sight B) → Made (reply.Sight sight) → Began kind old history new Saw span sight
  began_by sight made =
      let t = made.turn in
      let is = is_beginning (reply.Sight sight) made in
      let event : Event = record { actor = old.actor; call = call.Piece span } in
      let own : called old.actor t.step t.reply ≡ event ∷ [] = ap₂ (called old.actor) made.step made.reply in
      let seen = history ++ t.others in
      let after : history_after old.actor history t ≡ seen ++ event ∷ [] = ap (λ (h : History). seen ++ h) own in
      let place : sight.place ≡ length seen = is.sight.place ∙ made.legal.stood.places in
      let count = length-append history t.others in
      let only : IsOnlyCall old.actor history (call.Piece span) sight.place (t ∷ []) (history_after old.actor history t) = record {
        only = append-nil (called old.actor t.step t.reply) ∙ own;
        at = ap (λ (h : History). slice_get h sight.place) after ∙ get_last seen event sight.place place;
        after = omega (arith, place, count);
      } in
      let cell = cell_then kind old span t.before t.after (still (reply.Sight sight) made) known made.legal.sound history t.others made.legal.stood sight is in
      went_turn kind old history new (Begin span) (reply.Sight sight) Saw (IsBegin kind old history new span sight) made (record {
        only_call = only;
        few = few_of_one t;
        arrivals = arrivals_of_one t (reply.Sight sight) new.at (arrival_in new.at sight ∷ []) made.reply made.after refl;
        cells = λ tells key inside. subst (λ (w : Whole). cell_at old.rule (history_after old.actor history t) sight.place key ≡ act_all old.rule key (rest old.rule w sight.node key) (chain sight.tables key)) made.after (cell tells key inside (called old.actor t.step t.reply));
      })

  again_no_call : (answer : Reply B) → is_again answer ≡ true → called old.actor (Begin span) answer ≡ []
  again_no_call (reply.Sight sight) again = absurd (false≢true again)
  again_no_call answer again = refl

  pub turn_walk : (answer : Reply B) (tried : Result (Option (Sight B)) NoMemory) → IsAnswer answer tried → Made answer → OnTry tried (Began kind old history new Saw span) (CameTo kind old history new Saw 0 []) (CameTo kind old history new Saw 1 [])
  turn_walk answer (Ok (Some sight)) is made = began_by sight (subst Made is made)
  turn_walk answer (Ok None) is made =
      came_by_try kind old new history (Begin span) answer Saw (again_no_call answer is) made (Ok None) is
  turn_walk answer (Err fault) is made =
      came_by_try kind old new history (Begin span) answer Saw (ap (called old.actor (Begin span)) is) made (Err fault) is
