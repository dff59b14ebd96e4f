-- What an actor's sight keeps over several steps of others, and how walks are joined.
use Rattle.std.proofs.Common.{set, ◌≡◌, ℕ, zero, suc, ◌+◌, ◌<◌, Bool, List, [], ◌∷◌, ◌++◌, length, refl, ◌∙◌, ap, sym, subst, Some, None, arith, append-nil, length-append}
use Rattle.std.specs.Prelude.{slice_get}
use Rattle.std.proofs.lemmas.List.{append_assoc}
use Rattle.std.proofs.lemmas.Grind.{flat_map-append}
use Rattle.std.proofs.lemmas.Option.{slice_get_within}
use Rattle.spl_message.specs.declared.call.Call.{Call}
use Rattle.spl_message.specs.History.{Event, History}
use Rattle.spl_message.specs.Rule.{Rule}
use Rattle.spl_numbers.specs.Numbers.{has}
use Rattle.spl_holds.proofs.HoldsLemmas.{grip_of-without_actor}
use Rattle.spl_abandon.specs.Abandoning.{HasAbandoned}
use Rattle.spl_state.specs.Actor.{actor_in, cleared}
use Rattle.spl_state.specs.Frame.{refused}
use Rattle.spl_core.specs.Steps.{IsStep}
use Rattle.spl_state.specs.declared.actor.Actor.{Actor}
use Rattle.spl_state.specs.declared.reply.Reply.{Reply}
use Rattle.spl_state.specs.Sight.{KeepsSight}
use Rattle.spl_state.specs.Whole.{Whole}
use Rattle.spl_state.proofs.Frames.{still}
use Rattle.spl_core.specs.declared.step.Step.{Step}
use Rattle.spl_core.specs.Standing.{called}
use Rattle.spl_desk.specs.Holder.{BranchKind, Holder, IsSameHolder}
use Rattle.spl_desk.specs.Turn.{Turn, IsTurn, MadeTurn, history_after}
use Rattle.spl_desk.specs.Walk.{Walks, Went, holder_at, calls_in}
use Rattle.spl_desk.specs.Calls.{HasCalled, HasNothing, IsOnlyCall, MadeCall, MadeNoCall}

-- where nothing happens the sight stays
pub keeps_nothing : (rule : Rule) (tells : Bool) (whole : Whole) (actor : ℕ) → KeepsSight rule tells whole whole actor
keeps_nothing rule tells whole actor = still rule tells whole whole actor refl refl refl refl refl (λ node. refl)

none_is_some : {A : Type 0} (x : A) → None ≡ Some x → ⊥
none_is_some x is = cc

-- what a longer list has at a place
pub get_before : {X : Type 0} (first more : List X) (at : ℕ) (x : X) → slice_get first at ≡ Some x → slice_get (first ++ more) at ≡ Some x
get_before [] more at x is = absurd (none_is_some x is)
get_before (y ∷ first) more zero x is = is
get_before (y ∷ first) more (suc at) x is = get_before first more at x is

-- what a list has behind the first one
get_seam : {X : Type 0} (first : List X) (x : X) → slice_get (first ++ x ∷ []) (length first) ≡ Some x
get_seam [] x = refl
get_seam (y ∷ first) x = get_seam first x

cleared_parts : (actors : List Actor) (at : ℕ) → ((actor_in (set actors at (cleared (actor_in actors at))) at).descent ≡ None) × ((actor_in (set actors at (cleared (actor_in actors at))) at).job ≡ None)
cleared_parts [] at = (refl, refl)
cleared_parts (a ∷ actors) zero = (refl, refl)
cleared_parts (a ∷ actors) (suc at) = cleared_parts actors at

-- the holders differ in the core and in how many steps they made
pub record IsAlike (old new : Holder) : Type 0 where
  pub alone : new.alone ≡ old.alone
  pub actor : new.actor ≡ old.actor
  pub rule : new.rule ≡ old.rule

module _ {B : Type 0} (kind : BranchKind B) where
  turn_from : (a b : Holder) (history : History) (turn : Turn B) → IsAlike a b → b.at ≡ a.at → IsTurn kind a history turn → IsTurn kind b history turn
  turn_from a b history turn alike at legal = record {
    apart = rw alike.actor legal.apart;
    alone = rw (alike.alone, at) legal.alone;
    kept = rw (alike.rule, alike.actor, at) legal.kept;
    sound = legal.sound;
    stood = rw alike.rule legal.stood;
    step = rw (alike.rule, alike.actor) legal.step;
    after = legal.after;
    stands = rw (alike.rule, alike.actor) legal.stands;
  }

  -- a walk asks nothing of how many steps the holder had made
  pub walks_from : (a b : Holder) (history : History) (turns : List (Turn B)) (end : Whole) (seen : History) → IsAlike a b → b.at ≡ a.at → Walks kind a history turns end seen → Walks kind b history turns end seen
  walks_from a b history [] end seen alike at walks = (walks.0 ∙ sym at, walks.1)
  walks_from a b history (turn ∷ turns) end seen alike at walks =
      let rest : Walks kind (holder_at b turn.after) (history_after a.actor history turn) turns end seen =
      walks_from (holder_at a turn.after) (holder_at b turn.after) (history_after a.actor history turn) turns end seen (record { alone = alike.alone; actor = alike.actor; rule = alike.rule }) refl walks.1 in
      (turn_from a b history turn alike at walks.0, subst (λ (n : ℕ). Walks kind (holder_at b turn.after) (history_after n history turn) turns end seen) (sym alike.actor) rest)

  -- one walk behind another
  pub walks_on : (holder : Holder) (history : History) (first : List (Turn B)) (mid : Whole) (between : History) (more : List (Turn B)) (end : Whole) (seen : History) → Walks kind holder history first mid between → Walks kind (holder_at holder mid) between more end seen → Walks kind holder history (first ++ more) end seen
  walks_on holder history [] mid between more end seen one two =
      let from : Walks kind (holder_at holder holder.at) between more end seen = subst (λ (w : Whole). Walks kind (holder_at holder w) between more end seen) one.0 two in
      subst (λ (h : History). Walks kind holder h more end seen) one.1 from
  walks_on holder history (turn ∷ first) mid between more end seen one two =
      (one.0, walks_on (holder_at holder turn.after) (history_after holder.actor history turn) first mid between more end seen one.1 two)

  -- what was seen only grows
  pub walks_more : (holder : Holder) (history : History) (turns : List (Turn B)) (end : Whole) (seen : History) → Walks kind holder history turns end seen → (more : History) × (seen ≡ history ++ more)
  walks_more holder history [] end seen walks = ([], walks.1 ∙ sym (append-nil history))
  walks_more holder history (turn ∷ turns) end seen walks =
      let own = called holder.actor turn.step turn.reply in
      let rest = walks_more (holder_at holder turn.after) (history_after holder.actor history turn) turns end seen walks.1 in
      (turn.others ++ (own ++ rest.0), rest.1 ∙ append_assoc (history ++ turn.others) own rest.0 ∙ append_assoc history turn.others (own ++ rest.0))

  pub calls_on : (actor : ℕ) (first more : List (Turn B)) → calls_in actor (first ++ more) ≡ calls_in actor first ++ calls_in actor more
  calls_on actor first more = flat_map-append (λ (turn : Turn B). called actor turn.step turn.reply) first more

  module _ (old : Holder) (history : History) where
    -- no turn
    pub went_none : (new : Holder) (Saw : History → Type 0) (Says : List (Turn B) → History → Type 0) → new.at ≡ old.at → Saw history → Says [] history → Went kind old history new Saw Says
    went_none new Saw Says at saw says = record { turns = []; seen = history; walks = (at, refl); saw = saw; says = says }

    -- one turn
    pub went_turn : (new : Holder) (made : Step B) (answer : Reply B) (Saw : History → Type 0) (Says : List (Turn B) → History → Type 0) (turn : MadeTurn kind old new history made answer Saw) → Says (turn.turn ∷ []) (history_after old.actor history turn.turn) → Went kind old history new Saw Says
    went_turn new made answer Saw Says turn says = record {
      turns = turn.turn ∷ [];
      seen = history_after old.actor history turn.turn;
      walks = (turn.legal, (sym turn.after, refl));
      saw = turn.saw;
      says = says;
    }

    -- some turns, and then more
    pub went_on : (mid new : Holder) (Before Saw : History → Type 0) (One Two : List (Turn B) → History → Type 0) (Says : List (Turn B) → History → Type 0) → IsAlike old mid → (one : Went kind old history mid Before One) → Went kind mid one.seen new Saw Two → ((more : List (Turn B)) (seen : History) → Walks kind mid one.seen more new.at seen → Two more seen → Says (one.turns ++ more) seen) → Went kind old history new Saw Says
    went_on mid new Before Saw One Two Says alike one two says =
        let back : Walks kind (holder_at old mid.at) one.seen two.turns new.at two.seen =
        walks_from mid (holder_at old mid.at) one.seen two.turns new.at two.seen (record { alone = sym alike.alone; actor = sym alike.actor; rule = sym alike.rule }) refl two.walks in
        record {
          turns = one.turns ++ two.turns;
          seen = two.seen;
          walks = walks_on old history one.turns mid.at one.seen two.turns new.at two.seen one.walks back;
          saw = two.saw;
          says = says two.turns two.seen two.walks two.says;
        }

    pub no_call_on : (mid : Holder) (first more : List (Turn B)) → mid.actor ≡ old.actor → calls_in old.actor first ≡ [] → (calls : History) → calls_in mid.actor more ≡ calls → calls_in old.actor (first ++ more) ≡ calls
    no_call_on mid first more same none calls is =
        calls_on old.actor first more ∙ ap (λ (h : History). h ++ calls_in old.actor more) none ∙ ap (λ (n : ℕ). calls_in n more) (sym same) ∙ is

    -- no call, and then no call
    pub none_then_none : (mid new : Holder) (Before Saw : History → Type 0) → IsAlike old mid → MadeNoCall kind old history mid Before → ((seen : History) → Before seen → MadeNoCall kind mid seen new Saw) → MadeNoCall kind old history new Saw
    none_then_none mid new Before Saw alike one two =
        went_on mid new Before Saw (λ turns seen. calls_in old.actor turns ≡ []) (λ turns seen. calls_in mid.actor turns ≡ []) (λ turns seen. calls_in old.actor turns ≡ []) alike one (two one.seen one.saw)
        (λ more seen walks none. no_call_on mid one.turns more alike.actor one.says [] none)

    -- no call, and then one
    pub none_then_call : (mid new : Holder) (Before Saw : History → Type 0) (made : Call) (place : ℕ) → IsAlike old mid → MadeNoCall kind old history mid Before → ((seen : History) → Before seen → MadeCall kind mid seen new Saw made place) → MadeCall kind old history new Saw made place
    none_then_call mid new Before Saw made place alike one two =
        went_on mid new Before Saw (λ turns seen. calls_in old.actor turns ≡ []) (IsOnlyCall mid.actor one.seen made place) (IsOnlyCall old.actor history made place) alike one (two one.seen one.saw)
        (λ more seen walks call.
        let grown = walks_more old history one.turns mid.at one.seen one.walks in
        let count : length one.seen ≡ length history + length grown.0 = ap (λ (h : History). length h) grown.1 ∙ length-append history grown.0 in
        record {
          only = no_call_on mid one.turns more alike.actor one.says (record { actor = old.actor; call = made } ∷ []) (rw (sym alike.actor) call.only);
          at = rw (sym alike.actor) call.at;
          after = omega (arith, count, call.after);
        })

    -- one call, and then none
    pub call_then_none : (mid new : Holder) (Before Saw : History → Type 0) (made : Call) (place : ℕ) → IsAlike old mid → MadeCall kind old history mid Before made place → ((seen : History) → Before seen → MadeNoCall kind mid seen new Saw) → MadeCall kind old history new Saw made place
    call_then_none mid new Before Saw made place alike one two =
        went_on mid new Before Saw (IsOnlyCall old.actor history made place) (λ turns seen. calls_in mid.actor turns ≡ []) (IsOnlyCall old.actor history made place) alike one (two one.seen one.saw)
        (λ more seen walks none.
        let grown = walks_more mid one.seen more new.at seen walks in
        let within : place < length one.seen = slice_get_within one.seen place (record { actor = old.actor; call = made }) one.says.at in
        record {
          only =
              calls_on old.actor one.turns more
              ∙ ap (λ (h : History). h ++ calls_in old.actor more) one.says.only
              ∙ ap (λ (n : ℕ). record { actor = old.actor; call = made } ∷ calls_in n more) (sym alike.actor)
              ∙ ap (λ (h : History). record { actor = old.actor; call = made } ∷ h) none;
          at = ap (λ (h : History). slice_get h place) grown.1 ∙ get_before one.seen grown.0 place (record { actor = old.actor; call = made }) one.says.at;
          after = one.says.after;
        })

-- an actor that has nothing has nothing whatever the others do
pub still_nothing : (rule : Rule) (tells : Bool) (old new : Whole) (actor : ℕ) → KeepsSight rule tells old new actor → HasNothing old actor → HasNothing new actor
still_nothing rule tells old new actor keeps nothing = record {
  descent = ap (λ (a : Actor). a.descent) keeps.actor ∙ nothing.descent;
  job = ap (λ (a : Actor). a.job) keeps.actor ∙ nothing.job;
  latches = λ node. keeps.grips node ∙ nothing.latches node;
  extents = λ extent. ap (λ (n : List Bool). has n extent) keeps.extents ∙ nothing.extents extent;
}

-- and so after a step that leaves the actors, the latches and the extents
pub same_nothing : (old new : Whole) (actor : ℕ) → new.actors ≡ old.actors → new.grips ≡ old.grips → new.owners ≡ old.owners → HasNothing old actor → HasNothing new actor
same_nothing old new actor actors grips owners nothing = record {
  descent = rw actors nothing.descent;
  job = rw actors nothing.job;
  latches = λ node. rw grips (nothing.latches node);
  extents = λ extent. rw owners (nothing.extents extent);
}

-- what an actor gave back is gone
pub abandoned_nothing : (old new : Whole) (actor : ℕ) → HasAbandoned old new actor → HasNothing new actor
abandoned_nothing old new actor abandoned = record {
  descent = rw abandoned.actors (cleared_parts old.actors actor).0;
  job = rw abandoned.actors (cleared_parts old.actors actor).1;
  latches = λ node. rw abandoned.grips (grip_of-without_actor old.grips actor node);
  extents = abandoned.nothing;
}

-- the holder after so many steps more, whose actor has nothing
pub has_called : (old new : Holder) (steps : ℕ) → IsSameHolder old new steps → HasNothing new.at old.actor → HasCalled old new
has_called old new steps same nothing = record {
  alone = same.alone;
  actor = same.actor;
  rule = same.rule;
  turns = rw same.turns (omega arith);
  nothing = rw same.actor nothing;
}

-- one turn, as the step that was made and its answer
module _ {B : Type 0} (kind : BranchKind B) (old new : Holder) (history : History) (made : Step B) (answer : Reply B) (Saw : History → Type 0) (turn : MadeTurn kind old new history made answer Saw) where
  pub step_made : IsStep kind.number_of kind.data_of old.rule (refused turn.turn.before) old.actor made answer new.at
  step_made =
      let on : Step B → Reply B → Whole → Type 0 = λ s r w. IsStep kind.number_of kind.data_of old.rule (refused turn.turn.before) old.actor s r w in
      subst (λ s. on s answer new.at) turn.step
      (subst (λ r. on turn.turn.step r new.at) turn.reply
      (subst (λ w. on turn.turn.step turn.turn.reply w) turn.after turn.legal.step))

  called_made : called old.actor turn.turn.step turn.turn.reply ≡ called old.actor made answer
  called_made = ap (λ s. called old.actor s turn.turn.reply) turn.step ∙ ap (λ r. called old.actor made r) turn.reply

  pub calls_made : calls_in old.actor (turn.turn ∷ []) ≡ called old.actor made answer
  calls_made = append-nil (called old.actor turn.turn.step turn.turn.reply) ∙ called_made

  pub nothing_before : HasNothing old.at old.actor → HasNothing (refused turn.turn.before) old.actor
  nothing_before nothing =
      same_nothing turn.turn.before (refused turn.turn.before) old.actor refl refl refl
      (still_nothing old.rule kind.tells old.at turn.turn.before old.actor turn.legal.kept nothing)

  -- a turn without a call
  pub no_call : called old.actor made answer ≡ [] → MadeNoCall kind old history new Saw
  no_call none = went_turn kind old history new made answer Saw (λ turns seen. calls_in old.actor turns ≡ []) turn (calls_made ∙ none)

  -- a turn with one, at the next place
  pub one_call : (call : Call) (place : ℕ) → called old.actor made answer ≡ record { actor = old.actor; call = call } ∷ [] → place ≡ turn.turn.before.counters.places → MadeCall kind old history new Saw call place
  one_call call place one is =
      let event : Event = record { actor = old.actor; call = call } in
      let known = history ++ turn.turn.others in
      let count : place ≡ length known = is ∙ turn.legal.stood.places in
      let longer : length known ≡ length history + length turn.turn.others = length-append history turn.turn.others in
      went_turn kind old history new made answer Saw (IsOnlyCall old.actor history call place) turn (record {
        only = calls_made ∙ one;
        at =
            ap (λ (h : History). slice_get (known ++ h) place) (called_made ∙ one)
            ∙ ap (λ (n : ℕ). slice_get (known ++ event ∷ []) n) count
            ∙ get_seam known event;
        after = omega (arith, count, longer);
      })
