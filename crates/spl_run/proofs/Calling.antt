-- What the calls of the only holder of turns add to a history.
use Rattle.std.proofs.Common.{◌≡◌, ℕ, ◌+◌, ◌<◌, ◌≤◌, ◌^◌, Bool, true, List, [], ◌∷◌, ◌++◌, length, Option, Some, None, refl, sym, ap, subst, ◌∙◌, arith, append_assoc, append-nil, length-append}
use Rattle.std.specs.Prelude.{MatchOption}
use Rattle.std.specs.Option.{IsSomeAnd}
use Rattle.std.proofs.lemmas.Option.{slice_get_within}
use Rattle.spl_message.specs.declared.answer.Answer.{Answer}
use Rattle.spl_message.specs.declared.answer.Answer.TheVariants.{Done, Pairs, Stopped}
use Rattle.spl_message.specs.declared.answer.Cause.{Cause}
use Rattle.spl_message.specs.declared.call.Call.{Call}
use Rattle.spl_message.specs.declared.call.Call.TheVariants.{Put, Look, Piece}
use Rattle.spl_message.specs.declared.message.Message.{Message}
use Rattle.spl_message.proofs.Histories.{cell_at-append}
use Rattle.spl_message.specs.declared.span.Span.{Span}
use Rattle.spl_message.specs.Answer.{IsPieceOf, told_of}
use Rattle.spl_message.specs.Cell.{Cell}
use Rattle.spl_message.specs.History.{Event, History, cell_at}
use Rattle.spl_port.specs.declared.damaged.Damaged.{Damaged as Damage}
use Rattle.spl_port.specs.declared.damaged.Why.{Why}
use Rattle.spl_port.specs.Counts.{Counts, Shown}
use Rattle.spl_port.specs.Page.{page_fault}
use Rattle.spl_branch.specs.Branch.{Branch}
use Rattle.spl_branch.specs.Reading.{IsDamage}
use Rattle.spl_state.specs.Whole.{Whole}
use Rattle.spl_core.specs.Standing.{called}
use Rattle.spl_desk.specs.declared.fault.CallFault.{CallFault}
use Rattle.spl_desk.specs.declared.fault.CallFault.TheVariants as fault
use Rattle.spl_desk.specs.Branches.{branch_kind}
use Rattle.spl_desk.specs.Calls.{IsOnlyCall, IsSpentAt, Looked, MadeCall, MadeNoCall, span_of_key}
use Rattle.spl_desk.specs.Causes.{HasCallCause, IsDamageRead}
use Rattle.spl_desk.specs.Holder.{BranchKind, Holder}
use Rattle.spl_desk.specs.Turn.{Turn, history_after}
use Rattle.spl_desk.specs.Walk.{Walks, Went, calls_in, holder_at}
use Rattle.spl_range.specs.declared.pieces.Piece.{Piece as Part}
use Rattle.spl_range.specs.Pieces.{Pieced}
use Rattle.spl_range.specs.Stopping.{HasPieceCause}
use Rattle.spl_session.specs.Looking.{HasLookCause}
use Rattle.spl_run.specs.Faults.{cause_for}
use Rattle.spl_run.specs.Legal.{MayHavePlace}
use Rattle.spl_run.specs.Status.{MayStop, cause_of}
use Rattle.spl_run.specs.Turns.{HasReadDamage, IsMade, IsStoppedBy, as_counted}

module _ {B : Type 0} (kind : BranchKind B) where
  -- where nobody else makes turns, the history grows by the holder's own calls alone
  pub alone_saw : (holder : Holder) (history : History) (turns : List (Turn B)) (end : Whole) (seen : History) → holder.alone ≡ true → Walks kind holder history turns end seen → seen ≡ history ++ calls_in holder.actor turns
  alone_saw holder history [] end seen alone walks = walks.1 ∙ sym (append-nil history)
  alone_saw holder history (turn ∷ turns) end seen alone walks =
      let own : History = called holder.actor turn.step turn.reply in
      let later : History = calls_in holder.actor turns in
      let none : turn.others ≡ [] = (walks.0.alone alone).0 in
      alone_saw (holder_at holder turn.after) (history_after holder.actor history turn) turns end seen alone walks.1
      ∙ ap (λ (o : History). ((history ++ o) ++ own) ++ later) none
      ∙ ap (λ (h : History). (h ++ own) ++ later) (append-nil history)
      ∙ append_assoc history own later

  -- what holds of the turns of a walk may be said in other words
  pub went_as : (old : Holder) (history : History) (new : Holder) (Saw : History → Type 0) (One Two : List (Turn B) → History → Type 0) → Went kind old history new Saw One → ((turns : List (Turn B)) (seen : History) → Walks kind old history turns new.at seen → One turns seen → Two turns seen) → Went kind old history new Saw Two
  went_as old history new Saw One Two went f = record { turns = went.turns; seen = went.seen; walks = went.walks; saw = went.saw; says = f went.turns went.seen went.walks went.says }

  module _ (old : Holder) (history : History) (end : Whole) (turns : List (Turn B)) (seen : History) (alone : old.alone ≡ true) (walks : Walks kind old history turns end seen) where
    none_seen : calls_in old.actor turns ≡ [] → seen ≡ history ++ []
    none_seen none = alone_saw old history turns end seen alone walks ∙ ap (λ (h : History). history ++ h) none

    one_seen : (made : Call) (place : ℕ) → IsOnlyCall old.actor history made place turns seen → (seen ≡ history ++ record { actor = old.actor; call = made } ∷ []) × (place ≡ length history)
    one_seen made place one =
        let event : Event = record { actor = old.actor; call = made } in
        let is : seen ≡ history ++ event ∷ [] = alone_saw old history turns end seen alone walks ∙ ap (λ (h : History). history ++ h) one.only in
        let count : length seen ≡ length history + 1 = ap (λ (h : History). length h) is ∙ length-append history (event ∷ []) in
        let within : place < length seen = slice_get_within seen place event one.at in
        let behind : length history ≤ place = one.after in
        (is, omega (arith, count, within, behind))

some_and : {A : Type 0} (P Q : A → Type 0) (o : Option A) → ((x : A) → P x → Q x) → IsSomeAnd o P → IsSomeAnd o Q
some_and P Q None f h = absurd h
some_and P Q (Some x) f h = f x h

read_damage : (before after : Counts) (damage : Damage) → IsDamageRead before after damage → HasReadDamage before after
read_damage before after damage d = record {
  read = d.read;
  latest = some_and (λ (shown : Shown). (shown.at ≡ damage.at) × (page_fault damage.at shown.bytes ≡ Some damage.why)) (λ (shown : Shown). (why : Why) × (page_fault shown.at shown.bytes ≡ Some why)) after.last (λ (shown : Shown) p. (damage.why, subst (λ at. page_fault at shown.bytes ≡ Some damage.why) (sym p.0) p.1)) d.latest;
}

branch_damage : (before after : Counts) (damage : Damage) (branch : Branch) → IsDamage branch before after damage → HasReadDamage before after
branch_damage before after damage branch d = record { read = d.read; latest = some_and (λ (shown : Shown). (shown.at ≡ damage.at) × (page_fault shown.at shown.bytes ≡ Some damage.why)) (λ (shown : Shown). (why : Why) × (page_fault shown.at shown.bytes ≡ Some why)) after.last (λ (shown : Shown) p. (damage.why, p.1)) d.page }

spent_at : (turns : ℕ) (new : Holder) → IsSpentAt turns new → 2 ^ 40 ≤ new.turns
spent_at turns new spent = let least : 2 ^ 40 ≤ turns = spent.0 in let most : turns ≤ new.turns = spent.1 in omega (arith, least, most)

module _ (tells : Bool) (old : Holder) (history : History) (new : Holder) (Saw : History → Type 0) (before after : Counts) (alone : old.alone ≡ true) where
  -- a put that has a place
  pub put_made : (key : List ℕ) (message : Message) (place : ℕ) → MadeCall (branch_kind tells) old history new Saw (Put key message) place →
      Went (branch_kind tells) old history new Saw (IsMade tells old history before after new.turns (Put key message) (Some place) Done)
  put_made key message place made =
      went_as (branch_kind tells) old history new Saw (IsOnlyCall old.actor history (Put key message) place) (IsMade tells old history before after new.turns (Put key message) (Some place) Done) made
      (λ turns seen walks one.
      let is = one_seen (branch_kind tells) old history new.at turns seen alone walks (Put key message) place one in
      record { added = is.0; next = is.1; ends = (refl, λ told. refl) })

  module _ (key : List ℕ) (message : Message) where
    abbrev Stops : CallFault → List (Turn Branch) → History → Type 0
    Stops f turns seen = IsMade tells old history before after new.turns (Put key message) None (Stopped (cause_for f)) turns seen

    none_made : (f : CallFault) → MadeNoCall (branch_kind tells) old history new Saw → ((turns : List (Turn Branch)) → MayStop tells (Put key message) (cause_for f) × IsStoppedBy tells before after new.turns turns (cause_for f)) →
        Went (branch_kind tells) old history new Saw (Stops f)
    none_made f made why =
        went_as (branch_kind tells) old history new Saw (λ turns seen. calls_in old.actor turns ≡ []) (Stops f) made
        (λ turns seen walks none. record { added = none_seen (branch_kind tells) old history new.at turns seen alone walks none; next = tt; ends = (refl, (why turns).0, (why turns).1) })

    -- a put that was stopped
    pub put_stopped : (f : CallFault) → MadeNoCall (branch_kind tells) old history new Saw → HasCallCause (branch_kind tells) old history new Saw before after f → Went (branch_kind tells) old history new Saw (Stops f)
    put_stopped fault.Fault made cause = none_made fault.Fault made (λ turns. (tt, cause))
    put_stopped (fault.Damaged damage) made cause = none_made (fault.Damaged damage) made (λ turns. (cause.0, (cause.0, read_damage before after damage cause.1)))
    put_stopped fault.Full made cause =
        went_as (branch_kind tells) old history new Saw _ (Stops fault.Full) cause
        (λ turns seen walks says. record { added = none_seen (branch_kind tells) old history new.at turns seen alone walks says.0; next = tt; ends = (refl, tt, says.1) })
    put_stopped fault.Nodes made cause =
        went_as (branch_kind tells) old history new Saw _ (Stops fault.Nodes) cause
        (λ turns seen walks says. record { added = none_seen (branch_kind tells) old history new.at turns seen alone walks says.0; next = tt; ends = (refl, tt, says.1) })
    put_stopped (fault.Spent turns) made cause = none_made (fault.Spent turns) made (λ _. (tt, spent_at turns new cause))
    put_stopped fault.NoMemory made cause = none_made fault.NoMemory made (λ turns. (tt, tt))

  -- a lookup or a piece that was stopped, which has a place where it had begun
  read_stopped : (asked : Call) → ((place : Option ℕ) → MayHavePlace asked place) → (f : CallFault) → ((turns : List (Turn Branch)) → MayStop tells asked (cause_for f) × IsStoppedBy tells before after new.turns turns (cause_for f)) → (place : Option ℕ) →
      MatchOption place (MadeNoCall (branch_kind tells) old history new Saw) (λ p. MadeCall (branch_kind tells) old history new Saw (as_counted asked) p) →
      Went (branch_kind tells) old history new Saw (IsMade tells old history before after new.turns asked place (Stopped (cause_for f)))
  read_stopped asked may f why None made =
      went_as (branch_kind tells) old history new Saw (λ turns seen. calls_in old.actor turns ≡ []) (IsMade tells old history before after new.turns asked None (Stopped (cause_for f))) made
      (λ turns seen walks none. record {
        added = none_seen (branch_kind tells) old history new.at turns seen alone walks none;
        next = tt;
        ends = (may None, (why turns).0, (why turns).1);
      })
  read_stopped asked may f why (Some place) made =
      went_as (branch_kind tells) old history new Saw (IsOnlyCall old.actor history (as_counted asked) place) (IsMade tells old history before after new.turns asked (Some place) (Stopped (cause_for f))) made
      (λ turns seen walks one.
      let is = one_seen (branch_kind tells) old history new.at turns seen alone walks (as_counted asked) place one in
      record {
        added = is.0;
        next = is.1;
        ends = (may (Some place), (why turns).0, (why turns).1);
      })

  module _ (key : List ℕ) where
    told_ends : (value : Cell) (P : Type 0) (Q : Answer → Type 0) → P × Q (told_of value) → (R : Cause → Type 0) → MatchOption (cause_of (told_of value)) (P × Q (told_of value)) R
    told_ends None P Q h R = h
    told_ends (Some value) P Q h R = h

    -- a lookup that was answered
    pub look_made : (place : ℕ) (value : Cell) (answer : Answer) → answer ≡ told_of value → Looked (branch_kind tells) old history new Saw key place value →
        Went (branch_kind tells) old history new Saw (IsMade tells old history before after new.turns (Look key) (Some place) answer)
    look_made place value answer is looked = subst (λ a. Went (branch_kind tells) old history new Saw (IsMade tells old history before after new.turns (Look key) (Some place) a)) (sym is)
        (went_as (branch_kind tells) old history new Saw _ (IsMade tells old history before after new.turns (Look key) (Some place) (told_of value)) looked
        (λ turns seen walks says.
        let one = one_seen (branch_kind tells) old history new.at turns seen alone walks (Piece (span_of_key key)) place says.0 in
        let event : Event = record { actor = old.actor; call = Piece (span_of_key key) } in
        record {
          added = one.0;
          next = one.1;
          ends = told_ends value _ (λ a. tells ≡ true → a ≡ told_of (cell_at old.rule history (length history) key)) (
            refl,
            λ told. ap told_of (says.1 told
                ∙ ap (λ n. cell_at old.rule seen n key) one.1
                ∙ ap (λ h. cell_at old.rule h (length history) key) one.0
                ∙ cell_at-append old.rule history (event ∷ []) (length history) key (omega arith)),
          ) _;
        }))

    look_stops : (f : CallFault) → HasLookCause tells before after new f → (turns : List (Turn Branch)) → MayStop tells (Look key) (cause_for f) × IsStoppedBy tells before after new.turns turns (cause_for f)
    look_stops fault.Fault cause turns = (tt, cause)
    look_stops (fault.Damaged damage) cause turns = (cause.0, (cause.0, branch_damage before after damage cause.1.0 cause.1.1))
    look_stops fault.Full cause turns = absurd cause
    look_stops fault.Nodes cause turns = absurd cause
    look_stops (fault.Spent steps) cause turns = (tt, spent_at steps new cause)
    look_stops fault.NoMemory cause turns = (tt, tt)

    -- a lookup that was stopped
    pub look_stopped : (f : CallFault) (place : Option ℕ) → HasLookCause tells before after new f →
        MatchOption place (MadeNoCall (branch_kind tells) old history new Saw) (λ p. MadeCall (branch_kind tells) old history new Saw (Piece (span_of_key key)) p) →
        Went (branch_kind tells) old history new Saw (IsMade tells old history before after new.turns (Look key) place (Stopped (cause_for f)))
    look_stopped f place cause made = read_stopped (Look key) (λ place. tt) f (look_stops f cause) place made

  module _ (span : Span) where
    -- a piece that was answered
    pub piece_made : (piece : Part) → Pieced (branch_kind tells) old history new Saw span piece →
        Went (branch_kind tells) old history new Saw (IsMade tells old history before after new.turns (Piece span) (Some piece.place) (Pairs piece.span.to piece.pairs))
    piece_made piece pieced =
        went_as (branch_kind tells) old history new Saw _ (IsMade tells old history before after new.turns (Piece span) (Some piece.place) (Pairs piece.span.to piece.pairs)) pieced
        (λ turns seen walks says.
        let one = one_seen (branch_kind tells) old history new.at turns seen alone walks (Piece span) piece.place says.0 in
        let event : Event = record { actor = old.actor; call = Piece span } in
        record {
          added = one.0;
          next = one.1;
          ends = (
            refl,
            λ told.
                let there : IsPieceOf (cell_at old.rule (history ++ event ∷ []) (length history)) span (Pairs piece.span.to piece.pairs) =
                subst (λ h. IsPieceOf (cell_at old.rule h (length history)) span (Pairs piece.span.to piece.pairs)) one.0
                (subst (λ n. IsPieceOf (cell_at old.rule seen n) span (Pairs piece.span.to piece.pairs)) one.1 (says.1 told)) in
                subst (λ cells. IsPieceOf cells span (Pairs piece.span.to piece.pairs)) (λ i key. cell_at-append old.rule history (event ∷ []) (length history) key (omega arith) i) there,
          );
        })

    piece_stops : (f : CallFault) → HasPieceCause tells before after new f → (turns : List (Turn Branch)) → MayStop tells (Piece span) (cause_for f) × IsStoppedBy tells before after new.turns turns (cause_for f)
    piece_stops fault.Fault cause turns = (tt, cause)
    piece_stops (fault.Damaged damage) cause turns = (cause.0, (cause.0, branch_damage before after damage cause.1.0 cause.1.1))
    piece_stops fault.Full cause turns = absurd cause
    piece_stops fault.Nodes cause turns = absurd cause
    piece_stops (fault.Spent steps) cause turns = (tt, spent_at steps new cause)
    piece_stops fault.NoMemory cause turns = (tt, tt)

    -- a piece that was stopped
    pub piece_stopped : (f : CallFault) (place : Option ℕ) → HasPieceCause tells before after new f →
        MatchOption place (MadeNoCall (branch_kind tells) old history new Saw) (λ p. MadeCall (branch_kind tells) old history new Saw (Piece span) p) →
        Went (branch_kind tells) old history new Saw (IsMade tells old history before after new.turns (Piece span) place (Stopped (cause_for f)))
    piece_stopped f place cause made = read_stopped (Piece span) (λ place. tt) f (piece_stops f cause) place made
