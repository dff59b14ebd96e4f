-- What steps leave of the history that a core stands for.
use Rattle.std.proofs.Common.{◌≡◌, ◌≢◌, ℕ, zero, suc, ◌+◌, ◌<◌, Bool, true, cond, List, [], ◌∷◌, ◌++◌, Some, None, length, length-append, refl, sym, ap, subst, ◌∙◌}
use Rattle.std.specs.Prelude.{replicate, slice_index_or}
use Rattle.std.proofs.lemmas.Bool.Decides.{same_from_decides}
use Rattle.std.proofs.lemmas.List.{append-nil}
use Rattle.std.proofs.lemmas.Slice.Eq.{bytes_eq-Decides}
use Rattle.spl_base.specs.declared.TheConstants.{ACTORS}
use Rattle.spl_message.specs.declared.call.Call.TheVariants as call
use Rattle.spl_message.specs.declared.message.Message.{Message}
use Rattle.spl_message.specs.Cell.{Cell}
use Rattle.spl_message.specs.History.{Event, History, cell_at}
use Rattle.spl_message.specs.Key.{same_key}
use Rattle.spl_message.specs.Message.{act}
use Rattle.spl_message.specs.declared.span.Span.{Span}
use Rattle.spl_message.specs.Rule.{Rule}
use Rattle.spl_message.proofs.Histories.{cell_at-more, act_all-cond}
use Rattle.spl_tables.specs.Memtables.{FrozenData}
use Rattle.spl_state.specs.declared.actor.Actor.{Actor}
use Rattle.spl_state.specs.declared.counters.Counters.{Counters}
use Rattle.spl_state.specs.declared.job.Job.{Job}
use Rattle.spl_state.specs.declared.job.Job.TheVariants.{Pack, Merge}
use Rattle.spl_state.specs.Actor.{idle, actor_in}
use Rattle.spl_state.specs.Actors.{HasTable}
use Rattle.spl_state.specs.Frame.{IsFramed, Others, refused}
use Rattle.spl_state.specs.Sight.{KeepsSight, SeesSource}
use Rattle.spl_state.specs.Sound.{AreDrafts, IsEmpty, meaning}
use Rattle.spl_state.specs.Whole.{Whole, branches}
use Rattle.spl_steps.specs.Memory.{HasPut, placed}
use Rattle.spl_state.specs.declared.reply.Reply.{Reply}
use Rattle.spl_state.specs.declared.reply.Reply.TheVariants.{Placed, Sight}
use Rattle.spl_descent.specs.Descents.{begun}
use Rattle.spl_descent.specs.Sights.{OnSight}
use Rattle.spl_core.specs.Standing.{StandsFor, put_called, begin_called}

copies : (count at : ℕ) → slice_index_or (replicate count idle) at idle ≡ idle
copies zero at = refl
copies (suc count) zero = refl
copies (suc count) (suc at) = copies count at

none_is_some : {A : Type 0} (x : A) → None ≡ Some x → ⊥
none_is_some x is = cc

module _ (rule : Rule) (tells : Bool) where
  -- a new core stands for no call
  empty_means : (extents callers : ℕ) (whole : Whole) → IsEmpty extents callers whole → (key : List ℕ) → meaning rule whole key ≡ None
  empty_means extents callers whole empty key = rw (empty.nodes, empty.tables) refl

  pub empty_stands : (extents callers : ℕ) (whole : Whole) → IsEmpty extents callers whole → StandsFor rule tells whole []
  empty_stands extents callers whole empty = record {
    places = ap (λ (c : Counters). c.places) empty.counters;
    means = λ told key. empty_means extents callers whole empty key;
    drafts = λ told number job is.
        let none : (actor_in whole.actors number).job ≡ None = ap (λ (actors : List Actor). (actor_in actors number).job) empty.actors ∙ ap (λ (a : Actor). a.job) (copies ACTORS number) in
        absurd (none_is_some job (sym none ∙ is));
  }

  -- a step that is counted
  pub counted_stands : (old : Whole) (history : History) → StandsFor rule tells old history → StandsFor rule tells (refused old) history
  counted_stands old history stands = record { places = stands.places; means = stands.means; drafts = stands.drafts }

  -- a step that has no place
  pub framed_stands : (old new : Whole) (actor : ℕ) (history : History) → IsFramed rule tells old new actor → new.counters.places ≡ old.counters.places → StandsFor rule tells old history → StandsFor rule tells new (history ++ [])
  framed_stands old new actor history framed places stands =
      subst (λ (h : History). StandsFor rule tells new h) (sym (append-nil history)) (record {
        places = places ∙ stands.places;
        means = λ told key. framed.means told key ∙ stands.means told key;
        drafts = framed.drafts;
      })

  same_key_both : (a b : List ℕ) → same_key a b ≡ same_key b a
  same_key_both a b = same_from_decides (same_key a b) (same_key b a) (bytes_eq-Decides a b) ((λ same. sym ((bytes_eq-Decides b a).0 same)), λ same. (bytes_eq-Decides b a).1 (sym same))

  -- what the tables of the frozen memtables are asked for stays
  module _ (old new : Whole) (has : HasPut old new) where
    has_table : (j : Job) → HasTable rule (branches old) old.tables.frozen j → HasTable rule (branches old) new.tables.frozen j
    has_table (Pack n table) has_it = subst (λ (f : List FrozenData). HasTable rule (branches old) f (Pack n table)) (sym has.frozen) has_it
    has_table (Merge n run) has_it = has_it

    put_drafts : AreDrafts rule old → AreDrafts rule new
    put_drafts drafts =
        let kept : AreDrafts rule (record old { tables = new.tables; counters = placed old.counters }) = λ number job is published. has_table job (drafts number job is published) in
        subst (λ (w : Whole). AreDrafts rule w) (sym has.all) kept

  -- a put that has a place
  pub put_stands : (old new : Whole) (actor : ℕ) (key : List ℕ) (message : Message) (history : History) → HasPut old new → (tells ≡ true → (other : List ℕ) → meaning rule new other ≡ cond (same_key other key) (act rule other (meaning rule old other) message) (meaning rule old other)) → StandsFor rule tells old history → StandsFor rule tells new (history ++ record { actor = actor; call = call.Put key message } ∷ [])
  put_stands old new actor key message history has means stands =
      let event : Event = record { actor = actor; call = call.Put key message } in
      let count : length (history ++ event ∷ []) ≡ length history + 1 = length-append history (event ∷ []) in
      let placed_more : new.counters.places ≡ old.counters.places + 1 = ap (λ (w : Whole). w.counters.places) has.all in
      record {
        places = placed_more ∙ ap (λ n. n + 1) stands.places ∙ sym count;
        means = λ told other.
            let cell = cell_at rule history (length history) other in
            means told other
            ∙ ap (λ (c : Cell). cond (same_key other key) (act rule other c message) c) (stands.means told other)
            ∙ ap (λ (b : Bool). cond b (act rule other cell message) cell) (same_key_both other key)
            ∙ sym (act_all-cond rule other cell message (same_key key other))
            ∙ sym (cell_at-more rule history event other)
            ∙ ap (λ n. cell_at rule (history ++ event ∷ []) n other) (sym count);
        drafts = λ told. put_drafts old new has (stands.drafts told);
      }

  -- what another actor relies on, where the step was counted
  pub sight_from_counted : (old new : Whole) (other : ℕ) → KeepsSight rule tells (refused old) new other → KeepsSight rule tells old new other
  sight_from_counted old new other keeps = record {
    actor = keeps.actor;
    grips = keeps.grips;
    extents = keeps.extents;
    descent = λ descent is. record {
      height = (keeps.descent descent is).height;
      pivots = (keeps.descent descent is).pivots;
      tables = (keeps.descent descent is).tables;
      rest = (keeps.descent descent is).rest;
    };
    job = λ job is. sees job (keeps.job job is);
    written = λ node writes. record {
      pivots = (keeps.written node writes).pivots;
      bundles = (keeps.written node writes).bundles;
      split = (keeps.written node writes).split;
    };
  }
    where
      sees : (job : Job) → SeesSource (refused old) new job → SeesSource old new job
      sees (Pack number table) seen = seen
      sees (Merge number run) seen = seen

  -- a step without a place, that was counted first
  module _ (old mid new : Whole) (actor : ℕ) (is_counted : mid ≡ refused old) where
    at_counted : (drafts : tells ≡ true → AreDrafts rule old) → tells ≡ true → AreDrafts rule mid
    at_counted drafts told = subst (λ (w : Whole). AreDrafts rule w) (sym is_counted) (drafts told)

    pub others_framed : ((tells ≡ true → AreDrafts rule mid) → IsFramed rule tells mid new actor) → (tells ≡ true → AreDrafts rule old) → (other : ℕ) → other < ACTORS → other ≢ actor → KeepsSight rule tells old new other
    others_framed framed drafts other below apart =
        let keeps = (framed (at_counted drafts)).others other below apart in
        sight_from_counted old new other (subst (λ (w : Whole). KeepsSight rule tells w new other) is_counted keeps)

    pub others_all : Others rule tells mid new → (other : ℕ) → other < ACTORS → KeepsSight rule tells old new other
    others_all keeps other below = sight_from_counted old new other (subst (λ (w : Whole). KeepsSight rule tells w new other) is_counted (keeps other below))

    pub stands_counted : (history : History) → StandsFor rule tells old history → StandsFor rule tells mid history
    stands_counted history stands = subst (λ (w : Whole). StandsFor rule tells w history) (sym is_counted) (counted_stands old history stands)

    pub stands_framed : ((tells ≡ true → AreDrafts rule mid) → IsFramed rule tells mid new actor) → new.counters.places ≡ mid.counters.places → (history : History) → StandsFor rule tells old history → StandsFor rule tells new (history ++ [])
    stands_framed framed places history stands =
        let at_mid = stands_counted history stands in
        framed_stands mid new actor history (framed at_mid.drafts) places at_mid

    -- a put, with a place or without one
    pub stands_put : {B : Type 0} (key : List ℕ) (message : Message) (reply : Reply B) → ((place : ℕ) → reply ≡ Placed place → HasPut mid new) → (((place : ℕ) → reply ≢ Placed place) → new ≡ mid) → ((place : ℕ) → reply ≡ Placed place → tells ≡ true → (other : List ℕ) → meaning rule new other ≡ cond (same_key other key) (act rule other (meaning rule mid other) message) (meaning rule mid other)) → (history : History) → StandsFor rule tells old history → StandsFor rule tells new (history ++ put_called actor key message reply)
    stands_put key message (Placed place) has stays means history stands = put_stands mid new actor key message history (has place refl) (means place refl) (stands_counted history stands)
    stands_put key message reply has stays means history stands =
        let never : (place : ℕ) → reply ≢ Placed place = λ place is. cc in
        let same = subst (λ (w : Whole). StandsFor rule tells w history) (sym (stays never)) (stands_counted history stands) in
        subst (λ (h : History). StandsFor rule tells new h) (sym (append-nil history)) same

-- the begin of a descent, with a place or without one
module _ (rule : Rule) (tells : Bool) (old mid new : Whole) (actor : ℕ) (is_counted : mid ≡ refused old) where
  pub stands_begin : {B : Type 0} (span : Span) (reply : Reply B) → ((tells ≡ true → AreDrafts rule mid) → IsFramed rule tells mid new actor) → OnSight reply (λ sight. new ≡ begun mid actor span) (new ≡ mid) → (history : History) → StandsFor rule tells old history → StandsFor rule tells new (history ++ begin_called actor span reply)
  stands_begin span (Sight sight) framed state history stands =
      let event : Event = record { actor = actor; call = call.Piece span } in
      let at_mid = stands_counted rule tells old mid new actor is_counted history stands in
      let count : length (history ++ event ∷ []) ≡ length history + 1 = length-append history (event ∷ []) in
      let frame = framed at_mid.drafts in
      record {
        places = ap (λ (w : Whole). w.counters.places) state ∙ ap (λ n. n + 1) at_mid.places ∙ sym count;
        means = λ told key.
            frame.means told key
            ∙ at_mid.means told key
            ∙ sym (cell_at-more rule history event key)
            ∙ ap (λ n. cell_at rule (history ++ event ∷ []) n key) (sym count);
        drafts = frame.drafts;
      }
  stands_begin span reply framed state history stands =
      let at_mid = stands_counted rule tells old mid new actor is_counted history stands in
      let same = subst (λ (w : Whole). StandsFor rule tells w history) (sym state) at_mid in
      subst (λ (h : History). StandsFor rule tells new h) (sym (append-nil history)) same
