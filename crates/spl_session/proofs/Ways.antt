-- The turns and the reads of a lookup, part by part.
use Rattle.std.proofs.Common.{◌≡◌, ℕ, ◌+◌, ◌<◌, ◌≤◌, Bool, true, List, [], ◌∷◌, ◌++◌, length, refl, sym, ap, ap₂, subst, ◌∙◌, arith, length-append}
use Rattle.std.specs.Prelude.{slice_get, sum_by}
use Rattle.std.proofs.lemmas.Option.{slice_get_within}
use Rattle.spl_message.specs.declared.call.Call.TheVariants as call
use Rattle.spl_message.specs.History.{Event, History}
use Rattle.spl_port.specs.Counts.{Counts}
use Rattle.spl_branch.specs.Branch.{Branch}
use Rattle.spl_branch.specs.Reading.{reach_of}
use Rattle.spl_state.specs.declared.sight.Sight.{Sight}
use Rattle.spl_desk.specs.Calls.{IsOnlyCall, MadeNoCall, span_of_key}
use Rattle.spl_desk.specs.Holder.{BranchKind, Holder}
use Rattle.spl_desk.specs.Turn.{Turn}
use Rattle.spl_desk.specs.Walk.{Walks, Went, calls_in}
use Rattle.spl_desk.proofs.Walks.{IsAlike, calls_on, get_before, no_call_on, went_none, went_on, walks_more}
use Rattle.spl_down.specs.Arrivals.{AreTurns, Arrival, CameTo, arrival_in, arrivals_in, height_in, others_than_again, reach_at, reach_in, top_in, first_height}
use Rattle.spl_down.specs.Descending.{Began, IsBegin}
use Rattle.spl_down.proofs.Answers.{arrivals_on, others_on, reach_on}
use Rattle.spl_session.specs.Reaching.{IsWay, IsWithinReach}

module _ (kind : BranchKind Branch) (tells : Bool) (key : List ℕ) where
  -- how far the sights of these arrivals reach
  abbrev pub reach_of_all : List (Arrival Branch) → ℕ
  reach_of_all arrivals = sum_by (λ (arrival : Arrival Branch). reach_at reach_of key arrival.sight) arrivals

  module _ (old : Holder) (history : History) where
    abbrev pub Way : Holder → (History → Type 0) → Counts → Counts → ℕ → ℕ → ℕ → ℕ → Type 0
    Way new Saw before after left most unread most_read = Went kind old history new Saw (λ turns seen. IsWay tells key old.actor before after left most unread most_read turns)

    -- before the first turn
    pub way_none : (Saw : History → Type 0) (counts : Counts) (left most unread most_read : ℕ) → Saw history → left ≤ most → unread ≤ most_read → Way old Saw counts counts left most unread most_read
    way_none Saw counts left most unread most_read saw within near =
        went_none kind old history old Saw (λ turns seen. IsWay tells key old.actor counts counts left most unread most_read turns) refl saw (record {
          calls = refl;
          few = omega (arith, within);
          reads = λ is. omega (arith, near);
        })

    -- some more turns that came to these nodes, and more reads
    pub way_on : (mid new : Holder) (Before Saw : History → Type 0) (before between after : Counts) (left most unread most_read made all later_left later_unread : ℕ) (arrivals : List (Arrival Branch)) → IsAlike old mid → Way mid Before before between left most unread most_read → ((seen : History) → Before seen → CameTo kind mid seen new Saw made arrivals) → later_left + made + most ≤ left + all → (tells ≡ true → after.reads + later_unread ≤ between.reads + (unread + reach_of_all arrivals)) → Way new Saw before after later_left all later_unread most_read
    way_on mid new Before Saw before between after left most unread most_read made all later_left later_unread arrivals alike one two turns reads =
        went_on kind old history mid new Before Saw (λ turns seen. IsWay tells key old.actor before between left most unread most_read turns) (λ turns seen. AreTurns mid.actor [] made arrivals turns) (λ turns seen. IsWay tells key old.actor before after later_left all later_unread most_read turns)
        alike one (two one.seen one.saw)
        (λ more seen walks says.
        let sum = others_on one.turns more in
        let first = one.says.few in
        let then = says.few in
        let reach = reach_on reach_of key one.turns more in
        let same : reach_in reach_of key more ≡ reach_of_all arrivals = ap reach_of_all says.arrivals in
        record {
          calls = no_call_on kind old history mid one.turns more alike.actor one.says.calls [] says.calls;
          few = omega (arith, sum, first, then, turns);
          reads = λ is. let a = one.says.reads is in let b = reads is in omega (arith, reach, same, a, b);
        })

    pub way_without_call : (new : Holder) (Saw : History → Type 0) (before after : Counts) (left most unread most_read : ℕ) → Way new Saw before after left most unread most_read → MadeNoCall kind old history new Saw
    way_without_call new Saw before after left most unread most_read way = record { turns = way.turns; seen = way.seen; walks = way.walks; saw = way.saw; says = way.says.calls }

    -- a lookup whose descent did not begin, and that read nothing
    pub within_none : (new : Holder) (Saw : History → Type 0) (before after : Counts) → after.reads ≡ before.reads → CameTo kind old history new Saw 2 [] → Went kind old history new Saw (λ turns seen. IsWithinReach tells key before after 1 turns)
    within_none new Saw before after same came = record {
      turns = came.turns;
      seen = came.seen;
      walks = came.walks;
      saw = came.saw;
      says = record {
        reads = λ is. omega (arith, same);
        unread = λ none. same;
        few = let made = came.says.few in omega (arith, made);
      };
    }

    module _ (mid new : Holder) (Before Saw : History → Type 0) (sight : Sight Branch) (before after : Counts) (alike : IsAlike old mid) (begin : Began kind old history mid Before (span_of_key key) sight) (more : ℕ) where
      within_of : (turns : List (Turn Branch)) → IsWay tells key mid.actor before after 0 (height_in mid.at sight + 1 + more) 0 (reach_at reach_of key sight) turns → IsWithinReach tells key before after more (begin.turns ++ turns)
      within_of turns way =
          let all : arrivals_in (begin.turns ++ turns) ≡ arrival_in mid.at sight ∷ arrivals_in turns = arrivals_on begin.turns turns ∙ ap (λ (a : List (Arrival Branch)). a ++ arrivals_in turns) begin.says.arrivals in
          let sum = others_on begin.turns turns in
          let one = begin.says.few in
          let then = way.few in
          let top : top_in (begin.turns ++ turns) ≡ height_in mid.at sight = ap first_height all in
          let reach = reach_on reach_of key begin.turns turns in
          let first : reach_in reach_of key begin.turns ≡ 0 + reach_at reach_of key sight = ap reach_of_all begin.says.arrivals in
          record {
            reads = λ is. let read = way.reads is in omega (arith, reach, first, read);
            unread = λ none. absurd (some (arrival_in mid.at sight) (arrivals_in turns) (sym all ∙ none));
            few = omega (arith, sum, one, then, top);
          }
        where
          some : (a : Arrival Branch) (rest : List (Arrival Branch)) → a ∷ rest ≡ [] → ⊥
          some a rest is = cc

      -- a lookup that was stopped behind the begin of its descent
      pub within_behind : ((seen : History) → Before seen → Went kind mid seen new Saw (λ turns seen. IsWay tells key mid.actor before after 0 (height_in mid.at sight + 1 + more) 0 (reach_at reach_of key sight) turns)) → Went kind old history new Saw (λ turns seen. IsWithinReach tells key before after more turns)
      within_behind two =
          went_on kind old history mid new Before Saw (IsBegin kind old history mid (span_of_key key) sight)
          (λ turns seen. IsWay tells key mid.actor before after 0 (height_in mid.at sight + 1 + more) 0 (reach_at reach_of key sight) turns)
          (λ turns seen. IsWithinReach tells key before after more turns)
          alike begin (two begin.seen begin.saw)
          (λ later seen walks way. within_of later way)

      -- and one that was answered
      pub answered_behind : ((seen : History) → Before seen → Went kind mid seen new Saw (λ turns seen. IsWay tells key mid.actor before after 0 (height_in mid.at sight + 1 + more) 0 (reach_at reach_of key sight) turns)) → Went kind old history new Saw (λ turns seen. IsOnlyCall old.actor history (call.Piece (span_of_key key)) sight.place turns seen × IsWithinReach tells key before after more turns)
      answered_behind two =
          went_on kind old history mid new Before Saw (IsBegin kind old history mid (span_of_key key) sight)
          (λ turns seen. IsWay tells key mid.actor before after 0 (height_in mid.at sight + 1 + more) 0 (reach_at reach_of key sight) turns)
          (λ turns seen. IsOnlyCall old.actor history (call.Piece (span_of_key key)) sight.place turns seen × IsWithinReach tells key before after more turns)
          alike begin (two begin.seen begin.saw)
          (λ later seen walks way.
          let event : Event = record { actor = old.actor; call = call.Piece (span_of_key key) } in
          let grown = walks_more kind mid begin.seen later new.at seen walks in
          let only : IsOnlyCall old.actor history (call.Piece (span_of_key key)) sight.place (begin.turns ++ later) seen = record {
            only =
                calls_on kind old.actor begin.turns later
                ∙ ap (λ (h : History). h ++ calls_in old.actor later) begin.says.only_call.only
                ∙ ap (λ (n : ℕ). event ∷ calls_in n later) (sym alike.actor)
                ∙ ap (λ (h : History). event ∷ h) way.calls;
            at = ap (λ (h : History). slice_get h sight.place) grown.1 ∙ get_before begin.seen grown.0 sight.place event begin.says.only_call.at;
            after = begin.says.only_call.after;
          } in
          (only, within_of later way))
