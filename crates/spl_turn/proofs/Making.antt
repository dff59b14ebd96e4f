-- What a seat may do between taking the value and giving it back, and what a whole turn makes of it.
use Rattle.std.proofs.Common.{◌≡◌, ℕ, ◌+◌, ◌<◌, ◌^◌, List, [], ◌∷◌, ◌++◌, length, Some, sym, refl, ap, ◌∙◌, subst, append-nil, append_assoc, arith}
use Rattle.atomic_table.specs.Table.{Me, rest}
use Rattle.spl_turn.specs.Meaning.{Meaning, MayStep, own}
use Rattle.spl_turn.specs.Moves.{entry_of, Took, Added, MayLeave, MayMake, Held, Makes, IsNoted}
use Rattle.spl_turn.specs.Seating.{Rests, IsReady}
use Rattle.spl_turn.specs.declared.known.Known.{Known}
use Rattle.spl_turn.specs.declared.known.Stage.TheVariants.{Idle}
use Rattle.spl_turn.specs.declared.guarded.Guarded.{Guarded}
use Rattle.spl_turn.proofs.Fronts.{own_append, own_mine}
use Rattle.spl_turn.proofs.Keeps.{same_slot, seated}

module _ {V S R E F : Type 0} (m : Meaning V S R E F) where
  abbrev K : Type 0
  K = Known E F

  abbrev M : Type 0
  M = Me (Guarded V S R) K

  -- entries of others are none of the actor's own
  pub own_between : (n : ℕ) (seen between : List E) → own m n between ≡ [] → own m n (seen ++ between) ≡ own m n seen
  own_between n seen between none = own_append m n seen between ∙ (ap (λ l. own m n seen ++ l) none ∙ append-nil (own m n seen))

  pub slot_last : (me : M) (g : Guarded V S R) → me.1 ≡ (0, g) ∷ [] → me.1 ≡ (0, g) ∷ rest me.1
  slot_last me g is = is ∙ ap (λ l. (0, g) ∷ rest l) (sym is)

  pub held : (me : M) (now after : Guarded V S R) (number : ℕ) (step : S) (reply : R) → MayMake m me number step → me.1 ≡ (0, now) ∷ rest me.1 → IsNoted now.value step reply after.last → m.fixed after.value ≡ m.fixed now.value
      → ((past : List E) → MayStep m now.value number step past → m.stands after.value (past ++ m.entry now.value number step reply after.value ∷ [])) → Held m me (me.0, (0, after) ∷ rest me.1) number step reply
  held me now after number step reply may is noted fixed stands =
      let bare : rest me.1 ≡ [] = ap rest may.slot in record {
        old = now;
        new = after;
        view = refl;
        old_slot = is ∙ ap (λ l. (0, now) ∷ l) bare;
        new_slot = ap (λ l. (0, after) ∷ l) bare;
        noted = noted;
        fixed = fixed;
        stands = stands;
      }

  may_step : (me mid : M) (number : ℕ) (step : S) → Took m me mid → number ≡ me.0.number → number < 32 → (t : Took m me mid) → m.may number (own m number me.0.seen) step → MayStep m t.guarded.value number step (me.0.seen ++ t.between)
  may_step me mid number step _ is below t may = record {
    actor_is = below;
    room = t.room;
    stands = t.stands;
    may = subst (λ l. m.may number l step) (sym (own_between number me.0.seen t.between (ap (λ n. own m n t.between) is ∙ t.others))) may;
  }

  pub may_make : (me mid : M) (number : ℕ) (step : S) → me.1 ≡ [] → Took m me mid → number ≡ me.0.number → number < 32 → m.may number (own m number me.0.seen) step → MayMake m mid number step
  may_make me mid number step bare t is below may = record {
    guarded = t.guarded;
    slot = t.slot ∙ ap (λ l. (0, t.guarded) ∷ l) bare;
    past = me.0.seen ++ t.between;
    may = may_step me mid number step t is below t may;
  }

  -- the slot that was taken is the one that the step was made on
  same_taken : (me mid after : M) (number : ℕ) (step : S) (reply : R) → me.1 ≡ [] → (t : Took m me mid) → (h : Held m mid after number step reply) → t.guarded ≡ h.old
  same_taken me mid after number step reply bare t h = same_slot m mid.1 t.guarded h.old (t.slot ∙ ap (λ l. (0, t.guarded) ∷ l) bare) h.old_slot

  stands_after : (me mid after : M) (number : ℕ) (step : S) (reply : R) → me.1 ≡ [] → (t : Took m me mid) → (h : Held m mid after number step reply) → number ≡ me.0.number → number < 32 → m.may number (own m number me.0.seen) step
      → m.stands h.new.value ((me.0.seen ++ t.between) ++ m.entry h.old.value me.0.number step reply h.new.value ∷ [])
  stands_after me mid after number step reply bare t h is below may =
      let same = same_taken me mid after number step reply bare t h in
      subst (λ n. m.stands h.new.value ((me.0.seen ++ t.between) ++ m.entry h.old.value n step reply h.new.value ∷ [])) is
      (h.stands (me.0.seen ++ t.between) (subst (λ g. MayStep m g.value number step (me.0.seen ++ t.between)) same (may_step me mid number step t is below t may)))

  fixed_after : (me mid after : M) (number : ℕ) (step : S) (reply : R) → me.1 ≡ [] → (t : Took m me mid) → (h : Held m mid after number step reply) → me.0.fixed ≡ Some (m.fixed h.new.value)
  fixed_after me mid after number step reply bare t h =
      t.fixed ∙ ap Some (ap (λ g. m.fixed g.value) (same_taken me mid after number step reply bare t h) ∙ sym h.fixed)

  pub may_leave : (me mid after : M) (number : ℕ) (step : S) (reply : R) → IsReady me → me.1 ≡ [] → Took m me mid → Held m mid after number step reply → number ≡ me.0.number → number < 32 → m.may number (own m number me.0.seen) step → MayLeave m after
  may_leave me mid after number step reply ready bare t h is below may =
      let view : after.0 ≡ seated m me.0 t.between = h.view ∙ t.view in
      let last = h.noted.0 in let noted = h.noted in
      record {
        guarded = h.new;
        last = last;
        slot = h.new_slot;
        noted = noted.1;
        stands = subst (λ (z : K × V × S × R). m.stands h.new.value (z.0.seen ++ m.entry z.1 z.0.number z.2 z.3 h.new.value ∷ []))
            (λ i. (sym view i, sym noted.2 i, sym noted.3 i, sym noted.4 i)) (stands_after me mid after number step reply bare t h is below may);
        fixed = ap (λ u. u.fixed) view ∙ fixed_after me mid after number step reply bare t h;
        holds = ap (λ u. u.stage) view;
        one_seat = ap (λ u. u.seats) view ∙ ready.one_seat;
        alone = ap (λ u. u.joined) view ∙ ready.alone;
        few_turns = subst (λ (u : K). u.turns < 2199023255552) (sym view) ready.few_turns;
        room = subst (λ (u : K). length u.seen < 2 ^ 46) (sym view) t.room;
      }

  pub makes : (me mid held after : M) (number : ℕ) (step : S) (reply : R) → me.1 ≡ [] → Took m me mid → Held m mid held number step reply → Added m held after → number ≡ me.0.number → number < 32 → m.may number (own m number me.0.seen) step
      → Makes m me after step reply
  makes me mid held after number step reply bare t h added is below may =
      let view : held.0 ≡ seated m me.0 t.between = h.view ∙ t.view in
      let last = h.noted.0 in let noted = h.noted in
      let done = added h.new last h.new_slot noted.1 in
      record {
        before = h.old.value;
        value = h.new.value;
        between = t.between;
        others = t.others;
        view = done.1 ∙ ap (λ (z : K × V × S × R). record z.0 { seen = z.0.seen ++ m.entry z.1 z.0.number z.2 z.3 h.new.value ∷ []; turns = z.0.turns + 1; stage = Idle })
            (λ i. (view i, noted.2 i, noted.3 i, noted.4 i));
        bare = done.0 ∙ sym bare;
        stood = subst (λ g. m.stands g.value (me.0.seen ++ t.between)) (same_taken me mid held number step reply bare t h) t.stands;
        stands = stands_after me mid held number step reply bare t h is below may;
        fixed = fixed_after me mid held number step reply bare t h;
      }

  -- a seat rests again after a turn
  pub rests_again : (me after : M) (number turns made : ℕ) (step : S) (reply : R) → Rests me number turns made → Makes m me after step reply → Rests after number (turns + 1) made
  rests_again me after number turns made step reply r done = record {
    number_is = ap (λ u. u.number) done.view ∙ r.number_is;
    turns_is = ap (λ u. u.turns) done.view ∙ ap (λ n. n + 1) r.turns_is;
    made_is = ap (λ u. u.made) done.view ∙ r.made_is;
    one_seat = ap (λ u. u.seats) done.view ∙ r.one_seat;
    alone = ap (λ u. u.joined) done.view ∙ r.alone;
    idle = ap (λ u. u.stage) done.view;
    bare = done.bare ∙ r.bare;
    below = r.below;
    few_made = r.few_made;
  }
