-- A latch step keeps the invariant, and what everybody relies on.
use Rattle.std.proofs.Common.{◌≡◌, ◌≢◌, ℕ, ◌<◌, Bool, true, false, List, Option, Some, None, length, refl, sym, subst, ap, ◌∙◌, inl, inr}
use Rattle.std.specs.Prelude.{All, is_some}
use Rattle.std.proofs.lemmas.Bool.{false≢true, cases_eq}
use Rattle.spl_base.specs.declared.TheConstants.{ACTORS}
use Rattle.spl_message.specs.Rule.{Rule}
use Rattle.spl_holds.specs.declared.grip.Grip.{Grip}
use Rattle.spl_holds.specs.declared.grip.Grip.TheVariants.{Free, Read, Claim, Write}
use Rattle.spl_holds.specs.Latch.{IsLatched}
use Rattle.spl_holds.specs.Holds.{grip_of, with_grip}
use Rattle.spl_state.specs.declared.descent.Descent.{Descent}
use Rattle.spl_state.specs.declared.actor.Actor.{Actor}
use Rattle.spl_state.specs.Actor.{actor_in}
use Rattle.spl_state.specs.Actors.{IsOnWay}
use Rattle.spl_state.specs.Frame.{IsFramed}
use Rattle.spl_state.specs.Sound.{IsSound, AreDrafts}
use Rattle.spl_state.specs.Whole.{Whole}
use Rattle.spl_state.proofs.Frames.{unchanged_framed, gripped_sound, gripped_framed}

pub none_where : {A : Type 0} (o : Option A) → is_some o ≡ false → o ≡ None
none_where None isnt = refl
none_where (Some x) isnt = absurd (false≢true (sym isnt))

pub claim_is_no_read : Claim ≢ Read
claim_is_no_read is = cc

pub write_is_no_read : Write ≢ Read
write_is_no_read is = cc

pub free_is_no_read : Free ≢ Read
free_is_no_read is = cc

module _ (old : Whole) (holds : List (List Grip)) (actor node : ℕ) (grip : Grip) where
  pub latched_sound : IsSound old → actor < ACTORS → node < length old.grips → grip ≢ Read → (actor_in old.actors actor).descent ≡ None → holds ≡ with_grip old.grips actor node grip → All IsLatched holds → IsSound (record old { grips = holds })
  latched_sound sound known exists no_read none is latched =
      subst (λ (h : List (List Grip)). IsSound (record old { grips = h })) (sym is) (gripped_sound old sound actor node grip known exists no_read none (subst (λ (h : List (List Grip)). All IsLatched h) is latched))

-- an actor with a claim or a write on a node is on no way down
pub off_way : (old : Whole) (actor node : ℕ) → IsSound old → actor < ACTORS → grip_of old.grips actor node ≢ Read → grip_of old.grips actor node ≢ Free → (actor_in old.actors actor).descent ≡ None
off_way old actor node sound known no_read no_free = by (actor_in old.actors actor).descent (sound.actors actor known).descent
  where
    by : (descent : Option Descent) → IsOnWay old.nodes old.grips old.counters.places actor (actor_in old.actors actor) descent → descent ≡ None
    by None way = refl
    by (Some descent) way =
        elim (cases_eq node descent.node) [
          | inl same ↦ absurd (no_read (subst (λ (n : ℕ). grip_of old.grips actor n ≡ Read) (sym same) way.reads))
          | inr other ↦ absurd (no_free (way.alone node other))
        ]

pub unlatched_sound : (old : Whole) (holds : List (List Grip)) → IsSound old → holds ≡ old.grips → IsSound (record old { grips = holds })
unlatched_sound old holds sound is = subst (λ (h : List (List Grip)). IsSound (record old { grips = h })) (sym is) sound

-- the same, where the state is seen through its parts
module _ (whole old : Whole) (view_is : whole ≡ old) (holds : List (List Grip)) (actor : ℕ) (rule : Rule) (tells : Bool) (drafts : tells ≡ true → AreDrafts rule old) where
  pub latched_framed : (node : ℕ) (grip : Grip) → holds ≡ with_grip whole.grips actor node grip → IsFramed rule tells old (record whole { grips = holds }) actor
  latched_framed node grip is =
      let grips = is ∙ ap (λ (w : Whole). with_grip w.grips actor node grip) view_is in
      let framed = gripped_framed rule tells old drafts actor node grip in
      let here : IsFramed rule tells old (record old { grips = holds }) actor = subst (λ (h : List (List Grip)). IsFramed rule tells old (record old { grips = h }) actor) (sym grips) framed in
      subst (λ (w : Whole). IsFramed rule tells old (record w { grips = holds }) actor) (sym view_is) here

  pub unlatched_framed : holds ≡ whole.grips → IsFramed rule tells old (record whole { grips = holds }) actor
  unlatched_framed is =
      let framed = unchanged_framed rule tells old drafts actor in
      let here : IsFramed rule tells old whole actor = subst (λ (w : Whole). IsFramed rule tells old w actor) (sym view_is) framed in
      subst (λ (h : List (List Grip)). IsFramed rule tells old (record whole { grips = h }) actor) (sym is) here
