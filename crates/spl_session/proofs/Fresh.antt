-- In an empty core no actor has anything.
use Rattle.std.proofs.Common.{◌≡◌, ℕ, zero, suc, false, List, [], ◌∷◌, replicate, refl, ap, ◌∙◌}
use Rattle.spl_base.specs.declared.TheConstants.{ACTORS}
use Rattle.spl_numbers.specs.Numbers.{has}
use Rattle.spl_extent.specs.declared.owner.Owner.TheVariants.{Free as unowned}
use Rattle.spl_extent.specs.Pool.{granted_to}
use Rattle.spl_holds.specs.declared.grip.Grip.TheVariants.{Free}
use Rattle.spl_holds.specs.Holds.{grip_of}
use Rattle.spl_holds.specs.Latch.{nobody}
use Rattle.spl_state.specs.declared.actor.Actor.{Actor}
use Rattle.spl_state.specs.Actor.{idle, actor_in}
use Rattle.spl_state.specs.Sound.{IsEmpty}
use Rattle.spl_state.specs.Whole.{Whole}
use Rattle.spl_desk.specs.Calls.{HasNothing}

copies : (count at : ℕ) → actor_in (replicate count idle) at ≡ idle
copies zero at = refl
copies (suc count) zero = refl
copies (suc count) (suc at) = copies count at

none_granted : (count actor extent : ℕ) → has (granted_to (replicate count unowned) actor) extent ≡ false
none_granted zero actor extent = refl
none_granted (suc count) actor zero = refl
none_granted (suc count) actor (suc extent) = none_granted count actor extent

no_grip : (actor node : ℕ) → actor ≡ 0 → grip_of (nobody ∷ []) actor node ≡ Free
unfolding nobody
no_grip actor zero is = rw is refl
no_grip actor (suc node) is = refl

pub empty_nothing : (extents callers : ℕ) (whole : Whole) → IsEmpty extents callers whole → HasNothing whole 0
empty_nothing extents callers whole empty = record {
  descent = ap (λ (a : List Actor). (actor_in a 0).descent) empty.actors ∙ ap (λ (a : Actor). a.descent) (copies ACTORS 0);
  job = ap (λ (a : List Actor). (actor_in a 0).job) empty.actors ∙ ap (λ (a : Actor). a.job) (copies ACTORS 0);
  latches = λ node. rw empty.grips (no_grip 0 node refl);
  extents = λ extent. rw empty.owners (none_granted extents 0 extent);
}
