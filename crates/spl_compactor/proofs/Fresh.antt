-- In an empty core each actor was told of the root.
use Rattle.std.proofs.Common.{◌≡◌, ℕ, zero, suc, List, replicate, refl, ap, ◌∙◌}
use Rattle.spl_base.specs.declared.TheConstants.{ACTORS}
use Rattle.spl_state.specs.declared.actor.Actor.{Actor}
use Rattle.spl_state.specs.Actor.{idle, actor_in}
use Rattle.spl_state.specs.Sound.{IsEmpty}
use Rattle.spl_state.specs.Whole.{Whole}

copies : (count at : ℕ) → actor_in (replicate count idle) at ≡ idle
copies zero at = refl
copies (suc count) zero = refl
copies (suc count) (suc at) = copies count at

pub empty_told : (extents callers : ℕ) (whole : Whole) → IsEmpty extents callers whole → (actor_in whole.actors 0).told ≡ 1
empty_told extents callers whole empty =
    ap (λ (actors : List Actor). (actor_in actors 0).told) empty.actors ∙ ap (λ (actor : Actor). actor.told) (copies ACTORS 0)
