use Rattle.std.proofs.Common.{◌≡◌, ◌-◌, ◌+◌, ◌<◌, ◌≤◌, ℕ, refl, ap, ◌∙◌, arith}
use Rattle.spl_bundle.specs.Numbered.{Numbered, next_of, marked}
use Rattle.spl_bundle.specs.Slots.{contents, window}
use Rattle.spl_bundle.proofs.Windows.{length-window}
use Rattle.spl_bundle.proofs.Soundness.{next_is, numbered-mark}
use Rattle.spl_bundle.proofs.Runs.{owned, owned_none, owned_run_more}
use Rattle.spl_bundle.proofs.bundles.Bundles.set_owner.Goals as goal

pub overflow_add-number-end : goal.overflow_add-number-end
overflow_add-number-end c =
    let same_next = ap next_of c.self.view_is in
    let next = next_is _ c.self.invariant in
    omega (arith, c.self.invariant.numbers)

pub loop-number-init : goal.loop-number-init
loop-number-init c =
    let first = c.self.inside.first in
    let bundles = window (contents c.self.inside.slots) first (c.self.inside.next - first) in
    let none : c.max-from.result - c.max-from.result ≡ 0 = omega arith in
    record {
      same_first = refl;
      same_next = refl;
      bundles = rw none (owned_none c.args.owner bundles (c.max-from.result - first));
      slots = c.self.invariant.slots;
    }

pub loop-number-preserved : goal.loop-number-preserved
loop-number-preserved c =
    let first = c.self.inside.first in
    let count = c.self.inside.next - first in
    let bundles = window (contents c.self.inside.slots) first count in
    let sound = c.self.invariant in
    let next = next_is _ sound in
    let same_next = ap next_of c.self.view_is in
    let same_first = ap (λ (q : Numbered). q.first) c.self.view_is in
    let start : first ≤ c.max-from.result = omega arith in
    let below : c.loop-number.number < first + count = omega arith in
    record {
      same_first = c.loop-number.invariant.same_first;
      same_next = c.loop-number.invariant.same_next;
      bundles = owned_run_more c.args.owner bundles (contents c.loop-number.self-inside.slots) (contents c.mark.new.slots) first count c.max-from.result c.loop-number.number (length-window _ first count) sound.lists start c.loop-number.auto.number below c.mark.ensures.count c.mark.ensures.contents c.loop-number.invariant.bundles;
      slots = c.mark.ensures.slots;
    }

pub returns : goal.returns
returns c =
    let first = c.self.inside.first in
    let count = c.self.inside.next - first in
    let bundles = window (contents c.self.inside.slots) first count in
    let same_first = ap (λ (q : Numbered). q.first) c.self.view_is in
    let end : c.loop-number.number ≡ c.args.last + 1 = omega arith in
    let run = c.loop-number.invariant.bundles ∙ ap (λ (n : ℕ). owned c.args.owner bundles (c.max-from.result - first) (n - c.max-from.result)) end in
    numbered-mark c.self.inside c.loop-number.self-inside c.args.first c.args.last c.max-from.result c.args.owner c.loop-number.invariant.same_first c.loop-number.invariant.same_next (omega arith) (omega arith) run
    ∙ ap (λ q. marked q c.args.first c.args.last c.args.owner) c.self.view_is
