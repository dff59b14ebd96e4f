use Rattle.std.proofs.Common.{◌≡◌, ◌-◌, ◌+◌, ◌<◌, ◌≤◌, [], ℕ, refl, ap, ◌∙◌, arith}
use Rattle.spl_bundle.specs.Numbered.{Numbered, unmarked, next_of, merged}
use Rattle.spl_bundle.specs.Slots.{contents, window}
use Rattle.spl_bundle.proofs.Windows.{length-window}
use Rattle.spl_bundle.proofs.Soundness.{next_is, numbered-merge, slice_of_option}
use Rattle.spl_bundle.proofs.Runs.{emptied, emptied_none, run_more, run_end}
use Rattle.spl_bundle.proofs.bundles.Bundles.merge.Goals as goal

pub loop-number-init : goal.loop-number-init
loop-number-init c =
    let first = c.self.inside.first in
    let lists = window (contents c.self.inside.slots) first (c.self.inside.next - first) in
    let from = c.max-from.result in
    let none : from - from ≡ 0 = omega arith in
    record {
      same_first = refl;
      same_next = refl;
      lists = rw none (emptied_none lists (from - first));
      slots = c.self.invariant.slots;
    }

pub loop-number-preserved : goal.loop-number-preserved
loop-number-preserved c =
    let first = c.self.inside.first in
    let count = c.self.inside.next - first in
    let lists = window (contents c.self.inside.slots) first count in
    let sound = c.self.invariant in
    let next = next_is _ sound in
    let same_next = ap next_of c.self.view_is in
    let start : first ≤ c.max-from.result = omega arith in
    let below : c.loop-number.number < first + count = omega arith in
    record {
      same_first = c.loop-number.invariant.same_first;
      same_next = c.loop-number.invariant.same_next;
      lists = run_more lists (contents c.loop-number.self-inside.slots) (contents c.fill.new.slots) first count c.max-from.result c.loop-number.number (unmarked []) (length-window _ first count) sound.lists start c.loop-number.auto.number below c.fill.ensures.count c.fill.ensures.contents c.loop-number.invariant.lists refl;
      slots = c.fill.ensures.slots;
    }

pub returns : goal.returns
returns c =
    let first = c.self.inside.first in
    let count = c.self.inside.next - first in
    let lists = window (contents c.self.inside.slots) first count in
    let from = c.max-from.result in
    let sound = c.self.invariant in
    let next = next_is _ sound in
    let same_next = ap next_of c.self.view_is in
    let same_first = ap (λ (q : Numbered). q.first) c.self.view_is in
    let start : first ≤ from = omega arith in
    let ordered : from ≤ c.args.last = omega arith in
    let below : c.args.last < first + count = omega arith in
    let end : c.loop-number.number ≡ c.args.last = omega arith in
    let run = c.loop-number.invariant.lists ∙ ap (λ (n : ℕ). emptied lists (from - first) (n - from)) end in
    let output = slice_of_option c.args.output c.as_slice.result.now c.as_slice.ensures in
    let after = run_end lists (contents c.loop-number.self-inside.slots) (contents c.fill-2.new.slots) first count from c.args.last (unmarked c.as_slice.result.now) (length-window _ first count) sound.lists start ordered below c.fill-2.ensures.count c.fill-2.ensures.contents run in
    numbered-merge c.self.inside (record { slots = c.fill-2.new.slots; first = c.loop-number.self-inside.first; next = c.loop-number.self-inside.next }) c.args.first c.args.last from c.args.output c.as_slice.result.now c.loop-number.invariant.same_first c.loop-number.invariant.same_next c.max-from.ensures output after
    ∙ ap (λ q. merged q c.args.first c.args.last c.args.output) c.self.view_is
