use Rattle.std.proofs.Common.{ℕ, List, get_or, ap, ◌∙◌, arith}
use Rattle.spl_bundle.specs.Numbered.{Bundle}
use Rattle.std.proofs.lemmas.Grind.{elements}
use Rattle.spl_bundle.proofs.Copies.{copied_more, copied_all}
use Rattle.spl_bundle.proofs.slots.copy_slots.Goals as goal

pub loop-i-preserved : goal.loop-i-preserved
loop-i-preserved c =
    let i = c.loop-i.i in
    let slot = get_or c.args.slots.now i c.index-slots-i.result in
    let count = c.loop-i.invariant.count in
    record {
      count = grind (arith, elements);
      same = copied_more c.args.slots.now c.loop-i.copy i _ c.index-slots-i.result (omega arith) (omega arith) (c.overwrite.ensures.bundle ∙ ap (λ (list : List ℕ). let b : Bundle = record { branches = list; owner = slot.owner } in b) c.as_slice.ensures) c.loop-i.invariant.same;
      slots = grind (arith, elements);
    }

pub returns-clause-contents : goal.returns-clause-contents
returns-clause-contents c =
    copied_all c.args.slots.now c.loop-i.copy c.loop-i.i (omega arith) (omega (arith, c.loop-i.invariant.count)) c.loop-i.invariant.same
