use Rattle.std.proofs.Common.{◌≤◌, ap, ◌∙◌, arith}
use Rattle.spl_bundle.specs.Numbered.{next_of, dropped_below}
use Rattle.spl_bundle.proofs.Soundness.{next_is, numbered-drop}
use Rattle.spl_bundle.proofs.bundles.Bundles.drop_below.Goals as goal

pub invariant_of-self : goal.invariant_of-self
invariant_of-self c =
    let sound = c.self.invariant in
    let next = next_is _ sound in
    let same_next = ap next_of c.self.view_is in
    record { in_order = omega arith; lists = omega (arith, sound.lists); numbers = sound.numbers; slots = sound.slots }

pub returns-then-self-number : goal.returns-then-self-number
returns-then-self-number c =
    let from : c.self.inside.first ≤ c.args.number = omega arith in
    numbered-drop c.self.inside c.args.number from ∙ ap (λ q. dropped_below q c.args.number) c.self.view_is
