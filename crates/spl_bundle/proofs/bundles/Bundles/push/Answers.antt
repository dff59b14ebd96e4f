use Rattle.std.proofs.Common.{◌<◌, ◌-◌, length, refl, ap, ◌∙◌, arith}
use Rattle.spl_bundle.specs.declared.bundles.TheConstants.{MAX_LISTS}
use Rattle.spl_bundle.specs.Numbered.{Numbered, next_of, pushed}
use Rattle.spl_bundle.proofs.Soundness.{length-lists, next_is, numbered-push}
use Rattle.spl_bundle.proofs.bundles.Bundles.push.Goals as goal

-- the queue was not full
room : (c : goal.After-self-1) → c.self.inside.next - c.self.inside.first < MAX_LISTS
room c =
    let counted = length-lists c.self.inside in
    let same = ap (λ (q : Numbered). length q.bundles) c.self.view_is in
    let below = (c.in_ok-admit.ensures.accepted.0 refl).0 in
    omega arith

pub invariant_of-self : goal.invariant_of-self
invariant_of-self c =
    let sound = c.self.invariant in
    let free = room c in
    let next = next_is _ sound in
    let same_next = ap next_of c.self.view_is in
    record {
      in_order = omega (arith, sound.in_order);
      lists = omega (arith, sound.in_order);
      numbers = omega (arith, c.requires);
      slots = c.fill.ensures.slots;
    }

pub returns-clause-number : goal.returns-clause-number
returns-clause-number c = next_is _ c.self.invariant ∙ ap next_of c.self.view_is

pub returns-clause-ok : goal.returns-clause-ok
returns-clause-ok c =
    numbered-push c.self.inside c.fill.new.slots c.args.list.now c.self.invariant c.fill.ensures.count (room c) c.fill.ensures.contents
    ∙ ap (λ q. pushed q c.args.list.now) c.self.view_is
