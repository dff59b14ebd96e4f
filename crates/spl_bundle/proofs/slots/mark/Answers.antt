use Rattle.std.proofs.Common.{ℕ, ◌≡◌, [], get_or, set, ap, sym, ◌∙◌, arith}
use Rattle.std.proofs.lemmas.List.{map-set, get_or-map}
use Rattle.spl_bundle.specs.declared.slots.Slot.{Slot}
use Rattle.spl_bundle.specs.Numbered.{Bundle, unmarked, owned_by}
use Rattle.spl_bundle.specs.Slots.{bundle_in, contents}
use Rattle.spl_bundle.proofs.slots.mark.Goals as goal

pub returns-clause-contents : goal.returns-clause-contents
returns-clause-contents c =
    let slots = c.args.slots.now in
    let slot = get_or slots c.slot_of.result c.index-slots-slot_of.result in
    let after : Slot = record { branches = slot.branches; owner = c.args.owner } in
    let old : bundle_in slot ≡ get_or (contents slots) c.slot_of.result (unmarked []) =
    sym (get_or-map bundle_in slots c.slot_of.result c.index-slots-slot_of.result (unmarked []) (omega (arith, c.told-slots, c.slot_of.ensures))) in
    map-set bundle_in slots c.slot_of.result after
    ∙ ap (λ (b : Bundle). set (contents slots) c.slot_of.result (owned_by c.args.owner b)) old
    ∙ ap (λ (n : ℕ). set (contents slots) n (owned_by c.args.owner (get_or (contents slots) n (unmarked [])))) c.slot_of.ensures
