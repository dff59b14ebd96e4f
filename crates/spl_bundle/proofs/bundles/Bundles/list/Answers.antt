use Rattle.std.proofs.Common.{ℕ, ◌≤◌, ◌<◌, get_or, ap, ◌∙◌, arith}
use Rattle.spl_bundle.specs.Numbered.{Numbered, Bundle, bundle_at, next_of}
use Rattle.spl_bundle.proofs.Soundness.{next_is, bundle-is}
use Rattle.spl_bundle.proofs.bundles.Bundles.list.Goals as goal

pub returns : goal.returns
returns c =
    let same_first = ap (λ (q : Numbered). q.first) c.self.view_is in
    let same_next = ap next_of c.self.view_is in
    let next = next_is _ c.self.invariant in
    let from : c.self.inside.first ≤ c.args.number = omega arith in
    let below : c.args.number < c.self.inside.next = omega arith in
    c.as_slice.ensures
    ∙ ap (λ (n : ℕ). (get_or c.self.inside.slots n c.index-self-slot_of.result).branches.items) c.slot_of.ensures
    ∙ ap (λ (b : Bundle). b.branches) (bundle-is c.self.inside c.args.number c.index-self-slot_of.result c.self.told from below)
    ∙ ap (λ (q : Numbered). (bundle_at q c.args.number).branches) c.self.view_is
