use Rattle.std.proofs.Common.{◌≡◌, ℕ, ◌%◌, ◌^◌, ◌↔◌, length, ap, subst, ◌∙◌}
use Rattle.std.specs.Prelude.{IsTrue, Contains}
use Rattle.spl_quotient.specs.Filter.{Filter}
use Rattle.spl_quotient.specs.Fnv.{print_of}
use Rattle.spl_quotient.specs.Spot.{spot_of}
use Rattle.spl_quotient.specs.Table.{has, prints_in, shows}
use Rattle.spl_quotient.proofs.Members.{quotient_below, shown_iff}
use Rattle.spl_quotient.proofs.filter.Filter.admits_hash.Goals as goal

pub position_of-home-requires : goal.position_of-home-requires
position_of-home-requires c =
    rw c.self.invariant.count (quotient_below c.self.inside.q c.spot_of-spot.result c.spot_of-spot.ensures.bits)

pub returns : goal.returns
returns c =
    let table = c.self.inside.table in
    let q = c.self.inside.q in
    let print = c.top_bits.result in
    let spot = c.spot_of-spot.result in
    let answer : c.has.result ≡ shows table (spot_of q print) =
    c.has.ensures ∙ ap (λ (home : ℕ). has table.slots home (spot % 4096)) c.position_of-home.ensures.value ∙ ap (shows table) c.spot_of-spot.ensures.value in
    let shown : IsTrue c.has.result ↔ Contains (prints_in q table) print = shown_iff q table print c.has.result answer c.top_bits.ensures.bits in
    subst (λ (filter : Filter). IsTrue c.has.result ↔ Contains filter.prints (print_of filter.q c.args.hash)) c.self.view_is (
    subst (λ (p : ℕ). IsTrue c.has.result ↔ Contains (prints_in q table) p) c.top_bits.ensures.value shown
    )
