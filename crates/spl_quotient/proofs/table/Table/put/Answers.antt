use Rattle.std.proofs.Common.{◌≡◌, ◌<◌, length, set, ap, arith, rules}
use Rattle.spl_quotient.specs.Table.{Table}
use Rattle.spl_quotient.proofs.Turns.{length-turned, turned-set}
use Rattle.spl_quotient.proofs.table.Table.put.Goals as goal

pub returns : goal.returns
returns c =
    let slots = c.self.inside.slots.items in
    let origin = c.self.inside.origin in
    let long : length slots ≡ c.len.result = search rules in
    let same = ap (λ (table : Table). length table.slots) c.self.view_is in
    let turned_long = length-turned slots origin (omega (arith, c.self.invariant)) in
    let within : c.args.position < c.len.result = omega arith in
    rw c.number_of-number.ensures (
    rw (turned-set slots origin c.len.result c.args.position c.args.slot long (omega (arith, c.self.invariant)) within) (
    ap (λ (table : Table). let next : Table = record table { slots = set table.slots c.args.position c.args.slot } in next) c.self.view_is
    )
    )
