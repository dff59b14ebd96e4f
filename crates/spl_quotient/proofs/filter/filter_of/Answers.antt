use Rattle.std.proofs.Common.{ℕ, List, ◌+◌, ◌^◌, ◌<◌, ◌↔◌, subst, sym}
use Rattle.std.specs.Prelude.{All, Contains}
use Rattle.std.proofs.lemmas.List.Elements.{All-contains, Contains-get_or}
use Rattle.spl_quotient.specs.Spot.{spot_of}
use Rattle.spl_quotient.specs.Table.{spots_in}
use Rattle.spl_quotient.proofs.Members.{shown_spots}
use Rattle.spl_quotient.proofs.filter.filter_of.Goals as goal

pub table_of-requires-clause-bits : goal.table_of-requires-clause-bits
table_of-requires-clause-bits c = subst (All (λ spot. spot < 2 ^ (c.args.q + 12))) (sym c.as_slice.ensures.value) (λ k d within.
    All-contains (λ spot. spot < 2 ^ (c.args.q + 12)) c.args.spots.items _ c.requires.bits
    ((c.in_order-spots.ensures.members _).0 (Contains-get_or c.in_order-spots.result.items k d within))
    )

pub returns-clause-prints : goal.returns-clause-prints
returns-clause-prints c =
    let built : (spot : ℕ) → Contains (spots_in c.args.q c.in_ok-table.table) spot ↔ Contains c.args.spots.items spot = λ spot.
    let table = subst (λ (items : List ℕ). Contains (spots_in c.args.q c.in_ok-table.table) spot ↔ Contains items spot) c.as_slice.ensures.value (c.in_ok-table.ensures.spots spot) in
    let members = c.in_order-spots.ensures.members spot in
    (λ shown. members.0 (table.0 shown), λ member. table.1 (members.1 member)) in
    shown_spots c.args.q c.in_ok-table.table c.args.spots.items built
