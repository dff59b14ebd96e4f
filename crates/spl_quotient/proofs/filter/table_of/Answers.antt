use Rattle.std.proofs.Common.{◌≡◌, ℕ, ◌^◌, ◌<◌, ◌↔◌, true, length, sym, ap, subst, ◌∙◌, inl, inr, arith}
use Rattle.std.proofs.lemmas.Bool.{cases_lt}
use Rattle.std.proofs.lemmas.List.{length-replicate}
use Rattle.spl_quotient.specs.Slot.{blank}
use Rattle.spl_quotient.specs.Table.{Table, has}
use Rattle.spl_quotient.specs.Filling.{HasPrint}
use Rattle.spl_quotient.proofs.Members.{quotient_below, origin_below, shown_is_built, built_is_shown}
use Rattle.spl_quotient.proofs.Turning.{in_turn, in_turn_none}
use Rattle.spl_quotient.proofs.filter.table_of.Goals as goal

pub new-requires : goal.new-requires
new-requires c =
    rw c.slot_count.ensures (origin_below c.args.q c.farthest_ahead-first.result c.quotient_at.result c.args.spots.now c.farthest_ahead-first.ensures.within c.requires.bits c.quotient_at.ensures.some c.quotient_at.ensures.none)

pub lay-requires-clause-numbers : goal.lay-requires-clause-numbers
lay-requires-clause-numbers c = λ k d within.
    let long = ap (λ (table : Table). length table.slots) c.in_ok-table.ensures ∙ length-replicate c.slot_count.result blank ∙ c.slot_count.ensures in
    rw long (quotient_below c.args.q _ (c.requires.bits k d within))

pub lay-requires-clause-turn : goal.lay-requires-clause-turn
lay-requires-clause-turn c =
    let prints = c.args.spots.now in
    let first = c.farthest_ahead-first.result in
    let origin = ap (λ (table : Table). table.origin) c.in_ok-table.ensures in
    let long = ap (λ (table : Table). length table.slots) c.in_ok-table.ensures ∙ length-replicate c.slot_count.result blank ∙ c.slot_count.ensures in
    elim (cases_lt 0 (length prints)) [
      | inl some ↦
          rw (origin, c.quotient_at.ensures.some some, long) (
          in_turn prints c.requires.sorted first (2 ^ c.args.q) (c.farthest_ahead-first.ensures.within some) c.requires.count c.farthest_ahead-first.ensures.farthest (λ k within. quotient_below c.args.q _ (c.requires.bits k 0 within))
          )
      | inr none ↦ in_turn_none prints first _ _ (omega arith)
    ]

pub returns-clause-spots : goal.returns-clause-spots
returns-clause-spots c =
    let q = c.args.q in
    let prints = c.args.spots.now in
    let first = c.farthest_ahead-first.result in
    let table = c.lay.new.table in
    let long : length table.slots ≡ 2 ^ q =
    c.lay.ensures.len ∙ ap (λ (table : Table). length table.slots) c.in_ok-table.ensures ∙ length-replicate c.slot_count.result blank ∙ c.slot_count.ensures in
    let origin = c.lay.ensures.origin ∙ ap (λ (table : Table). table.origin) c.in_ok-table.ensures in
    let start : table.origin < 2 ^ q = rw origin (origin_below q first c.quotient_at.result prints c.farthest_ahead-first.ensures.within c.requires.bits c.quotient_at.ensures.some c.quotient_at.ensures.none) in
    let has_prints : (h r : ℕ) → (has table.slots h r ≡ true) ↔ HasPrint prints first table.origin (length table.slots) (length prints) h r =
    subst (λ (o : ℕ). (h r : ℕ) → (has table.slots h r ≡ true) ↔ HasPrint prints first o (length table.slots) (length prints) h r) (sym c.lay.ensures.origin) (
    subst (λ (l : ℕ). (h r : ℕ) → (has table.slots h r ≡ true) ↔ HasPrint prints first c.in_ok-table.table.origin l (length prints) h r) (sym c.lay.ensures.len) c.lay.ensures.has
    ) in
    λ print. (
      shown_is_built q table prints first long start c.farthest_ahead-first.ensures.within c.requires.bits has_prints print,
      built_is_shown q table prints first long start c.farthest_ahead-first.ensures.within c.requires.bits has_prints print,
    )
