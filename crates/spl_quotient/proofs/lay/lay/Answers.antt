use Rattle.std.proofs.Common.{◌≡◌, ◌<◌, ◌/◌, ◌%◌, ◌^◌, ℕ, ◌↔◌, true, length, get_or, refl, ap, ap₂, subst, ◌∙◌, add-one, arith}
use Rattle.spl_quotient.specs.Table.{has, home_in, position_in}
use Rattle.spl_quotient.specs.Filling.{HasPrint, print_at}
use Rattle.spl_quotient.proofs.Turns.{place_within}
use Rattle.spl_quotient.proofs.Laying.{filled_empty, has_prints_none, has_prints_more}
use Rattle.spl_quotient.proofs.lay.lay.Goals as goal

pub loop-i-init : goal.loop-i-init
loop-i-init c = record {
  filled = filled_empty c.args.table.now.slots c.requires.empty;
  ordered = λ some begun. omega arith;
  room = omega (arith, c.requires.count);
  has_so_far = has_prints_none c.args.prints.now c.args.first c.args.table.now.origin (length c.args.table.now.slots) c.args.table.now.slots c.requires.empty;
  same_origin = refl;
  same_len = refl;
}

pub position_of-home-requires : goal.position_of-home-requires
position_of-home-requires c =
    let prints = c.args.prints.now in
    let placed = place_within c.args.first (length prints) c.loop-i.i (c.requires.first (omega arith)) c.loop-i-test.true in
    let inside : c.number_of.result < length prints = rw c.number_of.ensures placed in
    rw c.loop-i.invariant.same_len (c.requires.numbers c.number_of.result 0 inside)

pub loop-i-preserved : goal.loop-i-preserved
loop-i-preserved c =
    let prints = c.args.prints.now in
    let first = c.args.first in
    let origin = c.args.table.now.origin in
    let len = length c.args.table.now.slots in
    let i = c.loop-i.i in
    let invariant = c.loop-i.invariant in
    let home_is : c.position_of-home.result ≡ home_in origin len (print_at prints first i) =
    c.position_of-home.ensures.value
    ∙ ap₂ (λ (o l : ℕ). position_in o l (get_or prints c.number_of.result 0 / 4096)) invariant.same_origin invariant.same_len
    ∙ ap (λ (k : ℕ). position_in origin len (get_or prints k 0 / 4096)) c.number_of.ensures in
    let remainder_is : get_or prints c.number_of.result 0 % 4096 ≡ print_at prints first i % 2 ^ 12 =
    ap (λ (k : ℕ). get_or prints k 0 % 4096) c.number_of.ensures in
    record {
      filled = c.lay_one-next.ensures.filled;
      ordered = λ more some. rw (home_is, add-one) (c.requires.turn.order i (omega arith));
      room = omega (arith, c.lay_one-next.ensures.next, invariant.room, c.requires.turn.room i c.loop-i-test.true);
      has_so_far = has_prints_more prints first origin len c.loop-i.table.slots c.lay_one-next.new.table.slots i _ _ c.lay_one-next.ensures.gains home_is remainder_is invariant.has_so_far;
      same_origin = c.lay_one-next.ensures.origin ∙ invariant.same_origin;
      same_len = c.lay_one-next.ensures.len ∙ invariant.same_len;
    }

pub returns-clause-has : goal.returns-clause-has
returns-clause-has c =
    let prints = c.args.prints.now in
    let end : c.loop-i.i ≡ length prints = omega (arith, c.loop-i.auto.i-end) in
    subst (λ (n : ℕ). (h r : ℕ) → (has c.loop-i.table.slots h r ≡ true) ↔ HasPrint prints c.args.first c.args.table.now.origin (length c.args.table.now.slots) n h r) end c.loop-i.invariant.has_so_far
