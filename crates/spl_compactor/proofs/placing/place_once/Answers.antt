use Rattle.std.proofs.Common.{◌≡◌, ℕ, Bool, true, false, subst, arith}
use Rattle.spl_holds.specs.declared.grip.Grip.TheVariants.{Write}
use Rattle.spl_state.specs.View.{branch_data}
use Rattle.spl_desk.specs.Holder.{kind_of}
use Rattle.spl_desk.proofs.Quiet.{quiet_then}
use Rattle.spl_job.specs.Holding.{IsHolding, after_latch}
use Rattle.spl_compactor.specs.Compacting.{IsToPlace, no_grip, write_on}
use Rattle.spl_compactor.proofs.Ends.{placed_behind}
use Rattle.spl_compactor.proofs.Places.{place_least, placed_in, placed_out}
use Rattle.spl_compactor.proofs.placing.place_once.Given.{Over}
use Rattle.spl_compactor.proofs.placing.place_once.Goals as goal
use Rattle.spl_compactor.proofs.placing.place_once.Goals.{In_ok-enter}

pub enter-requires-clause-holds : goal.enter-requires-clause-holds
enter-requires-clause-holds g c =
    let to = c.requires.to_place.2 in
    let below = c.requires.to_place.1 in
    let told = to.told in
    (to.holding, to.holds.has, to.grips_are c.args.node, omega (arith, below, told))

-- what the actor has where it came to write the node, and where it did not
entered : (g : Over) (c : In_ok-enter g) (least : ℕ) (to : IsToPlace g.B.Content.TELLS (g.T.Turns.means c.args.turns.now) least c.args.output no_grip) (made : Bool) → c.in_ok-enter.field-0 ≡ made → IsHolding (g.T.Turns.means c.enter.new.turns) (after_latch to.holding c.args.node made Write)
entered g c least to made is =
    subst (λ (b : Bool). IsHolding (g.T.Turns.means c.enter.new.turns) (after_latch to.holding c.args.node b Write)) is
    (c.in_ok-enter.ensures.holds to.holding to.holds.has (to.grips_are c.args.node))

pub place_in-requires-clause-to_place : goal.place_in-requires-clause-to_place
place_in-requires-clause-to_place g c =
    let old = g.T.Turns.means c.args.turns.now in
    let mid = g.T.Turns.means c.enter.new.turns in
    let least = c.requires.to_place.0 in
    let to = c.requires.to_place.2 in
    place_least g.B.Content.TELLS mid 0 least c.args.output (write_on c.args.node) (omega arith)
    (placed_in g.B.Content.TELLS old mid least c.args.node c.args.output c.enter.ensures.quiet.same.rule to
    (entered g (goal.at.place_in-requires-clause-to_place g c).In_ok-enter least to true c.if-branch.true))

pub returns-then-branch-clause-quiet : goal.returns-then-branch-clause-quiet
returns-then-branch-clause-quiet g c =
    let kind = kind_of g.B.Content.number (branch_data g.B.Content.extents g.B.Content.entries g.B.Content.cuts g.B.Content.table) g.B.Content.TELLS in
    quiet_then kind (g.T.Turns.means c.args.turns.now) (g.T.Turns.means c.enter.new.turns) (g.T.Turns.means c.place_in.new.turns)
    (g.T.Turns.saw c.args.turns.now) (g.T.Turns.saw c.enter.new.turns) (g.T.Turns.saw c.place_in.new.turns)
    c.enter.ensures.quiet c.place_in.ensures.quiet

pub returns-then-branch-clause-placed : goal.returns-then-branch-clause-placed
returns-then-branch-clause-placed g c = λ least below to.
    let old = g.T.Turns.means c.args.turns.now in
    let mid = g.T.Turns.means c.enter.new.turns in
    c.place_in.ensures.placed least
    (placed_in g.B.Content.TELLS old mid least c.args.node c.args.output c.enter.ensures.quiet.same.rule to
    (entered g (goal.at.returns-then-branch-clause-placed g c).In_ok-enter least to true c.if-branch.true))

pub returns-then-branch-clause-made : goal.returns-then-branch-clause-made
returns-then-branch-clause-made g c =
    let kind = kind_of g.B.Content.number (branch_data g.B.Content.extents g.B.Content.entries g.B.Content.cuts g.B.Content.table) g.B.Content.TELLS in
    placed_behind kind (g.T.Turns.means c.args.turns.now) (g.T.Turns.means c.enter.new.turns) (g.T.Turns.means c.place_in.new.turns)
    (g.T.Turns.saw c.args.turns.now) (g.T.Turns.saw c.enter.new.turns) (g.T.Turns.saw c.place_in.new.turns)
    c.place_in.result c.enter.ensures.quiet c.place_in.ensures.made

pub returns-else-branch-clause-placed : goal.returns-else-branch-clause-placed
returns-else-branch-clause-placed g c = λ least below to.
    let old = g.T.Turns.means c.args.turns.now in
    let mid = g.T.Turns.means c.enter.new.turns in (
      least,
      omega arith,
      below,
      placed_out g.B.Content.TELLS old mid least c.args.node c.args.output c.enter.ensures.quiet.same.rule to
          (entered g (goal.at.returns-else-branch-clause-placed g c).In_ok-enter least to false c.if-branch.false),
    )
