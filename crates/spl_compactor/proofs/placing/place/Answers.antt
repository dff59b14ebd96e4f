use Rattle.std.proofs.Common.{◌≡◌, ◌<◌, ℕ, subst, arith}
use Rattle.std.specs.Prelude.{IfSome}
use Rattle.spl_state.specs.View.{branch_data}
use Rattle.spl_desk.specs.Holder.{kind_of}
use Rattle.spl_desk.proofs.Quiet.{made_behind, quiet_none, quiet_then}
use Rattle.spl_compactor.specs.declared.placing.Placed.{Placed}
use Rattle.spl_compactor.specs.declared.placing.Placed.TheVariants as placed
use Rattle.spl_compactor.specs.Compacting.{AfterPlace, IsToPlace, no_grip}
use Rattle.spl_compactor.specs.Outcomes.{ShowsEnd, WasEnded, ends}
use Rattle.spl_compactor.specs.declared.compacted.Compacted.TheVariants as compacted
use Rattle.spl_compactor.proofs.placing.place.Given.{Over}
use Rattle.spl_compactor.proofs.placing.place.Goals as goal
use Rattle.spl_compactor.proofs.placing.place.Goals.{In_ok-next}

pub loop-next-init : goal.loop-next-init
loop-next-init g c =
    let kind = kind_of g.B.Content.number (branch_data g.B.Content.extents g.B.Content.entries g.B.Content.cuts g.B.Content.table) g.B.Content.TELLS in
    let old = g.T.Turns.means c.args.turns.now in
    record {
      quiet = quiet_none kind old (g.T.Turns.saw c.args.turns.now) c.requires.seen;
      few = omega arith;
      ready = c.requires.ready;
      to_place = λ least below to. (least, omega arith, below, to);
    }

pub place_once-requires-clause-to_place : goal.place_once-requires-clause-to_place
place_once-requires-clause-to_place g c =
    let first = c.requires.to_place in
    let now = c.loop-next.invariant.to_place first.0 first.1 first.2 in
    (now.0, now.2, now.3)

-- what the actor has after the latest try
tried : (g : Over) (c : In_ok-next g) (answer : Placed) → c.in_ok-next.field-0 ≡ answer → (more : ℕ) → c.loop-next.at < more → IsToPlace g.B.Content.TELLS (g.T.Turns.means c.loop-next.turns) more c.args.output no_grip → AfterPlace g.B.Content.TELLS (g.T.Turns.means c.place_once.new.turns) more c.args.output answer
tried g c answer is more below to =
    subst (λ (p : Placed). AfterPlace g.B.Content.TELLS (g.T.Turns.means c.place_once.new.turns) more c.args.output p) is
    (c.in_ok-next.ensures.placed more below to)

pub loop-next-preserved : goal.loop-next-preserved
loop-next-preserved g c =
    let kind = kind_of g.B.Content.number (branch_data g.B.Content.extents g.B.Content.entries g.B.Content.cuts g.B.Content.table) g.B.Content.TELLS in
    let inv = c.loop-next.invariant in
    let one = inv.few in
    let two = c.place_once.ensures.few in
    record {
      quiet = quiet_then kind (g.T.Turns.means c.args.turns.now) (g.T.Turns.means c.loop-next.turns) (g.T.Turns.means c.place_once.new.turns)
          (g.T.Turns.saw c.args.turns.now) (g.T.Turns.saw c.loop-next.turns) (g.T.Turns.saw c.place_once.new.turns)
          inv.quiet c.place_once.ensures.quiet;
      few = omega (arith, one, two);
      ready = c.place_once.ensures.ready;
      to_place = λ least below to.
          let now = inv.to_place least below to in
          let after = tried g (goal.at.loop-next-preserved g c).In_ok-next (placed.Next c.in-Next.next) c.in-Next.is now.0 now.2 now.3 in
          let fewer = now.1 in
          let still = after.1 in
          (after.0, omega (arith, fewer, still), after.2, after.3);
    }

pub returns-in_err-next-clause-quiet : goal.returns-in_err-next-clause-quiet
returns-in_err-next-clause-quiet g c =
    let kind = kind_of g.B.Content.number (branch_data g.B.Content.extents g.B.Content.entries g.B.Content.cuts g.B.Content.table) g.B.Content.TELLS in
    quiet_then kind (g.T.Turns.means c.args.turns.now) (g.T.Turns.means c.loop-next.turns) (g.T.Turns.means c.place_once.new.turns)
    (g.T.Turns.saw c.args.turns.now) (g.T.Turns.saw c.loop-next.turns) (g.T.Turns.saw c.place_once.new.turns)
    c.loop-next.invariant.quiet c.place_once.ensures.quiet

pub returns-in-Done-clause-quiet : goal.returns-in-Done-clause-quiet
returns-in-Done-clause-quiet g c =
    let kind = kind_of g.B.Content.number (branch_data g.B.Content.extents g.B.Content.entries g.B.Content.cuts g.B.Content.table) g.B.Content.TELLS in
    quiet_then kind (g.T.Turns.means c.args.turns.now) (g.T.Turns.means c.loop-next.turns) (g.T.Turns.means c.place_once.new.turns)
    (g.T.Turns.saw c.args.turns.now) (g.T.Turns.saw c.loop-next.turns) (g.T.Turns.saw c.place_once.new.turns)
    c.loop-next.invariant.quiet c.place_once.ensures.quiet

pub returns-in-Stale-clause-quiet : goal.returns-in-Stale-clause-quiet
returns-in-Stale-clause-quiet g c =
    let kind = kind_of g.B.Content.number (branch_data g.B.Content.extents g.B.Content.entries g.B.Content.cuts g.B.Content.table) g.B.Content.TELLS in
    quiet_then kind (g.T.Turns.means c.args.turns.now) (g.T.Turns.means c.loop-next.turns) (g.T.Turns.means c.place_once.new.turns)
    (g.T.Turns.saw c.args.turns.now) (g.T.Turns.saw c.loop-next.turns) (g.T.Turns.saw c.place_once.new.turns)
    c.loop-next.invariant.quiet c.place_once.ensures.quiet

pub returns-in-Done-clause-placed : goal.returns-in-Done-clause-placed
returns-in-Done-clause-placed g c = λ least below to.
    let now = c.loop-next.invariant.to_place least below to in
    let after = tried g (goal.at.returns-in-Done-clause-placed g c).In_ok-next placed.Done c.in-Done.is now.0 now.2 now.3 in
    let fewer = now.1 in
    let told = after.1 in
    (after.0, omega (arith, fewer, told))

pub returns-in-Done-clause-made : goal.returns-in-Done-clause-made
returns-in-Done-clause-made g c =
    let kind = kind_of g.B.Content.number (branch_data g.B.Content.extents g.B.Content.entries g.B.Content.cuts g.B.Content.table) g.B.Content.TELLS in
    let old = g.T.Turns.means c.args.turns.now in
    let mid = g.T.Turns.means c.loop-next.turns in
    let new = g.T.Turns.means c.place_once.new.turns in
    let between = g.T.Turns.saw c.loop-next.turns in
    let sees = g.T.Turns.saw c.place_once.new.turns in
    made_behind kind old mid new (g.T.Turns.saw c.args.turns.now) between sees (ShowsEnd compacted.Done) c.loop-next.invariant.quiet
    (subst (λ (p : Placed). IfSome (ends p) (WasEnded kind mid between new sees)) c.in-Done.is c.in_ok-next.ensures.made)

pub returns-in-Stale-clause-placed : goal.returns-in-Stale-clause-placed
returns-in-Stale-clause-placed g c = λ least below to.
    let now = c.loop-next.invariant.to_place least below to in
    let told = tried g (goal.at.returns-in-Stale-clause-placed g c).In_ok-next placed.Stale c.in-Stale.is now.0 now.2 now.3 in
    let fewer = now.1 in
    omega (arith, fewer, told)

pub returns-in-Stale-clause-made : goal.returns-in-Stale-clause-made
returns-in-Stale-clause-made g c =
    let kind = kind_of g.B.Content.number (branch_data g.B.Content.extents g.B.Content.entries g.B.Content.cuts g.B.Content.table) g.B.Content.TELLS in
    let old = g.T.Turns.means c.args.turns.now in
    let mid = g.T.Turns.means c.loop-next.turns in
    let new = g.T.Turns.means c.place_once.new.turns in
    let between = g.T.Turns.saw c.loop-next.turns in
    let sees = g.T.Turns.saw c.place_once.new.turns in
    made_behind kind old mid new (g.T.Turns.saw c.args.turns.now) between sees (ShowsEnd compacted.Stale) c.loop-next.invariant.quiet
    (subst (λ (p : Placed). IfSome (ends p) (WasEnded kind mid between new sees)) c.in-Stale.is c.in_ok-next.ensures.made)
