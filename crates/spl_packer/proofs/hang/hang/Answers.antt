use Rattle.std.proofs.Common.{Option, subst, arith}
use Rattle.std.specs.Prelude.{IfSome}
use Rattle.spl_state.specs.View.{branch_data}
use Rattle.spl_desk.specs.Holder.{kind_of}
use Rattle.spl_desk.proofs.Quiet.{made_behind, quiet_then}
use Rattle.spl_packer.specs.Outcomes.{ShowsPacked, WasPacked}
use Rattle.spl_packer.specs.declared.packed.Packed.{Packed}
use Rattle.spl_packer.proofs.hang.hang.Goals as goal

pub returns-in_err-packed-clause-quiet : goal.returns-in_err-packed-clause-quiet
returns-in_err-packed-clause-quiet g c =
    let kind = kind_of g.B.Content.number (branch_data g.B.Content.extents g.B.Content.entries g.B.Content.cuts g.B.Content.table) g.B.Content.TELLS in
    quiet_then kind (g.T.Turns.means c.args.turns.now) (g.T.Turns.means c.loop-packed.turns) (g.T.Turns.means c.hang_once.new.turns)
    (g.T.Turns.saw c.args.turns.now) (g.T.Turns.saw c.loop-packed.turns) (g.T.Turns.saw c.hang_once.new.turns)
    c.loop-packed.invariant.quiet c.hang_once.ensures.quiet

pub returns-in-Some-clause-quiet : goal.returns-in-Some-clause-quiet
returns-in-Some-clause-quiet g c =
    let kind = kind_of g.B.Content.number (branch_data g.B.Content.extents g.B.Content.entries g.B.Content.cuts g.B.Content.table) g.B.Content.TELLS in
    quiet_then kind (g.T.Turns.means c.args.turns.now) (g.T.Turns.means c.loop-packed.turns) (g.T.Turns.means c.hang_once.new.turns)
    (g.T.Turns.saw c.args.turns.now) (g.T.Turns.saw c.loop-packed.turns) (g.T.Turns.saw c.hang_once.new.turns)
    c.loop-packed.invariant.quiet c.hang_once.ensures.quiet

pub returns-in-Some-clause-made : goal.returns-in-Some-clause-made
returns-in-Some-clause-made g c =
    let kind = kind_of g.B.Content.number (branch_data g.B.Content.extents g.B.Content.entries g.B.Content.cuts g.B.Content.table) g.B.Content.TELLS in
    let old = g.T.Turns.means c.args.turns.now in
    let mid = g.T.Turns.means c.loop-packed.turns in
    let new = g.T.Turns.means c.hang_once.new.turns in
    let between = g.T.Turns.saw c.loop-packed.turns in
    let sees = g.T.Turns.saw c.hang_once.new.turns in
    made_behind kind old mid new (g.T.Turns.saw c.args.turns.now) between sees (ShowsPacked c.in-Some.packed) c.loop-packed.invariant.quiet
    (subst (λ (tried : Option Packed). IfSome tried (WasPacked kind mid between new sees)) c.in-Some.is c.in_ok-packed.ensures.made)

pub loop-packed-preserved : goal.loop-packed-preserved
loop-packed-preserved g c =
    let kind = kind_of g.B.Content.number (branch_data g.B.Content.extents g.B.Content.entries g.B.Content.cuts g.B.Content.table) g.B.Content.TELLS in
    let one = c.loop-packed.invariant.few in
    let two = c.hang_once.ensures.few in
    record {
      quiet = quiet_then kind (g.T.Turns.means c.args.turns.now) (g.T.Turns.means c.loop-packed.turns) (g.T.Turns.means c.hang_once.new.turns)
          (g.T.Turns.saw c.args.turns.now) (g.T.Turns.saw c.loop-packed.turns) (g.T.Turns.saw c.hang_once.new.turns)
          c.loop-packed.invariant.quiet c.hang_once.ensures.quiet;
      few = omega (arith, one, two);
      ready = c.hang_once.ensures.ready;
      to_hang = rw c.in_default.is at c.in_ok-packed.ensures.tried;
    }
