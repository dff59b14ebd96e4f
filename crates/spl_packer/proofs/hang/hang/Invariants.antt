use Rattle.std.proofs.Common.{◌^◌, ◌-◌}
use Rattle.spl_holds.specs.declared.grip.Grip.TheVariants.{Free}
use Rattle.spl_state.specs.View.{branch_data}
use Rattle.spl_desk.specs.Calls.{MadeFew}
use Rattle.spl_desk.specs.Holder.{kind_of}
use Rattle.spl_desk.specs.Quiet.{IsQuiet}
use Rattle.spl_packer.specs.Packs.{IsToHang}
use Rattle.spl_packer.proofs.hang.hang.Given as goal

abbrev pub invariant-loop-packed : goal.invariant-loop-packed
invariant-loop-packed g l =
    let old = g.T.Turns.means l.initial.turns in
    let now = g.T.Turns.means l.turns in
    record {
      quiet : IsQuiet (kind_of g.B.Content.number (branch_data g.B.Content.extents g.B.Content.entries g.B.Content.cuts g.B.Content.table) g.B.Content.TELLS) old (g.T.Turns.saw l.initial.turns) now (g.T.Turns.saw l.turns);
      few : MadeFew old now 0;
      ready : g.T.Turns.ready l.turns;
      to_hang : IsToHang now Free;
    }

abbrev pub decreases-loop-packed : goal.decreases-loop-packed
decreases-loop-packed g l = 2 ^ 40 - (g.T.Turns.means l.turns).turns
