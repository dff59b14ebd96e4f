use Rattle.std.proofs.Common.{ℕ, ◌<◌, ◌≤◌, ◌^◌, ◌-◌}
use Rattle.spl_state.specs.View.{branch_data}
use Rattle.spl_desk.specs.Calls.{MadeFew}
use Rattle.spl_desk.specs.Holder.{kind_of}
use Rattle.spl_desk.specs.Quiet.{IsQuiet}
use Rattle.spl_compactor.specs.Compacting.{IsToPlace, no_grip}
use Rattle.spl_compactor.proofs.placing.place.Given as goal

abbrev pub invariant-loop-next : goal.invariant-loop-next
invariant-loop-next g l =
    let tells = g.B.Content.TELLS in
    let old = g.T.Turns.means l.initial.turns in
    let now = g.T.Turns.means l.turns in
    record {
      quiet : IsQuiet (kind_of g.B.Content.number (branch_data g.B.Content.extents g.B.Content.entries g.B.Content.cuts g.B.Content.table) tells) old (g.T.Turns.saw l.initial.turns) now (g.T.Turns.saw l.turns);
      few : MadeFew old now 0;
      ready : g.T.Turns.ready l.turns;
      to_place : (least : ℕ) → l.node < least → IsToPlace tells old least l.output no_grip → (more : ℕ) × (least ≤ more) × (l.at < more) × IsToPlace tells now more l.output no_grip;
    }

abbrev pub decreases-loop-next : goal.decreases-loop-next
decreases-loop-next g l = 2 ^ 40 - (g.T.Turns.means l.turns).turns
