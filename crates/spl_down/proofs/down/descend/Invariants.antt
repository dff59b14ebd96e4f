use Rattle.std.proofs.Common.{◌^◌, ◌-◌, []}
use Rattle.spl_message.specs.History.{History}
use Rattle.spl_state.specs.View.{branch_data}
use Rattle.spl_desk.specs.Calls.{HasSeen, IsSameCaller, MadeFew}
use Rattle.spl_desk.specs.Holder.{kind_of}
use Rattle.spl_down.specs.Descending.{Waits}
use Rattle.spl_down.specs.Arrivals.{CameTo}
use Rattle.spl_down.proofs.down.descend.Given as goal

abbrev pub invariant-loop-turns : goal.invariant-loop-turns
invariant-loop-turns g l =
    let old = g.T.Turns.means l.initial.turns in
    let now = g.T.Turns.means l.turns in
    let kind = kind_of g.B.Content.number (branch_data g.B.Content.extents g.B.Content.entries g.B.Content.cuts g.B.Content.table) g.B.Content.TELLS in
    record {
      same : IsSameCaller old now;
      few : MadeFew old now 0;
      ready : g.T.Turns.ready l.turns;
      seen : HasSeen (g.T.Turns.saw l.turns);
      waits : Waits kind old now l.sight;
      walk : (history : History) → g.T.Turns.saw l.initial.turns history → CameTo kind old history now (g.T.Turns.saw l.turns) 0 [];
    }

abbrev pub decreases-loop-turns : goal.decreases-loop-turns
decreases-loop-turns g l = 2 ^ 40 - (g.T.Turns.means l.turns).turns
