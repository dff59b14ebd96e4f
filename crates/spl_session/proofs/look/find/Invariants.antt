use Rattle.std.proofs.Common.{◌≡◌, ◌+◌, ◌^◌, ◌-◌, true, option_to_list}
use Rattle.spl_message.specs.History.{History}
use Rattle.spl_message.specs.Message.{act_all}
use Rattle.spl_branch.specs.Reading.{OnlyReads, reach_of}
use Rattle.spl_descent.specs.Sights.{rest}
use Rattle.spl_desk.specs.Branches.{branch_kind}
use Rattle.spl_desk.specs.Calls.{HasSeen, IsSameCaller, MadeFew}
use Rattle.spl_down.specs.Arrivals.{height_in, reach_at}
use Rattle.spl_down.specs.Descending.{Arrived}
use Rattle.spl_session.specs.Looking.{IsFor}
use Rattle.spl_session.proofs.Ways.{Way}
use Rattle.spl_session.proofs.look.find.Given as goal

abbrev pub invariant-down : goal.invariant-down
invariant-down g l =
    let old = g.T.Turns.means l.initial.desk.turns in
    let now = g.T.Turns.means l.desk.turns in
    let kind = branch_kind g.P.Seal.Seal.TELLS in
    record {
      same : IsSameCaller old now;
      few : MadeFew old now 0;
      ready : g.T.Turns.ready l.desk.turns;
      seen : HasSeen (g.T.Turns.saw l.desk.turns);
      law : l.desk.law.now ≡ l.initial.desk.law.now;
      device : l.desk.port.ghost_name ≡ l.initial.desk.port.ghost_name;
      pager : l.desk.pager.now ≡ l.initial.desk.pager.now;
      arrived : Arrived kind now l.sight;
      wanted : IsFor l.key l.sight.span;
      value : g.P.Seal.Seal.TELLS ≡ true → act_all old.rule l.key (rest old.rule now.at l.sight.node l.key) (option_to_list l.found) ≡ act_all old.rule l.key (rest old.rule old.at l.initial.sight.node l.key) (option_to_list l.initial.found);
      walk : (history : History) → g.T.Turns.saw l.initial.desk.turns history → Way kind g.P.Seal.Seal.TELLS l.key old history now (g.T.Turns.saw l.desk.turns)
          (g.P.Port.counts l.initial.desk.port.now) (g.P.Port.counts l.desk.port.now)
          (height_in now.at l.sight + 1) (height_in old.at l.initial.sight + 1) (reach_at reach_of l.key l.sight) (reach_at reach_of l.key l.initial.sight);
      counts : OnlyReads (g.P.Port.counts l.initial.desk.port.now) (g.P.Port.counts l.desk.port.now);
    }

abbrev pub decreases-down : goal.decreases-down
decreases-down g l = 2 ^ 40 - (g.T.Turns.means l.desk.turns).turns
