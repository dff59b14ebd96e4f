use Rattle.std.proofs.Common.{◌≡◌, ◌^◌, ◌-◌}
use Rattle.spl_desk.specs.Branches.{branch_kind}
use Rattle.spl_worker.specs.Plans.{IsNamed}
use Rattle.spl_worker.specs.Working.{HasGoneOn, HasWorked}
use Rattle.spl_worker.proofs.working.work_from_root.Given as goal

abbrev pub invariant-work : goal.invariant-work
invariant-work g l =
    let old = g.T.Turns.means l.initial.desk.turns in
    let now = g.T.Turns.means l.desk.turns in
    record {
      worked : HasWorked (branch_kind g.P.Seal.Seal.TELLS) old (g.T.Turns.saw l.initial.desk.turns) now (g.T.Turns.saw l.desk.turns) (g.P.Port.counts l.initial.desk.port.now) (g.P.Port.counts l.desk.port.now);
      went : HasGoneOn old now;
      ready : g.T.Turns.ready l.desk.turns;
      law : l.desk.law.now ≡ l.initial.desk.law.now;
      pager : l.desk.pager.now ≡ l.initial.desk.pager.now;
      device : l.desk.port.ghost_name ≡ l.initial.desk.port.ghost_name;
      faults : (g.P.Port.counts l.desk.port.now).faults ≡ (g.P.Port.counts l.initial.desk.port.now).faults;
      named : IsNamed now l.at;
    }

abbrev pub decreases-work : goal.decreases-work
decreases-work g l = 2 ^ 40 - (g.T.Turns.means l.desk.turns).turns
