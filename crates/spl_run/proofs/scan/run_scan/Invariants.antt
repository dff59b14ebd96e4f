use Rattle.std.proofs.Common.{◌≡◌, ◌-◌, ◌^◌}
use Rattle.spl_desk.specs.Branches.{branch_kind}
use Rattle.spl_desk.specs.Calls.{HasCalled, MadeFew, NeverFell}
use Rattle.spl_desk.specs.Walk.{Went}
use Rattle.spl_run.specs.Run.{AreGoing}
use Rattle.spl_run.specs.Turns.{counted}
use Rattle.spl_run.proofs.Scans.{IsScanned}
use Rattle.spl_run.proofs.scan.run_scan.Given as goal

abbrev pub invariant-loop-left : goal.invariant-loop-left
invariant-loop-left g l =
    let old = g.T.Turns.means l.initial.desk.turns in
    let now = g.T.Turns.means l.desk.turns in
    record {
      called : HasCalled old now;
      few : MadeFew old now 0;
      ready : g.T.Turns.ready l.desk.turns;
      law : l.desk.law.now ≡ l.initial.desk.law.now;
      device : l.desk.port.ghost_name ≡ l.initial.desk.port.ghost_name;
      pager : l.desk.pager.now ≡ l.initial.desk.pager.now;
      port : NeverFell (g.P.Port.counts l.initial.desk.port.now) (g.P.Port.counts l.desk.port.now);
      going : AreGoing old.rule g.P.Seal.Seal.TELLS l.rows.items;
      scanned : IsScanned l.span l.initial.rows.items l.pieces l.rows.items;
      walk : Went (branch_kind g.P.Seal.Seal.TELLS) old (counted l.initial.rows.items) now (g.T.Turns.saw l.desk.turns) (λ turns seen. seen ≡ counted l.rows.items);
    }

abbrev pub decreases-loop-left : goal.decreases-loop-left
decreases-loop-left g l = 2 ^ 40 - (g.T.Turns.means l.desk.turns).turns
