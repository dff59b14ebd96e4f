use Rattle.std.proofs.Common.{◌≡◌, ◌≤◌, ◌+◌, ◌^◌, [], take}
use Rattle.spl_desk.specs.Branches.{branch_kind}
use Rattle.spl_desk.specs.Calls.{HasCalled, NeverFell}
use Rattle.spl_desk.specs.Walk.{Went}
use Rattle.spl_run.specs.Turns.{counted}
use Rattle.spl_run.proofs.Runs.{Ran}
use Rattle.spl_run.proofs.run.run.Given as goal

abbrev pub invariant-loop-line : goal.invariant-loop-line
invariant-loop-line g l =
    let old = g.T.Turns.means l.initial.desk.turns in
    let now = g.T.Turns.means l.desk.turns in
    record {
      called : HasCalled old now;
      few : now.turns ≤ 2 ^ 40 + l.line-index;
      ready : g.T.Turns.ready l.desk.turns;
      law : l.desk.law.now ≡ l.initial.desk.law.now;
      device : l.desk.port.ghost_name ≡ l.initial.desk.port.ghost_name;
      port : NeverFell (g.P.Port.counts l.initial.desk.port.now) (g.P.Port.counts l.desk.port.now);
      ran : Ran old.rule g.P.Seal.Seal.TELLS (take l.line-index l.lines) l.rows.items;
      walk : Went (branch_kind g.P.Seal.Seal.TELLS) old [] now (g.T.Turns.saw l.desk.turns) (λ turns seen. seen ≡ counted l.rows.items);
    }
