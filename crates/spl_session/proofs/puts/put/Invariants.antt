use Rattle.std.proofs.Common.{◌≡◌, ◌-◌, ◌^◌}
use Rattle.spl_message.specs.History.{History}
use Rattle.spl_desk.specs.Branches.{branch_kind}
use Rattle.spl_desk.specs.Calls.{HasCalled, MadeFew, MadeNoCall, NeverFell}
use Rattle.spl_session.proofs.puts.put.Given as goal

abbrev pub invariant-loop-place : goal.invariant-loop-place
invariant-loop-place g l = record {
  called : HasCalled (g.T.Turns.means l.initial.desk.turns) (g.T.Turns.means l.desk.turns);
  ready : g.T.Turns.ready l.desk.turns;
  no_call : (history : History) → g.T.Turns.saw l.initial.desk.turns history → MadeNoCall (branch_kind g.P.Seal.Seal.TELLS) (g.T.Turns.means l.initial.desk.turns) history (g.T.Turns.means l.desk.turns) (g.T.Turns.saw l.desk.turns);
  law : l.desk.law.now ≡ l.initial.desk.law.now;
  device : l.desk.port.ghost_name ≡ l.initial.desk.port.ghost_name;
  pager : l.desk.pager.now ≡ l.initial.desk.pager.now;
  port : NeverFell (g.P.Port.counts l.initial.desk.port.now) (g.P.Port.counts l.desk.port.now);
  few : MadeFew (g.T.Turns.means l.initial.desk.turns) (g.T.Turns.means l.desk.turns) 0;
}

abbrev pub decreases-loop-place : goal.decreases-loop-place
decreases-loop-place g l = 2 ^ 40 - (g.T.Turns.means l.desk.turns).turns
