use Rattle.std.proofs.Common.{◌≡◌, ◌^◌, ◌-◌, ℕ, List, true, option_to_list}
use Rattle.spl_message.specs.Entries.{message_in}
use Rattle.spl_message.specs.History.{History}
use Rattle.spl_message.specs.Message.{act_all}
use Rattle.spl_message.specs.Span.{InSpan}
use Rattle.spl_branch.specs.Reading.{OnlyReads}
use Rattle.spl_descent.specs.Sights.{rest}
use Rattle.spl_desk.specs.Branches.{branch_kind}
use Rattle.spl_desk.specs.Calls.{HasSeen, IsSameCaller, MadeFew, MadeNoCall}
use Rattle.spl_down.specs.Descending.{Arrived}
use Rattle.spl_down.specs.Spans.{IsFront}
use Rattle.spl_range.proofs.gather.gather.Given as goal

abbrev pub invariant-down : goal.invariant-down
invariant-down g l =
    let old = g.T.Turns.means l.fn.desk.turns in
    let now = g.T.Turns.means l.desk.turns in
    let kind = branch_kind g.P.Seal.Seal.TELLS in
    record {
      same : IsSameCaller old now;
      few : MadeFew old now 0;
      ready : g.T.Turns.ready l.desk.turns;
      seen : HasSeen (g.T.Turns.saw l.desk.turns);
      law : l.desk.law.now ≡ l.fn.desk.law.now;
      device : l.desk.port.ghost_name ≡ l.fn.desk.port.ghost_name;
      pager : l.desk.pager.now ≡ l.fn.desk.pager.now;
      arrived : Arrived kind now l.sight;
      front : IsFront l.fn.sight.span l.sight.span;
      value : g.P.Seal.Seal.TELLS ≡ true → (key : List ℕ) → InSpan l.sight.span key
          → act_all old.rule key (rest old.rule now.at l.sight.node key) (option_to_list (message_in l.found.entries key))
          ≡ act_all old.rule key (rest old.rule old.at l.fn.sight.node key) (option_to_list (message_in l.fn.found.entries key));
      walk : (history : History) → g.T.Turns.saw l.fn.desk.turns history → MadeNoCall kind old history now (g.T.Turns.saw l.desk.turns);
      counts : OnlyReads (g.P.Port.counts l.fn.desk.port.now) (g.P.Port.counts l.desk.port.now);
      faults : (g.P.Port.counts l.desk.port.now).faults ≡ (g.P.Port.counts l.fn.desk.port.now).faults;
    }

abbrev pub decreases-down : goal.decreases-down
decreases-down g l = 2 ^ 40 - (g.T.Turns.means l.desk.turns).turns
