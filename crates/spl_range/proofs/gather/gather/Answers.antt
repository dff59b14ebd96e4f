use Rattle.std.proofs.Common.{◌≡◌, None, ◌∷◌, [], option_to_list, ap, sym, subst, ◌∙◌, map, arith}
use Rattle.spl_message.specs.Entries.{message_in}
use Rattle.spl_message.specs.Message.{act_all}
use Rattle.spl_message.specs.Rule.{Rule}
use Rattle.spl_message.specs.Table.{chain}
use Rattle.spl_branch.specs.Branch.{table_of}
use Rattle.spl_descent.specs.Sights.{rest}
use Rattle.spl_desk.specs.Branches.{branch_kind}
use Rattle.spl_desk.proofs.Walks.{none_then_none}
use Rattle.spl_down.specs.Arrivals.{arrival_in}
use Rattle.spl_down.proofs.Fronts.{front_keys, front_on}
use Rattle.spl_down.proofs.Walking.{alike, same_then}
use Rattle.spl_range.specs.Adding.{AddsUnder}
use Rattle.spl_range.proofs.Gathering.{gathered_last, gathered_on}
use Rattle.spl_range.proofs.Stops.{reads_on}
use Rattle.spl_range.proofs.Walking.{came_quietly}
use Rattle.spl_range.proofs.gather.gather.Goals as goal

pub returns-in_err-end-clause-walk : goal.returns-in_err-end-clause-walk
returns-in_err-end-clause-walk g c = λ history saw.
    let kind = branch_kind g.P.Seal.Seal.TELLS in
    let mid = g.T.Turns.means c.down.desk.turns in
    let new = g.T.Turns.means c.end.new.turns in
    none_then_none kind (g.T.Turns.means c.args.desk.now.turns) history mid new (g.T.Turns.saw c.down.desk.turns) (g.T.Turns.saw c.end.new.turns) (alike c.down.invariant.same) (c.down.invariant.walk history saw)
    (λ seen saw. came_quietly kind mid seen new (g.T.Turns.saw c.end.new.turns) 1 [] (c.in_err-end.ensures.walk seen saw))

pub returns-then-sight-clause-value : goal.returns-then-sight-clause-value
returns-then-sight-clause-value g c = λ tells key inside.
    let kind = branch_kind g.P.Seal.Seal.TELLS in
    let mid = g.T.Turns.means c.down.desk.turns in
    let sight = c.down.sight in
    let was = c.down.found.entries in
    let now = c.add_branches.new.found.entries in
    let rule : g.L.MergeLaw.rule c.down.desk.law.now ≡ mid.rule = ap g.L.MergeLaw.rule c.down.invariant.law ∙ c.requires.law ∙ sym c.down.invariant.same.rule in
    let adds = subst (λ (r : Rule). AddsUnder r sight.span (chain (map table_of sight.branches)) was now) rule (c.in_ok-add_branches.ensures.told tells) in
    subst (λ (r : Rule). act_all r key None (option_to_list (message_in now key)) ≡ act_all r key (rest r mid.at sight.node key) (option_to_list (message_in was key))) c.down.invariant.same.rule
    (gathered_last kind mid sight was now adds c.down.invariant.arrived c.if-sight.true key inside)
    ∙ c.down.invariant.value tells key inside

pub returns-then-sight-clause-walk : goal.returns-then-sight-clause-walk
returns-then-sight-clause-walk g c = λ history saw.
    let kind = branch_kind g.P.Seal.Seal.TELLS in
    let mid = g.T.Turns.means c.down.desk.turns in
    let new = g.T.Turns.means c.end.new.turns in
    none_then_none kind (g.T.Turns.means c.args.desk.now.turns) history mid new (g.T.Turns.saw c.down.desk.turns) (g.T.Turns.saw c.end.new.turns) (alike c.down.invariant.same) (c.down.invariant.walk history saw)
    (λ seen saw. came_quietly kind mid seen new (g.T.Turns.saw c.end.new.turns) 1 [] (c.in_ok-end.ensures.walk seen saw))

pub returns-in_err-sight-clause-walk : goal.returns-in_err-sight-clause-walk
returns-in_err-sight-clause-walk g c = λ history saw.
    let kind = branch_kind g.P.Seal.Seal.TELLS in
    let mid = g.T.Turns.means c.down.desk.turns in
    let new = g.T.Turns.means c.descend.new.turns in
    none_then_none kind (g.T.Turns.means c.args.desk.now.turns) history mid new (g.T.Turns.saw c.down.desk.turns) (g.T.Turns.saw c.descend.new.turns) (alike c.down.invariant.same) (c.down.invariant.walk history saw)
    (λ seen saw. came_quietly kind mid seen new (g.T.Turns.saw c.descend.new.turns) 1 [] (c.in_err-sight.ensures.walk seen saw))

pub down-preserved : goal.down-preserved
down-preserved g c =
    let kind = branch_kind g.P.Seal.Seal.TELLS in
    let old = g.T.Turns.means c.args.desk.now.turns in
    let mid = g.T.Turns.means c.down.desk.turns in
    let new = g.T.Turns.means c.descend.new.turns in
    let sight = c.down.sight in
    let next = c.in_ok-sight.sight in
    let was = c.down.found.entries in
    let now = c.add_branches.new.found.entries in
    let left = c.drop_beyond.new.found.entries in
    let inv = c.down.invariant in
    let moved = c.in_ok-sight.ensures.moved in
    let one = inv.few in
    let two = c.in_ok-sight.ensures.few in
    let rule : g.L.MergeLaw.rule c.down.desk.law.now ≡ mid.rule = ap g.L.MergeLaw.rule inv.law ∙ c.requires.law ∙ sym inv.same.rule in
    record {
      same = same_then old mid new inv.same c.in_ok-sight.ensures.same;
      few = omega (arith, one, two);
      ready = c.in_ok-sight.ensures.ready;
      seen = c.in_ok-sight.ensures.seen;
      law = inv.law;
      device = inv.device;
      pager = inv.pager;
      arrived = moved.arrived;
      front = front_on c.args.sight.span sight.span next.span inv.front moved.front;
      value = λ tells key inside.
          subst (λ (r : Rule). act_all r key (rest r new.at next.node key) (option_to_list (message_in left key)) ≡ act_all r key (rest r mid.at sight.node key) (option_to_list (message_in was key))) inv.same.rule
          (gathered_on kind mid sight was now (subst (λ (r : Rule). AddsUnder r sight.span (chain (map table_of sight.branches)) was now) rule (c.in_ok-add_branches.ensures.told tells))
          new next left moved c.drop_beyond.ensures tells key inside)
          ∙ inv.value tells key (front_keys sight.span next.span moved.front key inside);
      walk = λ history saw.
          none_then_none kind old history mid new (g.T.Turns.saw c.down.desk.turns) (g.T.Turns.saw c.descend.new.turns) (alike inv.same) (inv.walk history saw)
          (λ seen saw. came_quietly kind mid seen new (g.T.Turns.saw c.descend.new.turns) 1 (arrival_in new.at next ∷ []) (c.in_ok-sight.ensures.walk seen saw));
      counts = reads_on (g.P.Port.counts c.args.desk.now.port.now) (g.P.Port.counts c.down.desk.port.now) (g.P.Port.counts c.add_branches.new.port) inv.counts c.in_ok-add_branches.ensures.counts;
      faults = c.in_ok-add_branches.ensures.faults ∙ inv.faults;
    }
