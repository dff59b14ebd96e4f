use Rattle.std.proofs.Common.{◌≡◌, ◌+◌, ℕ, true, None, [], ◌∷◌, ◌++◌, option_to_list, refl, sym, ap, subst, ◌∙◌, map, arith}
use Rattle.spl_message.specs.Message.{act_all}
use Rattle.spl_message.specs.Rule.{Rule}
use Rattle.spl_message.specs.Table.{chain}
use Rattle.spl_branch.specs.Branch.{table_of}
use Rattle.spl_branch.specs.Reading.{reach_of}
use Rattle.spl_descent.specs.Sights.{rest}
use Rattle.spl_desk.specs.Branches.{branch_kind}
use Rattle.spl_down.specs.Arrivals.{arrival_in, height_in, reach_at}
use Rattle.spl_down.proofs.Answers.{came_nowhere}
use Rattle.spl_down.proofs.Walking.{alike, same_then}
use Rattle.spl_session.specs.Asking.{Folds}
use Rattle.spl_session.specs.Looking.{HasLookCause}
use Rattle.spl_session.proofs.Stays.{if_err_same}
use Rattle.spl_session.proofs.Finding.{found_last, found_on, read_stops}
use Rattle.spl_session.proofs.Keys.{for_front}
use Rattle.spl_session.proofs.Ways.{Way, way_none, way_on}
use Rattle.spl_session.proofs.look.find.Given.{Over}
use Rattle.spl_session.proofs.look.find.Goals as goal
use Rattle.spl_session.proofs.look.find.Goals.{After-is_last}

-- what was found at the node, by the holder's rule
folded : (g : Over) (c : After-is_last g) → g.P.Seal.Seal.TELLS ≡ true → Folds (g.T.Turns.means c.down.desk.turns).rule c.args.key.now (chain (map table_of c.down.sight.branches) c.args.key.now ++ option_to_list c.down.found) c.in_ok-found.found
folded g c tells =
    let rule : g.L.MergeLaw.rule c.down.desk.law.now ≡ (g.T.Turns.means c.down.desk.turns).rule =
    ap g.L.MergeLaw.rule c.down.invariant.law ∙ c.requires.law ∙ sym c.down.invariant.same.rule in
    subst (λ (r : Rule). Folds r c.args.key.now (chain (map table_of c.down.sight.branches) c.args.key.now ++ option_to_list c.down.found) c.in_ok-found.found) rule (c.in_ok-found.ensures.told tells)

pub returns-in_err-found-clause-walk : goal.returns-in_err-found-clause-walk
returns-in_err-found-clause-walk g c = λ history saw.
    let key = c.args.key.now in
    let old = g.T.Turns.means c.args.desk.now.turns in
    let mid = g.T.Turns.means c.down.desk.turns in
    let start = g.P.Port.counts c.args.desk.now.port.now in
    let between = g.P.Port.counts c.down.desk.port.now in
    let after = g.P.Port.counts c.ask_branches.new.port in
    let reach = reach_at reach_of key in
    way_on (branch_kind g.P.Seal.Seal.TELLS) g.P.Seal.Seal.TELLS key old history mid mid (g.T.Turns.saw c.down.desk.turns) (g.T.Turns.saw c.down.desk.turns) start between after
    (height_in mid.at c.down.sight + 1) (height_in old.at c.args.sight + 1) (reach c.down.sight) (reach c.args.sight) 0 (height_in old.at c.args.sight + 1) 0 0 []
    (alike c.down.invariant.same) (c.down.invariant.walk history saw)
    (λ seen s. came_nowhere (branch_kind g.P.Seal.Seal.TELLS) mid seen (g.T.Turns.saw c.down.desk.turns) s)
    (omega arith)
    (λ tells. let more = c.in_err-found.ensures.reach tells in omega (arith, more))

pub returns-in_err-end-clause-walk : goal.returns-in_err-end-clause-walk
returns-in_err-end-clause-walk g c = λ history saw.
    let key = c.args.key.now in
    let old = g.T.Turns.means c.args.desk.now.turns in
    let mid = g.T.Turns.means c.down.desk.turns in
    let new = g.T.Turns.means c.end.new.turns in
    let start = g.P.Port.counts c.args.desk.now.port.now in
    let between = g.P.Port.counts c.down.desk.port.now in
    let after = g.P.Port.counts c.ask_branches.new.port in
    let reach = reach_at reach_of key in
    way_on (branch_kind g.P.Seal.Seal.TELLS) g.P.Seal.Seal.TELLS key old history mid new (g.T.Turns.saw c.down.desk.turns) (g.T.Turns.saw c.end.new.turns) start between after
    (height_in mid.at c.down.sight + 1) (height_in old.at c.args.sight + 1) (reach c.down.sight) (reach c.args.sight) 1 (height_in old.at c.args.sight + 1) 0 0 []
    (alike c.down.invariant.same) (c.down.invariant.walk history saw) c.in_err-end.ensures.walk
    (omega arith)
    (λ tells. let more = c.in_ok-found.ensures.reach tells in omega (arith, more))

pub returns-then-is_last-clause-value : goal.returns-then-is_last-clause-value
returns-then-is_last-clause-value g c = λ tells.
    let key = c.args.key.now in
    let mid = g.T.Turns.means c.down.desk.turns in
    let before = (goal.at.returns-then-is_last-clause-value g c).After-is_last in
    let here = found_last (branch_kind g.P.Seal.Seal.TELLS) key mid c.down.sight c.down.found c.in_ok-found.found (folded g before tells) c.down.invariant.arrived c.down.invariant.wanted.inside (sym c.is_last.ensures ∙ c.if-is_last.true) in
    subst (λ (r : Rule). act_all r key None (option_to_list c.in_ok-found.found) ≡ act_all r key (rest r mid.at c.down.sight.node key) (option_to_list c.down.found)) c.down.invariant.same.rule here
    ∙ c.down.invariant.value tells

pub returns-then-is_last-clause-walk : goal.returns-then-is_last-clause-walk
returns-then-is_last-clause-walk g c = λ history saw.
    let key = c.args.key.now in
    let old = g.T.Turns.means c.args.desk.now.turns in
    let mid = g.T.Turns.means c.down.desk.turns in
    let new = g.T.Turns.means c.end.new.turns in
    let start = g.P.Port.counts c.args.desk.now.port.now in
    let between = g.P.Port.counts c.down.desk.port.now in
    let after = g.P.Port.counts c.ask_branches.new.port in
    let reach = reach_at reach_of key in
    way_on (branch_kind g.P.Seal.Seal.TELLS) g.P.Seal.Seal.TELLS key old history mid new (g.T.Turns.saw c.down.desk.turns) (g.T.Turns.saw c.end.new.turns) start between after
    (height_in mid.at c.down.sight + 1) (height_in old.at c.args.sight + 1) (reach c.down.sight) (reach c.args.sight) 1 (height_in old.at c.args.sight + 1) 0 0 []
    (alike c.down.invariant.same) (c.down.invariant.walk history saw) c.in_ok-end.ensures.walk
    (omega arith)
    (λ tells. let more = c.in_ok-found.ensures.reach tells in omega (arith, more))

pub returns-in_err-sight-clause-walk : goal.returns-in_err-sight-clause-walk
returns-in_err-sight-clause-walk g c = λ history saw.
    let key = c.args.key.now in
    let old = g.T.Turns.means c.args.desk.now.turns in
    let mid = g.T.Turns.means c.down.desk.turns in
    let new = g.T.Turns.means c.descend.new.turns in
    let start = g.P.Port.counts c.args.desk.now.port.now in
    let between = g.P.Port.counts c.down.desk.port.now in
    let after = g.P.Port.counts c.ask_branches.new.port in
    let reach = reach_at reach_of key in
    way_on (branch_kind g.P.Seal.Seal.TELLS) g.P.Seal.Seal.TELLS key old history mid new (g.T.Turns.saw c.down.desk.turns) (g.T.Turns.saw c.descend.new.turns) start between after
    (height_in mid.at c.down.sight + 1) (height_in old.at c.args.sight + 1) (reach c.down.sight) (reach c.args.sight) 1 (height_in old.at c.args.sight + 1) 0 0 []
    (alike c.down.invariant.same) (c.down.invariant.walk history saw) c.in_err-sight.ensures.walk
    (omega arith)
    (λ tells. let more = c.in_ok-found.ensures.reach tells in omega (arith, more))

pub down-init : goal.down-init
down-init g c =
    let key = c.args.key.now in
    let old = g.T.Turns.means c.args.desk.now.turns in
    let counts = g.P.Port.counts c.args.desk.now.port.now in
    let left = height_in old.at c.args.sight + 1 in
    let reach = reach_at reach_of key c.args.sight in
    record {
      same = record { alone = refl; actor = refl; rule = refl; turns = omega arith };
      few = omega arith;
      ready = c.requires.ready;
      seen = c.requires.seen;
      law = refl;
      device = refl;
      pager = refl;
      arrived = c.requires.arrived;
      wanted = c.requires.wanted;
      value = λ tells. refl;
      walk = λ history saw. way_none (branch_kind g.P.Seal.Seal.TELLS) g.P.Seal.Seal.TELLS key old history (g.T.Turns.saw c.args.desk.now.turns) counts left left reach reach saw (omega arith) (omega arith);
      counts = record { faults = omega arith; reads = omega arith; writes = refl };
    }

pub down-preserved : goal.down-preserved
down-preserved g c =
    let key = c.args.key.now in
    let kind = branch_kind g.P.Seal.Seal.TELLS in
    let old = g.T.Turns.means c.args.desk.now.turns in
    let mid = g.T.Turns.means c.down.desk.turns in
    let new = g.T.Turns.means c.descend.new.turns in
    let before = (goal.at.down-preserved g c).After-is_last in
    let moved = c.in_ok-sight.ensures.moved in
    let one = c.down.invariant.few in
    let two = c.in_ok-sight.ensures.few in
    let seen = c.down.invariant.counts in
    let more = c.in_ok-found.ensures.counts in
    let wanted = for_front c.down.sight.span c.in_ok-sight.sight.span key moved.front c.down.invariant.wanted in
    let reach = reach_at reach_of key in
    record {
      same = same_then old mid new c.down.invariant.same c.in_ok-sight.ensures.same;
      few = omega (arith, one, two);
      ready = c.in_ok-sight.ensures.ready;
      seen = c.in_ok-sight.ensures.seen;
      law = c.down.invariant.law;
      device = c.down.invariant.device;
      pager = c.down.invariant.pager;
      arrived = moved.arrived;
      wanted = wanted;
      value = λ tells.
          subst (λ (r : Rule). act_all r key (rest r new.at c.in_ok-sight.sight.node key) (option_to_list c.in_ok-found.found) ≡ act_all r key (rest r mid.at c.down.sight.node key) (option_to_list c.down.found)) c.down.invariant.same.rule
          (found_on kind key mid c.down.sight c.down.found c.in_ok-found.found (folded g before tells) new c.in_ok-sight.sight moved wanted.inside tells)
          ∙ c.down.invariant.value tells;
      walk = λ history saw.
          way_on kind g.P.Seal.Seal.TELLS key old history mid new (g.T.Turns.saw c.down.desk.turns) (g.T.Turns.saw c.descend.new.turns)
          (g.P.Port.counts c.args.desk.now.port.now) (g.P.Port.counts c.down.desk.port.now) (g.P.Port.counts c.ask_branches.new.port)
          (height_in mid.at c.down.sight + 1) (height_in old.at c.args.sight + 1) (reach c.down.sight) (reach c.args.sight)
          1 (height_in old.at c.args.sight + 1) (height_in new.at c.in_ok-sight.sight + 1) (reach c.in_ok-sight.sight) (arrival_in new.at c.in_ok-sight.sight ∷ [])
          (alike c.down.invariant.same) (c.down.invariant.walk history saw) c.in_ok-sight.ensures.walk
          (let lower = moved.lower in omega (arith, lower))
          (λ tells. let read = c.in_ok-found.ensures.reach tells in omega (arith, read));
      counts = record { faults = omega (arith, seen.faults, more.faults); reads = omega (arith, seen.reads, more.reads); writes = more.writes ∙ seen.writes };
    }

pub returns-in_err-found-clause-cause : goal.returns-in_err-found-clause-cause
returns-in_err-found-clause-cause g c =
    let start = g.P.Port.counts c.args.desk.now.port.now in
    let after = g.P.Port.counts c.ask_branches.new.port in
    let holder = g.T.Turns.means c.down.desk.turns in
    if_err_same c.from_residual.result c.in_err-found.field-0.0 (HasLookCause g.P.Seal.Seal.TELLS start after holder) c.from_residual.ensures.1
    (read_stops g.P.Seal.Seal.TELLS start (g.P.Port.counts c.down.desk.port.now) after holder c.in_err-found.field-0.0 c.down.invariant.counts c.in_err-found.ensures.cause)
