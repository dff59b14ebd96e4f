use Rattle.std.proofs.Common.{[], ◌∷◌, Result, refl, subst, sym, arith}
use Rattle.std.specs.Prelude.{MatchResult}
use Rattle.std.proofs.lemmas.Result.{err_from_is_err_and}
use Rattle.spl_state.specs.View.{branch_data}
use Rattle.spl_desk.specs.Holder.{kind_of}
use Rattle.spl_down.specs.Arrivals.{CameTo, arrival_in}
use Rattle.spl_down.proofs.Answers.{came_fewer, came_later, came_nowhere}
use Rattle.spl_down.proofs.Walking.{alike, descended_behind, same_on, waits_behind}
use Rattle.spl_down.proofs.down.descend.Goals as goal

pub returns-in_err-next-clause-walk : goal.returns-in_err-next-clause-walk
returns-in_err-next-clause-walk g c = λ history saw.
    let kind = kind_of g.B.Content.number (branch_data g.B.Content.extents g.B.Content.entries g.B.Content.cuts g.B.Content.table) g.B.Content.TELLS in
    let old = g.T.Turns.means c.args.turns.now in
    let new = g.T.Turns.means c.descend_once.new.turns in
    let p = err_from_is_err_and c.from_residual.result c.from_residual.ensures.1 in
    let none : CameTo kind old history new (g.T.Turns.saw c.descend_once.new.turns) 1 [] =
    came_later kind old history (g.T.Turns.means c.loop-turns.turns) new (g.T.Turns.saw c.loop-turns.turns) (g.T.Turns.saw c.descend_once.new.turns) 1 [] (alike c.loop-turns.invariant.same) (c.loop-turns.invariant.walk history saw) c.in_err-next.ensures.walk in
    subst (λ (r : Result _ _). MatchResult r (λ next. CameTo kind old history new (g.T.Turns.saw c.descend_once.new.turns) 1 (arrival_in new.at next ∷ [])) (λ fault. CameTo kind old history new (g.T.Turns.saw c.descend_once.new.turns) 1 [])) (sym p.1) none

pub returns-clause-walk : goal.returns-clause-walk
returns-clause-walk g c = λ history saw.
    let kind = kind_of g.B.Content.number (branch_data g.B.Content.extents g.B.Content.entries g.B.Content.cuts g.B.Content.table) g.B.Content.TELLS in
    came_fewer kind (g.T.Turns.means c.args.turns.now) history (g.T.Turns.means c.loop-turns.turns) (g.T.Turns.saw c.loop-turns.turns) 0 1 [] (omega arith) (c.loop-turns.invariant.walk history saw)

pub returns-in-Some-clause-walk : goal.returns-in-Some-clause-walk
returns-in-Some-clause-walk g c = λ history saw.
    let kind = kind_of g.B.Content.number (branch_data g.B.Content.extents g.B.Content.entries g.B.Content.cuts g.B.Content.table) g.B.Content.TELLS in
    let new = g.T.Turns.means c.descend_once.new.turns in
    came_later kind (g.T.Turns.means c.args.turns.now) history (g.T.Turns.means c.loop-turns.turns) new (g.T.Turns.saw c.loop-turns.turns) (g.T.Turns.saw c.descend_once.new.turns) 1 (arrival_in new.at c.in-Some.next ∷ []) (alike c.loop-turns.invariant.same) (c.loop-turns.invariant.walk history saw)
    (rw c.in-Some.is at c.in_ok-next.ensures.walk)

pub returns-in-Some-clause-moved : goal.returns-in-Some-clause-moved
returns-in-Some-clause-moved g c =
    let kind = kind_of g.B.Content.number (branch_data g.B.Content.extents g.B.Content.entries g.B.Content.cuts g.B.Content.table) g.B.Content.TELLS in
    descended_behind kind (g.T.Turns.means c.args.turns.now) (g.T.Turns.means c.loop-turns.turns) (g.T.Turns.means c.descend_once.new.turns) c.args.sight.now c.in-Some.next c.loop-turns.invariant.same.rule c.loop-turns.invariant.waits
    (rw c.in-Some.is at c.in_ok-next.ensures.moved)

pub loop-turns-init : goal.loop-turns-init
loop-turns-init g c =
    let kind = kind_of g.B.Content.number (branch_data g.B.Content.extents g.B.Content.entries g.B.Content.cuts g.B.Content.table) g.B.Content.TELLS in
    record {
      same = record { alone = refl; actor = refl; rule = refl; turns = omega arith };
      few = omega arith;
      ready = c.requires.ready;
      seen = c.requires.seen;
      waits = record { at = c.requires.at; height = refl; rest = λ tells key inside. refl };
      walk = λ history saw. came_nowhere kind (g.T.Turns.means c.args.turns.now) history (g.T.Turns.saw c.args.turns.now) saw;
    }

pub loop-turns-preserved : goal.loop-turns-preserved
loop-turns-preserved g c =
    let kind = kind_of g.B.Content.number (branch_data g.B.Content.extents g.B.Content.entries g.B.Content.cuts g.B.Content.table) g.B.Content.TELLS in
    let old = g.T.Turns.means c.args.turns.now in
    let mid = g.T.Turns.means c.loop-turns.turns in
    let new = g.T.Turns.means c.descend_once.new.turns in
    let more = c.in_ok-next.ensures.same.turns in
    record {
      same = same_on old mid new c.loop-turns.invariant.same c.in_ok-next.ensures.same;
      few = omega (arith, more, c.loop-turns-test.true, c.turns.ensures);
      ready = c.in_ok-next.ensures.ready;
      seen = c.in_ok-next.ensures.seen;
      waits = waits_behind kind old mid new c.args.sight.now c.loop-turns.invariant.same.rule c.loop-turns.invariant.waits (rw c.in_default.is at c.in_ok-next.ensures.moved);
      walk = λ history saw. came_later kind old history mid new (g.T.Turns.saw c.loop-turns.turns) (g.T.Turns.saw c.descend_once.new.turns) 0 [] (alike c.loop-turns.invariant.same) (c.loop-turns.invariant.walk history saw) (rw c.in_default.is at c.in_ok-next.ensures.walk);
    }
