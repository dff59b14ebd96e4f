use Rattle.std.proofs.Common.{[], sym, subst, Result, arith}
use Rattle.std.specs.Prelude.{MatchResult}
use Rattle.std.proofs.lemmas.Result.{err_from_is_err_and}
use Rattle.spl_state.specs.View.{branch_data}
use Rattle.spl_desk.specs.Holder.{kind_of}
use Rattle.spl_down.specs.Arrivals.{CameTo}
use Rattle.spl_down.specs.Descending.{Began}
use Rattle.spl_down.proofs.Answers.{came_later}
use Rattle.spl_down.proofs.Walking.{alike, began_behind, same_on}
use Rattle.spl_down.proofs.down.begin.Goals as goal

pub returns-in_err-sight-clause-walk : goal.returns-in_err-sight-clause-walk
returns-in_err-sight-clause-walk g c = λ history saw.
    let kind = kind_of g.B.Content.number (branch_data g.B.Content.extents g.B.Content.entries g.B.Content.cuts g.B.Content.table) g.B.Content.TELLS in
    let old = g.T.Turns.means c.args.turns.now in
    let mid = g.T.Turns.means c.loop-turns.turns in
    let new = g.T.Turns.means c.begin_once.new.turns in
    let p = err_from_is_err_and c.from_residual.result c.from_residual.ensures.1 in
    let none : CameTo kind old history new (g.T.Turns.saw c.begin_once.new.turns) 1 [] =
    came_later kind old history mid new (g.T.Turns.saw c.loop-turns.turns) (g.T.Turns.saw c.begin_once.new.turns) 1 [] (alike c.loop-turns.invariant.same) (c.loop-turns.invariant.walk history saw) c.in_err-sight.ensures.walk in
    subst (λ (r : Result _ _). MatchResult r (Began kind old history new (g.T.Turns.saw c.begin_once.new.turns) c.args.span.now) (λ fault. CameTo kind old history new (g.T.Turns.saw c.begin_once.new.turns) 1 [])) (sym p.1) none

pub returns-in-Some-clause-walk : goal.returns-in-Some-clause-walk
returns-in-Some-clause-walk g c = λ history saw.
    let kind = kind_of g.B.Content.number (branch_data g.B.Content.extents g.B.Content.entries g.B.Content.cuts g.B.Content.table) g.B.Content.TELLS in
    let old = g.T.Turns.means c.args.turns.now in
    let mid = g.T.Turns.means c.loop-turns.turns in
    let new = g.T.Turns.means c.begin_once.new.turns in
    began_behind kind old history mid new (g.T.Turns.saw c.loop-turns.turns) (g.T.Turns.saw c.begin_once.new.turns) c.args.span.now c.in-Some.sight (alike c.loop-turns.invariant.same) (c.loop-turns.invariant.walk history saw)
    (rw c.in-Some.is at c.in_ok-sight.ensures.walk)

pub loop-turns-preserved : goal.loop-turns-preserved
loop-turns-preserved g c =
    let kind = kind_of g.B.Content.number (branch_data g.B.Content.extents g.B.Content.entries g.B.Content.cuts g.B.Content.table) g.B.Content.TELLS in
    let old = g.T.Turns.means c.args.turns.now in
    let mid = g.T.Turns.means c.loop-turns.turns in
    let new = g.T.Turns.means c.begin_once.new.turns in
    let more = c.in_ok-sight.ensures.same.turns in
    record {
      same = same_on old mid new c.loop-turns.invariant.same c.in_ok-sight.ensures.same;
      few = omega (arith, more, c.loop-turns-test.true, c.turns.ensures);
      ready = c.in_ok-sight.ensures.ready;
      seen = c.in_ok-sight.ensures.seen;
      free = rw c.in_default.is at c.in_ok-sight.ensures.entered;
      walk = λ history saw. came_later kind old history mid new (g.T.Turns.saw c.loop-turns.turns) (g.T.Turns.saw c.begin_once.new.turns) 0 [] (alike c.loop-turns.invariant.same) (c.loop-turns.invariant.walk history saw) (rw c.in_default.is at c.in_ok-sight.ensures.walk);
    }
