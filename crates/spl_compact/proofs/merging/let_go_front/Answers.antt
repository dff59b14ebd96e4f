use Rattle.std.proofs.Common.{ℕ, ◌+◌, List, ◌++◌, sym, subst, arith}
use Rattle.spl_bundle.specs.Numbered.{bundle_at}
use Rattle.spl_node.specs.Parts.{branches_from}
use Rattle.spl_state.specs.Names.{AreAccounted}
use Rattle.spl_compact.proofs.Accounting.{goes, front_next, front_more, fronts_begin, fronts_end}
use Rattle.spl_compact.proofs.merging.let_go_front.Goals as goal

pub loop-number-init : goal.loop-number-init
loop-number-init g c = fronts_begin g.B.Content.extents c.args.refs.now c.args.pool.now c.args.lists.now c.first-number.result c.args.end c.first-number.ensures.value

pub let_go_all-requires : goal.let_go_all-requires
let_go_all-requires g c =
    let all = front_next g.B.Content.extents c.args.refs.now c.loop-number.refs c.args.pool.now c.loop-number.pool c.args.lists.now c.loop-number.number c.args.end (omega arith) (omega arith) (omega arith) c.loop-number.invariant c.requires.accounted.0 c.requires.accounted.1 in
    let rest = branches_from c.args.lists.now (c.loop-number.number + 1) c.args.end ++ c.requires.accounted.0 in
    record { accounted = (rest, subst (λ (ms : List ℕ). AreAccounted g.B.Content.extents (ms ++ rest) c.loop-number.refs c.loop-number.pool) (sym c.list.ensures) all) }

pub loop-number-preserved : goal.loop-number-preserved
loop-number-preserved g c =
    let here : (rest : List ℕ) → AreAccounted g.B.Content.extents ((bundle_at c.args.lists.now c.loop-number.number).branches ++ rest) c.loop-number.refs c.loop-number.pool → AreAccounted g.B.Content.extents rest c.let_go_all.new.refs c.let_go_all.new.pool = λ rest all. c.let_go_all.ensures.accounted rest (subst (λ (ms : List ℕ). AreAccounted g.B.Content.extents (ms ++ rest) c.loop-number.refs c.loop-number.pool) (sym c.list.ensures) all) in
    front_more g.B.Content.extents c.args.refs.now c.loop-number.refs c.args.pool.now c.loop-number.pool c.args.lists.now c.loop-number.number c.args.end (omega arith) (omega arith) (omega arith) c.loop-number.invariant c.let_go_all.new.refs c.let_go_all.new.pool here
    (goes _ _ _ _ c.let_go_all.ensures.fewer c.let_go_all.ensures.branches c.let_go_all.ensures.granted)

pub returns : goal.returns
returns g c = record {
  accounted = fronts_end g.B.Content.extents c.args.refs.now c.loop-number.refs c.args.pool.now c.loop-number.pool c.args.lists.now c.loop-number.number c.args.end (omega arith) (omega arith) c.loop-number.invariant;
  names = c.loop-number.invariant.names;
}
