use Rattle.std.proofs.Common.{◌≡◌, ℕ, ◌+◌, List, [], ◌∷◌, ◌++◌, Option, Some, None, sym, ap, subst, ◌∙◌}
use Rattle.std.specs.Prelude.{MatchOption}
use Rattle.std.specs.Option.{option_to_list}
use Rattle.spl_bundle.specs.Numbered.{merged}
use Rattle.spl_node.specs.Node.{NodeData}
use Rattle.spl_refs.specs.Refs.{branch_at, count_at}
use Rattle.spl_trunk.specs.Tree.{named, times}
use Rattle.spl_trunk.specs.Trunk.{lists_at, with_lists_at}
use Rattle.spl_state.specs.Names.{AreAccounted}
use Rattle.spl_compact.proofs.Accounting.{held_accounted, run_named, stands_listed}
use Rattle.spl_compact.proofs.merging.replace_run.Goals as goal

listed : (o : Option ℕ) (list : List ℕ) → MatchOption o (list ≡ []) (λ x. list ≡ x ∷ []) → list ≡ option_to_list o
listed None list is = is
listed (Some x) list is = is

pub let_go_all-requires : goal.let_go_all-requires
let_go_all-requires g c =
    let node = c.args.node in
    let nodes = c.args.trunk.now in
    let output = c.args.outcome.output in
    let rest = c.requires.accounted.0 in
    let added : c.as_slice.result.now ≡ option_to_list output = listed output c.as_slice.result.now c.as_slice.ensures in
    let counts = λ (n : ℕ). c.hold_all.ensures.counts n ∙ ap (λ (ns : List ℕ). count_at c.args.refs.now n + times n ns) added in
    let held = held_accounted g.B.Content.extents c.args.refs.now c.hold_all.new.refs c.args.pool.now (option_to_list output) (named nodes ++ rest) (stands_listed (branch_at c.args.refs.now) (option_to_list output) c.requires.output) counts c.hold_all.ensures.branches c.requires.accounted.1 in
    let all = run_named g.B.Content.extents nodes node c.requires.exists c.hold_all.new.refs c.args.pool.now rest c.args.outcome.first c.args.outcome.last output c.requires.order c.requires.stands c.requires.made held in
    let after = named (with_lists_at nodes node (merged (lists_at nodes node) c.args.outcome.first c.args.outcome.last output)) in
    record { accounted = (after ++ rest, subst (λ (ms : List ℕ). AreAccounted g.B.Content.extents (ms ++ (after ++ rest)) c.hold_all.new.refs c.args.pool.now) (sym c.requires.inputs) all) }

pub returns-clause-accounted : goal.returns-clause-accounted
returns-clause-accounted g c = λ rest accounted.
    let node = c.args.node in
    let nodes = c.args.trunk.now in
    let output = c.args.outcome.output in
    let added : c.as_slice.result.now ≡ option_to_list output = listed output c.as_slice.result.now c.as_slice.ensures in
    let counts = λ (n : ℕ). c.hold_all.ensures.counts n ∙ ap (λ (ns : List ℕ). count_at c.args.refs.now n + times n ns) added in
    let held = held_accounted g.B.Content.extents c.args.refs.now c.hold_all.new.refs c.args.pool.now (option_to_list output) (named nodes ++ rest) (stands_listed (branch_at c.args.refs.now) (option_to_list output) c.requires.output) counts c.hold_all.ensures.branches accounted in
    let all = run_named g.B.Content.extents nodes node c.requires.exists c.hold_all.new.refs c.args.pool.now rest c.args.outcome.first c.args.outcome.last output c.requires.order c.requires.stands c.requires.made held in
    let after = named (with_lists_at nodes node (merged (lists_at nodes node) c.args.outcome.first c.args.outcome.last output)) in
    let here = subst (λ (ms : List ℕ). AreAccounted g.B.Content.extents (ms ++ (after ++ rest)) c.hold_all.new.refs c.args.pool.now) (sym c.requires.inputs) all in
    subst (λ (t : List NodeData). AreAccounted g.B.Content.extents (named t ++ rest) c.let_go_all.new.refs c.let_go_all.new.pool) (sym c.merge.ensures.value) (c.let_go_all.ensures.accounted (after ++ rest) here)
