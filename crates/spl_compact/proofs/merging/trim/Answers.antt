use Rattle.std.proofs.Common.{◌≡◌, ℕ, List, ◌++◌, sym, ap, subst, ◌∙◌}
use Rattle.spl_bundle.specs.Numbered.{Numbered}
use Rattle.spl_node.specs.Node.{NodeData}
use Rattle.spl_node.specs.Parts.{branches_from}
use Rattle.spl_node.specs.Steps.{trimmed, kept_from}
use Rattle.spl_trunk.specs.Tree.{named}
use Rattle.spl_trunk.specs.Trunk.{node_at, with_node}
use Rattle.spl_state.specs.Names.{AreAccounted}
use Rattle.spl_compact.proofs.Accounting.{front_named}
use Rattle.spl_compact.proofs.merging.trim.Goals as goal

-- the bundles that are dropped, as the calls tell them
front_is : (lists : Numbered) (kept : ℕ) (found node : NodeData) → found ≡ node → lists ≡ found.lists → kept ≡ kept_from found → branches_from lists lists.first kept ≡ branches_from node.lists node.lists.first (kept_from node)
front_is lists kept found node is_node are_lists is_kept =
    ap (λ (q : Numbered). branches_from q q.first kept) are_lists
    ∙ ap (branches_from found.lists found.lists.first) is_kept
    ∙ ap (λ (n : NodeData). branches_from n.lists n.lists.first (kept_from n)) is_node

pub let_go_front-requires-clause-accounted : goal.let_go_front-requires-clause-accounted
let_go_front-requires-clause-accounted g c =
    let node = c.args.node in
    let nodes = c.args.trunk.now in
    let rest = c.requires.accounted.0 in
    let is_node = rw c.unwrap-found.ensures at c.node.ensures.value in
    let front = front_is c.lists.result.now c.kept_from-kept.result c.unwrap-found.result.now (node_at nodes node) is_node c.lists.ensures c.kept_from-kept.ensures.value in
    let after = named (with_node nodes node (trimmed (node_at nodes node))) in
    let all = front_named g.B.Content.extents nodes node c.requires.exists c.args.refs.now c.args.pool.now rest c.requires.accounted.1 in
    (after ++ rest, subst (λ (ms : List ℕ). AreAccounted g.B.Content.extents (ms ++ (after ++ rest)) c.args.refs.now c.args.pool.now) (sym front) all)

pub returns-clause-accounted : goal.returns-clause-accounted
returns-clause-accounted g c = λ rest accounted.
    let node = c.args.node in
    let nodes = c.args.trunk.now in
    let is_node = rw c.unwrap-found.ensures at c.node.ensures.value in
    let front = front_is c.lists.result.now c.kept_from-kept.result c.unwrap-found.result.now (node_at nodes node) is_node c.lists.ensures c.kept_from-kept.ensures.value in
    let after = named (with_node nodes node (trimmed (node_at nodes node))) in
    let all = front_named g.B.Content.extents nodes node c.requires.exists c.args.refs.now c.args.pool.now rest accounted in
    let here = subst (λ (ms : List ℕ). AreAccounted g.B.Content.extents (ms ++ (after ++ rest)) c.args.refs.now c.args.pool.now) (sym front) all in
    subst (λ (t : List NodeData). AreAccounted g.B.Content.extents (named t ++ rest) c.let_go_front.new.refs c.let_go_front.new.pool) (sym c.trim.ensures.value) (c.let_go_front.ensures.accounted (after ++ rest) here)
