use Rattle.std.proofs.Common.{refl, ◌≡◌, rules}
use Rattle.spl_node.specs.Steps.{right_of}
use Rattle.spl_trunk.specs.Trunk.{node_at}
use Rattle.spl_split.proofs.Results.{where_ok}
use Rattle.spl_split.proofs.Division.{start_made, few_made, rising_made, mark_made, divided_made, pivot_made}
use Rattle.spl_split.proofs.halves.divide.Goals as goal

pub insert_pivot-requires-clause-start : goal.insert_pivot-requires-clause-start
insert_pivot-requires-clause-start c =
    let part : c.in_ok-right.right ≡ right_of
    (node_at c.args.trunk.now c.args.child) c.args.key.now = search rules in
    start_made c.args.trunk.now c.requires.shaped c.args.parent c.args.at c.args.child c.args.key.now
    c.requires.divisible c.in_ok-right.right part c.grow.new.self c.keep_left.new.self c.in-Ok.ensures.ok
    c.keep_left.ensures

pub insert_pivot-requires-clause-rising : goal.insert_pivot-requires-clause-rising
insert_pivot-requires-clause-rising c =
    let part : c.in_ok-right.right ≡ right_of
    (node_at c.args.trunk.now c.args.child) c.args.key.now = search rules in
    let pivots : c.pivots.result.now ≡ (node_at c.args.trunk.now c.args.parent).pivots = search rules in
    let pivot = pivot_made c.args.trunk.now c.requires.shaped c.args.parent c.args.at c.args.child
    c.args.key.now c.requires.divisible c.pivots.result.now _ c.index-pivots-at.result c.in-Ok.number
    pivots refl c.in-Ok.ensures.number in
    rising_made c.args.trunk.now c.requires.shaped c.args.parent c.args.at c.args.child c.args.key.now
    c.requires.divisible c.in_ok-right.right part c.grow.new.self c.keep_left.new.self c.in-Ok.ensures.ok
    c.keep_left.ensures _ pivot

pub insert_pivot-requires-clause-mark : goal.insert_pivot-requires-clause-mark
insert_pivot-requires-clause-mark c =
    let part : c.in_ok-right.right ≡ right_of
    (node_at c.args.trunk.now c.args.child) c.args.key.now = search rules in
    let pivots : c.pivots.result.now ≡ (node_at c.args.trunk.now c.args.parent).pivots = search rules in
    let pivot = pivot_made c.args.trunk.now c.requires.shaped c.args.parent c.args.at c.args.child
    c.args.key.now c.requires.divisible c.pivots.result.now _ c.index-pivots-at.result c.in-Ok.number
    pivots refl c.in-Ok.ensures.number in
    mark_made c.args.trunk.now c.requires.shaped c.args.parent c.args.at c.args.child c.args.key.now
    c.requires.divisible c.in_ok-right.right part c.grow.new.self c.keep_left.new.self c.in-Ok.ensures.ok
    c.keep_left.ensures _ pivot

pub unwrap-requires-3 : goal.unwrap-requires-3
unwrap-requires-3 c =
    let part : c.in_ok-right.right ≡ right_of
    (node_at c.args.trunk.now c.args.child) c.args.key.now = search rules in
    c.insert_pivot.ensures.accepted.1
    (few_made c.args.trunk.now c.requires.shaped c.args.parent c.args.at c.args.child c.args.key.now
    c.requires.divisible c.in_ok-right.right part c.grow.new.self c.keep_left.new.self c.in-Ok.ensures.ok
    c.keep_left.ensures)

pub returns-clause-ok : goal.returns-clause-ok
returns-clause-ok c =
    let part : c.in_ok-right.right ≡ right_of
    (node_at c.args.trunk.now c.args.child) c.args.key.now = search rules in
    let pivots : c.pivots.result.now ≡ (node_at c.args.trunk.now c.args.parent).pivots = search rules in
    let pivot = pivot_made c.args.trunk.now c.requires.shaped c.args.parent c.args.at c.args.child
    c.args.key.now c.requires.divisible c.pivots.result.now _ c.index-pivots-at.result c.in-Ok.number
    pivots refl c.in-Ok.ensures.number in
    let few = few_made c.args.trunk.now c.requires.shaped c.args.parent c.args.at c.args.child c.args.key.now
    c.requires.divisible c.in_ok-right.right part c.grow.new.self c.keep_left.new.self c.in-Ok.ensures.ok
    c.keep_left.ensures in
    divided_made c.args.trunk.now c.requires.shaped c.args.parent c.args.at c.args.child c.args.key.now
    c.requires.divisible c.in_ok-right.right part c.grow.new.self c.keep_left.new.self c.in-Ok.ensures.ok
    c.keep_left.ensures _ pivot c.insert_pivot.new.self
    (where_ok c.insert_pivot.result _ (c.insert_pivot.ensures.accepted.1 few) c.insert_pivot.ensures.ok)
