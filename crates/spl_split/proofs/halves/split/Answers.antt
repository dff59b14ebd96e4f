use Rattle.std.proofs.Common.{rules, ◌≡◌, ◌<◌, ◌^◌, ◌≤◌, ◌+◌, ℕ, arith, List, Some, true, false, length, refl, sym, ap, subst, ◌∙◌}
use Rattle.std.specs.Prelude.{is_err}
use Rattle.spl_bundle.specs.Numbered.{names}
use Rattle.spl_holds.specs.declared.grip.Grip.TheVariants.{Write}
use Rattle.spl_holds.specs.Holds.{grip_of}
use Rattle.spl_refs.specs.Refs.{count_at}
use Rattle.spl_trunk.specs.Trunk.{node_at, pivots_at, lists_at}
use Rattle.spl_state.specs.Bounds.{AreBelow}
use Rattle.spl_state.specs.View.{branch_data}
use Rattle.spl_state.specs.Whole.{Whole, counts}
use Rattle.spl_state.proofs.Views.{all_seen, count_seen}
use Rattle.spl_split.specs.Naming.{AreNamed, NamedMore}
use Rattle.spl_split.specs.Splitting.{pivot_to, is_split_key}
use Rattle.spl_split.proofs.Results.{where_done, where_failed}
use Rattle.spl_split.proofs.Raises.{not_raised_framed}
use Rattle.spl_split.proofs.Points.{can_divide, is_writing}
use Rattle.spl_split.proofs.Seen.{named_seen, stand_there, left_lists, made_sound, made_framed, made_done, made_shared}
use Rattle.spl_split.proofs.halves.split.Goals as goal

pub divide-requires-clause-divisible : goal.divide-requires-clause-divisible
divide-requires-clause-divisible g c =
    let exists : c.args.parent < length c.parts.inside.trunk = search rules in
    let found :
    pivot_to (pivots_at c.parts.inside.trunk c.args.parent) c.args.child ≡ Some c.in-Some.at = search rules in
    let splits :
    is_split_key (node_at c.parts.inside.trunk c.args.child) c.args.key.now ≡ true = search rules in
    let few : length (pivots_at c.parts.inside.trunk c.args.parent) < 16 = search rules in
    let room : length c.parts.inside.trunk < 4096 = search rules in
    can_divide c.parts.inside.trunk c.args.parent c.in-Some.at c.args.child c.args.key.now exists found splits few
    room

pub returns-then-is_err-clause-framed : goal.returns-then-is_err-clause-framed
returns-then-is_err-clause-framed g c = λ rule drafts.
    let failed : is_err c.divide.result ≡ true = search rules in
    not_raised_framed _ _ c.parts.view_is c.divide.new.trunk c.args.actor rule _ drafts
    (where_failed c.divide.result _ failed c.divide.ensures.err)

pub name_again-requires-clause-stand : goal.name_again-requires-clause-stand
name_again-requires-clause-stand g c =
    let exists : c.args.parent < length c.parts.inside.trunk = search rules in
    let found :
    pivot_to (pivots_at c.parts.inside.trunk c.args.parent) c.args.child ≡ Some c.in-Some.at = search rules in
    let splits :
    is_split_key (node_at c.parts.inside.trunk c.args.child) c.args.key.now ≡ true = search rules in
    let few : length (pivots_at c.parts.inside.trunk c.args.parent) < 16 = search rules in
    let room : length c.parts.inside.trunk < 4096 = search rules in
    let can = can_divide c.parts.inside.trunk c.args.parent c.in-Some.at c.args.child c.args.key.now exists
    found splits few room in
    let done : is_err c.divide.result ≡ false = search rules in
    let nodes = where_done c.divide.result _ done c.divide.ensures.ok in
    let left = left_lists c.parts.inside.trunk c.parts.invariant.shaped c.args.parent c.in-Some.at
    c.args.child c.args.key.now can c.divide.new.trunk nodes in
    let shown : c.lists.result.now ≡ lists_at c.divide.new.trunk c.args.child = search rules in
    let lists = ap names (shown ∙ left) in
    subst (λ (list : List ℕ). AreNamed c.parts.inside.refs list) (sym lists)
    (stand_there (branch_data g.B.Content.extents g.B.Content.entries g.B.Content.cuts g.B.Content.table) _
    c.parts.invariant c.parts.inside.refs refl c.args.child)

pub name_again-requires-clause-few : goal.name_again-requires-clause-few
name_again-requires-clause-few g c = λ number.
    let data_of = branch_data g.B.Content.extents g.B.Content.entries g.B.Content.cuts g.B.Content.table in
    let few = subst (λ (w : Whole). counts w number < 2 ^ 62) (sym c.parts.view_is) (c.requires.few number) in
    subst (λ n. n < 2 ^ 62) (count_seen data_of c.parts.inside.refs number) few

pub invariant_of-parts-2 : goal.invariant_of-parts-2
invariant_of-parts-2 g c =
    let exists : c.args.parent < length c.parts.inside.trunk = search rules in
    let found :
    pivot_to (pivots_at c.parts.inside.trunk c.args.parent) c.args.child ≡ Some c.in-Some.at = search rules in
    let splits :
    is_split_key (node_at c.parts.inside.trunk c.args.child) c.args.key.now ≡ true = search rules in
    let few : length (pivots_at c.parts.inside.trunk c.args.parent) < 16 = search rules in
    let room : length c.parts.inside.trunk < 4096 = search rules in
    let can = can_divide c.parts.inside.trunk c.args.parent c.in-Some.at c.args.child c.args.key.now exists
    found splits few room in
    let done : is_err c.divide.result ≡ false = search rules in
    let nodes = where_done c.divide.result _ done c.divide.ensures.ok in
    let left = left_lists c.parts.inside.trunk c.parts.invariant.shaped c.args.parent c.in-Some.at
    c.args.child c.args.key.now can c.divide.new.trunk nodes in
    let shown : c.lists.result.now ≡ lists_at c.divide.new.trunk c.args.child = search rules in
    let lists = ap names (shown ∙ left) in
    let named = subst
    (λ (list : List ℕ). NamedMore c.parts.inside.refs c.name_again.new.refs list) lists c.name_again.ensures.named in
    let seen = named_seen
    (branch_data g.B.Content.extents g.B.Content.entries g.B.Content.cuts g.B.Content.table)
    c.parts.inside.refs c.name_again.new.refs (names (lists_at c.parts.inside.trunk c.args.child)) named in
    let above : grip_of c.parts.inside.holds c.args.actor c.args.parent ≡ Write =
    is_writing _ (search rules) in
    let below : grip_of c.parts.inside.holds c.args.actor c.args.child ≡ Write =
    is_writing _ (search rules) in
    let fresh = subst (λ (w : Whole). AreBelow w.nodes w.tables w.counters)
    (sym c.parts.view_is) c.requires.fresh in
    made_sound _ c.parts.invariant c.args.actor c.args.parent c.in-Some.at c.args.child c.args.key.now can
    above below c.divide.new.trunk (all_seen (branch_data g.B.Content.extents g.B.Content.entries
    g.B.Content.cuts g.B.Content.table) c.name_again.new.refs) c.add.new.self nodes seen
    c.add.ensures.added fresh c.add.ensures.latched

pub returns-clause-done : goal.returns-clause-done
returns-clause-done g c = λ other other_is is.
    let exists : c.args.parent < length c.parts.inside.trunk = search rules in
    let found :
    pivot_to (pivots_at c.parts.inside.trunk c.args.parent) c.args.child ≡ Some c.in-Some.at = search rules in
    let splits :
    is_split_key (node_at c.parts.inside.trunk c.args.child) c.args.key.now ≡ true = search rules in
    let few : length (pivots_at c.parts.inside.trunk c.args.parent) < 16 = search rules in
    let room : length c.parts.inside.trunk < 4096 = search rules in
    let can = can_divide c.parts.inside.trunk c.args.parent c.in-Some.at c.args.child c.args.key.now exists
    found splits few room in
    let done : is_err c.divide.result ≡ false = search rules in
    let nodes = where_done c.divide.result _ done c.divide.ensures.ok in
    let left = left_lists c.parts.inside.trunk c.parts.invariant.shaped c.args.parent c.in-Some.at
    c.args.child c.args.key.now can c.divide.new.trunk nodes in
    let shown : c.lists.result.now ≡ lists_at c.divide.new.trunk c.args.child = search rules in
    let lists = ap names (shown ∙ left) in
    let named = subst
    (λ (list : List ℕ). NamedMore c.parts.inside.refs c.name_again.new.refs list) lists c.name_again.ensures.named in
    let seen = named_seen
    (branch_data g.B.Content.extents g.B.Content.entries g.B.Content.cuts g.B.Content.table)
    c.parts.inside.refs c.name_again.new.refs (names (lists_at c.parts.inside.trunk c.args.child)) named in
    let above : grip_of c.parts.inside.holds c.args.actor c.args.parent ≡ Write =
    is_writing _ (search rules) in
    let below : grip_of c.parts.inside.holds c.args.actor c.args.child ≡ Write =
    is_writing _ (search rules) in
    made_done _ c.parts.invariant c.args.actor c.args.parent c.in-Some.at c.args.child c.args.key.now can
    above below c.divide.new.trunk (all_seen (branch_data g.B.Content.extents g.B.Content.entries
    g.B.Content.cuts g.B.Content.table) c.name_again.new.refs) c.add.new.self nodes seen
    c.add.ensures.added _ c.parts.view_is other other_is found

pub returns-clause-marks : goal.returns-clause-marks
returns-clause-marks g c = λ is.
    let exists : c.args.parent < length c.parts.inside.trunk = search rules in
    let found :
    pivot_to (pivots_at c.parts.inside.trunk c.args.parent) c.args.child ≡ Some c.in-Some.at = search rules in
    let splits :
    is_split_key (node_at c.parts.inside.trunk c.args.child) c.args.key.now ≡ true = search rules in
    let few : length (pivots_at c.parts.inside.trunk c.args.parent) < 16 = search rules in
    let room : length c.parts.inside.trunk < 4096 = search rules in
    let can = can_divide c.parts.inside.trunk c.args.parent c.in-Some.at c.args.child c.args.key.now exists
    found splits few room in
    let done : is_err c.divide.result ≡ false = search rules in
    let nodes = where_done c.divide.result _ done c.divide.ensures.ok in
    let left = left_lists c.parts.inside.trunk c.parts.invariant.shaped c.args.parent c.in-Some.at
    c.args.child c.args.key.now can c.divide.new.trunk nodes in
    let shown : c.lists.result.now ≡ lists_at c.divide.new.trunk c.args.child = search rules in
    let lists = ap names (shown ∙ left) in
    let named = subst
    (λ (list : List ℕ). NamedMore c.parts.inside.refs c.name_again.new.refs list) lists c.name_again.ensures.named in
    let seen = named_seen
    (branch_data g.B.Content.extents g.B.Content.entries g.B.Content.cuts g.B.Content.table)
    c.parts.inside.refs c.name_again.new.refs (names (lists_at c.parts.inside.trunk c.args.child)) named in
    let above : grip_of c.parts.inside.holds c.args.actor c.args.parent ≡ Write =
    is_writing _ (search rules) in
    let below : grip_of c.parts.inside.holds c.args.actor c.args.child ≡ Write =
    is_writing _ (search rules) in
    made_shared _ c.parts.invariant c.args.actor c.args.parent c.in-Some.at c.args.child c.args.key.now can
    above below c.divide.new.trunk (all_seen (branch_data g.B.Content.extents g.B.Content.entries
    g.B.Content.cuts g.B.Content.table) c.name_again.new.refs) c.add.new.self nodes seen
    c.add.ensures.added _ c.parts.view_is

pub returns-clause-framed : goal.returns-clause-framed
returns-clause-framed g c = λ rule drafts.
    let exists : c.args.parent < length c.parts.inside.trunk = search rules in
    let found :
    pivot_to (pivots_at c.parts.inside.trunk c.args.parent) c.args.child ≡ Some c.in-Some.at = search rules in
    let splits :
    is_split_key (node_at c.parts.inside.trunk c.args.child) c.args.key.now ≡ true = search rules in
    let few : length (pivots_at c.parts.inside.trunk c.args.parent) < 16 = search rules in
    let room : length c.parts.inside.trunk < 4096 = search rules in
    let can = can_divide c.parts.inside.trunk c.args.parent c.in-Some.at c.args.child c.args.key.now exists
    found splits few room in
    let done : is_err c.divide.result ≡ false = search rules in
    let nodes = where_done c.divide.result _ done c.divide.ensures.ok in
    let left = left_lists c.parts.inside.trunk c.parts.invariant.shaped c.args.parent c.in-Some.at
    c.args.child c.args.key.now can c.divide.new.trunk nodes in
    let shown : c.lists.result.now ≡ lists_at c.divide.new.trunk c.args.child = search rules in
    let lists = ap names (shown ∙ left) in
    let named = subst
    (λ (list : List ℕ). NamedMore c.parts.inside.refs c.name_again.new.refs list) lists c.name_again.ensures.named in
    let seen = named_seen
    (branch_data g.B.Content.extents g.B.Content.entries g.B.Content.cuts g.B.Content.table)
    c.parts.inside.refs c.name_again.new.refs (names (lists_at c.parts.inside.trunk c.args.child)) named in
    let above : grip_of c.parts.inside.holds c.args.actor c.args.parent ≡ Write =
    is_writing _ (search rules) in
    let below : grip_of c.parts.inside.holds c.args.actor c.args.child ≡ Write =
    is_writing _ (search rules) in
    made_framed _ c.parts.invariant c.args.actor c.args.parent c.in-Some.at c.args.child c.args.key.now can
    above below c.divide.new.trunk (all_seen (branch_data g.B.Content.extents g.B.Content.entries
    g.B.Content.cuts g.B.Content.table) c.name_again.new.refs) c.add.new.self nodes seen
    c.add.ensures.added _ c.parts.view_is rule _ drafts

pub returns-clause-few : goal.returns-clause-few
returns-clause-few g c = λ number.
    let data_of = branch_data g.B.Content.extents g.B.Content.entries g.B.Content.cuts g.B.Content.table in
    let before : counts c.args.parts.now number ≡ count_at c.parts.inside.refs number =
    sym (ap (λ (w : Whole). counts w number) c.parts.view_is) ∙ count_seen data_of c.parts.inside.refs number in
    let after = count_seen data_of c.name_again.new.refs number in
    let more = c.name_again.ensures.named.counts number in
    let few = c.name_again.ensures.few number in
    omega arith
