use Rattle.std.proofs.Common.{ℕ, ◌+◌, List, length, sym, ap, subst, ◌∙◌, arith}
use Rattle.std.specs.Prelude.{All, IsSome}
use Rattle.spl_node.specs.Node.{NodeData}
use Rattle.spl_node.specs.Parts.{branches_from}
use Rattle.spl_refs.specs.Refs.{branch_at}
use Rattle.spl_state.specs.View.{branch_data, whole_of}
use Rattle.spl_state.specs.Whole.{Whole, branches}
use Rattle.spl_descent.specs.Sights.{AreBranches}
use Rattle.spl_descent.proofs.Named.{seen_branches}
use Rattle.spl_compact.specs.Starting.{run_at}
use Rattle.spl_compact.proofs.Inputs.{run_stands, all_there, length_run}
use Rattle.spl_compact.proofs.begin.take_run.Goals as goal

pub share-requires : goal.share-requires
share-requires g c =
    let data_of = branch_data g.B.Content.extents g.B.Content.entries g.B.Content.cuts g.B.Content.table in
    let whole = whole_of data_of c.parts.inside in
    let is_node = rw c.unwrap-found.ensures at c.node.ensures.value in
    let numbers = c.as_slice.ensures.value ∙ c.in_ok-numbers.ensures ∙ ap (λ l. branches_from l c.args.first (c.args.last + 1)) c.lists-lists.ensures ∙ ap (λ (n : NodeData). branches_from n.lists c.args.first (c.args.last + 1)) is_node in
    let stand = all_there data_of c.parts.inside.refs _ (run_stands whole c.parts.invariant c.args.node c.args.first (c.args.last + 1)) in
    subst (λ (ns : List ℕ). All (λ (n : ℕ). IsSome (branch_at c.parts.inside.refs n)) ns) (sym numbers) stand

pub returns-clause-inputs : goal.returns-clause-inputs
returns-clause-inputs g c =
    let data_of = branch_data g.B.Content.extents g.B.Content.entries g.B.Content.cuts g.B.Content.table in
    let whole = whole_of data_of c.parts.inside in
    let is_node = rw c.unwrap-found.ensures at c.node.ensures.value in
    let numbers = c.as_slice.ensures.value ∙ c.in_ok-numbers.ensures ∙ ap (λ l. branches_from l c.args.first (c.args.last + 1)) c.lists-lists.ensures ∙ ap (λ (n : NodeData). branches_from n.lists c.args.first (c.args.last + 1)) is_node in
    let seen = seen_branches g.B.Content.number data_of c.parts.inside.refs c.as_slice.result.now c.in_ok-inputs.inputs c.in_ok-inputs.ensures in
    let here = subst (λ (ns : List ℕ). AreBranches g.B.Content.number data_of (branches whole) ns c.in_ok-inputs.inputs) numbers seen in
    subst (λ (w : Whole). AreBranches g.B.Content.number data_of (branches w) (run_at w c.args.node c.args.first c.args.last).inputs c.in_ok-inputs.inputs) c.parts.view_is here

pub returns-clause-few : goal.returns-clause-few
returns-clause-few g c =
    let most = length_run c.lists-lists.result.now c.args.first (c.args.last + 1) c.first-oldest.ensures.limits in
    let numbers = ap (λ (ns : List ℕ). length ns) (c.of.ensures ∙ c.in_ok-numbers.ensures) in
    omega arith
