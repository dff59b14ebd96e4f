-- What is read of a node is the sight of a descent there.
use Rattle.std.proofs.Common.{◌≡◌, ℕ, zero, suc, false, nat_eq, List, Option, refl, sym, ap, ap₂, subst, ◌∙◌, arith}
use Rattle.std.specs.Prelude.{◌↔◌, IsTrue}
use Rattle.std.proofs.lemmas.Bool.{false≢true}
use Rattle.std.proofs.lemmas.Bool.Decides.{nat_tests}
use Rattle.spl_message.specs.declared.span.Span.{Span}
use Rattle.spl_message.specs.Span.{first_end}
use Rattle.spl_message.specs.Table.{Table}
use Rattle.spl_bundle.specs.Numbered.{Numbered, live}
use Rattle.spl_node.specs.Node.{NodeData, pivot_at, span_of}
use Rattle.spl_refs.specs.Refs.{Published, branch_at}
use Rattle.spl_trunk.specs.Trunk.{node_at}
use Rattle.spl_state.specs.Actors.{pivot_from}
use Rattle.spl_state.specs.Whole.{BranchData, Whole}
use Rattle.spl_state.proofs.Views.{all_seen}
use Rattle.spl_descent.specs.Descents.{descent_at, live_under, span_under}
use Rattle.spl_descent.specs.Sights.{HasBranches, AreBranches, IsSightOf}
use Rattle.spl_descent.proofs.Named.{seen_branches}

not_zero : (height : ℕ) → nat_eq (suc height) 0 ≡ false
not_zero height = grind (arith, nat_tests)

leaf_is : (height other : ℕ) → height ≡ other → IsTrue (nat_eq height 0) ↔ (other ≡ 0)
leaf_is zero other is = ((λ low. sym is), (λ low. refl))
leaf_is (suc height) other is = ((λ low. absurd (false≢true (sym (not_zero height) ∙ low))), (λ low. absurd (omega arith)))

module _ {B : Type 0} (number_of : B → ℕ) (data_of : B → BranchData) (whole : Whole) (refs : Published B) (same : whole.refs ≡ all_seen data_of refs) (before : Whole) (is_whole : whole ≡ before) (place number : ℕ) (span : Span) where
  pub sight_is : (node : NodeData) (lists : Numbered) (pivot mark height : ℕ) (end : Option (List ℕ)) (under : Span) (tables : List Table) (shared : List B) → node ≡ node_at whole.nodes number → lists ≡ node.lists → pivot ≡ pivot_from node.pivots span.from → mark ≡ (pivot_at node.pivots pivot).mark → height ≡ node.height → end ≡ (span_of node pivot).to → under.from ≡ span.from → under.to ≡ first_end span.to end → HasBranches number_of (branch_at refs) (live lists mark) shared → IsSightOf number_of data_of before (descent_at before place span number) (record { place = place; span = under; node = number; leaf = nat_eq height 0; tables = tables; branches = shared })
  sight_is node lists pivot mark height end under tables shared is_node are_lists is_pivot is_mark is_height is_end is_from is_to has =
      let ends = is_to ∙ ap (first_end span.to) (is_end ∙ ap (λ (i : ℕ). (span_of node i).to) is_pivot) in
      let lowered : under ≡ span_under node span = ap₂ (λ (f t : Option (List ℕ)). record { from = f; to = t }) is_from ends in
      let numbers : live lists mark ≡ live_under (node_at whole.nodes number) span =
      ap₂ live are_lists (is_mark ∙ ap (λ (i : ℕ). (pivot_at node.pivots i).mark) is_pivot)
      ∙ ap (λ (n : NodeData). live_under n span) is_node in
      let seen = seen_branches number_of data_of refs (live lists mark) shared has in
      let found = subst (λ (ns : List ℕ). AreBranches number_of data_of (branch_at (all_seen data_of refs)) ns shared) numbers seen in
      let sight : IsSightOf number_of data_of whole (descent_at whole place span number) (record { place = place; span = under; node = number; leaf = nat_eq height 0; tables = tables; branches = shared }) = record {
        place = refl;
        span = lowered ∙ ap (λ (n : NodeData). span_under n span) is_node;
        node = refl;
        leaf = leaf_is height (node_at whole.nodes number).height (is_height ∙ ap (λ (n : NodeData). n.height) is_node);
        branches = subst (λ (r : Published BranchData). AreBranches number_of data_of (branch_at r) (live_under (node_at whole.nodes number) span) shared) (sym same) found;
      } in
      subst (λ (w : Whole). IsSightOf number_of data_of w (descent_at w place span number) (record { place = place; span = under; node = number; leaf = nat_eq height 0; tables = tables; branches = shared })) is_whole sight
