use Rattle.std.proofs.Common.{List, ◌++◌, refl, sym, ap, ◌∙◌}
use Rattle.spl_bundle.specs.Numbered.{Numbered}
use Rattle.spl_node.specs.declared.pivot.Pivot.{Pivot}
use Rattle.spl_state.specs.View.{branch_data, whole_of}
use Rattle.spl_state.specs.Whole.{branches}
use Rattle.spl_state.proofs.Views.{branch_seen}
use Rattle.spl_survey.specs.Surveys.{views_from, seen_in}
use Rattle.spl_survey.proofs.Shown.{split_same, view_where}
use Rattle.spl_survey.proofs.show.view_of.Goals as goal

pub returns : goal.returns
returns g c =
    let data_of = branch_data g.B.Content.extents g.B.Content.entries g.B.Content.cuts g.B.Content.table in
    let whole = whole_of data_of c.parts.inside in
    let node = c.unwrap-node.result.now in
    let refs = c.parts.inside.refs in
    let pivots = c.of.ensures ∙ c.in_ok-extend_from_slice.ensures.items ∙ ap (λ (ps : List Pivot). ps ++ c.pivots-pivots.result.now) c.in_ok-shown.ensures.items ∙ c.pivots-pivots.ensures.value in
    let bundles = c.in_ok-bundles_of.ensures ∙ ap (λ (l : Numbered). views_from l.first l.bundles) c.lists.ensures in
    let split = c.split_key.ensures ∙ split_same (seen_in data_of refs) (branches whole) (λ n. sym (branch_seen data_of refs n)) node in
    view_where whole c.args.parts.now c.parts.view_is c.args.number node (rw c.unwrap-node.ensures at c.node.ensures.value) _ c.height.ensures.value c.generation.ensures pivots bundles split refl
