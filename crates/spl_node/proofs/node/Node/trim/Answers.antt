use Rattle.std.proofs.Common.{ℕ, ◌≡◌, ◌++◌, max, List, length, map, take, drop, ap, ap₂, subst, sym, ◌∙◌, arith}
use Rattle.std.proofs.lemmas.List.{length-map}
use Rattle.spl_bundle.specs.Numbered.{Numbered, dropped_below}
use Rattle.spl_node.specs.declared.pivot.Pivot.{Pivot}
use Rattle.spl_node.specs.declared.node.Body.{Body}
use Rattle.spl_node.specs.Node.{NodeData, IsNode}
use Rattle.spl_node.specs.Parts.{IsAlike}
use Rattle.spl_node.specs.Steps.{at_mark}
use Rattle.spl_node.specs.Body.{in_body}
use Rattle.spl_node.proofs.Lives.{trimmed_alike}
use Rattle.spl_node.proofs.Nodes.{trimmed_node, refilled}
use Rattle.spl_node.proofs.node.Node.trim.Goals as goal

abbrev raised : ℕ → List Pivot → List Pivot
raised number pivots = map (λ (pivot : Pivot). at_mark pivot (max pivot.mark number)) pivots

abbrev with_both : NodeData → List Pivot → Numbered → NodeData
with_both node pivots lists = record node { pivots = pivots; lists = lists }

pub invariant_of-self : goal.invariant_of-self
invariant_of-self c =
    let now = c.args.self.now in
    let body = c.deref_mut-body.result.now in
    let kept = c.kept_from-kept.result in
    let same : in_body body ≡ now = ap in_body c.deref_mut-body.ensures.value ∙ c.self.view_is in
    let is : IsNode now = subst IsNode c.self.view_is c.self.invariant.node in
    let room = ap (λ (b : Body). b.pivots.capacity) c.deref_mut-body.ensures.value in
    let new = c.raise_marks.new.pivots in
    let slice = c.as_mut_slice.ensures.value in
    let made : new ≡ raised kept body.pivots.items = c.raise_marks.ensures ∙ ap (raised kept) slice in
    let full = ap length made ∙ length-map body.pivots.items (λ (pivot : Pivot). at_mark pivot (max pivot.mark kept)) in
    let written = refilled (length body.pivots.items) new (drop (length new) body.pivots.items) full ∙ made ∙ ap (λ (m : NodeData). raised kept m.pivots) same ∙ ap (λ (n : ℕ). raised n now.pivots) c.kept_from-kept.ensures.value in
    let lists = c.drop_below.ensures ∙ ap (λ (m : NodeData). dropped_below m.lists kept) same ∙ ap (dropped_below now.lists) c.kept_from-kept.ensures.value in
    let from = c.kept_from-kept.ensures.from in
    let within = c.kept_from-kept.ensures.made in
    let value = c.kept_from-kept.ensures.value in
    let back = take (length body.pivots.items) (new ++ drop (length new) body.pivots.items) in
    record {
      node = subst IsNode (sym (ap (λ (m : NodeData). with_both m back c.drop_below.new.self) same ∙ ap₂ (with_both now) written lists)) (trimmed_node now is (omega arith) (omega arith));
      room = omega (arith, c.self.invariant.room);
    }

pub returns-clause-alike : goal.returns-clause-alike
returns-clause-alike c = λ key.
    let now = c.args.self.now in
    let body = c.deref_mut-body.result.now in
    let kept = c.kept_from-kept.result in
    let same : in_body body ≡ now = ap in_body c.deref_mut-body.ensures.value ∙ c.self.view_is in
    let is : IsNode now = subst IsNode c.self.view_is c.self.invariant.node in
    let new = c.raise_marks.new.pivots in
    let slice = c.as_mut_slice.ensures.value in
    let made : new ≡ raised kept body.pivots.items = c.raise_marks.ensures ∙ ap (raised kept) slice in
    let full = ap length made ∙ length-map body.pivots.items (λ (pivot : Pivot). at_mark pivot (max pivot.mark kept)) in
    let written = refilled (length body.pivots.items) new (drop (length new) body.pivots.items) full ∙ made ∙ ap (λ (m : NodeData). raised kept m.pivots) same ∙ ap (λ (n : ℕ). raised n now.pivots) c.kept_from-kept.ensures.value in
    let lists = c.drop_below.ensures ∙ ap (λ (m : NodeData). dropped_below m.lists kept) same ∙ ap (dropped_below now.lists) c.kept_from-kept.ensures.value in
    let back = take (length body.pivots.items) (new ++ drop (length new) body.pivots.items) in
    let P : NodeData → Type 0 = λ node. IsAlike now node key in
    subst P (sym (ap (λ (m : NodeData). with_both m back c.drop_below.new.self) same ∙ ap₂ (with_both now) written lists)) (trimmed_alike now key is)
