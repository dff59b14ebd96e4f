use Rattle.std.proofs.Common.{◌≡◌, ◌⊎◌, inl, inr, Result, Ok, Err}
use Rattle.std.specs.Prelude.{OnOk, OnErr}
use Rattle.spl_bundle.specs.Numbered.{pushed}
use Rattle.spl_node.specs.Node.{NodeData}
use Rattle.spl_node.specs.Steps.{with_lists}
use Rattle.spl_trunk.proofs.Shapes.{shaped_at, shaped_itself, shaped_pushed}
use Rattle.spl_trunk.proofs.trunk.Trunk.push.Goals as goal

ok_or_err : {T E : Type 0} (result : Result T E) (P Q : Type 0) → OnOk result P → OnErr result Q → P ⊎ Q
ok_or_err (Ok value) P Q ok err = inl ok
ok_or_err (Err error) P Q ok err = inr err

pub returns-clause-shaped : goal.returns-clause-shaped
returns-clause-shaped c = λ shaped.
    let now = c.args.self.now in
    let n = c.args.node in
    let added : NodeData → NodeData = λ node. with_lists node (pushed node.lists c.args.list.now) in
    elim (ok_or_err c.push.result (c.push.new.self ≡ added c.index_mut.result.now) (c.push.new.self ≡ c.index_mut.result.now) c.push.ensures.ok c.push.ensures.err) [
      | inl made ↦
          shaped_at c.self.inside.nodes.items now n added c.index_mut.result.now c.push.new.self c.self.view_is c.index_mut.ensures.value c.requires.exists made (shaped_pushed now shaped n c.requires.exists c.args.list.now)
      | inr same ↦
          shaped_at c.self.inside.nodes.items now n (λ (node : NodeData). node) c.index_mut.result.now c.push.new.self c.self.view_is c.index_mut.ensures.value c.requires.exists same (shaped_itself now shaped n c.requires.exists)
    ]
