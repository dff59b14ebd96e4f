use Rattle.std.proofs.Common.{rules, ◌≡◌, ◌<◌, ◌≤◌, length, true, false, nat_eq, get_or, arith, sym, ap, ◌∙◌, refl}
use Rattle.std.proofs.lemmas.List.{take_all}
use Rattle.std.proofs.lemmas.List.Sums.{count_by_more_yes, count_by_more_no}
use Rattle.spl_node.specs.Node.{NodeData, bare}
use Rattle.spl_node.specs.Steps.{fresh}
use Rattle.spl_trunk.specs.Trunk.{node_at}
use Rattle.spl_core.specs.Leaves.{leaf_count}
use Rattle.spl_core.proofs.leaves.leaf_count.Goals as goal
use Rattle.spl_core.proofs.leaves.leaf_count.Goals.{then-height-eq0, else-height-eq0}

pub loop-number-init : goal.loop-number-init
loop-number-init c = (refl, omega arith)

pub overflow_add-leaves : goal.overflow_add-leaves
overflow_add-leaves c = let few = c.loop-number.invariant.1 in let limit = c.count-number-end.ensures.limit in omega arith

pub loop-number-preserved : goal.loop-number-preserved
loop-number-preserved c =
    let nodes = c.args.trunk.now in
    let number = c.loop-number.number in
    let within : number < length nodes = omega arith in
    let shown : c.unwrap.result.now ≡ node_at nodes number = search rules in
    let height : (node_at nodes number).height ≡ c.height.result = ap (λ (n : NodeData). n.height) (sym shown) ∙ sym c.height.ensures.value in
    let few = c.loop-number.invariant.1 in
    elim c.if-height-eq0.branch [
      | then-height-eq0 w ↦
          let zero : nat_eq c.height.result 0 ≡ true = search rules in
          let is : nat_eq (get_or nodes number (fresh 0 bare)).height 0 ≡ true = ap (λ h. nat_eq h 0) height ∙ zero in
          let more = count_by_more_yes (λ (node : NodeData). nat_eq node.height 0) nodes number (fresh 0 bare) within is in
          let was = c.loop-number.invariant.0 in
          let one = w.leaves-is in
          (omega arith, omega arith)
      | else-height-eq0 w ↦
          let not_zero : nat_eq c.height.result 0 ≡ false = search rules in
          let is : nat_eq (get_or nodes number (fresh 0 bare)).height 0 ≡ false = ap (λ h. nat_eq h 0) height ∙ not_zero in
          let same = count_by_more_no (λ (node : NodeData). nat_eq node.height 0) nodes number (fresh 0 bare) within is in
          let was = c.loop-number.invariant.0 in
          let stays = w.leaves-is in
          (omega arith, omega arith)
    ]

pub returns : goal.returns
returns c =
    let past : length c.args.trunk.now ≤ c.loop-number.number = omega arith in
    c.loop-number.invariant.0 ∙ ap leaf_count (take_all c.loop-number.number c.args.trunk.now past)
