use Rattle.std.proofs.Common.{rules, ◌≡◌, ℕ, List, ap, ◌∙◌, set, get_or-set_same}
use Rattle.std.proofs.lemmas.List.{set-set}
use Rattle.spl_bundle.specs.Numbered.{next_of}
use Rattle.spl_node.specs.Node.{NodeData, bare}
use Rattle.spl_node.specs.Steps.{fresh, with_mark, trimmed}
use Rattle.spl_trunk.specs.Trunk.{node_at}
use Rattle.spl_flush.proofs.step.pass.Goals as goal

pub returns-clause-nodes : goal.returns-clause-nodes
returns-clause-nodes g c =
    let nodes = c.args.trunk.now in
    let n = c.args.node in
    let marked : ℕ → NodeData = λ mark. with_mark (node_at nodes n) c.args.pivot mark in
    let next : c.next-next.result ≡ next_of (node_at nodes n).lists = search rules in
    let first : c.set_mark.new.self ≡ set nodes n (marked (next_of (node_at nodes n).lists)) =
    c.set_mark.ensures.value ∙ ap (λ (mark : ℕ). set nodes n (marked mark)) next in
    let here = get_or-set_same nodes n (marked (next_of (node_at nodes n).lists))
    (fresh 0 bare) c.requires.exists in
    c.trim.ensures.value
    ∙ ap (λ (ns : List NodeData). set ns n (trimmed (node_at ns n))) first
    ∙ ap (λ (node : NodeData). set (set nodes n (marked (next_of (node_at nodes n).lists))) n
    (trimmed node)) here
    ∙ set-set nodes n (marked (next_of (node_at nodes n).lists))
    (trimmed (marked (next_of (node_at nodes n).lists)))
