-- A table that no bundle names is no matter.
use Rattle.std.proofs.Common.{◌≡◌, ℕ, zero, suc, ◌-◌, ◌<◌, ◌≤◌, List, [], ◌∷◌, None, map, length, take, drop, refl, ap, ap₂, ◌∙◌, arith, take-append-drop}
use Rattle.spl_message.specs.Cell.{Cell}
use Rattle.spl_message.specs.Message.{act_all}
use Rattle.spl_message.specs.Rule.{Rule}
use Rattle.spl_message.specs.Span.{InSpan}
use Rattle.spl_message.specs.Table.{Table, chain}
use Rattle.spl_bundle.specs.Numbered.{Numbered, joined, live, names}
use Rattle.spl_bundle.proofs.Live.{joined-append}
use Rattle.spl_node.specs.Node.{NodeData, bare}
use Rattle.spl_node.specs.Parts.{live_for}
use Rattle.spl_node.specs.Steps.{fresh}
use Rattle.spl_trunk.specs.Trunk.{node_at}
use Rattle.spl_trunk.specs.Tree.{child_for, pivot_of, sub, times, named, IsShaped}
use Rattle.spl_trunk.proofs.Counts.{times-append, times_itself, times_one}
use Rattle.spl_trunk.proofs.Trees.{child_is}

map_alike : (table_of other : ℕ → Table) (numbers : List ℕ) → ((b : ℕ) → 1 ≤ times b numbers → table_of b ≡ other b) → map table_of numbers ≡ map other numbers
map_alike table_of other [] same = refl
map_alike table_of other (x ∷ numbers) same =
    ap₂ ◌∷◌
    (same x (let all = times-append x (x ∷ []) numbers in let itself = times_itself x in omega arith))
    (map_alike table_of other numbers (λ b some. same b (let all = times-append b (x ∷ []) numbers in omega arith)))

-- what is live is named
pub times-live : (b : ℕ) (queue : Numbered) (mark : ℕ) → times b (live queue mark) ≤ times b (names queue)
times-live b queue mark =
    let k = mark - queue.first in
    let parts = ap (λ bundles. times b (joined bundles)) (take-append-drop k queue.bundles) in
    let sides = ap (times b) (joined-append (take k queue.bundles) (drop k queue.bundles)) ∙ times-append b (joined (take k queue.bundles)) (joined (drop k queue.bundles)) in
    omega arith

module _ (nodes : List NodeData) (shaped : IsShaped nodes) (rule : Rule) (table_of other : ℕ → Table) (same : (b : ℕ) → 1 ≤ times b (named nodes) → table_of b ≡ other b) where
  live_same : (n : ℕ) (key : List ℕ) → n < length nodes → map table_of (live_for (node_at nodes n) key) ≡ map other (live_for (node_at nodes n) key)
  live_same n key exists =
      map_alike table_of other (live_for (node_at nodes n) key) (λ b some. same b (
      let lists = (node_at nodes n).lists in
      let here = times-live b lists (pivot_of (node_at nodes n) key).mark in
      let all = times_one (λ (node : NodeData). names node.lists) b nodes n (fresh 0 bare) exists in
      omega arith))

  -- where the tables of the branches that the trunk names are as before, so is what each node means
  pub sub_tables : (height n : ℕ) (key : List ℕ) → n < length nodes → (node_at nodes n).height ≡ height → InSpan (node_at nodes n).range key → sub rule table_of (node_at nodes) height n key ≡ sub rule other (node_at nodes) height n key
  sub_tables zero n key exists low inside =
      ap (λ (tables : List Table). act_all rule key None (chain tables key)) (live_same n key exists)
  sub_tables (suc height) n key exists high inside =
      let down = child_is nodes shaped n key height exists high inside in
      let c = child_for (node_at nodes n) key in
      ap (λ (cell : Cell). act_all rule key cell (chain (map table_of (live_for (node_at nodes n) key)) key)) (sub_tables height c key down.0 down.1 down.2)
      ∙ ap (λ (tables : List Table). act_all rule key (sub rule other (node_at nodes) height c key) (chain tables key)) (live_same n key exists)
