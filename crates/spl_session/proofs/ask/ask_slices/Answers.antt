use Rattle.std.proofs.Common.{◌≡◌, ℕ, [], ◌++◌, ap, sym, subst, ◌∙◌, List, map, append-nil, arith}
use Rattle.std.proofs.lemmas.List.{map-id}
use Rattle.spl_message.specs.declared.message.Message.{Message}
use Rattle.spl_message.specs.Table.{Table, chain}
use Rattle.spl_session.specs.Asking.{Folds}
use Rattle.spl_session.proofs.Asking.{decided_from, from}
use Rattle.spl_session.proofs.ask.ask_slices.Goals as goal

pub returns-then-is_decided : goal.returns-then-is_decided
returns-then-is_decided g c =
    let rule = g.L.MergeLaw.rule c.args.law.now in
    let key = c.args.key.now in
    let parts = c.as_slice-parts.result.now in
    let all = decided_from rule key (λ (table : Table). table) parts c.loop-left.left [] c.loop-left.found (sym c.is_decided.ensures ∙ c.if-is_decided.true) c.loop-left.invariant.1 in
    let same = append-nil (chain (map (λ (table : Table). table) parts) key) ∙ ap (λ (ts : List Table). chain ts key) (map-id parts ∙ c.as_slice-parts.ensures) in
    subst (λ (ms : List Message). Folds rule key ms c.loop-left.found) same all

pub returns : goal.returns
returns g c =
    let rule = g.L.MergeLaw.rule c.args.law.now in
    let key = c.args.key.now in
    let parts = c.as_slice-parts.result.now in
    let none : c.loop-left.left ≡ 0 = omega (arith, c.loop-left-test.false) in
    let all = subst (λ (n : ℕ). Folds rule key (from rule key (λ (table : Table). table) parts n ++ []) c.loop-left.found) none c.loop-left.invariant.1 in
    let same = append-nil (chain (map (λ (table : Table). table) parts) key) ∙ ap (λ (ts : List Table). chain ts key) (map-id parts ∙ c.as_slice-parts.ensures) in
    subst (λ (ms : List Message). Folds rule key ms c.loop-left.found) same all
