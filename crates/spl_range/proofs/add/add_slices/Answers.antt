use Rattle.std.proofs.Common.{◌≡◌, ◌-◌, ◌++◌, ℕ, suc, List, option_to_list, ap, subst, ◌∙◌, arith}
use Rattle.std.proofs.lemmas.List.{map-id}
use Rattle.spl_message.specs.declared.message.Message.{Message}
use Rattle.spl_message.specs.Entries.{message_in}
use Rattle.spl_message.specs.Table.{Table, chain, message_at}
use Rattle.spl_range.specs.Adding.{AddsAt, Folds}
use Rattle.spl_range.proofs.Adding.{adds_next, from}
use Rattle.spl_range.proofs.add.add_slices.Goals as goal

pub loop-left-preserved : goal.loop-left-preserved
loop-left-preserved g c =
    let rule = g.L.MergeLaw.rule c.args.law.now in
    let parts = c.as_slice-parts.result.now in
    let slice = c.index-parts-left.result in
    let first = c.args.found.now.entries in
    let was = c.loop-left.found.entries in
    let now = c.add_slice.new.found.entries in
    let within = c.loop-left.invariant.within in
    let some = c.loop-left-test.true in
    let before : c.loop-left.left ≡ suc (c.loop-left.left - 1) = omega (arith, some) in
    record {
      within = omega (arith, within);
      adds = λ key.
          adds_next rule (λ (table : Table). table) parts (c.loop-left.left - 1) c.loop-left.left slice first was now key before within
          (subst (λ (table : Table). AddsAt rule (λ (k : List ℕ). option_to_list (message_at table k)) was now key) c.index-parts-left.is (c.in_ok-add_slice.ensures key))
          (c.loop-left.invariant.adds key);
    }

pub returns : goal.returns
returns g c = λ key.
    let rule = g.L.MergeLaw.rule c.args.law.now in
    let parts = c.as_slice-parts.result.now in
    let first = c.args.found.now.entries in
    let now = c.loop-left.found.entries in
    let none : c.loop-left.left ≡ 0 = omega (arith, c.loop-left-test.false) in
    let all = subst (λ (n : ℕ). AddsAt rule (from rule (λ (table : Table). table) parts n) first now key) none (c.loop-left.invariant.adds key) in
    let same = ap (λ (ts : List Table). chain ts key) (map-id parts ∙ c.as_slice-parts.ensures) in
    subst (λ (ms : List Message). Folds rule key (ms ++ option_to_list (message_in first key)) (message_in now key)) same all
