use Rattle.std.proofs.Common.{◌≡◌, ◌-◌, ◌++◌, ℕ, suc, List, map, option_to_list, ap, subst, sym, ◌∙◌, arith}
use Rattle.std.proofs.lemmas.Simd.{map-map}
use Rattle.spl_message.specs.declared.message.Message.{Message}
use Rattle.spl_message.specs.Entries.{message_in}
use Rattle.spl_message.specs.Table.{Table, chain, message_at}
use Rattle.spl_branch.specs.Branch.{table_of}
use Rattle.spl_range.specs.Adding.{AddsAt, Folds}
use Rattle.spl_range.proofs.Adding.{adds_next, from}
use Rattle.spl_range.proofs.Stops.{reads_on}
use Rattle.spl_range.proofs.add.add_branches.Goals as goal

pub loop-left-preserved : goal.loop-left-preserved
loop-left-preserved g c =
    let rule = g.L.MergeLaw.rule c.args.law.now in
    let shared = c.as_slice-shared.result.now in
    let branch = c.index-shared-left.result in
    let first = c.args.found.now.entries in
    let was = c.loop-left.found.entries in
    let now = c.add_branch.new.found.entries in
    let within = c.loop-left.invariant.within in
    let some = c.loop-left-test.true in
    let before : c.loop-left.left ≡ suc (c.loop-left.left - 1) = omega (arith, some) in
    record {
      within = omega (arith, within);
      counts = reads_on (g.P.Port.counts c.args.port.now) (g.P.Port.counts c.loop-left.port) (g.P.Port.counts c.add_branch.new.port) c.loop-left.invariant.counts c.in_ok-add_branch.ensures.counts;
      faults = c.in_ok-add_branch.ensures.faults ∙ c.loop-left.invariant.faults;
      adds = λ tells key inside.
          adds_next rule (λ b. table_of b.value) shared (c.loop-left.left - 1) c.loop-left.left branch first was now key before within
          (subst (λ b. AddsAt rule (λ (k : List ℕ). option_to_list (message_at (table_of b.value) k)) was now key) c.index-shared-left.is (c.in_ok-add_branch.ensures.told tells key inside))
          (c.loop-left.invariant.adds tells key inside);
    }

pub returns-clause-told : goal.returns-clause-told
returns-clause-told g c = λ tells key inside.
    let rule = g.L.MergeLaw.rule c.args.law.now in
    let shared = c.as_slice-shared.result.now in
    let first = c.args.found.now.entries in
    let now = c.loop-left.found.entries in
    let none : c.loop-left.left ≡ 0 = omega (arith, c.loop-left-test.false) in
    let all = subst (λ (n : ℕ). AddsAt rule (from rule (λ b. table_of b.value) shared n) first now key) none (c.loop-left.invariant.adds tells key inside) in
    let same = ap (λ (ts : List Table). chain ts key) (sym (map-map table_of (λ b. b.value) shared) ∙ ap (map table_of) c.as_slice-shared.ensures) in
    subst (λ (ms : List Message). Folds rule key (ms ++ option_to_list (message_in first key)) (message_in now key)) same all
