use Rattle.std.proofs.Common.{◌≡◌, ℕ, suc, ◌+◌, ◌-◌, ◌≤◌, get_or, ◌++◌, option_to_list, ap, sym, subst, ◌∙◌, List, map, arith}
use Rattle.std.proofs.lemmas.Simd.{map-map}
use Rattle.spl_message.specs.declared.message.Message.{Message}
use Rattle.spl_message.specs.Table.{Table, chain}
use Rattle.spl_branch.specs.Branch.{table_of}
use Rattle.spl_session.specs.Asking.{Folds}
use Rattle.spl_branch.specs.Reading.{reach_of}
use Rattle.std.specs.Prelude.{sum_by}
use Rattle.spl_session.proofs.Asking.{decided_from, from, sum_before, sum_by-mapped, sum_from}
use Rattle.spl_session.proofs.ask.ask_branches.Given.{Over}
use Rattle.spl_session.proofs.ask.ask_branches.Goals.{After-as_slice-shared}
use Rattle.spl_session.proofs.ask.ask_branches.Goals as goal

pub returns-then-is_decided-clause-told : goal.returns-then-is_decided-clause-told
returns-then-is_decided-clause-told g c = λ tells.
    let rule = g.L.MergeLaw.rule c.args.law.now in
    let key = c.args.key.now in
    let shared = c.as_slice-shared.result.now in
    let all = decided_from rule key (λ b. table_of b.value) shared c.loop-left.left (option_to_list c.args.found) c.loop-left.found (sym c.is_decided.ensures ∙ c.if-is_decided.true) (c.loop-left.invariant.folds tells) in
    let same = ap (λ (ts : List Table). chain ts key ++ option_to_list c.args.found) (sym (map-map table_of (λ b. b.value) shared) ∙ ap (map table_of) c.as_slice-shared.ensures) in
    subst (λ (ms : List Message). Folds rule key ms c.loop-left.found) same all

pub returns-clause-told : goal.returns-clause-told
returns-clause-told g c = λ tells.
    let rule = g.L.MergeLaw.rule c.args.law.now in
    let key = c.args.key.now in
    let shared = c.as_slice-shared.result.now in
    let none : c.loop-left.left ≡ 0 = omega (arith, c.loop-left-test.false) in
    let all = subst (λ (n : ℕ). Folds rule key (from rule key (λ b. table_of b.value) shared n ++ option_to_list c.args.found) c.loop-left.found) none (c.loop-left.invariant.folds tells) in
    let same = ap (λ (ts : List Table). chain ts key ++ option_to_list c.args.found) (sym (map-map table_of (λ b. b.value) shared) ∙ ap (map table_of) c.as_slice-shared.ensures) in
    subst (λ (ms : List Message). Folds rule key ms c.loop-left.found) same all

-- the branches that stand in memory are those of the node
summed : (g : Over) (c : After-as_slice-shared g) → sum_by (λ b. reach_of b.value c.args.key.now) c.as_slice-shared.result.now ≡ sum_by (λ branch. reach_of branch c.args.key.now) c.args.branches.now
summed g c =
    sym (sum_by-mapped (λ branch. reach_of branch c.args.key.now) (λ b. b.value) c.as_slice-shared.result.now)
    ∙ ap (sum_by (λ branch. reach_of branch c.args.key.now)) c.as_slice-shared.ensures

pub returns-then-is_decided-clause-reach : goal.returns-then-is_decided-clause-reach
returns-then-is_decided-clause-reach g c = λ tells.
    let shared = c.as_slice-shared.result.now in
    let all = sum_from (λ b. reach_of b.value c.args.key.now) shared c.loop-left.left (g.P.Port.counts c.args.port.now).reads (g.P.Port.counts c.loop-left.port).reads (c.loop-left.invariant.reads tells) in
    let same = summed g (goal.at.returns-then-is_decided-clause-reach g c).After-as_slice-shared in
    omega (arith, all, same)

pub returns-in_err-found-clause-reach : goal.returns-in_err-found-clause-reach
returns-in_err-found-clause-reach g c = λ tells.
    let key = c.args.key.now in
    let shared = c.as_slice-shared.result.now in
    let start = (g.P.Port.counts c.args.port.now).reads in
    let now = (g.P.Port.counts c.loop-left.port).reads in
    let later = (g.P.Port.counts c.ask_branch.new.port).reads in
    let n = c.loop-left.left in
    let branch = c.index-shared-left.result in
    let same : reach_of c.deref.result.now key ≡ reach_of (get_or shared (n - 1) branch).value key =
    ap (λ b. reach_of b key) c.deref.ensures ∙ ap (λ b. reach_of b.value key) c.index-shared-left.is in
    let read = c.in_err-found.ensures.reach tells in
    let more : later ≤ now + reach_of (get_or shared (n - 1) branch).value key = omega (arith, read, same) in
    let some = c.loop-left-test.true in
    let next : n ≡ suc (n - 1) = omega (arith, some) in
    let below = sum_before (λ b. reach_of b.value key) shared (n - 1) n branch start now later next c.loop-left.invariant.within (c.loop-left.invariant.reads tells) more in
    let all = sum_from (λ b. reach_of b.value key) shared (n - 1) start later below in
    let whole = summed g (goal.at.returns-in_err-found-clause-reach g c).After-as_slice-shared in
    omega (arith, all, whole)
