use Rattle.std.proofs.Common.{◌≡◌, ℕ, ◌+◌, ◌<◌, Bool, true, false, length, refl, sym, ap, ◌∙◌, arith}
use Rattle.std.proofs.lemmas.Bool.{false≢true}
use Rattle.spl_message.specs.Span.{is_from}
use Rattle.spl_node.specs.Node.{pivot_at, pivot_for}
use Rattle.spl_node.proofs.Places.{pivot_only}
use Rattle.spl_node.proofs.Walks.{pivot_for_end}
use Rattle.spl_node.proofs.node.Node.pivot_of.Goals as goal

not_true_is_false : (b : Bool) → (b ≡ true → ⊥) → b ≡ false
not_true_is_false true not = absurd (not refl)
not_true_is_false false not = refl

pub returns-clause-only : goal.returns-clause-only
returns-clause-only c = λ other within inside.
    let now = c.args.self.now in
    let key = c.args.key.now in
    let pivots = c.pivots-pivots.result.now in
    let found = c.loop-pivots.found in
    let ends : found + 1 < length pivots → is_from (pivot_at pivots (found + 1)).start key ≡ false = λ more.
    not_true_is_false (is_from (pivot_at pivots (found + 1)).start key) (λ is. false≢true (sym c.loop-pivots-test.false ∙ c.is_started.ensures.1 (more, is))) in
    sym (pivot_only now key other c.pivots-pivots.ensures.node within inside)
    ∙ ap (λ ps. pivot_for ps key) (sym c.pivots-pivots.ensures.value)
    ∙ c.loop-pivots.invariant.same
    ∙ ap (λ (n : ℕ). found + n) (pivot_for_end pivots key found c.loop-pivots.invariant.within ends)
    ∙ omega arith
