use Rattle.std.proofs.Common.{◌≡◌, ℕ, ◌+◌, Option, None, sym, ap, ◌∙◌, arith}
use Rattle.std.specs.Option.{option_or}
use Rattle.spl_bundle.specs.Numbered.{bundle_at}
use Rattle.spl_compact.specs.Starting.{run_below, first_owner}
use Rattle.spl_compact.proofs.Lists.{owner_first}
use Rattle.spl_compact.proofs.refusal.first_owner.Goals as goal

pub returns-in-Some : goal.returns-in-Some
returns-in-Some c =
    let lists = c.args.lists.now in
    let number = c.loop-number.number in
    let here = owner_first lists number c.args.end (omega arith) (omega arith) (omega arith) in
    let rest = first_owner (run_below lists (number + 1) c.args.end) in
    ap (λ (o : Option ℕ). option_or o rest) c.in-Some.ensures ∙ sym here ∙ c.loop-number.invariant

pub loop-number-preserved : goal.loop-number-preserved
loop-number-preserved c =
    let lists = c.args.lists.now in
    let number = c.loop-number.number in
    let here = owner_first lists number c.args.end (omega arith) (omega arith) (omega arith) in
    let rest = first_owner (run_below lists (number + 1) c.args.end) in
    let none : None ≡ (bundle_at lists number).owner = c.in_default.ensures in
    ap (λ (o : Option ℕ). option_or o rest) none ∙ sym here ∙ c.loop-number.invariant
