use Rattle.std.proofs.Common.{ℕ, ◌+◌, List, ◌++◌, ◌∷◌, [], Option, Some, map, take, get_or, sym, ap, subst, ◌∙◌, arith}
use Rattle.std.specs.Prelude.{IsSome}
use Rattle.std.proofs.lemmas.List.{map-append, take_more}
use Rattle.std.proofs.lemmas.List.Elements.{All-get_or}
use Rattle.spl_refs.specs.Refs.{branch_at}
use Rattle.spl_descent.specs.Sights.{HasBranches}
use Rattle.spl_descent.proofs.Named.{one_more, some_inside}
use Rattle.spl_compact.proofs.names.share.Goals as goal

pub unwrap-branch-requires : goal.unwrap-branch-requires
unwrap-branch-requires g c =
    let there = All-get_or (λ (n : ℕ). IsSome (branch_at c.args.refs.now n)) c.args.numbers.now c.loop-number.number-index 0 (omega arith) c.requires in
    some_inside _ c.find.result (subst (λ (o : Option _). IsSome o) (sym c.find.ensures.value) there)

pub loop-number-preserved : goal.loop-number-preserved
loop-number-preserved g c =
    let i = c.loop-number.number-index in
    let numbers = c.args.numbers.now in
    let number = get_or numbers i 0 in
    let at = branch_at c.args.refs.now in
    let found = rw c.unwrap-branch.ensures at c.find.ensures.value in
    let named = rw c.unwrap-branch.ensures at c.find.ensures.number in
    let same = c.in_ok-clone.ensures.cases in
    let more = one_more g.B.Content.number at (take i numbers) (map (λ b. b.value) c.loop-number.shared.items) number c.in_ok-clone.field-0.value c.loop-number.invariant (sym found ∙ ap (λ b. Some b) (sym same)) (ap g.B.Content.number same ∙ named) in
    let shared = sym (ap (map (λ b. b.value)) c.in_ok-push.ensures.items ∙ map-append (λ b. b.value) c.loop-number.shared.items (c.in_ok-clone.field-0 ∷ [])) in
    subst (λ (bs : List _). HasBranches g.B.Content.number at (take (i + 1) numbers) bs) shared
    (subst (λ (ns : List ℕ). HasBranches g.B.Content.number at ns (map (λ b. b.value) c.loop-number.shared.items ++ c.in_ok-clone.field-0.value ∷ [])) (sym (take_more numbers i 0 (omega arith))) more)
