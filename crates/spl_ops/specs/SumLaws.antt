-- Two sums in turn are one sum.
use Rattle.std.proofs.Common.{◌≡◌, ℕ, ◌^◌, ◌<◌, List, ap, ◌∙◌, sym, arith}
use Rattle.std.specs.Fmt.{decimal}
use Rattle.spl_message.specs.Cell.{IsValue}
use Rattle.spl_ops.specs.Numbers.{number_of}
use Rattle.spl_ops.specs.Sums.{added, capped_sum}
use Rattle.spl_ops.specs.Digits.{number_of-decimal, decimal_is_value}

added_small : (a b : ℕ) → added a b < 2 ^ 64
added_small a b = omega arith

added_again : (a b c : ℕ) → added (added a b) c ≡ added a (added b c)
added_again a b c = omega arith

pub added_agrees : (a : ℕ) (older newer : List ℕ) →
    decimal (added (number_of (decimal (added a (number_of older)))) (number_of newer))
    ≡ decimal (added a (number_of (decimal (added (number_of older) (number_of newer)))))
added_agrees a older newer =
    let b = number_of older in
    let c = number_of newer in
    ap decimal
    (ap (λ n. added n c) (number_of-decimal (added a b) (added_small a b))
    ∙ added_again a b c
    ∙ ap (λ n. added a n) (sym (number_of-decimal (added b c) (added_small b c))))

pub added_is_value : (a : ℕ) (operand : List ℕ) → IsValue (decimal (added a (number_of operand)))
added_is_value a operand = decimal_is_value _ (added_small a (number_of operand))

capped_small : (cap a b : ℕ) → capped_sum cap a b < 2 ^ 64
capped_small cap a b = omega arith

capped_again : (cap a b c : ℕ) → capped_sum cap (capped_sum cap a b) c ≡ capped_sum cap a (capped_sum cap b c)
capped_again cap a b c = omega arith

pub capped_agrees : (cap a : ℕ) (older newer : List ℕ) →
    decimal (capped_sum cap (number_of (decimal (capped_sum cap a (number_of older)))) (number_of newer))
    ≡ decimal (capped_sum cap a (number_of (decimal (capped_sum cap (number_of older) (number_of newer)))))
capped_agrees cap a older newer =
    let b = number_of older in
    let c = number_of newer in
    ap decimal
    (ap (λ n. capped_sum cap n c) (number_of-decimal (capped_sum cap a b) (capped_small cap a b))
    ∙ capped_again cap a b c
    ∙ ap (λ n. capped_sum cap a n) (sym (number_of-decimal (capped_sum cap b c) (capped_small cap b c))))

pub capped_is_value : (cap a : ℕ) (operand : List ℕ) →
    IsValue (decimal (capped_sum cap a (number_of operand)))
capped_is_value cap a operand = decimal_is_value _ (capped_small cap a (number_of operand))
