use Rattle.std.proofs.Common.{◌∙◌, ap, sym, arith, subst, false}
use Rattle.std.proofs.lemmas.List.{get_or_past}
use Rattle.std.proofs.lemmas.Bool.Decides.{nat_tests}
use Rattle.spl_numbers.specs.Numbers.{has}
use Rattle.spl_numbers.specs.Levels.{members_in}
use Rattle.spl_numbers.specs.Bits.{bit}
use Rattle.spl_numbers.proofs.LevelLemmas.{has-members_in, length-members_in}
use Rattle.spl_numbers.proofs.numbers.Numbers.has.Goals as goal

pub returns-then-number-self : goal.returns-then-number-self
returns-then-number-self c =
    rw (← c.self.view_is) (c.has_bit.ensures ∙ ap (λ words. bit words c.args.number) c.deref.ensures.value ∙ sym (has-members_in _ _ _ _ _ c.args.number c.self.invariant))

pub returns-else-number-self : goal.returns-else-number-self
returns-else-number-self c =
    rw (← c.self.view_is, get_or_past (members_in c.self.inside.members.items c.self.inside.limit) c.args.number false (omega (arith, length-members_in c.self.inside.members.items c.self.inside.limit))) (grind (arith, nat_tests))
