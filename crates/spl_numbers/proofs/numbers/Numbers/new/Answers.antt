use Rattle.std.proofs.Common.{◌≡◌, ℕ, ◌+◌, ◌/◌, replicate, rules, ◌∙◌}
use Rattle.spl_numbers.specs.declared.numbers.TheConstants.{WORDS}
use Rattle.spl_numbers.proofs.BitLemmas.{bit-zeros}
use Rattle.spl_numbers.proofs.LevelLemmas.{AreLevels-new, members_in-none}
use Rattle.spl_numbers.proofs.numbers.Numbers.new.Goals as goal

pub invariant_of-result : goal.invariant_of-result
invariant_of-result c =
    let members : c.in_ok-members.members.items ≡ replicate (c.args.limit / 64 + 1) 0 = search rules in
    let words : c.in_ok-words.words.items ≡ replicate WORDS 0 = search rules in
    let groups : c.in_ok-groups.groups.items ≡ replicate 1 0 = search rules in
    rw (members, words, groups) (AreLevels-new c.args.limit c.requires)

pub returns : goal.returns
returns c =
    let members : c.in_ok-members.members.items ≡ replicate (c.args.limit / 64 + 1) 0 = search rules in
    rw members (members_in-none (replicate (c.args.limit / 64 + 1) 0) c.args.limit (bit-zeros (c.args.limit / 64 + 1)))
