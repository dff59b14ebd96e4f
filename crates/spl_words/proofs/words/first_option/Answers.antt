use Rattle.std.proofs.Common.{map, string_bytes}
use Rattle.spl_words.proofs.First.{first_apart, first_joined}
use Rattle.spl_words.proofs.words.first_option.Goals as goal

pub returns-in-Some-clause-value : goal.returns-in-Some-clause-value
returns-in-Some-clause-value c = λ verb given.
    first_joined verb given _ _ _ c.parts_of.result.1 c.in-Some.value (map string_bytes c.args.rest.now) c.as_bytes.ensures.value c.parts_of.ensures.name c.parts_of.ensures.value c.in-Some.is

pub returns-in-len1-up-clause-value : goal.returns-in-len1-up-clause-value
returns-in-len1-up-clause-value c = λ verb given.
    first_apart verb given _ _ _ _ c.parts_of.result.1 c.args.rest.now c.next-item.result c.as_bytes.ensures.value c.parts_of.ensures.name c.parts_of.ensures.value c.in-None.is c.in-len1-up.len_at_least c.next-item.is c.as_bytes-in-None.ensures.value
