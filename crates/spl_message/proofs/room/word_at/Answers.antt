use Rattle.std.proofs.Common.{arith}
use Rattle.spl_message.proofs.Words.{eight, eight_bytes}
use Rattle.spl_message.proofs.room.word_at.Goals as goal

pub returns-clause-bytes : goal.returns-clause-bytes
returns-clause-bytes c = eight_bytes c.args.bytes.now c.args.place (λ i. omega (arith, c.type_inv.bytes i))

pub returns-clause-value : goal.returns-clause-value
returns-clause-value c =
    let first = rw c.unwrap-word.ensures at c.first_chunk.ensures.cases in
    eight c.args.bytes.now c.args.place c.unwrap-word.result.now c.from_be_bytes.result c.requires first c.from_be_bytes.ensures
