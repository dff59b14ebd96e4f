-- The zero is the first one of the room behind the bytes.
use Rattle.std.proofs.Common.{◌∷◌, [], ◌++◌, ◌∙◌, ap, arith, length}
use Rattle.spl_message.proofs.Bounds.{least_above, padded_more}
use Rattle.spl_message.proofs.bound.Bound.after.Goals as goal

pub returns-clause-least : goal.returns-clause-least
returns-clause-least c =
    let key = c.bytes-bytes.ensures.value in
    least_above c.args.key.now _ (padded_more 65 c.bytes-bytes.result.now c.room_of-after.result (omega (arith, ap length key, c.bytes-bytes.ensures.is_key.1)) c.room_of-after.ensures ∙ ap (λ bytes. bytes ++ 0 ∷ []) key)
