-- Behind the bytes stand the zeros that the room began with.
use Rattle.std.proofs.Common.{◌++◌, ap, length}
use Rattle.std.proofs.lemmas.List.{drop-replicate}
use Rattle.spl_message.proofs.room.room_of.Goals as goal

pub returns : goal.returns
returns g c = rw c.copy_from_slice.ensures.after (ap (λ rest. c.args.bytes.now ++ rest) (drop-replicate (length c.args.bytes.now) g.row.N 0))
