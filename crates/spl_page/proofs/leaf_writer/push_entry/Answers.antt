use Rattle.std.proofs.Common.{◌≡◌, ◌++◌, refl}
use Rattle.std.proofs.lemmas.Result.{on_ok_weaker}
use Rattle.spl_page.specs.Lent.{message_lent}
use Rattle.spl_page.proofs.LeafText.{is_next, row_of, text_is, text_of}
use Rattle.spl_page.proofs.leaf_writer.push_entry.Goals as goal

pub push-requires : goal.push-requires
push-requires c =
    let message = message_lent c.args.message in
    let text = c.entry_head-head.result ++ (c.bytes-key.result.now ++ c.value_bytes-value.result.now) in
    let same : text ≡ text_of c.args.key.now message =
    rw (c.entry_head-head.ensures, c.bytes-key.ensures.value, c.kind_number.ensures, c.value_bytes-value.ensures.value) refl in
    let short = rw c.value_bytes-value.ensures.value at c.value_bytes-value.ensures.short in
    is_next c.args.page.now c.args.key.now message text c.bytes-key.ensures.is_key short same c.requires.rising c.requires.fits

pub returns-clause-ok : goal.returns-clause-ok
returns-clause-ok c =
    let message = message_lent c.args.message in
    let text = c.entry_head-head.result ++ (c.bytes-key.result.now ++ c.value_bytes-value.result.now) in
    let same : text ≡ text_of c.args.key.now message =
    rw (c.entry_head-head.ensures, c.bytes-key.ensures.value, c.kind_number.ensures, c.value_bytes-value.ensures.value) refl in
    let short = rw c.value_bytes-value.ensures.value at c.value_bytes-value.ensures.short in
    on_ok_weaker c.push.result (λ put. put (row_of c.args.key.now message) (text_is c.args.key.now message text c.bytes-key.ensures.is_key short same) tt) c.push.ensures.entries
