use Rattle.std.proofs.Common.{◌≡◌, ◌^◌, ◌<◌, [], ◌++◌, length, refl, arith}
use Rattle.std.proofs.lemmas.List.{append-nil}
use Rattle.std.proofs.lemmas.Result.{on_ok_weaker}
use Rattle.spl_port.specs.Page.{IndexRow}
use Rattle.spl_page.specs.IndexPage.{index_head}
use Rattle.spl_page.proofs.IndexText.{children_push, is_next, text_is}
use Rattle.spl_page.proofs.index_writer.push_child.Goals as goal

pub push-requires : goal.push-requires
push-requires c =
    let row : IndexRow = record { child = c.args.child; key = c.args.first.now } in
    let text = c.entry_head.result ++ (c.bytes-key.result.now ++ []) in
    let same : text ≡ index_head row.child (length row.key) ++ row.key =
    rw (append-nil c.bytes-key.result.now, c.entry_head.ensures, c.bytes-key.ensures.value) refl in
    let below : c.args.child < 2 ^ 32 = omega (arith, c.ranges.child) in
    is_next c.args.page.now row text c.bytes-key.ensures.is_key below same c.requires.rising c.requires.fits

pub returns-clause-ok : goal.returns-clause-ok
returns-clause-ok c =
    let row : IndexRow = record { child = c.args.child; key = c.args.first.now } in
    let text = c.entry_head.result ++ (c.bytes-key.result.now ++ []) in
    let same : text ≡ index_head row.child (length row.key) ++ row.key =
    rw (append-nil c.bytes-key.result.now, c.entry_head.ensures, c.bytes-key.ensures.value) refl in
    let below : c.args.child < 2 ^ 32 = omega (arith, c.ranges.child) in
    on_ok_weaker c.push.result (λ put. children_push c.args.page.now c.push.new.self row (put row (text_is row text c.bytes-key.ensures.is_key same) below)) c.push.ensures.entries
