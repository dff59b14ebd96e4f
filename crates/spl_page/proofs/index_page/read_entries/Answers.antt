use Rattle.std.proofs.Common.{◌≡◌, ◌<◌, Some, length, get_or, refl, sym, ap, subst, ◌∙◌, arith}
use Rattle.std.specs.Prelude.{IsSome}
use Rattle.std.specs.List.{slice_get}
use Rattle.std.proofs.lemmas.List.Elements.{All-get_or}
use Rattle.std.proofs.lemmas.List.Sums.{sum_by_push}
use Rattle.spl_port.specs.Page.{index_row, index_row_length}
use Rattle.spl_page.specs.declared.index_entry.IndexEntry.{IndexEntry}
use Rattle.spl_page.specs.IndexPage.{index_entry_length, index_row_of}
use Rattle.spl_page.specs.Sound.{entries_of}
use Rattle.spl_page.proofs.Lists.{is_there, read_more}
use Rattle.spl_page.proofs.Starts.{count_is, entry_at}
use Rattle.spl_page.proofs.index_page.read_entries.Goals as goal

pub bytes_from-requires : goal.bytes_from-requires
bytes_from-requires c =
    All-get_or (λ start. start < 4096) c.args.starts.now c.loop-start.start-index 0 c.loop-start-test.true c.requires.places.within

pub read_entry-entry-requires : goal.read_entry-entry-requires
read_entry-entry-requires c =
    let starts = c.args.starts.now in
    let rows = entries_of (index_row c.args.page) index_row_length c.args.bytes.now in
    let i = c.loop-start.start-index in
    let within : i < length rows = omega (arith, c.loop-start-test.true, count_is (index_row c.args.page) index_row_length c.args.bytes.now starts c.requires.places) in
    let at = entry_at (index_row c.args.page) index_row_length c.args.bytes.now starts c.requires.places i (get_or starts i 0) 0 within refl in
    subst IsSome (at ∙ ap (index_row c.args.page) (sym c.bytes_from.ensures)) (is_there rows i within)

pub loop-start-preserved : goal.loop-start-preserved
loop-start-preserved c =
    let starts = c.args.starts.now in
    let rows = entries_of (index_row c.args.page) index_row_length c.args.bytes.now in
    let i = c.loop-start.start-index in
    let within : i < length rows = omega (arith, c.loop-start-test.true, count_is (index_row c.args.page) index_row_length c.args.bytes.now starts c.requires.places) in
    let at = entry_at (index_row c.args.page) index_row_length c.args.bytes.now starts c.requires.places i (get_or starts i 0) 0 within refl in
    let entry = c.read_entry-entry.result in
    let here : slice_get rows i ≡ Some (index_row_of entry) = at ∙ ap (index_row c.args.page) (sym c.bytes_from.ensures) ∙ c.read_entry-entry.ensures in
    rw c.in_ok-push.ensures.items (record {
      front = read_more index_row_of rows i c.loop-start.entries.items entry c.loop-start.invariant.front here;
      length = omega (arith, c.loop-start.invariant.length, c.entry_length-end.ensures.value, sum_by_push (λ (e : IndexEntry). index_entry_length e.first) c.loop-start.entries.items entry);
      most = omega (arith, c.loop-start.invariant.most, c.entry_length-end.ensures.short);
    })
