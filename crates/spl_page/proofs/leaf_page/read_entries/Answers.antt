use Rattle.std.proofs.Common.{◌≡◌, ◌<◌, Some, length, get_or, refl, sym, ap, subst, ◌∙◌, arith}
use Rattle.std.specs.Prelude.{IsSome}
use Rattle.std.specs.List.{slice_get}
use Rattle.std.proofs.lemmas.List.Elements.{All-get_or}
use Rattle.std.proofs.lemmas.List.Sums.{sum_by_push}
use Rattle.spl_port.specs.Page.{leaf_row, leaf_row_length}
use Rattle.spl_page.specs.declared.leaf_entry.LeafEntry.{LeafEntry}
use Rattle.spl_page.specs.LeafPage.{leaf_entry_length, leaf_row_of}
use Rattle.spl_page.specs.Sound.{entries_of}
use Rattle.spl_page.proofs.Lists.{is_there, read_more}
use Rattle.spl_page.proofs.Starts.{count_is, entry_at}
use Rattle.spl_page.proofs.leaf_page.read_entries.Goals as goal

pub bytes_from-requires : goal.bytes_from-requires
bytes_from-requires c =
    All-get_or (λ start. start < 4096) c.args.starts.now c.loop-start.start-index 0 c.loop-start-test.true c.requires.places.within

pub read_entry-requires : goal.read_entry-requires
read_entry-requires c =
    let starts = c.args.starts.now in
    let rows = entries_of leaf_row leaf_row_length c.args.bytes.now in
    let i = c.loop-start.start-index in
    let within : i < length rows = omega (arith, c.loop-start-test.true, count_is leaf_row leaf_row_length c.args.bytes.now starts c.requires.places) in
    let at = entry_at leaf_row leaf_row_length c.args.bytes.now starts c.requires.places i (get_or starts i 0) 0 within refl in
    subst IsSome (at ∙ ap leaf_row (sym c.bytes_from.ensures)) (is_there rows i within)

pub loop-start-preserved : goal.loop-start-preserved
loop-start-preserved c =
    let starts = c.args.starts.now in
    let rows = entries_of leaf_row leaf_row_length c.args.bytes.now in
    let i = c.loop-start.start-index in
    let within : i < length rows = omega (arith, c.loop-start-test.true, count_is leaf_row leaf_row_length c.args.bytes.now starts c.requires.places) in
    let at = entry_at leaf_row leaf_row_length c.args.bytes.now starts c.requires.places i (get_or starts i 0) 0 within refl in
    let entry = c.in_ok-entry.entry in
    let here : slice_get rows i ≡ Some (leaf_row_of entry) = at ∙ ap leaf_row (sym c.bytes_from.ensures) ∙ c.in_ok-entry.ensures in
    rw c.in_ok-push.ensures.items (record {
      front = read_more leaf_row_of rows i c.loop-start.entries.items entry c.loop-start.invariant.front here;
      length = omega (arith, c.loop-start.invariant.length, c.entry_length-end.ensures.value, ap (leaf_entry_length entry.key) c.of.ensures, sum_by_push (λ (e : LeafEntry). leaf_entry_length e.key e.message) c.loop-start.entries.items entry);
      most = omega (arith, c.loop-start.invariant.most, c.entry_length-end.ensures.short);
    })
