use Rattle.std.proofs.Common.{ap, ◌∙◌}
use Rattle.std.specs.Cmp.Lexicographic.{slice_cmp}
use Rattle.std.specs.Ordering.{nat_cmp, ordering_then}
use Rattle.spl_message.proofs.Words.{rooms}
use Rattle.spl_message.proofs.room.compare.Goals as goal

pub returns : goal.returns
returns g c =
    c.then.ensures
    ∙ ap (λ o. ordering_then o c.cmp.result) c.compare_bytes.ensures
    ∙ ap (λ o. ordering_then (slice_cmp nat_cmp c.args.room.now c.args.other.now) o) c.cmp.ensures
    ∙ rooms g.row.N c.args.room.now c.args.other.now c.args.len c.args.other_len c.requires.room c.requires.other
