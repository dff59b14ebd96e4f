use Rattle.std.proofs.Common.{map, sym, ap, ◌∙◌}
use Rattle.std.proofs.lemmas.List.{length-map}
use Rattle.spl_streams.specs.Merging.{merging_of}
use Rattle.spl_streams.proofs.Starting.{fresh_merging}
use Rattle.spl_streams.proofs.merged.Merged.new.Goals as goal

pub returns : goal.returns
returns g c =
    let branches = map (λ branch. branch.value) c.args.branches.now in
    ap merging_of c.in_ok-streams.ensures
    ∙ fresh_merging c.args.span.now c.args.bottom branches _ (sym (length-map c.args.branches.now (λ branch. branch.value)))
