use Rattle.std.proofs.Common.{rules, ◌≡◌, ◌≢◌}
use Rattle.spl_refs.specs.Refs.{count_at}
use Rattle.spl_state.proofs.LettingGo.{stands_named, kept_accounted, freed_accounted}
use Rattle.spl_state.proofs.names.let_go.Goals as goal

pub returns-in-Some-clause-accounted : goal.returns-in-Some-clause-accounted
returns-in-Some-clause-accounted g c = λ rest accounted.
    let one : count_at c.args.refs.now c.args.number ≡ 1 = search rules in
    freed_accounted _ c.args.number rest _ _ _ _ accounted c.let_go.ensures.cell c.let_go.ensures.counts c.let_go.ensures.branches one c.release_all.ensures

pub returns-in_default-clause-accounted : goal.returns-in_default-clause-accounted
returns-in_default-clause-accounted g c = λ rest accounted.
    let more : count_at c.args.refs.now c.args.number ≢ 1 = search rules in
    kept_accounted _ c.args.number rest _ _ _ c.args.pool.now accounted c.let_go.ensures.cell c.let_go.ensures.counts c.let_go.ensures.branches more
