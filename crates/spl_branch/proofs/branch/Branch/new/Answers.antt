use Rattle.std.proofs.Common.{◌-◌, arith, refl}
use Rattle.spl_branch.specs.Branch.{shown}
use Rattle.spl_branch.proofs.PartPages.{Counted, counted, seals_within}
use Rattle.spl_branch.proofs.branch.Branch.new.Given.{Over}
use Rattle.spl_branch.proofs.branch.Branch.new.Goals as goal
use Rattle.spl_branch.proofs.branch.Branch.new.Goals.{After-pages}

the_count : (g : Over) (c : After-pages g) → Counted (shown g.S.Seal.means c.args.parts) (c.len-full.result - 1) c.pages.result
the_count g c =
    counted g.S.Seal.means (shown g.S.Seal.means c.args.parts) c.args.parts.seals.items (c.len-full.result - 1) c.pages.result c.index.result.now
    c.requires refl (omega (arith, c.len-full.ensures, c.args.parts.seals.ok.0)) c.index.ensures c.pages.ensures

pub overflow_cast-pages : goal.overflow_cast-pages
overflow_cast-pages g c =
    let within = seals_within g.S.Seal.means (shown g.S.Seal.means c.args.parts) c.args.parts.seals.items c.requires refl in
    omega (arith, within, c.args.parts.seals.ok.0)

pub overflow_mul-pages : goal.overflow_mul-pages
overflow_mul-pages g c =
    let within = seals_within g.S.Seal.means (shown g.S.Seal.means c.args.parts) c.args.parts.seals.items c.requires refl in
    omega (arith, within, c.args.parts.seals.ok.0)

pub overflow_add-pages : goal.overflow_add-pages
overflow_add-pages g c = omega (arith, (the_count g c).most)

pub invariant_of-result : goal.invariant_of-result
invariant_of-result g c = (c.requires, (the_count g c).total)
