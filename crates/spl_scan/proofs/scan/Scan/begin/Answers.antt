use Rattle.std.proofs.Common.{◌≡◌, ◌≤◌, ◌+◌, ◌-◌, cond, ap, sym, subst, arith}
use Rattle.spl_branch.specs.Pages.{page_total}
use Rattle.spl_scan.specs.Scan.{Scan, unread}
use Rattle.spl_scan.proofs.scan.Scan.begin.Goals as goal

pub returns-clause-once : goal.returns-clause-once
returns-clause-once g c =
    let s = c.self.inside in
    let total = page_total s.branch.value.parts in
    let fresh : s.pages ≡ 0 = (c.self.invariant.1.fresh c.if-self.false).1 in
    let rest : cond s.begun 0 total ≡ total = ap (λ b. cond b 0 total) c.if-self.false in
    let same : page_total c.args.self.now.branch.parts ≡ total =
    ap (λ (scan : Scan). page_total scan.branch.parts) (sym c.self.view_is) in
    let most = c.start.ensures.most in
    subst (λ (scan : Scan). (g.P.Port.counts c.start.new.port).reads +
    (s.branch.value.leaves - c.in_ok-self-inside.field-0 + 0) ≤ (g.P.Port.counts c.args.port.now).reads +
    unread scan) c.self.view_is
    (omega (arith, fresh, rest, same, most))
