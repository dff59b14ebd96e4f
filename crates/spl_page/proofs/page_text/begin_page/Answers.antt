use Rattle.std.proofs.Common.{◌≡◌, ◌<◌, length, arith}
use Rattle.spl_page.proofs.PageText.{nothing_behind}
use Rattle.spl_page.proofs.page_text.begin_page.Goals as goal

pub returns-in_ok-resize-clause-entries : goal.returns-in_ok-resize-clause-entries
returns-in_ok-resize-clause-entries c =
    let short : length c.args.out.now.items < 16 = omega (arith, c.args.out.now.ok.0) in
    let len : length c.resize.new.self.items ≡ 16 = omega (arith, c.resize.new.self.ok.0, c.in_ok-resize.ensures.len) in
    nothing_behind c.args.out.now.items c.resize.new.self.items short len
