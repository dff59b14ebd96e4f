use Rattle.std.proofs.Common.{◌++◌, List, ℕ, drop, ap, ◌∙◌}
use Rattle.std.proofs.lemmas.List.{drop-append-le}
use Rattle.std.proofs.lemmas.Result.{on_ok_weaker}
use Rattle.spl_page.proofs.page_text.append_entry.Goals as goal

pub returns-clause-ok : goal.returns-clause-ok
returns-clause-ok c =
    let text = c.args.head.now ++ (c.args.key.now ++ c.args.value.now) in
    on_ok_weaker c.append.result
    (λ is.
    ap (drop 16) is
    ∙ drop-append-le 16 c.begin_page.new.out.items text c.in_ok-begin_page.ensures.ok
    ∙ ap (λ (t : List ℕ). t ++ text) c.begin_page.ensures.entries)
    c.append.ensures.ok
