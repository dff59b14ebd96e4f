use Rattle.std.proofs.Common.{◌-◌, ◌<◌, ◌++◌, List, [], ℕ, length, drop, sym, ap, subst, ◌∙◌, arith}
use Rattle.std.specs.Prelude.{All, replicate, slice_index, vec_len}
use Rattle.std.proofs.lemmas.List.{length-drop}
use Rattle.spl_page.specs.Frame.{head_text}
use Rattle.spl_page.specs.Writer.{IsConsistent, IsWritten, Written, rows_written}
use Rattle.spl_page.proofs.Writing.{none_written, page_entries, page_sound}
use Rattle.spl_page.proofs.writer.Writer.finish.Goals as goal

pub finish_page-requires-clause-begun : goal.finish_page-requires-clause-begun
finish_page-requires-clause-begun g c =
    let F = g.F.Form in
    let some = subst (λ (w : Written). 0 < length (rows_written F.entry F.entry_length w)) (sym c.self.view_is) c.requires.some in
    omega (arith, some, c.self.invariant.counted, c.self.invariant.least, length-drop 16 c.self.inside.bytes.items)

pub finish_page-requires-clause-fits : goal.finish_page-requires-clause-fits
finish_page-requires-clause-fits g c = omega (arith, c.self.invariant.fits, length-drop 16 c.self.inside.bytes.items)

pub invariant_of-self-2 : goal.invariant_of-self-2
invariant_of-self-2 g c =
    let F = g.F.Form in
    subst (λ (text : List ℕ). IsWritten F.entry F.entry_length F.entry_key F.size F.IsAt [] (record { count = 0; text = text })) (sym (ap (drop 16) c.in_ok-page.ensures.ok))
    (none_written F.entry F.entry_length F.entry_key F.size F.IsAt)

pub returns-clause-page : goal.returns-clause-page
returns-clause-page g c =
    let F = g.F.Form in
    let bytes = c.self.inside.bytes in
    let old : Written = record { count = c.self.inside.count; text = drop 16 bytes.items } in
    let body = drop 16 bytes.items ++ replicate (4096 - vec_len bytes) 0 in
    let text = c.in_ok-page.ensures.page ∙ ap (λ (t : List ℕ). t ++ body) (c.write_head-head.ensures.bytes ∙ ap (λ (k : ℕ). head_text k c.self.inside.count c.args.at) c.KIND.ensures) in
    let places = subst (λ (w : Written). All (F.IsAt c.args.at.page) (rows_written F.entry F.entry_length w)) (sym c.self.view_is) c.requires.places in
    let some = subst (λ (w : Written). 0 < length (rows_written F.entry F.entry_length w)) (sym c.self.view_is) c.requires.some in
    page_sound F.entry F.entry_length F.entry_key F.size F.IsAt F.KIND (rows_written F.entry F.entry_length old) old c.args.at (4096 - vec_len bytes) c.in_ok-page.page c.self.invariant
    c.write_head-head.ensures.page c.write_head-head.ensures.branch some places text

pub returns-clause-entries : goal.returns-clause-entries
returns-clause-entries g c =
    let F = g.F.Form in
    let bytes = c.self.inside.bytes in
    let old : Written = record { count = c.self.inside.count; text = drop 16 bytes.items } in
    let body = drop 16 bytes.items ++ replicate (4096 - vec_len bytes) 0 in
    let text = c.in_ok-page.ensures.page ∙ ap (λ (t : List ℕ). t ++ body) (c.write_head-head.ensures.bytes ∙ ap (λ (k : ℕ). head_text k c.self.inside.count c.args.at) c.KIND.ensures) in
    let places = subst (λ (w : Written). All (F.IsAt c.args.at.page) (rows_written F.entry F.entry_length w)) (sym c.self.view_is) c.requires.places in
    page_entries F.entry F.entry_length F.entry_key F.size F.IsAt F.KIND (rows_written F.entry F.entry_length old) old c.args.at (4096 - vec_len bytes) c.in_ok-page.page c.self.invariant
    c.write_head-head.ensures.page places text
    ∙ ap (rows_written F.entry F.entry_length) c.self.view_is

pub returns-clause-kind : goal.returns-clause-kind
returns-clause-kind g c =
    let F = g.F.Form in
    let bytes = c.self.inside.bytes in
    let old : Written = record { count = c.self.inside.count; text = drop 16 bytes.items } in
    let body = drop 16 bytes.items ++ replicate (4096 - vec_len bytes) 0 in
    let text = c.in_ok-page.ensures.page ∙ ap (λ (t : List ℕ). t ++ body) (c.write_head-head.ensures.bytes ∙ ap (λ (k : ℕ). head_text k c.self.inside.count c.args.at) c.KIND.ensures) in
    ap (λ (b : List ℕ). slice_index b 0) text

pub returns-clause-counted : goal.returns-clause-counted
returns-clause-counted g c =
    let F = g.F.Form in
    (subst (IsConsistent F.entry F.entry_length F.entry_key F.size F.IsAt) c.self.view_is c.self.invariant).counted

pub returns-clause-most : goal.returns-clause-most
returns-clause-most g c =
    let F = g.F.Form in
    let is = subst (IsConsistent F.entry F.entry_length F.entry_key F.size F.IsAt) c.self.view_is c.self.invariant in
    omega (arith, is.least, is.fits)

pub returns-in_err-page-clause-counted : goal.returns-in_err-page-clause-counted
returns-in_err-page-clause-counted g c =
    let F = g.F.Form in
    (subst (IsConsistent F.entry F.entry_length F.entry_key F.size F.IsAt) c.self.view_is c.self.invariant).counted

pub returns-in_err-page-clause-most : goal.returns-in_err-page-clause-most
returns-in_err-page-clause-most g c =
    let F = g.F.Form in
    let is = subst (IsConsistent F.entry F.entry_length F.entry_key F.size F.IsAt) c.self.view_is c.self.invariant in
    omega (arith, is.least, is.fits)
