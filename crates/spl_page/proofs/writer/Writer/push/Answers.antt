use Rattle.std.proofs.Common.{◌+◌, ◌++◌, [], ◌∷◌, List, ℕ, drop, sym, ap, subst, ◌∙◌, arith}
use Rattle.spl_page.specs.Writer.{IsConsistent, IsNext, Written, rows_written}
use Rattle.spl_page.proofs.Writing.{reads_next, writes_next}
use Rattle.spl_page.proofs.writer.Writer.push.Goals as goal

pub append_entry-requires : goal.append_entry-requires
append_entry-requires g c = omega (arith, c.requires.is.sized, c.requires.fits)

pub invariant_of-self-2 : goal.invariant_of-self-2
invariant_of-self-2 g c =
    let F = g.F.Form in
    let old : Written = record { count = c.self.inside.count; text = drop 16 c.self.inside.bytes.items } in
    let text = c.args.head.now ++ (c.args.key.now ++ c.args.value.now) in
    let next = subst (λ (w : Written). IsNext F.entry F.entry_length F.entry_key F.size F.IsAt w text) (sym c.self.view_is) c.requires in
    subst (λ (t : List ℕ). IsConsistent F.entry F.entry_length F.entry_key F.size F.IsAt (record { count = c.self.inside.count + 1; text = t })) (sym c.in_ok-append_entry.ensures.ok)
    (writes_next F.entry F.entry_length F.entry_key F.size F.IsAt old text c.self.invariant next)

pub returns-clause-entries : goal.returns-clause-entries
returns-clause-entries g c =
    let F = g.F.Form in
    let old : Written = record { count = c.self.inside.count; text = drop 16 c.self.inside.bytes.items } in
    let text = c.args.head.now ++ (c.args.key.now ++ c.args.value.now) in
    let next = subst (λ (w : Written). IsNext F.entry F.entry_length F.entry_key F.size F.IsAt w text) (sym c.self.view_is) c.requires in
    λ entry one anywhere.
    ap (λ (t : List ℕ). rows_written F.entry F.entry_length (record { count = c.self.inside.count + 1; text = t })) c.in_ok-append_entry.ensures.ok
    ∙ reads_next F.entry F.entry_length F.entry_key F.size F.IsAt old text entry c.self.invariant next one anywhere
    ∙ ap (λ (w : Written). rows_written F.entry F.entry_length w ++ entry ∷ []) c.self.view_is
