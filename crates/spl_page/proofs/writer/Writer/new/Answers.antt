use Rattle.std.proofs.Common.{List, [], ℕ, drop, sym, ap, subst}
use Rattle.spl_page.specs.Writer.{IsWritten}
use Rattle.spl_page.proofs.Writing.{none_written}
use Rattle.spl_page.proofs.writer.Writer.new.Goals as goal

pub invariant_of-result : goal.invariant_of-result
invariant_of-result g c =
    let F = g.F.Form in
    subst (λ (text : List ℕ). IsWritten F.entry F.entry_length F.entry_key F.size F.IsAt [] (record { count = 0; text = text })) (sym (ap (drop 16) c.new.ensures.items))
    (none_written F.entry F.entry_length F.entry_key F.size F.IsAt)
