use Rattle.std.proofs.Common.{◌≡◌, ℕ, List, rules, ap, Some, length, get_or, refl, subst, sym, ◌∙◌}
use Rattle.std.proofs.lemmas.Fn.{always_returns_same}
use Rattle.std.proofs.lemmas.Option.{slice_get_read}
use Rattle.spl_message.specs.declared.message.Message.{Message}
use Rattle.spl_memtable.proofs.Searches.{rank, found, missing}
use Rattle.spl_memtable.proofs.slice.found.Goals as goal

pub returns-in-Ok : goal.returns-in-Ok
returns-in-Ok c =
    let entries = c.args.entries.now in
    let key = c.args.key.now in
    let entry = c.index-entries-place.result in
    let same = c.in-Ok.ensures.position (rank key) (always_returns_same _ _ _ (λ a r f called. search rules)) in
    let read : entry ≡ get_or entries c.in-Ok.place entry = c.index-entries-place.is in
    let is = slice_get_read entries (length entries) c.in-Ok.place entry refl c.in-Ok.ensures.bound read in
    let tied = subst (λ e. rank key e ≡ rank key entry) read refl in
    ap (λ (e : List ℕ × Message). Some e.1) (sym read) ∙ sym (found entries c.requires key c.in-Ok.place entry is (sym tied ∙ same entry))

pub returns-in-Err : goal.returns-in-Err
returns-in-Err c =
    let parted = c.in-Err.ensures.position (rank c.args.key.now) (always_returns_same _ _ _ (λ a r f called. search rules)) in
    sym (missing c.args.entries.now c.requires c.args.key.now c.in-Err.field-0 parted)
