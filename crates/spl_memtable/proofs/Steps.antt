-- A step of an iterator over entries.
use Rattle.std.proofs.Common.{◌≡◌, ℕ, true, false, cond, List, [], ◌∷◌, filter, Option, Some, None, Bor, sym, ap, subst, ◌∙◌}
use Rattle.std.proofs.lemmas.Map.Keys.{sorted_head, sorted_tail}
use Rattle.std.specs.Cmp.Lexicographic.{slice_cmp}
use Rattle.std.specs.Iterator.{YieldsFirstBy}
use Rattle.std.specs.Map.{keys_of}
use Rattle.std.specs.Ordering.{nat_cmp}
use Rattle.spl_message.specs.declared.message.Message.{Message}
use Rattle.spl_message.specs.Entries.{Entries, AreEntries}
use Rattle.spl_message.specs.Span.{is_before}
use Rattle.spl_memtable.proofs.Parts.{none_later}

abbrev pub Read : Type 0
Read = Bor (List ℕ) × Bor Message

abbrev pub read : Read → List ℕ × Message
read entry = (entry.0.now, entry.1.now)

abbrev pub Steps : Entries → Option Read → Entries → Type 0
Steps old result new = YieldsFirstBy {S = Entries} read (λ left. left) old result new

pub yields : (old new : Entries) (result : Option Read) (entry : Read) → result ≡ Some entry → old ≡ read entry ∷ new → Steps old result new
yields old new result entry is step = subst (λ (r : Option Read). Steps old r new) (sym is) step

pub ends : (old new : Entries) (result : Option Read) → result ≡ None → old ≡ [] → new ≡ [] → Steps old result new
ends old new result is old_empty new_empty = subst (λ (r : Option Read). Steps old r new) (sym is) (old_empty, new_empty)

pub rest_in_order : (entry : List ℕ × Message) (rest : Entries) → AreEntries (entry ∷ rest) → AreEntries rest
rest_in_order entry rest order = sorted_tail (slice_cmp nat_cmp) entry.0 (keys_of rest) order

module _ (end : Option (List ℕ)) (entry : List ℕ × Message) (rest : Entries) where
  abbrev others : Entries
  others = filter (λ e. is_before end e.0) rest

  -- the first entry is before the end
  pub first_stays : is_before end entry.0 ≡ true → filter (λ e. is_before end e.0) (entry ∷ rest) ≡ entry ∷ others
  first_stays before = ap (λ b. cond b (entry ∷ others) others) before

  -- where the first entry is not before the end, none is
  pub none_stays : is_before end entry.0 ≡ false → AreEntries (entry ∷ rest) → others ≡ []
  none_stays past order = none_later end entry.0 rest past (sorted_head (slice_cmp nat_cmp) entry.0 (keys_of rest) order)

  pub first_goes : is_before end entry.0 ≡ false → AreEntries (entry ∷ rest) → filter (λ e. is_before end e.0) (entry ∷ rest) ≡ []
  first_goes past order = ap (λ b. cond b (entry ∷ others) others) past ∙ none_stays past order
