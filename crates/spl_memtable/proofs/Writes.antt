-- A message is put at a key.
use Rattle.std.proofs.Common.{◌≡◌, ◌≢◌, ℕ, ◌+◌, false, List, [], ◌∷◌, ◌++◌, length, add-zero, Option, Some, None, IsSome, Result, Ok, Err, OnErr, option_to_list, Ordering, refl, ap, sym, ◌∙◌}
use Rattle.std.specs.Prelude.{is_some, if◌then◌else◌}
use Rattle.std.proofs.lemmas.Map.Steps.{set_value_same}
use Rattle.std.proofs.lemmas.Map.Lookups.{exact_bytes}
use Rattle.std.specs.BTreeMap.{BTreeMap, Updates, WritesThrough, IsOrdered, is_at}
use Rattle.std.specs.Cmp.Lexicographic.{slice_cmp}
use Rattle.std.specs.declared.cmp.Ordering.TheVariants.{Less, Equal, Greater}
use Rattle.std.specs.Ordering.{nat_cmp, is_eq}
use Rattle.spl_message.specs.declared.message.Message.{Message}
use Rattle.spl_message.specs.Message.{combine, combine_all}
use Rattle.spl_message.specs.Rule.{Rule}
use Rattle.spl_message.specs.Entries.{message_in}
use Rattle.spl_message.specs.Table.{as_table}
use Rattle.spl_memtable.specs.Memtable.{Puts}

apart : (key other : List ℕ) → other ≢ key → (o : Ordering) → slice_cmp nat_cmp key other ≡ o → is_eq o ≡ false
apart key other unequal Less is = refl
apart key other unequal Equal is = absurd (unequal (sym (exact_bytes key other is)))
apart key other unequal Greater is = refl

-- the map's put is the table's, where what is put is the combination
pub puts : (rule : Rule) (old new : BTreeMap (List ℕ) Message) (key : List ℕ) (message both : Message) → Updates (slice_cmp nat_cmp) old new key (Some both) → IsOrdered (slice_cmp nat_cmp) new
    → combine_all rule key (option_to_list (message_in old.entries key) ++ message ∷ []) ≡ Some both
    → length new.entries ≡ length old.entries + (if is_some (message_in old.entries key) then 0 else 1)
    → Puts rule (as_table old.entries) (as_table new.entries) key message
puts rule old new key message both updates ordered combined count = record {
  order = ordered;
  this_key = updates.1 ∙ sym combined;
  other_keys = λ other unequal. updates.2 other (apart key other unequal (slice_cmp nat_cmp key other) refl);
  keys = count;
}

-- a message that is combined with one that is there is written in its place
pub puts_over : (rule : Rule) (old new : BTreeMap (List ℕ) Message) (key : List ℕ) (older message both : Message) → Some older ≡ message_in old.entries key → both ≡ combine rule key older message
    → WritesThrough (slice_cmp nat_cmp) (slice_cmp nat_cmp key) old both new → Puts rule (as_table old.entries) (as_table new.entries) key message
puts_over rule old new key older message both present is writes =
    let there : IsSome (message_in old.entries key) = ap is_some (sym present) in
    puts rule old new key message both (writes.3 there) writes.4
    (ap (λ (o : Option Message). combine_all rule key (option_to_list o ++ message ∷ [])) (sym present) ∙ ap Some (sym is))
    (writes.2 ∙ sym (ap (λ (o : Option Message). length old.entries + (if is_some o then 0 else 1)) (sym present) ∙ add-zero (length old.entries)))

-- a message of a new key is put in as it is
pub puts_new : (rule : Rule) (old new : BTreeMap (List ℕ) Message) (key : List ℕ) (message : Message) → None ≡ message_in old.entries key → Updates (slice_cmp nat_cmp) old new key (Some message)
    → IsOrdered (slice_cmp nat_cmp) new → length new.entries ≡ length old.entries + (if is_some (message_in old.entries key) then 0 else 1) → Puts rule (as_table old.entries) (as_table new.entries) key message
puts_new rule old new key message missing updates ordered count =
    puts rule old new key message message updates ordered (ap (λ (o : Option Message). combine_all rule key (option_to_list o ++ message ∷ [])) (sym missing)) count

-- what is written back as it was leaves the entries
pub unwritten : (old new : BTreeMap (List ℕ) Message) (key : List ℕ) (older : Message) → Some older ≡ message_in old.entries key
    → WritesThrough (slice_cmp nat_cmp) (slice_cmp nat_cmp key) old older new → new.entries ≡ old.entries
unwritten old new key older present writes = writes.0 ∙ set_value_same (is_at (slice_cmp nat_cmp key)) old.entries older (sym present)

pub at_err : {T E : Type 0} (r : Result T E) (P : Type 0) → P → OnErr r P
at_err (Ok value) P p = tt
at_err (Err error) P p = p
