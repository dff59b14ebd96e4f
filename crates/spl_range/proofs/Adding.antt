-- One message for those of a key in several tables, of which the older ones come under the newer ones.
use Rattle.std.proofs.Common.{◌≡◌, ◌≢◌, ℕ, suc, ◌≤◌, Bool, true, false, cond, ◌&&◌, List, [], ◌∷◌, ◌++◌, Option, Some, None, option_to_list, Ordering, length, map, get_or, drop, refl, sym, ap, subst, ◌∙◌, append_assoc, arith}
use Rattle.std.proofs.Math.Seq.{drop-cons}
use Rattle.std.proofs.lemmas.Bool.{false≢true}
use Rattle.std.proofs.lemmas.Cmp.{nat_list_cmp_total, tied_itself}
use Rattle.std.proofs.lemmas.List.Sums.{fold-append}
use Rattle.std.proofs.lemmas.Map.Keys.{sorted_head, sorted_tail}
use Rattle.std.proofs.lemmas.Map.Lookups.{exact_bytes}
use Rattle.std.specs.BTreeMap.{BTreeMap, Updates, is_at}
use Rattle.std.specs.Cmp.Lexicographic.{slice_cmp}
use Rattle.std.specs.declared.cmp.Ordering.TheVariants.{Less, Equal, Greater}
use Rattle.std.specs.List.{AllByRecursion}
use Rattle.std.specs.Map.{keys_of}
use Rattle.std.specs.Ordering.{nat_cmp, is_eq}
use Rattle.spl_message.specs.declared.message.Message.{Message}
use Rattle.spl_message.specs.declared.span.Span.{Span}
use Rattle.spl_message.specs.Cell.{Cell}
use Rattle.spl_message.specs.Entries.{Entries, AreEntries, message_in}
use Rattle.spl_message.specs.Message.{act, act_all, combine}
use Rattle.spl_message.specs.Rule.{Rule}
use Rattle.spl_message.specs.Span.{in_span}
use Rattle.spl_message.specs.Table.{Table, chain, message_at}
use Rattle.spl_message.proofs.Messages.{act-combine}
use Rattle.spl_message.proofs.Tables.{message_at-part_of}
use Rattle.spl_branch.specs.Branch.{Branch, entries_in, table_of}
use Rattle.spl_memtable.proofs.Parts.{AreEntries-filter}
use Rattle.spl_merge.specs.Merger.{IsAbove}
use Rattle.spl_scan.specs.Scan.{left_of}
use Rattle.spl_scan.specs.Search.{is_after, is_next}
use Rattle.spl_streams.specs.Streams.{fresh_scan}
use Rattle.spl_streams.proofs.Starting.{all_to_come}
use Rattle.spl_range.specs.Adding.{AddsAt, AddsUnder, ComeTo, Folds, PutsUnder, under}

pub apart : (key other : List ℕ) → other ≢ key → (o : Ordering) → slice_cmp nat_cmp key other ≡ o → is_eq o ≡ false
apart key other unequal Less is = refl
apart key other unequal Equal is = absurd (unequal (sym (exact_bytes key other is)))
apart key other unequal Greater is = refl

pub here : (key : List ℕ) → is_at (slice_cmp nat_cmp key) key ≡ true
here key = ap is_eq (tied_itself nat_list_cmp_total key)

-- a key below all keys of some entries is not among them
above_missing : (key : List ℕ) (rest : Entries) → AllByRecursion (λ k. slice_cmp nat_cmp key k ≡ Less) (keys_of rest) → message_in rest key ≡ None
above_missing key [] above = refl
above_missing key (entry ∷ rest) above = ap (λ b. cond b (Some entry.1) (message_in rest key)) (ap is_eq above.0) ∙ above_missing key rest above.1

pub first_missing : (entry : List ℕ × Message) (rest : Entries) → AreEntries (entry ∷ rest) → message_in rest entry.0 ≡ None
first_missing entry rest order = above_missing entry.0 rest (sorted_head (slice_cmp nat_cmp) entry.0 (keys_of rest) order)

pub rest_in_order : (entry : List ℕ × Message) (rest : Entries) → AreEntries (entry ∷ rest) → AreEntries rest
rest_in_order entry rest order = sorted_tail (slice_cmp nat_cmp) entry.0 (keys_of rest) order

module _ (rule : Rule) where
  -- the map's put, where what is put does what the older message and what was there do
  puts : (old new : BTreeMap (List ℕ) Message) (key : List ℕ) (older both : Message) → Updates (slice_cmp nat_cmp) old new key (Some both)
      → Folds rule key (older ∷ option_to_list (message_in old.entries key)) (Some both) → PutsUnder rule old.entries new.entries key older
  puts old new key older both updates folds = record {
    this_key = λ cell. ap (λ (o : Option Message). act_all rule key cell (option_to_list o)) updates.1 ∙ folds cell;
    other_keys = λ other unequal. updates.2 other (apart key other unequal (slice_cmp nat_cmp key other) refl);
  }

  -- a message that is there is combined with the older one in its place
  pub puts_over : (old new : BTreeMap (List ℕ) Message) (key : List ℕ) (older newer both : Message) → Some newer ≡ message_in old.entries key → both ≡ combine rule key older newer
      → Updates (slice_cmp nat_cmp) old new key (Some both) → PutsUnder rule old.entries new.entries key older
  puts_over old new key older newer both present is updates =
      puts old new key older both updates
      (λ cell.
      ap (λ (m : Message). act rule key cell m) is
      ∙ act-combine rule key cell older newer
      ∙ ap (λ (o : Option Message). act_all rule key cell (older ∷ option_to_list o)) present)

  -- a message of a new key is put in as it is
  pub puts_new : (old new : BTreeMap (List ℕ) Message) (key : List ℕ) (older : Message) → None ≡ message_in old.entries key
      → Updates (slice_cmp nat_cmp) old new key (Some older) → PutsUnder rule old.entries new.entries key older
  puts_new old new key older missing updates =
      puts old new key older older updates (λ cell. ap (λ (o : Option Message). act_all rule key cell (older ∷ option_to_list o)) missing)

  -- the first of the entries that are to come is put under what is there
  pub come_next : (key : List ℕ) (message : Message) (rest now new : Entries) → AreEntries ((key, message) ∷ rest) → PutsUnder rule now new key message
      → ComeTo rule rest new ((key, message) ∷ rest) now
  come_next key message rest now new order put other cell = by (slice_cmp nat_cmp other key) refl
    where
      all : Entries
      all = (key, message) ∷ rest

      at_key : act_all rule key cell (under rest new key) ≡ act_all rule key cell (under all now key)
      at_key =
          ap (λ (o : Option Message). act_all rule key cell (option_to_list o ++ option_to_list (message_in new key))) (first_missing (key, message) rest order)
          ∙ put.this_key cell
          ∙ sym (ap (λ b. act_all rule key cell (option_to_list (cond b (Some message) (message_in rest key)) ++ option_to_list (message_in now key))) (here key))

      elsewhere : is_at (slice_cmp nat_cmp other) key ≡ false → act_all rule other cell (under rest new other) ≡ act_all rule other cell (under all now other)
      elsewhere is =
          ap (λ (o : Option Message). act_all rule other cell (option_to_list (message_in rest other) ++ option_to_list o)) (put.other_keys other unequal)
          ∙ sym (ap (λ b. act_all rule other cell (option_to_list (cond b (Some message) (message_in rest other)) ++ option_to_list (message_in now other))) is)
        where
          unequal : other ≢ key
          unequal same = false≢true (sym is ∙ ap (λ (k : List ℕ). is_at (slice_cmp nat_cmp k) key) same ∙ here key)

      by : (o : Ordering) → slice_cmp nat_cmp other key ≡ o → act_all rule other cell (under rest new other) ≡ act_all rule other cell (under all now other)
      by Less is = elsewhere (ap is_eq is)
      by Equal is = subst (λ (k : List ℕ). act_all rule k cell (under rest new k) ≡ act_all rule k cell (under all now k)) (sym (exact_bytes other key is)) at_key
      by Greater is = elsewhere (ap is_eq is)

  pub come_on : (left now rest new all first : Entries) → ComeTo rule left now all first → ComeTo rule rest new left now → ComeTo rule rest new all first
  come_on left now rest new all first one two key cell = two key cell ∙ one key cell

  -- the messages of one table more
  acts_on : (key : List ℕ) (cell : Cell) (first second : List Message) → act_all rule key cell (first ++ second) ≡ act_all rule key (act_all rule key cell first) second
  acts_on key cell first second = fold-append (act rule key) cell first second

  module _ {X : Type 0} (table : X → Table) where
    -- the messages of the tables from this one on
    abbrev pub from : List X → ℕ → List ℕ → List Message
    from xs left key = chain (map table (drop left xs)) key

    pub adds_next : (xs : List X) (left n : ℕ) (x : X) (first now new : Entries) (key : List ℕ) → n ≡ suc left → n ≤ length xs
        → AddsAt rule (λ k. option_to_list (message_at (table (get_or xs left x)) k)) now new key → AddsAt rule (from xs n) first now key → AddsAt rule (from xs left) first new key
    adds_next xs left n x first now new key is within both one cell =
        let older = option_to_list (message_at (table (get_or xs left x)) key) in
        let was = option_to_list (message_in first key) in
        let here : drop left xs ≡ get_or xs left x ∷ drop n xs = drop-cons xs left x (omega arith) ∙ ap (λ (k : ℕ). get_or xs left x ∷ drop k xs) (sym is) in
        let all : older ++ (from xs n key ++ was) ≡ from xs left key ++ was =
        sym (append_assoc older (from xs n key) was) ∙ ap (λ (ys : List X). chain (map table ys) key ++ was) (sym here) in
        both cell
        ∙ acts_on key cell older (option_to_list (message_in now key))
        ∙ one (act_all rule key cell older)
        ∙ sym (acts_on key cell older (from xs n key ++ was))
        ∙ ap (act_all rule key cell) all

-- what is to come of a scan that has given nothing is in order
pub fresh_order : (span : Span) (branch : Branch) → AreEntries (entries_in branch) → AreEntries (left_of (fresh_scan span branch))
fresh_order span branch order = subst AreEntries (sym (all_to_come span (entries_in branch))) (AreEntries-filter (in_span span) (entries_in branch) order)

-- where nothing more comes of a scan, all that its branch has in the span came under what was there
pub adds_all : (rule : Rule) (span : Span) (branch : Branch) (left now first : Entries) → left ≡ [] → ComeTo rule left now (left_of (fresh_scan span branch)) first
    → AddsUnder rule span (λ key. option_to_list (message_at (table_of branch) key)) first now
adds_all rule span branch left now first none come key inside cell =
    let part : message_in (left_of (fresh_scan span branch)) key ≡ message_at (table_of branch) key =
    ap (λ (es : Entries). message_in es key) (all_to_come span (entries_in branch))
    ∙ message_at-part_of span (table_of branch) key
    ∙ ap (λ b. cond b (message_at (table_of branch) key) None) inside in
    ap (λ (es : Entries). act_all rule key cell (under es now key)) (sym none)
    ∙ come key cell
    ∙ ap (λ (o : Option Message). act_all rule key cell (option_to_list o ++ option_to_list (message_in first key))) part

-- the next key of a scan is above the last one
pub next_above : (span : Span) (last : Option (List ℕ)) (key : List ℕ) → is_next span last key ≡ true → IsAbove last key
next_above span None key is = tt
next_above span (Some last) key is = second (in_span span key) (is_after (Some last) key) is
  where
    second : (a b : Bool) → (a && b) ≡ true → b ≡ true
    second true b is = is
    second false b is = absurd (false≢true is)
