-- What is still to come of a scan: a search of what is ahead finds the first of it.
use Rattle.std.proofs.Common.{◌≡◌, ℕ, zero, suc, ◌+◌, Bool, true, false, ◌&&◌, cond, not, List, [], ◌∷◌, ◌++◌, drop, Option, Some, None, Ordering, refl, ap, ◌∙◌, sym, subst, arith}
use Rattle.std.proofs.lemmas.Bool.{false≢true}
use Rattle.std.proofs.lemmas.Cmp.{nat_list_cmp_total, tied_itself}
use Rattle.std.proofs.lemmas.Map.Keys.{sorted_head, sorted_tail}
use Rattle.std.specs.declared.cmp.Ordering.TheVariants.{Less}
use Rattle.std.specs.Cmp.Lexicographic.{slice_cmp}
use Rattle.std.specs.List.{AllByRecursion, slice_get}
use Rattle.std.specs.Map.{keys_of}
use Rattle.std.specs.Ordering.{nat_cmp, is_lt}
use Rattle.spl_message.specs.declared.message.Message.{Message}
use Rattle.spl_message.specs.declared.span.Span.{Span}
use Rattle.spl_message.specs.Entries.{Entries, AreEntries}
use Rattle.spl_message.specs.Key.{is_below}
use Rattle.spl_message.specs.Span.{in_span, is_before, is_from}
use Rattle.spl_message.proofs.Spans.{below_trans}
use Rattle.spl_scan.specs.Scan.{IsAhead}
use Rattle.spl_scan.specs.Search.{found, is_after, is_next, over, past, search, to_come}

abbrev R : List ℕ → List ℕ → Ordering
R = slice_cmp nat_cmp

-- the keys of the entries are above the key
abbrev AreAbove : List ℕ → Entries → Type 0
AreAbove key entries = AllByRecursion (λ other. R key other ≡ Less) (keys_of entries)

above : (entry : List ℕ × Message) (entries : Entries) → AreEntries (entry ∷ entries) →
    AreAbove entry.0 entries
above entry entries order = sorted_head R entry.0 (keys_of entries) order

tail : (entry : List ℕ × Message) (entries : Entries) → AreEntries (entry ∷ entries) → AreEntries entries
tail entry entries order = sorted_tail R entry.0 (keys_of entries) order

not_itself : (key : List ℕ) → is_below key key ≡ false
not_itself key = ap is_lt (tied_itself nat_list_cmp_total key)

module _ (span : Span) (last : Option (List ℕ)) where
  come-yes : (entry : List ℕ × Message) (entries : Entries) → is_next span last entry.0 ≡ true →
      to_come span last (entry ∷ entries) ≡ entry ∷ to_come span last entries
  come-yes entry entries is = ap (λ b. cond b (entry ∷ to_come span last entries) (to_come span last entries))
      is

  come-no : (entry : List ℕ × Message) (entries : Entries) → is_next span last entry.0 ≡ false →
      to_come span last (entry ∷ entries) ≡ to_come span last entries
  come-no entry entries is = ap (λ b. cond b (entry ∷ to_come span last entries) (to_come span last entries))
      is

  -- past the end of the span nothing comes
  not_next : (key : List ℕ) → is_before span.to key ≡ false → is_next span last key ≡ false
  not_next key is = ap (λ b. (is_from span.from key && b) && is_after last key) is
      ∙ no_both (is_from span.from key)
    where
      no_both : (b : Bool) → ((b && false) && is_after last key) ≡ false
      no_both true = refl
      no_both false = refl

  past_end : (end : Option (List ℕ)) (key other : List ℕ) → is_before end key ≡ false →
      is_below key other ≡ true → is_before end other ≡ false
  past_end None key other is below = is
  past_end (Some end) key other is below = by (is_below other end) refl
    where
      by : (b : Bool) → is_below other end ≡ b → is_below other end ≡ false
      by true h = absurd (false≢true (sym is ∙ below_trans key other end below h))
      by false h = h

  none_past : (key : List ℕ) (entries : Entries) → is_before span.to key ≡ false → AreAbove key entries →
      to_come span last entries ≡ []
  none_past key [] is all = refl
  none_past key (entry ∷ entries) is all =
      come-no entry entries (not_next entry.0 (past_end span.to key entry.0 is (ap is_lt all.0)))
      ∙ none_past key entries is all.1

  -- where a search ends past the span, nothing comes
  pub search_past : (ahead more : Entries) → search span last ahead ≡ past → AreEntries (ahead ++ more) →
      to_come span last (ahead ++ more) ≡ []
  search_past [] more is order = cc
  search_past (entry ∷ ahead) more is order =
      by (λ rest. search_past ahead more rest (tail entry (ahead ++ more) order)) (is_before span.to entry.0)
      refl (is_next span last entry.0) refl
    where
      by : (search span last ahead ≡ past → to_come span last (ahead ++ more) ≡ []) → (b : Bool) →
          is_before span.to entry.0 ≡ b → (n : Bool) → is_next span last entry.0 ≡ n →
          to_come span last (entry ∷ (ahead ++ more)) ≡ []
      by later true before true next = cc (sym (ap
          (λ b. cond b (cond (is_next span last entry.0) (found entry ahead) (search span last ahead)) past)
          before
          ∙ ap (λ n. cond n (found entry ahead) (search span last ahead)) next) ∙ is)
      by later true before false next =
          come-no entry (ahead ++ more) next ∙ later
          (sym (ap (λ b. cond b (cond (is_next span last entry.0) (found entry ahead)
          (search span last ahead)) past) before
          ∙ ap (λ n. cond n (found entry ahead) (search span last ahead)) next) ∙ is)
      by later false before n next =
          come-no entry (ahead ++ more) (not_next entry.0 before)
          ∙ none_past entry.0 (ahead ++ more) before (above entry (ahead ++ more) order)

  -- where it finds nothing, all that comes is behind
  pub search_over : (ahead more : Entries) → search span last ahead ≡ over →
      to_come span last (ahead ++ more) ≡ to_come span last more
  search_over [] more is = refl
  search_over (entry ∷ ahead) more is = by (λ rest. search_over ahead more rest) (is_before span.to entry.0)
      refl (is_next span last entry.0) refl
    where
      by : (search span last ahead ≡ over → to_come span last (ahead ++ more) ≡ to_come span last more) →
          (b : Bool) → is_before span.to entry.0 ≡ b →
          (n : Bool) → is_next span last entry.0 ≡ n →
          to_come span last (entry ∷ (ahead ++ more)) ≡ to_come span last more
      by later true before true next = cc (sym (ap
          (λ b. cond b (cond (is_next span last entry.0) (found entry ahead) (search span last ahead)) past)
          before
          ∙ ap (λ n. cond n (found entry ahead) (search span last ahead)) next) ∙ is)
      by later true before false next =
          come-no entry (ahead ++ more) next ∙ later
          (sym (ap (λ b. cond b (cond (is_next span last entry.0) (found entry ahead)
          (search span last ahead)) past) before
          ∙ ap (λ n. cond n (found entry ahead) (search span last ahead)) next) ∙ is)
      by later false before n next = cc (sym (ap (λ b. cond b
          (cond (is_next span last entry.0) (found entry ahead) (search span last ahead)) past) before) ∙ is)

  -- what it finds is next
  pub search_next : (ahead : Entries) (entry : List ℕ × Message) (rest : Entries) →
      search span last ahead ≡ found entry rest → is_next span last entry.0 ≡ true
  search_next [] entry rest is = cc
  search_next (first ∷ ahead) entry rest is = by (λ later. search_next ahead entry rest later)
      (is_before span.to first.0) refl (is_next span last first.0) refl
    where
      by : (search span last ahead ≡ found entry rest → is_next span last entry.0 ≡ true) → (b : Bool) →
          is_before span.to first.0 ≡ b →
          (n : Bool) → is_next span last first.0 ≡ n → is_next span last entry.0 ≡ true
      by later true before true next =
          let met : found first ahead ≡ found entry rest =
          sym (ap (λ b. cond b (cond (is_next span last first.0) (found first ahead)
          (search span last ahead)) past) before
          ∙ ap (λ n. cond n (found first ahead) (search span last ahead)) next) ∙ is in
          let same : first ≡ entry = cc in
          ap (λ (e : List ℕ × Message). is_next span last e.0) (sym same) ∙ next
      by later true before false next =
          later (sym (ap (λ b. cond b (cond (is_next span last first.0) (found first ahead)
          (search span last ahead)) past) before
          ∙ ap (λ n. cond n (found first ahead) (search span last ahead)) next) ∙ is)
      by later false before n next = cc (sym (ap (λ b. cond b
          (cond (is_next span last first.0) (found first ahead) (search span last ahead)) past) before) ∙ is)

  -- and the first that comes
  pub search_found : (ahead more : Entries) (entry : List ℕ × Message) (rest : Entries) →
      search span last ahead ≡ found entry rest → AreEntries (ahead ++ more) →
      (to_come span last (ahead ++ more) ≡ entry ∷ to_come span last (rest ++ more))
      × AreEntries (entry ∷ (rest ++ more))
  search_found [] more entry rest is order = cc
  search_found (first ∷ ahead) more entry rest is order =
      by (λ later. search_found ahead more entry rest later (tail first (ahead ++ more) order))
      (is_before span.to first.0) refl (is_next span last first.0) refl
    where
      by : (search span last ahead ≡ found entry rest →
          (to_come span last (ahead ++ more) ≡ entry ∷ to_come span last (rest ++ more))
          × AreEntries (entry ∷ (rest ++ more))) →
          (b : Bool) → is_before span.to first.0 ≡ b → (n : Bool) → is_next span last first.0 ≡ n →
          (to_come span last (first ∷ (ahead ++ more)) ≡ entry ∷ to_come span last (rest ++ more))
          × AreEntries (entry ∷ (rest ++ more))
      by later true before true next =
          let met : found first ahead ≡ found entry rest =
          sym (ap (λ b. cond b (cond (is_next span last first.0) (found first ahead)
          (search span last ahead)) past) before
          ∙ ap (λ n. cond n (found first ahead) (search span last ahead)) next) ∙ is in
          let same : first ≡ entry = cc in
          let others : ahead ≡ rest = cc in (
            come-yes first (ahead ++ more) next ∙ ap
                (λ (e : List ℕ × Message). e ∷ to_come span last (ahead ++ more)) same
                ∙ ap (λ (es : Entries). entry ∷ to_come span last (es ++ more)) others,
            subst (λ (es : Entries). AreEntries (entry ∷ (es ++ more))) others
                (subst (λ (e : List ℕ × Message). AreEntries (e ∷ (ahead ++ more))) same order),
          )
      by later true before false next =
          let found_later = later (sym (ap (λ b. cond b
          (cond (is_next span last first.0) (found first ahead) (search span last ahead)) past) before
          ∙ ap (λ n. cond n (found first ahead) (search span last ahead)) next) ∙ is) in
          (come-no first (ahead ++ more) next ∙ found_later.0, found_later.1)
      by later false before n next = cc (sym (ap (λ b. cond b
          (cond (is_next span last first.0) (found first ahead) (search span last ahead)) past) before) ∙ is)

  -- above a key that was next, the same comes, but for the key
  both : (a b : Bool) → (a && b) ≡ true → (a ≡ true) × (b ≡ true)
  both true b h = (refl, h)
  both false b h = absurd (false≢true h)

  after_trans : (before : Option (List ℕ)) (key other : List ℕ) → is_after before key ≡ true →
      is_below key other ≡ true → is_after before other ≡ true
  after_trans None key other is below = refl
  after_trans (Some before) key other is below = below_trans before key other is below

  module _ (entry : List ℕ × Message) (next : is_next span last entry.0 ≡ true) where
    come-twice : (entries : Entries) → to_come span (Some entry.0) entries ≡ to_come span (Some entry.0)
        (to_come span last entries)
    come-twice [] = refl
    come-twice (other ∷ entries) = by (come-twice entries) (is_next span last other.0) refl
        (is_below entry.0 other.0) refl (in_span span other.0) refl
      where
        rest : Entries
        rest = to_come span (Some entry.0) entries

        by : to_come span (Some entry.0) entries ≡ to_come span (Some entry.0) (to_come span last entries) →
            (n : Bool) → is_next span last other.0 ≡ n → (b : Bool) → is_below entry.0 other.0 ≡ b →
            (s : Bool) → in_span span other.0 ≡ s →
            to_come span (Some entry.0) (other ∷ entries) ≡ to_come span (Some entry.0)
            (to_come span last (other ∷ entries))
        by later true n b below s within =
            ap (λ es. cond (is_next span (Some entry.0) other.0) (other ∷ es) es) later
            ∙ ap (to_come span (Some entry.0)) (sym (come-yes other entries n))
        by later false n true below true within =
            absurd (false≢true (sym n ∙ ap (λ s. s && is_after last other.0) within
            ∙ after_trans last entry.0 other.0
            (both (in_span span entry.0) (is_after last entry.0) next).1 below))
        by later false n true below false within =
            ap (λ s. cond (s && is_below entry.0 other.0) (other ∷ to_come span (Some entry.0) entries)
            (to_come span (Some entry.0) entries)) within
            ∙ later ∙ ap (to_come span (Some entry.0)) (sym (come-no other entries n))
        by later false n false below s within =
            ap (λ b. cond b (other ∷ to_come span (Some entry.0) entries)
            (to_come span (Some entry.0) entries))
            (no_and (in_span span other.0) (is_below entry.0 other.0) below)
            ∙ later ∙ ap (to_come span (Some entry.0)) (sym (come-no other entries n))
          where
            no_and : (a b : Bool) → b ≡ false → (a && b) ≡ false
            no_and true b is = is
            no_and false b is = refl

    come-above : (entries : Entries) → AreAbove entry.0 entries →
        to_come span last entries ≡ to_come span (Some entry.0) entries
    come-above [] all = refl
    come-above (other ∷ entries) all =
        let below : is_below entry.0 other.0 ≡ true = ap is_lt all.0 in
        let after : is_after last other.0 ≡ true =
        after_trans last entry.0 other.0 (both (in_span span entry.0) (is_after last entry.0) next).1
        below in
        ap (λ b. cond (in_span span other.0 && b) (other ∷ to_come span last entries)
        (to_come span last entries)) (after ∙ sym below)
        ∙ ap (λ es. cond (is_next span (Some entry.0) other.0) (other ∷ es) es) (come-above entries all.1)

    -- a step of a scan to the first entry that comes
    pub steps_to : (all ahead rest : Entries) → IsAhead span last all ahead →
        to_come span last ahead ≡ entry ∷ to_come span last rest → AreEntries (entry ∷ rest) →
        IsAhead span (Some entry.0) all rest × (to_come span last all ≡ entry ∷ to_come span (Some entry.0)
        all)
    steps_to all ahead rest is first order =
        let itself : is_next span (Some entry.0) entry.0 ≡ false = no_after (in_span span entry.0) in
        let before : to_come span last all ≡ entry ∷ to_come span last rest = is.same ∙ first in
        let now : to_come span (Some entry.0) all ≡ to_come span (Some entry.0) rest =
        come-twice all ∙ ap (to_come span (Some entry.0)) before
        ∙ ap (λ b. cond b (entry ∷ to_come span (Some entry.0) (to_come span last rest))
        (to_come span (Some entry.0) (to_come span last rest))) itself
        ∙ sym (come-twice rest) in (
          record { order = tail entry rest order; same = now },
          before ∙ ap (λ es. entry ∷ es) (come-above rest (above entry rest order) ∙ sym now),
        )
      where
        no_after : (a : Bool) → (a && is_below entry.0 entry.0) ≡ false
        no_after true = not_itself entry.0
        no_after false = refl

-- ---- a search from a place of a table on

drop_at : (table : Entries) (at : ℕ) (entry : List ℕ × Message) → slice_get table at ≡ Some entry →
    drop at table ≡ entry ∷ drop (at + 1) table
drop_at [] at entry is = cc
drop_at (first ∷ table) zero entry is = let same : first ≡ entry =
    cc in ap (λ (e : List ℕ × Message). e ∷ table) same
drop_at (first ∷ table) (suc at) entry is =
    let further : drop (at + 1) table ≡ drop (suc at + 1) (first ∷ table) =
    ap (λ n. drop n (first ∷ table)) (next_place at) in
    drop_at table at entry is ∙ ap (λ es. entry ∷ es) further
  where
    next_place : (n : ℕ) → suc (n + 1) ≡ suc n + 1
    next_place n = omega arith

module _ (span : Span) (last : Option (List ℕ)) (table : Entries) (at : ℕ) (entry : List ℕ
    × Message) (is : slice_get table at ≡ Some entry) where
  search_at : search span last (drop at table) ≡ search span last (entry ∷ drop (at + 1) table)
  search_at = ap (search span last) (drop_at table at entry is)

  pub met_past : is_before span.to entry.0 ≡ false → search span last (drop at table) ≡ past
  met_past before = search_at ∙ ap (λ b. cond b (cond (is_next span last entry.0)
      (found entry (drop (at + 1) table)) (search span last (drop (at + 1) table))) past) before

  pub met_found : is_before span.to entry.0 ≡ true → is_next span last entry.0 ≡ true →
      search span last (drop at table) ≡ found entry (drop (at + 1) table)
  met_found before next =
      search_at ∙ ap (λ b. cond b (cond (is_next span last entry.0) (found entry (drop (at + 1) table))
      (search span last (drop (at + 1) table))) past) before
      ∙ ap (λ n. cond n (found entry (drop (at + 1) table)) (search span last (drop (at + 1) table))) next

  pub met_other : is_before span.to entry.0 ≡ true → is_next span last entry.0 ≡ false →
      search span last (drop at table) ≡ search span last (drop (at + 1) table)
  met_other before next =
      search_at ∙ ap (λ b. cond b (cond (is_next span last entry.0) (found entry (drop (at + 1) table))
      (search span last (drop (at + 1) table))) past) before
      ∙ ap (λ n. cond n (found entry (drop (at + 1) table)) (search span last (drop (at + 1) table))) next

pub not_true : (b : Bool) → not b ≡ true → b ≡ false
not_true true h = absurd (false≢true h)
not_true false h = refl

pub not_false : (b : Bool) → not b ≡ false → b ≡ true
not_false true h = refl
not_false false h = absurd (false≢true (sym h))
