-- A whole merge, from its first step to its last, and the entries that are given between the steps.
use Rattle.std.proofs.Common.{◌≡◌, ℕ, zero, suc, ◌+◌, Bool, true, false, cond, List, [], ◌∷◌, ◌++◌, length, map, Some, None, option_to_list, arith, refl, ap, ◌∙◌, sym, subst, append_assoc}
use Rattle.std.proofs.lemmas.List.{append-nil}
use Rattle.std.proofs.lemmas.Slice.Eq.{bytes_eq-Decides}
use Rattle.std.specs.List.{AllByRecursion, slice_get}
use Rattle.std.specs.List.Sorted.{IsStrictlySortedBy}
use Rattle.std.specs.Prelude.{slice_set}
use Rattle.spl_message.specs.declared.message.Message.{Message}
use Rattle.spl_message.specs.declared.span.Span.{Span}
use Rattle.spl_message.specs.Entries.{Entries, AreEntries}
use Rattle.spl_message.specs.Key.{same_key}
use Rattle.spl_message.specs.Rule.{Rule}
use Rattle.spl_message.specs.Table.{Table, IsMerged, as_table, chain}
use Rattle.spl_merge.specs.Merger.{Head, at_key, has_key, streams_at, without}
use Rattle.spl_merge.specs.Merging.{AreStreams, IsMergedSoFar, left_of}
use Rattle.spl_merge.proofs.Merges.{merged_none}

none_in_order : AreEntries []
unfolding IsStrictlySortedBy
none_in_order = tt

module _ (rule : Rule) (tables : List Table) (span : Span) (bottom : Bool) where
  -- before the first step nothing was built
  pub merged_at_first : IsMergedSoFar rule tables span bottom [] tables
  merged_at_first rest is = is

  -- what a step adds goes behind what was built
  pub merged_more : (built more : Entries) (left less : List Table) →
      IsMergedSoFar rule tables span bottom built left → IsMergedSoFar rule left span bottom more less →
      IsMergedSoFar rule tables span bottom (built ++ more) less
  merged_more built more left less so_far step rest is =
      subst (λ (entries : Entries). IsMerged rule tables span bottom (as_table entries))
      (sym (append_assoc built more rest)) (so_far (more ++ rest) (step rest is))

  -- where the streams have ended, what was built is the merge
  pub merged_at_last : (heads : List Head) (following : List Entries) (built : Entries) →
      AllByRecursion (λ head. head ≡ None) heads → AreStreams heads following →
      IsMergedSoFar rule tables span bottom built (left_of heads following) →
      IsMerged rule tables span bottom (as_table built)
  merged_at_last heads following built ended streams so_far =
      subst (λ (entries : Entries). IsMerged rule tables span bottom (as_table entries)) (append-nil built)
      (so_far [] nothing_left)
    where
      none_in : (key : List ℕ) (heads : List Head) (following : List Entries) →
          AllByRecursion (λ head. head ≡ None) heads → AreStreams heads following →
          chain (left_of heads following) key ≡ []
      none_in key [] following ended streams = refl
      none_in key (head ∷ heads) [] ended streams = refl
      none_in key (None ∷ heads) (es ∷ following) ended streams =
          ap (λ (entries : Entries). chain (as_table entries ∷ left_of heads following) key) streams.0
          ∙ none_in key heads following ended.1 streams.1
      none_in key (Some entry ∷ heads) (es ∷ following) ended streams = cc (ended.0)

      nothing_left : IsMerged rule (left_of heads following) span bottom (as_table [])
      nothing_left = record {
        order = none_in_order;
        messages =
            λ key. sym (merged_none rule (left_of heads following) span bottom key
            (none_in key heads following ended streams));
      }

-- an entry that is given moves to the head of its stream
pub left_of-give : (heads : List Head) (following : List Entries) (stream : ℕ) (entry : List ℕ
    × Message) (entries : Entries) → slice_get heads stream ≡ Some None →
    slice_get following stream ≡ Some (entry ∷ entries) →
    left_of (slice_set heads stream (Some entry)) (slice_set following stream entries) ≡ left_of heads
    following
left_of-give [] following stream entry entries head next = refl
left_of-give (other ∷ heads) [] stream entry entries head next = cc (next)
left_of-give (other ∷ heads) (es ∷ following) zero entry entries head next =
    let none : other ≡ None = cc in
    let all : es ≡ entry ∷ entries = cc in
    ap (λ (list : Entries). as_table list ∷ left_of heads following) (sym all)
    ∙ ap (λ (h : Head). left_of (h ∷ heads) (es ∷ following)) (sym none)
left_of-give (other ∷ heads) (es ∷ following) (suc stream) entry entries head next =
    ap (λ tables. as_table (option_to_list other ++ es) ∷ tables)
    (left_of-give heads following stream entry entries head next)

-- what follows a head: nothing where the stream has ended, and else entries above it, in order
abbrev pub Follow : Head → Entries → Type 0
Follow None entries = entries ≡ []
Follow (Some entry) entries = AreEntries (entry ∷ entries)

-- the streams, stream by stream
pub are_streams : (heads : List Head) (following : List Entries) → length heads ≡ length following →
    ((i : ℕ) (head : Head) (entries : Entries) → slice_get heads i ≡ Some head →
    slice_get following i ≡ Some entries → Follow head entries) → AreStreams heads following
are_streams [] [] same each = tt
are_streams [] (entries ∷ following) same each = absurd (omega arith)
are_streams (head ∷ heads) [] same each = absurd (omega arith)
are_streams (None ∷ heads) (entries ∷ following) same each =
    (each 0 None entries refl refl, are_streams heads following (omega arith) (λ i. each (suc i)))
are_streams (Some entry ∷ heads) (entries ∷ following) same each =
    (each 0 (Some entry) entries refl refl, are_streams heads following (omega arith) (λ i. each (suc i)))

-- a step leaves each stream its head, unless it has the key
pub head_after : (key : List ℕ) (heads : List Head) (i : ℕ) (head : Head) → slice_get heads i ≡ Some head →
    slice_get (without key heads) i ≡ Some (cond (has_key key head) None head)
head_after key [] i head is = cc
head_after key (other ∷ heads) zero head is =
    let same : other ≡ head = cc in ap (λ (h : Head). Some (cond (has_key key h) None h)) same
head_after key (other ∷ heads) (suc i) head is = head_after key heads i head is

taken_from : (s : ℕ) (key : List ℕ) (heads : List Head) (j n : ℕ) →
    slice_get (map (λ (head : ℕ × Message). head.0) (at_key s key heads)) j ≡ Some n →
    (i : ℕ) × (entry : List ℕ × Message) × (slice_get heads i ≡ Some (Some entry)) × (entry.0 ≡ key) × (n ≡ s + i)
taken_from s key [] j n is = cc
taken_from s key (None ∷ heads) j n is =
    let at = taken_from (suc s) key heads j n is in (suc at.0, at.1, at.2, at.3, omega (arith, at.4))
taken_from s key (Some entry ∷ heads) j n is =
    by (λ k. taken_from (suc s) key heads k n) (same_key entry.0 key) refl j is
  where
    by : ((k : ℕ) → slice_get (map (λ (head : ℕ × Message). head.0) (at_key (suc s) key heads)) k ≡ Some n →
        (i : ℕ) × (e : List ℕ × Message) × (slice_get heads i ≡ Some (Some e)) × (e.0 ≡ key) × (n ≡ suc s + i)) →
        (b : Bool) → same_key entry.0 key ≡ b → (j : ℕ) →
        slice_get (map (λ (head : ℕ × Message). head.0) (at_key s key (Some entry ∷ heads))) j ≡ Some n →
        (i : ℕ) × (e : List ℕ × Message) × (slice_get (Some entry ∷ heads) i ≡ Some (Some e)) × (e.0 ≡ key) × (n ≡ s + i)
    by later true has zero is =
        let first : slice_get (map (λ (head : ℕ × Message). head.0)
        (cond true ((s, entry.1) ∷ at_key (suc s) key heads) (at_key (suc s) key heads))) 0 ≡ Some n =
        subst (λ b. slice_get (map (λ (head : ℕ × Message). head.0)
        (cond b ((s, entry.1) ∷ at_key (suc s) key heads) (at_key (suc s) key heads))) 0 ≡ Some n) has is in
        let same : s ≡ n = cc in
        (0, entry, refl, (bytes_eq-Decides entry.0 key).0 has, omega (arith, same))
    by later true has (suc j) is =
        let rest = later j (subst (λ b. slice_get (map (λ (head : ℕ × Message). head.0)
        (cond b ((s, entry.1) ∷ at_key (suc s) key heads) (at_key (suc s) key heads))) (suc j) ≡ Some n) has is) in
        (suc rest.0, rest.1, rest.2, rest.3, omega (arith, rest.4))
    by later false has j is =
        let rest = later j (subst (λ b. slice_get (map (λ (head : ℕ × Message). head.0)
        (cond b ((s, entry.1) ∷ at_key (suc s) key heads) (at_key (suc s) key heads))) j ≡ Some n) has is) in
        (suc rest.0, rest.1, rest.2, rest.3, omega (arith, rest.4))

-- a stream that a step took from had a head with the key
pub taken_had : (key : List ℕ) (heads : List Head) (j stream : ℕ) → slice_get (streams_at key heads) j ≡ Some stream →
    (entry : List ℕ × Message) × (slice_get heads stream ≡ Some (Some entry)) × (entry.0 ≡ key)
taken_had key heads j stream is =
    let at = taken_from 0 key heads j stream is in
    let place : stream ≡ at.0 = omega (arith, at.4) in
    (at.1, ap (slice_get heads) place ∙ at.2, at.3)
