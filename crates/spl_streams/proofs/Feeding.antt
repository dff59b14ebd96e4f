-- The merger is given the next entry of the stream that it wants, or the scan stands where it stood.
use Rattle.std.proofs.Common.{◌≡◌, get_or, ◌≤◌, ◌+◌, ◌≢◌, ℕ, ◌-◌, ◌<◌, Bool, true, false, ◌&&◌, List, [], ◌∷◌, take, set, length, Option, Some, None, inl, inr, refl, ap, ◌∙◌, sym, subst, arith}
use Rattle.std.proofs.lemmas.List.{length-set, map-set}
use Rattle.std.proofs.lemmas.Bool.{cases_lt}
use Rattle.std.proofs.lemmas.List.Sums.{sum_by-set, sum_by_more_le}
use Rattle.std.proofs.lemmas.Option.{get_or_from_slice_get, slice_get_within}
use Rattle.std.specs.List.{slice_get}
use Rattle.std.specs.Option.{IfSome}
use Rattle.spl_message.specs.declared.message.Message.{Message}
use Rattle.spl_message.specs.declared.span.Span.{Span}
use Rattle.spl_message.specs.Entries.{Entries, AreEntries}
use Rattle.spl_message.specs.Key.{IsKey}
use Rattle.spl_message.specs.Span.{in_span}
use Rattle.spl_branch.specs.Branch.{Branch, entries_in}
use Rattle.spl_merge.specs.Merger.{Head, IsAbove, Merger}
use Rattle.spl_merge.specs.Merging.{left_of as tables_of}
use Rattle.spl_merge.proofs.Runs.{left_of-give}
use Rattle.spl_scan.specs.Scan.{Gives, GoesOn, SamePlace, Scan, last_of, left_of, unread}
use Rattle.spl_scan.specs.Search.{is_after, is_next}
use Rattle.spl_streams.specs.Streams.{AreJoined, Feeds, IsWanted, Streams, branches_of, following, unread_all}
use Rattle.spl_streams.proofs.Places.{get_map, of_front, set_cases, set_here, set_other, set_same, to_front}

-- what is left of a scan hangs on its branch, its span and its last key
left_same : (before after : Scan) → after.branch ≡ before.branch → after.span ≡ before.span → after.last ≡ before.last →
    left_of after ≡ left_of before
left_same before after branch span last = cc (branch, span, last)

module _ (scans : List Scan) (stream : ℕ) (before after : Scan) (there : slice_get scans stream ≡ Some before)
    (branch : after.branch ≡ before.branch) where
  pub same_branches : branches_of (set scans stream after) ≡ branches_of scans
  same_branches =
      map-set (λ (scan : Scan). scan.branch) scans stream after
      ∙ ap (λ (b : Branch). set (branches_of scans) stream b) branch
      ∙ set_same (branches_of scans) stream before.branch (get_map (λ (scan : Scan). scan.branch) scans stream before there)

  pub same_following : left_of after ≡ left_of before → following (set scans stream after) ≡ following scans
  same_following left =
      map-set left_of scans stream after
      ∙ ap (λ (es : Entries). set (following scans) stream es) left
      ∙ set_same (following scans) stream (left_of before) (get_map left_of scans stream before there)

-- ---- the scan stands where it stood
module _ (tells : Bool) (scans : List Scan) (merger : Merger) (stream : ℕ) (before after : Scan)
    (there : slice_get scans stream ≡ Some before) (place : SamePlace before after) where
  waiting : Streams
  waiting = record { scans = set scans stream after; merger = merger }

  -- each scan has the branch, the span and the last key of the one before
  was : (i : ℕ) (scan : Scan) → slice_get (set scans stream after) i ≡ Some scan →
      (old : Scan) × (slice_get scans i ≡ Some old) × SamePlace old scan
  was i scan is =
      elim (set_cases scans stream after i scan is) [
        | inl here ↦ (
          before,
          ap (slice_get scans) here.0 ∙ there,
          subst (λ (s : Scan). SamePlace before s) (sym here.1) place,
        )
        | inr other ↦ (scan, other.1, record { branch = refl; span = refl; last = refl })
      ]

  pub waits_joined : AreJoined tells (record { scans = scans; merger = merger }) →
      AreJoined tells (record { scans = set scans stream after; merger = merger })
  waits_joined joined = record {
    count = length-set scans stream after ∙ joined.count;
    spans = λ i scan is. let old = was i scan is in old.2.span ∙ joined.spans i old.0 old.1;
    heads = λ i scan entry is head.
        let old = was i scan is in
        let same = joined.heads i old.0 entry old.1 head in
        (old.2.last ∙ same.0, same.1);
    headless = joined.headless;
    last = λ i scan is wanted. let old = was i scan is in old.2.last ∙ joined.last i old.0 old.1 wanted;
    once = joined.once;
    told = λ tells. record {
      order = λ i scan is.
          let old = was i scan is in
          subst (λ (b : Branch). AreEntries (entries_in b)) (sym old.2.branch) ((joined.told tells).order i old.0 old.1);
      ended = λ i scan is head other.
          let old = was i scan is in
          left_same old.0 scan old.2.branch old.2.span old.2.last ∙ (joined.told tells).ended i old.0 old.1 head other;
    };
  }

  pub waits_feeds : Feeds tells (record { scans = scans; merger = merger }) (record { scans = set scans stream after; merger = merger })
  waits_feeds = record {
    branches = same_branches scans stream before after there place.branch;
    merger = refl;
    left = λ tells. ap (tables_of merger.heads) (same_following scans stream before after there place.branch
        (left_same before after place.branch place.span place.last));
  }

-- ---- the merger is given what the scan gave
module _ (tells : Bool) (scans : List Scan) (merger : Merger) (stream : ℕ) (before after : Scan)
    (there : slice_get scans stream ≡ Some before) (joined : AreJoined tells (record { scans = scans; merger = merger }))
    (wanted : slice_get merger.wanted (length merger.wanted - 1) ≡ Some stream) (given : Option (List ℕ × Message))
    (goes : GoesOn before given after) (key : IfSome given (λ entry. IsKey entry.0))
    (gives : tells ≡ true → Gives before given after) where
  abbrev pub fed : Merger
  fed = record merger { heads = set merger.heads stream given; wanted = take (length merger.wanted - 1) merger.wanted }

  some_wanted : 0 < length merger.wanted
  some_wanted = let within = slice_get_within merger.wanted (length merger.wanted - 1) stream wanted in omega (arith, within)

  -- the stream is wanted no more
  front_other : (i j : ℕ) → slice_get (take (length merger.wanted - 1) merger.wanted) j ≡ Some i →
      (i ≢ stream) × IsWanted merger.wanted i
  front_other i j is =
      let at = of_front (length merger.wanted - 1) merger.wanted j i is in
      let below = at.0 in (
        λ same. absurd (omega (arith, below, joined.once i j (length merger.wanted - 1) at.1 (wanted ∙ ap Some (sym same)))),
        (j, at.1),
      )

  headless_here : slice_get merger.heads stream ≡ Some None
  headless_here = joined.headless stream (length merger.wanted - 1, wanted)

  -- all others are wanted as before
  others_wanted : (i : ℕ) → i ≢ stream → IsWanted merger.wanted i → IsWanted (take (length merger.wanted - 1) merger.wanted) i
  others_wanted i other is = (is.0, to_front (length merger.wanted - 1) merger.wanted is.0 i below is.1)
    where
      within : is.0 < length merger.wanted
      within = slice_get_within merger.wanted is.0 i is.1

      not_last : is.0 ≢ length merger.wanted - 1
      not_last same = other (same_item (sym is.1 ∙ ap (slice_get merger.wanted) same ∙ wanted))
        where
          same_item : Some i ≡ Some stream → i ≡ stream
          same_item e = cc

      below : is.0 < length merger.wanted - 1
      below = elim (cases_lt is.0 (length merger.wanted - 1)) [
        | inl less ↦ less
        | inr more ↦ absurd (not_last (omega (arith, within, more)))
      ]

  last_given : (entry : List ℕ × Message) → given ≡ Some entry → after.last ≡ Some entry.0
  last_given entry is = goes.last ∙ ap (last_of before.last) is

  key_given : (entry : List ℕ × Message) → given ≡ Some entry → IsKey entry.0
  key_given entry is = subst (λ (g : Option (List ℕ × Message)). IfSome g (λ e. IsKey e.0)) is key

  left_none : tells ≡ true → given ≡ None → left_of after ≡ []
  left_none told is =
      let last : after.last ≡ before.last = goes.last ∙ ap (last_of before.last) is in
      left_same before after goes.branch goes.span last
      ∙ subst (λ (g : Option (List ℕ × Message)). Gives before g after) is (gives told)

  pub fed_joined : AreJoined tells (record { scans = set scans stream after; merger = fed })
  fed_joined = record {
    count = length-set scans stream after ∙ joined.count ∙ sym (length-set merger.heads stream given);
    spans = λ i scan is. elim (set_cases scans stream after i scan is) [
      | inl here ↦ ap (λ (s : Scan). s.span) here.1 ∙ goes.span ∙ joined.spans stream before there
      | inr other ↦ joined.spans i scan other.1
    ];
    heads = λ i scan entry is head. elim (set_cases scans stream after i scan is) [
      | inl here ↦
          let given_is : given ≡ Some entry = cc (
            set_here merger.heads stream given None headless_here,
            ap (slice_get (set merger.heads stream given)) (sym here.0) ∙ head,
          ) in
          (ap (λ (s : Scan). s.last) here.1 ∙ last_given entry given_is, key_given entry given_is)
      | inr other ↦ joined.heads i scan entry other.1 (sym (set_other merger.heads stream given i other.0) ∙ head)
    ];
    headless = λ i is.
        let other = front_other i is.0 is.1 in
        set_other merger.heads stream given i other.0 ∙ joined.headless i other.1;
    last = λ i scan is is_wanted.
        let other = front_other i is_wanted.0 is_wanted.1 in
        elim (set_cases scans stream after i scan is) [
          | inl here ↦ absurd (other.0 here.0)
          | inr old ↦ joined.last i scan old.1 other.1
        ];
    once = λ i j k first second.
        joined.once i j k (of_front (length merger.wanted - 1) merger.wanted j i first).1
        (of_front (length merger.wanted - 1) merger.wanted k i second).1;
    told = λ told. record {
      order = λ i scan is. elim (set_cases scans stream after i scan is) [
        | inl here ↦ subst (λ (b : Branch). AreEntries (entries_in b)) (sym (ap (λ (s : Scan). s.branch) here.1 ∙ goes.branch))
            ((joined.told told).order stream before there)
        | inr other ↦ (joined.told told).order i scan other.1
      ];
      ended = λ i scan is head unwanted. elim (set_cases scans stream after i scan is) [
        | inl here ↦
            let given_is : given ≡ None = cc (
              set_here merger.heads stream given None headless_here,
              ap (slice_get (set merger.heads stream given)) (sym here.0) ∙ head,
            ) in
            ap left_of here.1 ∙ left_none told given_is
        | inr other ↦ (joined.told told).ended i scan other.1 (sym (set_other merger.heads stream given i other.0) ∙ head)
            (λ is_wanted. unwanted (others_wanted i other.0 is_wanted))
      ];
    };
  }

  left_fed : tells ≡ true → (g : Option (List ℕ × Message)) → given ≡ g →
      tables_of (set merger.heads stream given) (following (set scans stream after)) ≡ tables_of merger.heads (following scans)
  left_fed told None is =
      let last : after.last ≡ before.last = goes.last ∙ ap (last_of before.last) is in
      ap (λ (h : Head). tables_of (set merger.heads stream h) (following (set scans stream after))) is
      ∙ ap (λ (hs : List Head). tables_of hs (following (set scans stream after)))
      (set_same merger.heads stream None headless_here)
      ∙ ap (tables_of merger.heads) (same_following scans stream before after there goes.branch
      (left_same before after goes.branch goes.span last))
  left_fed told (Some entry) is =
      let first : left_of before ≡ entry ∷ left_of after =
      subst (λ (g : Option (List ℕ × Message)). Gives before g after) is (gives told) in
      let there_left : slice_get (following scans) stream ≡ Some (entry ∷ left_of after) =
      get_map left_of scans stream before there ∙ ap Some first in
      ap (λ (h : Head). tables_of (set merger.heads stream h) (following (set scans stream after))) is
      ∙ ap (tables_of (set merger.heads stream (Some entry))) (map-set left_of scans stream after)
      ∙ left_of-give merger.heads (following scans) stream entry (left_of after) headless_here there_left

  pub fed_feeds : Feeds tells (record { scans = scans; merger = merger }) (record { scans = set scans stream after; merger = fed })
  fed_feeds = record {
    branches = same_branches scans stream before after there goes.branch;
    merger = refl;
    left = λ told. left_fed told given refl;
  }

-- what a scan gives is above the key of the latest step
pub rises_above : (span : Span) (last above : Option (List ℕ)) (given : Option (List ℕ × Message)) → last ≡ above →
    IfSome given (λ entry. is_next span last entry.0 ≡ true) → IfSome given (λ entry. IsAbove above entry.0)
rises_above span last above None same next = tt
rises_above span last above (Some entry) same next =
    subst (λ (l : Option (List ℕ)). IsAbove l entry.0) same (by last (second_true (in_span span entry.0) (is_after last entry.0) next))
  where
    second_true : (a b : Bool) → (a && b) ≡ true → b ≡ true
    second_true true b h = h
    second_true false b h = cc

    by : (l : Option (List ℕ)) → is_after l entry.0 ≡ true → IsAbove l entry.0
    by None h = tt
    by (Some key) h = h

-- ---- how many pages may still be read
module _ (scans : List Scan) (stream : ℕ) (before after : Scan) (there : slice_get scans stream ≡ Some before) (reads now : ℕ) where
  within : stream < length scans
  within = slice_get_within scans stream before there

  here : get_or scans stream before ≡ before
  here = get_or_from_slice_get scans stream before before there

  pub once_all : now + unread after ≤ reads + unread before → now + unread_all (set scans stream after) ≤ reads + unread_all scans
  once_all once =
      let moved = sum_by-set unread scans stream after before within in
      let same : unread (get_or scans stream before) ≡ unread before = ap unread here in
      omega (arith, once, moved, same)

  pub most_all : now ≤ reads + unread before → now ≤ reads + unread_all scans
  most_all most =
      let part = sum_by_more_le unread scans stream before within in
      let same : unread (get_or scans stream before) ≡ unread before = ap unread here in
      omega (arith, most, same, part)
