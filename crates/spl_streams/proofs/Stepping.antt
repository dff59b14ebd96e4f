-- A step of the merger takes the heads of a key, whose streams are wanted then.
use Rattle.std.proofs.Common.{◌≡◌, ℕ, Bool, true, false, ◌&&◌, cond, List, [], ◌∷◌, filter, Option, Some, None, Result, Ok, Err, Ordering, refl, ap, ◌∙◌, sym, subst, arith}
use Rattle.std.proofs.lemmas.Bool.{false≢true}
use Rattle.std.proofs.lemmas.List.{length-map}
use Rattle.std.proofs.lemmas.List.Kept.{IsStrictlySortedBy-filter}
use Rattle.std.proofs.lemmas.Slice.Eq.{bytes_eq-Decides}
use Rattle.std.specs.declared.cmp.Ordering.TheVariants.{Less, Equal, Greater}
use Rattle.std.specs.Cmp.Lexicographic.{slice_cmp}
use Rattle.std.specs.List.{AllByRecursion, slice_get}
use Rattle.std.specs.List.Sorted.{IsStrictlySortedBy}
use Rattle.std.specs.Map.{keys_of}
use Rattle.std.specs.Ordering.{nat_cmp, is_lt}
use Rattle.spl_message.specs.declared.message.Message.{Message}
use Rattle.spl_message.specs.declared.span.Span.{Span}
use Rattle.spl_message.specs.Entries.{Entries, AreEntries}
use Rattle.spl_message.specs.Key.{is_below, same_key}
use Rattle.spl_message.specs.Span.{in_span}
use Rattle.spl_branch.specs.Branch.{entries_in}
use Rattle.spl_merge.specs.declared.step.Step.{Step}
use Rattle.spl_merge.specs.declared.step.Step.TheVariants.{Entry, Dropped, Ended}
use Rattle.spl_merge.specs.Merger.{Head, Merger, Steps, behind, has_key, streams_at, without}
use Rattle.spl_merge.specs.Merging.{AreStreams}
use Rattle.spl_message.specs.Rule.{Rule}
use Rattle.spl_merge.proofs.Merges.{in_front}
use Rattle.spl_merge.proofs.Runs.{Follow, are_streams, head_after, taken_had}
use Rattle.spl_scan.specs.Scan.{Scan, left_of}
use Rattle.spl_scan.specs.Search.{is_next, to_come}
use Rattle.spl_streams.specs.Streams.{AreJoined, IsWanted, Streams, following}
use Rattle.spl_streams.proofs.Places.{of_map}
use Rattle.spl_streams.proofs.Wanted.{from_all, from_once}

abbrev R : List ℕ → List ℕ → Ordering
R = slice_cmp nat_cmp

less : (o : Ordering) → is_lt o ≡ true → o ≡ Less
less Less h = refl
less Equal h = absurd (false≢true h)
less Greater h = absurd (false≢true h)

-- ---- what follows a head is above it, in order

-- the keys that pass
keys_filter : (p : List ℕ → Bool) (entries : Entries) → keys_of (filter (λ entry. p entry.0) entries) ≡ filter p (keys_of entries)
keys_filter p [] = refl
keys_filter p (entry ∷ entries) = by (keys_filter p entries) (p entry.0) refl
  where
    by : keys_of (filter (λ e. p e.0) entries) ≡ filter p (keys_of entries) → (b : Bool) → p entry.0 ≡ b →
        keys_of (filter (λ e. p e.0) (entry ∷ entries)) ≡ filter p (keys_of (entry ∷ entries))
    by later true is =
        ap (λ b. keys_of (cond b (entry ∷ filter (λ e. p e.0) entries) (filter (λ e. p e.0) entries))) is
        ∙ ap (λ (ks : List (List ℕ)). entry.0 ∷ ks) later
        ∙ ap (λ b. cond b (entry.0 ∷ filter p (keys_of entries)) (filter p (keys_of entries))) (sym is)
    by later false is =
        ap (λ b. keys_of (cond b (entry ∷ filter (λ e. p e.0) entries) (filter (λ e. p e.0) entries))) is
        ∙ later
        ∙ ap (λ b. cond b (entry.0 ∷ filter p (keys_of entries)) (filter p (keys_of entries))) (sym is)

in_order : (p : List ℕ → Bool) (entries : Entries) → AreEntries entries → AreEntries (filter (λ entry. p entry.0) entries)
in_order p entries order =
    subst (IsStrictlySortedBy R) (sym (keys_filter p entries)) (IsStrictlySortedBy-filter R p (keys_of entries) order)

passing : (p q : List ℕ → Bool) → ((k : List ℕ) → p k ≡ true → q k ≡ true) → (ks : List (List ℕ)) →
    AllByRecursion (λ k. q k ≡ true) (filter p ks)
passing p q implies [] = tt
passing p q implies (k ∷ ks) = by (passing p q implies ks) (p k) refl
  where
    by : AllByRecursion (λ k. q k ≡ true) (filter p ks) → (b : Bool) → p k ≡ b →
        AllByRecursion (λ k. q k ≡ true) (filter p (k ∷ ks))
    by later true is =
        subst (λ b. AllByRecursion (λ k. q k ≡ true) (cond b (k ∷ filter p ks) (filter p ks))) (sym is)
        (implies k is, later)
    by later false is =
        subst (λ b. AllByRecursion (λ k. q k ≡ true) (cond b (k ∷ filter p ks) (filter p ks))) (sym is) later

all_less : (key : List ℕ) (ks : List (List ℕ)) → AllByRecursion (λ k. is_below key k ≡ true) ks →
    AllByRecursion (λ k. R key k ≡ Less) ks
all_less key [] all = tt
all_less key (k ∷ ks) all = (less (R key k) all.0, all_less key ks all.1)

second_true : (a b : Bool) → (a && b) ≡ true → b ≡ true
second_true true b h = h
second_true false b h = absurd (false≢true h)

-- what is still to come above a key follows that key
pub follows : (span : Span) (key : List ℕ) (message : Message) (entries : Entries) → AreEntries entries →
    AreEntries ((key, message) ∷ to_come span (Some key) entries)
follows span key message entries order =
    in_front key message (to_come span (Some key) entries) (in_order (is_next span (Some key)) entries order)
    (all_less key (keys_of (to_come span (Some key) entries))
    (subst (AllByRecursion (λ k. is_below key k ≡ true)) (sym (keys_filter (is_next span (Some key)) entries))
    (passing (is_next span (Some key)) (is_below key) (λ k is. second_true (in_span span k) (is_below key k) is) (keys_of entries))))

none_wanted : (i : ℕ) → ¬ (IsWanted [] i)
none_wanted i is = no is.1
  where
    no : None ≡ Some i → ⊥
    no e = cc

-- where all entries are given that are wanted, the scans follow the heads
pub joined_streams : (tells : Bool) (streams : Streams) → AreJoined tells streams → tells ≡ true → streams.merger.wanted ≡ [] →
    AreStreams streams.merger.heads (following streams.scans)
joined_streams tells streams joined told given =
    are_streams streams.merger.heads (following streams.scans)
    (sym joined.count ∙ sym (length-map streams.scans left_of)) each
  where
    unwanted : (i : ℕ) → ¬ (IsWanted streams.merger.wanted i)
    unwanted i is = none_wanted i (subst (λ (ws : List ℕ). IsWanted ws i) given is)

    follow : (i : ℕ) (head : Head) (scan : Scan) → slice_get streams.merger.heads i ≡ Some head →
        slice_get streams.scans i ≡ Some scan → Follow head (left_of scan)
    follow i None scan at is = (joined.told told).ended i scan is at (unwanted i)
    follow i (Some entry) scan at is =
        let last = (joined.heads i scan entry is at).0 in
        subst (λ (l : Option (List ℕ)). AreEntries (entry ∷ to_come scan.span l (entries_in scan.branch))) (sym last)
        (follows scan.span entry.0 entry.1 (entries_in scan.branch) ((joined.told told).order i scan is))

    each : (i : ℕ) (head : Head) (entries : Entries) → slice_get streams.merger.heads i ≡ Some head →
        slice_get (following streams.scans) i ≡ Some entries → Follow head entries
    each i head entries at is =
        let scan = of_map left_of streams.scans i entries is in
        subst (Follow head) scan.2 (follow i head scan.0 at scan.1)

-- ---- the heads behind a step

left_head : (key : List ℕ) (head : Head) (entry : List ℕ × Message) → cond (has_key key head) None head ≡ Some entry → head ≡ Some entry
left_head key None entry is = is
left_head key (Some other) entry is = by (same_key other.0 key) refl
  where
    by : (b : Bool) → same_key other.0 key ≡ b → Some other ≡ Some entry
    by true has = cc (sym (ap (λ (b : Bool). cond {A = Head} b None (Some other)) has) ∙ is)
    by false has = sym (ap (λ (b : Bool). cond {A = Head} b None (Some other)) has) ∙ is

-- a stream has no head behind a step: it had none, or it had one of the key
gone_head : (key : List ℕ) (s : ℕ) (heads : List Head) (i : ℕ) (head : Head) → slice_get heads i ≡ Some head →
    cond (has_key key head) None head ≡ None → ¬ (IsWanted (streams_at key heads) i) → head ≡ None
gone_head key s heads i None at is unwanted = refl
gone_head key s heads i (Some entry) at is unwanted = by (same_key entry.0 key) refl
  where
    by : (b : Bool) → same_key entry.0 key ≡ b → Some entry ≡ None
    by true has =
        let wanted = from_all 0 key heads i entry at has in
        absurd (unwanted (wanted.0, wanted.1 ∙ ap Some (omega arith)))
    by false has = sym (ap (λ (b : Bool). cond {A = Head} b None (Some entry)) has) ∙ is

module _ (tells : Bool) (streams : Streams) (joined : AreJoined tells streams) (given : streams.merger.wanted ≡ [])
    (key : List ℕ) where
  abbrev heads : List Head
  heads = streams.merger.heads

  taken_none : (i : ℕ) → IsWanted (streams_at key heads) i → slice_get (without key heads) i ≡ Some None
  taken_none i is =
      let had = taken_had key heads is.0 i is.1 in
      let same : same_key had.0.0 key ≡ true = (bytes_eq-Decides had.0.0 key).1 had.2 in
      head_after key heads i (Some had.0) had.1
      ∙ ap (λ (b : Bool). Some (cond {A = Head} b None (Some had.0))) same

  pub behind_joined : AreJoined tells (record { scans = streams.scans; merger = behind key streams.merger })
  behind_joined = record {
    count = joined.count ∙ sym (length-map heads (λ head. cond (has_key key head) None head));
    spans = joined.spans;
    heads = λ i scan entry is at.
        let head = of_map (λ (head : Head). cond (has_key key head) None head) heads i (Some entry) at in
        joined.heads i scan entry is (head.1 ∙ ap Some (left_head key head.0 entry head.2));
    headless = taken_none;
    last = λ i scan is wanted.
        let had = taken_had key heads wanted.0 i wanted.1 in
        (joined.heads i scan had.0 is had.1).0 ∙ ap Some had.2;
    once = λ i j k first second. from_once 0 key heads i j k first second;
    told = λ told. record {
      order = (joined.told told).order;
      ended = λ i scan is at unwanted.
          let head = of_map (λ (head : Head). cond (has_key key head) None head) heads i None at in
          let none = gone_head key 0 heads i head.0 head.1 head.2 unwanted in
          (joined.told told).ended i scan is (head.1 ∙ ap Some none)
          (λ wanted. none_wanted i (subst (λ (ws : List ℕ). IsWanted ws i) given wanted));
    };
  }

-- behind each step that takes no failure the streams stand joined
pub stepped_joined : {E : Type 0} (tells : Bool) (scans : List Scan) (old new : Merger) (rule : Rule) (result : Result Step E) →
    AreJoined tells (record { scans = scans; merger = old }) → old.wanted ≡ [] → Steps rule old result new → new.failed ≡ false →
    AreJoined tells (record { scans = scans; merger = new })
stepped_joined tells scans old new rule (Ok Ended) joined given steps sound =
    subst (λ (m : Merger). AreJoined tells (record { scans = scans; merger = m })) (sym steps.1) joined
stepped_joined tells scans old new rule (Ok Dropped) joined given steps sound =
    subst (λ (m : Merger). AreJoined tells (record { scans = scans; merger = m })) (sym steps.3)
    (behind_joined tells (record { scans = scans; merger = old }) joined given steps.0)
stepped_joined tells scans old new rule (Ok (Entry key message)) joined given steps sound =
    subst (λ (m : Merger). AreJoined tells (record { scans = scans; merger = m })) (sym steps.2)
    (behind_joined tells (record { scans = scans; merger = old }) joined given key)
stepped_joined tells scans old new rule (Err error) joined given steps sound = absurd (false≢true (sym sound ∙ steps))
