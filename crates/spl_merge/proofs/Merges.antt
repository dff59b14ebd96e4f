-- A step of a merge: what it answers, with the merge of what is left, is the merge of what was left before.
use Rattle.std.proofs.Common.{◌≡◌, ℕ, suc, Bool, true, false, cond, List, [], ◌∷◌, ◌++◌, map, Option, Some, None, option_to_list, Ordering, refl, ap, ◌∙◌, sym, subst}
use Rattle.std.proofs.lemmas.Bool.{false≢true}
use Rattle.std.proofs.lemmas.Cmp.{nat_list_cmp_total, tied_itself}
use Rattle.std.proofs.lemmas.Map.Entries.{lookup_head, lookup_tail}
use Rattle.std.proofs.lemmas.Map.Keys.{sorted_head}
use Rattle.std.proofs.lemmas.Map.Text.{is_eq-slice_cmp}
use Rattle.std.proofs.lemmas.Slice.Eq.{bytes_eq-Decides}
use Rattle.std.specs.declared.cmp.Ordering.TheVariants.{Less, Equal, Greater}
use Rattle.std.specs.BTreeMap.{is_at}
use Rattle.std.specs.Cmp.Lexicographic.{slice_cmp}
use Rattle.std.specs.List.{AllByRecursion}
use Rattle.std.specs.List.Sorted.{IsStrictlySortedBy}
use Rattle.std.specs.Map.{keys_of}
use Rattle.std.specs.Option.{IfSome}
use Rattle.std.specs.Ordering.{nat_cmp, is_eq, is_lt, ordering_reverse}
use Rattle.spl_message.specs.declared.message.Message.{Message}
use Rattle.spl_message.specs.declared.span.Span.{Span}
use Rattle.spl_message.specs.Entries.{Entries, AreEntries, message_in}
use Rattle.spl_message.specs.Key.{is_below, same_key}
use Rattle.spl_message.specs.Message.{combine_all}
use Rattle.spl_message.specs.Rule.{Rule}
use Rattle.spl_message.specs.Span.{in_span}
use Rattle.spl_message.specs.Table.{Table, IsMerged, as_table, chain, kept, merged}
use Rattle.spl_merge.specs.Merger.{AreFrom, Head, IsAbove, IsLeast, Merger, answer_of, at_key, behind, has_key, kept_at, messages_at, streams_at, taken_at, without}
use Rattle.spl_merge.specs.Merging.{AreStreams, IsMergedSoFar, built_by, left_of}

abbrev R : List ℕ → List ℕ → Ordering
R = slice_cmp nat_cmp

less : (o : Ordering) → is_lt o ≡ true → o ≡ Less
less Less h = refl
less Equal h = absurd (false≢true h)
less Greater h = absurd (false≢true h)

same_bytes : (xs ys : List ℕ) → same_key xs ys ≡ true → xs ≡ ys
same_bytes xs ys is = (bytes_eq-Decides xs ys).0 is

itself : (key : List ℕ) → same_key key key ≡ true
itself key = (bytes_eq-Decides key key).1 refl

not_below_itself : (key : List ℕ) → is_below key key ≡ false
not_below_itself key = ap is_lt (tied_itself nat_list_cmp_total key)

-- the search for a key finds it where the bytes are the same
found : (key other : List ℕ) (b : Bool) → same_key key other ≡ b → is_at (R key) other ≡ b
found key other b is = is_eq-slice_cmp key other ∙ is

turned : (key other : List ℕ) → same_key key other ≡ false → same_key other key ≡ false
turned key other is = by (same_key other key) refl
  where
    by : (b : Bool) → same_key other key ≡ b → same_key other key ≡ false
    by true h = absurd (false≢true (sym is ∙ ap (same_key key) (same_bytes other key h) ∙ itself key))
    by false h = h

-- a key that is not below another and not the same is above it
above_other : (first key : List ℕ) → is_below first key ≡ false → same_key first key ≡ false →
    is_below key first ≡ true
above_other first key not_below other = by (R first key) refl
  where
    by : (o : Ordering) → R first key ≡ o → is_below key first ≡ true
    by Less is = absurd (false≢true (sym not_below ∙ ap is_lt is))
    by Equal is = absurd (false≢true (sym other ∙ sym (is_eq-slice_cmp first key) ∙ ap is_eq is))
    by Greater is = ap is_lt (nat_list_cmp_total.antisymm key first ∙ ap ordering_reverse is)

-- what is not above a key is below whatever the key is below
not_above : (key q other : List ℕ) → is_below key q ≡ false → is_below key other ≡ true →
    is_below q other ≡ true
not_above key q other past above = by (R key q) refl
  where
    by : (o : Ordering) → R key q ≡ o → is_below q other ≡ true
    by Less is = absurd (false≢true (sym past ∙ ap is_lt is))
    by Equal is = ap is_lt (sym (nat_list_cmp_total.congr key q other is)) ∙ above
    by Greater is =
        let before : R q key ≡ Less = nat_list_cmp_total.antisymm q key ∙ ap ordering_reverse is in
        ap is_lt (nat_list_cmp_total.trans q key other before (less (R key other) above))

below_differs : (q other : List ℕ) → is_below q other ≡ true → same_key q other ≡ false
below_differs q other below = sym (is_eq-slice_cmp q other) ∙ ap is_eq (less (R q other) below)

-- among keys that are all above one, none is found that is not above it
none_among : (key q : List ℕ) (es : Entries) → is_below key q ≡ false →
    AllByRecursion (λ y. R key y ≡ Less) (keys_of es) → message_in es q ≡ None
none_among key q [] past all = refl
none_among key q (e ∷ es) past all =
    lookup_tail (is_at (R q)) e es (found q e.0 false
    (below_differs q e.0 (not_above key q e.0 past (ap is_lt all.0)))) ∙ none_among key q es past all.1

-- nor in a stream whose head is above it
none_in_stream : (q : List ℕ) (e : List ℕ × Message) (es : Entries) → is_below q e.0 ≡ true →
    AreEntries (e ∷ es) → message_in (e ∷ es) q ≡ None
none_in_stream q e es below order =
    lookup_tail (is_at (R q)) e es (found q e.0 false (below_differs q e.0 below))
    ∙ none_among e.0 q es (not_less (R q e.0) (less (R q e.0) below)) (sorted_head R e.0 (keys_of es) order)
  where
    not_less : (o : Ordering) → o ≡ Less → is_below e.0 q ≡ false
    not_less o is = ap is_lt (nat_list_cmp_total.antisymm e.0 q ∙ ap ordering_reverse (less (R q e.0) below))

-- one stream more in a chain
abbrev chain_of : Option Message → List Message → List Message
chain_of found rest = option_to_list found ++ rest

module _ (key : List ℕ) where
  -- the messages of the least key are those of the heads
  chain_at : (s : ℕ) (heads : List Head) (following : List Entries) → AreStreams heads following →
      AreFrom key heads →
      chain (left_of heads following) key ≡ map (λ head. head.1) (at_key s key heads)
  chain_at s [] [] streams from = refl
  chain_at s [] (es ∷ following) streams from = absurd streams
  chain_at s (head ∷ heads) [] streams from = absurd (no_stream head heads streams)
    where
      no_stream : (head : Head) (heads : List Head) → AreStreams (head ∷ heads) [] → ⊥
      no_stream None heads h = h
      no_stream (Some e) heads h = h
  chain_at s (None ∷ heads) (es ∷ following) streams from =
      ap (λ (entries : Entries). chain_of (message_in entries key) (chain (left_of heads following) key))
      streams.0
      ∙ chain_at (suc s) heads following streams.1 from.1
  chain_at s (Some e ∷ heads) (es ∷ following) streams from =
      by (chain_at (suc s) heads following streams.1 from.1) (same_key e.0 key) refl
    where
      by : chain (left_of heads following) key ≡ map (λ head. head.1) (at_key (suc s) key heads) →
          (b : Bool) → same_key e.0 key ≡ b →
          chain_of (message_in (e ∷ es) key) (chain (left_of heads following) key) ≡ map (λ head. head.1)
          (at_key s key (Some e ∷ heads))
      by rest true is =
          let here : message_in (e ∷ es) key ≡ Some e.1 =
          lookup_head (is_at (R key)) e es (found key e.0 true (ap (same_key key) (same_bytes e.0 key is)
          ∙ itself key)) in
          ap (λ found. chain_of found (chain (left_of heads following) key)) here
          ∙ ap (λ messages. e.1 ∷ messages) rest
          ∙ ap (λ b. map (λ (head : ℕ × Message). head.1)
          (cond b ((s, e.1) ∷ at_key (suc s) key heads) (at_key (suc s) key heads))) (sym is)
      by rest false is =
          let here : message_in (e ∷ es) key ≡ None =
          none_in_stream key e es (above_other e.0 key from.0 is) streams.0 in
          ap (λ found. chain_of found (chain (left_of heads following) key)) here
          ∙ rest
          ∙ ap (λ b. map (λ (head : ℕ × Message). head.1)
          (cond b ((s, e.1) ∷ at_key (suc s) key heads) (at_key (suc s) key heads))) (sym is)

  -- of other keys nothing is taken
  chain_other : (q : List ℕ) (heads : List Head) (following : List Entries) → same_key q key ≡ false →
      chain (left_of (without key heads) following) q ≡ chain (left_of heads following) q
  chain_other q [] following other = refl
  chain_other q (head ∷ heads) [] other = refl
  chain_other q (None ∷ heads) (es ∷ following) other =
      ap (chain_of (message_in es q)) (chain_other q heads following other)
  chain_other q (Some e ∷ heads) (es ∷ following) other =
      by (chain_other q heads following other) (same_key e.0 key) refl
    where
      by : chain (left_of (without key heads) following) q ≡ chain (left_of heads following) q → (b : Bool) →
          same_key e.0 key ≡ b →
          chain (left_of (without key (Some e ∷ heads)) (es ∷ following)) q ≡ chain_of (message_in (e ∷ es) q)
          (chain (left_of heads following) q)
      by rest true is =
          let passed : message_in (e ∷ es) q ≡ message_in es q =
          lookup_tail (is_at (R q)) e es (found q e.0 false (ap (same_key q) (same_bytes e.0 key is)
          ∙ other)) in
          ap (λ b. chain (left_of (cond b None (Some e) ∷ without key heads) (es ∷ following)) q) is
          ∙ ap (λ found. chain_of found (chain (left_of (without key heads) following) q)) (sym passed)
          ∙ ap (chain_of (message_in (e ∷ es) q)) rest
      by rest false is =
          ap (λ b. chain (left_of (cond b None (Some e) ∷ without key heads) (es ∷ following)) q) is
          ∙ ap (chain_of (message_in (e ∷ es) q)) rest

  -- and what is left is all above the key
  chain_none : (q : List ℕ) (heads : List Head) (following : List Entries) → is_below key q ≡ false →
      AreStreams heads following → AreFrom key heads →
      chain (left_of (without key heads) following) q ≡ []
  chain_none q [] following past streams from = refl
  chain_none q (head ∷ heads) [] past streams from = refl
  chain_none q (None ∷ heads) (es ∷ following) past streams from =
      ap (λ (entries : Entries). chain_of (message_in entries q)
      (chain (left_of (without key heads) following) q)) streams.0
      ∙ chain_none q heads following past streams.1 from.1
  chain_none q (Some e ∷ heads) (es ∷ following) past streams from =
      by (chain_none q heads following past streams.1 from.1) (same_key e.0 key) refl
    where
      by : chain (left_of (without key heads) following) q ≡ [] → (b : Bool) → same_key e.0 key ≡ b →
          chain (left_of (without key (Some e ∷ heads)) (es ∷ following)) q ≡ []
      by rest true is =
          let head : AllByRecursion (λ y. R e.0 y ≡ Less) (keys_of es) =
          sorted_head R e.0 (keys_of es) streams.0 in
          let above : AllByRecursion (λ y. R key y ≡ Less) (keys_of es) =
          subst (λ (k : List ℕ). AllByRecursion (λ y. R k y ≡ Less) (keys_of es)) (same_bytes e.0 key is)
          head in
          ap (λ b. chain (left_of (cond b None (Some e) ∷ without key heads) (es ∷ following)) q) is
          ∙ ap (λ found. chain_of found (chain (left_of (without key heads) following) q))
          (none_among key q es past above)
          ∙ rest
      by rest false is =
          let below : is_below q e.0 ≡ true = not_above key q e.0 past (above_other e.0 key from.0 is) in
          ap (λ b. chain (left_of (cond b None (Some e) ∷ without key heads) (es ∷ following)) q) is
          ∙ ap (λ found. chain_of found (chain (left_of (without key heads) following) q))
          (none_in_stream q e es below streams.0)
          ∙ rest

  -- where no key is found that is not above the key, all are above it
  all_above : (es : Entries) → ((q : List ℕ) → is_below key q ≡ false → message_in es q ≡ None) →
      AllByRecursion (λ y. R key y ≡ Less) (keys_of es)
  all_above [] none = tt
  all_above (e ∷ es) none = (by (is_below key e.0) refl, all_above es later)
    where
      here : message_in (e ∷ es) e.0 ≡ Some e.1
      here = lookup_head (is_at (R e.0)) e es (found e.0 e.0 true (itself e.0))

      by : (b : Bool) → is_below key e.0 ≡ b → R key e.0 ≡ Less
      by true is = less (R key e.0) is
      by false is = cc (here, none e.0 is)

      later : (q : List ℕ) → is_below key q ≡ false → message_in es q ≡ None
      later q past = tail (is_at (R q) e.0) refl
        where
          tail : (b : Bool) → is_at (R q) e.0 ≡ b → message_in es q ≡ None
          tail true is = cc (none q past, lookup_head (is_at (R q)) e es is)
          tail false is = sym (lookup_tail (is_at (R q)) e es is) ∙ none q past

  -- with the key in front
  pub in_front : (message : Message) (es : Entries) → AreEntries es →
      AllByRecursion (λ y. R key y ≡ Less) (keys_of es) → AreEntries ((key, message) ∷ es)
  unfolding IsStrictlySortedBy
  in_front message es order above = (above, order)

nothing_kept : (rule : Rule) (bottom : Bool) (key : List ℕ) → kept rule bottom key None ≡ None
nothing_kept rule true key = refl
nothing_kept rule false key = refl

-- a key without messages has none in the merge
pub merged_none : (rule : Rule) (tables : List Table) (span : Span) (bottom : Bool) (key : List ℕ) →
    chain tables key ≡ [] → merged rule tables span bottom key ≡ None
merged_none rule tables span bottom key none =
    ap (λ (messages : List Message). cond (in_span span key)
    (kept rule bottom key (combine_all rule key messages)) None) none
    ∙ ap (λ message. cond (in_span span key) message None) (nothing_kept rule bottom key)
    ∙ both_none (in_span span key)
  where
    both_none : (b : Bool) → cond {A = Option Message} b None None ≡ None
    both_none true = refl
    both_none false = refl

-- what is kept of the key
abbrev pub entry_of : List ℕ → Option Message → Entries
entry_of key None = []
entry_of key (Some message) = (key, message) ∷ []

module _ (rule : Rule) (span : Span) (bottom : Bool) (heads : List Head) (following : List Entries)
    (key : List ℕ)
    (streams : AreStreams heads following) (from : AreFrom key heads) (rest : Entries)
    (is : IsMerged rule (left_of (without key heads) following) span bottom (as_table rest)) where
  nothing_before : (q : List ℕ) → is_below key q ≡ false → message_in rest q ≡ None
  nothing_before q past = is.messages q ∙ merged_none rule (left_of (without key heads) following) span bottom
      q (chain_none key q heads following past streams from)

  others_alike : (q : List ℕ) → same_key q key ≡ false →
      message_in rest q ≡ merged rule (left_of heads following) span bottom q
  others_alike q other =
      is.messages q ∙ ap (λ (messages : List Message). cond (in_span span q)
      (kept rule bottom q (combine_all rule q messages)) None) (chain_other key q heads following other)

  of_key : cond (in_span span key) (kept rule bottom key (combine_all rule key (messages_at key heads)))
      None ≡ merged rule (left_of heads following) span bottom key
  of_key = ap (λ (messages : List Message). cond (in_span span key)
      (kept rule bottom key (combine_all rule key messages)) None)
      (sym (chain_at key 0 heads following streams from))

  merged_with : (message : Option Message) → message ≡ merged rule (left_of heads following) span bottom key →
      IsMerged rule (left_of heads following) span bottom (as_table (entry_of key message ++ rest))
  merged_with None nothing = record {
    order = is.order;
    messages = λ q. by q (same_key q key) refl;
  }
    where
      by : (q : List ℕ) (b : Bool) → same_key q key ≡ b →
          message_in rest q ≡ merged rule (left_of heads following) span bottom q
      by q true same = subst (λ (k : List ℕ). message_in rest k ≡ merged rule (left_of heads following) span
          bottom k) (sym (same_bytes q key same))
          (nothing_before key (not_below_itself key) ∙ nothing)
      by q false other = others_alike q other
  merged_with (Some message) some = record {
    order = in_front key message rest is.order (all_above key rest nothing_before);
    messages = λ q. by q (same_key q key) refl;
  }
    where
      by : (q : List ℕ) (b : Bool) → same_key q key ≡ b →
          message_in ((key, message) ∷ rest) q ≡ merged rule (left_of heads following) span bottom q
      by q true same = subst (λ (k : List ℕ). message_in ((key, message) ∷ rest) k ≡ merged rule
          (left_of heads following) span bottom k) (sym (same_bytes q key same))
          (lookup_head (is_at (R key)) (key, message) rest (found key key true (itself key)) ∙ some)
      by q false other = lookup_tail (is_at (R q)) (key, message) rest (found q key false other)
          ∙ others_alike q other

-- what a step answers goes before the merge of what is left
pub merged_step : (rule : Rule) (span : Span) (bottom : Bool) (heads : List Head) (following : List Entries)
    (key : List ℕ) (message : Option Message) →
    AreStreams heads following → AreFrom key heads →
    cond (in_span span key) (kept rule bottom key (combine_all rule key (messages_at key heads)))
    None ≡ message →
    IsMergedSoFar rule (left_of heads following) span bottom (entry_of key message)
    (left_of (without key heads) following)
merged_step rule span bottom heads following key message streams from kept_is rest is =
    merged_with rule span bottom heads following key streams from rest is message (sym kept_is
    ∙ of_key rule span bottom heads following key streams from rest is)

pub merged_answer : (rule : Rule) (old new : Merger) (key : List ℕ) (message : Option Message) →
    IsLeast key old.heads → message ≡ kept_at rule old key → new ≡ behind key old →
    (following : List Entries) → AreStreams old.heads following →
    IsMergedSoFar rule (left_of old.heads following) old.span old.bottom (built_by (answer_of key message))
    (left_of new.heads following)
merged_answer rule old new key None least is new_is following streams =
    subst (λ (m : Merger). IsMergedSoFar rule (left_of old.heads following) old.span old.bottom []
    (left_of m.heads following)) (sym new_is)
    (merged_step rule old.span old.bottom old.heads following key None streams least.least (sym is))
merged_answer rule old new key (Some message) least is new_is following streams =
    subst (λ (m : Merger). IsMergedSoFar rule (left_of old.heads following) old.span old.bottom
    ((key, message) ∷ []) (left_of m.heads following)) (sym new_is)
    (merged_step rule old.span old.bottom old.heads following key (Some message) streams least.least (sym is))

pub behind_is : (key : List ℕ) (old taken new : Merger) (failed : Bool) → old.wanted ≡ [] →
    old.failed ≡ false → taken ≡ taken_at key old → failed ≡ false →
    new ≡ record taken { last = Some key; failed = failed } → new ≡ behind key old
behind_is key old taken new failed given sound taken_is well is =
    is ∙ ap (λ (m : Merger). record m { last = Some key; failed = failed }) taken_is
    ∙ ap (λ (b : Bool). record (taken_at key old) { last = Some key; failed = b }) (well ∙ sym sound)
    ∙ ap (λ (ws : List ℕ). record (behind key old) { wanted = ws ++ streams_at key old.heads }) given

-- the heads that are left are above the key
pub passed_above : (key : List ℕ) (heads : List Head) → AreFrom key heads →
    AllByRecursion (λ head. IfSome head (λ entry. IsAbove (Some key) entry.0)) (without key heads)
passed_above key [] from = tt
passed_above key (None ∷ heads) from = (tt, passed_above key heads from.1)
passed_above key (Some e ∷ heads) from = (by (same_key e.0 key) refl, passed_above key heads from.1)
  where
    by : (b : Bool) → same_key e.0 key ≡ b → IfSome (cond (has_key key (Some e)) None (Some e))
        (λ entry. IsAbove (Some key) entry.0)
    by true is = subst (λ (b : Bool). IfSome (cond {A = Head} b None (Some e))
        (λ entry. IsAbove (Some key) entry.0)) (sym is) tt
    by false is = subst (λ (b : Bool). IfSome (cond {A = Head} b None (Some e))
        (λ entry. IsAbove (Some key) entry.0)) (sym is) (above_other e.0 key from.0 is)
