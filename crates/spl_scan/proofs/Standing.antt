-- Where a scan stands: at its begin, after a look at the page at hand, and at the next page.
use Rattle.std.proofs.Common.{◌≡◌, ℕ, zero, suc, ◌+◌, ◌≤◌, Bool, true, false, ◌&&◌, cond, not, List, [], ◌∷◌, ◌++◌, map, take, drop, flat_map, Option, Some, None, refl, ap, ◌∙◌, sym, subst, arith, take-append-drop}
use Rattle.std.proofs.lemmas.Bool.{false≢true}
use Rattle.std.proofs.lemmas.Grind.{flat_map-append}
use Rattle.std.proofs.lemmas.Map.Keys.{sorted_tail}
use Rattle.std.specs.Arc.{arc_value}
use Rattle.std.specs.declared.sync.Arc.{Arc}
use Rattle.std.specs.Cmp.Lexicographic.{slice_cmp}
use Rattle.std.specs.List.{slice_get}
use Rattle.std.specs.Map.{keys_of}
use Rattle.std.specs.Ordering.{nat_cmp}
use Rattle.spl_message.specs.declared.message.Message.{Message}
use Rattle.spl_message.specs.declared.span.Span.{Span}
use Rattle.spl_message.specs.Entries.{Entries, AreEntries}
use Rattle.spl_message.specs.Key.{is_below}
use Rattle.spl_message.specs.Span.{is_before, is_from}
use Rattle.spl_page.specs.declared.any_page.AnyPage.{AnyPage}
use Rattle.spl_page.specs.AnyPage.{shown_of}
use Rattle.spl_page.specs.Tables.{leaf_table}
use Rattle.spl_branch.specs.Branch.{Branch, entries_in}
use Rattle.spl_branch.specs.Leaves.{are_below, leaf_tables}
use Rattle.spl_scan.specs.declared.met.Met.TheVariants.{Entry, Past}
use Rattle.spl_scan.specs.Scan.{Gives, IsAhead, Looks, SamePlace, Scan, Stands, left_of, pages_from, rest_of}
use Rattle.spl_scan.specs.Search.{IsMet, found, is_after, is_next, over, past, search, to_come}
use Rattle.spl_scan.proofs.Ahead.{search_found, search_next, search_over, search_past, steps_to}

suffix : (front rest : Entries) → AreEntries (front ++ rest) → AreEntries rest
suffix [] rest order = order
suffix (entry ∷ front) rest order = suffix front rest
    (sorted_tail (slice_cmp nat_cmp) entry.0 (keys_of (front ++ rest)) order)

-- below the start of the span nothing comes
none_below : (span : Span) (last : Option (List ℕ)) (from : List ℕ) (entries : Entries) →
    span.from ≡ Some from → are_below entries from ≡ true → to_come span last entries ≡ []
none_below span last from [] is below = refl
none_below span last from (entry ∷ entries) is below =
    by (none_below span last from entries is) (is_below entry.0 from) refl
  where
    rest : Entries
    rest = to_come span last entries

    by : (are_below entries from ≡ true → rest ≡ []) → (b : Bool) → is_below entry.0 from ≡ b →
        to_come span last (entry ∷ entries) ≡ []
    by later true here =
        let start : is_from span.from entry.0 ≡ false = ap (λ (f : Option (List ℕ)). is_from f entry.0) is
        ∙ ap not here in
        ap (λ b. cond ((b && is_before span.to entry.0) && is_after last entry.0) (entry ∷ rest) rest) start
        ∙ later (sym (ap (λ b. b && are_below entries from) here) ∙ below)
    by later false here = absurd (false≢true (sym (ap (λ b. b && are_below entries from) here) ∙ below))

-- from the first leaf page on that has an entry of the span
pub begins_at : (branch : Branch) (span : Span) (last : Option (List ℕ)) (from : List ℕ) (number : ℕ) →
    AreEntries (entries_in branch) →
    entries_in branch ≡ flat_map (λ (entries : Entries). entries) (leaf_tables branch) →
    span.from ≡ Some from →
    are_below (flat_map (λ (entries : Entries). entries) (take number (leaf_tables branch))) from ≡ true →
    IsAhead span last (entries_in branch) (pages_from branch number)
begins_at branch span last from number order all is below = record {
  order = suffix front (pages_from branch number) (subst AreEntries split order);
  same = ap (to_come span last) split ∙ passed front (pages_from branch number)
      (none_below span last from front is below);
}
  where
    front : Entries
    front = flat_map (λ (entries : Entries). entries) (take number (leaf_tables branch))

    split : entries_in branch ≡ front ++ pages_from branch number
    split = all ∙ ap (flat_map (λ (entries : Entries). entries))
        (sym (take-append-drop number (leaf_tables branch)))
        ∙ flat_map-append (λ (entries : Entries). entries) (take number (leaf_tables branch))
        (drop number (leaf_tables branch))

    passed : (front rest : Entries) → to_come span last front ≡ [] →
        to_come span last (front ++ rest) ≡ to_come span last rest
    passed [] rest none = refl
    passed (entry ∷ front) rest none = by (passed front rest) (is_next span last entry.0) refl
      where
        by : (to_come span last front ≡ [] → to_come span last (front ++ rest) ≡ to_come span last rest) →
            (b : Bool) → is_next span last entry.0 ≡ b →
            to_come span last (entry ∷ (front ++ rest)) ≡ to_come span last rest
        by later true next = cc (
          none,
          ap (λ b. cond b (entry ∷ to_come span last front)
              (to_come span last front)) next,
        )
        by later false next =
            ap (λ b. cond b (entry ∷ to_come span last (front ++ rest)) (to_come span last (front ++ rest)))
            next
            ∙ later (sym (ap (λ b. cond b (entry ∷ to_come span last front) (to_come span last front)) next)
            ∙ none)

-- an open start is before all
pub begins_open : (branch : Branch) (span : Span) (last : Option (List ℕ)) → AreEntries (entries_in branch) →
    entries_in branch ≡ flat_map (λ (entries : Entries). entries) (leaf_tables branch) →
    IsAhead span last (entries_in branch) (pages_from branch 0)
begins_open branch span last order all = record {
  order = subst AreEntries all order;
  same =
      ap (to_come span last) all;
}

next_page : (tables : List Entries) (n : ℕ) (table : Entries) → slice_get tables n ≡ Some table →
    flat_map (λ (entries : Entries). entries) (drop n tables) ≡ table ++ flat_map
    (λ (entries : Entries). entries) (drop (n + 1) tables)
next_page [] n table is = cc
next_page (first ∷ tables) zero table is =
    let same : first ≡ table = cc in
    ap (λ (entries : Entries). entries ++ flat_map (λ (es : Entries). es) tables) same
next_page (first ∷ tables) (suc n) table is =
    let further : drop (n + 1) tables ≡ drop (suc n + 1) (first ∷ tables) =
    ap (λ m. drop m (first ∷ tables)) (more n) in
    next_page tables n table is ∙ ap (λ (ts : List Entries). table ++ flat_map (λ (es : Entries). es) ts)
    further
  where
    more : (n : ℕ) → suc (n + 1) ≡ suc n + 1
    more n = omega arith

-- at the next page, where the one at hand has nothing more
pub turns_to : (branch : Branch) (span : Span) (last : Option (List ℕ)) (number : ℕ)
    (all here table : Entries) → IsAhead span last all (here ++ pages_from branch number) →
    search span last here ≡ over → slice_get (leaf_tables branch) number ≡ Some table →
    IsAhead span last all (table ++ pages_from branch (number + 1))
turns_to branch span last number all here table is nothing page =
    subst (IsAhead span last all) (next_page (leaf_tables branch) number table page)
    (record {
      order = suffix here (pages_from branch number) is.order;
      same = is.same
          ∙ search_over span last here (pages_from branch number) nothing;
    })

no_tables : {X Y : Type 0} (f : X → Y) (m n : ℕ) (xs : List X) → m ≤ n → drop n (map f (take m xs)) ≡ []
no_tables f zero n xs within = none n
  where
    none : {Y : Type 0} (n : ℕ) → drop {A = Y} n [] ≡ []
    none zero = refl
    none (suc n) = refl
no_tables f (suc m) n [] within = none n
  where
    none : {Y : Type 0} (n : ℕ) → drop {A = Y} n [] ≡ []
    none zero = refl
    none (suc n) = refl
no_tables f (suc m) zero (x ∷ xs) within = absurd (omega arith)
no_tables f (suc m) (suc n) (x ∷ xs) within = no_tables f m n xs (omega arith)

-- behind the last page nothing comes
pub ends_at : (branch : Branch) (span : Span) (last : Option (List ℕ)) (number : ℕ) (all here : Entries) →
    IsAhead span last all (here ++ pages_from branch number) →
    search span last here ≡ over → branch.leaves ≤ number → to_come span last all ≡ []
ends_at branch span last number all here is nothing end =
    is.same ∙ search_over span last here (pages_from branch number) nothing
    ∙ ap (λ (ts : List Entries). to_come span last (flat_map (λ (es : Entries). es) ts))
    (no_tables _ branch.leaves number _ end)

module _ (tells : Bool) (old : Scan) (stands : Stands tells old) (begun : old.begun ≡ true) where
  more : Entries
  more = pages_from old.branch old.pages

  -- an entry was met
  module _ (key : List ℕ) (message : Message) (next : ℕ) (rest : Entries)
      (is : search old.span old.last old.here ≡ found (key, message) rest) where
    entry_steps : tells ≡ true → IsAhead old.span (Some key) (entries_in old.branch)
        (rest ++ pages_from old.branch old.pages)
        × (left_of old ≡ (key, message) ∷ to_come old.span (Some key) (entries_in old.branch))
    entry_steps told =
        let ahead = stands.told told begun in
        let first = search_found old.span old.last old.here (pages_from old.branch old.pages) (key, message)
        rest is ahead.order in
        steps_to old.span old.last (key, message) (search_next old.span old.last old.here (key, message) rest
        is) (entries_in old.branch)
        (old.here ++ pages_from old.branch old.pages) (rest ++ pages_from old.branch old.pages) ahead first.0
        first.1

    pub entry_stands : Stands tells (record old { last = Some key; here = rest })
    entry_stands = record {
      within = stands.within;
      fresh = λ none. absurd (false≢true (sym none ∙ begun));
      told = λ told begun. (entry_steps told).0;
    }

    pub entry_looks : Looks tells old (Entry key message next) (record old { last = Some key; here = rest })
    entry_looks = (
      search_next old.span old.last old.here (key, message) rest is,
      refl,
      λ told. (entry_steps told).1,
    )

  -- an entry past the span was met
  pub past_looks : search old.span old.last old.here ≡ past → Looks tells old Past old
  past_looks is = (
    refl,
    λ told.
        let ahead = stands.told told begun in
        ahead.same ∙ search_past old.span old.last old.here (pages_from old.branch old.pages) is ahead.order,
  )

-- a call that begins in the same place gives the same
pub gives_same : (old now new : Scan) (given : Option (List ℕ × Message)) → SamePlace old now →
    Gives now given new → Gives old given new
gives_same old now new None same gives = left_same old now same ∙ gives
  where
    left_same : (old now : Scan) → SamePlace old now → left_of old ≡ left_of now
    left_same old now same = cc
gives_same old now new (Some entry) same gives = left_same old now same ∙ gives
  where
    left_same : (old now : Scan) → SamePlace old now → left_of old ≡ left_of now
    left_same old now same = cc

-- what a search of the page at hand met
module _ {Z : Type 0} (page : Option (Arc AnyPage Z)) (held : Arc AnyPage Z) (seen : AnyPage) (span : Span)
    (last : Option (List ℕ)) (place : ℕ)
    (is : page ≡ Some held) (same : seen ≡ arc_value held) where
  pub met_entry : (key : List ℕ) (message : Message) (next : ℕ) →
      IsMet span last (leaf_table (shown_of seen).bytes) place (Entry key message next) →
      search span last (rest_of page place) ≡ found (key, message) (rest_of page next)
  met_entry key message next met =
      subst (λ (p : Option (Arc AnyPage Z)). search span last (rest_of p place) ≡ found (key, message)
      (rest_of p next)) (sym is)
      (subst (λ (a : AnyPage). search span last (drop place (leaf_table (shown_of a).bytes)) ≡ found
      (key, message) (drop next (leaf_table (shown_of a).bytes))) same met)

  pub met_past : IsMet span last (leaf_table (shown_of seen).bytes) place Past →
      search span last (rest_of page place) ≡ past
  met_past met =
      subst (λ (p : Option (Arc AnyPage Z)). search span last (rest_of p place) ≡ past) (sym is)
      (subst (λ (a : AnyPage). search span last (drop place (leaf_table (shown_of a).bytes)) ≡ past) same met)
