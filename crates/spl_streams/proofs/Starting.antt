-- The streams before the first step: nothing is given, and all streams are wanted.
use Rattle.std.proofs.Common.{◌≡◌, ℕ, zero, suc, ◌+◌, ◌<◌, Bool, true, false, ◌&&◌, List, [], ◌∷◌, ◌++◌, map, filter, take, get_or, length, replicate, ◌⊎◌, inl, inr, Some, None, refl, ap, ◌∙◌, sym, subst, arith}
use Rattle.std.proofs.lemmas.List.{length-map, length-replicate, map-append, take_more}
use Rattle.std.proofs.lemmas.List.Sums.{sum_by-cons}
use Rattle.std.proofs.lemmas.List.Elements.{filter_agree}
use Rattle.std.specs.List.{slice_get, sum_by}
use Rattle.spl_message.specs.declared.message.Message.{Message}
use Rattle.spl_message.specs.declared.span.Span.{Span}
use Rattle.spl_message.specs.Entries.{Entries, AreEntries}
use Rattle.spl_message.specs.Span.{in_span}
use Rattle.spl_message.specs.Table.{Table, as_table, part_of}
use Rattle.spl_branch.specs.Branch.{Branch, entries_in, table_of}
use Rattle.spl_merge.specs.Merger.{Head, headless}
use Rattle.spl_merge.specs.Merging.{left_of as tables_of}
use Rattle.spl_scan.specs.Scan.{Scan, unread}
use Rattle.spl_scan.specs.Search.{is_next, to_come}
use Rattle.spl_streams.specs.Merging.{merging_of, pages_of}
use Rattle.spl_streams.specs.Streams.{AreJoined, IsWanted, branches_of, following, fresh_merger, fresh_scan, unread_all}
use Rattle.spl_streams.proofs.Places.{of_map}
use Rattle.spl_streams.proofs.Wanted.{headless_all, headless_at, headless_once}

and_true : (a : Bool) → (a && true) ≡ a
and_true true = refl
and_true false = refl

-- all of the span is to come
pub all_to_come : (span : Span) (entries : Entries) → to_come span None entries ≡ filter (λ entry. in_span span entry.0) entries
all_to_come span entries =
    filter_agree (λ (entry : List ℕ × Message). is_next span None entry.0) (λ entry. in_span span entry.0)
    (λ entry. and_true (in_span span entry.0)) entries

none_at : (n i : ℕ) (head : Head) → slice_get (replicate {A = Head} n None) i ≡ Some head → head ≡ None
none_at zero i head is = cc
none_at (suc n) zero head is = cc
none_at (suc n) (suc i) head is = none_at n i head is

module _ (span : Span) (bottom : Bool) where
  pub fresh_branches : (branches : List Branch) → branches_of (map (fresh_scan span) branches) ≡ branches
  fresh_branches [] = refl
  fresh_branches (branch ∷ branches) = ap (λ (bs : List Branch). branch ∷ bs) (fresh_branches branches)

  pub fresh_left : (branches : List Branch) →
      tables_of (replicate (length branches) None) (following (map (fresh_scan span) branches))
      ≡ map (λ branch. part_of span (table_of branch)) branches
  fresh_left [] = refl
  fresh_left (branch ∷ branches) =
      ap (λ (es : Entries). as_table es ∷ tables_of (replicate (length branches) None) (following (map (fresh_scan span) branches)))
      (all_to_come span (entries_in branch))
      ∙ ap (λ (ts : List Table). part_of span (table_of branch) ∷ ts) (fresh_left branches)

  module _ (tells : Bool) (branches : List Branch)
      (order : tells ≡ true → (i : ℕ) (branch : Branch) → slice_get branches i ≡ Some branch → AreEntries (entries_in branch)) where
    abbrev nothing : List Head
    nothing = replicate (length branches) None

    all_wanted : (i : ℕ) → slice_get nothing i ≡ Some None → IsWanted (headless 0 nothing) i
    all_wanted i at = let wanted = headless_all 0 nothing i at in (wanted.0, wanted.1 ∙ ap Some (omega arith))

    pub fresh_joined : AreJoined tells (record { scans = map (fresh_scan span) branches; merger = fresh_merger span bottom (length branches) })
    fresh_joined = record {
      count = length-map branches (fresh_scan span) ∙ sym (length-replicate {A = Head} (length branches) None);
      spans = λ i scan is. let at = of_map (fresh_scan span) branches i scan is in ap (λ (s : Scan). s.span) (sym at.2);
      heads = λ i scan entry is at. absurd (no_entry entry (none_at (length branches) i (Some entry) at));
      headless = λ i wanted.
          let at = headless_at 0 nothing wanted.0 i wanted.1 in
          let place : i ≡ at.0 = omega (arith, at.1) in
          ap (slice_get nothing) place ∙ at.2;
      last = λ i scan is wanted. let at = of_map (fresh_scan span) branches i scan is in ap (λ (s : Scan). s.last) (sym at.2);
      once = λ i j k first second. headless_once 0 nothing i j k first second;
      told = λ told. record {
        order = λ i scan is.
            let at = of_map (fresh_scan span) branches i scan is in
            subst (λ (s : Scan). AreEntries (entries_in s.branch)) at.2 (order told i at.0 at.1);
        ended = λ i scan is at unwanted. absurd (unwanted (all_wanted i at));
      };
    }
      where
        no_entry : (entry : List ℕ × Message) → ◌≡◌ {A = Head} (Some entry) None → ⊥
        no_entry entry is = cc

-- ---- one branch more
push_cases : {X : Type 0} (xs : List X) (x : X) (i : ℕ) (y : X) → slice_get (xs ++ x ∷ []) i ≡ Some y →
    (slice_get xs i ≡ Some y) ⊎ (x ≡ y)
push_cases [] x zero y is = inr cc
push_cases [] x (suc i) y is = cc
push_cases (a ∷ xs) x zero y is = inl is
push_cases (a ∷ xs) x (suc i) y is = push_cases xs x i y is

module _ {A : Type 0} (value : A → Branch) (branches : List A) (i : ℕ) (branch : A) (within : i < length branches)
    (is : branch ≡ get_or branches i branch) where
  more_branches : map value (take (i + 1) branches) ≡ map value (take i branches) ++ value branch ∷ []
  more_branches =
      ap (map value) (take_more branches i branch within)
      ∙ map-append value (take i branches) (get_or branches i branch ∷ [])
      ∙ ap (λ (b : A). map value (take i branches) ++ value b ∷ []) (sym is)

  pub more_scans : (span : Span) → map (fresh_scan span) (map value (take (i + 1) branches))
      ≡ map (fresh_scan span) (map value (take i branches)) ++ fresh_scan span (value branch) ∷ []
  more_scans span =
      ap (map (fresh_scan span)) more_branches
      ∙ map-append (fresh_scan span) (map value (take i branches)) (value branch ∷ [])

  pub more_order : ((j : ℕ) (b : Branch) → slice_get (map value (take i branches)) j ≡ Some b → AreEntries (entries_in b)) →
      AreEntries (entries_in (value branch)) → (j : ℕ) (b : Branch) →
      slice_get (map value (take (i + 1) branches)) j ≡ Some b → AreEntries (entries_in b)
  more_order before here j b at =
      elim (push_cases (map value (take i branches)) (value branch) j b
      (subst (λ (bs : List Branch). slice_get bs j ≡ Some b) more_branches at)) [
        | inl old ↦ before j b old
        | inr new ↦ subst (λ (b : Branch). AreEntries (entries_in b)) new here
      ]

fresh_unread : (span : Span) (branches : List Branch) → unread_all (map (fresh_scan span) branches) ≡ sum_by pages_of branches
fresh_unread span [] = refl
fresh_unread span (branch ∷ branches) =
    let rest = fresh_unread span branches in
    let scans = sum_by-cons unread (fresh_scan span branch) (map (fresh_scan span) branches) in
    let pages = sum_by-cons pages_of branch branches in
    let here : unread (fresh_scan span branch) ≡ pages_of branch = omega arith in
    omega (arith, rest, scans, pages, here)

-- the merge before its first entry
pub fresh_merging : (span : Span) (bottom : Bool) (branches : List Branch) (n : ℕ) → n ≡ length branches →
    merging_of (record { scans = map (fresh_scan span) branches; merger = fresh_merger span bottom n }) ≡ record {
      branches = branches;
      span = span;
      bottom = bottom;
      left = map (λ branch. part_of span (table_of branch)) branches;
      unread = sum_by pages_of branches;
      last = None;
      failed = false;
    }
fresh_merging span bottom branches n long =
    ap (λ (m : ℕ). merging_of (record { scans = map (fresh_scan span) branches; merger = fresh_merger span bottom m })) long
    ∙ ap (λ (bs : List Branch). record {
      branches = bs;
      span = span;
      bottom = bottom;
      left = tables_of (replicate (length branches) None) (following (map (fresh_scan span) branches));
      unread = unread_all (map (fresh_scan span) branches);
      last = None;
      failed = false;
    }) (fresh_branches span bottom branches)
    ∙ ap (λ (ts : List Table). record {
      branches = branches;
      span = span;
      bottom = bottom;
      left = ts;
      unread = unread_all (map (fresh_scan span) branches);
      last = None;
      failed = false;
    }) (fresh_left span bottom branches)
    ∙ ap (λ (n : ℕ). record {
      branches = branches;
      span = span;
      bottom = bottom;
      left = map (λ branch. part_of span (table_of branch)) branches;
      unread = n;
      last = None;
      failed = false;
    }) (fresh_unread span branches)
