-- A node in which a run gave way to its output, and what is left there of the runs of others.
use Rattle.std.proofs.Common.{◌≡◌, ◌≢◌, ℕ, zero, suc, ◌+◌, ◌-◌, ◌<◌, ◌≤◌, max, Bool, true, false, not, ◌&&◌, ◌||◌, nat_lt, List, [], ◌∷◌, ◌++◌, Option, Some, None, option_to_list, length, take, drop, replicate, get_or, refl, sym, ap, ◌∙◌, inl, inr, arith, length-drop, eq-eqb}
use Rattle.std.specs.Prelude.{All, ◌⊎◌}
use Rattle.std.proofs.lemmas.Bool.{cases_lt, false≢true, eqb-true, lt-ltb, le-ltb, ltb-true, ltb-false}
use Rattle.std.proofs.lemmas.List.{get_or-drop, get_or-map}
use Rattle.std.proofs.lemmas.List.Elements.{All-get_or, All-map, All-weaker, All-take, All-drop, All-append, All-cons, All-replicate}
use Rattle.std.proofs.lemmas.Option.{same_Some}
use Rattle.spl_bundle.specs.Numbered.{Numbered, Bundle, unmarked, bundle_at, next_of, is_mark_of, merged, joined}
use Rattle.spl_node.specs.declared.pivot.Pivot.{Pivot}
use Rattle.spl_node.specs.Node.{NodeData, bare, pivot_at, IsNode}
use Rattle.spl_node.specs.Parts.{branches_from}
use Rattle.spl_node.specs.Steps.{with_lists, at_mark, kept_from, least_mark}
use Rattle.spl_node.proofs.Lives.{kept_from-ge, kept_from-le}
use Rattle.spl_trunk.specs.Moves.{compacted}
use Rattle.spl_state.specs.declared.job.Run.{Run}
use Rattle.spl_state.specs.Bounds.{HasEnds}
use Rattle.spl_state.specs.Runs.{Stands, HoldsRun}
use Rattle.spl_compact.specs.Installing.{any_marked, carries, is_heir}
use Rattle.spl_compact.proofs.Lists.{branches_first, no_branches}
use Rattle.spl_compact.proofs.MergedRun.{next-merged, merged_before, merged_behind, merged_inside}
use Rattle.spl_compact.proofs.Trims.{kept_full, dropped_empty, kept_above, least_at}

-- queues whose bundles name the same branches from one number on name the same there
pub same_branches : (p q : Numbered) (n number end : ℕ) → number + n ≡ end → p.first ≤ number → q.first ≤ number → end ≤ next_of p → end ≤ next_of q → ((i : ℕ) → number ≤ i → i < end → (bundle_at p i).branches ≡ (bundle_at q i).branches) → branches_from p number end ≡ branches_from q number end
same_branches p q zero number end is p_stands q_stands p_made q_made same = no_branches p number end p_stands (omega arith) ∙ sym (no_branches q number end q_stands (omega arith))
same_branches p q (suc n) number end is p_stands q_stands p_made q_made same =
    branches_first p number end p_stands (omega arith) p_made
    ∙ ap (λ (list : List ℕ). list ++ branches_from p (number + 1) end) (same number (omega arith) (omega arith))
    ∙ ap (λ (list : List ℕ). (bundle_at q number).branches ++ list) (same_branches p q n (number + 1) end (omega arith) (omega arith) (omega arith) p_made q_made (λ i from below. same i (omega arith) below))
    ∙ sym (branches_first q number end q_stands (omega arith) q_made)

-- empty bundles in front are no matter
pub skip_branches : (q : Numbered) (n number end : ℕ) → q.first ≤ number → number + n ≤ end → end ≤ next_of q → ((i : ℕ) → number ≤ i → i < number + n → (bundle_at q i).branches ≡ []) → branches_from q number end ≡ branches_from q (number + n) end
skip_branches q zero number end stands within made none = ap (λ (k : ℕ). branches_from q k end) (let e : number ≡ number + 0 = omega arith in e)
skip_branches q (suc n) number end stands within made none =
    branches_first q number end stands (omega arith) made
    ∙ ap (λ (list : List ℕ). list ++ branches_from q (number + 1) end) (none number (omega arith) (omega arith))
    ∙ skip_branches q n (number + 1) end (omega arith) (omega arith) made (λ i from below. none i (omega arith) (omega arith))
    ∙ ap (λ (k : ℕ). branches_from q k end) (let e : number + 1 + n ≡ number + suc n = omega arith in e)

-- bundles that no longer stand are passed over
pub from_first : (q : Numbered) (from end : ℕ) → branches_from q from end ≡ branches_from q (max from q.first) end
from_first q from end =
    let skipped : from - q.first ≡ max from q.first - q.first = omega arith in
    let same : max from q.first ≡ max (max from q.first) q.first = omega arith in
    ap (λ (k : ℕ). joined (take (end - max from q.first) (drop k q.bundles))) skipped
    ∙ ap (λ (k : ℕ). joined (take (end - k) (drop (max from q.first - q.first) q.bundles))) same

no_owner : (who : ℕ) → None ≡ Some who → ⊥
no_owner who is = cc

own_mark : (actor : ℕ) → is_mark_of actor (Some actor) ≡ true
own_mark actor = eq-eqb actor actor refl

mark_of : (actor : ℕ) (owner : Option ℕ) → is_mark_of actor owner ≡ true → owner ≡ Some actor
mark_of actor None is = absurd (false≢true is)
mark_of actor (Some other) is = ap (λ (n : ℕ). Some n) (eqb-true other actor is)

pub none_carried : (actor : ℕ) (bundles : List Bundle) → ((i : ℕ) → i < length bundles → (get_or bundles i (unmarked [])).owner ≡ Some actor → ⊥) → any_marked actor bundles ≡ false
none_carried actor [] none = refl
none_carried actor (bundle ∷ bundles) none = by (is_mark_of actor bundle.owner) refl (none_carried actor bundles (λ i within. none (suc i) (omega arith)))
  where
    by : (b : Bool) → is_mark_of actor bundle.owner ≡ b → any_marked actor bundles ≡ false → any_marked actor (bundle ∷ bundles) ≡ false
    by true is rest = absurd (none 0 (omega arith) (mark_of actor bundle.owner is))
    by false is rest = ap (λ (b : Bool). b || any_marked actor bundles) is ∙ rest

-- where a bundle is marked, one is
pub some_carried : (actor : ℕ) (bundles : List Bundle) (i : ℕ) → i < length bundles → (get_or bundles i (unmarked [])).owner ≡ Some actor → any_marked actor bundles ≡ true
some_carried actor [] i within owned = absurd (omega arith)
some_carried actor (bundle ∷ bundles) zero within owned = ap (λ (o : Option ℕ). is_mark_of actor o || any_marked actor bundles) owned ∙ ap (λ (b : Bool). b || any_marked actor bundles) (own_mark actor)
some_carried actor (bundle ∷ bundles) (suc i) within owned = by (is_mark_of actor bundle.owner) (some_carried actor bundles i (omega arith) owned)
  where
    by : (b : Bool) → any_marked actor bundles ≡ true → (b || any_marked actor bundles) ≡ true
    by true rest = refl
    by false rest = rest

pub carried_at : (actor : ℕ) (bundles : List Bundle) → any_marked actor bundles ≡ true → (i : ℕ) × (i < length bundles) × ((get_or bundles i (unmarked [])).owner ≡ Some actor)
carried_at actor [] some = absurd (false≢true some)
carried_at actor (bundle ∷ bundles) some = by (is_mark_of actor bundle.owner) refl some (λ rest. carried_at actor bundles rest)
  where
    by : (b : Bool) → is_mark_of actor bundle.owner ≡ b → (b || any_marked actor bundles) ≡ true → (any_marked actor bundles ≡ true → (i : ℕ) × (i < length bundles) × ((get_or bundles i (unmarked [])).owner ≡ Some actor)) → (i : ℕ) × (i < length (bundle ∷ bundles)) × ((get_or (bundle ∷ bundles) i (unmarked [])).owner ≡ Some actor)
    by true is found later = (0, omega arith, mark_of actor bundle.owner is)
    by false is found later = let rest = later found in (suc rest.0, omega (arith, rest.1), rest.2)

-- where a bundle of the run stands, the last one does, with the mark
module _ (node : NodeData) (actor last : ℕ) (holds : (number : ℕ) → Stands node.lists number → (bundle_at node.lists number).owner ≡ Some actor → Stands node.lists last × ((bundle_at node.lists last).owner ≡ Some actor)) where
  heir_if : (a b c : Bool) → not a ≡ true → b ≡ true → c ≡ true → (not a && (b && c)) ≡ true
  heir_if true b c is_a is_b is_c = absurd (false≢true is_a)
  heir_if false true true is_a is_b is_c = refl
  heir_if false false c is_a is_b is_c = absurd (false≢true is_b)
  heir_if false true false is_a is_b is_c = absurd (false≢true is_c)

  heir_then : (a b c : Bool) → (not a && (b && c)) ≡ true → (a ≡ false) × (b ≡ true) × (c ≡ true)
  heir_then true b c is = absurd (false≢true is)
  heir_then false true true is = (refl, refl, refl)
  heir_then false false c is = absurd (false≢true is)
  heir_then false true false is = absurd (false≢true is)

  heir_carries : is_heir last actor node ≡ true → carries actor node ≡ true
  heir_carries is =
      let parts = heir_then (nat_lt last node.lists.first) (nat_lt last (next_of node.lists)) (is_mark_of actor (bundle_at node.lists last).owner) is in
      let from = ltb-false last node.lists.first parts.0 in
      let below = ltb-true last (next_of node.lists) parts.1 in
      some_carried actor node.lists.bundles (last - node.lists.first) (omega arith) (mark_of actor (bundle_at node.lists last).owner parts.2)

  carries_heir : carries actor node ≡ true → is_heir last actor node ≡ true
  carries_heir is =
      let found = carried_at actor node.lists.bundles is in
      let number = node.lists.first + found.0 in
      let same : number - node.lists.first ≡ found.0 = omega arith in
      let owned : (bundle_at node.lists number).owner ≡ Some actor = ap (λ (k : ℕ). (get_or node.lists.bundles k (unmarked [])).owner) same ∙ found.2 in
      let within = found.1 in
      let there = holds number (omega arith, omega arith) owned in
      heir_if (nat_lt last node.lists.first) (nat_lt last (next_of node.lists)) (is_mark_of actor (bundle_at node.lists last).owner)
      (ap not (le-ltb last node.lists.first (omega (arith, there.0.0))))
      (lt-ltb last (next_of node.lists) there.0.1)
      (ap (is_mark_of actor) there.1 ∙ own_mark actor)

  pub heir_is : is_heir last actor node ≡ carries actor node
  heir_is = equal_if (is_heir last actor node) (carries actor node) heir_carries carries_heir
    where
      equal_if : (a b : Bool) → (a ≡ true → b ≡ true) → (b ≡ true → a ≡ true) → a ≡ b
      equal_if true b to back = sym (to refl)
      equal_if false true to back = back refl
      equal_if false false to back = refl

-- The run of the actor gives way to its output.
module _ (from : NodeData) (first last : ℕ) (output : Option ℕ) (order : first ≤ last) (stands : from.lists.first ≤ last) (made : last < next_of from.lists) where
  abbrev pub mid : NodeData
  mid = with_lists from (merged from.lists first last output)

  abbrev pub to : NodeData
  to = compacted from first last output

  abbrev pub kept : ℕ
  kept = kept_from mid

  pub kept_within : (from.lists.first ≤ kept) × (kept ≤ next_of from.lists)
  kept_within =
      let low = kept_from-ge mid in
      let high = kept_from-le mid in
      let same = next-merged from.lists first last output order stands made in
      (omega arith, omega arith)

  pub first_to : to.lists.first ≡ kept
  first_to = let low = kept_within.0 in omega arith

  pub next_to : next_of to.lists ≡ next_of from.lists
  next_to =
      let bounds = kept_within in
      let rest = length-drop (kept - from.lists.first) mid.lists.bundles in
      let same = next-merged from.lists first last output order stands made in
      omega (arith, bounds.0, bounds.1)

  -- a bundle that is kept is as the merge left it
  pub bundle_kept : (number : ℕ) → kept ≤ number → bundle_at to.lists number ≡ bundle_at mid.lists number
  bundle_kept number above =
      let low = kept_within.0 in
      get_or-drop (kept - from.lists.first) mid.lists.bundles (number - max from.lists.first kept) (unmarked [])
      ∙ ap (λ (k : ℕ). get_or mid.lists.bundles k (unmarked [])) (let e : kept - from.lists.first + (number - max from.lists.first kept) ≡ number - from.lists.first = omega arith in e)

  outside : (number : ℕ) → from.lists.first ≤ number → ((first ≤ number) × (number ≤ last) → ⊥) → bundle_at mid.lists number ≡ bundle_at from.lists number
  outside number there apart = elim (cases_lt number first) [
    | inl before ↦ merged_before from.lists first last output order stands made number there before
    | inr above ↦ elim (cases_lt last number) [
      | inl behind ↦ merged_behind from.lists first last output order stands made number behind
      | inr below ↦ absurd (apart (above, below))
    ]
  ]

  -- in a leaf all bundles that are left are live, and the first that is left names a branch
  pub ends_to : HasEnds from → IsNode from → HasEnds to
  ends_to ends is = record {
    mark = λ low.
        let bounds = kept_within in
        let mark = ends.mark low in
        let some = is.some in
        let raised = get_or-map (λ (pivot : Pivot). at_mark pivot (max pivot.mark kept)) from.pivots 0 bare bare some in
        let now = ap (λ (pivot : Pivot). pivot.mark) raised in
        now ∙ omega (arith, bounds.0);
    front = kept_full mid;
  }

  module _ (actor : ℕ) (own : (number : ℕ) → first ≤ number → number ≤ last → from.lists.first ≤ number → (bundle_at from.lists number).owner ≡ Some actor) where
    -- none of the node's bundles has the actor's mark any more
    pub no_mark : ((number : ℕ) → Stands from.lists number → (bundle_at from.lists number).owner ≡ Some actor → (first ≤ number) × (number ≤ last)) → (number : ℕ) → Stands to.lists number → (bundle_at to.lists number).owner ≡ Some actor → ⊥
    no_mark in_run number there owned =
        let bounds = kept_within in
        let at = first_to in
        let next = next_to in
        let above : kept ≤ number = omega (arith, there.0) in
        let was : (bundle_at mid.lists number).owner ≡ Some actor = sym (ap (λ (b : Bundle). b.owner) (bundle_kept number above)) ∙ owned in
        elim (cases_lt number first) [
          | inl before ↦
              let same = merged_before from.lists first last output order stands made number (omega (arith, bounds.0)) before in
              let stood = in_run number (omega (arith, bounds.0), omega (arith, there.1)) (sym (ap (λ (b : Bundle). b.owner) same) ∙ was) in
              absurd (omega (arith, stood.0))
          | inr low ↦ elim (cases_lt last number) [
            | inl behind ↦
                let same = merged_behind from.lists first last output order stands made number behind in
                let stood = in_run number (omega (arith, bounds.0), omega (arith, there.1)) (sym (ap (λ (b : Bundle). b.owner) same) ∙ was) in
                absurd (omega (arith, stood.1))
            | inr high ↦ no_owner actor (sym (merged_inside from.lists first last output order stands made number (omega (arith, bounds.0)) high) ∙ was)
          ]
        ]

    -- The run of another actor.
    module _ (who : ℕ) (other : who ≢ actor) (r : Run) (holds : HoldsRun from who r) where
      apart_from : (number : ℕ) → r.first ≤ number → number ≤ r.last → from.lists.first ≤ number → (first ≤ number) × (number ≤ last) → ⊥
      apart_from number low high there inside = other (same_Some who actor (sym (holds.marks number low high there) ∙ own number inside.0 inside.1 there))

      same_bundle : (number : ℕ) → r.first ≤ number → number ≤ r.last → from.lists.first ≤ number → bundle_at mid.lists number ≡ bundle_at from.lists number
      same_bundle number low high there = outside number there (apart_from number low high there)

      -- where one of its bundles is kept, those that are dropped are empty
      module _ (k : ℕ) (low : r.first ≤ k) (high : k ≤ r.last) (above : kept ≤ k) where
        least_low : (i : ℕ) → max r.first from.lists.first ≤ i → i < kept → least_mark mid ≤ i
        least_low i start below = elim (cases_lt i (least_mark mid)) [
          | inr fits ↦ fits
          | inl past ↦
              let all_above : (j : ℕ) → j < length from.pivots → r.last < (pivot_at from.pivots j).mark = λ j within. right j within past (All-get_or (λ (pivot : Pivot). (pivot.mark ≤ max r.first from.lists.first) ⊎ (r.last < pivot.mark)) from.pivots j bare within holds.whole) in
              let same = next-merged from.lists first last output order stands made in
              let stop = kept_above mid r.last (omega (arith, holds.stands.1)) all_above in
              absurd (omega arith)
        ]
          where
            right : (j : ℕ) → j < length from.pivots → i < least_mark mid → ((pivot_at from.pivots j).mark ≤ max r.first from.lists.first) ⊎ (r.last < (pivot_at from.pivots j).mark) → r.last < (pivot_at from.pivots j).mark
            right j within past (inr up) = up
            right j within past (inl down) = let least = least_at mid j within in absurd (omega arith)

        empty_front : (i : ℕ) → max r.first from.lists.first ≤ i → i < kept → (bundle_at from.lists i).branches ≡ []
        empty_front i start below =
            sym (ap (λ (b : Bundle). b.branches) (same_bundle i (omega arith) (omega arith) (omega arith)))
            ∙ dropped_empty mid i (omega arith) below (least_low i start below)

        inputs_to : branches_from to.lists r.first (r.last + 1) ≡ r.inputs
        inputs_to =
            let bounds = kept_within in
            let at = first_to in
            let next = next_to in
            let a = max r.first from.lists.first in
            let b = max r.first kept in
            let last_made = holds.stands.1 in
            from_first to.lists r.first (r.last + 1)
            ∙ ap (λ (n : ℕ). branches_from to.lists n (r.last + 1)) (let e : max r.first to.lists.first ≡ b = omega arith in e)
            ∙ same_branches to.lists from.lists (r.last + 1 - b) b (r.last + 1) (omega arith) (omega arith) (omega (arith, bounds.0)) (omega arith) (omega arith)
            (λ i start below. ap (λ (x : Bundle). x.branches) (bundle_kept i (omega arith) ∙ same_bundle i (omega arith) (omega arith) (omega (arith, bounds.0))))
            ∙ ap (λ (n : ℕ). branches_from from.lists n (r.last + 1)) (let e : b ≡ a + (b - a) = omega (arith, bounds.0) in e)
            ∙ sym (skip_branches from.lists (b - a) a (r.last + 1) (omega arith) (omega (arith, bounds.0)) (omega arith) (λ i start below. empty_front i start (omega (arith, bounds.0))))
            ∙ sym (from_first from.lists r.first (r.last + 1))
            ∙ holds.inputs

        pub holds_to : HoldsRun to who r
        holds_to =
            let bounds = kept_within in
            let at = first_to in
            let next = next_to in
            record {
              stands = (omega arith, omega (arith, holds.stands.1));
              marks = λ number from_r to_r there.
                  ap (λ (b : Bundle). b.owner) (bundle_kept number (omega arith) ∙ same_bundle number from_r to_r (omega (arith, bounds.0)))
                  ∙ holds.marks number from_r to_r (omega (arith, bounds.0));
              inputs = inputs_to;
              whole = All-map (λ (pivot : Pivot). (pivot.mark ≤ max r.first to.lists.first) ⊎ (r.last < pivot.mark)) (λ (pivot : Pivot). at_mark pivot (max pivot.mark kept)) from.pivots
                  (All-weaker (λ (pivot : Pivot). (pivot.mark ≤ max r.first from.lists.first) ⊎ (r.last < pivot.mark)) (λ (pivot : Pivot). (max pivot.mark kept ≤ max r.first to.lists.first) ⊎ (r.last < max pivot.mark kept)) (λ pivot. raised pivot.mark bounds.0 at) from.pivots holds.whole);
              within = holds.within;
              leaf = holds.leaf;
              oldest = λ is. let old = holds.oldest is in omega (arith, bounds.0);
            }
          where
            raised : (mark : ℕ) → from.lists.first ≤ kept → to.lists.first ≡ kept → (mark ≤ max r.first from.lists.first) ⊎ (r.last < mark) → (max mark kept ≤ max r.first to.lists.first) ⊎ (r.last < max mark kept)
            raised mark low_kept at (inl down) = inl (omega arith)
            raised mark low_kept at (inr up) = inr (omega arith)

  -- no bundle names more branches than it did, but for the output
  pub few_to : All (λ (bundle : Bundle). length bundle.branches ≤ 1) from.lists.bundles → All (λ (bundle : Bundle). length bundle.branches ≤ 1) to.lists.bundles
  few_to few =
      let Few : Bundle → Type 0 = λ bundle. length bundle.branches ≤ 1 in
      let front = All-take Few (first - from.lists.first) from.lists.bundles few in
      let empties = All-replicate Few (last - max first from.lists.first) (unmarked []) (omega arith) in
      let back = All-drop Few (last + 1 - from.lists.first) from.lists.bundles few in
      let both = All-append Few (take (first - from.lists.first) from.lists.bundles) (replicate (last - max first from.lists.first) (unmarked [])) front empties in
      let rest = All-cons Few (unmarked (option_to_list output)) (drop (last + 1 - from.lists.first) from.lists.bundles) (one output) back in
      All-drop Few (kept - from.lists.first) mid.lists.bundles (All-append Few (take (first - from.lists.first) from.lists.bundles ++ replicate (last - max first from.lists.first) (unmarked [])) (unmarked (option_to_list output) ∷ drop (last + 1 - from.lists.first) from.lists.bundles) both rest)
    where
      one : (o : Option ℕ) → length (option_to_list o) ≤ 1
      one None = omega arith
      one (Some branch) = omega arith

  -- a mark that is left stood there
  pub mark_left : (who number : ℕ) → Stands to.lists number → (bundle_at to.lists number).owner ≡ Some who → Stands from.lists number × ((bundle_at from.lists number).owner ≡ Some who)
  mark_left who number there owned =
      let bounds = kept_within in
      let at = first_to in
      let next = next_to in
      let above : kept ≤ number = omega (arith, there.0) in
      let was : (bundle_at mid.lists number).owner ≡ Some who = sym (ap (λ (b : Bundle). b.owner) (bundle_kept number above)) ∙ owned in
      let stood : Stands from.lists number = (omega (arith, bounds.0), omega (arith, there.1)) in
      (stood, sym (ap (λ (b : Bundle). b.owner) (outside number stood.0 (λ inside. no_owner who (sym (merged_inside from.lists first last output order stands made number (omega (arith, bounds.0, inside.0)) inside.1) ∙ was)))) ∙ was)
