-- The live branches of a node's pivots after each call.
use Rattle.std.proofs.Common.{◌≡◌, ℕ, zero, suc, ◌+◌, ◌-◌, ◌<◌, ◌≤◌, max, min, Bool, true, false, ◌||◌, nat_lt, if◌then◌else◌, List, [], ◌∷◌, ◌++◌, Option, option_to_list, length, map, fold, get_or, set, take, drop, replicate, refl, sym, ap, ap₂, ◌∙◌, inl, inr, arith, append_assoc, length-append, length-drop, length-take-le, take-append-drop, get_or-set_same, get_or-set_other}
use Rattle.std.proofs.Math.Seq.{drop-append-add}
use Rattle.std.proofs.lemmas.Bool.{cases_lt, cases_eq, lt-ltb, ltb-true, false≢true}
use Rattle.std.proofs.lemmas.List.{append-nil, drop-append-le, drop-drop, drop-take, drop_more, length-replicate, length-map, get_or-map, nil_from_length}
use Rattle.std.proofs.lemmas.List.Elements.{All-get_or}
use Rattle.spl_message.specs.Span.{is_from}
use Rattle.spl_bundle.specs.Numbered.{Numbered, Bundle, unmarked, next_of, joined, live, pushed, merged, marked, released, dropped_below}
use Rattle.spl_bundle.proofs.Live.{joined-append}
use Rattle.spl_bundle.proofs.Changes.{live-pushed, live-dropped, live-released, live-marked, live_next}
use Rattle.spl_node.specs.declared.pivot.Pivot.{Pivot}
use Rattle.spl_node.specs.Node.{NodeData, bare, pivot_at, pivot_for, live_at, IsMark, IsNode}
use Rattle.spl_node.specs.Steps.{with_lists, with_mark, at_mark, is_empty, first_from, least_mark, kept_from, trimmed}
use Rattle.spl_node.specs.Parts.{child_of, live_for, IsAlike, branches_from}
use Rattle.spl_node.proofs.Places.{choose, pivot_for_within}

-- what is live from a mark on: what stands below a later number, and then what is live from there on
pub live_cut : (queue : Numbered) (mark number : ℕ) → mark ≤ max number queue.first → live queue mark ≡ branches_from queue mark number ++ live queue number
live_cut queue mark number ordered =
    let a = mark - queue.first in
    let n = number - max mark queue.first in
    let rest = drop a queue.bundles in
    let later : joined (drop n rest) ≡ live queue number =
    ap joined (drop-drop n a queue.bundles) ∙ ap (λ (m : ℕ). joined (drop m queue.bundles)) (omega arith) in
    ap joined (sym (take-append-drop n rest))
    ∙ joined-append (take n rest) (drop n rest)
    ∙ ap (λ (list : List ℕ). joined (take n rest) ++ list) later

joined-empties : (n : ℕ) → joined (replicate n (unmarked [])) ≡ []
joined-empties zero = refl
joined-empties (suc n) = joined-empties n

-- a run that is merged
module _ (queue : Numbered) (first last : ℕ) (output : Option ℕ) (ordered : first ≤ last) (stands : queue.first ≤ last) (made : last < next_of queue) (mark : ℕ) where
  -- where the run is live as a whole, the output stands in the place of its lists
  pub live-merged : mark ≤ max first queue.first → live (merged queue first last output) mark ≡ branches_from queue mark first ++ option_to_list output ++ live queue (last + 1)
  live-merged whole =
      let a = mark - queue.first in
      let f = first - queue.first in
      let front = take f queue.bundles in
      let empties = let none : List Bundle = replicate (last - max first queue.first) (unmarked []) in none in
      let out = unmarked (option_to_list output) in
      let back = drop (last + 1 - queue.first) queue.bundles in
      let long = length-take-le f queue.bundles (omega arith) in
      let both = length-append front empties in
      let kept : drop a front ≡ take (first - max mark queue.first) (drop a queue.bundles) =
      ap (λ (n : ℕ). drop a (take n queue.bundles)) (let e : f ≡ a + (f - a) = omega arith in e)
      ∙ drop-take a (f - a) queue.bundles
      ∙ ap (λ (n : ℕ). take n (drop a queue.bundles)) (omega arith) in
      let shown : joined (drop a front ++ empties) ≡ branches_from queue mark first =
      joined-append (drop a front) empties
      ∙ ap (λ (list : List ℕ). joined (drop a front) ++ list) (joined-empties (last - max first queue.first))
      ∙ append-nil (joined (drop a front))
      ∙ ap joined kept in
      ap joined (drop-append-le a (front ++ empties) (out ∷ back) (omega arith) ∙ ap (λ bundles. bundles ++ out ∷ back) (drop-append-le a front empties (omega arith)))
      ∙ joined-append (drop a front ++ empties) (out ∷ back)
      ∙ ap (λ (list : List ℕ). list ++ (option_to_list output ++ live queue (last + 1))) shown
      ∙ sym (append_assoc (branches_from queue mark first) (option_to_list output) (live queue (last + 1)))

  -- before the merge its lists stand there
  pub live_with_run : mark ≤ max first queue.first → live queue mark ≡ branches_from queue mark first ++ branches_from queue first (last + 1) ++ live queue (last + 1)
  live_with_run whole =
      live_cut queue mark first whole
      ∙ ap (λ (list : List ℕ). branches_from queue mark first ++ list) (live_cut queue first (last + 1) (omega arith))
      ∙ sym (append_assoc (branches_from queue mark first) (branches_from queue first (last + 1)) (live queue (last + 1)))

  -- what is live behind the run stays
  pub live-merged_above : last < mark → live (merged queue first last output) mark ≡ live queue mark
  live-merged_above above =
      let f = first - queue.first in
      let front = take f queue.bundles in
      let empties = let none : List Bundle = replicate (last - max first queue.first) (unmarked []) in none in
      let out = unmarked (option_to_list output) in
      let passed = last + 1 - queue.first in
      let back = drop passed queue.bundles in
      let long = length-take-le f queue.bundles (omega arith) in
      let none = length-replicate (last - max first queue.first) (unmarked []) in
      let both = length-append front empties in
      let all = length-append (front ++ empties) (out ∷ []) in
      let n = mark - queue.first - passed in
      ap joined (
      ap (drop (mark - queue.first)) (sym (append_assoc (front ++ empties) (out ∷ []) back))
      ∙ ap (λ (m : ℕ). drop m ((front ++ empties ++ out ∷ []) ++ back)) (let e : mark - queue.first ≡ length (front ++ empties ++ out ∷ []) + n = omega arith in e)
      ∙ drop-append-add (front ++ empties ++ out ∷ []) back n
      ∙ drop-drop n passed queue.bundles
      ∙ ap (λ (m : ℕ). drop m queue.bundles) (omega arith))

-- a trim passes over bundles that are empty, or below the least mark
first_from_passed : (least number : ℕ) (bundles : List Bundle) (k : ℕ) → number + k < first_from least number bundles → least ≤ number + k → (get_or bundles k (unmarked [])).branches ≡ []
first_from_passed least number [] k below from = absurd (omega arith)
first_from_passed least number (bundle ∷ bundles) zero below from =
    choose (nat_lt number least || is_empty bundle) (first_from least (number + 1) bundles) number (λ n. number + 0 < n → bundle.branches ≡ [])
    (λ passed below. by (nat_lt number least) refl passed)
    (λ ends below. absurd (omega arith))
    below
  where
    by : (b : Bool) → nat_lt number least ≡ b → (nat_lt number least || is_empty bundle) ≡ true → bundle.branches ≡ []
    by true e passed = let lower = ltb-true number least e in absurd (omega arith)
    by false e passed =
        let short = ltb-true (length bundle.branches) 1 (sym (ap (λ b. b || is_empty bundle) e) ∙ passed) in
        nil_from_length bundle.branches (omega arith)
first_from_passed least number (bundle ∷ bundles) (suc k) below from =
    choose (nat_lt number least || is_empty bundle) (first_from least (number + 1) bundles) number (λ n. number + suc k < n → (get_or bundles k (unmarked [])).branches ≡ [])
    (λ passed below. first_from_passed least (number + 1) bundles k (omega arith) (omega arith))
    (λ ends below. absurd (omega arith))
    below

first_from-le : (least number : ℕ) (bundles : List Bundle) → first_from least number bundles ≤ number + length bundles
first_from-le least number [] = omega arith
first_from-le least number (bundle ∷ bundles) =
    choose (nat_lt number least || is_empty bundle) (first_from least (number + 1) bundles) number (λ n. n ≤ number + length (bundle ∷ bundles))
    (λ passed. let rest = first_from-le least (number + 1) bundles in omega arith)
    (λ ends. omega arith)

first_from-ge : (least number : ℕ) (bundles : List Bundle) → number ≤ first_from least number bundles
first_from-ge least number [] = omega arith
first_from-ge least number (bundle ∷ bundles) =
    choose (nat_lt number least || is_empty bundle) (first_from least (number + 1) bundles) number (λ n. number ≤ n)
    (λ passed. let rest = first_from-ge least (number + 1) bundles in omega arith)
    (λ ends. omega arith)

pub kept_from-le : (node : NodeData) → kept_from node ≤ next_of node.lists
kept_from-le node = first_from-le (least_mark node) node.lists.first node.lists.bundles

pub kept_from-ge : (node : NodeData) → node.lists.first ≤ kept_from node
kept_from-ge node = first_from-ge (least_mark node) node.lists.first node.lists.bundles

least-le : (start : ℕ) (pivots : List Pivot) → fold (λ n pivot. min n pivot.mark) start pivots ≤ start
least-le start [] = omega arith
least-le start (pivot ∷ pivots) = let rest = least-le (min start pivot.mark) pivots in omega arith

least-le_at : (start : ℕ) (pivots : List Pivot) (i : ℕ) → i < length pivots → fold (λ n pivot. min n pivot.mark) start pivots ≤ (pivot_at pivots i).mark
least-le_at start [] i within = absurd (omega arith)
least-le_at start (pivot ∷ pivots) zero within = let rest = least-le (min start pivot.mark) pivots in omega arith
least-le_at start (pivot ∷ pivots) (suc i) within = least-le_at (min start pivot.mark) pivots i (omega arith)

-- empty bundles in front are no matter
joined-skip : (bundles : List Bundle) (n a : ℕ) → a + n ≤ length bundles → ((k : ℕ) → a ≤ k → k < a + n → (get_or bundles k (unmarked [])).branches ≡ []) → joined (drop a bundles) ≡ joined (drop (a + n) bundles)
joined-skip bundles zero a within none = ap (λ (m : ℕ). joined (drop m bundles)) (omega arith)
joined-skip bundles (suc n) a within none =
    ap joined (drop_more bundles a (unmarked []) (omega arith))
    ∙ ap (λ (list : List ℕ). list ++ joined (drop (a + 1) bundles)) (none a (omega arith) (omega arith))
    ∙ joined-skip bundles n (a + 1) (omega arith) (λ k from below. none k (omega arith) (omega arith))
    ∙ ap (λ (m : ℕ). joined (drop m bundles)) (omega arith)

-- the live branches of a pivot
module _ (node : NodeData) (is : IsNode node) (i : ℕ) (within : i < length node.pivots) where
  pub mark_at : IsMark node.lists (pivot_at node.pivots i).mark
  mark_at = All-get_or (λ (p : Pivot). IsMark node.lists p.mark) node.pivots i bare within is.marks

  pub live_at-pushed : (list : List ℕ) → live_at (with_lists node (pushed node.lists list)) i ≡ live_at node i ++ list
  live_at-pushed list = live-pushed node.lists (pivot_at node.pivots i).mark list mark_at.1

  -- a trim changes no pivot's live branches
  pub live_at-trimmed : live_at (trimmed node) i ≡ live_at node i
  live_at-trimmed =
      let mark = (pivot_at node.pivots i).mark in
      let kept = kept_from node in
      let raise : Pivot → Pivot = λ pivot. at_mark pivot (max pivot.mark kept) in
      let bounds = mark_at in
      let most = kept_from-le node in
      let least = least-le_at (next_of node.lists) node.pivots i within in
      ap (λ (p : Pivot). live (dropped_below node.lists kept) p.mark) (get_or-map raise node.pivots i bare bare within)
      ∙ live-dropped node.lists (max mark kept) kept (omega arith)
      ∙ sym (
      joined-skip node.lists.bundles (max mark kept - mark) (mark - node.lists.first) (omega arith) (λ k from below. first_from_passed (least_mark node) node.lists.first node.lists.bundles k (omega arith) (omega arith))
      ∙ ap (λ (m : ℕ). joined (drop m node.lists.bundles)) (omega arith)
      )

  pub live_at-with_mark : (mark : ℕ) → live_at (with_mark node i mark) i ≡ live node.lists mark
  live_at-with_mark mark =
      ap (λ (p : Pivot). live node.lists p.mark) (get_or-set_same node.pivots i (at_mark (pivot_at node.pivots i) mark) bare within)

  pub live_at-with_mark_other : (j mark : ℕ) → (j ≡ i → ⊥) → live_at (with_mark node i mark) j ≡ live_at node j
  live_at-with_mark_other j mark other =
      ap (λ (p : Pivot). live node.lists p.mark) (get_or-set_other node.pivots i j (at_mark (pivot_at node.pivots i) mark) bare other)

-- the pivot of a key is a matter of the starts alone
pub pivot_for_starts : (xs ys : List Pivot) (key : List ℕ) → length xs ≡ length ys → ((k : ℕ) → k < length ys → (pivot_at xs k).start ≡ (pivot_at ys k).start) → pivot_for xs key ≡ pivot_for ys key
pivot_for_starts [] [] key long starts = refl
pivot_for_starts [] (y ∷ ys) key long starts = absurd (omega arith)
pivot_for_starts (x ∷ xs) [] key long starts = absurd (omega arith)
pivot_for_starts (x ∷ []) (y ∷ []) key long starts = refl
pivot_for_starts (x ∷ []) (y ∷ y₁ ∷ ys) key long starts = absurd (omega arith)
pivot_for_starts (x ∷ x₁ ∷ xs) (y ∷ []) key long starts = absurd (omega arith)
pivot_for_starts (x ∷ x₁ ∷ xs) (y ∷ y₁ ∷ ys) key long starts =
    ap₂ (λ (b : Bool) (n : ℕ). if b then suc n else 0)
    (ap (λ s. is_from s key) (starts 1 (omega arith)))
    (pivot_for_starts (x₁ ∷ xs) (y₁ ∷ ys) key (omega arith) (λ k within. starts (suc k) (omega arith)))

-- a trim changes nothing for a key
pub trimmed_alike : (node : NodeData) (key : List ℕ) → IsNode node → IsAlike node (trimmed node) key
trimmed_alike node key is =
    let raise : Pivot → Pivot = λ pivot. at_mark pivot (max pivot.mark (kept_from node)) in
    let at : (k : ℕ) → k < length node.pivots → pivot_at (map raise node.pivots) k ≡ raise (pivot_at node.pivots k) = λ k below. get_or-map raise node.pivots k bare bare below in
    let same = pivot_for_starts (map raise node.pivots) node.pivots key (length-map node.pivots raise) (λ k below. ap (λ (p : Pivot). p.start) (at k below)) in
    let within = pivot_for_within node.pivots key is.some in
    record {
      child = ap (λ (n : ℕ). (pivot_at (map raise node.pivots) n).child) same ∙ ap (λ (p : Pivot). p.child) (at (pivot_for node.pivots key) within);
      live = ap (live_at (trimmed node)) same ∙ live_at-trimmed node is (pivot_for node.pivots key) within;
    }
