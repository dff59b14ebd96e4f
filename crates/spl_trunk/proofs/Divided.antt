-- What keeps the shape of a trunk where a child is split.
use Rattle.std.proofs.Common.{◌≡◌, ◌≢◌, ℕ, zero, suc, ◌+◌, ◌-◌, ◌<◌, ◌≤◌, Bool, true, nat_lt, if◌then◌else◌, List, [], ◌∷◌, ◌++◌, Option, Some, None, is_some, flat_map, map, length, take, drop, refl, sym, ap, ap₂, subst, ◌∙◌, inl, inr, arith, length-append, length-take-le, length-drop, length-set, get_or-take, get_or-drop, get_or-set_same, get_or-set_other, take-append-drop}
use Rattle.std.specs.List.{insert}
use Rattle.std.specs.Prelude.{IsSome, option_to_list, All, ◌↔◌}
use Rattle.std.proofs.lemmas.Bool.{cases_eq, cases_lt, lt-ltb, le-ltb}
use Rattle.std.proofs.lemmas.Grind.{flat_map-append}
use Rattle.std.proofs.lemmas.List.{length-map, get_or-map, get_or_at, get_or_append_left}
use Rattle.std.proofs.lemmas.List.Edits.{length-insert, get_or-insert_at, get_or-insert_below, get_or-insert_above}
use Rattle.std.proofs.lemmas.List.Elements.{All-get_or, All-from_get_or, All-cons, All-nil, All-append, All-set, All-take, All-map}
use Rattle.spl_message.specs.declared.span.Span.{Span}
use Rattle.spl_message.specs.Span.{is_from, is_before, InSpan}
use Rattle.spl_node.specs.declared.pivot.Pivot.{Pivot}
use Rattle.spl_node.specs.declared.node.TheConstants.{MAX_PIVOTS}
use Rattle.spl_node.specs.Node.{NodeData, bare, pivot_at, span_of, is_past, StartsIn, AreRising, IsMark, IsNode}
use Rattle.spl_node.specs.Steps.{fresh, with_pivots, starts_below, IsSplitKey, right_pivots, right_of, left_of}
use Rattle.spl_node.proofs.Lives.{mark_at}
use Rattle.spl_node.proofs.Nodes.{inserted_node, left_node, right_node}
use Rattle.spl_node.proofs.Places.{pivot_only, all_started}
use Rattle.spl_node.proofs.Starts.{both, first_of_both, second_of_both, later_start}
use Rattle.spl_node.proofs.Splits.{before_end, split_inside, split_past, split_cut, inserted_rising}
use Rattle.spl_trunk.specs.Trunk.{node_at, with_node, pivots_at, with_pivots_at}
use Rattle.spl_trunk.specs.Tree.{times, children, leads, IsChild, IsShaped}
use Rattle.spl_trunk.specs.Moves.{right_pivot, widened, divided}
use Rattle.spl_trunk.proofs.Counts.{times-append, times-replaced}
use Rattle.spl_trunk.proofs.Trees.{one_parent, not_root}
use Rattle.spl_trunk.proofs.Shapes.{flag, counted_more, times_leads, times-grown, some_number}

-- where a pivot's part ends
end_at : (pivots : List Pivot) (to : Option (List ℕ)) (j : ℕ) → j + 1 < length pivots → (if nat_lt (j + 1) (length pivots) then (pivot_at pivots (j + 1)).start else to) ≡ (pivot_at pivots (j + 1)).start
end_at pivots to j more = ap (λ (b : Bool). if b then (pivot_at pivots (j + 1)).start else to) (lt-ltb (j + 1) (length pivots) more)

end_last : (pivots : List Pivot) (to : Option (List ℕ)) (j : ℕ) → length pivots ≤ j + 1 → (if nat_lt (j + 1) (length pivots) then (pivot_at pivots (j + 1)).start else to) ≡ to
end_last pivots to j last = ap (λ (b : Bool). if b then (pivot_at pivots (j + 1)).start else to) (le-ltb (j + 1) (length pivots) last)

span_by : (a b c d : Option (List ℕ)) → a ≡ c → b ≡ d → (let s : Span = record { from = a; to = b } in s) ≡ (let t : Span = record { from = c; to = d } in t)
span_by a b c d from to = ap₂ (λ (x y : Option (List ℕ)). let s : Span = record { from = x; to = y } in s) from to

no_children : (pivots : List Pivot) → All (λ (p : Pivot). IsSome p.child ↔ (0 < 0)) pivots → flat_map (λ (p : Pivot). option_to_list p.child) pivots ≡ []
no_children [] none = refl
no_children (p ∷ pivots) none =
    ap₂ ◌++◌ (by p.child (All-get_or (λ (p : Pivot). IsSome p.child ↔ (0 < 0)) (p ∷ pivots) 0 bare (omega arith) none)) (no_children pivots (All-from_get_or (λ (p : Pivot). IsSome p.child ↔ (0 < 0)) pivots bare (λ k within. All-get_or (λ (p : Pivot). IsSome p.child ↔ (0 < 0)) (p ∷ pivots) (suc k) bare (omega arith) none)))
  where
    by : (o : Option ℕ) → (IsSome o ↔ (0 < 0)) → option_to_list o ≡ []
    by None none = refl
    by (Some n) none = absurd (let less = none.0 refl in omega arith)

module _ (nodes : List NodeData) (shaped : IsShaped nodes) (room : length nodes < 4096) (parent i child : ℕ) (exists : parent < length nodes) (within : i < length (node_at nodes parent).pivots) (leads_to : (pivot_at (node_at nodes parent).pivots i).child ≡ Some child) (at : List ℕ) (split : IsSplitKey (node_at nodes child) at) (few : length (node_at nodes parent).pivots < MAX_PIVOTS) where
  abbrev old : NodeData
  old = node_at nodes parent

  abbrev whole : NodeData
  whole = node_at nodes child

  abbrev lower : NodeData
  lower = left_of (node_at nodes child) at

  abbrev upper : NodeData
  upper = right_of (node_at nodes child) at

  abbrev new : Pivot
  new = right_pivot (node_at nodes parent) i at (length nodes)

  abbrev wide : NodeData
  wide = widened (node_at nodes parent) i at (length nodes)

  abbrev after : List NodeData
  after = divided nodes parent i child at

  abbrev grown : List NodeData
  grown = nodes ++ right_of (node_at nodes child) at ∷ []

  linked : IsChild nodes old i child
  linked = shaped.children parent i child exists within leads_to

  parent_is : IsNode old
  parent_is = All-get_or IsNode nodes parent (fresh 0 bare) exists shaped.each

  child_node : IsNode whole
  child_node = All-get_or IsNode nodes child (fresh 0 bare) linked.exists shaped.each

  not_self : child ≢ parent
  not_self same = let high = linked.height in let heights = ap (λ (m : ℕ). (node_at nodes m).height) same in omega arith

  long_grown : length grown ≡ length nodes + 1
  long_grown = length-append nodes (upper ∷ [])

  long_halved : length (with_node grown child lower) ≡ length nodes + 1
  long_halved = length-set grown child lower ∙ long_grown

  long : length after ≡ length nodes + 1
  long = length-set (with_node grown child lower) parent wide ∙ long_halved

  at_parent : node_at after parent ≡ wide
  at_parent = let long_before = long_halved in get_or-set_same (with_node grown child lower) parent wide (fresh 0 bare) (omega arith)

  at_child : node_at after child ≡ lower
  at_child =
      let there = linked.exists in
      let long_before = long_grown in
      get_or-set_other (with_node grown child lower) parent child wide (fresh 0 bare) not_self ∙ get_or-set_same grown child lower (fresh 0 bare) (omega arith)

  at_number : node_at after (length nodes) ≡ upper
  at_number =
      let there = linked.exists in
      get_or-set_other (with_node grown child lower) parent (length nodes) wide (fresh 0 bare) (λ same. omega arith)
      ∙ get_or-set_other grown child (length nodes) lower (fresh 0 bare) (λ same. omega arith)
      ∙ get_or_at nodes upper [] (fresh 0 bare) (length nodes) refl

  at_rest : (m : ℕ) → m < length nodes → m ≢ parent → m ≢ child → node_at after m ≡ node_at nodes m
  at_rest m below not_parent not_child =
      get_or-set_other (with_node grown child lower) parent m wide (fresh 0 bare) not_parent
      ∙ get_or-set_other grown child m lower (fresh 0 bare) not_child
      ∙ get_or_append_left nodes (upper ∷ []) (fresh 0 bare) m below

  inside : InSpan whole.range at
  inside = split_inside whole child_node at split

  starts_here : whole.range.from ≡ (pivot_at old.pivots i).start
  starts_here = ap (λ (s : Span). s.from) linked.range

  ends_here : whole.range.to ≡ (span_of old i).to
  ends_here = ap (λ (s : Span). s.to) linked.range

  past : is_past (pivot_at old.pivots i).start at ≡ true
  past = ap (λ s. is_past s at) (sym starts_here) ∙ split_past whole child_node at split

  before : is_before whole.range.to at ≡ true
  before = second_of_both (is_from whole.range.from at) (is_before whole.range.to at) inside

  before_next : i + 1 < length old.pivots → is_before (pivot_at old.pivots (i + 1)).start at ≡ true
  before_next more = ap (λ s. is_before s at) (sym (ends_here ∙ end_at old.pivots old.range.to i more)) ∙ before

  -- the new pivot may be inserted
  pub divided_rising : AreRising (insert old.pivots (i + 1) new)
  divided_rising = inserted_rising old.pivots i new at refl within parent_is.rising past before_next

  -- the key of the split in the parent's range
  part_within : (j : ℕ) → j < length old.pivots → (key : List ℕ) → is_from (pivot_at old.pivots j).start key ≡ true → is_from old.range.from key ≡ true
  part_within j below key from =
      ap (λ s. is_from s key) (sym parent_is.begin) ∙ all_started old.pivots parent_is.rising key j below from 0 (omega arith)

  from_parent : is_from old.range.from at ≡ true
  from_parent =
      part_within i within at (ap (λ s. is_from s at) (sym starts_here) ∙ first_of_both (is_from whole.range.from at) (is_before whole.range.to at) inside)

  before_parent : is_before old.range.to at ≡ true
  before_parent = elim (cases_lt (i + 1) (length old.pivots)) [
    | inl more ↦
        let next = later_start old.pivots parent_is.rising (i + 1) (omega arith) more in
        let S : Option (List ℕ) → Type 0 = λ s. StartsIn old.range s in
        let in_range = subst S next.1 (All-get_or (λ (p : Pivot). StartsIn old.range p.start) old.pivots (i + 1) bare more parent_is.within) in
        before_end old.range.to at next.0 (ap (λ s. is_before s at) (sym next.1) ∙ before_next more) (second_of_both (is_from old.range.from next.0) (is_before old.range.to next.0) in_range)
    | inr last ↦ ap (λ s. is_before s at) (sym (ends_here ∙ end_last old.pivots old.range.to i last)) ∙ before
  ]

  pub divided_start : StartsIn old.range (Some at)
  divided_start = both (is_from old.range.from at) (is_before old.range.to at) from_parent before_parent

  pub divided_mark : IsMark old.lists new.mark
  divided_mark = mark_at old parent_is i within

  wide_node : IsNode wide
  wide_node =
      let high = linked.height in
      inserted_node old parent_is (i + 1) new (omega arith) (omega arith) (omega arith) few refl divided_start divided_rising divided_mark

  -- a node but the child keeps its height and its range
  kept_height : (d : ℕ) → d < length nodes → d ≢ child → ((node_at after d).height ≡ (node_at nodes d).height) × ((node_at after d).range ≡ (node_at nodes d).range)
  kept_height d below other = elim (cases_eq d parent) [
    | inl here ↦
        let P : ℕ → Type 0 = λ m. ((node_at after m).height ≡ (node_at nodes m).height) × ((node_at after m).range ≡ (node_at nodes m).range) in
        subst P (sym here) (ap (λ (n : NodeData). n.height) at_parent, ap (λ (n : NodeData). n.range) at_parent)
    | inr there ↦
        let same = at_rest d below there other in
        (ap (λ (n : NodeData). n.height) same, ap (λ (n : NodeData). n.range) same)
  ]

  moved : (was now : NodeData) (j k d : ℕ) → IsChild nodes was j d → d ≢ child → now.height ≡ was.height → span_of now k ≡ span_of was j → IsChild after now k d
  moved was now j k d link other high same =
      let kept = kept_height d link.exists other in
      let count = long in
      record {
        exists = let there = link.exists in omega arith;
        height = ap (λ (h : ℕ). h + 1) kept.0 ∙ link.height ∙ sym high;
        range = kept.1 ∙ link.range ∙ sym same;
      }

  of_rest : (m : ℕ) → m < length nodes → m ≢ parent → (j d : ℕ) → j < length (node_at nodes m).pivots → (pivot_at (node_at nodes m).pivots j).child ≡ Some d → IsChild after (node_at nodes m) j d
  of_rest m below not_parent j d within_m leads =
      let other : d ≢ child = λ same.
      let to = leads ∙ ap (λ (n : ℕ). Some n) same in
      elim (cases_lt m parent) [
        | inl lower_one ↦ one_parent nodes shaped m parent j i child lower_one exists within_m within to leads_to
        | inr upper_one ↦ one_parent nodes shaped parent m i j child (omega arith) below within within_m leads_to to
      ] in
      moved (node_at nodes m) (node_at nodes m) j j d (shaped.children m j d below within_m leads) other refl refl

  -- a child's child is not the child
  lower_child : (j d : ℕ) → j < length whole.pivots → (pivot_at whole.pivots j).child ≡ Some d → d ≢ child
  lower_child j d within_whole leads same =
      let link = shaped.children child j d linked.exists within_whole leads in
      let high = link.height in
      let heights = ap (λ (m : ℕ). (node_at nodes m).height) same in
      omega arith

  is_inner : (j d : ℕ) → j < length whole.pivots → (pivot_at whole.pivots j).child ≡ Some d → 0 < whole.height
  is_inner j d within_whole leads =
      (All-get_or (λ (p : Pivot). IsSome p.child ↔ (0 < whole.height)) whole.pivots j bare within_whole child_node.children).0 (ap is_some leads)

  of_lower : (j d : ℕ) → j < length lower.pivots → (pivot_at lower.pivots j).child ≡ Some d → IsChild after lower j d
  of_lower j d within_lower leads =
      let c = split_cut whole child_node at split in
      let n = starts_below whole.pivots at in
      let most = c.1 in
      let count : length (take n whole.pivots) ≡ n = length-take-le n whole.pivots most in
      let below : j < n = omega arith in
      let here = get_or-take n whole.pivots j bare below in
      let leads_old = sym (ap (λ (p : Pivot). p.child) here) ∙ leads in
      let more = c.3 (is_inner j d (omega arith) leads_old) in
      let end : (span_of lower j).to ≡ (span_of whole j).to = elim (cases_lt (j + 1) n) [
        | inl front ↦
            end_at (take n whole.pivots) (Some at) j (omega arith)
            ∙ ap (λ (p : Pivot). p.start) (get_or-take n whole.pivots (j + 1) bare front)
            ∙ sym (end_at whole.pivots whole.range.to j (omega arith))
        | inr last ↦
            let is : j + 1 ≡ n = omega arith in
            end_last (take n whole.pivots) (Some at) j (omega arith)
            ∙ sym (c.2 more)
            ∙ ap (λ (m : ℕ). (pivot_at whole.pivots m).start) (sym is)
            ∙ sym (end_at whole.pivots whole.range.to j (omega arith))
      ] in
      moved whole lower j j d (shaped.children child j d linked.exists (omega arith) leads_old) (lower_child j d (omega arith) leads_old) refl (span_by _ _ _ _ (ap (λ (p : Pivot). p.start) here) end)

  abbrev upper_with : List Pivot → NodeData
  upper_with pivots = record whole { range = record { from = Some at; to = whole.range.to }; generation = 0; pivots = pivots }

  of_upper : (height : ℕ) → whole.height ≡ height → (j d : ℕ) → j < length (right_pivots height whole.pivots at) → (pivot_at (right_pivots height whole.pivots at) j).child ≡ Some d → IsChild after (upper_with (right_pivots height whole.pivots at)) j d
  of_upper zero low j d within_upper leads =
      let f : Pivot → Pivot = λ pivot. record pivot { start = Some at } in
      let count = length-map whole.pivots f in
      let here = get_or-map f whole.pivots j bare bare (omega arith) in
      let some = is_inner j d (omega arith) (sym (ap (λ (p : Pivot). p.child) here) ∙ leads) in
      absurd (omega arith)
  of_upper (suc height) high j d within_upper leads =
      let c = split_cut whole child_node at split in
      let n = starts_below whole.pivots at in
      let most = c.1 in
      let part = drop n whole.pivots in
      let count = length-drop n whole.pivots in
      let there : (k : ℕ) → pivot_at part k ≡ pivot_at whole.pivots (n + k) = λ k. get_or-drop n whole.pivots k bare in
      let leads_old = sym (ap (λ (p : Pivot). p.child) (there j)) ∙ leads in
      let end : (span_of (upper_with part) j).to ≡ (span_of whole (n + j)).to = elim (cases_lt (j + 1) (length part)) [
        | inl front ↦
            end_at part whole.range.to j front
            ∙ ap (λ (p : Pivot). p.start) (there (j + 1))
            ∙ ap (λ (m : ℕ). (pivot_at whole.pivots m).start) (omega arith)
            ∙ sym (end_at whole.pivots whole.range.to (n + j) (omega arith))
        | inr last ↦ end_last part whole.range.to j last ∙ sym (end_last whole.pivots whole.range.to (n + j) (omega arith))
      ] in
      moved whole (upper_with part) (n + j) j d (shaped.children child (n + j) d linked.exists (omega arith) leads_old) (lower_child (n + j) d (omega arith) leads_old) refl (span_by _ _ _ _ (ap (λ (p : Pivot). p.start) (there j)) end)

  -- another pivot of the parent leads to another child
  one_pivot : (j : ℕ) → j < length old.pivots → j ≢ i → (d : ℕ) → (pivot_at old.pivots j).child ≡ Some d → d ≢ child
  one_pivot j below other d leads same =
      let link = shaped.children parent j child exists below (leads ∙ ap (λ (n : ℕ). Some n) same) in
      let P : Span → Type 0 = λ s. InSpan s at in
      other (sym (pivot_only old at j parent_is below (subst P link.range inside)) ∙ pivot_only old at i parent_is within (subst P linked.range inside))

  older : (j : ℕ) → j ≤ i → pivot_at wide.pivots j ≡ pivot_at old.pivots j
  older j upto = get_or-insert_below old.pivots (i + 1) new bare j (omega arith) (omega arith)

  here : pivot_at wide.pivots (i + 1) ≡ new
  here = get_or-insert_at old.pivots (i + 1) new bare (omega arith)

  newer : (j : ℕ) → i < j → pivot_at wide.pivots (j + 1) ≡ pivot_at old.pivots j
  newer j behind = get_or-insert_above old.pivots (i + 1) new bare j (omega arith) (omega arith)

  long_wide : length wide.pivots ≡ length old.pivots + 1
  long_wide = length-insert old.pivots (i + 1) new (omega arith)

  -- the end of a pivot behind the child's
  later_end : (j : ℕ) → i ≤ j → (span_of wide (j + 1)).to ≡ (span_of old j).to
  later_end j behind =
      let count = long_wide in
      elim (cases_lt (j + 1) (length old.pivots)) [
        | inl more ↦
            end_at wide.pivots old.range.to (j + 1) (omega arith)
            ∙ ap (λ (p : Pivot). p.start) (newer (j + 1) (omega arith))
            ∙ sym (end_at old.pivots old.range.to j more)
        | inr last ↦ end_last wide.pivots old.range.to (j + 1) (omega arith) ∙ sym (end_last old.pivots old.range.to j last)
      ]

  of_front : (j d : ℕ) → j < i → (pivot_at wide.pivots j).child ≡ Some d → IsChild after wide j d
  of_front j d front leads =
      let count = long_wide in
      let leads_old = sym (ap (λ (p : Pivot). p.child) (older j (omega arith))) ∙ leads in
      let end : (span_of wide j).to ≡ (span_of old j).to =
      end_at wide.pivots old.range.to j (omega arith)
      ∙ ap (λ (p : Pivot). p.start) (older (j + 1) (omega arith))
      ∙ sym (end_at old.pivots old.range.to j (omega arith)) in
      moved old wide j j d (shaped.children parent j d exists (omega arith) leads_old) (one_pivot j (omega arith) (λ same. omega arith) d leads_old) refl (span_by _ _ _ _ (ap (λ (p : Pivot). p.start) (older j (omega arith))) end)

  of_child : (d : ℕ) → (pivot_at wide.pivots i).child ≡ Some d → IsChild after wide i d
  of_child d leads =
      let is : child ≡ d = some_number child d (sym leads_to ∙ sym (ap (λ (p : Pivot). p.child) (older i (omega arith))) ∙ leads) in
      let count = long_wide in
      let all = long in
      let there = linked.exists in
      let node : node_at after d ≡ lower = ap (node_at after) (sym is) ∙ at_child in
      let end : Some at ≡ (span_of wide i).to = sym (end_at wide.pivots old.range.to i (omega arith) ∙ ap (λ (p : Pivot). p.start) here) in
      record {
        exists = omega arith;
        height = ap (λ (n : NodeData). n.height + 1) node ∙ linked.height;
        range = ap (λ (n : NodeData). n.range) node ∙ span_by _ _ _ _ (starts_here ∙ sym (ap (λ (p : Pivot). p.start) (older i (omega arith)))) end;
      }

  of_new : (d : ℕ) → (pivot_at wide.pivots (i + 1)).child ≡ Some d → IsChild after wide (i + 1) d
  of_new d leads =
      let is : length nodes ≡ d = some_number (length nodes) d (sym (ap (λ (p : Pivot). p.child) here) ∙ leads) in
      let all = long in
      let node : node_at after d ≡ upper = ap (node_at after) (sym is) ∙ at_number in
      record {
        exists = omega arith;
        height = ap (λ (n : NodeData). n.height + 1) node ∙ linked.height;
        range = ap (λ (n : NodeData). n.range) node ∙ span_by _ _ _ _ (sym (ap (λ (p : Pivot). p.start) here)) (ends_here ∙ sym (later_end i (omega arith)));
      }

  of_behind : (j d : ℕ) → i < j → j < length old.pivots → (pivot_at wide.pivots (j + 1)).child ≡ Some d → IsChild after wide (j + 1) d
  of_behind j d behind below leads =
      let leads_old = sym (ap (λ (p : Pivot). p.child) (newer j behind)) ∙ leads in
      moved old wide j (j + 1) d (shaped.children parent j d exists below leads_old) (one_pivot j below (λ same. omega arith) d leads_old) refl (span_by _ _ _ _ (ap (λ (p : Pivot). p.start) (newer j behind)) (later_end j (omega arith)))

  of_parent : (j d : ℕ) → j < length wide.pivots → (pivot_at wide.pivots j).child ≡ Some d → IsChild after wide j d
  of_parent j d within_wide leads =
      let count = long_wide in
      elim (cases_lt j i) [
        | inl front ↦ of_front j d front leads
        | inr rest ↦ elim (cases_eq j i) [
          | inl same ↦
              let P : ℕ → Type 0 = λ m. (pivot_at wide.pivots m).child ≡ Some d → IsChild after wide m d in
              subst P (sym same) (of_child d) leads
          | inr other ↦
              let m = j - 1 in
              let is : m + 1 ≡ j = omega arith in
              let P : ℕ → Type 0 = λ n. (pivot_at wide.pivots n).child ≡ Some d → IsChild after wide n d in
              elim (cases_eq m i) [
                | inl same ↦ let to : i + 1 ≡ j = omega arith in subst P to (of_new d) leads
                | inr more ↦ subst P is (of_behind m d (omega arith) (omega arith)) leads
              ]
        ]
      ]

  -- the children of the two parts are those of the node
  halves : (k height : ℕ) → whole.height ≡ height → times k (children lower) + times k (flat_map (λ (p : Pivot). option_to_list p.child) (right_pivots height whole.pivots at)) ≡ times k (children whole)
  halves k zero low =
      let f : Pivot → Pivot = λ pivot. record pivot { start = Some at } in
      let P : ℕ → Type 0 = λ h. All (λ (p : Pivot). IsSome p.child ↔ (0 < h)) whole.pivots in
      let none : P 0 = subst P low child_node.children in
      let left = ap (times k) (no_children lower.pivots (All-take (λ (p : Pivot). IsSome p.child ↔ (0 < 0)) (starts_below whole.pivots at) whole.pivots none)) in
      let right = ap (times k) (no_children (map f whole.pivots) (All-map (λ (p : Pivot). IsSome p.child ↔ (0 < 0)) f whole.pivots none)) in
      let both_sides = ap (times k) (no_children whole.pivots none) in
      let nothing : times k [] ≡ 0 = refl in
      omega arith
  halves k (suc height) high =
      let child_list : Pivot → List ℕ = λ p. option_to_list p.child in
      let n = starts_below whole.pivots at in
      sym (times-append k (flat_map child_list (take n whole.pivots)) (flat_map child_list (drop n whole.pivots)))
      ∙ ap (times k) (sym (flat_map-append child_list (take n whole.pivots) (drop n whole.pivots)) ∙ ap (flat_map child_list) (take-append-drop n whole.pivots))

  one_more : (k : ℕ) → times k (children wide) ≡ times k (children old) + times k (length nodes ∷ [])
  one_more k =
      let child_list : Pivot → List ℕ = λ p. option_to_list p.child in
      let front = take (i + 1) old.pivots in
      let back = drop (i + 1) old.pivots in
      let a = ap (times k) (flat_map-append child_list front (new ∷ back)) ∙ times-append k (flat_map child_list front) (flat_map child_list (new ∷ back)) in
      let b = times-append k (length nodes ∷ []) (flat_map child_list back) in
      let c = ap (λ pivots. times k (flat_map child_list pivots)) (sym (take-append-drop (i + 1) old.pivots)) ∙ ap (times k) (flat_map-append child_list front back) ∙ times-append k (flat_map child_list front) (flat_map child_list back) in
      omega arith

  named_once : (k : ℕ) → times k (leads after) ≡ times k (leads nodes) + times k (length nodes ∷ [])
  named_once k =
      let halved = with_node grown child lower in
      let there = linked.exists in
      let l1 = long_grown in
      let l2 = long_halved in
      let r1 = times-replaced children k halved parent wide (fresh 0 bare) (omega arith) in
      let e1 = ap (λ (n : NodeData). times k (children n)) (get_or-set_other grown child parent lower (fresh 0 bare) (λ same. not_self (sym same)) ∙ get_or_append_left nodes (upper ∷ []) (fresh 0 bare) parent exists) in
      let r2 = times-replaced children k grown child lower (fresh 0 bare) (omega arith) in
      let e2 = ap (λ (n : NodeData). times k (children n)) (get_or_append_left nodes (upper ∷ []) (fresh 0 bare) child linked.exists) in
      let r3 = times-grown k nodes upper in
      let more = one_more k in
      let parts = halves k whole.height refl in
      let now = times_leads k after in
      let was = times_leads k nodes in
      omega arith

  pub shaped_divided : IsShaped after
  shaped_divided =
      let all = long in
      let P : NodeData → Type 0 = λ node. (j d : ℕ) → j < length node.pivots → (pivot_at node.pivots j).child ≡ Some d → IsChild after node j d in
      record {
        some = omega arith;
        few = omega arith;
        each = All-set IsNode (with_node grown child lower) parent wide wide_node (All-set IsNode grown child lower (left_node whole child_node at split) (All-append IsNode nodes (upper ∷ []) shaped.each (All-cons IsNode upper [] (right_node whole child_node whole.height at refl split) (All-nil IsNode))));
        root = elim (cases_eq 0 child) [
          | inl is ↦ absurd (not_root nodes shaped parent i child exists within leads_to (sym is))
          | inr other ↦ (kept_height 0 shaped.some other).1 ∙ shaped.root
        ];
        children = λ n j d below. elim (cases_eq n parent) as (λ _. P (node_at after n)) [
          | inl is ↦ subst P (sym (ap (node_at after) is ∙ at_parent)) of_parent
          | inr not_parent ↦ elim (cases_eq n child) as (λ _. P (node_at after n)) [
            | inl is ↦ subst P (sym (ap (node_at after) is ∙ at_child)) of_lower
            | inr not_child ↦ elim (cases_lt n (length nodes)) as (λ _. P (node_at after n)) [
              | inl lower_one ↦ subst P (sym (at_rest n lower_one not_parent not_child)) (of_rest n lower_one not_parent)
              | inr last ↦ let is : n ≡ length nodes = omega arith in subst P (sym (ap (node_at after) is ∙ at_number)) (of_upper whole.height refl)
            ]
          ]
        ] j d;
        parents = λ k.
            named_once k
            ∙ ap (λ (m : ℕ). m + times k (length nodes ∷ [])) (shaped.parents k)
            ∙ counted_more k (length nodes)
            ∙ ap (λ (m : ℕ). flag (nat_lt k m)) (sym long);
      }

  -- the calls `grow`, `keep_left` and `insert_pivot`, one after another, make these nodes
  pub divided_made : (let halved : List NodeData = with_node grown child (left_of (node_at grown child) at) in with_pivots_at halved parent (insert (pivots_at halved parent) (i + 1) new)) ≡ after
  divided_made =
      let whole_is : node_at grown child ≡ whole = get_or_append_left nodes (upper ∷ []) (fresh 0 bare) child linked.exists in
      let made : List NodeData → List NodeData = λ halved. with_pivots_at halved parent (insert (pivots_at halved parent) (i + 1) new) in
      let halved = with_node grown child lower in
      let old_is : node_at halved parent ≡ old =
      get_or-set_other grown child parent lower (fresh 0 bare) (λ same. not_self (sym same)) ∙ get_or_append_left nodes (upper ∷ []) (fresh 0 bare) parent exists in
      ap (λ (node : NodeData). made (with_node grown child (left_of node at))) whole_is
      ∙ ap (λ (node : NodeData). with_node halved parent (with_pivots node (insert node.pivots (i + 1) new))) old_is
