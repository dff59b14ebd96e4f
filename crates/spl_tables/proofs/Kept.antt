-- What always holds of memtables, after a rotation and after a release.
use Rattle.std.proofs.Common.{◌≡◌, ◌≢◌, ℕ, ◌+◌, ◌<◌, ◌≤◌, List, [], ◌∷◌, ◌++◌, length, get_or, map, None, arith, rules, refl, ap, sym, subst, ◌∙◌}
use Rattle.std.specs.Prelude.{All, AllPairs}
use Rattle.std.specs.List.Sorted.{IsStrictlySortedBy}
use Rattle.std.proofs.lemmas.List.{get_or-map, length-append, length-map}
use Rattle.std.proofs.lemmas.List.Elements.{All-append, All-cons, All-nil, All-weaker, All-map, All-push}
use Rattle.std.proofs.lemmas.List.Quantifiers.{all_pairs_push}
use Rattle.spl_message.specs.Table.{Table, IsTable, as_table, key_count}
use Rattle.spl_tables.specs.Memtables.{FrozenData, MemtableData, AreMemtables, rotated, released_by, without_picks}
use Rattle.spl_tables.specs.Room.{data_of, IsSound}

no_keys : IsTable (as_table [])
unfolding IsStrictlySortedBy
no_keys = tt

pub AreMemtables-rotated : (tables : MemtableData) → AreMemtables tables → length tables.frozen < 4 → key_count tables.active ≡ 1024 → AreMemtables (rotated tables)
AreMemtables-rotated tables are few full =
    let new : FrozenData = record { number = tables.next; table = tables.active; picked = None } in
    record {
      few = subst (λ n. n ≤ 4) (sym (length-append tables.frozen (new ∷ []))) (omega (arith, few));
      rising = all_pairs_push (λ (earlier later : FrozenData). earlier.number < later.number) tables.frozen new are.rising (λ k d within. are.below_next k d within);
      below_next = All-push (λ (one : FrozenData). one.number < tables.next + 1) tables.frozen new (All-weaker (λ (one : FrozenData). one.number < tables.next) (λ (one : FrozenData). one.number < tables.next + 1) (λ one below. omega (arith, below)) tables.frozen are.below_next) (omega arith);
      full = All-push (λ (one : FrozenData). key_count one.table ≡ 1024) tables.frozen new are.full full;
      in_order = All-push (λ (one : FrozenData). IsTable one.table) tables.frozen new are.in_order are.active_in_order;
      active_limit = omega arith;
      active_in_order = no_keys;
    }

module _ (actor : ℕ) (frozen : List FrozenData) where
  abbrev released : List FrozenData
  released = map (released_by actor) frozen

  rising : AllPairs (λ (earlier later : FrozenData). earlier.number < later.number) frozen → AllPairs (λ (earlier later : FrozenData). earlier.number < later.number) released
  rising are i j d before within =
      let inside : j < length frozen = subst (λ n. j < n) (length-map frozen (released_by actor)) within in
      subst (λ (one : FrozenData). one.number < (get_or released j d).number) (sym (get_or-map (released_by actor) frozen i d d (omega (arith, before, inside))))
      (subst (λ (one : FrozenData). (get_or frozen i d).number < one.number) (sym (get_or-map (released_by actor) frozen j d d inside)) (are i j d before inside))

pub AreMemtables-released : (tables : MemtableData) (actor : ℕ) → AreMemtables tables → AreMemtables (without_picks tables actor)
AreMemtables-released tables actor are = record {
  few = subst (λ n. n ≤ 4) (sym (length-map tables.frozen (released_by actor))) are.few;
  rising = rising actor tables.frozen are.rising;
  below_next = All-map (λ (one : FrozenData). one.number < tables.next) (released_by actor) tables.frozen are.below_next;
  full = All-map (λ (one : FrozenData). key_count one.table ≡ 1024) (released_by actor) tables.frozen are.full;
  in_order = All-map (λ (one : FrozenData). IsTable one.table) (released_by actor) tables.frozen are.in_order;
  active_limit = are.active_limit;
  active_in_order = are.active_in_order;
}

-- what a rotation leaves in a store's fields
pub sound_rotated : (active : Table) (frozen : List FrozenData) (next capacity : ℕ) (active' : Table) (frozen' : List FrozenData) (capacity' : ℕ) → IsSound (data_of active frozen next) capacity
    → length frozen < 4 → key_count active ≡ 1024 → active' ≡ as_table [] → frozen' ≡ (rotated (data_of active frozen next)).frozen → capacity' ≡ capacity → IsSound (data_of active' frozen' (next + 1)) capacity'
sound_rotated active frozen next capacity active' frozen' capacity' old few full empty added same = record {
  room = subst (λ n. 4 ≤ n) (sym same) old.room;
  sound = subst (λ (table : Table). AreMemtables (data_of table frozen' (next + 1))) (sym empty)
      (subst (λ (items : List FrozenData). AreMemtables (data_of (as_table []) items (next + 1))) (sym added) (AreMemtables-rotated (data_of active frozen next) old.sound few full));
}

-- what a release leaves in a store's fields
pub sound_released : (active : Table) (frozen : List FrozenData) (next capacity actor : ℕ) (frozen' : List FrozenData) → IsSound (data_of active frozen next) capacity
    → frozen' ≡ map (released_by actor) frozen → IsSound (data_of active frozen' next) capacity
sound_released active frozen next capacity actor frozen' old is = record {
  room = old.room;
  sound = subst (λ (items : List FrozenData). AreMemtables (data_of active items next)) (sym is) (AreMemtables-released (data_of active frozen next) actor old.sound);
}
