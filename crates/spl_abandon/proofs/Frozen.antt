-- The frozen memtables after an actor's pick is given back.
use Rattle.std.proofs.Common.{◌≡◌, ◌≢◌, ℕ, zero, suc, Bool, true, false, nat_eq, if◌then◌else◌, List, [], ◌∷◌, ◌++◌, Option, Some, None, map, slice_get, refl, sym, ap, ◌∙◌, eq-eqb}
use Rattle.std.proofs.lemmas.Bool.{ne_eqb, false≢true}
use Rattle.std.proofs.lemmas.Option.{same_Some}
use Rattle.spl_message.specs.Table.{Table}
use Rattle.spl_tables.specs.Memtables.{FrozenData, MemtableData, other_than, released_by, without_picks, tables_of}

none_is_some : {A : Type 0} (x : A) → None ≡ Some x → ⊥
none_is_some x is = cc

module _ (actor : ℕ) where
  -- the memtable that stands at a place is the one that stood there
  pub was_frozen : (frozen : List FrozenData) (i : ℕ) (f : FrozenData) → slice_get (map (released_by actor) frozen) i ≡ Some f → (g : FrozenData) × (slice_get frozen i ≡ Some g) × (f ≡ released_by actor g)
  was_frozen [] i f at = absurd (none_is_some f at)
  was_frozen (g ∷ frozen) zero f at = (g, refl, sym (same_Some (released_by actor g) f at))
  was_frozen (g ∷ frozen) (suc i) f at = was_frozen frozen i f at

  pub is_frozen : (frozen : List FrozenData) (i : ℕ) (g : FrozenData) → slice_get frozen i ≡ Some g → slice_get (map (released_by actor) frozen) i ≡ Some (released_by actor g)
  is_frozen [] i g at = absurd (none_is_some g at)
  is_frozen (f ∷ frozen) zero g at = ap (λ (one : FrozenData). Some (released_by actor one)) (same_Some f g at)
  is_frozen (f ∷ frozen) (suc i) g at = is_frozen frozen i g at

  -- a pick that is left is another actor's, and was there
  pub pick_left : (picked : Option ℕ) (who : ℕ) → other_than actor picked ≡ Some who → (who ≢ actor) × (picked ≡ Some who)
  pick_left None who is = absurd (none_is_some who is)
  pick_left (Some by) who is = cases (nat_eq by actor) refl is
    where
      cases : (mine : Bool) → nat_eq by actor ≡ mine → (if mine then None else Some by) ≡ Some who → (who ≢ actor) × (Some by ≡ Some who)
      cases true mine none = absurd (none_is_some who none)
      cases false mine some = ((λ same. other mine (same_Some by who some ∙ same)), some)
        where
          other : nat_eq by actor ≡ false → by ≡ actor → ⊥
          other differs here = false≢true (sym differs ∙ eq-eqb by actor here)

  -- another actor's pick stays
  pick_stays : (picked : Option ℕ) (who : ℕ) → who ≢ actor → picked ≡ Some who → other_than actor picked ≡ picked
  pick_stays picked who apart is = rw is (ap (λ (mine : Bool). if mine then None else Some who) (ne_eqb who actor apart))

  pub others_pick : (f : FrozenData) (who : ℕ) → who ≢ actor → f.picked ≡ Some who → released_by actor f ≡ f
  others_pick f who apart is =
      ap (λ (picked : Option ℕ). let g : FrozenData = record { number = f.number; table = f.table; picked = picked } in g) (pick_stays f.picked who apart is)

  same_frozen : (frozen : List FrozenData) → map (λ (f : FrozenData). f.table) (map (released_by actor) frozen) ≡ map (λ (f : FrozenData). f.table) frozen
  same_frozen [] = refl
  same_frozen (f ∷ frozen) = ap (λ (rest : List Table). f.table ∷ rest) (same_frozen frozen)

  -- the tables are the same
  pub same_tables : (tables : MemtableData) → tables_of (without_picks tables actor) ≡ tables_of tables
  same_tables tables = ap (λ (frozen : List Table). frozen ++ tables.active ∷ []) (same_frozen tables.frozen)
