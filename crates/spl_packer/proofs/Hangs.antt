-- A published branch comes to hang at the root.
use Rattle.std.proofs.Common.{◌≡◌, ◌≢◌, ℕ, ◌<◌, Bool, true, false, cond, nat_eq, List, refl, sym, ap, subst, ◌∙◌, ⊎_elim, arith}
use Rattle.std.proofs.lemmas.Bool.{cases_eq}
use Rattle.std.proofs.lemmas.Bool.Decides.{nat_tests}
use Rattle.spl_base.specs.declared.TheConstants.{ACTORS}
use Rattle.spl_numbers.specs.Numbers.{has, one_if, times}
use Rattle.spl_branch.specs.Branch.{Branch}
use Rattle.spl_extent.specs.Pool.{granted_to}
use Rattle.spl_holds.specs.declared.grip.Grip.{Grip}
use Rattle.spl_holds.specs.declared.grip.Grip.TheVariants.{Free, Write}
use Rattle.spl_desk.specs.Calls.{MayCall}
use Rattle.spl_desk.specs.Holder.{Holder}
use Rattle.spl_job.specs.Holding.{Holding, IsHolding, with_branch, with_grip, without_job}
use Rattle.spl_enter.proofs.Regrips.{grip_there}
use Rattle.spl_packer.specs.Packs.{IsBuilt, IsToHang}

-- each actor was told of the root
pub root_told : (holder : Holder) (p : Holding) → holder.actor < ACTORS → IsHolding holder p → 0 < p.told
root_told holder p known is = subst (λ (n : ℕ). 0 < n) is.has.told (is.sound.actors holder.actor known).knows_root

-- the published branch waits to be hung
pub built_published : (tells : Bool) (old new : Holder) (branch : Branch) → (built : IsBuilt tells old branch) → IsHolding new (with_branch built.holding) → IsToHang new Free
built_published tells old new branch built is = record {
  holding = with_branch built.holding;
  number = built.number;
  memtable = built.memtable;
  is = is;
  job = built.job;
  published = refl;
  extents = refl;
  root_is = built.free 0;
  elsewhere = λ node other. built.free node;
}

other_node : (node : ℕ) → node ≢ 0 → nat_eq node 0 ≡ false
other_node node other = grind (arith, nat_tests)

-- another grip on the root, and else what was there
pub root_gripped : (old new : Holder) (first second : Grip) (to : IsToHang old first) → IsHolding new (with_grip to.holding 0 second) → IsToHang new second
root_gripped old new first second to is = record {
  holding = with_grip to.holding 0 second;
  number = to.number;
  memtable = to.memtable;
  is = is;
  job = to.job;
  published = to.published;
  extents = to.extents;
  root_is = grip_there to.holding 0 second;
  elsewhere = λ node other. ap (λ (b : Bool). cond b second (to.holding.grips node)) (other_node node other) ∙ to.elsewhere node other;
}

pub still_to_hang : (old new : Holder) (root : Grip) (to : IsToHang old root) → IsHolding new to.holding → IsToHang new root
still_to_hang old new root to is = record {
  holding = to.holding;
  number = to.number;
  memtable = to.memtable;
  is = is;
  job = to.job;
  published = to.published;
  extents = to.extents;
  root_is = to.root_is;
  elsewhere = to.elsewhere;
}

none_granted : (b : Bool) → 0 ≡ one_if b → b ≡ false
none_granted true is = cc
none_granted false is = refl

-- the actor has nothing once its job has ended and it has left the root
pub hung_nothing : (old new : Holder) (to : IsToHang old Write) → IsHolding new (with_grip (without_job to.holding) 0 Free) → MayCall new
hung_nothing old new to is = record {
  descent = is.has.descent;
  job = is.has.job;
  latches = λ node. is.has.grips node ∙ free node;
  extents = λ extent. none_granted (has (granted_to new.at.owners new.actor) extent) (none extent);
}
  where
    free : (node : ℕ) → (with_grip (without_job to.holding) 0 Free).grips node ≡ Free
    free node =
        ⊎_elim
        (λ (here : node ≡ 0). subst (λ (n : ℕ). (with_grip (without_job to.holding) 0 Free).grips n ≡ Free) (sym here) (grip_there (without_job to.holding) 0 Free))
        (λ (away : node ≢ 0). ap (λ (b : Bool). cond b Free (to.holding.grips node)) (other_node node away) ∙ to.elsewhere node away)
        (cases_eq node 0)

    none : (extent : ℕ) → 0 ≡ one_if (has (granted_to new.at.owners new.actor) extent)
    none extent = subst (λ (es : List ℕ). times es extent ≡ one_if (has (granted_to new.at.owners new.actor) extent)) to.extents (is.has.extents extent)
