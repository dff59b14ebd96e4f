-- An actor has its grips node by node.
use Rattle.std.proofs.Common.{◌≡◌, ℕ, nat_eq, Bool, true, false, cond, refl, sym, ap, subst, ◌∙◌, ⊎_elim, ◌≢◌, arith}
use Rattle.std.proofs.lemmas.Bool.{cases_eq}
use Rattle.std.proofs.lemmas.Bool.Decides.{nat_tests}
use Rattle.std.specs.Prelude.{Result, Ok, Err, IfOk}
use Rattle.spl_holds.specs.declared.grip.Grip.{Grip}
use Rattle.spl_holds.specs.declared.grip.Grip.TheVariants.{Claim, Free, Write}
use Rattle.spl_desk.specs.Holder.{Holder}
use Rattle.spl_job.specs.Holding.{Holding, IsHolding, after_latch, with_grip}
use Rattle.spl_enter.specs.Both.{after_both}

-- what has the same grip on each node is the same
pub regrip : (holder : Holder) (p : Holding) (grips : ℕ → Grip) → ((node : ℕ) → p.grips node ≡ grips node) → IsHolding holder p → IsHolding holder (record p { grips = grips })
regrip holder p grips same is = record {
  sound = is.sound;
  has = record {
    descent = is.has.descent;
    job = is.has.job;
    published = is.has.published;
    told = is.has.told;
    grips = λ node. is.has.grips node ∙ same node;
    extents = is.has.extents;
    sources = is.has.sources;
  };
}

same_number : (node : ℕ) → nat_eq node node ≡ true
same_number node = grind (arith, nat_tests)

other_number : (other node : ℕ) → other ≢ node → nat_eq other node ≡ false
other_number other node apart = grind (arith, nat_tests)

-- the grip that was put on a node
pub grip_there : (p : Holding) (node : ℕ) (grip : Grip) → (with_grip p node grip).grips node ≡ grip
grip_there p node grip = ap (λ (b : Bool). cond b grip (p.grips node)) (same_number node)

-- the grips on other nodes stay
pub grip_elsewhere : (p : Holding) (node other : ℕ) (grip : Grip) → other ≢ node → (with_grip p node grip).grips other ≡ p.grips other
grip_elsewhere p node other grip apart = ap (λ (b : Bool). cond b grip (p.grips other)) (other_number other node apart)

-- of two grips put on a node the second is had
pub grip_twice : (holder : Holder) (p : Holding) (node : ℕ) (first second : Grip) → IsHolding holder (with_grip (with_grip p node first) node second) → IsHolding holder (with_grip p node second)
grip_twice holder p node first second is =
    regrip holder (with_grip (with_grip p node first) node second) (with_grip p node second).grips (λ other. by other (nat_eq other node)) is
  where
    by : (other : ℕ) (here : Bool) → cond here second (cond here first (p.grips other)) ≡ cond here second (p.grips other)
    by other true = refl
    by other false = refl

-- putting on a node the grip that was there changes nothing
pub grip_back : (holder : Holder) (p : Holding) (node : ℕ) (grip : Grip) → p.grips node ≡ grip → IsHolding holder (with_grip p node grip) → IsHolding holder p
grip_back holder p node grip was is = regrip holder (with_grip p node grip) p.grips same is
  where
    same : (other : ℕ) → (with_grip p node grip).grips other ≡ p.grips other
    same other =
        ⊎_elim
        (λ (here : other ≡ node). subst (λ (n : ℕ). (with_grip p node grip).grips n ≡ p.grips n) (sym here) (grip_there p node grip ∙ sym was))
        (λ (away : other ≢ node). ap (λ (b : Bool). cond b grip (p.grips other)) (other_number other node away))
        (cases_eq other node)

-- a claim that became a write, or was ended
pub raised : {E : Type 0} (holder : Holder) (p : Holding) (node : ℕ) (r : Result Bool E) → p.grips node ≡ Free → IfOk r (λ made. IsHolding holder (with_grip (with_grip p node Claim) node (cond made Write Free))) → IfOk r (λ made. IsHolding holder (after_latch p node made Write))
raised holder p node (Ok true) free is = grip_twice holder p node Claim Write is
raised holder p node (Ok false) free is = grip_back holder p node Free free (grip_twice holder p node Claim Free is)
raised holder p node (Err e) free is = tt

-- a write that was ended
pub ended : (holder : Holder) (p : Holding) (node : ℕ) → p.grips node ≡ Free → IsHolding holder (with_grip (with_grip p node Write) node Free) → IsHolding holder p
ended holder p node free is = grip_back holder p node Free free (grip_twice holder p node Write Free is)

-- an actor that came to write both nodes writes each
pub both_written : (p : Holding) (parent child : ℕ) → ((after_both p parent child true).grips parent ≡ Write) × ((after_both p parent child true).grips child ≡ Write)
both_written p parent child = (by (nat_eq parent child), grip_there (with_grip p parent Write) child Write)
  where
    by : (here : Bool) → cond here Write ((with_grip p parent Write).grips parent) ≡ Write
    by true = refl
    by false = grip_there p parent Write
