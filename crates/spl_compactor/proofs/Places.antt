-- What was merged comes to the place of its run, node by node.
use Rattle.std.proofs.Common.{◌≡◌, ℕ, ◌<◌, ◌≤◌, Bool, true, false, cond, nat_eq, [], refl, sym, ap, subst, ◌∙◌, arith}
use Rattle.std.proofs.lemmas.Bool.Decides.{nat_tests}
use Rattle.spl_message.specs.Rule.{Rule}
use Rattle.spl_message.specs.Table.{IsMerged, as_table}
use Rattle.spl_holds.specs.declared.grip.Grip.{Grip}
use Rattle.spl_holds.specs.declared.grip.Grip.TheVariants.{Free, Write}
use Rattle.spl_holds.specs.Grip.{may_write}
use Rattle.spl_desk.specs.Holder.{Holder}
use Rattle.spl_job.specs.Holding.{IsHolding, with_grip, without_job}
use Rattle.spl_job.specs.Merging.{with_told}
use Rattle.spl_job.proofs.Nothing.{held_nothing}
use Rattle.spl_compactor.specs.declared.placing.Placed.TheVariants as placed
use Rattle.spl_compactor.specs.Compacting.{AfterPlace, IsToPlace, no_grip, write_on}

same_node : (node : ℕ) → nat_eq node node ≡ true
same_node node = grind (arith, nat_tests)

pub write_there : (node : ℕ) → write_on node node ≡ Write
write_there node = ap (λ (b : Bool). cond b Write Free) (same_node node)

-- a node that is left has no grip
left_free : (here : Bool) (grip : Grip) → grip ≡ cond here Write Free → cond here Free grip ≡ Free
left_free true grip is = refl
left_free false grip is = is

pub place_least : (tells : Bool) (holder : Holder) (least more : ℕ) (output : Bool) (grips : ℕ → Grip) → least ≤ more → IsToPlace tells holder more output grips → IsToPlace tells holder least output grips
place_least tells holder least more output grips fewer to = record {
  number = to.number;
  run = to.run;
  holding = to.holding;
  holds = to.holds;
  job = to.job;
  published = to.published;
  extents = to.extents;
  grips_are = to.grips_are;
  told = (let told = to.told in omega (arith, fewer, told));
  merged = to.merged;
}

module _ (tells : Bool) (old new : Holder) (least node : ℕ) (output : Bool) (same : new.rule ≡ old.rule) where
  -- the actor came to write the node
  pub placed_in : (to : IsToPlace tells old least output no_grip) → IsHolding new (with_grip to.holding node Write) → IsToPlace tells new least output (write_on node)
  placed_in to is = record {
    number = to.number;
    run = to.run;
    holding = with_grip to.holding node Write;
    holds = is;
    job = to.job;
    published = to.published;
    extents = to.extents;
    grips_are = λ other. ap (λ (grip : Grip). cond (nat_eq other node) Write grip) (to.grips_are other);
    told = to.told;
    merged = λ told none. subst (λ (rule : Rule). IsMerged rule to.holding.tables to.run.span to.run.bottom (as_table [])) (sym same) (to.merged told none);
  }

  -- or it did not
  pub placed_out : (to : IsToPlace tells old least output no_grip) → IsHolding new to.holding → IsToPlace tells new least output no_grip
  placed_out to is = record {
    number = to.number;
    run = to.run;
    holding = to.holding;
    holds = is;
    job = to.job;
    published = to.published;
    extents = to.extents;
    grips_are = to.grips_are;
    told = to.told;
    merged = λ told none. subst (λ (rule : Rule). IsMerged rule to.holding.tables to.run.span to.run.bottom (as_table [])) (sym same) (to.merged told none);
  }

  module _ (to : IsToPlace tells old least output (write_on node)) where
    pub writes_there : to.holding.grips node ≡ Write
    writes_there = to.grips_are node ∙ write_there node

    pub may_leave : may_write (to.holding.grips node) ≡ true
    may_leave = ap may_write writes_there

    -- the next node has the run
    pub placed_next : (next told : ℕ) → to.holding.told ≤ told → next < told → IsHolding new (with_grip (with_told to.holding told) node Free) → AfterPlace tells new least output (placed.Next next)
    placed_next next told more below is = (
      told,
      (let was = to.told in omega (arith, was, more)),
      below,
      record {
        number = to.number;
        run = to.run;
        holding = with_grip (with_told to.holding told) node Free;
        holds = is;
        job = to.job;
        published = to.published;
        extents = to.extents;
        grips_are = λ other. left_free (nat_eq other node) (to.holding.grips other) (to.grips_are other);
        told = omega arith;
        merged = λ told none. subst (λ (rule : Rule). IsMerged rule to.holding.tables to.run.span to.run.bottom (as_table [])) (sym same) (to.merged told none);
      },
    )

    -- the job has ended
    pub placed_done : IsHolding new (with_grip (without_job to.holding) node Free) → AfterPlace tells new least output placed.Done
    placed_done is = (
      held_nothing new (with_grip (without_job to.holding) node Free) is refl to.extents (λ other. left_free (nat_eq other node) (to.holding.grips other) (to.grips_are other)),
      subst (λ (n : ℕ). least ≤ n) (sym is.has.told) to.told,
    )

    pub placed_stale : IsHolding new to.holding → AfterPlace tells new least output placed.Stale
    placed_stale is = subst (λ (n : ℕ). least ≤ n) (sym is.has.told) to.told
