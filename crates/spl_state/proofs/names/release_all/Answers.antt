use Rattle.std.proofs.Common.{rules, arith, ◌<◌, ◌≤◌, List, ℕ, length, drop, suc, subst, add-one}
use Rattle.std.proofs.Math.ListN.{drop_of_length-le}
use Rattle.std.proofs.Math.Seq.{drop-cons}
use Rattle.spl_state.proofs.LettingGo.{Freeing, begins_freeing, next_is_held, frees_next, ends_freed}
use Rattle.spl_state.proofs.names.release_all.Goals as goal

pub release-requires : goal.release-requires
release-requires c =
    let within : c.loop-extent.extent-index < length c.args.extents.now = omega arith in
    let here = subst (λ (left : List ℕ). Freeing c.args.pool.now c.loop-extent.pool c.args.branch left) (drop-cons c.args.extents.now c.loop-extent.extent-index 0 within) c.loop-extent.invariant in
    next_is_held _ _ c.args.branch _ _ here

pub loop-extent-preserved : goal.loop-extent-preserved
loop-extent-preserved c =
    let within : c.loop-extent.extent-index < length c.args.extents.now = omega arith in
    let here = subst (λ (left : List ℕ). Freeing c.args.pool.now c.loop-extent.pool c.args.branch left) (drop-cons c.args.extents.now c.loop-extent.extent-index 0 within) c.loop-extent.invariant in
    rw (add-one, c.release.ensures) (frees_next _ _ c.args.branch _ _ here)

pub returns : goal.returns
returns c =
    let past : length c.args.extents.now ≤ c.loop-extent.extent-index = omega arith in
    let none = drop_of_length-le c.args.extents.now past in
    ends_freed _ _ c.args.branch (subst (λ (left : List ℕ). Freeing c.args.pool.now c.loop-extent.pool c.args.branch left) none c.loop-extent.invariant)
