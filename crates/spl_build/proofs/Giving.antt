-- One more extent changes nothing of what holds.
use Rattle.std.proofs.Common.{◌≡◌, ℕ, List, [], ◌∷◌, ◌++◌, ◌⊎◌, inl, inr, Option, Some, None, Result, Ok, Err, sym, subst}
use Rattle.std.specs.Prelude.{OnOk, OnErr}
use Rattle.spl_build.specs.Builder.{IsBuilding}
use Rattle.spl_build.specs.declared.fault.BuildFault.{BuildFault}
use Rattle.spl_build.specs.declared.stage.Stage.{Stage}
use Rattle.spl_build.specs.declared.stage.Stage.TheVariants.{Adding, Finishing, Over}
use Rattle.spl_build.specs.Work.{IsAdding, IsTold, IsWork, WorkState}

-- the work with these extents
abbrev with_extents : WorkState → List ℕ → WorkState
with_extents work extents = record work { written = record work.written { extents = extents } }

module _ (work : WorkState) (extents : List ℕ) where
  told_given : IsTold work → IsTold (with_extents work extents)
  told_given told = record { order = told.order; hashes = told.hashes; cuts = told.cuts; grove = told.grove }

  work_given : IsWork work → IsWork (with_extents work extents)
  work_given sound = record {
    kinds = sound.kinds;
    most = sound.most;
    first = sound.first;
    height = sound.height;
    shape = sound.shape;
    some = sound.some;
    rising = sound.rising;
    children = sound.children;
    newest = sound.newest;
    told = λ told. told_given (sound.told told);
  }

  adding_given : IsAdding work → IsAdding (with_extents work extents)
  adding_given adding = record {
    sound = work_given adding.sound;
    above = adding.above;
    height = adding.height;
    leaves = adding.leaves;
    room = adding.room;
    told = adding.told;
  }

  leaf_given : (work.begun ≡ []) ⊎ IsAdding work → (work.begun ≡ []) ⊎ IsAdding (with_extents work extents)
  leaf_given (inl none) = inl none
  leaf_given (inr adding) = inr (adding_given adding)

  building_given : (stage : Stage) (stopped : Option BuildFault) → IsBuilding work stage stopped → IsBuilding (with_extents work extents) stage stopped
  building_given stage (Some _) building = tt
  building_given Adding None adding = adding_given adding
  building_given Finishing None finishing = record { sound = work_given finishing.sound; some = finishing.some; leaf = leaf_given finishing.leaf }
  building_given Over None building = tt

pub given : {T E : Type 0} (result : Result T E) (work new : WorkState) (extent : ℕ) (stage : Stage) (stopped : Option BuildFault) →
    OnOk result (new ≡ record work { written = record work.written { extents = work.written.extents ++ extent ∷ [] } }) → OnErr result (new ≡ work) → IsBuilding work stage stopped → IsBuilding new stage stopped
given (Ok x) work new extent stage stopped ok err building =
    subst (λ (w : WorkState). IsBuilding w stage stopped) (sym ok) (building_given work (work.written.extents ++ extent ∷ []) stage stopped building)
given (Err e) work new extent stage stopped ok err building = subst (λ (w : WorkState). IsBuilding w stage stopped) (sym err) building
