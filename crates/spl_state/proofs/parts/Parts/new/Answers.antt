use Rattle.std.proofs.Common.{◌≡◌, List, [], ◌∷◌, refl, subst, rules}
use Rattle.std.specs.Prelude.{All}
use Rattle.spl_holds.specs.declared.grip.Grip.{Grip}
use Rattle.spl_holds.specs.Latch.{IsLatched, nobody}
use Rattle.spl_trunk.proofs.Trees.{leaf_shaped}
use Rattle.spl_state.specs.Sound.{IsEmpty}
use Rattle.spl_state.proofs.Empty.{empty_is_sound}
use Rattle.spl_state.proofs.Views.{none_seen}
use Rattle.spl_state.proofs.parts.Parts.new.Goals as goal

pub invariant_of-result : goal.invariant_of-result
invariant_of-result g c =
    let latched = subst (λ (grips : List (List Grip)). All IsLatched grips) c.in_ok-new-2.ensures.root c.in_ok-new-2.ensures.latched in
    empty_is_sound c.args.extents c.args.callers _ (record {
      nodes = c.in_ok-new.ensures.leaf;
      refs = λ number. none_seen _ _ number (c.new-2.ensures number);
      owners = c.in_ok-new-3.ensures;
      grips = c.in_ok-new-2.ensures.root;
      tables = c.in_ok-new-4.ensures;
      actors = c.in_ok-new-5.ensures;
      counters = refl;
    }) leaf_shaped latched

pub returns : goal.returns
returns g c = record {
  nodes = c.in_ok-new.ensures.leaf;
  refs = λ number. none_seen _ _ number (c.new-2.ensures number);
  owners = c.in_ok-new-3.ensures;
  grips = c.in_ok-new-2.ensures.root;
  tables = c.in_ok-new-4.ensures;
  actors = c.in_ok-new-5.ensures;
  counters = refl;
}
