-- What the tests of a flush tell: the actor writes both nodes, and the pivot leads from one to the other.
use Rattle.std.proofs.Common.{◌≡◌, ℕ, ◌<◌, true, List, Option, Some, None, length, refl, ap}
use Rattle.std.proofs.lemmas.Bool.{eqb-true, false≢true}
use Rattle.std.proofs.lemmas.List.Quantifiers.{position-Some}
use Rattle.spl_holds.specs.declared.grip.Grip.{Grip}
use Rattle.spl_holds.specs.declared.grip.Grip.TheVariants.{Free, Read, Claim, Write}
use Rattle.spl_holds.specs.Grip.{is_write}
use Rattle.spl_holds.specs.Holds.{grip_of}
use Rattle.spl_node.specs.declared.pivot.Pivot.{Pivot}
use Rattle.spl_node.specs.Node.{NodeData, bare, pivot_at}
use Rattle.spl_trunk.specs.Trunk.{node_at}
use Rattle.spl_state.specs.Whole.{Whole}
use Rattle.spl_flush.specs.Flushing.{is_to, pivot_to, writes}

-- the pivot of the parent leads to the child
pub record IsLed (nodes : List NodeData) (parent pivot child : ℕ) : Type 0 where
  pub exists : parent < length nodes
  pub within : pivot < length (node_at nodes parent).pivots
  pub leads : (pivot_at (node_at nodes parent).pivots pivot).child ≡ Some child

-- and the actor writes both
pub record IsReady (whole : Whole) (actor parent pivot child : ℕ) : Type 0 where
  pub writes_parent : grip_of whole.grips actor parent ≡ Write
  pub writes_child : grip_of whole.grips actor child ≡ Write
  pub led : IsLed whole.nodes parent pivot child

is_writing : (grip : Grip) → is_write grip ≡ true → grip ≡ Write
is_writing Write is = refl
is_writing Free is = absurd (false≢true is)
is_writing Read is = absurd (false≢true is)
is_writing Claim is = absurd (false≢true is)

leads_to : (o : Option ℕ) (child : ℕ) → is_to child o ≡ true → o ≡ Some child
leads_to None child is = absurd (false≢true is)
leads_to (Some other) child is = ap (λ (n : ℕ). Some n) (eqb-true other child is)

pub is_ready : (whole : Whole) (actor parent pivot child : ℕ) → writes whole actor parent ≡ true
    → writes whole actor child ≡ true → parent < length whole.nodes
    → pivot_to (node_at whole.nodes parent).pivots child ≡ Some pivot → IsReady whole actor parent pivot child
is_ready whole actor parent pivot child parent_written child_written exists found =
    let pivots = (node_at whole.nodes parent).pivots in
    let at = position-Some (λ (p : Pivot). is_to child p.child) pivots pivot bare found in
    record {
      writes_parent = is_writing (grip_of whole.grips actor parent) parent_written;
      writes_child = is_writing (grip_of whole.grips actor child) child_written;
      led = record {
        exists = exists;
        within = at.0;
        leads = leads_to
            (pivot_at pivots pivot).child child at.1;
      };
    }
