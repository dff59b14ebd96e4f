-- What a turn of a part of the job shows, it shows of the whole.
use Rattle.std.specs.Prelude.{Option, Some, None, Result, Ok, Err, IfOk, IfSome}
use Rattle.spl_message.specs.History.{History}
use Rattle.spl_desk.specs.declared.fault.CallFault.{CallFault}
use Rattle.spl_desk.specs.Holder.{BranchKind, Holder}
use Rattle.spl_desk.specs.Quiet.{IsQuiet, WasMade}
use Rattle.spl_desk.specs.Turn.{Turn}
use Rattle.spl_desk.proofs.Quiet.{made_before, made_behind}
use Rattle.spl_packer.specs.declared.packed.Packed.{Packed}
use Rattle.spl_packer.specs.Outcomes.{ShowsPacked, WasPacked}

-- what is weaker is known of the turn too
pub made_so : {B : Type 0} (kind : BranchKind B) (old new : Holder) (history : History) (Sees : History → Type 0) (Is Has : Turn B → Type 0) → ((turn : Turn B) → Is turn → Has turn) → WasMade kind old history new Sees Is → WasMade kind old history new Sees Has
made_so kind old new history Sees Is Has each made = record {
  turns = made.turns;
  seen = made.seen;
  walks = made.walks;
  saw = made.saw;
  says = (made.says.0, (made.says.1.0, made.says.1.1, each made.says.1.0 made.says.1.2));
}

module _ {B : Type 0} (kind : BranchKind B) (old mid new : Holder) (Saw Between Sees : History → Type 0) where
  pub packed_behind : (r : Result Packed CallFault) → IsQuiet kind old Saw mid Between → IfOk r (WasPacked kind mid Between new Sees) → IfOk r (WasPacked kind old Saw new Sees)
  packed_behind (Ok packed) one two = made_behind kind old mid new Saw Between Sees (ShowsPacked packed) one two
  packed_behind (Err _) one two = tt

  pub packed_before : (r : Result Packed CallFault) → IsQuiet kind old Saw mid Between → IfOk r (WasPacked kind old Saw mid Between) → IsQuiet kind mid Between new Sees → IfOk r (WasPacked kind old Saw new Sees)
  packed_before (Ok packed) one made two = made_before kind old mid new Saw Between Sees (ShowsPacked packed) one.same made two
  packed_before (Err _) one made two = tt

  pub tried_behind : (r : Result (Option Packed) CallFault) → IsQuiet kind old Saw mid Between → IfOk r (λ tried. IfSome tried (WasPacked kind mid Between new Sees)) → IfOk r (λ tried. IfSome tried (WasPacked kind old Saw new Sees))
  tried_behind (Ok (Some packed)) one two = made_behind kind old mid new Saw Between Sees (ShowsPacked packed) one two
  tried_behind (Ok None) one two = tt
  tried_behind (Err _) one two = tt
