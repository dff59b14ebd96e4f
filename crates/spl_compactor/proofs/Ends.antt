-- What a turn of a part of the job shows, it shows of the whole.
use Rattle.std.proofs.Common.{ℕ}
use Rattle.std.specs.Prelude.{Result, Ok, Err, IfOk, IfSome, OnOk}
use Rattle.spl_message.specs.History.{History}
use Rattle.spl_desk.specs.declared.fault.CallFault.{CallFault}
use Rattle.spl_desk.specs.Holder.{BranchKind, Holder}
use Rattle.spl_desk.specs.Quiet.{IsQuiet, WasMade}
use Rattle.spl_desk.specs.Turn.{Turn}
use Rattle.spl_desk.proofs.Quiet.{made_before, made_behind}
use Rattle.spl_job.specs.Merging.{IsStartTurn}
use Rattle.spl_job.specs.declared.merging.Started.{Started}
use Rattle.spl_compactor.specs.declared.compacted.Compacted.{Compacted}
use Rattle.spl_compactor.specs.declared.compacted.Compacted.TheVariants as compacted
use Rattle.spl_compactor.specs.declared.placing.Placed.{Placed}
use Rattle.spl_compactor.specs.declared.placing.Placed.TheVariants as placed
use Rattle.spl_compactor.specs.Outcomes.{AsksFor, ShowsCompacted, ShowsEnd, WasAskedFor, WasCompacted, WasEnded, ends}
use Rattle.spl_compactor.proofs.Stops.{made_weaker}

-- an end of the job is what came of the run
compacted_end : {B : Type 0} (node first last : ℕ) (answer : Compacted) (turn : Turn B) → ShowsEnd answer turn → ShowsCompacted node first last answer turn
compacted_end node first last compacted.Done turn is = is
compacted_end node first last compacted.Stale turn is = is
compacted_end node first last compacted.Gone turn is = absurd is
compacted_end node first last compacted.Crossed turn is = absurd is
compacted_end node first last compacted.Busy turn is = absurd is

module _ {B : Type 0} (kind : BranchKind B) (old mid new : Holder) (Saw Between Sees : History → Type 0) where
  pub placed_behind : (r : Result Placed CallFault) → IsQuiet kind old Saw mid Between → IfOk r (λ placed. IfSome (ends placed) (WasEnded kind mid Between new Sees)) → IfOk r (λ placed. IfSome (ends placed) (WasEnded kind old Saw new Sees))
  placed_behind (Ok (placed.Next node)) one two = tt
  placed_behind (Ok placed.Done) one two = made_behind kind old mid new Saw Between Sees (ShowsEnd compacted.Done) one two
  placed_behind (Ok placed.Stale) one two = made_behind kind old mid new Saw Between Sees (ShowsEnd compacted.Stale) one two
  placed_behind (Err _) one two = tt

  pub ended_behind : (r : Result Compacted CallFault) → IsQuiet kind old Saw mid Between → IfOk r (WasEnded kind mid Between new Sees) → IfOk r (WasEnded kind old Saw new Sees)
  ended_behind (Ok answer) one two = made_behind kind old mid new Saw Between Sees (ShowsEnd answer) one two
  ended_behind (Err _) one two = tt

  module _ (node first last : ℕ) where
    pub compacted_behind : (r : Result Compacted CallFault) → IsQuiet kind old Saw mid Between → IfOk r (WasEnded kind mid Between new Sees) → IfOk r (WasCompacted kind old Saw new Sees node first last)
    compacted_behind (Ok answer) one two =
        made_behind kind old mid new Saw Between Sees (ShowsCompacted node first last answer) one
        (λ history had. made_weaker kind mid history new Sees (ShowsEnd answer) (ShowsCompacted node first last answer) (compacted_end node first last answer) (two history had))
    compacted_behind (Err _) one two = tt

    -- the run was asked for in the earlier part
    pub asked_before : (r : Result Compacted CallFault) → IsQuiet kind old Saw mid Between → WasAskedFor kind old Saw mid Between node first last → IsQuiet kind mid Between new Sees → OnOk r (WasAskedFor kind old Saw new Sees node first last)
    asked_before (Ok answer) one asked two = made_before kind old mid new Saw Between Sees (AsksFor node first last) one.same asked two
    asked_before (Err _) one asked two = tt

-- the turn in which the run was asked for, whatever it was answered
pub asked_so : {B : Type 0} (kind : BranchKind B) (old new : Holder) (Saw Sees : History → Type 0) (node first last : ℕ) (answer : Started B) → ((history : History) → Saw history → WasMade kind old history new Sees (IsStartTurn node first last (Ok answer))) → WasAskedFor kind old Saw new Sees node first last
asked_so kind old new Saw Sees node first last answer made history had =
    made_weaker kind old history new Sees (IsStartTurn node first last (Ok answer)) (AsksFor node first last) (λ turn is. is.0) (made history had)
