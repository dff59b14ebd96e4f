-- How a turn that was refused is one of a longer piece of work.
use Rattle.spl_message.specs.History.{History}
use Rattle.spl_desk.specs.Holder.{BranchKind, Holder}
use Rattle.spl_desk.specs.Quiet.{WasMade}
use Rattle.spl_desk.specs.Turn.{Turn}

-- a turn that is such is such too
pub made_so : {B : Type 0} (kind : BranchKind B) (old : Holder) (history : History) (new : Holder) (Saw : History → Type 0) (Is Has : Turn B → Type 0) → ((turn : Turn B) → Is turn → Has turn) → WasMade kind old history new Saw Is → WasMade kind old history new Saw Has
made_so kind old history new Saw Is Has then made = record {
  turns = made.turns;
  seen = made.seen;
  walks = made.walks;
  saw = made.saw;
  says = (made.says.0, (made.says.1.0, made.says.1.1, then made.says.1.0 made.says.1.2));
}
