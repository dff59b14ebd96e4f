-- Why steps that touch no device are stopped.
use Rattle.spl_desk.specs.declared.fault.CallFault.{CallFault}
use Rattle.spl_desk.specs.declared.fault.CallFault.TheVariants.{Spent, NoMemory}
use Rattle.spl_desk.specs.Calls.{IsSpentAt}
use Rattle.spl_desk.specs.Holder.{Holder}

-- the holder has made as many steps as it may, or memory ran out
abbrev pub HasTurnCause : Holder → CallFault → Type 0
HasTurnCause new (Spent turns) = IsSpentAt turns new
HasTurnCause new NoMemory = Unit {0}
HasTurnCause new _ = ⊥
