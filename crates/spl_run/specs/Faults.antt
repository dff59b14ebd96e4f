-- What the faults of a call are to a row.
use Rattle.spl_message.specs.declared.answer.Cause.{Cause}
use Rattle.spl_message.specs.declared.answer.Cause.TheVariants as cause
use Rattle.spl_desk.specs.declared.fault.CallFault.{CallFault}
use Rattle.spl_desk.specs.declared.fault.CallFault.TheVariants.{Fault, Damaged, Full, Nodes, Spent, NoMemory}

abbrev pub cause_for : CallFault → Cause
cause_for Fault = cause.Fault
cause_for (Damaged damage) = cause.Damaged
cause_for Full = cause.Full
cause_for Nodes = cause.Nodes
cause_for (Spent turns) = cause.Spent
cause_for NoMemory = cause.Memory
