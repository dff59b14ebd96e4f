-- Why a branch is not built.
use Rattle.std.specs.Prelude.{◌≡◌, Result, Err}
use Rattle.spl_port.specs.Counts.{Counts, Rose}
use Rattle.spl_port.specs.declared.port.PortFault.{PortFault}
use Rattle.spl_port.specs.declared.port.PortFault.TheVariants.{Failed, NoMemory}
use Rattle.spl_build.specs.declared.fault.BuildFault.{BuildFault}
use Rattle.spl_build.specs.declared.fault.BuildFault.TheVariants.{Fault, NoMemory as WantOfMemory}

-- what a fault of the port is to a builder
abbrev pub build_fault : PortFault → BuildFault
build_fault Failed = Fault
build_fault NoMemory = WantOfMemory

-- `Fault` comes only where the port's count of faults rose
abbrev pub HasBuildCause : {T : Type 0} → Counts → Counts → Result T BuildFault → Type 0
HasBuildCause before after result = result ≡ Err Fault → Rose before.faults after.faults
