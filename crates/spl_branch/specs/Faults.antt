-- What the faults of a pager are to a branch.
use Rattle.spl_pager.specs.declared.fault.FetchFault.{FetchFault}
use Rattle.spl_pager.specs.declared.fault.FetchFault.TheVariants.{Failed, Damaged as DamagedPage, NoMemory as NoMemoryForPage}
use Rattle.spl_branch.specs.declared.fault.BranchFault.{BranchFault}
use Rattle.spl_branch.specs.declared.fault.BranchFault.TheVariants.{Fault, Damaged, NoMemory}

abbrev pub of_fetch : FetchFault → BranchFault
of_fetch Failed = Fault
of_fetch (DamagedPage damaged) = Damaged damaged
of_fetch NoMemoryForPage = NoMemory
