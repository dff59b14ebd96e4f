-- What the faults of the layers below are to a pager.
use Rattle.spl_page.specs.declared.fault.PageFault.{PageFault}
use Rattle.spl_page.specs.declared.fault.PageFault.TheVariants.{Damaged as DamagedPage, NoMemory as NoMemoryForPage}
use Rattle.spl_port.specs.declared.port.PortFault.{PortFault}
use Rattle.spl_port.specs.declared.port.PortFault.TheVariants.{Failed as FailedPort, NoMemory as NoMemoryOfPort}
use Rattle.spl_pager.specs.declared.fault.FetchFault.{FetchFault}
use Rattle.spl_pager.specs.declared.fault.FetchFault.TheVariants.{Failed, Damaged, NoMemory}

abbrev pub of_port : PortFault → FetchFault
of_port FailedPort = Failed
of_port NoMemoryOfPort = NoMemory

abbrev pub of_page : PageFault → FetchFault
of_page (DamagedPage damaged) = Damaged damaged
of_page NoMemoryForPage = NoMemory
