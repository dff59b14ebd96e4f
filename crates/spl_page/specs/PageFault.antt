-- Why a page is not read.
use Rattle.std.specs.Prelude.{◌≡◌, ℕ, List, Option, Some, None}
use Rattle.spl_port.specs.declared.at.At.{At}
use Rattle.spl_port.specs.declared.damaged.Why.{Why}
use Rattle.spl_port.specs.Page.{page_fault}
use Rattle.spl_page.specs.declared.fault.PageFault.{PageFault}
use Rattle.spl_page.specs.declared.fault.PageFault.TheVariants.{Damaged, NoMemory}

-- it tells the place and this first reason against the bytes; memory ran out only where there is none
abbrev pub IsFormFault : At → Option Why → PageFault → Type 0
IsFormFault at why (Damaged damaged) = (damaged.at ≡ at) × (why ≡ Some damaged.why)
IsFormFault at why NoMemory = why ≡ None

-- it tells the place and the first reason why the bytes are no page for it; memory ran out only where they are one
abbrev pub IsFaultOf : At → List ℕ → PageFault → Type 0
IsFaultOf at bytes fault = IsFormFault at (page_fault at bytes) fault
