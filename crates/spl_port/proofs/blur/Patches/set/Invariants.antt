use Rattle.std.proofs.Common.{◌≡◌, drop, length}
use Rattle.spl_port.specs.Blur.{patched_page}
use Rattle.spl_port.proofs.blur.Patches.set.Given as goal

abbrev pub invariant-loop-at : goal.invariant-loop-at
invariant-loop-at l =
    (patched_page (drop l.at-index l.self) l.page ≡ patched_page l.self l.fn.page) × (length l.page ≡ length l.fn.page)
