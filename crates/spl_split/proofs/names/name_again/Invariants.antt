use Rattle.spl_bundle.proofs.Live.{live_below}
use Rattle.spl_split.specs.Naming.{NamedMore}
use Rattle.spl_split.proofs.names.name_again.Given as goal

-- the bundles below the number gave their names
abbrev pub invariant-loop-number : goal.invariant-loop-number
invariant-loop-number g l = NamedMore l.initial.refs l.refs (live_below l.lists l.lists.first l.number)
