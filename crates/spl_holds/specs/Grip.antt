-- Tests of one actor's grip on a node.
use Rattle.std.specs.Prelude.{Bool, true, false}
use Rattle.spl_holds.specs.declared.grip.Grip.{Grip}
use Rattle.spl_holds.specs.declared.grip.Grip.TheVariants.{Free, Read, Claim, Write}

abbrev pub is_read : Grip → Bool
is_read Read = true
is_read Free = false
is_read Claim = false
is_read Write = false

abbrev pub is_write : Grip → Bool
is_write Write = true
is_write Free = false
is_write Read = false
is_write Claim = false

-- the grip is a claim or a write
abbrev pub may_write : Grip → Bool
may_write Claim = true
may_write Write = true
may_write Free = false
may_write Read = false

abbrev pub is_claim : Grip → Bool
is_claim Claim = true
is_claim Free = false
is_claim Read = false
is_claim Write = false

-- the grip is one
abbrev pub is_held : Grip → Bool
is_held Free = false
is_held Read = true
is_held Claim = true
is_held Write = true
