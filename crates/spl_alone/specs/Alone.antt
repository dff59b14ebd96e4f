-- The only holder of turns of a core.
use Rattle.std.specs.Prelude.{true}
use Rattle.spl_message.specs.Rule.{Rule}
use Rattle.spl_state.specs.Whole.{Whole}
use Rattle.spl_desk.specs.Holder.{Holder}

-- it is actor 0, and the core is as it left it
abbrev pub only_holder : Rule → Whole → Holder
only_holder rule whole = record { alone = true; actor = 0; turns = whole.counters.steps; rule = rule; at = whole }
