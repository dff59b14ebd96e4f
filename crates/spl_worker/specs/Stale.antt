-- The turns that show that others are at a piece of work, or have done it.
use Rattle.std.specs.Prelude.{◌⊎◌, ℕ}
use Rattle.spl_state.specs.declared.reply.Reply.{Reply}
use Rattle.spl_state.specs.declared.reply.Reply.TheVariants as reply
use Rattle.spl_desk.specs.Turn.{Turn}
use Rattle.spl_packer.specs.Outcomes.{ShowsFull}
use Rattle.spl_grower.specs.Ends.{ShowsNoSplit}

-- somebody was in the way, or the node is no longer what it was when it was seen
abbrev pub TellsStale : {B : Type 0} → Reply B → Type 0
TellsStale (reply.Again node by) = Unit {0}
TellsStale (reply.Busy by) = Unit {0}
TellsStale (reply.NotOldest oldest by) = Unit {0}
TellsStale (reply.Elsewhere next) = Unit {0}
TellsStale (reply.Gone last oldest) = Unit {0}
TellsStale (reply.Crossed child mark) = Unit {0}
TellsStale (reply.Moved child) = Unit {0}
TellsStale reply.NeedsFlush = Unit {0}
TellsStale (reply.NeedsCompact branches) = Unit {0}
TellsStale answer = ⊥

-- such an answer; or a survey that showed a node that is not to be split; or one that showed the root full
abbrev pub ShowsStale : {B : Type 0} → Turn B → Type 0
ShowsStale turn = TellsStale turn.reply ⊎ (((node : ℕ) × ShowsNoSplit node turn) ⊎ ShowsFull turn)
