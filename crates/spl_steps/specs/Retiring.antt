-- What the end of a caller asks, and what it leaves.
use Rattle.std.specs.Prelude.{ℕ, ◌-◌, ◌==◌, Bool, not, ◌&&◌, if◌then◌else◌}
use Rattle.spl_state.specs.declared.counters.Counters.{Counters}
use Rattle.spl_state.specs.declared.reply.ActorState.{ActorState}
use Rattle.spl_state.specs.declared.reply.Reply.{Reply}
use Rattle.spl_state.specs.declared.reply.Reply.TheVariants.{Retired, Unfit}
use Rattle.spl_state.specs.Reply.{state_of}
use Rattle.spl_state.specs.Whole.{Whole}

-- no descent, job, extent or grip
abbrev pub has_nothing : ActorState → Bool
has_nothing state =
    not state.descent && (not state.job && (not state.published && ((state.granted == 0) && ((state.reads == 0) && ((state.claims == 0) && (state.writes == 0))))))

-- one running caller less, where one still runs
abbrev pub one_retired : Counters → Counters
one_retired counters = record counters { running = counters.running - 1 }

abbrev pub retire_answer : {B : Type 0} → Whole → ℕ → Reply B
retire_answer whole actor = if has_nothing (state_of whole actor) then Retired (whole.counters.running - 1) else Unfit (state_of whole actor)

abbrev pub after_retire : Whole → ℕ → Whole
after_retire whole actor = if has_nothing (state_of whole actor) then record whole { counters = one_retired whole.counters } else whole
