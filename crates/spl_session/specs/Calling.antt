-- When a call may be made over a desk.
use Rattle.std.specs.Prelude.{◌≡◌, ℕ, ◌≤◌, ◌^◌, true}
use Rattle.spl_message.specs.History.{History}
use Rattle.spl_message.specs.Rule.{Rule, newest}
use Rattle.spl_state.specs.Whole.{Whole}
use Rattle.spl_desk.specs.Calls.{HasSeen, MayCall}
use Rattle.spl_desk.specs.Holder.{Holder}

-- the holder is not spent, its actor has nothing, and the desk's law may be called and is the core's
pub record MayAsk (holder : Holder) (Saw : History → Type 0) (IsReady : Type 0) (rule : Rule) (IsLawful : Type 0) : Type 0 where
  pub few : holder.turns ≤ 2 ^ 40
  pub nothing : MayCall holder
  pub seen : HasSeen Saw
  pub ready : IsReady
  pub law : rule ≡ holder.rule
  pub lawful : IsLawful

-- the only holder of a core, which made so many steps
abbrev pub late_holder : ℕ → Whole → Holder
late_holder turns whole = record { alone = true; actor = 0; turns = turns; rule = newest; at = whole }
