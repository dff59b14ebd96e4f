-- When a call may be made over a session.
use Rattle.std.specs.Prelude.{◌≡◌}
use Rattle.spl_message.specs.History.{History}
use Rattle.spl_message.specs.Rule.{Rule}
use Rattle.spl_desk.specs.Calls.{HasSeen, MayCall}
use Rattle.spl_desk.specs.Holder.{Holder}

-- the holder's actor has nothing, and the desk's law may be called and is the core's
pub record MayGoOn (holder : Holder) (Saw : History → Type 0) (IsReady : Type 0) (rule : Rule) (IsLawful : Type 0) : Type 0 where
  pub nothing : MayCall holder
  pub seen : HasSeen Saw
  pub ready : IsReady
  pub law : rule ≡ holder.rule
  pub lawful : IsLawful
