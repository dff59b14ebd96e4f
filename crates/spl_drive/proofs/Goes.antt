-- A call may be made over a core in which none was made.
use Rattle.std.proofs.Common.{ℕ, true, []}
use Rattle.spl_message.specs.Rule.{newest}
use Rattle.spl_state.specs.Sound.{IsEmpty}
use Rattle.spl_state.specs.Whole.{Whole}
use Rattle.spl_core.specs.Standing.{StandsFor}
use Rattle.spl_alone.specs.Alone.{only_holder}
use Rattle.spl_session.proofs.Asks.{ask_first}
use Rattle.spl_drive.specs.Going.{MayGoOn}

pub goes_first : (extents callers : ℕ) (whole : Whole) (IsReady IsLawful : Type 0) → IsEmpty extents callers whole → StandsFor newest true whole [] → IsReady → IsLawful → MayGoOn (only_holder newest whole) (StandsFor newest true whole) IsReady newest IsLawful
goes_first extents callers whole IsReady IsLawful empty stands ready lawful =
    let asks = ask_first extents callers whole IsReady IsLawful empty stands ready lawful in
    record { nothing = asks.nothing; seen = asks.seen; ready = asks.ready; law = asks.law; lawful = asks.lawful }
