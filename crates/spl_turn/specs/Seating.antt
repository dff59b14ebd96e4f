-- What a clause says of a seat.
use Rattle.std.specs.Prelude.{◌≡◌, ℕ, ◌+◌, ◌<◌, ◌≤◌, List, [], ◌∷◌, ◌++◌, Option, Some}
use Rattle.atomic_table.specs.Table.{Me}
use Rattle.spl_turn.specs.declared.known.Known.{Known}
use Rattle.spl_turn.specs.declared.known.Stage.TheVariants.{Idle}

-- between two turns: it is one seat, it holds nothing, and its plain numbers are those of its view
pub record Rests {G E F : Type 0} (me : Me G (Known E F)) (number turns made : ℕ) : Type 0 where
  pub number_is : me.0.number ≡ number
  pub turns_is : me.0.turns ≡ turns
  pub made_is : me.0.made ≡ made
  pub one_seat : me.0.seats ≡ 1
  pub alone : me.0.joined ≡ []
  pub idle : me.0.stage ≡ Idle
  pub bare : me.1 ≡ []
  pub below : number < 32
  pub few_made : made ≤ 32

-- a place of the table where a seat is that makes a turn now: it is one seat, with turns left
pub record IsReady {G E F : Type 0} (me : Me G (Known E F)) : Type 0 where
  pub few_turns : me.0.turns < 2199023255552
  pub one_seat : me.0.seats ≡ 1
  pub alone : me.0.joined ≡ []
  pub idle : me.0.stage ≡ Idle
