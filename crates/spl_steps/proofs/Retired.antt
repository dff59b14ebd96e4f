-- One running caller less changes nothing that anyone relies on.
use Rattle.std.proofs.Common.{◌≡◌, ℕ, Bool, true, refl, sym, subst}
use Rattle.spl_message.specs.Rule.{Rule}
use Rattle.spl_state.specs.declared.counters.Counters.{Counters}
use Rattle.spl_state.specs.Frame.{IsFramed}
use Rattle.spl_state.specs.Sound.{IsSound, AreDrafts}
use Rattle.spl_state.specs.Whole.{Whole}
use Rattle.spl_state.proofs.Frames.{still}

abbrev pub with_running : Whole → ℕ → Whole
with_running whole running = record whole { counters = record whole.counters { running = running } }

pub running_sound : (whole : Whole) (running : ℕ) → IsSound whole → IsSound (with_running whole running)
running_sound whole running sound = record {
  shaped = sound.shaped;
  latches = sound.latches;
  latched = sound.latched;
  extents = sound.extents;
  memtables = sound.memtables;
  count = sound.count;
  actors = sound.actors;
  apart = sound.apart;
  picked = sound.picked;
  runs = sound.runs;
  ends = sound.ends;
  bounds = record {
    steps = sound.bounds.steps;
    places = sound.bounds.places;
    branches = sound.bounds.branches;
    memtables = sound.bounds.memtables;
    lists = sound.bounds.lists;
    generations = sound.bounds.generations;
    height = sound.bounds.height;
    numbers = sound.bounds.numbers;
  };
}

pub running_framed : (whole old : Whole) → whole ≡ old → (running actor : ℕ) (rule : Rule) (tells : Bool) → (tells ≡ true → AreDrafts rule old) → IsFramed rule tells old (with_running whole running) actor
running_framed whole old view_is running actor rule tells drafts =
    let here : IsFramed rule tells old (with_running old running) actor = record {
      drafts = drafts;
      means = λ told key. refl;
      others = λ other below apart. still rule tells old (with_running old running) other refl refl refl refl refl (λ node. refl);
    } in
    subst (λ (w : Whole). IsFramed rule tells old (with_running w running) actor) (sym view_is) here
