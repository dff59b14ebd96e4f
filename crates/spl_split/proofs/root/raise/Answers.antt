use Rattle.std.proofs.Common.{rules, ◌≡◌, ◌<◌, true, false, sym, subst, length}
use Rattle.std.specs.Prelude.{is_err}
use Rattle.spl_holds.specs.declared.grip.Grip.TheVariants.{Write}
use Rattle.spl_holds.specs.Holds.{grip_of}
use Rattle.spl_state.specs.Bounds.{AreBelow}
use Rattle.spl_state.specs.Whole.{Whole}
use Rattle.spl_split.proofs.Results.{where_done, where_failed}
use Rattle.spl_split.proofs.Raises.{raise_sound, raise_framed, raise_marks, not_raised_framed}
use Rattle.spl_split.proofs.root.raise.Goals as goal

pub returns-then-is_err-clause-framed : goal.returns-then-is_err-clause-framed
returns-then-is_err-clause-framed g c = λ rule drafts.
    let failed : is_err c.raise_root.result ≡ true = search rules in
    not_raised_framed _ _ c.parts.view_is c.raise_root.new.trunk c.args.actor rule _ drafts
    (where_failed c.raise_root.result _ failed c.raise_root.ensures.err)

pub invariant_of-parts-2 : goal.invariant_of-parts-2
invariant_of-parts-2 g c =
    let done : is_err c.raise_root.result ≡ false = search rules in
    let room : length c.parts.inside.trunk < 4096 = search rules in
    let writes : grip_of c.parts.inside.holds c.args.actor 0 ≡ Write = search rules in
    let below = subst (λ (w : Whole). AreBelow w.nodes w.tables w.counters)
    (sym c.parts.view_is) c.requires.fresh in
    raise_sound _ c.parts.invariant c.args.actor c.requires.known room writes c.add-number.result
    c.add-number.ensures.number c.raise_root.new.trunk c.add-number.new.self c.tell.new.self
    (where_done c.raise_root.result _ done c.raise_root.ensures.ok) c.add-number.ensures.added
    c.tell.ensures below c.add-number.ensures.latched

pub returns-clause-marks : goal.returns-clause-marks
returns-clause-marks g c = λ is.
    let done : is_err c.raise_root.result ≡ false = search rules in
    let room : length c.parts.inside.trunk < 4096 = search rules in
    let writes : grip_of c.parts.inside.holds c.args.actor 0 ≡ Write = search rules in
    raise_marks _ c.parts.invariant c.args.actor c.requires.known room writes c.add-number.result
    c.add-number.ensures.number c.raise_root.new.trunk c.add-number.new.self c.tell.new.self
    (where_done c.raise_root.result _ done c.raise_root.ensures.ok) c.add-number.ensures.added
    c.tell.ensures _ c.parts.view_is

pub returns-clause-framed : goal.returns-clause-framed
returns-clause-framed g c = λ rule drafts.
    let done : is_err c.raise_root.result ≡ false = search rules in
    let room : length c.parts.inside.trunk < 4096 = search rules in
    let writes : grip_of c.parts.inside.holds c.args.actor 0 ≡ Write = search rules in
    raise_framed _ c.parts.invariant c.args.actor c.requires.known room writes c.add-number.result
    c.add-number.ensures.number c.raise_root.new.trunk c.add-number.new.self c.tell.new.self
    (where_done c.raise_root.result _ done c.raise_root.ensures.ok) c.add-number.ensures.added
    c.tell.ensures _ c.parts.view_is rule _ drafts
