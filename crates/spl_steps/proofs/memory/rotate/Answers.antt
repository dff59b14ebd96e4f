use Rattle.std.proofs.Common.{rules, arith, ◌≡◌, ◌<◌, length, sym, subst, inl, inr}
use Rattle.std.proofs.lemmas.Bool.{cases_lt}
use Rattle.spl_message.specs.Table.{key_count}
use Rattle.spl_state.specs.Bounds.{AreBelow}
use Rattle.spl_state.specs.Whole.{Whole}
use Rattle.spl_tables.specs.Memtables.{rotated}
use Rattle.spl_steps.proofs.Puts.{rotation_sound, rotation_framed, same_tables_sound, same_tables_framed}
use Rattle.spl_steps.proofs.memory.rotate.Goals as goal
use Rattle.spl_steps.proofs.memory.rotate.Goals.{in-Ok-Rotated, in-Ok-NotFull, in-Ok-FrozenFull, in-Err}

pub invariant_of-parts : goal.invariant_of-parts
invariant_of-parts g c =
    let below = subst (λ (w : Whole). AreBelow w.nodes w.tables w.counters) (sym c.parts.view_is) c.requires.counted in
    elim c.match-rotate.branch [
      | in-Ok-Rotated w ↦
          let is : c.rotate.new.self ≡ rotated c.parts.inside.tables = search rules in
          let full : key_count c.parts.inside.tables.active ≡ 1024 = elim (cases_lt (key_count c.parts.inside.tables.active) 1024) [
            | inl less ↦ let other = c.rotate.ensures.not_full.1 less in absurd (cc (other, w.in-Ok-Rotated.is, w.in-Ok-Rotated.field-0-is))
            | inr more ↦ omega (arith, c.parts.invariant.memtables.active_limit)
          ] in
          let room : length c.parts.inside.tables.frozen < 4 = elim (cases_lt (length c.parts.inside.tables.frozen) 4) [
            | inl less ↦ less
            | inr more ↦
                let four : length c.parts.inside.tables.frozen ≡ 4 = omega (arith, c.parts.invariant.memtables.few) in
                let other = c.rotate.ensures.frozen_full.1 (full, four) in
                absurd (cc (other, w.in-Ok-Rotated.is, w.in-Ok-Rotated.field-0-is))
          ] in
          rotation_sound _ c.rotate.new.self c.parts.invariant below room full is
      | in-Ok-NotFull w ↦ same_tables_sound _ c.rotate.new.self c.parts.invariant (search rules)
      | in-Ok-FrozenFull w ↦ same_tables_sound _ c.rotate.new.self c.parts.invariant (search rules)
      | in-Err w ↦ same_tables_sound _ c.rotate.new.self c.parts.invariant (search rules)
    ]

pub returns-clause-framed : goal.returns-clause-framed
returns-clause-framed g c = λ rule drafts.
    elim c.match-rotate.branch [
      | in-Ok-Rotated w ↦ rotation_framed _ _ c.parts.view_is c.rotate.new.self c.parts.invariant (search rules) rule _ c.args.actor drafts
      | in-Ok-NotFull w ↦ same_tables_framed _ _ c.parts.view_is c.rotate.new.self (search rules) rule _ c.args.actor drafts
      | in-Ok-FrozenFull w ↦ same_tables_framed _ _ c.parts.view_is c.rotate.new.self (search rules) rule _ c.args.actor drafts
      | in-Err w ↦ same_tables_framed _ _ c.parts.view_is c.rotate.new.self (search rules) rule _ c.args.actor drafts
    ]
