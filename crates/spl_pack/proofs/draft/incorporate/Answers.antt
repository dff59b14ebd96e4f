use Rattle.std.proofs.Common.{rules, ◌≡◌, None, Some, true, false, sym, subst, length}
use Rattle.std.specs.Prelude.{is_err, nat_lt}
use Rattle.spl_trunk.specs.Trunk.{node_at}
use Rattle.spl_state.specs.Bounds.{AreBelow}
use Rattle.spl_state.specs.Whole.{Whole}
use Rattle.spl_pack.specs.Incorporating.{ready_in, older_than}
use Rattle.spl_pack.proofs.Results.{where_done}
use Rattle.spl_pack.proofs.Incorporates.{is_full, flush_answers, incorporate_sound, incorporate_framed, no_push_framed}
use Rattle.spl_pack.proofs.draft.incorporate.Goals as goal

pub returns-then-is_err-clause-answer : goal.returns-then-is_err-clause-answer
returns-then-is_err-clause-answer g c =
    let err : is_err c.push.result ≡ true = search rules in
    let ready : ready_in c.args.parts.now c.args.actor ≡ Some c.in-Some.packed = search rules in
    let older : older_than c.args.parts.now.tables.frozen c.in-Some.packed.table ≡ None = search rules in
    let full = is_full c.push.result (length (node_at c.parts.inside.trunk 0).lists.bundles) err c.push.ensures.accepted in
    flush_answers c.args.parts.now c.args.actor c.in-Some.packed ready older (subst (λ (w : Whole). nat_lt (length (node_at w.nodes 0).lists.bundles) 24 ≡ false) c.parts.view_is full)

pub returns-then-is_err-clause-framed : goal.returns-then-is_err-clause-framed
returns-then-is_err-clause-framed g c = λ rule drafts.
    no_push_framed _ _ c.parts.view_is c.push.new.self c.args.actor rule _ drafts (search rules)

pub invariant_of-parts-2 : goal.invariant_of-parts-2
invariant_of-parts-2 g c =
    let no_err : is_err c.push.result ≡ false = search rules in
    let ready_old : ready_in c.args.parts.now c.args.actor ≡ Some c.in-Some.packed = search rules in
    let older_old : older_than c.args.parts.now.tables.frozen c.in-Some.packed.table ≡ None = search rules in
    let ready = subst (λ (w : Whole). ready_in w c.args.actor ≡ Some c.in-Some.packed) (sym c.parts.view_is) ready_old in
    let older = subst (λ (w : Whole). older_than w.tables.frozen c.in-Some.packed.table ≡ None) (sym c.parts.view_is) older_old in
    let below = subst (λ (w : Whole). AreBelow w.nodes w.tables w.counters) (sym c.parts.view_is) c.requires.fresh in
    incorporate_sound _ c.parts.invariant c.args.actor c.in-Some.packed ready older c.push.new.self c.remove_oldest.new.self c.set_job.new.self (where_done c.push.result _ no_err c.push.ensures.ok) c.remove_oldest.ensures c.set_job.ensures below (c.push.ensures.shaped c.parts.invariant.shaped)

pub returns-clause-framed : goal.returns-clause-framed
returns-clause-framed g c = λ rule drafts.
    let no_err : is_err c.push.result ≡ false = search rules in
    let ready_old : ready_in c.args.parts.now c.args.actor ≡ Some c.in-Some.packed = search rules in
    let older_old : older_than c.args.parts.now.tables.frozen c.in-Some.packed.table ≡ None = search rules in
    let ready = subst (λ (w : Whole). ready_in w c.args.actor ≡ Some c.in-Some.packed) (sym c.parts.view_is) ready_old in
    let older = subst (λ (w : Whole). older_than w.tables.frozen c.in-Some.packed.table ≡ None) (sym c.parts.view_is) older_old in
    incorporate_framed _ c.parts.invariant c.args.actor c.in-Some.packed ready older c.push.new.self c.remove_oldest.new.self c.set_job.new.self (where_done c.push.result _ no_err c.push.ensures.ok) c.remove_oldest.ensures c.set_job.ensures _ c.parts.view_is rule _ drafts
