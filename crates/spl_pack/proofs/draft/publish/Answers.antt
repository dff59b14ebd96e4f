use Rattle.std.proofs.Common.{rules, ◌≡◌, ℕ, List, true, false, sym, subst, ap, ◌∙◌}
use Rattle.std.specs.Prelude.{is_err}
use Rattle.spl_numbers.specs.Numbers.{ListsEach}
use Rattle.spl_extent.specs.Pool.{granted_to}
use Rattle.spl_refs.specs.Refs.{Published}
use Rattle.spl_state.specs.Frame.{IsFramed}
use Rattle.spl_state.specs.View.{branch_data}
use Rattle.spl_state.specs.Whole.{Whole}
use Rattle.spl_state.proofs.Frames.{unchanged_framed}
use Rattle.spl_state.proofs.Views.{all_seen}
use Rattle.spl_pack.specs.Publishing.{MayPublish, held_all}
use Rattle.spl_pack.proofs.Results.{where_done, where_failed}
use Rattle.spl_pack.proofs.Publishes.{sets_seen, publish_sound, publish_framed, publish_done, no_publish_framed, none_held, is_new}
use Rattle.spl_pack.proofs.draft.publish.Goals as goal

pub returns-then-not-may_publish-clause-framed : goal.returns-then-not-may_publish-clause-framed
returns-then-not-may_publish-clause-framed g c = λ rule drafts asks.
    subst (λ (w : Whole). IsFramed rule g.B.Content.TELLS c.args.parts.now w c.args.actor) (sym c.may_publish.ensures.unchanged) (unchanged_framed rule g.B.Content.TELLS c.args.parts.now drafts c.args.actor)

pub publish-requires : goal.publish-requires
publish-requires g c =
    let may : c.may_publish.result ≡ true = search rules in
    let same : c.deref.result.now ≡ c.args.branch.value = cc in
    let may_old = subst (λ (b : g.row.B.Denot). MayPublish c.args.parts.now c.args.actor (g.B.Content.number b) (g.B.Content.extents b)) same (c.may_publish.ensures.answer.0 may) in
    let view = c.parts.view_is ∙ c.may_publish.ensures.unchanged in
    let may_here = subst (λ (w : Whole). MayPublish w c.args.actor (g.B.Content.number c.args.branch.value) (g.B.Content.extents c.args.branch.value)) (sym view) may_old in
    record { new_number = none_held (branch_data g.B.Content.extents g.B.Content.entries g.B.Content.cuts g.B.Content.table) c.parts.inside.refs (g.B.Content.number c.args.branch.value) (is_new _ c.parts.invariant c.args.actor (g.B.Content.number c.args.branch.value) (g.B.Content.extents c.args.branch.value) may_here) }

pub returns-then-is_err-clause-framed : goal.returns-then-is_err-clause-framed
returns-then-is_err-clause-framed g c = λ rule drafts asks.
    let failed : is_err c.publish.result ≡ true = search rules in
    let same = where_failed c.publish.result _ failed c.publish.ensures.err in
    no_publish_framed _ _ (c.parts.view_is ∙ c.may_publish.ensures.unchanged) (all_seen (branch_data g.B.Content.extents g.B.Content.entries g.B.Content.cuts g.B.Content.table) c.publish.new.self) c.args.actor rule _ drafts (ap (λ (refs : Published g.row.B.Denot). all_seen (branch_data g.B.Content.extents g.B.Content.entries g.B.Content.cuts g.B.Content.table) refs) same)

pub hold_all-requires-clause-all : goal.hold_all-requires-clause-all
hold_all-requires-clause-all g c =
    let may : c.may_publish.result ≡ true = search rules in
    let same : c.deref.result.now ≡ c.args.branch.value = cc in
    let may_old = subst (λ (b : g.row.B.Denot). MayPublish c.args.parts.now c.args.actor (g.B.Content.number b) (g.B.Content.extents b)) same (c.may_publish.ensures.answer.0 may) in
    let view = c.parts.view_is ∙ c.may_publish.ensures.unchanged in
    let may_here = subst (λ (w : Whole). MayPublish w c.args.actor (g.B.Content.number c.args.branch.value) (g.B.Content.extents c.args.branch.value)) (sym view) may_old in
    let shared : c.in-Ok.shared.value ≡ c.args.branch.value = search rules in
    let extents : c.extents.result.now ≡ g.B.Content.extents c.args.branch.value = cc in
    subst (λ (list : List ℕ). ListsEach list (granted_to c.parts.inside.pool c.args.actor)) (sym extents) may_here.granted

pub invariant_of-parts-2 : goal.invariant_of-parts-2
invariant_of-parts-2 g c =
    let may : c.may_publish.result ≡ true = search rules in
    let same : c.deref.result.now ≡ c.args.branch.value = cc in
    let may_old = subst (λ (b : g.row.B.Denot). MayPublish c.args.parts.now c.args.actor (g.B.Content.number b) (g.B.Content.extents b)) same (c.may_publish.ensures.answer.0 may) in
    let view = c.parts.view_is ∙ c.may_publish.ensures.unchanged in
    let may_here = subst (λ (w : Whole). MayPublish w c.args.actor (g.B.Content.number c.args.branch.value) (g.B.Content.extents c.args.branch.value)) (sym view) may_old in
    let ok : is_err c.publish.result ≡ false = search rules in
    let number_is : c.number-number.result ≡ g.B.Content.number c.args.branch.value = cc in
    let sets = sets_seen (branch_data g.B.Content.extents g.B.Content.entries g.B.Content.cuts g.B.Content.table) c.parts.inside.refs c.publish.new.self (g.B.Content.number c.args.branch.value) c.args.branch.value (where_done c.publish.result _ ok c.publish.ensures.ok) in
    let pool_is = c.hold_all.ensures ∙ ap (λ (n : ℕ). held_all c.parts.inside.pool c.args.actor n) number_is in
    publish_sound _ c.parts.invariant c.args.actor (g.B.Content.number c.args.branch.value) (branch_data g.B.Content.extents g.B.Content.entries g.B.Content.cuts g.B.Content.table c.args.branch.value) may_here (all_seen (branch_data g.B.Content.extents g.B.Content.entries g.B.Content.cuts g.B.Content.table) c.publish.new.self) c.hold_all.new.pool c.publish-2.new.self sets pool_is c.publish-2.ensures

pub returns-clause-done : goal.returns-clause-done
returns-clause-done g c = λ is.
    let may : c.may_publish.result ≡ true = search rules in
    let same : c.deref.result.now ≡ c.args.branch.value = cc in
    let may_old = subst (λ (b : g.row.B.Denot). MayPublish c.args.parts.now c.args.actor (g.B.Content.number b) (g.B.Content.extents b)) same (c.may_publish.ensures.answer.0 may) in
    let view = c.parts.view_is ∙ c.may_publish.ensures.unchanged in
    let may_here = subst (λ (w : Whole). MayPublish w c.args.actor (g.B.Content.number c.args.branch.value) (g.B.Content.extents c.args.branch.value)) (sym view) may_old in
    let ok : is_err c.publish.result ≡ false = search rules in
    let number_is : c.number-number.result ≡ g.B.Content.number c.args.branch.value = cc in
    let sets = sets_seen (branch_data g.B.Content.extents g.B.Content.entries g.B.Content.cuts g.B.Content.table) c.parts.inside.refs c.publish.new.self (g.B.Content.number c.args.branch.value) c.args.branch.value (where_done c.publish.result _ ok c.publish.ensures.ok) in
    let pool_is = c.hold_all.ensures ∙ ap (λ (n : ℕ). held_all c.parts.inside.pool c.args.actor n) number_is in
    publish_done _ c.parts.invariant c.args.actor (g.B.Content.number c.args.branch.value) (branch_data g.B.Content.extents g.B.Content.entries g.B.Content.cuts g.B.Content.table c.args.branch.value) may_here (all_seen (branch_data g.B.Content.extents g.B.Content.entries g.B.Content.cuts g.B.Content.table) c.publish.new.self) c.hold_all.new.pool c.publish-2.new.self sets pool_is c.publish-2.ensures _ view

pub returns-clause-framed : goal.returns-clause-framed
returns-clause-framed g c = λ rule drafts asks.
    let may : c.may_publish.result ≡ true = search rules in
    let same : c.deref.result.now ≡ c.args.branch.value = cc in
    let may_old = subst (λ (b : g.row.B.Denot). MayPublish c.args.parts.now c.args.actor (g.B.Content.number b) (g.B.Content.extents b)) same (c.may_publish.ensures.answer.0 may) in
    let view = c.parts.view_is ∙ c.may_publish.ensures.unchanged in
    let may_here = subst (λ (w : Whole). MayPublish w c.args.actor (g.B.Content.number c.args.branch.value) (g.B.Content.extents c.args.branch.value)) (sym view) may_old in
    let ok : is_err c.publish.result ≡ false = search rules in
    let number_is : c.number-number.result ≡ g.B.Content.number c.args.branch.value = cc in
    let sets = sets_seen (branch_data g.B.Content.extents g.B.Content.entries g.B.Content.cuts g.B.Content.table) c.parts.inside.refs c.publish.new.self (g.B.Content.number c.args.branch.value) c.args.branch.value (where_done c.publish.result _ ok c.publish.ensures.ok) in
    let pool_is = c.hold_all.ensures ∙ ap (λ (n : ℕ). held_all c.parts.inside.pool c.args.actor n) number_is in
    publish_framed _ c.parts.invariant c.args.actor (g.B.Content.number c.args.branch.value) (branch_data g.B.Content.extents g.B.Content.entries g.B.Content.cuts g.B.Content.table c.args.branch.value) may_here (all_seen (branch_data g.B.Content.extents g.B.Content.entries g.B.Content.cuts g.B.Content.table) c.publish.new.self) c.hold_all.new.pool c.publish-2.new.self sets pool_is c.publish-2.ensures _ view rule _ drafts asks
