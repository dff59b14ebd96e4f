use Rattle.std.proofs.Common.{◌≡◌, [], Ok, None, subst, ap, ◌∙◌, arith}
use Rattle.spl_message.specs.Rule.{newest}
use Rattle.spl_state.specs.declared.reply.Reply.TheVariants as reply
use Rattle.spl_state.specs.Sound.{IsSound}
use Rattle.spl_desk.specs.Calls.{MayCall}
use Rattle.spl_alone.specs.Alone.{only_holder}
use Rattle.spl_job.specs.After.{AfterPick}
use Rattle.spl_job.proofs.Nothing.{answered_sound, nothing_held, root_told}
use Rattle.spl_job.proofs.tests.an_actor_with_nothing_claims_the_root.Goals as goal

pub abandon-requires-clause-seen : goal.abandon-requires-clause-seen
abandon-requires-clause-seen g c = ([], rw c.new-turns.ensures (c.in_ok-core.ensures.stands newest))

pub claim-requires-clause-holds : goal.claim-requires-clause-holds
claim-requires-clause-holds g c =
    let new = only_holder newest c.pick.new.turns.core.parts in
    let none : c.pick.result ≡ Ok None = c.in_ok-pick.was ∙ ap (λ p. Ok p) c.in-None.is in
    let seen = c.abandon.ensures.quiet.seen in
    let sound : IsSound new.at = answered_sound _ _ _ _ _ (λ answer. answer ≡ reply.Nothing) (c.pick.ensures.nothing none seen.0 seen.1) in
    let nothing : MayCall new = subst (λ r. AfterPick new r) none c.pick.ensures.picked in
    let held = nothing_held new sound nothing in
    (held.0, held.1.has, held.4 0, root_told new held.0 held.1 (omega arith))
