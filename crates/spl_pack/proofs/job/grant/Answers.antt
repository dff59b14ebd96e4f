use Rattle.std.proofs.Common.{rules, ◌≡◌, false}
use Rattle.spl_state.specs.Actor.{actor_in}
use Rattle.spl_pack.proofs.Grants.{grant_sound, grant_framed, no_grant_sound, no_grant_framed}
use Rattle.spl_pack.proofs.job.grant.Goals as goal
use Rattle.spl_pack.proofs.job.grant.Goals.{in-Some, in-None}

pub invariant_of-parts : goal.invariant_of-parts
invariant_of-parts g c =
    elim c.match-grant.branch [
      | in-Some w ↦
          let unpublished : (actor_in c.parts.inside.actors c.args.actor).published ≡ false = search rules in
          grant_sound _ c.grant.new.self c.args.actor w.in-Some.extent c.parts.invariant unpublished w.in-Some.ensures.was_free w.in-Some.ensures.granted
      | in-None w ↦ no_grant_sound _ c.grant.new.self c.parts.invariant w.in-None.ensures.none
    ]

pub returns-clause-framed : goal.returns-clause-framed
returns-clause-framed g c = λ rule drafts.
    elim c.match-grant.branch [
      | in-Some w ↦ grant_framed _ _ c.parts.view_is c.grant.new.self c.args.actor rule _ drafts w.in-Some.extent w.in-Some.ensures.was_free w.in-Some.ensures.granted
      | in-None w ↦ no_grant_framed _ _ c.parts.view_is c.grant.new.self c.args.actor rule _ drafts w.in-None.ensures.none
    ]

pub returns-clause-refused : goal.returns-clause-refused
returns-clause-refused g c = λ never.
    elim c.match-grant.branch [
      | in-Some w ↦ absurd (never w.in-Some.extent w.result-is)
      | in-None w ↦ search rules
    ]
