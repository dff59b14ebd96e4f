use Rattle.std.proofs.Common.{◌++◌, sym, subst, ap, ◌∙◌}
use Rattle.spl_state.specs.declared.counters.Counters.{Counters}
use Rattle.spl_state.specs.Frame.{refused}
use Rattle.spl_state.specs.View.{branch_data}
use Rattle.spl_state.specs.Whole.{Whole}
use Rattle.spl_core.specs.declared.step.Step.{Step}
use Rattle.spl_compact.specs.Installing.{MergesToNothing}
use Rattle.spl_pack.specs.Publishing.{AsksFor}
use Rattle.spl_core.specs.Standing.{StandsFor, Knows, called}
use Rattle.spl_core.specs.Steps.{IsStep, IsPut, IsPick, IsGrant, IsIncorporation, IsSplit}
use Rattle.spl_core.proofs.Counts.{more_counted, pick_few, grant_few, incorporate_few, retire_few, split_few}
use Rattle.spl_core.proofs.Standings.{others_framed, others_all, stands_framed, stands_put, stands_begin}
use Rattle.spl_core.proofs.engine.Core.step.Goals as goal

pub returns-in-Put-clause-counted : goal.returns-in-Put-clause-counted
returns-in-Put-clause-counted g c = c.put.ensures.steps ∙ ap (λ (w : Whole). w.counters.steps) c.count.ensures.counted

pub returns-in-Put-clause-step : goal.returns-in-Put-clause-step
returns-in-Put-clause-step g c =
    let rule = g.L.MergeLaw.rule c.args.self.now.law in
    let put : IsPut rule c.count.new.self c.in-Put.key c.in-Put.message c.put.result c.put.new.parts = record {
      full = c.put.ensures.full;
      answer = c.put.ensures.answer;
      placed = c.put.ensures.placed;
      refused = c.put.ensures.refused;
    } in
    let counted = subst (λ (w : Whole). IsPut rule w c.in-Put.key c.in-Put.message c.put.result c.put.new.parts) c.count.ensures.counted put in
    subst (λ (s : Step g.row.B.Denot). IsStep g.B.Content.number (branch_data g.B.Content.extents g.B.Content.entries g.B.Content.cuts g.B.Content.table) rule (refused c.args.self.now.parts) c.args.actor s c.put.result c.put.new.parts) (sym c.in-Put.is) counted

pub returns-in-Put-clause-stands : goal.returns-in-Put-clause-stands
returns-in-Put-clause-stands g c = λ history stands.
    let rule = g.L.MergeLaw.rule c.args.self.now.law in
    let here = stands_put rule _ _ _ c.put.new.parts c.args.actor c.count.ensures.counted c.in-Put.key c.in-Put.message c.put.result (λ place is. (c.put.ensures.placed place is).0) c.put.ensures.refused c.put.ensures.means history stands in
    subst (λ (s : Step g.row.B.Denot). StandsFor rule g.B.Content.TELLS c.put.new.parts (history ++ called c.args.actor s c.put.result)) (sym c.in-Put.is) here

pub returns-in-Put-clause-others : goal.returns-in-Put-clause-others
returns-in-Put-clause-others g c = λ drafts other below apart. others_all _ _ _ _ c.put.new.parts c.args.actor c.count.ensures.counted (c.put.ensures.others (g.L.MergeLaw.rule c.args.self.now.law)) other below

pub returns-in-Rotate-clause-stands : goal.returns-in-Rotate-clause-stands
returns-in-Rotate-clause-stands g c = λ history stands.
    let rule = g.L.MergeLaw.rule c.args.self.now.law in
    let here = stands_framed rule _ _ _ c.rotate.new.parts c.args.actor c.count.ensures.counted (c.rotate.ensures.framed rule) (ap (λ (n : Counters). n.places) c.rotate.ensures.counters) history stands in
    subst (λ (s : Step g.row.B.Denot). StandsFor rule g.B.Content.TELLS c.rotate.new.parts (history ++ called c.args.actor s c.rotate.result)) (sym c.in-Rotate.is) here

pub returns-in-Rotate-clause-others : goal.returns-in-Rotate-clause-others
returns-in-Rotate-clause-others g c = others_framed (g.L.MergeLaw.rule c.args.self.now.law) _ _ _ c.rotate.new.parts c.args.actor c.count.ensures.counted (c.rotate.ensures.framed (g.L.MergeLaw.rule c.args.self.now.law))

pub returns-in-Claim-clause-others : goal.returns-in-Claim-clause-others
returns-in-Claim-clause-others g c = others_framed (g.L.MergeLaw.rule c.args.self.now.law) _ _ _ c.claim.new.parts c.args.actor c.count.ensures.counted (c.claim.ensures.framed (g.L.MergeLaw.rule c.args.self.now.law))

pub returns-in-Lock-clause-others : goal.returns-in-Lock-clause-others
returns-in-Lock-clause-others g c = others_framed (g.L.MergeLaw.rule c.args.self.now.law) _ _ _ c.lock.new.parts c.args.actor c.count.ensures.counted (c.lock.ensures.framed (g.L.MergeLaw.rule c.args.self.now.law))

pub returns-in-Unlock-clause-others : goal.returns-in-Unlock-clause-others
returns-in-Unlock-clause-others g c = others_framed (g.L.MergeLaw.rule c.args.self.now.law) _ _ _ c.unlock.new.parts c.args.actor c.count.ensures.counted (c.unlock.ensures.framed (g.L.MergeLaw.rule c.args.self.now.law))

pub returns-in-Retire-clause-counted : goal.returns-in-Retire-clause-counted
returns-in-Retire-clause-counted g c = c.retire.ensures.steps ∙ ap (λ (w : Whole). w.counters.steps) c.count.ensures.counted

pub returns-in-Retire-clause-stands : goal.returns-in-Retire-clause-stands
returns-in-Retire-clause-stands g c = λ history stands.
    let rule = g.L.MergeLaw.rule c.args.self.now.law in
    let here = stands_framed rule _ _ _ c.retire.new.parts c.args.actor c.count.ensures.counted (c.retire.ensures.framed rule) c.retire.ensures.places history stands in
    subst (λ (s : Step g.row.B.Denot). StandsFor rule g.B.Content.TELLS c.retire.new.parts (history ++ called c.args.actor s c.retire.result)) (sym c.in-Retire.is) here

pub returns-in-Retire-clause-others : goal.returns-in-Retire-clause-others
returns-in-Retire-clause-others g c = others_framed (g.L.MergeLaw.rule c.args.self.now.law) _ _ _ c.retire.new.parts c.args.actor c.count.ensures.counted (c.retire.ensures.framed (g.L.MergeLaw.rule c.args.self.now.law))

pub returns-in-PickFrozen-clause-stands : goal.returns-in-PickFrozen-clause-stands
returns-in-PickFrozen-clause-stands g c = λ history stands.
    let here = stands_framed (g.L.MergeLaw.rule c.args.self.now.law) _ _ _ c.pick_frozen.new.parts c.args.actor c.count.ensures.counted (c.pick_frozen.ensures.framed (g.L.MergeLaw.rule c.args.self.now.law)) c.pick_frozen.ensures.places history stands in
    subst (λ (s : Step g.row.B.Denot). StandsFor (g.L.MergeLaw.rule c.args.self.now.law) g.B.Content.TELLS c.pick_frozen.new.parts (history ++ called c.args.actor s c.pick_frozen.result)) (sym c.in-PickFrozen.is) here

pub returns-in-PickFrozen-clause-others : goal.returns-in-PickFrozen-clause-others
returns-in-PickFrozen-clause-others g c = others_framed (g.L.MergeLaw.rule c.args.self.now.law) _ _ _ c.pick_frozen.new.parts c.args.actor c.count.ensures.counted (c.pick_frozen.ensures.framed (g.L.MergeLaw.rule c.args.self.now.law))

pub returns-in-PickFrozen-clause-counted : goal.returns-in-PickFrozen-clause-counted
returns-in-PickFrozen-clause-counted g c = c.pick_frozen.ensures.steps ∙ ap (λ (w : Whole). w.counters.steps) c.count.ensures.counted

pub returns-in-Grant-clause-stands : goal.returns-in-Grant-clause-stands
returns-in-Grant-clause-stands g c = λ history stands.
    let here = stands_framed (g.L.MergeLaw.rule c.args.self.now.law) _ _ _ c.grant.new.parts c.args.actor c.count.ensures.counted (c.grant.ensures.framed (g.L.MergeLaw.rule c.args.self.now.law)) c.grant.ensures.places history stands in
    subst (λ (s : Step g.row.B.Denot). StandsFor (g.L.MergeLaw.rule c.args.self.now.law) g.B.Content.TELLS c.grant.new.parts (history ++ called c.args.actor s c.grant.result)) (sym c.in-Grant.is) here

pub returns-in-Grant-clause-others : goal.returns-in-Grant-clause-others
returns-in-Grant-clause-others g c = others_framed (g.L.MergeLaw.rule c.args.self.now.law) _ _ _ c.grant.new.parts c.args.actor c.count.ensures.counted (c.grant.ensures.framed (g.L.MergeLaw.rule c.args.self.now.law))

pub returns-in-Grant-clause-counted : goal.returns-in-Grant-clause-counted
returns-in-Grant-clause-counted g c = c.grant.ensures.steps ∙ ap (λ (w : Whole). w.counters.steps) c.count.ensures.counted

pub returns-in-Publish-clause-stands : goal.returns-in-Publish-clause-stands
returns-in-Publish-clause-stands g c = λ history stands.
    let here = stands_framed (g.L.MergeLaw.rule c.args.self.now.law) _ _ _ c.publish.new.parts c.args.actor c.count.ensures.counted (λ drafts. c.publish.ensures.framed (g.L.MergeLaw.rule c.args.self.now.law) drafts (λ told. subst (λ (w : Whole). AsksFor (g.L.MergeLaw.rule c.args.self.now.law) w c.args.actor (g.B.Content.table c.in-Publish.branch.value)) (sym c.count.ensures.counted) (subst (λ (s : Step g.row.B.Denot). Knows g.B.Content.table (g.L.MergeLaw.rule c.args.self.now.law) c.args.self.now.parts c.args.actor s) c.in-Publish.is (c.requires.knows told)))) c.publish.ensures.places history stands in
    subst (λ (s : Step g.row.B.Denot). StandsFor (g.L.MergeLaw.rule c.args.self.now.law) g.B.Content.TELLS c.publish.new.parts (history ++ called c.args.actor s c.publish.result)) (sym c.in-Publish.is) here

pub returns-in-Publish-clause-others : goal.returns-in-Publish-clause-others
returns-in-Publish-clause-others g c = others_framed (g.L.MergeLaw.rule c.args.self.now.law) _ _ _ c.publish.new.parts c.args.actor c.count.ensures.counted (λ drafts. c.publish.ensures.framed (g.L.MergeLaw.rule c.args.self.now.law) drafts (λ told. subst (λ (w : Whole). AsksFor (g.L.MergeLaw.rule c.args.self.now.law) w c.args.actor (g.B.Content.table c.in-Publish.branch.value)) (sym c.count.ensures.counted) (subst (λ (s : Step g.row.B.Denot). Knows g.B.Content.table (g.L.MergeLaw.rule c.args.self.now.law) c.args.self.now.parts c.args.actor s) c.in-Publish.is (c.requires.knows told))))

pub returns-in-Publish-clause-counted : goal.returns-in-Publish-clause-counted
returns-in-Publish-clause-counted g c = c.publish.ensures.steps ∙ ap (λ (w : Whole). w.counters.steps) c.count.ensures.counted

pub returns-in-Incorporate-clause-stands : goal.returns-in-Incorporate-clause-stands
returns-in-Incorporate-clause-stands g c = λ history stands.
    let here = stands_framed (g.L.MergeLaw.rule c.args.self.now.law) _ _ _ c.incorporate.new.parts c.args.actor c.count.ensures.counted (c.incorporate.ensures.framed (g.L.MergeLaw.rule c.args.self.now.law)) c.incorporate.ensures.places history stands in
    subst (λ (s : Step g.row.B.Denot). StandsFor (g.L.MergeLaw.rule c.args.self.now.law) g.B.Content.TELLS c.incorporate.new.parts (history ++ called c.args.actor s c.incorporate.result)) (sym c.in-Incorporate.is) here

pub returns-in-Incorporate-clause-others : goal.returns-in-Incorporate-clause-others
returns-in-Incorporate-clause-others g c = others_framed (g.L.MergeLaw.rule c.args.self.now.law) _ _ _ c.incorporate.new.parts c.args.actor c.count.ensures.counted (c.incorporate.ensures.framed (g.L.MergeLaw.rule c.args.self.now.law))

pub returns-in-Incorporate-clause-counted : goal.returns-in-Incorporate-clause-counted
returns-in-Incorporate-clause-counted g c = c.incorporate.ensures.steps ∙ ap (λ (w : Whole). w.counters.steps) c.count.ensures.counted

pub returns-in-MoveDown-clause-stands : goal.returns-in-MoveDown-clause-stands
returns-in-MoveDown-clause-stands g c = λ history stands.
    let here = stands_framed (g.L.MergeLaw.rule c.args.self.now.law) _ _ _ c.move_down.new.parts c.args.actor c.count.ensures.counted (c.move_down.ensures.framed (g.L.MergeLaw.rule c.args.self.now.law)) (ap (λ (n : Counters). n.places) c.move_down.ensures.counters) history stands in
    subst (λ (s : Step g.row.B.Denot). StandsFor (g.L.MergeLaw.rule c.args.self.now.law) g.B.Content.TELLS c.move_down.new.parts (history ++ called c.args.actor s c.move_down.result)) (sym c.in-MoveDown.is) here

pub returns-in-MoveDown-clause-others : goal.returns-in-MoveDown-clause-others
returns-in-MoveDown-clause-others g c = others_framed (g.L.MergeLaw.rule c.args.self.now.law) _ _ _ c.move_down.new.parts c.args.actor c.count.ensures.counted (c.move_down.ensures.framed (g.L.MergeLaw.rule c.args.self.now.law))

pub returns-in-MoveDown-clause-counted : goal.returns-in-MoveDown-clause-counted
returns-in-MoveDown-clause-counted g c = ap (λ (n : Counters). n.steps) c.move_down.ensures.counters ∙ ap (λ (w : Whole). w.counters.steps) c.count.ensures.counted

pub returns-in-End-clause-stands : goal.returns-in-End-clause-stands
returns-in-End-clause-stands g c = λ history stands.
    let here = stands_framed (g.L.MergeLaw.rule c.args.self.now.law) _ _ _ c.end.new.parts c.args.actor c.count.ensures.counted (c.end.ensures.framed (g.L.MergeLaw.rule c.args.self.now.law)) (ap (λ (n : Counters). n.places) c.end.ensures.counters) history stands in
    subst (λ (s : Step g.row.B.Denot). StandsFor (g.L.MergeLaw.rule c.args.self.now.law) g.B.Content.TELLS c.end.new.parts (history ++ called c.args.actor s c.end.result)) (sym c.in-End.is) here

pub returns-in-End-clause-others : goal.returns-in-End-clause-others
returns-in-End-clause-others g c = others_framed (g.L.MergeLaw.rule c.args.self.now.law) _ _ _ c.end.new.parts c.args.actor c.count.ensures.counted (c.end.ensures.framed (g.L.MergeLaw.rule c.args.self.now.law))

pub returns-in-End-clause-counted : goal.returns-in-End-clause-counted
returns-in-End-clause-counted g c = ap (λ (n : Counters). n.steps) c.end.ensures.counters ∙ ap (λ (w : Whole). w.counters.steps) c.count.ensures.counted

pub returns-in-Begin-clause-stands : goal.returns-in-Begin-clause-stands
returns-in-Begin-clause-stands g c = λ history stands.
    let here = stands_begin (g.L.MergeLaw.rule c.args.self.now.law) _ _ _ c.begin.new.parts c.args.actor c.count.ensures.counted c.in-Begin.span c.begin.result (c.begin.ensures.framed (g.L.MergeLaw.rule c.args.self.now.law)) c.begin.ensures.state history stands in
    subst (λ (s : Step g.row.B.Denot). StandsFor (g.L.MergeLaw.rule c.args.self.now.law) g.B.Content.TELLS c.begin.new.parts (history ++ called c.args.actor s c.begin.result)) (sym c.in-Begin.is) here

pub returns-in-Begin-clause-others : goal.returns-in-Begin-clause-others
returns-in-Begin-clause-others g c = others_framed (g.L.MergeLaw.rule c.args.self.now.law) _ _ _ c.begin.new.parts c.args.actor c.count.ensures.counted (c.begin.ensures.framed (g.L.MergeLaw.rule c.args.self.now.law))

pub returns-in-Begin-clause-counted : goal.returns-in-Begin-clause-counted
returns-in-Begin-clause-counted g c = c.begin.ensures.steps ∙ ap (λ (w : Whole). w.counters.steps) c.count.ensures.counted

pub returns-in-Abandon-clause-stands : goal.returns-in-Abandon-clause-stands
returns-in-Abandon-clause-stands g c = λ history stands.
    let here = stands_framed (g.L.MergeLaw.rule c.args.self.now.law) _ _ _ c.abandon.new.parts c.args.actor c.count.ensures.counted (c.abandon.ensures.framed (g.L.MergeLaw.rule c.args.self.now.law)) (ap (λ (n : Counters). n.places) c.abandon.ensures.done.counters) history stands in
    subst (λ (s : Step g.row.B.Denot). StandsFor (g.L.MergeLaw.rule c.args.self.now.law) g.B.Content.TELLS c.abandon.new.parts (history ++ called c.args.actor s c.abandon.result)) (sym c.in-Abandon.is) here

pub returns-in-Abandon-clause-others : goal.returns-in-Abandon-clause-others
returns-in-Abandon-clause-others g c = others_framed (g.L.MergeLaw.rule c.args.self.now.law) _ _ _ c.abandon.new.parts c.args.actor c.count.ensures.counted (c.abandon.ensures.framed (g.L.MergeLaw.rule c.args.self.now.law))

pub returns-in-Abandon-clause-counted : goal.returns-in-Abandon-clause-counted
returns-in-Abandon-clause-counted g c = ap (λ (n : Counters). n.steps) c.abandon.ensures.done.counters ∙ ap (λ (w : Whole). w.counters.steps) c.count.ensures.counted

pub returns-in-PickFrozen-clause-step : goal.returns-in-PickFrozen-clause-step
returns-in-PickFrozen-clause-step g c =
    let pick : IsPick c.count.new.self c.args.actor c.pick_frozen.result c.pick_frozen.new.parts = record {
      answer = c.pick_frozen.ensures.answer;
      memory = c.pick_frozen.ensures.memory;
      done = c.pick_frozen.ensures.done;
      refused = c.pick_frozen.ensures.refused;
    } in
    let counted = subst (λ (w : Whole). IsPick w c.args.actor c.pick_frozen.result c.pick_frozen.new.parts) c.count.ensures.counted pick in
    subst (λ (s : Step g.row.B.Denot). IsStep g.B.Content.number (branch_data g.B.Content.extents g.B.Content.entries g.B.Content.cuts g.B.Content.table) (g.L.MergeLaw.rule c.args.self.now.law) (refused c.args.self.now.parts) c.args.actor s c.pick_frozen.result c.pick_frozen.new.parts) (sym c.in-PickFrozen.is) counted

pub returns-in-Survey-clause-stands : goal.returns-in-Survey-clause-stands
returns-in-Survey-clause-stands g c = λ history stands.
    let here = stands_framed (g.L.MergeLaw.rule c.args.self.now.law) _ _ _ c.survey.new.parts c.args.actor c.count.ensures.counted (c.survey.ensures.framed (g.L.MergeLaw.rule c.args.self.now.law)) (ap (λ (n : Counters). n.places) c.survey.ensures.counters) history stands in
    subst (λ (s : Step g.row.B.Denot). StandsFor (g.L.MergeLaw.rule c.args.self.now.law) g.B.Content.TELLS c.survey.new.parts (history ++ called c.args.actor s c.survey.result)) (sym c.in-Survey.is) here

pub returns-in-Survey-clause-others : goal.returns-in-Survey-clause-others
returns-in-Survey-clause-others g c = others_framed (g.L.MergeLaw.rule c.args.self.now.law) _ _ _ c.survey.new.parts c.args.actor c.count.ensures.counted (c.survey.ensures.framed (g.L.MergeLaw.rule c.args.self.now.law))

pub returns-in-Survey-clause-counted : goal.returns-in-Survey-clause-counted
returns-in-Survey-clause-counted g c = ap (λ (n : Counters). n.steps) c.survey.ensures.counters ∙ ap (λ (w : Whole). w.counters.steps) c.count.ensures.counted

pub invariant_of-self-in-PickFrozen : goal.invariant_of-self-in-PickFrozen
invariant_of-self-in-PickFrozen g c =
    let pick : IsPick c.count.new.self c.args.actor c.pick_frozen.result c.pick_frozen.new.parts = record {
      answer = c.pick_frozen.ensures.answer;
      memory = c.pick_frozen.ensures.memory;
      done = c.pick_frozen.ensures.done;
      refused = c.pick_frozen.ensures.refused;
    } in
    record { counted = more_counted c.args.self.now.parts c.count.new.self c.pick_frozen.new.parts c.args.self.now.counted c.count.ensures.counted (pick_few c.count.new.self c.pick_frozen.new.parts c.args.actor c.pick_frozen.result pick) (c.pick_frozen.ensures.steps ∙ ap (λ (w : Whole). w.counters.steps) c.count.ensures.counted) }

pub invariant_of-self-in-Grant : goal.invariant_of-self-in-Grant
invariant_of-self-in-Grant g c =
    let grant : IsGrant c.count.new.self c.args.actor c.grant.result c.grant.new.parts = record {
      answer = c.grant.ensures.answer;
      done = c.grant.ensures.done;
      refused = c.grant.ensures.refused;
    } in
    record { counted = more_counted c.args.self.now.parts c.count.new.self c.grant.new.parts c.args.self.now.counted c.count.ensures.counted (grant_few c.count.new.self c.grant.new.parts c.args.actor c.grant.result grant) (c.grant.ensures.steps ∙ ap (λ (w : Whole). w.counters.steps) c.count.ensures.counted) }

pub invariant_of-self-in-Incorporate : goal.invariant_of-self-in-Incorporate
invariant_of-self-in-Incorporate g c =
    let hung : IsIncorporation c.count.new.self c.args.actor c.incorporate.result c.incorporate.new.parts = record {
      answer = c.incorporate.ensures.answer;
      done = λ done packed ready. c.incorporate.ensures.done packed ready done;
      refused = c.incorporate.ensures.refused;
    } in
    record { counted = more_counted c.args.self.now.parts c.count.new.self c.incorporate.new.parts c.args.self.now.counted c.count.ensures.counted (incorporate_few c.count.new.self c.incorporate.new.parts c.args.actor c.incorporate.result hung) (c.incorporate.ensures.steps ∙ ap (λ (w : Whole). w.counters.steps) c.count.ensures.counted) }

pub invariant_of-self-in-Retire : goal.invariant_of-self-in-Retire
invariant_of-self-in-Retire g c =
    record { counted = more_counted c.args.self.now.parts c.count.new.self c.retire.new.parts c.args.self.now.counted c.count.ensures.counted (retire_few c.count.new.self c.retire.new.parts c.args.actor c.retire.ensures.state) (c.retire.ensures.steps ∙ ap (λ (w : Whole). w.counters.steps) c.count.ensures.counted) }

pub returns-in-Flush-clause-stands : goal.returns-in-Flush-clause-stands
returns-in-Flush-clause-stands g c = λ history stands.
    let here = stands_framed (g.L.MergeLaw.rule c.args.self.now.law) _ _ _ c.flush.new.parts c.args.actor c.count.ensures.counted (c.flush.ensures.framed (g.L.MergeLaw.rule c.args.self.now.law)) (ap (λ (n : Counters). n.places) c.flush.ensures.counters) history stands in
    subst (λ (s : Step g.row.B.Denot). StandsFor (g.L.MergeLaw.rule c.args.self.now.law) g.B.Content.TELLS c.flush.new.parts (history ++ called c.args.actor s c.flush.result)) (sym c.in-Flush.is) here

pub returns-in-Flush-clause-others : goal.returns-in-Flush-clause-others
returns-in-Flush-clause-others g c = others_framed (g.L.MergeLaw.rule c.args.self.now.law) _ _ _ c.flush.new.parts c.args.actor c.count.ensures.counted (c.flush.ensures.framed (g.L.MergeLaw.rule c.args.self.now.law))

pub returns-in-Start-clause-stands : goal.returns-in-Start-clause-stands
returns-in-Start-clause-stands g c = λ history stands.
    let here = stands_framed (g.L.MergeLaw.rule c.args.self.now.law) _ _ _ c.start.new.parts c.args.actor c.count.ensures.counted (c.start.ensures.framed (g.L.MergeLaw.rule c.args.self.now.law)) c.start.ensures.places history stands in
    subst (λ (s : Step g.row.B.Denot). StandsFor (g.L.MergeLaw.rule c.args.self.now.law) g.B.Content.TELLS c.start.new.parts (history ++ called c.args.actor s c.start.result)) (sym c.in-Start.is) here

pub returns-in-Start-clause-others : goal.returns-in-Start-clause-others
returns-in-Start-clause-others g c = others_framed (g.L.MergeLaw.rule c.args.self.now.law) _ _ _ c.start.new.parts c.args.actor c.count.ensures.counted (c.start.ensures.framed (g.L.MergeLaw.rule c.args.self.now.law))

pub returns-in-Raise-clause-stands : goal.returns-in-Raise-clause-stands
returns-in-Raise-clause-stands g c = λ history stands.
    let here = stands_framed (g.L.MergeLaw.rule c.args.self.now.law) _ _ _ c.raise.new.parts c.args.actor c.count.ensures.counted (c.raise.ensures.framed (g.L.MergeLaw.rule c.args.self.now.law)) (ap (λ (n : Counters). n.places) c.raise.ensures.counters) history stands in
    subst (λ (s : Step g.row.B.Denot). StandsFor (g.L.MergeLaw.rule c.args.self.now.law) g.B.Content.TELLS c.raise.new.parts (history ++ called c.args.actor s c.raise.result)) (sym c.in-Raise.is) here

pub returns-in-Raise-clause-others : goal.returns-in-Raise-clause-others
returns-in-Raise-clause-others g c = others_framed (g.L.MergeLaw.rule c.args.self.now.law) _ _ _ c.raise.new.parts c.args.actor c.count.ensures.counted (c.raise.ensures.framed (g.L.MergeLaw.rule c.args.self.now.law))

pub returns-in-Split-clause-stands : goal.returns-in-Split-clause-stands
returns-in-Split-clause-stands g c = λ history stands.
    let here = stands_framed (g.L.MergeLaw.rule c.args.self.now.law) _ _ _ c.split.new.parts c.args.actor c.count.ensures.counted (c.split.ensures.framed (g.L.MergeLaw.rule c.args.self.now.law)) (ap (λ (n : Counters). n.places) c.split.ensures.counters) history stands in
    subst (λ (s : Step g.row.B.Denot). StandsFor (g.L.MergeLaw.rule c.args.self.now.law) g.B.Content.TELLS c.split.new.parts (history ++ called c.args.actor s c.split.result)) (sym c.in-Split.is) here

pub returns-in-Split-clause-others : goal.returns-in-Split-clause-others
returns-in-Split-clause-others g c = others_framed (g.L.MergeLaw.rule c.args.self.now.law) _ _ _ c.split.new.parts c.args.actor c.count.ensures.counted (c.split.ensures.framed (g.L.MergeLaw.rule c.args.self.now.law))

pub invariant_of-self-in-Split : goal.invariant_of-self-in-Split
invariant_of-self-in-Split g c =
    let split : IsSplit c.count.new.self c.args.actor c.in-Split.parent c.in-Split.child c.in-Split.key c.split.result c.split.new.parts = record {
      answer = c.split.ensures.answer;
      memory = c.split.ensures.memory;
      done = c.split.ensures.done;
      marks = c.split.ensures.marks;
      few = c.split.ensures.few;
      refused = c.split.ensures.refused;
    } in
    record { counted = more_counted c.args.self.now.parts c.count.new.self c.split.new.parts c.args.self.now.counted c.count.ensures.counted (split_few c.count.new.self c.split.new.parts c.args.actor c.in-Split.parent c.in-Split.child c.in-Split.key c.split.result split) (ap (λ (n : Counters). n.steps) c.split.ensures.counters ∙ ap (λ (w : Whole). w.counters.steps) c.count.ensures.counted) }

pub returns-in-Split-clause-step : goal.returns-in-Split-clause-step
returns-in-Split-clause-step g c =
    let split : IsSplit c.count.new.self c.args.actor c.in-Split.parent c.in-Split.child c.in-Split.key c.split.result c.split.new.parts = record {
      answer = c.split.ensures.answer;
      memory = c.split.ensures.memory;
      done = c.split.ensures.done;
      marks = c.split.ensures.marks;
      few = c.split.ensures.few;
      refused = c.split.ensures.refused;
    } in
    let counted = subst (λ (w : Whole). IsSplit w c.args.actor c.in-Split.parent c.in-Split.child c.in-Split.key c.split.result c.split.new.parts) c.count.ensures.counted split in
    subst (λ (s : Step g.row.B.Denot). IsStep g.B.Content.number (branch_data g.B.Content.extents g.B.Content.entries g.B.Content.cuts g.B.Content.table) (g.L.MergeLaw.rule c.args.self.now.law) (refused c.args.self.now.parts) c.args.actor s c.split.result c.split.new.parts) (sym c.in-Split.is) counted

pub returns-in-Install-clause-stands : goal.returns-in-Install-clause-stands
returns-in-Install-clause-stands g c = λ history stands.
    let here = stands_framed (g.L.MergeLaw.rule c.args.self.now.law) _ _ _ c.install.new.parts c.args.actor c.count.ensures.counted (λ drafts. c.install.ensures.framed (g.L.MergeLaw.rule c.args.self.now.law) drafts (λ told none. subst (λ (w : Whole). MergesToNothing (g.L.MergeLaw.rule c.args.self.now.law) w c.args.actor) (sym c.count.ensures.counted) (subst (λ (s : Step g.row.B.Denot). Knows g.B.Content.table (g.L.MergeLaw.rule c.args.self.now.law) c.args.self.now.parts c.args.actor s) c.in-Install.is (c.requires.knows told) none))) c.install.ensures.places history stands in
    subst (λ (s : Step g.row.B.Denot). StandsFor (g.L.MergeLaw.rule c.args.self.now.law) g.B.Content.TELLS c.install.new.parts (history ++ called c.args.actor s c.install.result)) (sym c.in-Install.is) here

pub returns-in-Install-clause-others : goal.returns-in-Install-clause-others
returns-in-Install-clause-others g c = others_framed (g.L.MergeLaw.rule c.args.self.now.law) _ _ _ c.install.new.parts c.args.actor c.count.ensures.counted (λ drafts. c.install.ensures.framed (g.L.MergeLaw.rule c.args.self.now.law) drafts (λ told none. subst (λ (w : Whole). MergesToNothing (g.L.MergeLaw.rule c.args.self.now.law) w c.args.actor) (sym c.count.ensures.counted) (subst (λ (s : Step g.row.B.Denot). Knows g.B.Content.table (g.L.MergeLaw.rule c.args.self.now.law) c.args.self.now.parts c.args.actor s) c.in-Install.is (c.requires.knows told) none)))
