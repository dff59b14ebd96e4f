use Rattle.std.proofs.Common.{◌≡◌, ℕ, refl, ap, subst, ◌∙◌}
use Rattle.spl_state.specs.View.{branch_data}
use Rattle.spl_desk.specs.Holder.{kind_of}
use Rattle.spl_desk.proofs.Quiet.{made_before, quiet_then}
use Rattle.spl_job.specs.Holding.{without_job}
use Rattle.spl_job.specs.Merging.{AfterInstall, IsInstallTurn, with_told}
use Rattle.spl_job.specs.declared.merging.Installed.{Installed}
use Rattle.spl_job.specs.declared.merging.Installed.TheVariants as installed
use Rattle.spl_compactor.specs.Compacting.{IsEnd, IsToPlace, write_on}
use Rattle.spl_compactor.specs.Outcomes.{IsStale}
use Rattle.spl_compactor.proofs.Places.{may_leave, placed_done, placed_next, placed_stale, writes_there}
use Rattle.spl_compactor.proofs.Stops.{made_weaker}
use Rattle.spl_compactor.proofs.placing.place_in.Given.{Over}
use Rattle.spl_compactor.proofs.placing.place_in.Goals as goal
use Rattle.spl_compactor.proofs.placing.place_in.Goals.{After-install}

pub install-requires-clause-holds : goal.install-requires-clause-holds
install-requires-clause-holds g c =
    let old = g.T.Turns.means c.args.turns.now in
    let to = c.requires.to_place in
    (to.holding, to.number, to.run, to.holds, to.job, to.published, writes_there g.B.Content.TELLS old old 0 c.args.node c.args.output refl to, to.merged)

-- what the actor has after the step
after : (g : Over) (c : After-install g) (least : ℕ) (to : IsToPlace g.B.Content.TELLS (g.T.Turns.means c.args.turns.now) least c.args.output (write_on c.args.node)) → AfterInstall (g.T.Turns.means c.install.new.turns) to.holding c.install.result
after g c least to =
    let old = g.T.Turns.means c.args.turns.now in
    c.install.ensures.holds to.holding to.number to.run to.holds to.job to.published (writes_there g.B.Content.TELLS old old least c.args.node c.args.output refl to)

pub leave-requires-clause-writes : goal.leave-requires-clause-writes
leave-requires-clause-writes g c =
    let old = g.T.Turns.means c.args.turns.now in
    let mid = g.T.Turns.means c.install.new.turns in
    let to = c.requires.to_place in
    let had = subst (λ (r : Installed). AfterInstall mid to.holding r) c.in-Done.is (after g (goal.at.leave-requires-clause-writes g c).After-install 0 to) in
    (without_job to.holding, had, may_leave g.B.Content.TELLS old old 0 c.args.node c.args.output refl to)

pub leave-requires-in-Next-clause-writes : goal.leave-requires-in-Next-clause-writes
leave-requires-in-Next-clause-writes g c =
    let old = g.T.Turns.means c.args.turns.now in
    let mid = g.T.Turns.means c.install.new.turns in
    let to = c.requires.to_place in
    let had = subst (λ (r : Installed). AfterInstall mid to.holding r) c.in-Next.is (after g (goal.at.leave-requires-in-Next-clause-writes g c).After-install 0 to) in
    (with_told to.holding had.0, had.3, may_leave g.B.Content.TELLS old old 0 c.args.node c.args.output refl to)

pub leave-requires-in-Elsewhere-Some-clause-writes : goal.leave-requires-in-Elsewhere-Some-clause-writes
leave-requires-in-Elsewhere-Some-clause-writes g c =
    let old = g.T.Turns.means c.args.turns.now in
    let mid = g.T.Turns.means c.install.new.turns in
    let to = c.requires.to_place in
    let had = subst (λ (r : Installed). AfterInstall mid to.holding r) (c.in-Elsewhere-Some.is ∙ ap installed.Elsewhere c.in-Elsewhere-Some.next-is) (after g (goal.at.leave-requires-in-Elsewhere-Some-clause-writes g c).After-install 0 to) in
    (with_told to.holding had.0, had.3, may_leave g.B.Content.TELLS old old 0 c.args.node c.args.output refl to)

pub returns-in_err-leave-in-Done-clause-quiet : goal.returns-in_err-leave-in-Done-clause-quiet
returns-in_err-leave-in-Done-clause-quiet g c =
    let kind = kind_of g.B.Content.number (branch_data g.B.Content.extents g.B.Content.entries g.B.Content.cuts g.B.Content.table) g.B.Content.TELLS in
    quiet_then kind (g.T.Turns.means c.args.turns.now) (g.T.Turns.means c.install.new.turns) (g.T.Turns.means c.leave.new.turns)
    (g.T.Turns.saw c.args.turns.now) (g.T.Turns.saw c.install.new.turns) (g.T.Turns.saw c.leave.new.turns)
    c.install.ensures.quiet c.in_err-leave-in-Done.ensures.quiet

pub returns-in_ok-leave-in-Done-clause-quiet : goal.returns-in_ok-leave-in-Done-clause-quiet
returns-in_ok-leave-in-Done-clause-quiet g c =
    let kind = kind_of g.B.Content.number (branch_data g.B.Content.extents g.B.Content.entries g.B.Content.cuts g.B.Content.table) g.B.Content.TELLS in
    quiet_then kind (g.T.Turns.means c.args.turns.now) (g.T.Turns.means c.install.new.turns) (g.T.Turns.means c.leave.new.turns)
    (g.T.Turns.saw c.args.turns.now) (g.T.Turns.saw c.install.new.turns) (g.T.Turns.saw c.leave.new.turns)
    c.install.ensures.quiet c.in_ok-leave-in-Done.ensures.quiet

pub returns-in_ok-leave-in-Done-clause-placed : goal.returns-in_ok-leave-in-Done-clause-placed
returns-in_ok-leave-in-Done-clause-placed g c = λ least to.
    let old = g.T.Turns.means c.args.turns.now in
    let mid = g.T.Turns.means c.install.new.turns in
    let new = g.T.Turns.means c.leave.new.turns in
    let same : new.rule ≡ old.rule = c.in_ok-leave-in-Done.ensures.quiet.same.rule ∙ c.install.ensures.quiet.same.rule in
    let had = subst (λ (r : Installed). AfterInstall mid to.holding r) c.in-Done.is (after g (goal.at.returns-in_ok-leave-in-Done-clause-placed g c).After-install least to) in
    placed_done g.B.Content.TELLS old new least c.args.node c.args.output same to (c.in_ok-leave-in-Done.ensures.leaves (without_job to.holding) had)

pub returns-in_err-leave-in-Next-clause-quiet : goal.returns-in_err-leave-in-Next-clause-quiet
returns-in_err-leave-in-Next-clause-quiet g c =
    let kind = kind_of g.B.Content.number (branch_data g.B.Content.extents g.B.Content.entries g.B.Content.cuts g.B.Content.table) g.B.Content.TELLS in
    quiet_then kind (g.T.Turns.means c.args.turns.now) (g.T.Turns.means c.install.new.turns) (g.T.Turns.means c.leave-in-Next.new.turns)
    (g.T.Turns.saw c.args.turns.now) (g.T.Turns.saw c.install.new.turns) (g.T.Turns.saw c.leave-in-Next.new.turns)
    c.install.ensures.quiet c.in_err-leave-in-Next.ensures.quiet

pub returns-in_ok-leave-in-Next-clause-quiet : goal.returns-in_ok-leave-in-Next-clause-quiet
returns-in_ok-leave-in-Next-clause-quiet g c =
    let kind = kind_of g.B.Content.number (branch_data g.B.Content.extents g.B.Content.entries g.B.Content.cuts g.B.Content.table) g.B.Content.TELLS in
    quiet_then kind (g.T.Turns.means c.args.turns.now) (g.T.Turns.means c.install.new.turns) (g.T.Turns.means c.leave-in-Next.new.turns)
    (g.T.Turns.saw c.args.turns.now) (g.T.Turns.saw c.install.new.turns) (g.T.Turns.saw c.leave-in-Next.new.turns)
    c.install.ensures.quiet c.in_ok-leave-in-Next.ensures.quiet

pub returns-in_ok-leave-in-Next-clause-placed : goal.returns-in_ok-leave-in-Next-clause-placed
returns-in_ok-leave-in-Next-clause-placed g c = λ least to.
    let old = g.T.Turns.means c.args.turns.now in
    let mid = g.T.Turns.means c.install.new.turns in
    let new = g.T.Turns.means c.leave-in-Next.new.turns in
    let same : new.rule ≡ old.rule = c.in_ok-leave-in-Next.ensures.quiet.same.rule ∙ c.install.ensures.quiet.same.rule in
    let had = subst (λ (r : Installed). AfterInstall mid to.holding r) c.in-Next.is (after g (goal.at.returns-in_ok-leave-in-Next-clause-placed g c).After-install least to) in
    placed_next g.B.Content.TELLS old new least c.args.node c.args.output same to c.in-Next.next had.0 had.1 had.2 (c.in_ok-leave-in-Next.ensures.leaves (with_told to.holding had.0) had.3)

pub returns-in_err-leave-in-Elsewhere-Some-clause-quiet : goal.returns-in_err-leave-in-Elsewhere-Some-clause-quiet
returns-in_err-leave-in-Elsewhere-Some-clause-quiet g c =
    let kind = kind_of g.B.Content.number (branch_data g.B.Content.extents g.B.Content.entries g.B.Content.cuts g.B.Content.table) g.B.Content.TELLS in
    quiet_then kind (g.T.Turns.means c.args.turns.now) (g.T.Turns.means c.install.new.turns) (g.T.Turns.means c.leave-in-Elsewhere-Some.new.turns)
    (g.T.Turns.saw c.args.turns.now) (g.T.Turns.saw c.install.new.turns) (g.T.Turns.saw c.leave-in-Elsewhere-Some.new.turns)
    c.install.ensures.quiet c.in_err-leave-in-Elsewhere-Some.ensures.quiet

pub returns-in_ok-leave-in-Elsewhere-Some-clause-quiet : goal.returns-in_ok-leave-in-Elsewhere-Some-clause-quiet
returns-in_ok-leave-in-Elsewhere-Some-clause-quiet g c =
    let kind = kind_of g.B.Content.number (branch_data g.B.Content.extents g.B.Content.entries g.B.Content.cuts g.B.Content.table) g.B.Content.TELLS in
    quiet_then kind (g.T.Turns.means c.args.turns.now) (g.T.Turns.means c.install.new.turns) (g.T.Turns.means c.leave-in-Elsewhere-Some.new.turns)
    (g.T.Turns.saw c.args.turns.now) (g.T.Turns.saw c.install.new.turns) (g.T.Turns.saw c.leave-in-Elsewhere-Some.new.turns)
    c.install.ensures.quiet c.in_ok-leave-in-Elsewhere-Some.ensures.quiet

pub returns-in_ok-leave-in-Elsewhere-Some-clause-placed : goal.returns-in_ok-leave-in-Elsewhere-Some-clause-placed
returns-in_ok-leave-in-Elsewhere-Some-clause-placed g c = λ least to.
    let old = g.T.Turns.means c.args.turns.now in
    let mid = g.T.Turns.means c.install.new.turns in
    let new = g.T.Turns.means c.leave-in-Elsewhere-Some.new.turns in
    let same : new.rule ≡ old.rule = c.in_ok-leave-in-Elsewhere-Some.ensures.quiet.same.rule ∙ c.install.ensures.quiet.same.rule in
    let had = subst (λ (r : Installed). AfterInstall mid to.holding r) (c.in-Elsewhere-Some.is ∙ ap installed.Elsewhere c.in-Elsewhere-Some.next-is) (after g (goal.at.returns-in_ok-leave-in-Elsewhere-Some-clause-placed g c).After-install least to) in
    placed_next g.B.Content.TELLS old new least c.args.node c.args.output same to c.in-Elsewhere-Some.next had.0 had.1 had.2 (c.in_ok-leave-in-Elsewhere-Some.ensures.leaves (with_told to.holding had.0) had.3)

pub returns-in_ok-leave-in-Done-clause-made : goal.returns-in_ok-leave-in-Done-clause-made
returns-in_ok-leave-in-Done-clause-made g c =
    let kind = kind_of g.B.Content.number (branch_data g.B.Content.extents g.B.Content.entries g.B.Content.cuts g.B.Content.table) g.B.Content.TELLS in
    let old = g.T.Turns.means c.args.turns.now in
    let mid = g.T.Turns.means c.install.new.turns in
    let between = g.T.Turns.saw c.install.new.turns in
    let node = c.args.node in
    let output = c.args.output in
    made_before kind old mid (g.T.Turns.means c.leave.new.turns) (g.T.Turns.saw c.args.turns.now) between (g.T.Turns.saw c.leave.new.turns) IsEnd
    c.install.ensures.quiet.same
    (λ past saw. made_weaker kind old past mid between (IsInstallTurn node output c.install.result) IsEnd
    (λ turn is. let answered = subst (λ (r : Installed). IsInstallTurn node output r turn) c.in-Done.is is in (output, node, answered.0, answered.1))
    (c.install.ensures.made past saw))
    c.in_ok-leave-in-Done.ensures.quiet

pub returns-in-Elsewhere-None-clause-placed : goal.returns-in-Elsewhere-None-clause-placed
returns-in-Elsewhere-None-clause-placed g c = λ least to.
    let old = g.T.Turns.means c.args.turns.now in
    let new = g.T.Turns.means c.install.new.turns in
    placed_stale g.B.Content.TELLS old new least c.args.node c.args.output c.install.ensures.quiet.same.rule to
    (subst (λ (r : Installed). AfterInstall new to.holding r) (c.in-Elsewhere-None.is ∙ ap installed.Elsewhere c.in-Elsewhere-None.next-is) (after g (goal.at.returns-in-Elsewhere-None-clause-placed g c).After-install least to))

pub returns-in-Elsewhere-None-clause-made : goal.returns-in-Elsewhere-None-clause-made
returns-in-Elsewhere-None-clause-made g c = λ past saw.
    let kind = kind_of g.B.Content.number (branch_data g.B.Content.extents g.B.Content.entries g.B.Content.cuts g.B.Content.table) g.B.Content.TELLS in
    let node = c.args.node in
    let output = c.args.output in
    made_weaker kind (g.T.Turns.means c.args.turns.now) past (g.T.Turns.means c.install.new.turns) (g.T.Turns.saw c.install.new.turns) (IsInstallTurn node output c.install.result) IsStale
    (λ turn is. let answered = subst (λ (r : Installed). IsInstallTurn node output r turn) (c.in-Elsewhere-None.is ∙ ap installed.Elsewhere c.in-Elsewhere-None.next-is) is in (output, node, answered.0, answered.1))
    (c.install.ensures.made past saw)
