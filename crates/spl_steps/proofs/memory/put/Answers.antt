use Rattle.std.proofs.Common.{rules, ◌≡◌, refl, sym, subst}
use Rattle.spl_memtable.specs.Memtable.{IsFull, Puts}
use Rattle.spl_state.specs.Bounds.{AreBelow}
use Rattle.spl_state.specs.Whole.{Whole}
use Rattle.spl_steps.specs.Memory.{placed}
use Rattle.spl_steps.proofs.Puts.{put_sound, put_means}
use Rattle.spl_steps.proofs.memory.put.Goals as goal

pub invariant_of-parts : goal.invariant_of-parts
invariant_of-parts g c =
    let below = subst (λ (w : Whole). AreBelow w.nodes w.tables w.counters) (sym c.parts.view_is) c.requires.counted in
    let free : IsFull c.parts.inside.tables.active c.args.key.now → ⊥ = search rules in
    let puts : Puts (g.L.MergeLaw.rule c.args.law.now) c.parts.inside.tables.active c.put.new.self.active c.args.key.now c.args.message = search rules in
    put_sound _ _ c.put.new.self c.args.key.now c.args.message c.parts.invariant below c.put.ensures.frozen c.put.ensures.next puts free

pub returns-in-Ok-Done-clause-refused : goal.returns-in-Ok-Done-clause-refused
returns-in-Ok-Done-clause-refused g c = λ never. absurd (never c.parts.inside.counters.places refl)

pub returns-in-Ok-Done-clause-means : goal.returns-in-Ok-Done-clause-means
returns-in-Ok-Done-clause-means g c = λ place is told other.
    let puts : Puts (g.L.MergeLaw.rule c.args.law.now) c.parts.inside.tables.active c.put.new.self.active c.args.key.now c.args.message = search rules in
    put_means _ _ _ c.parts.view_is c.put.new.self (placed c.parts.inside.counters) c.args.key.now c.args.message c.put.ensures.frozen puts other
