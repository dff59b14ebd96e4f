-- What was added stays while the pages that are left are written.
use Rattle.std.proofs.Common.{◌≡◌, ℕ, ◌≤◌, Bool, List, [], None, refl, ap, ◌∙◌, subst, arith}
use Rattle.spl_message.specs.Table.{as_table}
use Rattle.spl_port.specs.Counts.{Counts, Rose}
use Rattle.spl_port.specs.Port.{MovesNone, WritesOne}
use Rattle.spl_branch.specs.Branch.{Branch}
use Rattle.spl_build.specs.Builder.{Builds, Building, IsFilterOf, Keeps, building}
use Rattle.spl_branch.specs.Pages.{page_total}
use Rattle.spl_build.specs.Counts.{OnlyWrites, WritesPages}
use Rattle.spl_build.specs.declared.stage.Stage.TheVariants.{Finishing}
use Rattle.spl_build.specs.Work.{IsWork, WorkState}

-- so far
pub record Climbs (tells : Bool) (old now : WorkState) (before after : Counts) : Type 0 where
  pub sound : IsWork now
  pub leaf : now.begun ≡ []
  pub hashes : now.hashes ≡ old.hashes
  pub kept : Keeps tells (building old Finishing None) (building now Finishing None)
  pub counts : OnlyWrites before after
  pub pages : WritesPages before after (page_total old.written.parts) (page_total now.written.parts)

keeps_same : (tells : Bool) (old : Building) → Keeps tells old old
keeps_same tells old = record { number = refl; extents = refl; entries = refl; hashes = refl; cuts = refl; last = refl; table = λ _. refl }

pub keeps_on : (tells : Bool) (old mid new : Building) → Keeps tells old mid → Keeps tells mid new → Keeps tells old new
keeps_on tells old mid new first next = record {
  number = next.number ∙ first.number;
  extents = next.extents ∙ first.extents;
  entries = next.entries ∙ first.entries;
  hashes = next.hashes ∙ first.hashes;
  cuts = next.cuts ∙ first.cuts;
  last = next.last ∙ first.last;
  table = λ is. next.table is ∙ first.table is;
}

pub writes_on : (before mid after : Counts) → OnlyWrites before mid → mid.faults ≡ before.faults → WritesOne mid after → OnlyWrites before after
writes_on before mid after first same next = record {
  faults = omega (arith, first.faults, next.faults);
  one_fault = omega (arith, same, next.one_fault);
  reads = next.reads ∙ first.reads;
  writes = omega (arith, first.writes, next.writes);
  last = next.last ∙ first.last;
}

pub begins_climb : (tells : Bool) (work : WorkState) (counts : Counts) → IsWork work → work.begun ≡ [] → Climbs tells work work counts counts
begins_climb tells work counts sound leaf = record {
  sound = sound;
  leaf = leaf;
  hashes = refl;
  kept = keeps_same tells (building work Finishing None);
  counts = record { faults = omega arith; one_fault = omega arith; reads = refl; writes = omega arith; last = refl };
  pages = record { writes = refl; faults = refl };
}

pub climbs_on : (tells : Bool) (old mid new : WorkState) (before between after : Counts) → Climbs tells old mid before between → IsWork new → new.begun ≡ [] → new.hashes ≡ mid.hashes →
    Keeps tells (building mid Finishing None) (building new Finishing None) → WritesOne between after →
    WritesPages between after (page_total mid.written.parts) (page_total new.written.parts) → Climbs tells old new before after
climbs_on tells old mid new before between after climbs sound leaf hashes kept counts pages = record {
  sound = sound;
  leaf = leaf;
  hashes = hashes ∙ climbs.hashes;
  kept = keeps_on tells (building old Finishing None) (building mid Finishing None) (building new Finishing None) climbs.kept kept;
  counts = writes_on before between after climbs.counts climbs.pages.faults counts;
  pages = record { writes = omega (arith, climbs.pages.writes, pages.writes); faults = pages.faults ∙ climbs.pages.faults };
}

-- a count that rose after a call rose since before it
pub rose_since : (before mid after : ℕ) → before ≤ mid → Rose mid after → Rose before after
rose_since before mid after up rose = omega arith

-- a branch of what was added before is one of what was added since
pub built_since : (tells : Bool) (old mid : Building) (branch : Branch) → Keeps tells old mid → Builds tells mid branch → Builds tells old branch
built_since tells old mid branch kept builds = record {
  number = builds.number ∙ kept.number;
  extents = builds.extents ∙ kept.extents;
  entries = builds.entries ∙ kept.entries;
  cuts = builds.cuts ∙ kept.cuts;
  filter = subst (λ (hashes : List ℕ). IsFilterOf hashes branch.filter) kept.hashes builds.filter;
  sound = builds.sound;
  compact = builds.compact;
  table = λ is. builds.table is ∙ ap as_table (kept.table is);
}

-- a leaf page and then index pages were written
pub climbs_counts : (before leaf after : Counts) → WritesOne before leaf → leaf.faults ≡ before.faults → OnlyWrites leaf after → OnlyWrites before after
climbs_counts before leaf after first same next = record {
  faults = omega (arith, first.faults, next.faults);
  one_fault = omega (arith, same, next.one_fault);
  reads = next.reads ∙ first.reads;
  writes = omega (arith, first.writes, next.writes);
  last = next.last ∙ first.last;
}

-- and then the branch was closed
pub closes_counts : (before mid after : Counts) → OnlyWrites before mid → mid.faults ≡ before.faults → MovesNone mid after → OnlyWrites before after
closes_counts before mid after first same next = record {
  faults = omega (arith, first.faults, next.faults);
  one_fault = omega (arith, same, next.one_fault);
  reads = next.reads ∙ first.reads;
  writes = omega (arith, first.writes, next.writes);
  last = next.last ∙ first.last;
}
