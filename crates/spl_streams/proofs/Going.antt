-- Several calls in turn, each of which goes on where the one before ended.
use Rattle.std.proofs.Common.{◌≡◌, ℕ, ◌≤◌, Bool, List, [], ◌∷◌, Option, Some, Result, Ok, Err, IsErrAnd, IfErr, ap, ◌∙◌, sym, subst, arith}
use Rattle.std.proofs.lemmas.Option.{get_or_from_slice_get, slice_get_within}
use Rattle.std.specs.List.{Contains, slice_get}
use Rattle.spl_message.specs.declared.span.Span.{Span}
use Rattle.spl_message.specs.Rule.{Rule}
use Rattle.spl_message.specs.Table.{IsMerged, as_table}
use Rattle.spl_port.specs.Counts.{Counts, Rose}
use Rattle.spl_branch.specs.declared.fault.BranchFault.{BranchFault}
use Rattle.spl_branch.specs.declared.fault.BranchFault.TheVariants.{Fault, Damaged, NoMemory}
use Rattle.spl_branch.specs.Branch.{Branch}
use Rattle.spl_branch.specs.Reading.{HasBranchCause, OnlyReads}
use Rattle.spl_merge.specs.declared.step.Step.{Step}
use Rattle.spl_merge.specs.declared.step.Step.TheVariants.{Entry, Dropped, Ended}
use Rattle.spl_merge.specs.Merger.{IsAbove, Merger}
use Rattle.spl_merge.specs.Merging.{IsMergedSoFar}
use Rattle.spl_scan.specs.Scan.{Scan}
use Rattle.spl_streams.specs.Merging.{Builds, HasMergeCause, Keeps, Merging, merging_of}
use Rattle.spl_streams.specs.Streams.{Feeds, Streams, branches_of}
use Rattle.spl_streams.proofs.Places.{get_map}

pub reads_then : (before now after : Counts) → OnlyReads before now → OnlyReads now after → OnlyReads before after
reads_then before now after first second = record {
  faults = let one = first.faults in let two = second.faults in omega (arith, one, two);
  reads = let one = first.reads in let two = second.reads in omega (arith, one, two);
  writes = second.writes ∙ first.writes;
}

pub feeds_then : (tells : Bool) (old now new : Streams) → Feeds tells old now → Feeds tells now new → Feeds tells old new
feeds_then tells old now new first second = record {
  branches = second.branches ∙ first.branches;
  merger = second.merger
      ∙ ap (λ (m : Merger). record m { heads = new.merger.heads; wanted = new.merger.wanted }) first.merger;
  left = λ told. second.left told ∙ first.left told;
}

pub keeps_then : (old now new : Merging) → Keeps old now → Keeps now new → Keeps old new
keeps_then old now new first second = record {
  branches = second.branches ∙ first.branches;
  span = second.span ∙ first.span;
  bottom = second.bottom ∙ first.bottom;
  last = λ key above. first.last key (second.last key above);
}

rose : (a b c : ℕ) → a ≤ b → Rose b c → Rose a c
rose a b c below more = omega (arith, below, more)

-- the cause of a later call is one of both calls
pub cause_later : (branches later : List Branch) (before now after : Counts) (fault : BranchFault) → later ≡ branches →
    OnlyReads before now → HasMergeCause later now after fault → HasMergeCause branches before after fault
cause_later branches later before now after Fault same reads cause = rose before.faults now.faults after.faults reads.faults cause
cause_later branches later before now after (Damaged damage) same reads cause = (
  cause.0,
  subst (λ (bs : List Branch). Contains bs cause.0) same cause.1,
  record {
    untold = cause.2.untold;
    place = cause.2.place;
    page = cause.2.page;
    read = let fewer = reads.reads in let more = cause.2.read in omega (arith, fewer, more);
  },
)
cause_later branches later before now after NoMemory same reads cause = tt

-- the cause of a scan's fault is one of the merge
pub cause_of : (scans : List Scan) (stream : ℕ) (scan : Scan) (before after : Counts) (fault : BranchFault) →
    slice_get scans stream ≡ Some scan → HasBranchCause scan.branch before after fault →
    HasMergeCause (branches_of scans) before after fault
cause_of scans stream scan before after Fault there cause = cause
cause_of scans stream scan before after (Damaged damage) there cause =
    let at = get_map (λ (s : Scan). s.branch) scans stream scan there in (
      scan.branch,
      (stream, slice_get_within (branches_of scans) stream scan.branch at, get_or_from_slice_get (branches_of scans) stream scan.branch scan.branch at),
      cause,
    )
cause_of scans stream scan before after NoMemory there cause = tt

-- what is fed leaves the merge as it was
pub feeds_keeps : (tells : Bool) (old new : Streams) → Feeds tells old new → Keeps (merging_of old) (merging_of new)
feeds_keeps tells old new feeds = record {
  branches = feeds.branches;
  span = ap (λ (m : Merger). m.span) feeds.merger;
  bottom = ap (λ (m : Merger). m.bottom) feeds.merger;
  last = λ key above. subst (λ (l : Option (List ℕ)). IsAbove l key) (ap (λ (m : Merger). m.last) feeds.merger) above;
}

-- what holds of an error holds of the same error
pub if_err_same : {T E : Type 0} (r : Result T E) (e : E) (P : E → Type 0) → IsErrAnd r (λ x. x ≡ e) → P e → IfErr r P
if_err_same (Ok x) e P is p = tt
if_err_same (Err x) e P is p = subst P (sym is) p

-- a step behind steps that built nothing
pub builds_then : (rule : Rule) (old now new : Merging) (step : Step) → Keeps old now →
    IsMergedSoFar rule old.left old.span old.bottom [] now.left → Builds rule now step new → Builds rule old step new
builds_then rule old now new (Entry key message) keeps so_far builds = λ rest is.
    so_far ((key, message) ∷ rest)
    (subst (λ (b : Bool). IsMerged rule now.left old.span b (as_table ((key, message) ∷ rest))) keeps.bottom
    (subst (λ (s : Span). IsMerged rule now.left s now.bottom (as_table ((key, message) ∷ rest))) keeps.span
    (builds rest (subst (λ (b : Bool). IsMerged rule new.left now.span b (as_table rest)) (sym keeps.bottom)
    (subst (λ (s : Span). IsMerged rule new.left s old.bottom (as_table rest)) (sym keeps.span) is)))))
builds_then rule old now new Dropped keeps so_far builds = λ rest is.
    so_far rest
    (subst (λ (b : Bool). IsMerged rule now.left old.span b (as_table rest)) keeps.bottom
    (subst (λ (s : Span). IsMerged rule now.left s now.bottom (as_table rest)) keeps.span
    (builds rest (subst (λ (b : Bool). IsMerged rule new.left now.span b (as_table rest)) (sym keeps.bottom)
    (subst (λ (s : Span). IsMerged rule new.left s old.bottom (as_table rest)) (sym keeps.span) is)))))
builds_then rule old now new Ended keeps so_far builds =
    so_far []
    (subst (λ (b : Bool). IsMerged rule now.left old.span b (as_table [])) keeps.bottom
    (subst (λ (s : Span). IsMerged rule now.left s now.bottom (as_table [])) keeps.span builds))
