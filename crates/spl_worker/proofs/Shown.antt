-- What the turns of a job show of the work that it is a part of.
use Rattle.std.proofs.Common.{◌≡◌, ◌⊎◌, ℕ, nat_eq, cond, Bool, true, false, Option, Some, None, inl, inr, refl, ap, sym, subst, arith}
use Rattle.std.specs.Prelude.{Result, Ok, Err, IfOk}
use Rattle.std.proofs.lemmas.Bool.Decides.{nat_tests}
use Rattle.spl_message.specs.History.{History}
use Rattle.spl_bundle.specs.declared.bundles.TheConstants.{MAX_LISTS}
use Rattle.spl_state.specs.declared.reply.Reply.{Reply}
use Rattle.spl_state.specs.declared.reply.Reply.TheVariants as reply
use Rattle.spl_desk.specs.declared.fault.CallFault.{CallFault}
use Rattle.spl_desk.specs.Holder.{BranchKind, Holder}
use Rattle.spl_desk.specs.Quiet.{IsQuiet, WasMade}
use Rattle.spl_desk.specs.Turn.{Turn}
use Rattle.spl_desk.proofs.Quiet.{made_before, made_behind}
use Rattle.spl_job.specs.After.{HangsBranch}
use Rattle.spl_job.specs.Latching.{IsRefusal}
use Rattle.spl_job.specs.Flushing.{IsFlushTurn}
use Rattle.spl_job.specs.declared.flushing.Flushing.TheVariants as flushing
use Rattle.spl_enter.specs.Both.{IsRefusalOf}
use Rattle.spl_packer.specs.Outcomes.{ShowsPacked, WasPacked}
use Rattle.spl_packer.specs.declared.packed.Packed.TheVariants as packed
use Rattle.spl_compactor.specs.Compacting.{IsEnd}
use Rattle.spl_compactor.specs.Outcomes.{ShowsCompacted, WasCompacted}
use Rattle.spl_compactor.specs.declared.compacted.Compacted.{Compacted}
use Rattle.spl_compactor.specs.declared.compacted.Compacted.TheVariants as compacted
use Rattle.spl_flusher.specs.Flushes.{ShowsFlush}
use Rattle.spl_flusher.specs.declared.flushed.Flushed.TheVariants as flushed
use Rattle.spl_grower.specs.Ends.{IsChildEnd, IsRootEnd}
use Rattle.spl_grower.specs.declared.grown.Grown.{Grown}
use Rattle.spl_grower.specs.declared.grown.Grown.TheVariants as grown
use Rattle.spl_worker.specs.Reliefs.{Flushes, Grows, Made, WasPassed, WasRelieved, has_room, merged_relief, raised_relief}
use Rattle.spl_worker.specs.Rooms.{MakesWay, ShowsFew, ShowsRoom}
use Rattle.spl_worker.specs.Stale.{ShowsStale, TellsStale}
use Rattle.spl_worker.specs.Works.{WasWork, least_at, next_of, unless_idle, work_of}
use Rattle.spl_worker.specs.declared.relief.Relief.{Relief}
use Rattle.spl_worker.specs.declared.relief.Relief.TheVariants as relief
use Rattle.spl_worker.specs.declared.work.Work.{Work}
use Rattle.spl_worker.specs.declared.work.Work.TheVariants as work

-- a turn that is such is such too
pub made_so : {B : Type 0} (kind : BranchKind B) (old : Holder) (history : History) (new : Holder) (Sees : History → Type 0) (Is Has : Turn B → Type 0) → ((turn : Turn B) → Is turn → Has turn) → WasMade kind old history new Sees Is → WasMade kind old history new Sees Has
made_so kind old history new Sees Is Has each made = record {
  turns = made.turns;
  seen = made.seen;
  walks = made.walks;
  saw = made.saw;
  says = (made.says.0, (made.says.1.0, made.says.1.1, each made.says.1.0 made.says.1.2));
}

module _ {B : Type 0} where
  told_stale : (turn : Turn B) (answer : Reply B) → turn.reply ≡ answer → TellsStale answer → ShowsStale turn
  told_stale turn answer is stale = inl (subst TellsStale (sym is) stale)

  refused_stale : (node : ℕ) (turn : Turn B) → IsRefusal node turn → ShowsStale turn
  refused_stale node turn is = elim is [
    | inl claim ↦ told_stale turn (reply.Again claim.1.0 claim.1.1) claim.1.2 tt
    | inr lock ↦ told_stale turn (reply.Again lock.1.0 lock.1.1) lock.1.2 tt
  ]

  both_stale : (parent child : ℕ) (turn : Turn B) → IsRefusalOf parent child turn → ShowsStale turn
  both_stale parent child turn is = elim is [ inl one ↦ refused_stale parent turn one | inr other ↦ refused_stale child turn other ]

  -- what came of a merge
  pub merged_shows : (node first last : ℕ) (answer : Compacted) (kind : BranchKind B) (old new : Holder) (Saw Sees : History → Type 0) → WasCompacted kind old Saw new Sees node first last answer → WasPassed kind old Saw new Sees (merged_relief answer)
  merged_shows node first last compacted.Done kind old new Saw Sees was = was
  merged_shows node first last compacted.Stale kind old new Saw Sees was = λ history saw. made_so kind old history new Sees (ShowsCompacted node first last compacted.Stale) ShowsStale (λ turn is. told_stale turn (reply.Elsewhere None) is.3 tt) (was history saw)
  merged_shows node first last compacted.Gone kind old new Saw Sees was = λ history saw. made_so kind old history new Sees (ShowsCompacted node first last compacted.Gone) ShowsStale (λ turn is. told_stale turn (reply.Gone is.1.0 is.1.1) is.1.2 tt) (was history saw)
  merged_shows node first last compacted.Crossed kind old new Saw Sees was = λ history saw. made_so kind old history new Sees (ShowsCompacted node first last compacted.Crossed) ShowsStale (λ turn is. told_stale turn (reply.Crossed is.1.0 is.1.1) is.1.2 tt) (was history saw)
  merged_shows node first last compacted.Busy kind old new Saw Sees was = λ history saw. made_so kind old history new Sees (ShowsCompacted node first last compacted.Busy) ShowsStale (λ turn is. told_stale turn (reply.Busy is.0) is.1.1 tt) (was history saw)

  -- what came of raising the root
  pub raised_shows : (answer : Grown) (kind : BranchKind B) (old new : Holder) (Saw Sees : History → Type 0) → Made kind old Saw new Sees (IsRootEnd answer) → WasPassed kind old Saw new Sees (raised_relief answer)
  raised_shows grown.Done kind old new Saw Sees was = λ history saw. made_so kind old history new Sees (IsRootEnd grown.Done) Grows (λ turn is. (inl is.0, is.2)) (was history saw)
  raised_shows grown.Unneeded kind old new Saw Sees was = λ history saw. made_so kind old history new Sees (IsRootEnd grown.Unneeded) ShowsStale (λ turn is. inr (inl (0, is))) (was history saw)
  raised_shows grown.Busy kind old new Saw Sees was = λ history saw. made_so kind old history new Sees (IsRootEnd grown.Busy) ShowsStale (refused_stale 0) (was history saw)
  raised_shows grown.Full kind old new Saw Sees was = λ history saw. made_so kind old history new Sees (IsRootEnd grown.Full) ShowsStale (λ turn is. absurd is) (was history saw)
  raised_shows grown.Moved kind old new Saw Sees was = λ history saw. made_so kind old history new Sees (IsRootEnd grown.Moved) ShowsStale (λ turn is. absurd is) (was history saw)

  module _ (parent child : ℕ) (turn : Turn B) where
    pub child_grows : IsChildEnd parent child grown.Done turn → Grows turn
    child_grows is = (inr (parent, child, is.0.0, is.0.1), is.1)

    pub child_unneeded : IsChildEnd parent child grown.Unneeded turn → ShowsStale turn
    child_unneeded is = inr (inl (child, is))

    pub child_moved : IsChildEnd parent child grown.Moved turn → ShowsStale turn
    child_moved is = told_stale turn (reply.Moved child) is.1 tt

    pub child_busy : IsChildEnd parent child grown.Busy turn → ShowsStale turn
    child_busy is = both_stale parent child turn is

    pub flush_done : ShowsFlush parent child flushed.Done turn → Flushes turn
    flush_done is = (parent, child, is.0, is.1)

    pub flush_moved : ShowsFlush parent child flushed.Moved turn → ShowsStale turn
    flush_moved is = told_stale turn (reply.Moved child) is.1 tt

    pub flush_busy : ShowsFlush parent child flushed.Busy turn → ShowsStale turn
    flush_busy is = both_stale parent child turn is

    pub flush_many : (branches : ℕ) → ShowsFlush parent child (flushed.NeedsCompact branches) turn → ShowsStale turn
    flush_many branches is = told_stale turn (reply.NeedsCompact branches) is.1 tt

  pub hung_stale : (turn : Turn B) → ShowsPacked packed.NotOldest turn → ShowsStale turn
  hung_stale turn is = told_stale turn (reply.NotOldest is.1.0 None) is.1.1 tt

  pub full_stale : (turn : Turn B) → ShowsPacked packed.NeedsFlush turn → ShowsStale turn
  full_stale turn is = elim is [ inl full ↦ inr (inr full) | inr refused ↦ told_stale turn reply.NeedsFlush refused.1 tt ]

  -- a memtable was packed, or none waits
  pub way_made : (turn : Turn B) → ShowsPacked packed.Done turn → MakesWay turn
  way_made turn is = inl is

  pub way_free : (turn : Turn B) → ShowsPacked packed.Nothing turn → MakesWay turn
  way_free turn is = inr is

-- where the search ended at a node with few bundles, that is the root
ended_there : (here : Bool) (next : Option ℕ) → next ≡ cond here None (Some 0) → next ≡ None → here ≡ true
ended_there true next is none = refl
ended_there false next is none = cc

at_root : (at : ℕ) → nat_eq at 0 ≡ true → at ≡ 0
at_root at is = grind (arith, nat_tests)

module _ {B : Type 0} (kind : BranchKind B) (old new : Holder) (Saw Sees : History → Type 0) where
  -- what came of a piece of work at a node is a worker's work
  pub work_shown : (at least : ℕ) (answer : Relief) → next_of at answer ≡ None → WasRelieved kind old Saw new Sees at (least_at at least) answer → WasWork kind old Saw new Sees least (work_of answer)
  work_shown at least (relief.Room running) none was =
      let here : nat_eq at 0 ≡ true = ended_there (nat_eq at 0) (next_of at (relief.Room running)) refl none in
      subst (λ (n : ℕ). Made kind old Saw new Sees (ShowsFew n least running)) (at_root at here)
      (subst (λ (m : ℕ). Made kind old Saw new Sees (ShowsFew at m running)) (ap (λ (b : Bool). cond b least MAX_LISTS) here) was)
  work_shown at least (relief.Below child) none was = absurd (none_is child none)
    where
      none_is : (child : ℕ) → Some child ≡ None → ⊥
      none_is child is = cc
  work_shown at least relief.Grown none was = was
  work_shown at least relief.Flushed none was = was
  work_shown at least relief.Compacted none was = was
  work_shown at least relief.Stale none was = was

  -- a node that has room was seen so
  pub room_shown : (node : ℕ) (answer : Relief) → has_room answer ≡ true → WasRelieved kind old Saw new Sees node MAX_LISTS answer → Made kind old Saw new Sees (ShowsRoom node)
  room_shown node (relief.Room running) is was = λ history saw. made_so kind old history new Sees (ShowsFew node MAX_LISTS running) (ShowsRoom node) (λ turn shown. (shown.0, (shown.1.0, shown.1.1, shown.1.2))) (was history saw)
  room_shown node (relief.Below child) is was = cc
  room_shown node relief.Grown is was = cc
  room_shown node relief.Flushed is was = cc
  room_shown node relief.Compacted is was = cc
  room_shown node relief.Stale is was = cc

module _ {B : Type 0} (kind : BranchKind B) (old mid new : Holder) (Saw Between Sees : History → Type 0) where
  pub work_behind : (least : ℕ) (answer : Work) → IsQuiet kind old Saw mid Between → WasWork kind mid Between new Sees least answer → WasWork kind old Saw new Sees least answer
  work_behind least work.Packed one was = made_behind kind old mid new Saw Between Sees HangsBranch one was
  work_behind least work.Flushed one was = made_behind kind old mid new Saw Between Sees Flushes one was
  work_behind least work.Compacted one was = made_behind kind old mid new Saw Between Sees IsEnd one was
  work_behind least work.Stale one was = made_behind kind old mid new Saw Between Sees ShowsStale one was
  work_behind least work.Split one was = made_behind kind old mid new Saw Between Sees Grows one was
  work_behind least (work.Idle running) one was = made_behind kind old mid new Saw Between Sees (ShowsFew 0 least running) one was

  pub works_on : (least : ℕ) (r : Result Work CallFault) → IsQuiet kind old Saw mid Between → IfOk r (WasWork kind mid Between new Sees least) → IfOk r (WasWork kind old Saw new Sees least)
  works_on least (Ok answer) one was = work_behind least answer one was
  works_on least (Err _) one was = tt

  -- the root was full, so there was work, by the actor or by others
  pub busy_shown : (least few : ℕ) (answer : Work) → IsQuiet kind old Saw mid Between → WasPacked kind old Saw mid Between packed.NeedsFlush → IsQuiet kind mid Between new Sees → WasWork kind mid Between new Sees least answer → WasWork kind old Saw new Sees few (unless_idle answer)
  busy_shown least few work.Packed one full two was = made_behind kind old mid new Saw Between Sees HangsBranch one was
  busy_shown least few work.Flushed one full two was = made_behind kind old mid new Saw Between Sees Flushes one was
  busy_shown least few work.Compacted one full two was = made_behind kind old mid new Saw Between Sees IsEnd one was
  busy_shown least few work.Stale one full two was = made_behind kind old mid new Saw Between Sees ShowsStale one was
  busy_shown least few work.Split one full two was = made_behind kind old mid new Saw Between Sees Grows one was
  busy_shown least few (work.Idle running) one full two was =
      made_before kind old mid new Saw Between Sees ShowsStale one.same
      (λ history saw. made_so kind old history mid Between (ShowsPacked packed.NeedsFlush) ShowsStale full_stale (full history saw)) two
