-- What a step of the merger is to the merge.
use Rattle.std.proofs.Common.{◌≡◌, ℕ, zero, suc, ◌<◌, Bool, true, false, cond, List, [], ◌∷◌, map, length, Option, Some, None, Result, Ok, Err, IfOk, OnOk, OnErr, refl, ap, ◌∙◌, sym, subst, arith}
use Rattle.std.proofs.lemmas.Bool.{false≢true}
use Rattle.std.proofs.lemmas.Option.{slice_get_within}
use Rattle.std.specs.List.{slice_get}
use Rattle.spl_message.specs.declared.message.Message.{Message}
use Rattle.spl_message.specs.Key.{IsKey}
use Rattle.spl_message.specs.Message.{combine_all}
use Rattle.spl_message.specs.Rule.{Rule}
use Rattle.spl_message.specs.Span.{in_span}
use Rattle.spl_message.specs.Table.{kept}
use Rattle.spl_message.proofs.Spans.{below_trans}
use Rattle.spl_merge.specs.declared.step.Step.{Step}
use Rattle.spl_merge.specs.declared.step.Step.TheVariants.{Entry, Dropped, Ended}
use Rattle.spl_merge.specs.Merger.{Head, IsAbove, IsStep, Merger, Steps, behind, kept_at, messages_at, streams_at}
use Rattle.spl_merge.specs.Merging.{AreStreams, IsMergedSoFar, built_by, left_of as tables_of}
use Rattle.spl_merge.proofs.Runs.{merged_at_first, merged_at_last, taken_had}
use Rattle.spl_scan.specs.Scan.{Scan}
use Rattle.spl_streams.specs.Merging.{Builds, Keeps, Moves, Passes, merging_of}
use Rattle.spl_streams.specs.Streams.{AreJoined, following}

-- what is above a key that is above the last one is above the last one
above_then : (last : Option (List ℕ)) (key other : List ℕ) → IsAbove last key → IsAbove (Some key) other → IsAbove last other
above_then None key other first second = tt
above_then (Some last) key other first second = below_trans last key other first second

module _ (tells : Bool) (scans : List Scan) (old : Merger) where
  module _ (joined : AreJoined tells (record { scans = scans; merger = old })) where
    scan_at : (i : ℕ) (head : Head) → slice_get old.heads i ≡ Some head → (scan : Scan) × (slice_get scans i ≡ Some scan)
    scan_at i head at = there scans i (let within = slice_get_within old.heads i head at in let count = joined.count in omega (arith, within, count))
      where
        there : (scans : List Scan) (i : ℕ) → i < length scans → (scan : Scan) × (slice_get scans i ≡ Some scan)
        there [] i within = absurd (omega arith)
        there (scan ∷ scans) zero within = (scan, refl)
        there (scan ∷ scans) (suc i) within = there scans i (omega arith)

    -- the key of a step is the key of a head
    step_key : (key : List ℕ) → IsStep key old → IsKey key
    step_key key is =
        let first = is.least.there in
        let at : slice_get (streams_at key old.heads) 0 ≡ Some first.0.0 =
        ap (λ (heads : List (ℕ × Message)). slice_get (map (λ (head : ℕ × Message). head.0) heads) 0) first.2 in
        let had = taken_had key old.heads 0 first.0.0 at in
        let scan = scan_at first.0.0 (Some had.0) had.1 in
        subst IsKey had.2 (joined.heads first.0.0 scan.0 had.0 scan.1 had.1).1

    passes : (key : List ℕ) (new : Merger) → IsStep key old → new ≡ behind key old →
        Passes (merging_of (record { scans = scans; merger = old })) key (merging_of (record { scans = scans; merger = new }))
    passes key new is behind_is = record {
      above = is.above;
      last = ap (λ (m : Merger). m.last) behind_is;
      is_key = step_key key is;
    }

    inside : (rule : Rule) (key : List ℕ) (message : Message) → kept_at rule old key ≡ Some message → in_span old.span key ≡ true
    inside rule key message is = by (in_span old.span key) refl
      where
        by : (b : Bool) → in_span old.span key ≡ b → in_span old.span key ≡ true
        by true within = within
        by false outside = cc (
          is,
          ap (λ (b : Bool). cond b (kept rule old.bottom key (combine_all rule key (messages_at key old.heads))) None) outside,
        )

    pub stepped_moves : {E : Type 0} (new : Merger) (rule : Rule) (result : Result Step E) → Steps rule old result new →
        IfOk result (λ step. Moves (merging_of (record { scans = scans; merger = old })) step
        (merging_of (record { scans = scans; merger = new })))
    stepped_moves new rule (Ok Ended) steps = ap (λ (m : Merger). m.last) steps.1
    stepped_moves new rule (Ok Dropped) steps = (steps.0, passes steps.0 new steps.1 steps.3)
    stepped_moves new rule (Ok (Entry key message)) steps = (inside rule key message steps.1, passes key new steps.0 steps.2)
    stepped_moves new rule (Err error) steps = tt

  pub stepped_builds : {E : Type 0} (new : Merger) (rule : Rule) (result : Result Step E) → AreStreams old.heads (following scans) →
      Steps rule old result new →
      IfOk result (λ step. IsMergedSoFar rule (tables_of old.heads (following scans)) old.span old.bottom (built_by step)
      (tables_of new.heads (following scans))) →
      IfOk result (λ step. Builds rule (merging_of (record { scans = scans; merger = old })) step
      (merging_of (record { scans = scans; merger = new })))
  stepped_builds new rule (Ok Ended) are steps merged =
      merged_at_last rule (tables_of old.heads (following scans)) old.span old.bottom old.heads (following scans) [] steps.0 are
      (merged_at_first rule (tables_of old.heads (following scans)) old.span old.bottom)
  stepped_builds new rule (Ok Dropped) are steps merged = merged
  stepped_builds new rule (Ok (Entry key message)) are steps merged = merged
  stepped_builds new rule (Err error) are steps merged = tt

  behind_keeps : (key : List ℕ) (new : Merger) → IsAbove old.last key → new ≡ behind key old →
      Keeps (merging_of (record { scans = scans; merger = old })) (merging_of (record { scans = scans; merger = new }))
  behind_keeps key new above is = record {
    branches = refl;
    span = ap (λ (m : Merger). m.span) is;
    bottom = ap (λ (m : Merger). m.bottom) is;
    last = λ other more. above_then old.last key other above
        (subst (λ (l : Option (List ℕ)). IsAbove l other) (ap (λ (m : Merger). m.last) is) more);
  }

  pub stepped_keeps : {E : Type 0} (new : Merger) (rule : Rule) (result : Result Step E) → Steps rule old result new → new.failed ≡ false →
      Keeps (merging_of (record { scans = scans; merger = old })) (merging_of (record { scans = scans; merger = new }))
  stepped_keeps new rule (Ok Ended) steps sound = record {
    branches = refl;
    span = ap (λ (m : Merger). m.span) steps.1;
    bottom = ap (λ (m : Merger). m.bottom) steps.1;
    last = λ other more. subst (λ (l : Option (List ℕ)). IsAbove l other) (ap (λ (m : Merger). m.last) steps.1) more;
  }
  stepped_keeps new rule (Ok Dropped) steps sound = behind_keeps steps.0 new steps.1.above steps.3
  stepped_keeps new rule (Ok (Entry key message)) steps sound = behind_keeps key new steps.0.above steps.2
  stepped_keeps new rule (Err error) steps sound = absurd (false≢true (sym sound ∙ steps))

  pub stepped_sound : {E : Type 0} (new : Merger) (rule : Rule) (result : Result Step E) → old.failed ≡ false →
      Steps rule old result new → OnOk result (new.failed ≡ false)
  stepped_sound new rule (Ok Ended) sound steps = ap (λ (m : Merger). m.failed) steps.1 ∙ sound
  stepped_sound new rule (Ok Dropped) sound steps = ap (λ (m : Merger). m.failed) steps.3 ∙ sound
  stepped_sound new rule (Ok (Entry key message)) sound steps = ap (λ (m : Merger). m.failed) steps.2 ∙ sound
  stepped_sound new rule (Err error) sound steps = tt

  pub stepped_failed : {E : Type 0} (new : Merger) (rule : Rule) (result : Result Step E) → Steps rule old result new →
      OnErr result (new.failed ≡ true)
  stepped_failed new rule (Ok step) steps = tt
  stepped_failed new rule (Err error) steps = steps
