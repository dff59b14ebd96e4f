-- The streams of a merge: a scan of each branch, and a merger that takes what the scans give.
use Rattle.std.specs.Prelude.{◌≡◌, ℕ, Bool, true, false, List, [], map, length, replicate, Some, None}
use Rattle.std.specs.List.{slice_get, sum_by}
use Rattle.spl_message.specs.declared.message.Message.{Message}
use Rattle.spl_message.specs.declared.span.Span.{Span}
use Rattle.spl_message.specs.Entries.{Entries, AreEntries}
use Rattle.spl_message.specs.Key.{IsKey}
use Rattle.spl_message.specs.Table.{Table}
use Rattle.spl_branch.specs.Branch.{Branch, entries_in}
use Rattle.spl_merge.specs.Merger.{Merger, headless}
use Rattle.spl_merge.specs.Merging.{left_of as tables_of}
use Rattle.spl_scan.specs.Scan.{Scan, left_of, unread}

pub record Streams : Type 0 where
  pub scans : List Scan
  pub merger : Merger

abbrev pub branches_of : List Scan → List Branch
branches_of scans = map (λ scan. scan.branch) scans

-- the entries that follow the heads, where pages are told
abbrev pub following : List Scan → List Entries
following scans = map left_of scans

-- how many pages the scans may still read
abbrev pub unread_all : List Scan → ℕ
unread_all scans = sum_by unread scans

-- what is left of each stream
abbrev pub tables_left : Streams → List Table
tables_left streams = tables_of streams.merger.heads (following streams.scans)

-- a scan that has given nothing
abbrev pub fresh_scan : Span → Branch → Scan
fresh_scan span branch = record {
  branch = branch;
  span = span;
  last = None;
  begun = false;
  pages = 0;
  here = [];
}

-- a merger that was given nothing
abbrev pub fresh_merger : Span → Bool → ℕ → Merger
fresh_merger span bottom streams = record {
  span = span;
  bottom = bottom;
  heads = replicate streams None;
  wanted = headless 0 (replicate streams None);
  last = None;
  failed = false;
}

-- the stream's next entry has to be given
abbrev pub IsWanted : List ℕ → ℕ → Type 0
IsWanted wanted stream = (place : ℕ) × (slice_get wanted place ≡ Some stream)

-- where pages are told, each branch is in the order of its keys, and a stream that has no head and is not wanted has ended
pub record AreTold (streams : Streams) : Type 0 where
  pub order : (i : ℕ) (scan : Scan) → slice_get streams.scans i ≡ Some scan → AreEntries (entries_in scan.branch)
  pub ended : (i : ℕ) (scan : Scan) → slice_get streams.scans i ≡ Some scan → slice_get streams.merger.heads i ≡ Some None →
      ¬ (IsWanted streams.merger.wanted i) → left_of scan ≡ []

-- each stream has a scan: it gave the stream's head last, and where the next entry is wanted, the key of the latest step
pub record AreJoined (tells : Bool) (streams : Streams) : Type 0 where
  pub count : length streams.scans ≡ length streams.merger.heads
  pub spans : (i : ℕ) (scan : Scan) → slice_get streams.scans i ≡ Some scan → scan.span ≡ streams.merger.span
  pub heads : (i : ℕ) (scan : Scan) (entry : List ℕ × Message) → slice_get streams.scans i ≡ Some scan →
      slice_get streams.merger.heads i ≡ Some (Some entry) → (scan.last ≡ Some entry.0) × IsKey entry.0
  pub headless : (i : ℕ) → IsWanted streams.merger.wanted i → slice_get streams.merger.heads i ≡ Some None
  pub last : (i : ℕ) (scan : Scan) → slice_get streams.scans i ≡ Some scan → IsWanted streams.merger.wanted i →
      scan.last ≡ streams.merger.last
  pub once : (i j k : ℕ) → slice_get streams.merger.wanted j ≡ Some i → slice_get streams.merger.wanted k ≡ Some i → j ≡ k
  pub told : tells ≡ true → AreTold streams

-- entries moved from the scans to the merger
pub record Feeds (tells : Bool) (old new : Streams) : Type 0 where
  pub branches : branches_of new.scans ≡ branches_of old.scans
  pub merger : new.merger ≡ record old.merger { heads = new.merger.heads; wanted = new.merger.wanted }
  pub left : tells ≡ true → tables_left new ≡ tables_left old
