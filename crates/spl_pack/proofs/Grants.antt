-- A grant keeps the invariant, and what everybody relies on.
use Rattle.std.proofs.Common.{◌≡◌, ◌≢◌, ℕ, Bool, true, false, List, Option, Some, None, set, slice_get, refl, sym, ap, subst, ◌∙◌, arith}
use Rattle.std.specs.Prelude.{IfSome}
use Rattle.std.proofs.lemmas.Bool.{false≢true}
use Rattle.std.proofs.lemmas.Bool.Decides.{nat_tests}
use Rattle.std.proofs.lemmas.Option.{get_or_from_slice_get}
use Rattle.std.proofs.Math.Seq.{map-set_same}
use Rattle.spl_message.specs.Rule.{Rule}
use Rattle.spl_numbers.specs.Numbers.{has, ListsEach}
use Rattle.spl_extent.specs.declared.owner.Owner.{Owner}
use Rattle.spl_extent.specs.declared.owner.Owner.TheVariants.{Free, Granted}
use Rattle.spl_extent.specs.Pool.{is_granted, granted_to}
use Rattle.spl_state.specs.declared.job.Job.{Job}
use Rattle.spl_state.specs.declared.job.Job.TheVariants.{Pack, Merge}
use Rattle.spl_state.specs.Actor.{actor_in}
use Rattle.spl_state.specs.Actors.{IsAtWork}
use Rattle.spl_state.specs.Extents.{mentioned, is_held_by, held_by, AccountsForExtents}
use Rattle.spl_state.specs.Frame.{IsFramed}
use Rattle.spl_state.specs.Sight.{SeesSource}
use Rattle.spl_state.specs.Sound.{IsSound, AreDrafts}
use Rattle.spl_state.proofs.Frames.{unchanged_framed}
use Rattle.spl_state.specs.Whole.{BranchData, Whole, branches, counts}

is_other : (actor other : ℕ) → other ≢ actor → is_granted other (Granted actor) ≡ false
is_other actor other apart = grind (arith, nat_tests)

same_source : (old : Whole) (job : Job) → SeesSource old old job
same_source old (Pack number table) = λ i f at is. (i, at)
same_source old (Merge number run) = λ n among. refl

module _ (old : Whole) (actor extent : ℕ) (was_free : slice_get old.owners extent ≡ Some Free) where
  abbrev owners : List Owner
  owners = set old.owners extent (Granted actor)

  held_same : (number : ℕ) → held_by owners number ≡ held_by old.owners number
  held_same number =
      map-set_same (is_held_by number) old.owners extent (Granted actor) Free
      (sym (ap (is_held_by number) (get_or_from_slice_get old.owners extent Free Free was_free)))

  granted_same : (other : ℕ) → other ≢ actor → granted_to owners other ≡ granted_to old.owners other
  granted_same other apart =
      map-set_same (is_granted other) old.owners extent (Granted actor) Free
      (is_other actor other apart ∙ sym (ap (is_granted other) (get_or_from_slice_get old.owners extent Free Free was_free)))

  accounts : (mentions : List ℕ) (count : ℕ → ℕ) (branch : ℕ → Option BranchData) → AccountsForExtents mentions count branch old.owners → AccountsForExtents mentions count branch owners
  accounts mentions count branch before = record {
    counts = before.counts;
    stands = before.stands;
    held = λ number. subst (λ (held : List Bool). IfSome (branch number) (λ (b : BranchData). ListsEach b.extents held)) (sym (held_same number)) (before.held number);
    not_held = λ number other none. subst (λ (held : List Bool). has held other ≡ false) (sym (held_same number)) (before.not_held number other none);
  }

  works : (number : ℕ) (job : Option Job) (published : Bool) → (published ≡ true → number ≢ actor) → IsAtWork old.nodes (branches old) old.owners old.tables.frozen old.counters.branches number job published → IsAtWork old.nodes (branches old) owners old.tables.frozen old.counters.branches number job published
  works number None published apart work = work
  works number (Some job) published apart work = record {
    number = work.number;
    source = work.source;
    unpublished = work.unpublished;
    draft = work.draft;
    nothing = λ is other. subst (λ (granted : List Bool). has granted other ≡ false) (sym (granted_same number (apart is))) (work.nothing is other);
  }

  module _ (unpublished : (actor_in old.actors actor).published ≡ false) where
    apart : (number : ℕ) → (actor_in old.actors number).published ≡ true → number ≢ actor
    apart number is same = false≢true (sym unpublished ∙ subst (λ (n : ℕ). (actor_in old.actors n).published ≡ true) same is)

    pub granted_sound : IsSound old → IsSound (record old { owners = owners })
    granted_sound sound = record {
      shaped = sound.shaped;
      latches = sound.latches;
      latched = sound.latched;
      extents = accounts (mentioned old.nodes old.actors) (counts old) (branches old) sound.extents;
      memtables = sound.memtables;
      count = sound.count;
      actors = λ number below. record {
        told = (sound.actors number below).told;
        knows_root = (sound.actors number below).knows_root;
        descent = (sound.actors number below).descent;
        job = works number (actor_in old.actors number).job (actor_in old.actors number).published (apart number) (sound.actors number below).job;
      };
      apart = sound.apart;
      picked = sound.picked;
      runs = sound.runs;
      ends = sound.ends;
      bounds = sound.bounds;
    }

  pub granted_framed : (rule : Rule) (tells : Bool) → (tells ≡ true → AreDrafts rule old) → IsFramed rule tells old (record old { owners = owners }) actor
  granted_framed rule tells drafts = record {
    drafts = drafts;
    means = λ told key. refl;
    others = λ other below apart. record {
      actor = refl;
      grips = λ node. refl;
      extents = granted_same other apart;
      descent = λ descent is. record { height = refl; pivots = refl; tables = refl; rest = λ told key within. refl };
      job = λ job is. same_source old job;
      written = λ node writes. record { pivots = refl; bundles = refl; split = refl };
    };
  }

-- the same, where the state is seen through its parts
module _ (whole old : Whole) (view_is : whole ≡ old) (pool : List Owner) (actor : ℕ) (rule : Rule) (tells : Bool) (drafts : tells ≡ true → AreDrafts rule old) where
  pub grant_framed : (extent : ℕ) → slice_get whole.owners extent ≡ Some Free → pool ≡ set whole.owners extent (Granted actor) → IsFramed rule tells old (record whole { owners = pool }) actor
  grant_framed extent was_free is =
      let drafts_here : tells ≡ true → AreDrafts rule whole = λ told. subst (λ (w : Whole). AreDrafts rule w) (sym view_is) (drafts told) in
      let framed = granted_framed whole actor extent was_free rule tells drafts_here in
      let here : IsFramed rule tells whole (record whole { owners = pool }) actor = subst (λ (o : List Owner). IsFramed rule tells whole (record whole { owners = o }) actor) (sym is) framed in
      subst (λ (w : Whole). IsFramed rule tells w (record whole { owners = pool }) actor) view_is here

  pub no_grant_framed : pool ≡ whole.owners → IsFramed rule tells old (record whole { owners = pool }) actor
  no_grant_framed is =
      let framed = unchanged_framed rule tells old drafts actor in
      let here : IsFramed rule tells old whole actor = subst (λ (w : Whole). IsFramed rule tells old w actor) (sym view_is) framed in
      subst (λ (o : List Owner). IsFramed rule tells old (record whole { owners = o }) actor) (sym is) here

pub grant_sound : (old : Whole) (pool : List Owner) (actor extent : ℕ) → IsSound old → (actor_in old.actors actor).published ≡ false → slice_get old.owners extent ≡ Some Free → pool ≡ set old.owners extent (Granted actor) → IsSound (record old { owners = pool })
grant_sound old pool actor extent sound unpublished was_free is =
    subst (λ (o : List Owner). IsSound (record old { owners = o })) (sym is) (granted_sound old actor extent was_free unpublished sound)

pub no_grant_sound : (old : Whole) (pool : List Owner) → IsSound old → pool ≡ old.owners → IsSound (record old { owners = pool })
no_grant_sound old pool sound is = subst (λ (o : List Owner). IsSound (record old { owners = o })) (sym is) sound
