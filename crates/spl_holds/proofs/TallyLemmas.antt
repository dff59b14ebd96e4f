-- What a change of one grip leaves of the actors' counts, and of the nodes of which each has something.
use Rattle.std.proofs.Common.{◌≡◌, ◌≢◌, ℕ, zero, suc, ◌+◌, ◌<◌, ◌≤◌, List, [], ◌∷◌, ◌++◌, length, get_or, set, slice_get, replicate, count_by, sum_by, Option, Some, None, IfSome, Bool, true, false, cond, refl, ⊎_elim, ap, sym, subst, ◌∙◌, arith}
use Rattle.std.specs.List.{All}
use Rattle.std.proofs.lemmas.List.{length-set, length_push, length-replicate, set-set, set-get_or, get_or-set_same, get_or-set_other, get_or_default, get_or_past, get_or-replicate}
use Rattle.std.proofs.lemmas.List.Sums.{sum_by-set, sum_by-append, count_by-le-length, get_or-le-sum_by}
use Rattle.std.proofs.lemmas.List.Elements.{All-push, All-set}
use Rattle.std.proofs.lemmas.Option.{get_or_from_slice_get, slice_get-get_or}
use Rattle.std.proofs.lemmas.Bool.{cases_eq, cases_lt, true≢false}
use Rattle.std.proofs.Math.Seq.{map-set_same}
use Rattle.spl_base.specs.declared.TheConstants.{ACTORS}
use Rattle.spl_numbers.specs.Numbers.{has, one_if}
use Rattle.spl_numbers.proofs.ListedLemmas.{has_within}
use Rattle.spl_holds.specs.declared.grip.Grip.{Grip}
use Rattle.spl_holds.specs.declared.grip.Grip.TheVariants.{Free, Read, Claim, Write}
use Rattle.spl_holds.specs.declared.counts.Counts.{Counts}
use Rattle.spl_holds.specs.declared.tally.Tally.{Tally}
use Rattle.spl_holds.specs.declared.holds.TheConstants.{NODES}
use Rattle.spl_holds.specs.Grip.{is_read, is_claim, is_write, is_held}
use Rattle.spl_holds.specs.Latch.{IsLatched, grip_in, nobody}
use Rattle.spl_holds.specs.Holds.{grips_at, grip_of, with_grip, without_actor}
use Rattle.spl_holds.specs.Counts.{no_grip, counts_of, IsAdded, IsFew}
use Rattle.spl_holds.specs.Room.{HasRoom, IsTally, IsKept}
use Rattle.spl_holds.proofs.HoldsLemmas.{grip_in-nobody, grip_of-with_grip, grip_of-with_grip_elsewhere, grip_of-with_grip_others, grip_of-added}

-- how many grips of an actor pass a test, after a change of one
pub count-with_grip : (test : Grip → Bool) (holds : List (List Grip)) (actor node : ℕ) (grip : Grip) → All IsLatched holds → actor < ACTORS → node < length holds → count_by (λ grips. test (grip_in grips actor)) (with_grip holds actor node grip) + one_if (test (grip_of holds actor node)) ≡ count_by (λ grips. test (grip_in grips actor)) holds + one_if (test grip)
count-with_grip test holds actor node grip latched known exists =
    let actors = (latched node [] exists).actors in
    sum_by-set (λ grips. one_if (test (grip_in grips actor))) holds node (set (grips_at holds node) actor grip) [] exists
    ∙ ap (λ g. count_by (λ grips. test (grip_in grips actor)) holds + one_if (test g)) (get_or-set_same (grips_at holds node) actor grip Free (omega arith))

-- the other actors have as many
pub count-with_grip_others : (test : Grip → Bool) (holds : List (List Grip)) (actor node other : ℕ) (grip : Grip) → other ≢ actor → node < length holds → count_by (λ grips. test (grip_in grips other)) (with_grip holds actor node grip) ≡ count_by (λ grips. test (grip_in grips other)) holds
count-with_grip_others test holds actor node other grip apart exists =
    let same : one_if (test (grip_in (set (grips_at holds node) actor grip) other)) ≡ one_if (test (grip_in (grips_at holds node) other)) =
    ap (λ g. one_if (test g)) (get_or-set_other (grips_at holds node) actor other grip Free apart) in
    omega (arith, sum_by-set (λ grips. one_if (test (grip_in grips other))) holds node (set (grips_at holds node) actor grip) [] exists)

-- a node that nobody holds changes no count
pub count-added : (test : Grip → Bool) (holds : List (List Grip)) (actor : ℕ) → test Free ≡ false → count_by (λ grips. test (grip_in grips actor)) (holds ++ nobody ∷ []) ≡ count_by (λ grips. test (grip_in grips actor)) holds
count-added test holds actor free =
    let none : one_if (test (grip_in nobody actor)) ≡ 0 = ap (λ g. one_if (test g)) (grip_in-nobody actor) ∙ ap one_if free in
    omega (arith, sum_by-append (λ grips. one_if (test (grip_in grips actor))) holds (nobody ∷ []))

pub same_counts : (a b : Counts) → a.reads ≡ b.reads → a.claims ≡ b.claims → a.writes ≡ b.writes → a ≡ b
same_counts a b reads claims writes =
    let by_reads : ℕ → Counts = λ n. record { reads = n; claims = a.claims; writes = a.writes } in
    let by_claims : ℕ → Counts = λ n. record { reads = b.reads; claims = n; writes = a.writes } in
    let by_writes : ℕ → Counts = λ n. record { reads = b.reads; claims = b.claims; writes = n } in
    ap by_reads reads ∙ ap by_claims claims ∙ ap by_writes writes

-- one actor's tally after one of its grips changed
pub record Moves (old new : Tally) (node : ℕ) (was grip : Grip) : Type 0 where
  pub reads : new.counts.reads + one_if (is_read was) ≡ old.counts.reads + one_if (is_read grip)
  pub claims : new.counts.claims + one_if (is_claim was) ≡ old.counts.claims + one_if (is_claim grip)
  pub writes : new.counts.writes + one_if (is_write was) ≡ old.counts.writes + one_if (is_write grip)
  pub limit : length new.nodes ≡ length old.nodes
  pub this : has new.nodes node ≡ is_held grip
  pub others : (other : ℕ) → other ≢ node → has new.nodes other ≡ has old.nodes other

pub IsTally-moved : (holds : List (List Grip)) (actor node : ℕ) (was grip : Grip) (old new : Tally) → All IsLatched holds → actor < ACTORS → node < length holds → grip_of holds actor node ≡ was → IsTally holds actor old → Moves old new node was grip → IsTally (with_grip holds actor node grip) actor new
IsTally-moved holds actor node was grip old new latched known exists had h moved =
    let reads = count-with_grip is_read holds actor node grip latched known exists in
    let claims = count-with_grip is_claim holds actor node grip latched known exists in
    let writes = count-with_grip is_write holds actor node grip latched known exists in
    let was_read : one_if (is_read (grip_of holds actor node)) ≡ one_if (is_read was) = ap (λ g. one_if (is_read g)) had in
    let was_claim : one_if (is_claim (grip_of holds actor node)) ≡ one_if (is_claim was) = ap (λ g. one_if (is_claim g)) had in
    let was_write : one_if (is_write (grip_of holds actor node)) ≡ one_if (is_write was) = ap (λ g. one_if (is_write g)) had in
    let old_reads = ap (λ (counts : Counts). counts.reads) h.counts in
    let old_claims = ap (λ (counts : Counts). counts.claims) h.counts in
    let old_writes = ap (λ (counts : Counts). counts.writes) h.counts in
    record {
      counts = same_counts new.counts (counts_of (with_grip holds actor node grip) actor) (omega (arith, moved.reads)) (omega (arith, moved.claims)) (omega (arith, moved.writes));
      limit = moved.limit ∙ h.limit;
      nodes = λ other.
          ⊎_elim
          (λ (same : other ≡ node). rw same (moved.this ∙ ap is_held (sym (grip_of-with_grip holds actor node grip latched known exists))))
          (λ apart. moved.others other apart ∙ h.nodes other ∙ ap is_held (sym (grip_of-with_grip_elsewhere holds actor node actor other grip apart)))
          (cases_eq other node);
    }

pub IsTally-others : (holds : List (List Grip)) (actor node other : ℕ) (grip : Grip) (tally : Tally) → other ≢ actor → node < length holds → IsTally holds other tally → IsTally (with_grip holds actor node grip) other tally
IsTally-others holds actor node other grip tally apart exists h =
    record {
      counts = h.counts ∙ sym (same_counts (counts_of (with_grip holds actor node grip) other) (counts_of holds other) (count-with_grip_others is_read holds actor node other grip apart exists) (count-with_grip_others is_claim holds actor node other grip apart exists) (count-with_grip_others is_write holds actor node other grip apart exists));
      limit = h.limit;
      nodes = λ at. h.nodes at ∙ ap is_held (sym (grip_of-with_grip_others holds actor node other at grip apart));
    }

-- a call changed a latch and the actor's tally
pub IsKept-moved : (holds : List (List Grip)) (room : ℕ) (tallies : List Tally) (actor node : ℕ) (was grip : Grip) (lent latch : List Grip) (tally moved : Tally) → IsKept holds room tallies → actor < ACTORS → node < length holds → lent ≡ get_or holds node lent → latch ≡ set lent actor grip → IsLatched latch → grip_of holds actor node ≡ was → tally ≡ get_or tallies actor tally → Moves tally moved node was grip → IsKept (set holds node latch) room (set tallies actor moved)
IsKept-moved holds room tallies actor node was grip lent latch tally moved h known exists lent_is latch_is latched had tally_is moves =
    let here : lent ≡ grips_at holds node = lent_is ∙ get_or_default holds node lent [] exists in
    let book : set holds node latch ≡ with_grip holds actor node grip = ap (λ l. set holds node l) (latch_is ∙ ap (λ l. set l actor grip) here) in
    record {
      nodes = record {
        latched = All-set IsLatched holds node latch latched h.nodes.latched;
        root = rw (length-set holds node latch) h.nodes.root;
        limit = rw (length-set holds node latch) h.nodes.limit;
        room_for_all = h.nodes.room_for_all;
      };
      actors = length-set tallies actor moved ∙ h.actors;
      each = λ other d among.
          rw book
          (⊎_elim
          (λ (same : other ≡ actor).
          rw (same, get_or-set_same tallies actor moved d (omega (arith, h.actors)))
          (IsTally-moved holds actor node was grip tally moved h.nodes.latched known exists had
          (subst (λ t. IsTally holds actor t) (sym tally_is) (h.each actor tally known)) moves))
          (λ apart.
          rw (get_or-set_other tallies actor other moved d apart)
          (IsTally-others holds actor node other grip (get_or tallies other d) apart exists (h.each other d among)))
          (cases_eq other actor));
    }

pub IsKept-added : (holds new : List (List Grip)) (room more : ℕ) (tallies : List Tally) → IsKept holds room tallies → new ≡ holds ++ nobody ∷ [] → length holds < NODES → IsLatched nobody → room ≤ more → IsKept new more tallies
IsKept-added holds new room more tallies h pushed few latched grown =
    let len = length_push holds nobody in
    rw pushed record {
      nodes = record {
        latched = All-push IsLatched holds nobody h.nodes.latched latched;
        root = omega arith;
        limit = omega arith;
        room_for_all = omega (arith, h.nodes.room_for_all);
      };
      actors = h.actors;
      each = λ actor d known.
          let old = h.each actor d known in
          record {
            counts = old.counts ∙ sym (same_counts (counts_of (holds ++ nobody ∷ []) actor) (counts_of holds actor) (count-added is_read holds actor refl) (count-added is_claim holds actor refl) (count-added is_write holds actor refl));
            limit = old.limit;
            nodes = λ node. old.nodes node ∙ ap is_held (sym (grip_of-added holds actor node));
          };
    }

-- the tally of an actor that has nothing
abbrev pub fresh : Tally
fresh = record { counts = no_grip; nodes = replicate NODES false }

same_tally : (a b : Tally) → a.counts ≡ b.counts → a.nodes ≡ b.nodes → a ≡ b
same_tally a b counts nodes =
    let by_counts : Counts → Tally = λ c. record { counts = c; nodes = a.nodes } in
    let by_nodes : List Bool → Tally = λ n. record { counts = b.counts; nodes = n } in
    ap by_counts counts ∙ ap by_nodes nodes

fresh_pushed : (tallies : List Tally) (tally : Tally) → ((k : ℕ) → k < length tallies → slice_get tallies k ≡ Some fresh) → tally ≡ fresh → (k : ℕ) → k < length (tallies ++ tally ∷ []) → slice_get (tallies ++ tally ∷ []) k ≡ Some fresh
fresh_pushed [] tally all is zero within = ap Some is
fresh_pushed [] tally all is (suc k) within = absurd (omega arith)
fresh_pushed (first ∷ tallies) tally all is zero within = all zero (omega arith)
fresh_pushed (first ∷ tallies) tally all is (suc k) within =
    fresh_pushed tallies tally (λ j below. all (suc j) (omega arith)) is k (omega arith)

pub fresh_more : (tallies new : List Tally) (tally : Tally) → new ≡ tallies ++ tally ∷ [] → tally.counts ≡ no_grip → tally.nodes ≡ replicate NODES false → ((k : ℕ) → k < length tallies → slice_get tallies k ≡ Some fresh) → (k : ℕ) → k < length new → slice_get new k ≡ Some fresh
fresh_more tallies new tally pushed counts nodes all =
    rw pushed (fresh_pushed tallies tally all (same_tally tally fresh counts nodes))

no_node : (node : ℕ) → has (replicate NODES false) node ≡ false
no_node node =
    ⊎_elim
    (λ within. get_or-replicate NODES node false false within)
    (λ past. get_or_past (replicate NODES false) node false (omega (arith, length-replicate NODES false)))
    (cases_lt node NODES)

root_only : (actor node : ℕ) → grip_of (nobody ∷ []) actor node ≡ Free
root_only actor zero = grip_in-nobody actor
root_only actor (suc node) = refl

pub IsKept-new : (holds : List (List Grip)) (room : ℕ) (tallies : List Tally) → holds ≡ nobody ∷ [] → IsLatched nobody → NODES ≤ room → length tallies ≡ ACTORS → ((k : ℕ) → k < length tallies → slice_get tallies k ≡ Some fresh) → IsKept holds room tallies
IsKept-new holds room tallies made latched enough len all =
    rw made record {
      nodes = record {
        latched = All-push IsLatched [] nobody (λ k d within. absurd (omega arith)) latched;
        root = omega arith;
        limit = omega arith;
        room_for_all = enough;
      };
      actors = len;
      each = λ actor d known.
          rw (get_or_from_slice_get tallies actor fresh d (all actor (omega arith))) record {
            counts = sym (same_counts (counts_of (nobody ∷ []) actor) no_grip (count-added is_read [] actor refl) (count-added is_claim [] actor refl) (count-added is_write [] actor refl));
            limit = length-replicate NODES false;
            nodes = λ node. no_node node ∙ ap is_held (sym (root_only actor node));
          };
    }

-- ---- leaving

held_grip : (grip : Grip) → is_held grip ≡ true → grip ≢ Free
held_grip grip held free = true≢false (sym held ∙ ap is_held free)

pub held_from : (grip : Grip) → grip ≢ Free → is_held grip ≡ true
held_from Free some = absurd (some refl)
held_from Read some = refl
held_from Claim some = refl
held_from Write some = refl

pub free_from : (grip : Grip) → is_held grip ≡ false → grip ≡ Free
free_from Free none = refl
free_from Read none = cc
free_from Claim none = cc
free_from Write none = cc

node_within : (holds : List (List Grip)) (actor node : ℕ) → is_held (grip_of holds actor node) ≡ true → node < length holds
node_within holds actor node held =
    ⊎_elim (λ within. within)
    (λ past. absurd (true≢false (sym held ∙ ap (λ grips. is_held (grip_in grips actor)) (get_or_past holds node [] past))))
    (cases_lt node (length holds))

pub found_node : (holds : List (List Grip)) (actor : ℕ) (tally : Tally) (found : Option ℕ) → IsTally holds actor tally → IfSome found (λ node. slice_get tally.nodes node ≡ Some true) → IfSome found (λ node. node < length holds) × IfSome found (λ node. grip_of holds actor node ≢ Free)
found_node holds actor tally None h found = (tt, tt)
found_node holds actor tally (Some node) h found =
    let held : is_held (grip_of holds actor node) ≡ true = sym (h.nodes node) ∙ get_or_from_slice_get tally.nodes node true false found in
    (node_within holds actor node held, held_grip (grip_of holds actor node) held)

-- of how many nodes an actor has something
abbrev pub held_count : List (List Grip) → ℕ → ℕ
held_count holds actor = count_by (λ grips. is_held (grip_in grips actor)) holds

pub fewer_held : (holds : List (List Grip)) (actor node : ℕ) → All IsLatched holds → actor < ACTORS → node < length holds → grip_of holds actor node ≢ Free → held_count (with_grip holds actor node Free) actor < held_count holds actor
fewer_held holds actor node latched known exists some =
    let one : one_if (is_held (grip_of holds actor node)) ≡ 1 = ap one_if (held_from (grip_of holds actor node) some) in
    omega (arith, count-with_grip is_held holds actor node Free latched known exists)

pub without_actor-left : (holds : List (List Grip)) (actor node : ℕ) → without_actor (with_grip holds actor node Free) actor ≡ without_actor holds actor
without_actor-left holds actor node =
    map-set_same (λ grips. set grips actor Free) holds node (set (grips_at holds node) actor Free) [] (set-set (grips_at holds node) actor Free Free)

nothing_to_leave : (grips : List Grip) (actor : ℕ) → grip_in grips actor ≡ Free → set grips actor Free ≡ grips
nothing_to_leave grips actor free = ap (λ g. set grips actor g) (sym free) ∙ set-get_or grips actor Free

pub without_actor-free : (holds : List (List Grip)) (actor : ℕ) → ((node : ℕ) → grip_of holds actor node ≡ Free) → without_actor holds actor ≡ holds
without_actor-free [] actor free = refl
without_actor-free (grips ∷ holds) actor free =
    ap (λ first. first ∷ without_actor holds actor) (nothing_to_leave grips actor (free zero)) ∙ ap (λ rest. grips ∷ rest) (without_actor-free holds actor (λ node. free (suc node)))

-- an actor that has nothing of a node leaves it as it is
pub left_free : (holds : List (List Grip)) (actor node : ℕ) (lent : List Grip) → lent ≡ get_or holds node lent → node < length holds → grip_of holds actor node ≡ Free → set holds node lent ≡ with_grip holds actor node Free
left_free holds actor node lent lent_is exists free =
    let here : lent ≡ grips_at holds node = lent_is ∙ get_or_default holds node lent [] exists in
    ap (λ l. set holds node l) (here ∙ sym (nothing_to_leave (grips_at holds node) actor free))

pub grip_of-lent : (holds : List (List Grip)) (actor node : ℕ) (lent : List Grip) (grip : Grip) → lent ≡ get_or holds node lent → node < length holds → slice_get lent actor ≡ Some grip → grip_of holds actor node ≡ grip
grip_of-lent holds actor node lent grip lent_is exists had =
    ap (λ l. get_or l actor Free) (sym (lent_is ∙ get_or_default holds node lent [] exists)) ∙ get_or_from_slice_get lent actor grip Free had

-- ---- a tally's moves

has-set : (members : List Bool) (number : ℕ) (now : Bool) → number < length members → has (set members number now) number ≡ now
has-set members number now within = get_or-set_same members number now false within

pub Moves-add : (old new : Tally) (node : ℕ) (grip : Grip) → IsAdded old.counts new.counts grip → new.nodes ≡ set old.nodes node true → node < length old.nodes → is_held grip ≡ true → Moves old new node Free grip
Moves-add old new node grip added nodes within held =
    record {
      reads = omega (arith, added.reads);
      claims = omega (arith, added.claims);
      writes = omega (arith, added.writes);
      limit = ap length nodes ∙ length-set old.nodes node true;
      this = ap (λ l. has l node) nodes ∙ has-set old.nodes node true within ∙ sym held;
      others = λ other apart. ap (λ l. has l other) nodes ∙ get_or-set_other old.nodes node other true false apart;
    }

pub Moves-drop : (old new : Tally) (node : ℕ) (grip : Grip) → IsAdded new.counts old.counts grip → new.nodes ≡ set old.nodes node false → node < length old.nodes → Moves old new node grip Free
Moves-drop old new node grip added nodes within =
    record {
      reads = omega (arith, added.reads);
      claims = omega (arith, added.claims);
      writes = omega (arith, added.writes);
      limit = ap length nodes ∙ length-set old.nodes node false;
      this = ap (λ l. has l node) nodes ∙ has-set old.nodes node false within;
      others = λ other apart. ap (λ l. has l other) nodes ∙ get_or-set_other old.nodes node other false false apart;
    }

pub Moves-lock : (old new : Tally) (node : ℕ) → new.counts.reads ≡ old.counts.reads → new.counts.claims + 1 ≡ old.counts.claims → new.counts.writes ≡ old.counts.writes + 1 → new.nodes ≡ old.nodes → has old.nodes node ≡ true → Moves old new node Claim Write
Moves-lock old new node reads claims writes nodes held =
    record {
      reads = omega arith;
      claims = omega arith;
      writes = omega arith;
      limit = ap length nodes;
      this = ap (λ l. has l node) nodes ∙ held;
      others = λ other apart. ap (λ l. has l other) nodes;
    }

-- an actor's counts have its grip on each node
pub counted : (test : Grip → Bool) (holds : List (List Grip)) (actor node : ℕ) → node < length holds → one_if (test (grip_of holds actor node)) ≤ count_by (λ grips. test (grip_in grips actor)) holds
counted test holds actor node exists = get_or-le-sum_by (λ grips. one_if (test (grip_in grips actor))) holds node [] exists

pub tally_of : (holds : List (List Grip)) (room : ℕ) (tallies : List Tally) (actor : ℕ) (tally : Tally) → IsKept holds room tallies → actor < ACTORS → tally ≡ get_or tallies actor tally → IsTally holds actor tally
tally_of holds room tallies actor tally h known is = subst (λ t. IsTally holds actor t) (sym is) (h.each actor tally known)

pub within_tally : (holds : List (List Grip)) (room : ℕ) (tallies : List Tally) (actor node : ℕ) (tally : Tally) → IsKept holds room tallies → actor < ACTORS → node < length holds → tally ≡ get_or tallies actor tally → node < length tally.nodes
within_tally holds room tallies actor node tally h known exists is =
    omega (arith, h.nodes.limit, (tally_of holds room tallies actor tally h known is).limit)

pub held_node : (holds : List (List Grip)) (room : ℕ) (tallies : List Tally) (actor node : ℕ) (tally : Tally) → IsKept holds room tallies → actor < ACTORS → node < length holds → tally ≡ get_or tallies actor tally → is_held (grip_of holds actor node) ≡ true → slice_get tally.nodes node ≡ Some true
held_node holds room tallies actor node tally h known exists is held =
    slice_get-get_or tally.nodes node false (within_tally holds room tallies actor node tally h known exists is)
    ∙ ap Some ((tally_of holds room tallies actor tally h known is).nodes node ∙ held)
