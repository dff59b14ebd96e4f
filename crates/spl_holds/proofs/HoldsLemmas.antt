-- What a call leaves of each actor's grips, for those who keep a book.
use Rattle.std.proofs.Common.{◌≡◌, ◌≢◌, ℕ, zero, suc, ◌<◌, List, [], ◌∷◌, ◌++◌, length, get_or, set, replicate, refl, ap, ◌∙◌, ⊎_elim, arith}
use Rattle.std.specs.List.{All}
use Rattle.std.proofs.lemmas.List.{length-set, length-replicate, get_or-set_same, get_or-set_other, get_or_past, get_or-replicate, set_past}
use Rattle.std.proofs.lemmas.Bool.{cases_eq, cases_lt}
use Rattle.spl_holds.specs.declared.grip.Grip.{Grip}
use Rattle.spl_holds.specs.declared.grip.Grip.TheVariants.{Free}
use Rattle.spl_base.specs.declared.TheConstants.{ACTORS}
use Rattle.spl_holds.specs.Latch.{IsLatched, grip_in, nobody}
use Rattle.spl_holds.specs.Holds.{grips_at, grip_of, with_grip, without_actor}

free_of_copies : (n actor : ℕ) → get_or (replicate n Free) actor Free ≡ Free
free_of_copies n actor =
    ⊎_elim
    (λ within. get_or-replicate n actor Free Free within)
    (λ past. get_or_past (replicate n Free) actor Free (omega (arith, length-replicate n Free)))
    (cases_lt actor n)

pub grip_in-nobody : (actor : ℕ) → grip_in nobody actor ≡ Free
unfolding nobody
grip_in-nobody actor = free_of_copies ACTORS actor

pub length-with_grip : (holds : List (List Grip)) (actor node : ℕ) (grip : Grip) → length (with_grip holds actor node grip) ≡ length holds
length-with_grip holds actor node grip = length-set holds node (set (grips_at holds node) actor grip)

-- a call gives the actor the grip
pub grip_of-with_grip : (holds : List (List Grip)) (actor node : ℕ) (grip : Grip) → All IsLatched holds → actor < ACTORS → node < length holds → grip_of (with_grip holds actor node grip) actor node ≡ grip
grip_of-with_grip holds actor node grip latched known exists =
    let actors = (latched node [] exists).actors in
    ap (λ grips. grip_in grips actor) (get_or-set_same holds node (set (grips_at holds node) actor grip) [] exists)
    ∙ get_or-set_same (grips_at holds node) actor grip Free (omega arith)

-- it leaves what each actor has of the other nodes
pub grip_of-with_grip_elsewhere : (holds : List (List Grip)) (actor node other at : ℕ) (grip : Grip) → at ≢ node → grip_of (with_grip holds actor node grip) other at ≡ grip_of holds other at
grip_of-with_grip_elsewhere holds actor node other at grip elsewhere =
    ap (λ grips. grip_in grips other) (get_or-set_other holds node at (set (grips_at holds node) actor grip) [] elsewhere)

-- and what the other actors have of each node
pub grip_of-with_grip_others : (holds : List (List Grip)) (actor node other at : ℕ) (grip : Grip) → other ≢ actor → grip_of (with_grip holds actor node grip) other at ≡ grip_of holds other at
grip_of-with_grip_others holds actor node other at grip apart =
    ⊎_elim
    (λ same.
    ⊎_elim
    (λ exists.
    rw same
    (ap (λ grips. grip_in grips other) (get_or-set_same holds node (set (grips_at holds node) actor grip) [] exists)
    ∙ get_or-set_other (grips_at holds node) actor other grip Free apart))
    (λ past. ap (λ book. grip_of book other at) (set_past holds node (set (grips_at holds node) actor grip) past))
    (cases_lt node (length holds)))
    (λ elsewhere. grip_of-with_grip_elsewhere holds actor node other at grip elsewhere)
    (cases_eq at node)

-- a new node leaves what each actor has
pub grip_of-added : (holds : List (List Grip)) (actor node : ℕ) → grip_of (holds ++ nobody ∷ []) actor node ≡ grip_of holds actor node
grip_of-added [] actor zero = grip_in-nobody actor
grip_of-added [] actor (suc node) = refl
grip_of-added (grips ∷ holds) actor zero = refl
grip_of-added (grips ∷ holds) actor (suc node) = grip_of-added holds actor node

left_one : (grips : List Grip) (actor : ℕ) → grip_in (set grips actor Free) actor ≡ Free
left_one [] actor = refl
left_one (grip ∷ grips) zero = refl
left_one (grip ∷ grips) (suc actor) = left_one grips actor

-- an actor that left every node has nothing
pub grip_of-without_actor : (holds : List (List Grip)) (actor node : ℕ) → grip_of (without_actor holds actor) actor node ≡ Free
grip_of-without_actor [] actor node = refl
grip_of-without_actor (grips ∷ holds) actor zero = left_one grips actor
grip_of-without_actor (grips ∷ holds) actor (suc node) = grip_of-without_actor holds actor node

-- and the others have what they had
pub grip_of-without_actor_others : (holds : List (List Grip)) (actor other node : ℕ) → other ≢ actor → grip_of (without_actor holds actor) other node ≡ grip_of holds other node
grip_of-without_actor_others [] actor other node apart = refl
grip_of-without_actor_others (grips ∷ holds) actor other zero apart = get_or-set_other grips actor other Free Free apart
grip_of-without_actor_others (grips ∷ holds) actor other (suc node) apart =
    grip_of-without_actor_others holds actor other node apart
