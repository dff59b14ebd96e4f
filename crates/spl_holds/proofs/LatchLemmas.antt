-- What the bits and the owner of a latch say of the grips.
use Rattle.std.proofs.Common.{◌≡◌, ◌≢◌, ℕ, ◌-◌, ◌*◌, ◌^◌, ◌/◌, ◌%◌, ◌<◌, length, get_or, set, slice_get, Some, None, Option, Bool, true, false, cond, eqb, nat_eq, replicate, position, w32, bit_and, bit_or, refl, ◌⊎◌, inl, inr, ⊎_elim, sym, ap, ◌∙◌, arith}
use Rattle.std.specs.Option.{option_eq}
use Rattle.std.specs.Int.{bit_at, trailing_zeros}
use Rattle.std.proofs.lemmas.List.{length-set, get_or-set_same, get_or-set_other, same_lists, length-replicate, get_or-replicate, get_or_past}
use Rattle.std.proofs.lemmas.List.FromFn.{length-map-range_with_len, get_or-map-range_with_len}
use Rattle.std.proofs.lemmas.List.Sums.{position_or_len_is}
use Rattle.std.proofs.lemmas.Option.{slice_get-get_or, same_Some, none-some}
use Rattle.std.proofs.lemmas.Nat.Bits.{bit_at_set_same, bit_at_set_other, bit_at_clear_same, bit_at_clear_other, bit_at-zero, bit_at-lt, bit_at-trailing_zeros, shr_and_one}
use Rattle.std.proofs.lemmas.Bool.{cases_eq, cases_lt, true≢false}
use Rattle.std.proofs.lemmas.Bool.Decides.{nat_tests}
use Rattle.spl_holds.specs.declared.grip.Grip.{Grip}
use Rattle.spl_holds.specs.declared.grip.Grip.TheVariants.{Free, Read, Claim, Write}
use Rattle.spl_holds.specs.declared.latch.Owner.{Owner}
use Rattle.spl_holds.specs.declared.latch.Owner.TheVariants.{Nobody, Claimant, Writer}
use Rattle.spl_base.specs.declared.TheConstants.{ACTORS}
use Rattle.spl_holds.specs.Grip.{is_read, is_write, may_write}
use Rattle.spl_holds.specs.Latch.{IsLatched, grip_in, nobody}
use Rattle.spl_holds.specs.Word.{reader_grip, grip_under, grips_in, owner_of, IsSound}

-- the grips by the actors' numbers
length-grips_in : (readers : ℕ) (owner : Owner) → length (grips_in readers owner) ≡ ACTORS
unfolding grips_in
length-grips_in readers owner = length-map-range_with_len (grip_under readers owner) 0 ACTORS

get_or-grips_in : (readers : ℕ) (owner : Owner) (actor : ℕ) (d : Grip) → actor < ACTORS → get_or (grips_in readers owner) actor d ≡ grip_under readers owner actor
unfolding grips_in
get_or-grips_in readers owner actor d known = get_or-map-range_with_len (grip_under readers owner) 0 ACTORS actor actor d known (omega arith)

pub slice_get-grips_in : (readers : ℕ) (owner : Owner) (actor : ℕ) → actor < ACTORS → slice_get (grips_in readers owner) actor ≡ Some (grip_under readers owner actor)
slice_get-grips_in readers owner actor known =
    slice_get-get_or (grips_in readers owner) actor Free (omega (arith, length-grips_in readers owner)) ∙ ap Some (get_or-grips_in readers owner actor Free known)

-- one actor's grip changes, and no other's
grips_in-set : (readers readers' : ℕ) (owner owner' : Owner) (actor : ℕ) (grip : Grip) → actor < ACTORS → grip_under readers' owner' actor ≡ grip → ((other : ℕ) → other < ACTORS → other ≢ actor → grip_under readers' owner' other ≡ grip_under readers owner other) → grips_in readers' owner' ≡ set (grips_in readers owner) actor grip
grips_in-set readers readers' owner owner' actor grip known here others =
    same_lists _ _ (length-grips_in readers' owner' ∙ sym (length-grips_in readers owner) ∙ sym (length-set (grips_in readers owner) actor grip))
    (λ other d within.
    let among : other < ACTORS = omega (arith, length-grips_in readers' owner') in
    rw (get_or-grips_in readers' owner' other d among)
    (⊎_elim
    (λ same. rw same (here ∙ sym (get_or-set_same (grips_in readers owner) actor grip d (omega (arith, length-grips_in readers owner)))))
    (λ apart. others other among apart ∙ sym (get_or-grips_in readers owner other d among) ∙ sym (get_or-set_other (grips_in readers owner) actor other grip d apart))
    (cases_eq other actor)))

-- the first actor whose grip passes a test
position-grips_in : (test : Grip → Bool) (readers : ℕ) (owner : Owner) (actor : ℕ) → actor < ACTORS → test (grip_under readers owner actor) ≡ true → ((lower : ℕ) → lower < actor → test (grip_under readers owner lower) ≡ false) → position test (grips_in readers owner) ≡ Some actor
position-grips_in test readers owner actor known here lower =
    let len = length-grips_in readers owner in
    let first = position_or_len_is test (grips_in readers owner) actor Free (omega arith) (λ k below. rw (get_or-grips_in readers owner k Free (omega arith)) (lower k below)) (λ _. rw (get_or-grips_in readers owner actor Free known) here) in
    grind (arith, nat_tests, len, first)

position-grips_in_none : (test : Grip → Bool) (readers : ℕ) (owner : Owner) → ((actor : ℕ) → actor < ACTORS → test (grip_under readers owner actor) ≡ false) → position test (grips_in readers owner) ≡ None
position-grips_in_none test readers owner fails =
    let len = length-grips_in readers owner in
    let first = position_or_len_is test (grips_in readers owner) ACTORS Free (omega arith) (λ k below. rw (get_or-grips_in readers owner k Free below) (fails k below)) (λ within. absurd (omega arith)) in
    grind (arith, nat_tests, len, first)

-- an actor that may not write reads or has nothing
may_write-reader : (readers actor : ℕ) → may_write (reader_grip readers actor) ≡ false
may_write-reader readers actor = by_bit (eqb (bit_at readers actor) 1) where
  by_bit : (bit : Bool) → may_write (cond bit Read Free) ≡ false
  by_bit true = refl
  by_bit false = refl

is_write-reader : (readers actor : ℕ) → is_write (reader_grip readers actor) ≡ false
is_write-reader readers actor = by_bit (eqb (bit_at readers actor) 1) where
  by_bit : (bit : Bool) → is_write (cond bit Read Free) ≡ false
  by_bit true = refl
  by_bit false = refl

reader_grip-one : (readers actor : ℕ) → bit_at readers actor ≡ 1 → reader_grip readers actor ≡ Read
reader_grip-one readers actor bit = rw bit refl

reader_grip-zero : (readers actor : ℕ) → bit_at readers actor ≡ 0 → reader_grip readers actor ≡ Free
reader_grip-zero readers actor bit = rw bit refl

eqb-apart : (a b : ℕ) → a ≢ b → eqb a b ≡ false
eqb-apart a b apart = grind (arith, nat_tests)

eqb-same : (a : ℕ) → eqb a a ≡ true
eqb-same a = grind (arith, nat_tests)

-- an actor that is not the owner reads or has nothing
grip_under-other : (readers : ℕ) (owner : Owner) (actor : ℕ) → owner_of owner ≢ Some actor → grip_under readers owner actor ≡ reader_grip readers actor
grip_under-other readers Nobody actor other = refl
grip_under-other readers (Claimant owner) actor other =
    let apart : actor ≢ owner = λ same. other cc in
    rw (eqb-apart actor owner apart) refl
grip_under-other readers (Writer owner) actor other =
    let apart : actor ≢ owner = λ same. other cc in
    rw (eqb-apart actor owner apart) refl

grip_under-claimant : (readers owner : ℕ) → grip_under readers (Claimant owner) owner ≡ Claim
grip_under-claimant readers owner = rw (eqb-same owner) refl

grip_under-writer : (readers owner : ℕ) → grip_under readers (Writer owner) owner ≡ Write
grip_under-writer readers owner = rw (eqb-same owner) refl

-- what an actor has, by the tests of the code
pub claimant_has : (readers : ℕ) (owner : Owner) (claimant actor : ℕ) → actor < ACTORS → owner ≡ Claimant claimant → claimant ≡ actor → slice_get (grips_in readers owner) actor ≡ Some Claim
claimant_has readers owner claimant actor known is same =
    slice_get-grips_in readers owner actor known ∙ ap Some (ap (λ o. grip_under readers o actor) (is ∙ ap Claimant same) ∙ grip_under-claimant readers actor)

pub writer_has : (readers : ℕ) (owner : Owner) (writer actor : ℕ) → actor < ACTORS → owner ≡ Writer writer → writer ≡ actor → slice_get (grips_in readers owner) actor ≡ Some Write
writer_has readers owner writer actor known is same =
    slice_get-grips_in readers owner actor known ∙ ap Some (ap (λ o. grip_under readers o actor) (is ∙ ap Writer same) ∙ grip_under-writer readers actor)

pub reader_has : (readers : ℕ) (owner : Owner) (actor : ℕ) → actor < ACTORS → owner_of owner ≢ Some actor → bit_and (readers / 2 ^ actor) 1 ≡ 1 → slice_get (grips_in readers owner) actor ≡ Some Read
reader_has readers owner actor known other one =
    slice_get-grips_in readers owner actor known ∙ ap Some (grip_under-other readers owner actor other ∙ reader_grip-one readers actor (sym (shr_and_one readers actor) ∙ one))

pub other_has : (readers : ℕ) (owner : Owner) (actor : ℕ) → actor < ACTORS → owner_of owner ≢ Some actor → bit_and (readers / 2 ^ actor) 1 ≢ 1 → slice_get (grips_in readers owner) actor ≡ Some Free
other_has readers owner actor known other clear =
    let zero : bit_at readers actor ≡ 0 = omega (arith, bit_at-lt readers actor, shr_and_one readers actor) in
    slice_get-grips_in readers owner actor known ∙ ap Some (grip_under-other readers owner actor other ∙ reader_grip-zero readers actor zero)

-- who is not the owner, by the tests of the code
pub not_claimant : (owner : Owner) (claimant actor : ℕ) → owner ≡ Claimant claimant → claimant ≢ actor → owner_of owner ≢ Some actor
not_claimant owner claimant actor is apart owns = apart (same_Some claimant actor (sym (ap owner_of is) ∙ owns))

pub not_writer : (owner : Owner) (writer actor : ℕ) → owner ≡ Writer writer → writer ≢ actor → owner_of owner ≢ Some actor
not_writer owner writer actor is apart owns = apart (same_Some writer actor (sym (ap owner_of is) ∙ owns))

pub not_nobody : (owner : Owner) (actor : ℕ) → owner ≡ Nobody → owner_of owner ≢ Some actor
not_nobody owner actor is owns = none-some actor (sym (ap owner_of is) ∙ owns)

pub owner_is : (found : Option ℕ) (actor : ℕ) → option_eq nat_eq found (Some actor) ≡ true → found ≡ Some actor
owner_is None actor equal = cc
owner_is (Some owner) actor equal = ap Some (grind (arith, nat_tests))

pub owner_is_not : (found : Option ℕ) (actor : ℕ) → option_eq nat_eq found (Some actor) ≡ false → found ≢ Some actor
owner_is_not None actor differ is = cc
owner_is_not (Some owner) actor differ is =
    let same : owner ≡ actor = same_Some owner actor is in
    grind (arith, nat_tests)

-- ---- who refuses

-- where nobody owns a node, nobody may write it
pub may_write-nobody : (readers : ℕ) (owner : Owner) → owner_of owner ≡ None → position may_write (grips_in readers owner) ≡ None
may_write-nobody readers owner none =
    position-grips_in_none may_write readers owner
    (λ actor known. rw (grip_under-other readers owner actor (λ same. cc)) (may_write-reader readers actor))

may_write-under_owner : (readers : ℕ) (owner : Owner) (actor : ℕ) → owner_of owner ≡ Some actor → may_write (grip_under readers owner actor) ≡ true
may_write-under_owner readers Nobody actor is = cc
may_write-under_owner readers (Claimant owner) actor is =
    let same : owner ≡ actor = cc in
    rw (same, grip_under-claimant readers actor) refl
may_write-under_owner readers (Writer owner) actor is =
    let same : owner ≡ actor = cc in
    rw (same, grip_under-writer readers actor) refl

known_owner : (readers : ℕ) (owner : Owner) (actor : ℕ) → IsSound readers owner → owner_of owner ≡ Some actor → actor < ACTORS
known_owner readers Nobody actor sound is = cc
known_owner readers (Claimant owner) actor sound is =
    let same : owner ≡ actor = cc in
    omega (arith, sound.0)
known_owner readers (Writer owner) actor sound is =
    let same : owner ≡ actor = cc in
    omega (arith, sound.0)

-- the owner is the one that may write
pub may_write-owner : (readers : ℕ) (owner : Owner) (actor : ℕ) → IsSound readers owner → owner_of owner ≡ Some actor → position may_write (grips_in readers owner) ≡ Some actor
may_write-owner readers owner actor sound is =
    position-grips_in may_write readers owner actor (known_owner readers owner actor sound is)
    (may_write-under_owner readers owner actor is)
    (λ lower below.
    let apart : actor ≢ lower = omega arith in
    rw (grip_under-other readers owner lower (λ same. apart cc)) (may_write-reader readers lower))

-- the writer is the one that writes
pub is_write-writer : (readers actor : ℕ) → IsSound readers (Writer actor) → position is_write (grips_in readers (Writer actor)) ≡ Some actor
is_write-writer readers actor sound =
    position-grips_in is_write readers (Writer actor) actor sound.0
    (rw (grip_under-writer readers actor) refl)
    (λ lower below.
    let apart : actor ≢ lower = omega arith in
    rw (grip_under-other readers (Writer actor) lower (λ same. apart cc)) (is_write-reader readers lower))

-- where no writer is, nobody writes
is_write-under : (readers : ℕ) (owner : Owner) (actor : ℕ) → ((writer : ℕ) → owner ≢ Writer writer) → is_write (grip_under readers owner actor) ≡ false
is_write-under readers Nobody actor no_writer = is_write-reader readers actor
is_write-under readers (Claimant owner) actor no_writer =
    ⊎_elim
    (λ same. ap (λ k. is_write (grip_under readers (Claimant owner) k)) same ∙ ap is_write (grip_under-claimant readers owner))
    (λ apart. ap is_write (grip_under-other readers (Claimant owner) actor (λ same. apart cc)) ∙ is_write-reader readers actor)
    (cases_eq actor owner)
is_write-under readers (Writer owner) actor no_writer = absurd (no_writer owner refl)

pub is_write-none : (readers : ℕ) (owner : Owner) → ((writer : ℕ) → owner ≢ Writer writer) → position is_write (grips_in readers owner) ≡ None
is_write-none readers owner no_writer =
    position-grips_in_none is_write readers owner (λ actor known. is_write-under readers owner actor no_writer)

-- the claimant does not read, so whoever reads has a bit
is_read-claimed : (readers owner actor : ℕ) → bit_at readers owner ≡ 0 → (bit_at readers actor ≡ 1 → is_read (grip_under readers (Claimant owner) actor) ≡ true) × (bit_at readers actor ≡ 0 → is_read (grip_under readers (Claimant owner) actor) ≡ false)
is_read-claimed readers owner actor clear =
    ⊎_elim
    (λ same. (λ one. absurd (let e = ap (bit_at readers) same in omega arith), λ zero. ap (λ k. is_read (grip_under readers (Claimant owner) k)) same ∙ ap is_read (grip_under-claimant readers owner)))
    (λ apart.
    let under = grip_under-other readers (Claimant owner) actor (λ same. apart cc) in
    (λ one. rw (under, reader_grip-one readers actor one) refl, λ zero. rw (under, reader_grip-zero readers actor zero) refl))
    (cases_eq actor owner)

-- where no bit is set, nobody reads
pub is_read-none : (readers owner : ℕ) → readers ≡ 0 → position is_read (grips_in readers (Claimant owner)) ≡ None
is_read-none readers owner none =
    position-grips_in_none is_read readers (Claimant owner)
    (λ actor known.
    let clear : (k : ℕ) → bit_at readers k ≡ 0 = λ k. rw none (bit_at-zero k) in
    (is_read-claimed readers owner actor (clear owner)).1 (clear actor))

-- the lowest bit is that of the first reader
pub is_read-lowest : (readers owner : ℕ) → 0 < readers → readers < 2 ^ 32 → bit_at readers owner ≡ 0 → position is_read (grips_in readers (Claimant owner)) ≡ Some (trailing_zeros w32 readers)
is_read-lowest readers owner some fits clear =
    let lowest = bit_at-trailing_zeros w32 readers some fits in
    position-grips_in is_read readers (Claimant owner) (trailing_zeros w32 readers) lowest.0
    ((is_read-claimed readers owner (trailing_zeros w32 readers) clear).0 lowest.1)
    (λ lower below. (is_read-claimed readers owner lower clear).1 (lowest.2 lower below))

-- who reads has a bit, whoever owns the node
is_read-bit : (readers : ℕ) (owner : Owner) (actor : ℕ) → IsSound readers owner → (bit_at readers actor ≡ 1 → is_read (grip_under readers owner actor) ≡ true) × (bit_at readers actor ≡ 0 → is_read (grip_under readers owner actor) ≡ false)
is_read-bit readers Nobody actor sound = (λ one. ap is_read (reader_grip-one readers actor one), λ zero. ap is_read (reader_grip-zero readers actor zero))
is_read-bit readers (Claimant owner) actor sound = is_read-claimed readers owner actor sound.1
is_read-bit readers (Writer owner) actor sound = (
  λ one. absurd (let zero = ap (λ r. bit_at r actor) sound.1 ∙ bit_at-zero actor in omega arith),
  λ zero.
      ⊎_elim
      (λ (same : owner ≡ actor). ap (λ k. is_read (grip_under readers (Writer owner) k)) (sym same) ∙ ap is_read (grip_under-writer readers owner))
      (λ apart. ap is_read (grip_under-other readers (Writer owner) actor (λ same. apart cc) ∙ reader_grip-zero readers actor zero))
      (cases_eq owner actor),
)

pub first_reader_none : (readers : ℕ) (owner : Owner) → IsSound readers owner → readers ≡ 0 → position is_read (grips_in readers owner) ≡ None
first_reader_none readers owner sound none =
    position-grips_in_none is_read readers owner
    (λ actor known. (is_read-bit readers owner actor sound).1 (ap (λ r. bit_at r actor) none ∙ bit_at-zero actor))

pub first_reader_lowest : (readers : ℕ) (owner : Owner) → IsSound readers owner → 0 < readers → readers < 2 ^ 32 → position is_read (grips_in readers owner) ≡ Some (trailing_zeros w32 readers)
first_reader_lowest readers owner sound some fits =
    let lowest = bit_at-trailing_zeros w32 readers some fits in
    position-grips_in is_read readers owner (trailing_zeros w32 readers) lowest.0
    ((is_read-bit readers owner (trailing_zeros w32 readers) sound).0 lowest.1)
    (λ lower below. (is_read-bit readers owner lower sound).1 (lowest.2 lower below))

pub claimant_is : (readers : ℕ) (owner : Owner) → IsSound readers owner → owner_of owner ≡ position may_write (grips_in readers owner)
claimant_is readers Nobody sound = sym (may_write-nobody readers Nobody refl)
claimant_is readers (Claimant owner) sound = sym (may_write-owner readers (Claimant owner) owner sound refl)
claimant_is readers (Writer owner) sound = sym (may_write-owner readers (Writer owner) owner sound refl)

-- ---- the rules

may_write-is_owner : (readers : ℕ) (owner : Owner) (actor : ℕ) → may_write (grip_under readers owner actor) ≡ true → owner_of owner ≡ Some actor
may_write-is_owner readers Nobody actor may = absurd (true≢false (sym may ∙ may_write-reader readers actor))
may_write-is_owner readers (Claimant owner) actor may =
    ⊎_elim (λ same. ap Some (sym same))
    (λ apart. absurd (true≢false (sym may ∙ ap may_write (grip_under-other readers (Claimant owner) actor (λ same. apart cc)) ∙ may_write-reader readers actor)))
    (cases_eq actor owner)
may_write-is_owner readers (Writer owner) actor may =
    ⊎_elim (λ same. ap Some (sym same))
    (λ apart. absurd (true≢false (sym may ∙ ap may_write (grip_under-other readers (Writer owner) actor (λ same. apart cc)) ∙ may_write-reader readers actor)))
    (cases_eq actor owner)

-- an actor that writes is the writer, and one that claims the claimant
is_writer : (readers : ℕ) (owner : Owner) (actor : ℕ) → grip_under readers owner actor ≡ Write → owner ≡ Writer actor
is_writer readers owner actor writes = by_owner owner (may_write-is_owner readers owner actor (ap may_write writes)) writes where
  by_owner : (o : Owner) → owner_of o ≡ Some actor → grip_under readers o actor ≡ Write → o ≡ Writer actor
  by_owner Nobody is writes = cc
  by_owner (Claimant owner) is writes =
      let same : owner ≡ actor = cc in
      let claims : grip_under readers (Claimant actor) actor ≡ Write = rw same at writes in
      let claim = grip_under-claimant readers actor in
      cc
  by_owner (Writer owner) is writes = cc

is_claimant : (readers : ℕ) (owner : Owner) (actor : ℕ) → grip_under readers owner actor ≡ Claim → owner ≡ Claimant actor
is_claimant readers owner actor claims = by_owner owner (may_write-is_owner readers owner actor (ap may_write claims)) claims where
  by_owner : (o : Owner) → owner_of o ≡ Some actor → grip_under readers o actor ≡ Claim → o ≡ Claimant actor
  by_owner Nobody is claims = cc
  by_owner (Claimant owner) is claims = cc
  by_owner (Writer owner) is claims =
      let same : owner ≡ actor = cc in
      let writes : grip_under readers (Writer actor) actor ≡ Claim = rw same at claims in
      let write = grip_under-writer readers actor in
      cc

-- an actor of the list, or a number past the last, which has nothing
grip_in-cases : (readers : ℕ) (owner : Owner) (actor : ℕ) → (grip_in (grips_in readers owner) actor ≡ grip_under readers owner actor) ⊎ (grip_in (grips_in readers owner) actor ≡ Free)
grip_in-cases readers owner actor =
    ⊎_elim
    (λ known. inl (get_or-grips_in readers owner actor Free known))
    (λ past. inr (get_or_past (grips_in readers owner) actor Free (omega (arith, length-grips_in readers owner))))
    (cases_lt actor ACTORS)

-- beside a writer nobody has anything
beside_writer : (readers : ℕ) (owner : Owner) (actor other : ℕ) → IsSound readers owner → owner ≡ Writer actor → actor ≢ other → grip_under readers owner other ≡ Free
beside_writer readers Nobody actor other sound is apart = cc
beside_writer readers (Claimant owner) actor other sound is apart = cc
beside_writer readers (Writer owner) actor other sound is apart =
    let clear : bit_at readers other ≡ 0 = rw sound.1 (bit_at-zero other) in
    grip_under-other readers (Writer owner) other (λ same. apart cc) ∙ reader_grip-zero readers other clear

pub IsLatched-grips_in : (readers : ℕ) (owner : Owner) → IsSound readers owner → IsLatched (grips_in readers owner)
IsLatched-grips_in readers owner sound =
    let owns : (actor : ℕ) → may_write (grip_in (grips_in readers owner) actor) ≡ true → owner_of owner ≡ Some actor = λ actor may.
    ⊎_elim
    (λ under. may_write-is_owner readers owner actor (sym (ap may_write under) ∙ may))
    (λ free. absurd (true≢false (sym may ∙ ap may_write free)))
    (grip_in-cases readers owner actor) in
    record {
      actors = length-grips_in readers owner;
      one_claim = λ actor other may may_too.
          let is = owns actor may in
          let is_too = owns other may_too in
          cc;
      write_alone = λ actor other apart writes.
          let writer : owner ≡ Writer actor =
          ⊎_elim (λ under. is_writer readers owner actor (sym under ∙ writes)) (λ free. cc) (grip_in-cases readers owner actor) in
          ⊎_elim (λ under. under ∙ beside_writer readers owner actor other sound writer apart) (λ free. free) (grip_in-cases readers owner other);
    }

-- ---- what a call leaves

abbrev pub with_reader : ℕ → ℕ → ℕ
with_reader readers actor = bit_or readers (1 * 2 ^ actor % 2 ^ 32)

abbrev pub without_reader : ℕ → ℕ → ℕ
without_reader readers actor = bit_and readers (2 ^ 32 - 1 - 1 * 2 ^ actor % 2 ^ 32)

-- a grip is that of the bits and the owner
grip_under-from : (readers : ℕ) (owner : Owner) (actor : ℕ) (grip : Grip) → actor < ACTORS → slice_get (grips_in readers owner) actor ≡ Some grip → grip_under readers owner actor ≡ grip
grip_under-from readers owner actor grip known has =
    let is = slice_get-grips_in readers owner actor known in
    cc

-- an actor that has nothing is not the owner, and its bit is not set
free_is_no_owner : (readers : ℕ) (owner : Owner) (actor : ℕ) → grip_under readers owner actor ≡ Free → owner_of owner ≢ Some actor
free_is_no_owner readers owner actor free is =
    let may = may_write-under_owner readers owner actor is in
    true≢false (sym may ∙ ap may_write free)

grip_under-same_bit : (readers readers' : ℕ) (owner : Owner) (actor : ℕ) → bit_at readers' actor ≡ bit_at readers actor → grip_under readers' owner actor ≡ grip_under readers owner actor
grip_under-same_bit readers readers' Nobody actor same = rw same refl
grip_under-same_bit readers readers' (Claimant owner) actor same = rw same refl
grip_under-same_bit readers readers' (Writer owner) actor same = rw same refl

pub grips_in-read : (readers : ℕ) (owner : Owner) (actor : ℕ) → actor < ACTORS → slice_get (grips_in readers owner) actor ≡ Some Free → grips_in (with_reader readers actor) owner ≡ set (grips_in readers owner) actor Read
grips_in-read readers owner actor known free =
    grips_in-set readers (with_reader readers actor) owner owner actor Read known
    (grip_under-other (with_reader readers actor) owner actor (free_is_no_owner readers owner actor (grip_under-from readers owner actor Free known free)) ∙ reader_grip-one (with_reader readers actor) actor (bit_at_set_same w32 readers actor known))
    (λ other among apart. grip_under-same_bit readers (with_reader readers actor) owner other (bit_at_set_other w32 readers actor known other apart))

pub IsSound-read : (readers : ℕ) (owner : Owner) (actor : ℕ) → actor < ACTORS → IsSound readers owner → slice_get (grips_in readers owner) actor ≡ Some Free → ((writer : ℕ) → owner ≢ Writer writer) → IsSound (with_reader readers actor) owner
IsSound-read readers Nobody actor known sound free no_writer = tt
IsSound-read readers (Claimant owner) actor known sound free no_writer =
    let other : owner ≢ actor = λ same. free_is_no_owner readers (Claimant owner) actor (grip_under-from readers (Claimant owner) actor Free known free) cc in
    (sound.0, bit_at_set_other w32 readers actor known owner other ∙ sound.1)
IsSound-read readers (Writer owner) actor known sound free no_writer = absurd (no_writer owner refl)

pub grips_in-claim : (readers : ℕ) (owner : Owner) (actor : ℕ) → actor < ACTORS → owner_of owner ≡ None → grips_in readers (Claimant actor) ≡ set (grips_in readers owner) actor Claim
grips_in-claim readers owner actor known none =
    grips_in-set readers readers owner (Claimant actor) actor Claim known (grip_under-claimant readers actor)
    (λ other among apart.
    grip_under-other readers (Claimant actor) other (λ same. apart cc) ∙ sym (grip_under-other readers owner other (λ same. cc)))

pub IsSound-claim : (readers : ℕ) (owner : Owner) (actor : ℕ) → actor < ACTORS → slice_get (grips_in readers owner) actor ≡ Some Free → IsSound readers (Claimant actor)
IsSound-claim readers owner actor known free =
    let under = grip_under-from readers owner actor Free known free in
    let reader = grip_under-other readers owner actor (free_is_no_owner readers owner actor under) in (
      known,
      ⊎_elim
          (λ one. let reads = reader_grip-one readers actor one in cc)
          (λ other. let small = bit_at-lt readers actor in omega arith)
          (cases_eq (bit_at readers actor) 1),
    )

-- the actor of a claim is the claimant
pub claimant_from : (readers : ℕ) (owner : Owner) (actor : ℕ) → actor < ACTORS → slice_get (grips_in readers owner) actor ≡ Some Claim → owner ≡ Claimant actor
claimant_from readers owner actor known claimed =
    is_claimant readers owner actor (grip_under-from readers owner actor Claim known claimed)

pub grips_in-lock : (readers actor : ℕ) → actor < ACTORS → grips_in readers (Writer actor) ≡ set (grips_in readers (Claimant actor)) actor Write
grips_in-lock readers actor known =
    grips_in-set readers readers (Claimant actor) (Writer actor) actor Write known (grip_under-writer readers actor)
    (λ other among apart.
    grip_under-other readers (Writer actor) other (λ same. apart cc) ∙ sym (grip_under-other readers (Claimant actor) other (λ same. apart cc)))

-- an actor that is not the owner leaves
pub grips_in-leave : (readers : ℕ) (owner : Owner) (actor : ℕ) → actor < ACTORS → owner_of owner ≢ Some actor → grips_in (without_reader readers actor) owner ≡ set (grips_in readers owner) actor Free
grips_in-leave readers owner actor known other =
    grips_in-set readers (without_reader readers actor) owner owner actor Free known
    (grip_under-other (without_reader readers actor) owner actor other ∙ reader_grip-zero (without_reader readers actor) actor (bit_at_clear_same w32 readers actor known))
    (λ k among apart. grip_under-same_bit readers (without_reader readers actor) owner k (bit_at_clear_other w32 readers actor known k among apart))

pub IsSound-leave : (readers : ℕ) (owner : Owner) (actor : ℕ) → actor < ACTORS → IsSound readers owner → owner_of owner ≢ Some actor → IsSound (without_reader readers actor) owner
IsSound-leave readers Nobody actor known sound other = tt
IsSound-leave readers (Claimant owner) actor known sound other =
    (sound.0, bit_at_clear_other w32 readers actor known owner sound.0 (λ same. other cc) ∙ sound.1)
IsSound-leave readers (Writer owner) actor known sound other =
    (sound.0, rw sound.1 refl)

-- the owner leaves
pub grips_in-leave_owner : (readers : ℕ) (owner : Owner) (actor : ℕ) → actor < ACTORS → owner_of owner ≡ Some actor → grips_in (without_reader readers actor) Nobody ≡ set (grips_in readers owner) actor Free
grips_in-leave_owner readers owner actor known is =
    grips_in-set readers (without_reader readers actor) owner Nobody actor Free known
    (reader_grip-zero (without_reader readers actor) actor (bit_at_clear_same w32 readers actor known))
    (λ k among apart.
    grip_under-same_bit readers (without_reader readers actor) Nobody k (bit_at_clear_other w32 readers actor known k among apart)
    ∙ sym (grip_under-other readers owner k (λ same. apart cc)))

-- where nobody owns a node and no bit is set, nobody has anything
pub grips_in-nobody : grips_in 0 Nobody ≡ nobody
unfolding nobody
grips_in-nobody =
    same_lists (grips_in 0 Nobody) (replicate ACTORS Free) (length-grips_in 0 Nobody ∙ sym (length-replicate ACTORS Free))
    (λ k d within.
    let known : k < ACTORS = omega (arith, length-grips_in 0 Nobody) in
    get_or-grips_in 0 Nobody k d known ∙ reader_grip-zero 0 k (bit_at-zero k) ∙ sym (get_or-replicate ACTORS k Free d known))
