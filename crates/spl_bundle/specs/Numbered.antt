-- What a contract sees of a queue of numbered bundles.
use Rattle.std.specs.Prelude.{ℕ, nat_eq, Bool, false, if◌then◌else◌, ◌+◌, ◌-◌, ◌<◌, ◌≤◌, ◌^◌, max, List, [], ◌∷◌, ◌++◌, Option, Some, None, length, map, flat_map, take, drop, replicate, slice_index_or, All}
use Rattle.std.specs.Option.{option_to_list}
use Rattle.spl_bundle.specs.declared.bundles.TheConstants.{MAX_LISTS, MAX_BRANCHES}

-- a list of branches, and the actor whose mark it carries, where it carries one
pub record Bundle : Type 0 where
  pub branches : List ℕ
  pub owner : Option ℕ

-- the bundles, oldest first, and the number of the first of them
pub record Numbered : Type 0 where
  pub first : ℕ
  pub bundles : List Bundle

-- the list, without a mark
abbrev pub unmarked : List ℕ → Bundle
unmarked list = record { branches = list; owner = None }

-- the number that the next bundle gets
abbrev pub next_of : Numbered → ℕ
next_of queue = queue.first + length queue.bundles

-- the bundle with this number
abbrev pub bundle_at : Numbered → ℕ → Bundle
bundle_at queue number = slice_index_or queue.bundles (number - queue.first) (unmarked [])

-- the branches of all bundles, one bundle after the other
abbrev pub joined : List Bundle → List ℕ
joined bundles = flat_map (λ bundle. bundle.branches) bundles

-- the branches of the bundles from a mark on, oldest first
abbrev pub live : Numbered → ℕ → List ℕ
live queue mark = joined (drop (mark - queue.first) queue.bundles)

-- every branch that the queue names, as often as it names it
abbrev pub names : Numbered → List ℕ
names queue = joined queue.bundles

-- one more list at the end
abbrev pub pushed : Numbered → List ℕ → Numbered
pushed queue list = record queue { bundles = queue.bundles ++ unmarked list ∷ [] }

-- without the bundles below this number
abbrev pub dropped_below : Numbered → ℕ → Numbered
dropped_below queue number =
    record { first = max queue.first number; bundles = drop (number - queue.first) queue.bundles }

-- the bundle `last` holds the output alone or nothing, the others from `first` on are empty, and none of them has a mark
abbrev pub merged : Numbered → ℕ → ℕ → Option ℕ → Numbered
merged queue first last output = record queue {
  bundles = take (first - queue.first) queue.bundles ++ replicate (last - max first queue.first) (unmarked []) ++ unmarked (option_to_list output) ∷ drop (last + 1 - queue.first) queue.bundles;
}

-- the bundle with this owner, or with none
abbrev pub owned_by : Option ℕ → Bundle → Bundle
owned_by owner bundle = record bundle { owner = owner }

-- the bundles from `first` up to `last` have this owner, or none
abbrev pub marked : Numbered → ℕ → ℕ → Option ℕ → Numbered
marked queue first last owner = record queue {
  bundles = take (first - queue.first) queue.bundles ++ map (owned_by owner) (take (last + 1 - max first queue.first) (drop (first - queue.first) queue.bundles)) ++ drop (last + 1 - queue.first) queue.bundles;
}

-- whether the mark is the actor's
abbrev pub is_mark_of : ℕ → Option ℕ → Bool
is_mark_of actor None = false
is_mark_of actor (Some other) = nat_eq other actor

-- the bundle without a mark of the actor
abbrev pub without_mark : ℕ → Bundle → Bundle
without_mark actor bundle = record bundle { owner = (if is_mark_of actor bundle.owner then None else bundle.owner) }

-- no bundle has a mark of the actor
abbrev pub released : Numbered → ℕ → Numbered
released queue actor = record queue { bundles = map (without_mark actor) queue.bundles }

-- what always holds: the limits, and that every number fits a `u64`
pub record IsWithinLimits (queue : Numbered) : Type 0 where
  pub lists : length queue.bundles ≤ MAX_LISTS
  pub branches : All (λ bundle. length bundle.branches ≤ MAX_BRANCHES) queue.bundles
  pub numbers : next_of queue < 2 ^ 64
