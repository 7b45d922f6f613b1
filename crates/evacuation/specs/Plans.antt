-- Which routers take the peerings of a router that is evacuated. The routers are the numbers below the length of two lists: each router's load, which
-- is how many peerings it holds, and its room, which is how many it may hold.
use Rattle.std.specs.Prelude.{◌≡◌, ◌≢◌, ◌⊎◌, ℕ, zero, suc, ◌+◌, ◌-◌, ◌<◌, ◌≤◌, ◌==◌, ◌&&◌, not, nat_lt}
use Rattle.std.specs.Prelude.{nat_le, Bool, false, if◌then◌else◌, List, [], ◌∷◌, length}
use Rattle.std.specs.Prelude.{Option, Some, None, is_some, count_by, sum_by, filter, slice_index, slice_set}
use Rattle.std.specs.List.{range_with_len}
use Rattle.std.specs.Option.{option_map}
use Rattle.graft_edge.specs.declared.ids.RouterId.{RouterId}

-- for each peering in order, the router that it goes to, or none
abbrev pub TargetList : Type 0
TargetList = List (Option RouterId)

-- A router other than `from` has a load below its room.
pub record IsFree (loads rooms : List ℕ) (from r : ℕ) : Type 0 where
  pub in_range : r < length loads
  pub other : r ≢ from
  pub below_room : slice_index loads r < slice_index rooms r

-- A router has less load than another, or the same load and the lower number.
abbrev pub IsLessLoaded : List ℕ → ℕ → ℕ → Type 0
IsLessLoaded loads r q = (slice_index loads r < slice_index loads q) ⊎ ((slice_index loads r ≡ slice_index loads q) × (r < q))

-- Of the routers other than `from` whose load is below their room, this one has the least load, and of several with that load the lowest number.
pub record IsLeastLoaded (loads rooms : List ℕ) (from r : ℕ) : Type 0 where
  pub free : IsFree loads rooms from r
  pub least : (q : ℕ) → IsFree loads rooms from q → q ≢ r → IsLessLoaded loads r q

-- No router other than `from` has a load below its room.
abbrev pub IsFull : List ℕ → List ℕ → ℕ → Type 0
IsFull loads rooms from = (r : ℕ) → ¬ IsFree loads rooms from r

-- the loads with one more at a router
abbrev pub one_more_load : List ℕ → ℕ → List ℕ
one_more_load loads r = slice_set loads r (slice_index loads r + 1)

-- Each of `count` peerings in turn goes to the router other than `from` whose load, with the peerings already given, is least among those below their
-- room, the lowest number first. It has no target if there is no such router.
pub data Plan (rooms : List ℕ) (from : ℕ) : List ℕ → ℕ → TargetList → Type 0 where
  Done : {loads : List ℕ} → Plan rooms from loads 0 []
  Given : {loads : List ℕ} {count : ℕ} {targets : TargetList} (r : RouterId) → IsLeastLoaded loads rooms from r.0
      → Plan rooms from (one_more_load loads r.0) count targets → Plan rooms from loads (suc count) (Some r ∷ targets)
  NotGiven : {loads : List ℕ} {count : ℕ} {targets : TargetList} → IsFull loads rooms from
      → Plan rooms from loads count targets → Plan rooms from loads (suc count) (None ∷ targets)

-- the routers other than `from` whose load is below their room
abbrev pub free_routers : List ℕ → List ℕ → ℕ → List ℕ
free_routers loads rooms from = filter (λ r. not (r == from) && nat_lt (slice_index loads r) (slice_index rooms r)) (range_with_len 0 (length loads))

-- of a router and another one after it, the one with less load, or the first
abbrev pub lesser : List ℕ → ℕ → Option ℕ → Option ℕ
lesser loads r None = Some r
lesser loads r (Some q) = if nat_le (slice_index loads r) (slice_index loads q) then Some r else Some q

-- the first of some routers with the least load
abbrev pub least_of : List ℕ → List ℕ → Option ℕ
least_of loads [] = None
least_of loads (r ∷ routers) = lesser loads r (least_of loads routers)

-- the router that the next peering goes to, if there is one
abbrev pub next_router : List ℕ → ℕ → List ℕ → Option ℕ
next_router rooms from loads = least_of loads (free_routers loads rooms from)

-- the loads once a peering is given
abbrev pub loads_with : Option ℕ → List ℕ → List ℕ
loads_with None loads = loads
loads_with (Some r) loads = one_more_load loads r

-- the plan, as a list
abbrev pub plan_for : List ℕ → ℕ → List ℕ → ℕ → TargetList
plan_for rooms from loads zero = []
plan_for rooms from loads (suc count) =
    option_map (λ r. record { 0 = r }) (next_router rooms from loads) ∷ plan_for rooms from (loads_with (next_router rooms from loads) loads) count

-- whether a target is this router
abbrev pub is_router : ℕ → Option RouterId → Bool
is_router r None = false
is_router r (Some target) = target.0 == r

-- how many of the peerings are given to a router
abbrev pub times_given : ℕ → TargetList → ℕ
times_given r targets = count_by (is_router r) targets

-- how many of the peerings are given
abbrev pub number_given : TargetList → ℕ
number_given targets = count_by is_some targets

-- a router's load with the peerings that it is given
abbrev pub load_after : List ℕ → TargetList → ℕ → ℕ
load_after loads targets r = slice_index loads r + times_given r targets

-- A router that is given peerings is in the list, isn't `from`, and doesn't exceed its room with them.
pub record IsGivenRoom (loads rooms : List ℕ) (from : ℕ) (targets : TargetList) (r : ℕ) : Type 0 where
  pub in_range : r < length loads
  pub other : r ≢ from
  pub within_room : load_after loads targets r ≤ slice_index rooms r

-- Each router that is given a peering has room for what it is given, and none is given to `from`.
abbrev pub KeepsRooms : List ℕ → List ℕ → ℕ → TargetList → Type 0
KeepsRooms loads rooms from targets = (r : ℕ) → 0 < times_given r targets → IsGivenRoom loads rooms from targets r

-- the free places of a router: its room minus its load, and none at `from`
abbrev pub free_places_at : List ℕ → List ℕ → ℕ → ℕ → ℕ
free_places_at loads rooms from r = if r == from then 0 else slice_index rooms r - slice_index loads r

-- the free places of the routers other than `from`
abbrev pub free_places : List ℕ → List ℕ → ℕ → ℕ
free_places loads rooms from = sum_by (free_places_at loads rooms from) (range_with_len 0 (length loads))

-- A way to give each of `count` peerings to a router other than `from` such that no router exceeds its room.
pub record GivesAll (loads rooms : List ℕ) (from count : ℕ) (targets : TargetList) : Type 0 where
  pub number : length targets ≡ count
  pub all : number_given targets ≡ count
  pub rooms_kept : KeepsRooms loads rooms from targets

-- With the peerings that they are given, the routers other than `from` have at most this load.
abbrev pub AreAtMost : ℕ → List ℕ → ℕ → TargetList → Type 0
AreAtMost most loads from targets = (r : ℕ) → r < length loads → r ≢ from → load_after loads targets r ≤ most
