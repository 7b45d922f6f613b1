-- Sets of prefixes that are due to be told.
use Rattle.std.specs.Prelude.{ℕ, ◌≡◌, ◌<◌, ◌≤◌, ◌||◌, Bool, List, length, is_some}
use Rattle.std.specs.FinMap as map
use Rattle.std.specs.List.{list_any}
use Rattle.bgp_types.specs.Prefixes.{PrefixValue, same_prefix}
use Rattle.bgp_story.specs.Readings.{Routes}
use Rattle.session_value.specs.Sets.{BestRoutes, Prefixes, has}
use Rattle.rib_stages.specs.Values.{table_at}
use Rattle.graft_model.specs.Sets.{Adds}
use Rattle.graft_model.specs.TableRows.{only_prefix}

pub record AddsAll (before : Prefixes) (prefixes : List PrefixValue) (after : Prefixes) : Type 0 where
  pub members : (x : PrefixValue) → has after x ≡ (has before x || list_any (same_prefix x) prefixes)

-- what has a best route is due
pub record IsDueBest (best : BestRoutes) (due : Prefixes) : Type 0 where
  pub members : (x : PrefixValue) → has due x ≡ is_some (map.get best x)

-- what was told or has a best route is due
pub record IsDueAgain (adj_rib_out : Routes) (best : BestRoutes) (due : Prefixes) : Type 0 where
  pub members : (x : PrefixValue) → has due x ≡ (is_some (map.get adj_rib_out x) || is_some (map.get best x))

-- A prefix is added to those of the first n sets whose number passes the test.
pub record AddsBelow (n : ℕ) (test : ℕ → Bool) (prefix : PrefixValue) (before after : List Prefixes) : Type 0 where
  pub size : length after ≡ length before
  pub below : (k : ℕ) → k < n → Adds (table_at before k) (only_prefix prefix (test k)) (table_at after k)
  pub from : (k : ℕ) → n ≤ k → table_at after k ≡ table_at before k
