-- The ranks of the routes to each prefix, as a Rib keeps them.
use Rattle.std.specs.Prelude.{ℕ, ◌≡◌, ◌≢◌, ◌≤◌, ◌⊎◌, true, false, List, [], Option, Some, None, option_map, unwrap_or, if◌then◌else◌}
use Rattle.std.specs.List.{list_any}
use Rattle.std.specs.FinMap as map
use Rattle.bgp_types.specs.Prefixes.{PrefixValue, same_prefix}
use Rattle.bgp_types.specs.Tables.{prefix_cmp}
use Rattle.bgp_types.specs.declared.attrs.Route.{Route}
use Rattle.bgp_types.specs.declared.rank.From.{From}
use Rattle.bgp_types.specs.declared.rank.From.TheVariants.{Own, Peering, Router}
use Rattle.bgp_types.specs.declared.rank.Rank.{Rank}
use Rattle.decision_groups.specs.Order.{RankedSource, rank_at}
use Rattle.route_policy.specs.Candidates.{own_rank, own_route, rank_of}
use Rattle.route_policy.specs.declared.entry.Entry.{Entry}
use Rattle.session_value.specs.Sets.{Entries, Prefixes, Tellings}
use Rattle.rib_stages.specs.declared.ranks.Choices.{Choices}
use Rattle.rib_stages.specs.Values.{RibValue, set_of}
use Rattle.rib_stages.specs.Choosing.{cost_to, identifier_of, has_network, IsDecided}

-- the ranks of each prefix that has routes
abbrev pub RankSets : Type 0
RankSets = map.FinMap prefix_cmp (List RankedSource)

abbrev pub ranks_at : RankSets → PrefixValue → List RankedSource
ranks_at sets prefix = unwrap_or (map.get sets prefix) []

-- ranks by prefix, with these for one prefix
abbrev pub ranks_with : (PrefixValue → List RankedSource) → PrefixValue → List RankedSource → PrefixValue → List RankedSource
ranks_with ranks prefix set q = if same_prefix q prefix then set else ranks q

-- One prefix has this rank from one source, or none. All else is unchanged.
pub record SetsRank (before : RankSets) (prefix : PrefixValue) (from : From) (rank : Option Rank) (after : RankSets) : Type 0 where
  pub there : rank_at (ranks_at after prefix) from ≡ rank
  pub others : (other : From) → other ≢ from → rank_at (ranks_at after prefix) other ≡ rank_at (ranks_at before prefix) other
  pub elsewhere : (q : PrefixValue) → q ≢ prefix → ranks_at after q ≡ ranks_at before q

-- One prefix has this rank from one source, or none, and is dirty. All else is unchanged.
pub record MarksRank (before : Choices) (prefix : PrefixValue) (from : From) (rank : Option Rank) (after : Choices) : Type 0 where
  pub ranks : SetsRank before.groups.contents prefix from rank after.groups.contents
  pub loc : after.loc ≡ record before.loc { dirty = map.insert before.loc.dirty prefix tt }

-- Nothing changes, except that the prefix may become dirty.
pub record MarksAtMost (before : Choices) (prefix : PrefixValue) (after : Choices) : Type 0 where
  pub ranks : ranks_at after.groups.contents ≡ ranks_at before.groups.contents
  pub loc : (after.loc ≡ before.loc) ⊎ (after.loc ≡ record before.loc { dirty = map.insert before.loc.dirty prefix tt })

-- the rank of an entry, and of a route that a router told
abbrev pub entry_rank : ℕ → Entry → Rank
entry_rank home_as entry = rank_of home_as true 0 entry.identifier entry.address entry.route

-- the rank of the route to a prefix from this source
abbrev pub rank_in : RibValue → PrefixValue → From → Option Rank
rank_in rib prefix Own = if has_network rib.config prefix then Some (own_rank rib.config.home_as) else None
rank_in rib prefix (Peering p) = option_map (entry_rank rib.config.home_as) (map.get (rib.entries p.0) prefix)
rank_in rib prefix (Router q) = option_map (rank_of rib.config.home_as false (cost_to rib.config q.0)
    (identifier_of rib.config q.0) (identifier_of rib.config q.0)) (map.get (rib.tellings q.0) prefix)

-- the route to a prefix from this source, where the own route is given separately
abbrev pub route_at : Route → (ℕ → Entries) → (ℕ → Tellings) → From → PrefixValue → Option Route
route_at own entries tellings Own prefix = Some own
route_at own entries tellings (Peering p) prefix = option_map (λ e. e.route) (map.get (entries p.0) prefix)
route_at own entries tellings (Router q) prefix = map.get (tellings q.0) prefix

-- What is kept beside the routes agrees with them: the ranks, the set of the own networks and their route. There is nothing at a number above those
-- of an octet, and a prefix that isn't dirty is decided.
pub record IsRib (rib : RibValue) (sets : RankSets) (own_set : Prefixes) (route : Route) : Type 0 where
  pub ranks : (prefix : PrefixValue) (from : From) → rank_at (ranks_at sets prefix) from ≡ rank_in rib prefix from
  pub entries : (p : ℕ) → 256 ≤ p → rib.entries p ≡ map.empty
  pub tellings : (q : ℕ) → 256 ≤ q → rib.tellings q ≡ map.empty
  pub networks : own_set ≡ set_of rib.config.networks
  pub own : route ≡ own_route
  pub decided : IsDecided rib

-- Each of these networks has this rank from the router itself, and there is no other rank.
pub record HasOwnRanks (rank : Rank) (networks : List PrefixValue) (sets : RankSets) : Type 0 where
  pub own : (prefix : PrefixValue) → rank_at (ranks_at sets prefix) Own ≡ (if list_any (same_prefix prefix) networks then Some rank else None)
  pub others : (prefix : PrefixValue) (from : From) → from ≢ Own → rank_at (ranks_at sets prefix) from ≡ None
