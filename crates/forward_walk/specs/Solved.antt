-- Walks in a network whose routers have nothing more to tell each other.
use Rattle.std.specs.Prelude.{ℕ, ◌≡◌, ◌<◌, List, length, Option, Some, None, IsSome}
use Rattle.bgp_types.specs.Prefixes.{PrefixValue}
use Rattle.bgp_types.specs.declared.rank.From.{From}
use Rattle.bgp_types.specs.declared.rank.From.TheVariants.{Own, Peering, Router}
use Rattle.graft_edge.specs.declared.ids.RouterId.{RouterId}
use Rattle.forward_walk.specs.declared.walk.Walk.{Walk}
use Rattle.forward_walk.specs.declared.walk.Walk.TheVariants.{Leaves, Local, NoRoute, Loop}
use Rattle.forward_walk.specs.Tables.{ForwardMap, forward_map_of, from_at}
use Rattle.forward_walk.specs.Walks.{HasEntry, HasNoEntryFor}

-- there is an entry, and its source is the router's own network or a remote
abbrev pub IsExit : Option From → Type 0
IsExit None = ⊥
IsExit (Some Own) = Unit {0}
IsExit (Some (Peering _)) = Unit {0}
IsExit (Some (Router _)) = ⊥

-- The tables of a solved network. A router tells each other router those of its best routes that are its own or from a remote, and none that it has
-- from another router (RFC 4271, section 9.2). So a router has an entry from router q only if q's best route to that prefix is q's own or from a
-- remote, and q is then another router (`told`). And if a router's best route is its own or from a remote, each other router hears it, and so has
-- some best route to that prefix (`heard`).
pub record AreSolved (tables : List ForwardMap) : Type 0 where
  pub told : (r q : RouterId) (p : PrefixValue) → from_at tables r p ≡ Some (Router q) → IsExit (from_at tables q p)
  pub heard : (q r : RouterId) (p : PrefixValue) → IsExit (from_at tables q p) → r.0 < length tables → IsSome (from_at tables r p)

-- a router forwards packets to the address to another router
abbrev pub PassesTo : List ForwardMap → ℕ → RouterId → RouterId → Type 0
PassesTo tables address r q = (p : PrefixValue) × HasEntry (forward_map_of tables r) address p (Router q)

-- what the end of a walk that began at `from` implies in a solved network
abbrev pub EndsAs : List ForwardMap → ℕ → RouterId → Walk → Type 0
-- it leaves, or is local, by the last router's own entry for the address
EndsAs tables address from (Leaves r peering p) = HasEntry (forward_map_of tables r) address p (Peering peering)
EndsAs tables address from (Local r p) = HasEntry (forward_map_of tables r) address p Own
-- it finds no route only at the first router, and only if no router has one
EndsAs tables address from (NoRoute r) = (r ≡ from) × ((q : RouterId) → HasNoEntryFor (forward_map_of tables q) address)
-- it doesn't reach a router again
EndsAs tables address from (Loop r) = ⊥

-- A walk in a solved network. All routers have the same prefixes there, so the longest that covers the address is the same at each; and a router that
-- has it from another router has it from one that has it from no router.
pub record TwoRoutersAtMost (tables : List ForwardMap) (address : ℕ) (from : RouterId) (walk : Walk) : Type 0 where
  -- what the first router forwards, the second doesn't
  pub two : (q r : RouterId) → PassesTo tables address from q → ¬ (PassesTo tables address q r)
  pub ends : EndsAs tables address from walk
  -- it finds no route if no router has one
  pub no_route : ((q : RouterId) → HasNoEntryFor (forward_map_of tables q) address) → walk ≡ NoRoute from
