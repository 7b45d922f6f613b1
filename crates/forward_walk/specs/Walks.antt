-- The walk of a packet from router to router.
use Rattle.std.specs.Prelude.{ℕ, ◌≡◌, List, ◌∷◌, Contains, Option, Some, None, IsSome}
use Rattle.std.specs.FinMap.{get}
use Rattle.bgp_types.specs.Prefixes.{PrefixValue, prefix_of}
use Rattle.bgp_types.specs.declared.rank.From.{From}
use Rattle.bgp_types.specs.declared.rank.From.TheVariants.{Own, Peering, Router}
use Rattle.graft_edge.specs.declared.ids.RouterId.{RouterId}
use Rattle.graft_edge.specs.declared.ids.PeeringId.{PeeringId}
use Rattle.prefix_trie.specs.Longest.{LongestOf}
use Rattle.forward_walk.specs.declared.walk.Walk.{Walk}
use Rattle.forward_walk.specs.declared.walk.Walk.TheVariants.{Leaves, Local, NoRoute, Loop}
use Rattle.forward_walk.specs.Tables.{ForwardMap, forward_map_of}

-- the longest prefix of a table that covers an address, None if none does (RFC 1812, section 5.2.4.3)
abbrev pub LongestFor : ForwardMap → ℕ → Option PrefixValue → Type 0
LongestFor table address p = LongestOf (λ q. IsSome (get table q)) (prefix_of 32 address) p

-- the table's entry for the address
pub record HasEntry (table : ForwardMap) (address : ℕ) (p : PrefixValue) (from : From) : Type 0 where
  pub longest : LongestFor table address (Some p)
  pub entry : get table p ≡ Some from

-- the table has no entry for the address
abbrev pub HasNoEntryFor : ForwardMap → ℕ → Type 0
HasNoEntryFor table address = LongestFor table address None

-- how the walk of a packet to this address ends, which has visited these routers and is at this one
pub data WalksTo (tables : List ForwardMap) (address : ℕ) : List RouterId → RouterId → Walk → Type 0 where
  -- it was at this router before
  MetAgain : {met : List RouterId} {at : RouterId} → Contains met at → WalksTo tables address met at (Loop at)
  -- no prefix covers the address
  NoEntry : {met : List RouterId} {at : RouterId} → ¬ (Contains met at) → HasNoEntryFor (forward_map_of tables at) address
      → WalksTo tables address met at (NoRoute at)
  -- it is for a network of this router
  FromOwn : {met : List RouterId} {at : RouterId} {p : PrefixValue} → ¬ (Contains met at) → HasEntry (forward_map_of tables at) address p Own
      → WalksTo tables address met at (Local at p)
  -- it leaves over the peering that the route is from
  FromPeering : {met : List RouterId} {at : RouterId} {p : PrefixValue} {peering : PeeringId} → ¬ (Contains met at)
      → HasEntry (forward_map_of tables at) address p (Peering peering) → WalksTo tables address met at (Leaves at peering p)
  -- it goes on at the router that the route is from
  FromRouter : {met : List RouterId} {at next : RouterId} {p : PrefixValue} {walk : Walk} → ¬ (Contains met at)
      → HasEntry (forward_map_of tables at) address p (Router next) → WalksTo tables address (at ∷ met) next walk → WalksTo tables address met at walk
