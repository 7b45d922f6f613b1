-- A walk is unique: a table has one entry for an address, or none.
use Rattle.std.proofs.Common.{ℕ, ◌≡◌, List, [], ◌∷◌, Some, refl, sym, ap, ◌∙◌, subst, arith}
use Rattle.std.specs.Prelude.{Contains}
use Rattle.std.specs.FinMap.{get}
use Rattle.bgp_types.specs.Prefixes.{PrefixValue, cleared}
use Rattle.bgp_types.specs.declared.rank.From.{From}
use Rattle.bgp_types.specs.declared.rank.From.TheVariants.{Own, Peering, Router}
use Rattle.graft_edge.specs.declared.ids.RouterId.{RouterId}
use Rattle.forward_walk.specs.declared.walk.Walk.{Walk}
use Rattle.forward_walk.specs.declared.walk.Walk.TheVariants.{Leaves, Local, NoRoute, Loop}
use Rattle.forward_walk.specs.Tables.{ForwardMap, forward_map_of}
use Rattle.forward_walk.specs.Walks.{LongestFor, HasEntry, HasNoEntryFor, WalksTo}
use Rattle.forward_walk.specs.Walks.WalksTo.{MetAgain, NoEntry, FromOwn, FromPeering, FromRouter}

-- two prefixes of one length that cover an address are one
pub one_longest : (table : ForwardMap) (address : ℕ) (p q : PrefixValue) → LongestFor table address (Some p) → LongestFor table address (Some q) → p ≡ q
one_longest table address p q a b =
    let most = a.longest q b.there b.covers in
    let least = b.longest p a.there a.covers in
    let len : p.len ≡ q.len = omega arith in
    let first : p.address ≡ q.address = sym a.covers.front ∙ (ap (λ (n : ℕ). cleared n (cleared 32 address)) len ∙ b.covers.front) in
    ap (λ (n : ℕ). record { address = n; len = p.len }) first ∙ ap (λ (n : ℕ). record { address = q.address; len = n }) len

module _ (tables : List ForwardMap) (address : ℕ) where
  pub not_both : (table : ForwardMap) (p : PrefixValue) (from : From) → HasNoEntryFor table address → HasEntry table address p from → ⊥
  not_both table p from none e = none.none p e.longest.there e.longest.covers

  -- how the walk goes on by an entry
  abbrev pub GoesBy : List RouterId → RouterId → PrefixValue → From → Walk → Type 0
  GoesBy met at p Own walk = walk ≡ Local at p
  GoesBy met at p (Peering peering) walk = walk ≡ Leaves at peering p
  GoesBy met at p (Router next) walk = WalksTo tables address (at ∷ met) next walk

  same_entry : (met : List RouterId) (at : RouterId) {p : PrefixValue} {from : From} (walk : Walk) (q : PrefixValue) (other : From) →
      HasEntry (forward_map_of tables at) address p from → HasEntry (forward_map_of tables at) address q other → GoesBy met at p from walk
      → GoesBy met at q other walk
  same_entry met at {p} {from} walk q other a b by =
      let one : p ≡ q = one_longest (forward_map_of tables at) address p q a.longest b.longest in
      let there : get (forward_map_of tables at) q ≡ Some from = ap (λ (x : PrefixValue). get (forward_map_of tables at) x) (sym one) ∙ a.entry in
      let same : from ≡ other = cc (there, b.entry) in
      subst (λ (f : From). GoesBy met at q f walk) same (subst (λ (x : PrefixValue). GoesBy met at x from walk) one by)

  pub at_again : {met : List RouterId} {at : RouterId} {walk : Walk} → Contains met at → WalksTo tables address met at walk → walk ≡ Loop at
  at_again m (MetAgain _) = refl
  at_again m (NoEntry n _) = absurd (n m)
  at_again m (FromOwn n _) = absurd (n m)
  at_again m (FromPeering n _) = absurd (n m)
  at_again m (FromRouter n _ _) = absurd (n m)

  pub at_none : {met : List RouterId} {at : RouterId} {walk : Walk} → ¬ (Contains met at) → HasNoEntryFor (forward_map_of tables at) address
      → WalksTo tables address met at walk → walk ≡ NoRoute at
  at_none n none (MetAgain m) = absurd (n m)
  at_none n none (NoEntry _ _) = refl
  at_none n none (FromOwn _ e) = absurd (not_both _ _ _ none e)
  at_none n none (FromPeering _ e) = absurd (not_both _ _ _ none e)
  at_none n none (FromRouter _ e _) = absurd (not_both _ _ _ none e)

  pub at_entry : {met : List RouterId} {at : RouterId} {walk : Walk} (p : PrefixValue) (from : From) →
      ¬ (Contains met at) → HasEntry (forward_map_of tables at) address p from → WalksTo tables address met at walk → GoesBy met at p from walk
  at_entry p from n e (MetAgain m) = absurd (n m)
  at_entry p from n e (NoEntry _ none) = absurd (not_both _ _ _ none e)
  at_entry {met} {at} {walk} p from n e (FromOwn _ f) = same_entry met at walk p from f e refl
  at_entry {met} {at} {walk} p from n e (FromPeering _ f) = same_entry met at walk p from f e refl
  at_entry {met} {at} {walk} p from n e (FromRouter _ f rest) = same_entry met at walk p from f e rest

  pub one_walk : {met : List RouterId} {at : RouterId} {walk other : Walk} → WalksTo tables address met at walk → WalksTo tables address met at other
      → other ≡ walk
  one_walk (MetAgain m) w = at_again m w
  one_walk (NoEntry n none) w = at_none n none w
  one_walk (FromOwn {p} n e) w = at_entry p Own n e w
  one_walk (FromPeering {p} {peering} n e) w = at_entry p (Peering peering) n e w
  one_walk (FromRouter {next} {p} n e rest) w = one_walk rest (at_entry p (Router next) n e w)

-- how a walk ends, and that it is the only one
pub record Answer (tables : List ForwardMap) (address : ℕ) (from : RouterId) (walk : Walk) : Type 0 where
  pub ends : WalksTo tables address [] from walk
  pub only : (other : Walk) → WalksTo tables address [] from other → other ≡ walk

pub answer : (tables : List ForwardMap) (address : ℕ) (from : RouterId) (walk : Walk) → WalksTo tables address [] from walk → Answer tables address from walk
answer tables address from walk ends = record { ends = ends; only = λ other w. one_walk tables address ends w }
