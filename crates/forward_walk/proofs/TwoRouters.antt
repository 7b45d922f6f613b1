-- In a solved network a walk meets at most two routers: all routers have the same prefixes.
use Rattle.std.proofs.Common.{ℕ, ◌≡◌, ◌<◌, List, [], ◌∷◌, length, Option, Some, None, refl, sym, ap, ◌∙◌, subst, arith, inl, inr}
use Rattle.std.specs.Prelude.{Contains, IsSome}
use Rattle.std.specs.FinMap.{empty, get, get-empty}
use Rattle.std.proofs.lemmas.Bool.{cases_lt}
use Rattle.std.proofs.lemmas.List.{get_or_past}
use Rattle.bgp_types.specs.Prefixes.{PrefixValue}
use Rattle.bgp_types.specs.Tables.{prefix_cmp}
use Rattle.bgp_types.specs.declared.rank.From.{From}
use Rattle.bgp_types.specs.declared.rank.From.TheVariants.{Own, Peering, Router}
use Rattle.graft_edge.specs.declared.ids.RouterId.{RouterId}
use Rattle.forward_walk.specs.declared.walk.Walk.{Walk}
use Rattle.forward_walk.specs.Tables.{ForwardMap, forward_map_of, from_at}
use Rattle.forward_walk.specs.Walks.{HasEntry, LongestFor, WalksTo}
use Rattle.forward_walk.specs.Walks.WalksTo.{MetAgain, NoEntry, FromOwn, FromPeering, FromRouter}
use Rattle.forward_walk.specs.Solved.{IsExit, AreSolved, EndsAs, TwoRoutersAtMost}
use Rattle.forward_walk.proofs.OneWalk.{one_longest, at_none}
use Rattle.forward_walk.proofs.Visits.{alone}

some : (from : From) → IsSome (Some from)
some from = refl

-- a router that has an entry is one of the routers
in_range : (tables : List ForwardMap) (r : RouterId) (p : PrefixValue) → IsExit (from_at tables r p) → r.0 < length tables
in_range tables r p exit = elim (cases_lt r.0 (length tables)) [
  | inl lt ↦ lt
  | inr past ↦
      let none : from_at tables r p ≡ None = ap (λ (t : ForwardMap). get t p) (get_or_past tables r.0 empty past) ∙ get-empty prefix_cmp p in
      absurd (subst IsExit none exit)
]

module _ (tables : List ForwardMap) (address : ℕ) (solved : AreSolved tables) where
  -- each router has the prefixes that any has
  everywhere : (q r : RouterId) (p : PrefixValue) → IsSome (from_at tables q p) → r.0 < length tables → IsSome (from_at tables r p)
  everywhere q r p has lt = by_entry (from_at tables q p) refl has where
    by_entry : (o : Option From) → from_at tables q p ≡ o → IsSome o → IsSome (from_at tables r p)
    by_entry None _ k = absurd cc
    by_entry (Some Own) is _ = solved.heard q r p (subst IsExit (sym is) tt) lt
    by_entry (Some (Peering _)) is _ = solved.heard q r p (subst IsExit (sym is) tt) lt
    by_entry (Some (Router s)) is _ = solved.heard s r p (solved.told q s p is) lt

  -- the second router's entry for the address is for the same prefix, and from no router
  second : (r q : RouterId) (p : PrefixValue) → r.0 < length tables → HasEntry (forward_map_of tables r) address p (Router q)
      → LongestFor (forward_map_of tables q) address (Some p)
  second r q p lt e =
      let q_in = in_range tables q p (solved.told r q p e.entry) in
      record {
        there = everywhere r q p (ap_some e.entry) q_in;
        covers = e.longest.covers;
        longest = λ x has covers. e.longest.longest x (everywhere q r x has lt) covers;
      }
    where
      ap_some : from_at tables r p ≡ Some (Router q) → IsSome (from_at tables r p)
      ap_some is = subst (λ (o : Option From). IsSome o) (sym is) (some (Router q))

  -- an entry from a router for the longest prefix isn't one by which the router sends packets out itself
  no_exit : (q r : RouterId) (p x : PrefixValue) → LongestFor (forward_map_of tables q) address (Some p) → IsExit (from_at tables q p)
      → HasEntry (forward_map_of tables q) address x (Router r) → ⊥
  no_exit q r p x longest exit e =
      let one : x ≡ p = one_longest (forward_map_of tables q) address x p e.longest longest in
      subst IsExit (subst (λ (y : PrefixValue). from_at tables q y ≡ Some (Router r)) one e.entry) exit

  not_back : (r q : RouterId) (p : PrefixValue) → from_at tables r p ≡ Some (Router q) → Contains (r ∷ []) q → ⊥
  not_back r q p is k =
      let one : r ≡ q = alone r q k.0 k.1 k.2 in
      subst IsExit (subst (λ (s : RouterId). from_at tables s p ≡ Some (Router q)) one is) (solved.told r q p is)

  module _ (from : RouterId) (lt : from.0 < length tables) where
    second_ends : {met : List RouterId} {q : RouterId} {walk : Walk} (p : PrefixValue) → LongestFor (forward_map_of tables q) address (Some p)
        → IsExit (from_at tables q p) → ¬ (Contains met q) →
        WalksTo tables address met q walk → EndsAs tables address from walk
    second_ends p longest exit anew (MetAgain m) = absurd (anew m)
    second_ends p longest exit anew (NoEntry _ none) = absurd (none.none p longest.there longest.covers)
    second_ends p longest exit anew (FromOwn _ e) = e
    second_ends p longest exit anew (FromPeering _ e) = e
    second_ends p longest exit anew (FromRouter _ e _) = absurd (no_exit _ _ p _ longest exit e)

    first_ends : {walk : Walk} → WalksTo tables address [] from walk → EndsAs tables address from walk
    first_ends (MetAgain m) = absurd (omega (arith, m.1))
    first_ends (NoEntry _ none) = (refl, λ q. record { none = λ p has covers. none.none p (everywhere q from p has lt) covers })
    first_ends (FromOwn _ e) = e
    first_ends (FromPeering _ e) = e
    first_ends (FromRouter {next} {p} _ e rest) = second_ends p (second from next p lt e) (solved.told from next p e.entry) (not_back from next p e.entry) rest

    pub two_at_most : (walk : Walk) → WalksTo tables address [] from walk → TwoRoutersAtMost tables address from walk
    two_at_most walk w = record {
      two = λ q r first after. no_exit q r first.0 after.0 (second from q first.0 lt first.1) (solved.told from q first.0 first.1.entry) after.1;
      ends = first_ends w;
      no_route = λ none. at_none tables address (λ (m : Contains [] from). absurd (omega (arith, m.1))) (none from) w;
    }
