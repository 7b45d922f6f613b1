-- What a router has by itself, and what it hears from others, as candidates.
use Rattle.std.proofs.Common.{◌≡◌, ℕ, ◌==◌, Bool, true, false, not, ◌&&◌, ◌||◌, cond, List, [], ◌∷◌, refl, sym, ap, ◌∙◌, arith, inl, inr}
use Rattle.std.specs.Prelude.{Option, Some, None, ◌⊎◌, map, filter}
use Rattle.std.specs.List.{list_any, AllByRecursion, filter_map}
use Rattle.bgp_types.specs.declared.attrs.Route.{Route}
use Rattle.bgp_types.specs.declared.rank.From.TheVariants.{Router}
use Rattle.bgp_types.specs.declared.rank.Rank.{Rank}
use Rattle.decision_core.specs.Search.{leads, in_turn, is_nearer}
use Rattle.route_policy.specs.Candidates.{SessionRoute, RouterRoute, Candidate, own_candidates, router_candidate, imported, rank_of}
use Rattle.route_policy.specs.Telling.{inside}
use Rattle.even_meshes.specs.Meshes.{PrefixMesh, session_brings, candidates_alone, teller, rank_anywhere, beats_before_med, is_own_source}
use Rattle.even_meshes.proofs.Folds.{all_append}
use Rattle.even_meshes.proofs.Choices.{better}

-- a candidate that a router has by itself
pub record IsBase (home_as : ℕ) (c : Candidate) : Type 0 where
  pub outer : inside c.0.from c.0.route ≡ Some c.0.route
  pub own : c.1.own ≡ is_own_source c.0.from
  pub near : (c.1.own ≡ true) ⊎ (c.1.external ≡ true)
  pub pref : c.1.pref ≡ (rank_anywhere home_as c.0.route).pref
  pub path : c.1.path_len ≡ (rank_anywhere home_as c.0.route).path_len
  pub origin : c.1.origin ≡ (rank_anywhere home_as c.0.route).origin
  pub neighbour : c.1.neighbour ≡ (rank_anywhere home_as c.0.route).neighbour
  pub med : c.1.med ≡ (rank_anywhere home_as c.0.route).med

own_is_base : (home_as : ℕ) (has : Bool) → AllByRecursion (IsBase home_as) (own_candidates home_as has)
own_is_base home_as true =
    (record { outer = refl; own = refl; near = inl refl; pref = refl; path = grind arith; origin = refl; neighbour = refl; med = refl }, tt)
own_is_base home_as false = tt

one_more : (m : PrefixMesh) (s : SessionRoute) (sessions : List SessionRoute) (o : Option Route) → imported m.home_as m.prefix s s.heard ≡ o
    → AllByRecursion (IsBase m.home_as) (filter_map (session_brings m) sessions)
    → AllByRecursion (IsBase m.home_as) (filter_map (session_brings m) (s ∷ sessions))
one_more m s sessions None e rest = rw e rest
one_more m s sessions (Some route) e rest =
    rw e (record { outer = refl; own = refl; near = inr refl; pref = refl; path = refl; origin = refl; neighbour = refl; med = refl }, rest)

sessions_are_base : (m : PrefixMesh) (sessions : List SessionRoute) → AllByRecursion (IsBase m.home_as) (filter_map (session_brings m) sessions)
sessions_are_base m [] = tt
sessions_are_base m (s ∷ sessions) = one_more m s sessions (imported m.home_as m.prefix s s.heard) refl (sessions_are_base m sessions)

pub all_base : (m : PrefixMesh) (r : ℕ) → AllByRecursion (IsBase m.home_as) (candidates_alone m r)
all_base m r = all_append (IsBase m.home_as) (own_candidates m.home_as (m.has_network r)) (filter_map (session_brings m) (m.sessions r))
    (own_is_base m.home_as (m.has_network r)) (sessions_are_base m (m.sessions r))

-- ---- what is heard

-- the candidate of a route that router q tells router r
abbrev pub told_by : PrefixMesh → ℕ → ℕ → Route → Candidate
told_by m r q route =
    (record { from = Router (record { 0 = q }); route = route }, rank_of m.home_as false (m.cost r q) (m.identifier q) (m.identifier q) route)

-- the candidates that tellers make
abbrev pub from_tellers : PrefixMesh → List RouterRoute → List Candidate
from_tellers m ts = filter_map (λ t. router_candidate m.home_as t t.told) ts

-- those of these routers that aren't r, as tellers
abbrev pub others : PrefixMesh → (ℕ → Option Route) → ℕ → List ℕ → List RouterRoute
others m told r qs = map (teller m told r) (filter (λ q. not (q == r)) qs)

-- one more of them, if it isn't r
abbrev and_other : PrefixMesh → (ℕ → Option Route) → ℕ → ℕ → List ℕ → Bool → List RouterRoute
and_other m told r q qs b = map (teller m told r) (cond b (q ∷ filter (λ q. not (q == r)) qs) (filter (λ q. not (q == r)) qs))

abbrev pub heard : PrefixMesh → (ℕ → Option Route) → ℕ → List ℕ → List Candidate
heard m told r qs = from_tellers m (others m told r qs)

module _ (P : Candidate → Type 0) (m : PrefixMesh) (told : ℕ → Option Route) (r : ℕ) where
  -- this holds of what a router tells, if anything
  abbrev pub OfTold : ℕ → Type 0
  OfTold q = (route : Route) → told q ≡ Some route → P (told_by m r q route)

  told_more : (q : ℕ) (ts : List RouterRoute) (o : Option Route) → told q ≡ o → OfTold q
      → AllByRecursion P (from_tellers m ts) → AllByRecursion P (from_tellers m (teller m told r q ∷ ts))
  told_more q ts None e h k = rw e k
  told_more q ts (Some route) e h k = rw e (h route e, k)

  heard_more : (q : ℕ) (qs : List ℕ) (b : Bool) → OfTold q → AllByRecursion P (heard m told r qs)
      → AllByRecursion P (from_tellers m (and_other m told r q qs b))
  heard_more q qs true h k = told_more q (others m told r qs) (told q) refl h k
  heard_more q qs false h k = k

  pub heard_all : (qs : List ℕ) → AllByRecursion OfTold qs → AllByRecursion P (heard m told r qs)
  heard_all [] h = tt
  heard_all (q ∷ qs) h = heard_more q qs (not (q == r)) h.0 (heard_all qs h.1)

-- whether what is told passes a test
abbrev pub hits : (Candidate → Bool) → PrefixMesh → ℕ → ℕ → Option Route → Bool
hits p m r q None = false
hits p m r q (Some route) = p (told_by m r q route)

module _ (p : Candidate → Bool) (m : PrefixMesh) (told : ℕ → Option Route) (r : ℕ) where
  -- whether what a router tells r passes it
  abbrev pub hit : ℕ → Bool
  hit q = not (q == r) && hits p m r q (told q)

  any_more : (q : ℕ) (ts : List RouterRoute) (o : Option Route) → told q ≡ o
      → list_any p (from_tellers m (teller m told r q ∷ ts)) ≡ (hits p m r q (told q) || list_any p (from_tellers m ts))
  any_more q ts None e = rw e refl
  any_more q ts (Some route) e = rw e refl

  any_cond : (q : ℕ) (qs : List ℕ) (b : Bool)
      → list_any p (from_tellers m (and_other m told r q qs b)) ≡ ((b && hits p m r q (told q)) || list_any p (heard m told r qs))
  any_cond q qs true = any_more q (others m told r qs) (told q) refl
  any_cond q qs false = refl

  pub heard_any : (qs : List ℕ) → list_any p (heard m told r qs) ≡ list_any hit qs
  heard_any [] = refl
  heard_any (q ∷ qs) = any_cond q qs (not (q == r)) ∙ ap (λ b. hit q || b) (heard_any qs)

-- only what routers tell counts
module _ (m : PrefixMesh) (told other : ℕ → Option Route) (r : ℕ) where
  same_more : (q : ℕ) (qs : List ℕ) (b : Bool) → told q ≡ other q → others m told r qs ≡ others m other r qs
      → and_other m told r q qs b ≡ and_other m other r q qs b
  same_more q qs true e k =
      ap (λ o. record { router = record { 0 = q }; identifier = m.identifier q; cost = m.cost r q; told = o } ∷ others m told r qs) e
      ∙ ap (λ rest. teller m other r q ∷ rest) k
  same_more q qs false e k = k

  pub tellers_same : (qs : List ℕ) → AllByRecursion (λ q. told q ≡ other q) qs → others m told r qs ≡ others m other r qs
  tellers_same [] h = refl
  tellers_same (q ∷ qs) h = same_more q qs (not (q == r)) h.0 (tellers_same qs h.1)

-- ---- what is heard against what a router has

leads_as : (a b c d : Rank) → a.own ≡ c.own → a.pref ≡ c.pref → a.path_len ≡ c.path_len → a.origin ≡ c.origin
    → b.own ≡ d.own → b.pref ≡ d.pref → b.path_len ≡ d.path_len → b.origin ≡ d.origin → leads a b ≡ leads c d
leads_as a b c d own pref path origin own_ pref_ path_ origin_ = rw (own, pref, path, origin, own_, pref_, path_, origin_) refl

own_wins : (y x : Rank) → y.own ≡ false → x.own ≡ true → in_turn leads is_nearer y x ≡ false
own_wins y x h k = rw (h, k) grind arith

near_wins : (y x : Rank) → y.external ≡ false → x.external ≡ true → in_turn leads is_nearer y x ≡ leads y x
near_wins y x h k = grind (arith, h, k)

-- A told route is better than one that a router has by itself exactly where that isn't own, and is beaten.
pub better_told : (m : PrefixMesh) (r q : ℕ) (route : Route) (x : Candidate) → IsBase m.home_as x
    → better (told_by m r q route) x ≡ (not x.1.own && beats_before_med m.home_as route x.0.route)
better_told m r q route x b = by_own x.1.own refl
  where
    by_own : (own : Bool) → x.1.own ≡ own → better (told_by m r q route) x ≡ (not x.1.own && beats_before_med m.home_as route x.0.route)
    by_own true e = own_wins (told_by m r q route).1 x.1 refl e ∙ ap (λ t. not t && beats_before_med m.home_as route x.0.route) (sym e)
    by_own false e =
        let external : x.1.external ≡ true = elim b.near [ inl h ↦ absurd (let z : true ≡ false = sym h ∙ e in cc) | inr h ↦ h ] in
        near_wins (told_by m r q route).1 x.1 refl external
        ∙ leads_as (told_by m r q route).1 x.1 (rank_anywhere m.home_as route) (rank_anywhere m.home_as x.0.route)
        refl refl refl refl e b.pref b.path b.origin
        ∙ ap (λ t. not t && beats_before_med m.home_as route x.0.route) (sym e)
