-- In a quiet world each best route is the choice between what sessions bring in and what routers tell now.
use Rattle.std.proofs.Common.{◌≡◌, ◌==◌, cond, ℕ, zero, suc, ◌+◌, ◌<◌, ◌≤◌, Bool, true, false, List, [], ◌∷◌, ◌++◌}
use Rattle.std.proofs.Common.{map, Option, Some, None, refl, sym, ap, ◌∙◌, subst, arith, inl, inr}
use Rattle.std.proofs.lemmas.Bool.Decides.{nat_tests}
use Rattle.std.proofs.lemmas.List.Elements.{filter_map-append}
use Rattle.std.specs.Prelude.{◌≢◌, ◌⊎◌, filter, not, slice_get, option_map}
use Rattle.std.specs.List.{AllByRecursion, filter_map, flat_map, cons_option, range_with_len}
use Rattle.std.specs.FinMap as map
use Rattle.graft_edge.specs.declared.ids.PeeringId.{PeeringId}
use Rattle.bgp_types.specs.declared.attrs.Route.{Route}
use Rattle.bgp_types.specs.Prefixes.{PrefixValue}
use Rattle.bgp_types.specs.Tables.{prefix_cmp}
use Rattle.decision_core.specs.Choice.{choice}
use Rattle.route_policy.specs.Candidates.{SessionRoute, RouterRoute, Candidate, imported, session_candidate, router_candidate, candidates, own_candidates}
use Rattle.route_policy.specs.Telling.{tell_in}
use Rattle.session_value.specs.Sessions.{SessionValue}
use Rattle.session_value.specs.declared.config.SessionConfig.{SessionConfig}
use Rattle.graft_model.specs.Setups.{Setup, PeeringSetup, IsSetup, routers_in, peerings_in, router_numbers}
use Rattle.graft_model.specs.Setups.{peering_numbers, identifier_of, cost_between, has_network, config_of}
use Rattle.graft_model.specs.Parts.{Place, Entry, Entries, World}
use Rattle.graft_model.specs.Decisions.{session_route, entry_of, entry_candidate, telling_candidate}
use Rattle.graft_model.specs.Quiet.{Quiet}
use Rattle.graft_model.specs.Claims.{sessions_at, session_routes, router_routes}
use Rattle.graft_laws.specs.Phases.{Idle}
use Rattle.graft_laws.specs.Owned.{Stands}
use Rattle.graft_laws.specs.Tables.{Entered, Decided, last_told, Informed}
use Rattle.graft_laws.proofs.Deeds.{equal_or_not}
use Rattle.graft_laws.proofs.QuietPhases.{placed_there, vacant_else}
use Rattle.graft_laws.proofs.SolvesOn.{none_there}

-- ---- lists of candidates

range_below : (a n m : ℕ) → a + n ≤ m → AllByRecursion (λ (k : ℕ). k < m) (range_with_len a n)
range_below a zero m l = tt
range_below a (suc n) m l = (omega arith, range_below (a + 1) n m (omega arith))

-- what one number gives, alone and among others
abbrev pub listed : {A : Type 0} → Option A → List A
listed o = cons_option o []

cons_listed : {A : Type 0} (o : Option A) (xs : List A) → cons_option o xs ≡ listed o ++ xs
cons_listed None xs = refl
cons_listed (Some x) xs = refl

joined_step : {A B : Type 0} (f : ℕ → Option B) (g : A → Option B) (h : ℕ → List A) (k : ℕ) (ks : List ℕ) → listed (f k) ≡ filter_map g (h k)
    → filter_map f ks ≡ filter_map g (flat_map h ks)
    → filter_map f (k ∷ ks) ≡ filter_map g (flat_map h (k ∷ ks))
joined_step f g h k ks e rest = cons_listed (f k) (filter_map f ks)
    ∙ (ap (λ (x : List _). x ++ filter_map f ks) e ∙ (ap (λ (x : List _). filter_map g (h k) ++ x) rest ∙ sym (filter_map-append g (h k) (flat_map h ks))))

-- where each number gives the same, all do
joined_same : {A B : Type 0} (f : ℕ → Option B) (g : A → Option B) (h : ℕ → List A) (ks : List ℕ)
    → AllByRecursion (λ (k : ℕ). listed (f k) ≡ filter_map g (h k)) ks → filter_map f ks ≡ filter_map g (flat_map h ks)
joined_same f g h [] all = refl
joined_same f g h (k ∷ ks) all = joined_step f g h k ks all.0 (joined_same f g h ks all.1)

all_below : (P : ℕ → Type 0) (m : ℕ) (ks : List ℕ) → ((k : ℕ) → k < m → P k) → AllByRecursion (λ (k : ℕ). k < m) ks → AllByRecursion P ks
all_below P m [] h all = tt
all_below P m (k ∷ ks) h all = (h k all.0, all_below P m ks h all.1)

-- ---- entries, and what sessions bring in

abbrev pub candidate_of : Setup → PrefixValue → SessionRoute → Option Candidate
candidate_of setup x session = session_candidate setup.home_as session (imported setup.home_as x session session.heard)

same_id : (id : PeeringId) (p : ℕ) → id.0 ≡ p → id ≡ record { 0 = p }
same_id id p e = ap (λ (n : ℕ). (let x : PeeringId = record { 0 = n } in x)) e

pub own_number : (setup : Setup) (p : ℕ) (peering : PeeringSetup) (config : SessionConfig) → IsSetup setup
    → slice_get setup.peerings p ≡ Some peering → config_of setup p ≡ Some config → config.peering ≡ record { 0 = p }
own_number setup p peering config ok is own =
    let same : peering.config ≡ config = some_same peering.config config (sym (ap (option_map (λ (x : PeeringSetup). x.config)) is) ∙ own) in
    ap (λ (c : SessionConfig). c.peering) (sym same) ∙ same_id peering.config.peering p ((ok.peerings p peering is).number)
  where
    some_same : (a b : SessionConfig) → Some a ≡ Some b → a ≡ b
    some_same a b e = cc

-- A router's entries of a peering give what the session that it holds brings in.
abbrev pub GivesSame : Setup → World → ℕ → PrefixValue → ℕ → Type 0
GivesSame setup w r x p = listed (entry_candidate setup.home_as p (map.get ((w.router r).entries p) x))
    ≡ filter_map (candidate_of setup x) (map (λ session. session_route setup r session x) (sessions_at ((w.router r).places p)))

-- the entry that a session brings in gives what its route gives
entry_session : (setup : Setup) (r p : ℕ) (x : PrefixValue) (s : SessionValue) (o : Option Route) → s.config.peering ≡ record { 0 = p }
    → entry_candidate setup.home_as p (option_map
    (λ route. (let e : Entry = record { route = route; identifier = (session_route setup r s x).identifier; address = s.config.remote_address } in e)) o)
    ≡ session_candidate setup.home_as (session_route setup r s x) o
entry_session setup r p x s None own = refl
entry_session setup r p x s (Some route) own =
    ap (λ (id : PeeringId). session_candidate setup.home_as (record (session_route setup r s x) { peering = id }) (Some route)) (sym own)

module _ (setup : Setup) (w : World) (r p q : ℕ) (x : PrefixValue) (s : SessionValue) (b : Stands setup w p (Idle q) s)
    (entered : Entered setup w p (Idle q) s) (own : s.config.peering ≡ record { 0 = p }) where
  abbrev routes_at : Place → List SessionRoute
  routes_at place = map (λ session. session_route setup r session x) (sessions_at place)

  entries_here : r ≡ q
      → listed (entry_candidate setup.home_as p (map.get ((w.router r).entries p) x)) ≡ filter_map (candidate_of setup x) (routes_at ((w.router r).places p))
  entries_here is =
      let here : map.get ((w.router r).entries p) x ≡ entry_of setup r s x = entered.here r (let e : (r == q) ≡ true = grind (arith, nat_tests) in e) x in
      let place = ap (λ (n : ℕ). (w.router n).places p) is ∙ placed_there setup w p q s b in
      ap (λ (o : Option Entry). listed (entry_candidate setup.home_as p o)) here
      ∙ (ap (λ (o : Option Candidate). listed o)
      (entry_session setup r p x s (imported setup.home_as x (session_route setup r s x) (map.get s.adj_rib_in x)) own)
      ∙ ap (λ (y : Place). filter_map (candidate_of setup x) (routes_at y)) (sym place))

  entries_there : r ≢ q
      → listed (entry_candidate setup.home_as p (map.get ((w.router r).entries p) x)) ≡ filter_map (candidate_of setup x) (routes_at ((w.router r).places p))
  entries_there ne =
      let none : (w.router r).entries p ≡ map.empty = entered.elsewhere r (let e : (r == q) ≡ false = grind (arith, nat_tests) in e) refl in
      ap (λ (m : Entries). listed (entry_candidate setup.home_as p (map.get m x))) none
      ∙ (ap (λ (o : Option Entry). listed (entry_candidate setup.home_as p o)) (map.get-empty prefix_cmp x)
      ∙ ap (λ (y : Place). filter_map (candidate_of setup x) (routes_at y)) (sym (vacant_else setup w p q r s b ne)))

  pub entries_routes : GivesSame setup w r x p
  entries_routes = by_place (equal_or_not r q) where
    by_place : (r ≡ q) ⊎ (r ≢ q)
        → listed (entry_candidate setup.home_as p (map.get ((w.router r).entries p) x)) ≡ filter_map (candidate_of setup x) (routes_at ((w.router r).places p))
    by_place (inl is) = entries_here is
    by_place (inr ne) = entries_there ne

-- ---- what other routers tell

tellers_step : (f : ℕ → Option Candidate) (g : RouterRoute → Option Candidate) (told : ℕ → RouterRoute) (r k : ℕ) (ks : List ℕ)
    → (k ≡ r → f k ≡ None) → (k ≢ r → f k ≡ g (told k)) → filter_map f ks ≡ filter_map g (map told (filter (λ q. not (q == r)) ks))
    → filter_map f (k ∷ ks) ≡ filter_map g (map told (filter (λ q. not (q == r)) (k ∷ ks)))
tellers_step f g told r k ks itself others rest = by_test (k == r) refl where
  by_test : (b : Bool) → (k == r) ≡ b
      → cons_option (f k) (filter_map f ks) ≡ filter_map g (map told (cond (not b) (k ∷ filter (λ q. not (q == r)) ks) (filter (λ q. not (q == r)) ks)))
  by_test true is = ap (λ (o : Option Candidate). cons_option o (filter_map f ks)) (itself (grind (arith, nat_tests))) ∙ rest
  by_test false is = ap (λ (o : Option Candidate). cons_option o (filter_map f ks)) (others (grind (arith, nat_tests)))
      ∙ ap (λ (l : List Candidate). cons_option (g (told k)) l) rest

tellers_same : (f : ℕ → Option Candidate) (g : RouterRoute → Option Candidate) (told : ℕ → RouterRoute) (r : ℕ) (ks : List ℕ)
    → ((k : ℕ) → k ≡ r → f k ≡ None) → ((k : ℕ) → k ≢ r → f k ≡ g (told k))
    → filter_map f ks ≡ filter_map g (map told (filter (λ q. not (q == r)) ks))
tellers_same f g told r [] itself others = refl
tellers_same f g told r (k ∷ ks) itself others = tellers_step f g told r k ks (itself k) (others k) (tellers_same f g told r ks itself others)

-- what is heard of another router in a quiet world, and of itself
pub heard_quiet : (setup : Setup) (w : World) (a b : ℕ) (x : PrefixValue) → Quiet setup w → Informed setup a b w → a ≢ b → b < routers_in setup
    → map.get ((w.router b).tellings a) x ≡ tell_in (map.get (w.router a).best x)
heard_quiet setup w a b x quiet informed ne l =
    subst (λ (items : List _). last_told x items (map.get ((w.router b).tellings a) x) ≡ tell_in (map.get (w.router a).best x))
    (quiet.mesh a b) (informed.others ne l x (none_there ((w.router a).due_in b) x (quiet.told_in a b)))

heard_itself : (setup : Setup) (w : World) (r k : ℕ) (x : PrefixValue) → Quiet setup w → Informed setup k r w → k ≡ r
    → map.get ((w.router r).tellings k) x ≡ None
heard_itself setup w r k x quiet informed is =
    subst (λ (n : ℕ). map.get ((w.router n).tellings k) x ≡ None) is
    (subst (λ (items : List _). last_told x items (map.get ((w.router k).tellings k) x) ≡ None) (quiet.mesh k k) ((informed.itself is x).1))

telling_router : (setup : Setup) (r q : ℕ) (o : Option Route)
    → telling_candidate setup r q o
    ≡ router_candidate setup.home_as (record { router = record { 0 = q }; identifier = identifier_of setup q; cost = cost_between setup r q; told = o }) o
telling_router setup r q None = refl
telling_router setup r q (Some route) = refl

-- ---- the best routes

module _ (setup : Setup) (w : World) (quiet : Quiet setup w) (r : ℕ) (l : r < routers_in setup)
    (x : PrefixValue) (decided : Decided setup r (w.router r)) (informed : (a b : ℕ) → Informed setup a b w)
    (sessions : (p : ℕ) → p < peerings_in setup → GivesSame setup w r x p) where
  from_sessions : filter_map (λ p. entry_candidate setup.home_as p (map.get ((w.router r).entries p) x)) (peering_numbers setup)
      ≡ filter_map (candidate_of setup x) (session_routes setup w r x)
  from_sessions = joined_same (λ p. entry_candidate setup.home_as p (map.get ((w.router r).entries p) x)) (candidate_of setup x)
      (λ p. map (λ session. session_route setup r session x) (sessions_at ((w.router r).places p))) (peering_numbers setup)
      (all_below (GivesSame setup w r x) (peerings_in setup) (peering_numbers setup) sessions
      (range_below 0 (peerings_in setup) (peerings_in setup) (omega arith)))

  abbrev route_from : ℕ → RouterRoute
  route_from q =
      record { router = record { 0 = q }; identifier = identifier_of setup q; cost = cost_between setup r q; told = tell_in (map.get (w.router q).best x) }

  from_routers : filter_map (λ q. telling_candidate setup r q (map.get ((w.router r).tellings q) x)) (router_numbers setup)
      ≡ filter_map (λ teller. router_candidate setup.home_as teller teller.told) (router_routes setup w r x)
  from_routers = tellers_same (λ q. telling_candidate setup r q (map.get ((w.router r).tellings q) x))
      (λ teller. router_candidate setup.home_as teller teller.told) route_from r (router_numbers setup)
      (λ k is. ap (telling_candidate setup r k) (heard_itself setup w r k x quiet (informed k r) is))
      (λ k ne. ap (telling_candidate setup r k) (heard_quiet setup w k r x quiet (informed k r) ne l)
      ∙ telling_router setup r k (tell_in (map.get (w.router k).best x)))

  pub best_is : map.get (w.router r).best x
      ≡ choice (candidates setup.home_as x (has_network setup r x) (session_routes setup w r x) (router_routes setup w r x))
  best_is =
      let own : List Candidate = own_candidates setup.home_as (has_network setup r x) in
      decided.best x (none_there (w.router r).dirty x (quiet.decided r))
      ∙ (ap (λ (y : List Candidate).
      choice (own ++ y ++ filter_map (λ q. telling_candidate setup r q (map.get ((w.router r).tellings q) x)) (router_numbers setup))) from_sessions
      ∙ ap (λ (y : List Candidate). choice (own ++ filter_map (candidate_of setup x) (session_routes setup w r x) ++ y)) from_routers)
