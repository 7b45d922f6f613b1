-- A worked route: heard, compared with others, and told. Each value is computed by hand from the sections of RFC 4271 that the definitions name.
use Rattle.std.specs.Prelude.{ℕ, true, false, List, [], ◌∷◌, Some, None, replicate}
use Rattle.bgp_types.specs.Prefixes.{PrefixValue}
use Rattle.bgp_types.specs.declared.attrs.Attrs.{Attrs}
use Rattle.bgp_types.specs.declared.attrs.Origin.TheVariants.{Igp}
use Rattle.bgp_types.specs.declared.attrs.Route.{Route}
use Rattle.bgp_types.specs.declared.path.PathPart.{PathPart}
use Rattle.bgp_types.specs.declared.path.PathPart.TheVariants.{Sequence, Set}
use Rattle.bgp_types.specs.declared.rank.From.{From}
use Rattle.bgp_types.specs.declared.rank.From.TheVariants.{Own, Peering, Router}
use Rattle.bgp_types.specs.declared.rank.Rank.{Rank}
use Rattle.route_policy.specs.declared.best.Best.{Best}
use Rattle.route_policy.specs.declared.rule.Rule.{Rule}
use Rattle.route_policy.specs.Candidates.{SessionRoute, RouterRoute}
use Rattle.route_policy.specs.Telling.{OutSide}

-- 10.0.0.0/8
abbrev pub worked_prefix : PrefixValue
worked_prefix = record { address = 167772160; len = 8 }

-- path 65001, next hop 192.0.2.1, MED 7, and an unknown transitive attribute
abbrev pub attrs_heard : Attrs
attrs_heard = record {
  origin = Igp;
  path = Sequence (65001 ∷ []) ∷ [];
  next_hop = 3221225985;
  med = Some 7;
  atomic = true;
  aggregator = None;
  unknown = record { kind = 200; partial = false; bytes = 1 ∷ [] } ∷ [];
}

-- preference 200, and the AS once more in front
abbrev pub raising_rule : Rule
raising_rule = record { within = None; has_as = None; origin = None; deny = false; pref = Some 200; med = None; prepend = 1 }

-- from peering 3, whose import policy is that rule
abbrev pub raising_session : SessionRoute
raising_session =
    record { peering = record { 0 = 3 }; remote_as = 65001; identifier = 9; address = 8; import_rules = Some (raising_rule ∷ []); heard = Some attrs_heard }

-- the import policy puts the remote's AS in front and sets the preference
abbrev pub raised_route : Route
raised_route = record { attrs = record attrs_heard { path = Sequence (65001 ∷ (65001 ∷ [])) ∷ [] }; pref = 200 }

-- router 1, at cost 4, told the same attributes
abbrev pub telling_router : RouterRoute
telling_router = record { router = record { 0 = 1 }; identifier = 5; cost = 4; told = Some (record { attrs = attrs_heard; pref = 100 }) }

-- a best route that router 1 told, which isn't told to other home routers
abbrev pub interior_best : Best
interior_best = record { from = Router (record { 0 = 1 }); route = record { attrs = attrs_heard; pref = 100 } }

abbrev pub three_sources : List From
three_sources = Own ∷ (Peering (record { 0 = 3 }) ∷ (Router (record { 0 = 1 }) ∷ []))

-- external over interior; the telling router's identifier is its address too
abbrev pub two_ranks : List Rank
two_ranks =
    record { own = false; pref = 200; path_len = 2; origin = 0; neighbour = 65001; med = 7; external = true; cost = 0; identifier = 9; address = 8 }
    ∷ (record { own = false; pref = 100; path_len = 1; origin = 0; neighbour = 65001; med = 7; external = false; cost = 4; identifier = 5; address = 5 } ∷ [])

-- ---- told on peering 2, whose remote is in AS 65002, whose local address is 192.0.2.6, and whose policy puts the home AS in front and sets MED 50

abbrev pub raising_side : OutSide
raising_side =
    record { peering = record { 0 = 2 }; remote_as = 65002; local_address = 3221225990; export_rules = Some (record raising_rule { med = Some 50 } ∷ []) }

abbrev pub silent_side : OutSide
silent_side = record raising_side { export_rules = Some (record raising_rule { deny = true } ∷ []) }

-- the best route is from peering 3, and its unknown attribute has this many octets
abbrev pub best_of_size : ℕ → Best
best_of_size n = record {
  from = Peering (record { 0 = 3 });
  route = record { attrs = record attrs_heard { unknown = record { kind = 200; partial = false; bytes = replicate n 1 } ∷ [] }; pref = 200 };
}

-- the best route is from peering 3, with this path
abbrev pub best_over : List PathPart → Best
best_over path = record { from = Peering (record { 0 = 3 }); route = record { attrs = record attrs_heard { path = path }; pref = 200 } }

-- it went through AS 65001, and before that through 65002
abbrev pub best_through : Best
best_through = best_over (Sequence (65001 ∷ (65002 ∷ [])) ∷ [])

-- AS 65001 aggregated it from routes that went through 65002 and 65003
abbrev pub best_aggregated : Best
best_aggregated = best_over (Sequence (65001 ∷ []) ∷ (Set (65003 ∷ (65002 ∷ [])) ∷ []))

-- the home AS once more than the policy says, the local address, the policy's MED, Partial set
abbrev pub attrs_told : Attrs
attrs_told = record {
  origin = Igp;
  path = Sequence (65000 ∷ (65000 ∷ (65001 ∷ []))) ∷ [];
  next_hop = 3221225990;
  med = Some 50;
  atomic = true;
  aggregator = None;
  unknown = record { kind = 200; partial = true; bytes = 1 ∷ [] } ∷ [];
}

-- without an export policy: the home AS once, and no MED
abbrev pub attrs_told_plainly : Attrs
attrs_told_plainly = record attrs_told { path = Sequence (65000 ∷ (65001 ∷ [])) ∷ []; med = None }

-- the route through 65002 as the policy leaves it
abbrev pub attrs_told_through : Attrs
attrs_told_through = record attrs_told { path = Sequence (65000 ∷ (65000 ∷ (65001 ∷ (65002 ∷ [])))) ∷ [] }
