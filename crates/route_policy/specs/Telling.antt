-- What a home router advertises of its best route (RFC 4271, sections 5.1, 9.1.3 and 9.2).
use Rattle.std.specs.Prelude.{ℕ, ◌==◌, nat_lt, Bool, true, false, ◌||◌, List, [], ◌∷◌, length, map, Option, Some, None, unwrap_or, if◌then◌else◌}
use Rattle.graft_edge.specs.declared.ids.PeeringId.{PeeringId}
use Rattle.bgp_types.specs.Prefixes.{PrefixValue}
use Rattle.bgp_types.specs.Spelling.{spell}
use Rattle.bgp_types.specs.declared.attrs.Attrs.{Attrs}
use Rattle.bgp_types.specs.declared.attrs.RawAttr.{RawAttr}
use Rattle.bgp_types.specs.declared.attrs.Route.{Route}
use Rattle.bgp_types.specs.declared.message.Message.{Message}
use Rattle.bgp_types.specs.declared.message.Message.TheVariants.{UpdateMsg}
use Rattle.bgp_types.specs.declared.message.Update.{Update}
use Rattle.bgp_types.specs.declared.rank.From.{From}
use Rattle.bgp_types.specs.declared.rank.From.TheVariants.{Own, Peering, Router}
use Rattle.route_policy.specs.Paths.{prepend}
use Rattle.route_policy.specs.Policies.{policy}
use Rattle.route_policy.specs.Rules.{holds_as}
use Rattle.route_policy.specs.declared.best.Best.{Best}
use Rattle.route_policy.specs.declared.rule.Rule.{Rule}
use Rattle.route_policy.specs.declared.tell.OutView.{OutView}
use Rattle.std.specs.Option.{option_copied}

-- ---- to another home router: the best route, if it is own or external

abbrev pub inside : From → Route → Option Route
inside Own route = Some route
inside (Peering peering) route = Some route
inside (Router router) route = None

abbrev pub tell_in : Option Best → Option Route
tell_in None = None
tell_in (Some best) = inside best.from best.route

-- ---- on a session

-- the session's peering, the AS of its remote, its local address and its export policy
pub record OutSide : Type 0 where
  pub peering : PeeringId
  pub remote_as : ℕ
  pub local_address : ℕ
  pub export_rules : Option (List Rule)

-- the same for the code's value, which holds its policy by reference
abbrev pub out_side_of_view : OutView → OutSide
out_side_of_view view =
    record { peering = view.peering; remote_as = view.remote_as; local_address = view.local_address; export_rules = option_copied view.export }

abbrev pub comes_from : From → PeeringId → Bool
comes_from Own peering = false
comes_from (Peering other) peering = other.0 == peering.0
comes_from (Router router) peering = false

-- Whatever the export policy makes of it, the best route isn't told if it came from this peering, or if its path, as it is before the policy,
-- contains the remote's AS in a sequence or in a set: the remote would find itself in the path and exclude the route from its decision (section
-- 9.1.2).
abbrev pub is_kept_back : OutSide → Best → Bool
is_kept_back out best = comes_from best.from out.peering || holds_as best.route.attrs.path out.remote_as

-- unknown transitive attributes are passed on with Partial set (section 5)
abbrev pub made_partial : RawAttr → RawAttr
made_partial raw = record raw { partial = true }

-- The attributes that are told for a route after the export policy: the home AS is put in front of the path, and the local address is the next hop
-- (sections 5.1.2 and 5.1.3).
abbrev pub told_attrs : ℕ → OutSide → Route → Attrs
told_attrs home_as out route = record route.attrs {
  path = prepend home_as route.attrs.path;
  next_hop = out.local_address;
  unknown = map made_partial route.attrs.unknown;
}

-- MED isn't passed on from another AS (section 5.1.4), so the policy begins without one, and a route has one only if the policy sets it.
abbrev pub without_med : Route → Route
without_med route = record route { attrs = record route.attrs { med = None } }

abbrev pub exported : ℕ → OutSide → PrefixValue → Route → Option Route
exported home_as out prefix route = policy (unwrap_or out.export_rules []) prefix home_as (without_med route)

-- an UPDATE with these attributes and no prefix yet
abbrev pub announcing : Attrs → Update
announcing attrs = record { withdrawn = []; attrs = Some attrs; nlri = [] }

-- the UPDATE that announces only one prefix
abbrev pub announcement : PrefixValue → Attrs → Message
announcement prefix attrs = UpdateMsg (record (announcing attrs) { nlri = prefix ∷ [] })

-- A message has at most 4,096 octets (sections 4 and 9.2), whether AS numbers are written in two octets or in four (RFC 6793).
abbrev pub is_too_long : PrefixValue → Attrs → Bool
is_too_long prefix attrs =
    nat_lt 4096 (length (spell (announcement prefix attrs) false)) || nat_lt 4096 (length (spell (announcement prefix attrs) true))

abbrev pub told_where_it_fits : ℕ → OutSide → PrefixValue → Option Route → Option Attrs
told_where_it_fits home_as out prefix None = None
told_where_it_fits home_as out prefix (Some route) =
    if is_too_long prefix (told_attrs home_as out route) then None else Some (told_attrs home_as out route)

-- Nothing is told if there is no best route, if it came from this peering or went through the remote's AS, if the export policy denies it, or if its
-- UPDATE would be too long in either width.
abbrev pub tell_out : ℕ → OutSide → PrefixValue → Option Best → Option Attrs
tell_out home_as out prefix None = None
tell_out home_as out prefix (Some best) =
    if is_kept_back out best then None
    else told_where_it_fits home_as out prefix (exported home_as out prefix best.route)
