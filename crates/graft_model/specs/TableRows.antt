-- The events of a router on its tables: deciding, telling other routers, hearing from them (RFC 4271, sections 9.1.2 and 9.1.3).
use Rattle.std.specs.Prelude.{◌≡◌, ◌≢◌, ℕ, ◌==◌, List, [], ◌∷◌, Option, Some, None, Bool, true, false, not, ◌&&◌, ◌⊎◌, nat_lt}
use Rattle.std.specs.FinMap as map
use Rattle.bgp_types.specs.declared.attrs.Route.{Route}
use Rattle.bgp_types.specs.declared.message.SessionState.{SessionState}
use Rattle.bgp_types.specs.declared.message.SessionState.TheVariants.{OpenSent, OpenConfirm, Established, Closed}
use Rattle.bgp_types.specs.Prefixes.{PrefixValue, same_prefix}
use Rattle.route_policy.specs.Telling.{tell_in}
use Rattle.loc_rib.specs.Values.{with_best, with_value}
use Rattle.session_value.specs.Sessions.{state}
use Rattle.session_value.specs.Sets.{has}
use Rattle.graft_model.specs.Points.{at}
use Rattle.graft_model.specs.Sets.{Adds}
use Rattle.graft_model.specs.Setups.{Setup, routers_in}
use Rattle.graft_model.specs.Parts.{Place, Vacant, Live, Frozen, Shadow, RouterPart, Tellings, Told}
use Rattle.graft_model.specs.Decisions.{chosen}
use Rattle.graft_model.specs.RouterRows.{RouterTaken, MeshIn, RouterSent, MeshTo, Alone}

abbrev pub is_established : SessionState → Bool
is_established OpenSent = false
is_established OpenConfirm = false
is_established Established = true
is_established Closed = false

-- an established session is held there, frozen or not
abbrev pub holds_established : Place → Bool
holds_established Vacant = false
holds_established (Live session order) = is_established (state session)
holds_established (Frozen session order) = is_established (state session)
holds_established (Shadow graft) = false

-- the test that only one prefix passes, and only if the flag is true
abbrev pub only_prefix : PrefixValue → Bool → PrefixValue → Bool
only_prefix prefix holds x = same_prefix prefix x && holds

-- A new best route is due to each other router and on each established session that is held.
pub record DueEverywhere (setup : Setup) (r : ℕ) (prefix : PrefixValue) (before after : RouterPart) : Type 0 where
  pub routers : (q : ℕ) → Adds (before.due_in q) (only_prefix prefix (nat_lt q (routers_in setup) && not (q == r))) (after.due_in q)
  pub peerings : (p : ℕ) → Adds (before.due_out p) (only_prefix prefix (holds_established (before.places p))) (after.due_out p)

-- A dirty prefix gets the chosen route. If that is a different one, it is due to be told.
pub record Decides (setup : Setup) (r : ℕ) (prefix : PrefixValue) (before : RouterPart)
    (taken : Option RouterTaken) (sent : List RouterSent) (after : RouterPart) : Type 0 where
  pub alone : Alone taken sent
  pub dirty : has before.dirty prefix ≡ true
  pub due : ((chosen setup r before prefix ≡ map.get before.best prefix) × (after.due_in ≡ before.due_in) × (after.due_out ≡ before.due_out))
      ⊎ ((chosen setup r before prefix ≢ map.get before.best prefix) × DueEverywhere setup r prefix before after)
  pub effect : after ≡ record before {
    best = with_best before.best prefix (chosen setup r before prefix);
    dirty = map.remove before.dirty prefix;
    due_in = after.due_in;
    due_out = after.due_out;
  }

-- A router is told the best route to a prefix, if that is own or external, and otherwise that there is none.
pub record Tells (q : ℕ) (prefix : PrefixValue) (before : RouterPart) (taken : Option RouterTaken) (sent : List RouterSent) (after : RouterPart) : Type 0 where
  pub due : has (before.due_in q) prefix ≡ true
  pub clean : has before.dirty prefix ≡ false
  pub takes : taken ≡ None
  pub sends : sent ≡ MeshTo q (Told prefix (tell_in (map.get before.best prefix))) ∷ []
  pub effect : after ≡ record before { due_in = at before.due_in q (map.remove (before.due_in q) prefix) }

abbrev pub with_telling : Tellings → PrefixValue → Option Route → Tellings
with_telling = with_value

-- What another router tells is heard. The prefix is dirty if the route changed.
pub record Hears (q : ℕ) (before : RouterPart) (taken : Option RouterTaken) (sent : List RouterSent) (after : RouterPart) : Type 0 where
  pub prefix : PrefixValue
  pub route : Option Route
  pub takes : taken ≡ Some (MeshIn q (Told prefix route))
  pub sends : sent ≡ []
  pub dirty : ((route ≡ map.get (before.tellings q) prefix) × (after.dirty ≡ before.dirty))
      ⊎ ((route ≢ map.get (before.tellings q) prefix) × (after.dirty ≡ map.insert before.dirty prefix tt))
  pub effect : after ≡ record before { tellings = at before.tellings q (with_telling (before.tellings q) prefix route); dirty = after.dirty }
