-- Two settled worlds with one log have the same tables.
use Rattle.std.proofs.Common.{◌≡◌, ◌≢◌, ℕ, zero, suc, ◌+◌, ◌<◌, List, [], ◌∷◌, ◌++◌, map, Option, refl, sym, ap, ◌∙◌, arith, ◌⊎◌, inl, inr}
use Rattle.std.specs.Prelude.{option_map, unwrap_or}
use Rattle.std.specs.List.{AllByRecursion, flat_map, range_with_len}
use Rattle.std.specs.FinMap as map
use Rattle.std.proofs.lemmas.Bool.{cases_eq}
use Rattle.bgp_types.specs.Prefixes.{PrefixValue}
use Rattle.bgp_types.specs.declared.attrs.Attrs.{Attrs}
use Rattle.bgp_types.specs.declared.message.OpenMsg as open_type
use Rattle.bgp_types.specs.declared.message.SessionState.{SessionState}
use Rattle.bgp_story.specs.Legal.{got_open}
use Rattle.bgp_story.specs.Readings.{Routes}
use Rattle.route_policy.specs.Candidates.{SessionRoute}
use Rattle.route_policy.specs.Telling.{tell_in, tell_out}
use Rattle.route_policy.specs.declared.best.Best.{Best}
use Rattle.session_value.specs.declared.config.SessionConfig.{SessionConfig}
use Rattle.session_value.specs.Sessions.{peering_of, state, while_established}
use Rattle.graft_model.specs.Claims as claims
use Rattle.graft_model.specs.Decisions.{session_route, out_side}
use Rattle.graft_model.specs.OperatorRows.{placement}
use Rattle.graft_model.specs.Parts.{Place, World}
use Rattle.graft_model.specs.Setups.{Setup, PeeringSetup, IsSetup, routers_in, peerings_in, peering_numbers, rules_for}
use Rattle.graft_laws.specs.Keeps.{Reached}
use Rattle.graft_laws.proofs.First.{some_peering}
use Rattle.graft_laws.proofs.QuietSolves.{quiet_solves_is}
use Rattle.even_meshes.specs.Meshes.{IsEven}
use Rattle.even_meshes.specs.Worlds.{prefix_mesh}
use Rattle.even_meshes.proofs.Joined.{equal_tables}
use Rattle.story_readings.specs.Reads.{AreAlike}
use Rattle.story_readings.proofs.Reaching.{alike}
use Rattle.one_answer.specs.Settled.{said_in_all, HasNoTimer, IsSettled, HaveOneLog, HaveOneSession, HaveOneAnswer}
use Rattle.one_answer.proofs.Gifts.{placed_same}
use Rattle.one_answer.proofs.Held.{Held, held}

-- ---- lists

flat_same : {A B : Type 0} (f g : A → List B) (xs : List A) → AllByRecursion (λ x. f x ≡ g x) xs → flat_map f xs ≡ flat_map g xs
flat_same f g [] all = refl
flat_same f g (x ∷ xs) all = ap (λ (ys : List _). ys ++ flat_map f xs) all.0 ∙ ap (λ (ys : List _). g x ++ ys) (flat_same f g xs all.1)

pub all_in : (P : ℕ → Type 0) (from n : ℕ) → ((k : ℕ) → k < from + n → P k) → AllByRecursion P (range_with_len from n)
all_in P from zero h = tt
all_in P from (suc n) h = (h from (omega arith), all_in P (from + 1) n (λ k l. h k (omega (arith, l))))

-- ---- what sessions bring in

-- what a session with this config brings in, where this OPEN was got and these routes were heard
abbrev pub route_by : Setup → ℕ → SessionConfig → Option open_type.OpenMsg → Routes → PrefixValue → SessionRoute
route_by setup r config opened routes prefix = record {
  peering = config.peering;
  remote_as = config.remote_as;
  identifier = unwrap_or (option_map (λ (o : open_type.OpenMsg). o.identifier) opened) 0;
  address = config.remote_address;
  import_rules = rules_for setup r config.import;
  heard = map.get routes prefix;
}

-- what is told on a session with this config, in this state, at a router that has this best route
abbrev told_by : Setup → PrefixValue → SessionState → SessionConfig → ℕ → Option Best → Option Attrs
told_by setup prefix state config r best = while_established state (tell_out setup.home_as (out_side setup r config) prefix best)

module _ (setup : Setup) (w v : World) (p : ℕ) (peering : PeeringSetup) (one : Held setup w p peering) (other : Held setup v p peering)
    (placed : placement setup v.operator p ≡ placement setup w.operator p) where
  abbrev here : ℕ
  here = placement setup w.operator p

  abbrev there : ℕ
  there = placement setup v.operator p

  alike_there : AreAlike (peering_of peering.config) one.session.story other.session.story (state one.session) (state other.session)
  alike_there =
      alike (peering_of peering.config) (said_in_all setup p peering) one.session.story other.session.story (state one.session) (state other.session)
      one.reads other.reads

  same_heard : other.session.adj_rib_in ≡ one.session.adj_rib_in
  same_heard = other.adj_rib_in ∙ alike_there.heard ∙ sym one.adj_rib_in

  same_config : other.session.config ≡ one.session.config
  same_config = other.config ∙ sym one.config

  same_open : got_open (peering_of other.session.config) other.session.story ≡ got_open (peering_of one.session.config) one.session.story
  same_open =
      ap (λ (c : SessionConfig). got_open (peering_of c) other.session.story) other.config
      ∙ alike_there.opened
      ∙ sym (ap (λ (c : SessionConfig). got_open (peering_of c) one.session.story) one.config)

  same_route : (r : ℕ) (prefix : PrefixValue) → session_route setup r other.session prefix ≡ session_route setup r one.session prefix
  same_route r prefix =
      ap (λ (c : SessionConfig). route_by setup r c
      (got_open (peering_of other.session.config) other.session.story) other.session.adj_rib_in prefix) same_config
      ∙ ap (λ (o : Option open_type.OpenMsg). route_by setup r one.session.config o other.session.adj_rib_in prefix) same_open
      ∙ ap (λ (t : Routes). route_by setup r one.session.config (got_open (peering_of one.session.config) one.session.story) t prefix) same_heard

  abbrev routes_at : ℕ → PrefixValue → Place → List SessionRoute
  routes_at r prefix place = map (λ session. session_route setup r session prefix) (claims.sessions_at place)

  same_routes : (r : ℕ) (prefix : PrefixValue) → r < routers_in setup
      → routes_at r prefix ((v.router r).places p) ≡ routes_at r prefix ((w.router r).places p)
  same_routes r prefix l = by_place (cases_eq r (placement setup w.operator p)) where
    by_place : (r ≡ placement setup w.operator p) ⊎ (r ≢ placement setup w.operator p)
        → routes_at r prefix ((v.router r).places p) ≡ routes_at r prefix ((w.router r).places p)
    by_place (inl e) =
        ap (routes_at r prefix) (ap (λ (q : ℕ). (v.router q).places p) (e ∙ sym placed) ∙ other.here)
        ∙ ap (λ (x : SessionRoute). x ∷ []) (same_route r prefix)
        ∙ sym (ap (routes_at r prefix) (ap (λ (q : ℕ). (w.router q).places p) e ∙ one.here))
    by_place (inr ne) = ap (routes_at r prefix) (other.elsewhere r l (λ e. ne (e ∙ placed)) ∙ sym (one.elsewhere r l ne))

  one_session : ((r : ℕ) (prefix : PrefixValue) → r < routers_in setup → map.get (v.router r).best prefix ≡ map.get (w.router r).best prefix)
      → HaveOneSession setup w v p
  one_session best = record {
    one = one.session;
    other = other.session;
    here = one.here;
    there = other.here;
    placed = placed;
    states = alike_there.state;
    adj_rib_in = same_heard;
    adj_rib_out = λ prefix.
        other.adj_rib_out prefix
        ∙ ap (λ (s : SessionState). told_by setup prefix s other.session.config there (map.get (v.router there).best prefix)) alike_there.state
        ∙ ap (λ (c : SessionConfig). told_by setup prefix (state one.session) c there (map.get (v.router there).best prefix)) same_config
        ∙ ap (λ (q : ℕ). told_by setup prefix (state one.session) one.session.config q (map.get (v.router q).best prefix)) placed
        ∙ ap (λ (b : Option Best). told_by setup prefix (state one.session) one.session.config here b) (best here prefix one.known)
        ∙ sym (one.adj_rib_out prefix);
  }

module _ (setup : Setup) (w v : World) (ok : IsSetup setup) (timer : HasNoTimer setup) (reached : Reached setup w) (reached_other : Reached setup v)
    (settled : IsSettled setup w) (settled_other : IsSettled setup v) (log : HaveOneLog w v)
    (even : (prefix : PrefixValue) → IsEven (prefix_mesh setup w prefix)) where
  solves : claims.Solves setup w
  solves = quiet_solves_is setup w ok reached settled.quiet

  solves_other : claims.Solves setup v
  solves_other = quiet_solves_is setup v ok reached_other settled_other.quiet

  -- both sessions of a peering
  record BothHeld (p : ℕ) : Type 0 where
    peering : PeeringSetup
    one : Held setup w p peering
    other : Held setup v p peering

  both_held : (p : ℕ) → p < peerings_in setup → BothHeld p
  both_held p l =
      let some = some_peering setup p l in
      record {
        peering = some.0;
        one = held setup ok timer w reached settled p some.0 l some.1;
        other = held setup ok timer v reached_other settled_other p some.0 l some.1;
      }

  same_sessions : (prefix : PrefixValue) (r : ℕ) → r < routers_in setup → claims.session_routes setup v r prefix ≡ claims.session_routes setup w r prefix
  same_sessions prefix r l = flat_same _ _ (peering_numbers setup) (all_in _ 0 (peerings_in setup) (λ p k.
      let both = both_held p (omega (arith, k)) in
      same_routes setup w v p both.peering both.one both.other (placed_same setup w v ok reached reached_other settled settled_other log p) r prefix l))

  same_best : (r : ℕ) (prefix : PrefixValue) → r < routers_in setup → map.get (v.router r).best prefix ≡ map.get (w.router r).best prefix
  same_best r prefix l = equal_tables setup prefix w v solves solves_other (even prefix) (same_sessions prefix) r l

  pub one_answer : HaveOneAnswer setup w v
  one_answer = record {
    best = same_best;
    tellings = λ r q prefix l m ne.
        solves_other.tellings r q prefix l m ne ∙ ap (λ (b : Option Best). tell_in b) (same_best r prefix l) ∙ sym (solves.tellings r q prefix l m ne);
    sessions = λ p l. (let both = both_held p l in one_session setup w v p both.peering both.one both.other
        (placed_same setup w v ok reached reached_other settled settled_other log p) same_best);
  }
