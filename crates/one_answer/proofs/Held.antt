-- The session of a peering in a settled world, and what it has read.
use Rattle.std.proofs.Common.{◌≡◌, ℕ, ◌<◌, Bool, false, List, ◌++◌, Some, None, sym, ap, ◌∙◌, subst, append_assoc}
use Rattle.std.specs.Prelude.{◌≢◌, slice_get, option_map}
use Rattle.std.specs.FinMap as map
use Rattle.std.proofs.lemmas.Option.{same_Some}
use Rattle.bgp_types.specs.Prefixes.{PrefixValue}
use Rattle.bgp_types.specs.declared.message.SessionState.TheVariants.{OpenSent}
use Rattle.bgp_types.specs.FirstFault.{message_of}
use Rattle.bgp_story.specs.Legal.{Peering, open_in}
use Rattle.bgp_story.specs.Readings.{IsLegal, heard}
use Rattle.bgp_story.proofs.Ranges.{offers_home}
use Rattle.bgp_story.proofs.Shapes.{allowed_of}
use Rattle.session_value.specs.declared.config.SessionConfig.{SessionConfig}
use Rattle.session_value.specs.Sessions.{SessionValue, peering_of, state, while_established}
use Rattle.graft_model.specs.Claims.{SolvesOn}
use Rattle.graft_model.specs.Decisions.{to_tell}
use Rattle.graft_model.specs.OperatorRows.{placement}
use Rattle.graft_model.specs.Parts.{Vacant, Live, World}
use Rattle.graft_model.specs.Setups.{Setup, PeeringSetup, IsSetup, routers_in, peerings_in}
use Rattle.graft_laws.specs.Keeps.{Reached, Has}
use Rattle.graft_laws.specs.Phases.{InBounds}
use Rattle.graft_laws.specs.Streams.{IsUnbroken}
use Rattle.graft_laws.proofs.Phases.{live_session}
use Rattle.graft_laws.proofs.QuietPhases.{quiet_phase}
use Rattle.graft_laws.proofs.QuietSolves.{quiet_solves_is}
use Rattle.graft_laws.proofs.StreamLaws.{always_unbroken}
use Rattle.story_readings.specs.Reads.{StoryReads}
use Rattle.one_answer.specs.Settled.{said_in_all, HasNoTimer, IsSettled}
use Rattle.one_answer.proofs.Timeless.{FirstGot, first_got, HasNoHold, timeless}
use Rattle.one_answer.proofs.Words.{all_said}

-- The session is live where it belongs, and nowhere else, and has read all that its remote says over the whole script.
pub record Held (setup : Setup) (w : World) (p : ℕ) (peering : PeeringSetup) : Type 0 where
  pub session : SessionValue
  pub here : (w.router (placement setup w.operator p)).places p ≡ Live session None
  pub known : placement setup w.operator p < routers_in setup
  pub elsewhere : (r : ℕ) → r < routers_in setup → r ≢ placement setup w.operator p → (w.router r).places p ≡ Vacant
  pub config : session.config ≡ peering.config
  pub adj_rib_in : session.adj_rib_in ≡ heard (peering_of peering.config) session.story
  pub reads : StoryReads (peering_of peering.config) (said_in_all setup p peering) session.story (state session)
  pub adj_rib_out : (prefix : PrefixValue) → map.get session.adj_rib_out prefix
      ≡ while_established (state session) (to_tell setup (placement setup w.operator p) (w.router (placement setup w.operator p)) session prefix)

module _ (setup : Setup) (ok : IsSetup setup) (timer : HasNoTimer setup) (w : World) (reached : Reached setup w) (settled : IsSettled setup w)
    (p : ℕ) (peering : PeeringSetup) (below : p < peerings_in setup) (is : slice_get setup.peerings p ≡ Some peering) where
  abbrev own : Peering
  own = peering_of peering.config

  solves : SolvesOn setup w p
  solves = (quiet_solves_is setup w ok reached settled.quiet).peerings p below

  abbrev session : SessionValue
  session = solves.session

  has : Has setup (IsUnbroken setup) w p
  has = always_unbroken setup w p ok reached below

  unbroken : IsUnbroken setup w p has.phase session
  unbroken =
      let q : ℕ = placement setup w.operator p in
      let same : session ≡ has.session = live_session has.phase has.session session None q (sym solves.placed ∙ has.stands.places q) in
      subst (λ (s : SessionValue). IsUnbroken setup w p has.phase s) (sym same) has.more

  config : session.config ≡ peering.config
  config = same_Some _ _ (sym unbroken.own.config ∙ ap (option_map (λ (x : PeeringSetup). x.config)) is)

  legal : IsLegal own session.story (state session)
  legal = subst (λ (c : SessionConfig). IsLegal (peering_of c) session.story (state session)) config unbroken.story.legal

  said : said_in_all setup p peering ≡ (w.far p).end.stream
  said = sym (all_said setup p peering ok is (timer.beats p peering is) w reached settled)

  no_hold : HasNoHold own session.story
  no_hold o e =
      let first : FirstGot own session.story o = first_got own session.story o solves.got.whole e in
      let c : SessionConfig = peering.config in
      timer.holds p peering first.front (first.rest ++ solves.got.rest) o is
      (said ∙ solves.got.is ∙ ap (λ (xs : List ℕ). xs ++ solves.got.rest) first.is ∙ append_assoc first.front first.rest solves.got.rest)
      first.got
      (ap (λ (b : Bool). open_in (message_of (record { state = OpenSent; remote_as = c.remote_as; offered = b; wide = false }) first.front))
      (sym (offers_home c.home_as c.home_hold c.identifier c.offered c.unicast)) ∙ first.opens)

  pub held : Held setup w p peering
  held = record {
    session = session;
    here = solves.placed;
    known = subst (InBounds setup) (quiet_phase setup w p has.phase has.session settled.quiet has.stands) has.stands.bounds;
    elsewhere = λ r l ne. (solves.elsewhere r l ne).0;
    config = config;
    adj_rib_in = unbroken.story.adj_rib_in ∙ ap (λ (c : SessionConfig). heard (peering_of c) session.story) config;
    reads = record {
      legal = legal;
      timeless = timeless own session.story (state session) (allowed_of own session.story (state session) legal) no_hold;
      all = record { rest = solves.got.rest; is = said ∙ solves.got.is; end = solves.got.end };
    };
    adj_rib_out = solves.adj_rib_out;
  }
