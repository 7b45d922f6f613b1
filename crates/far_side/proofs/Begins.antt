-- What a far side begins with.
use Rattle.std.proofs.Common.{◌≡◌, ℕ, [], Option, Some, sym, ap, ◌∙◌}
use Rattle.std.specs.Prelude.{option_map, unwrap_or}
use Rattle.std.proofs.lemmas.Option.{slice_get_within}
use Rattle.tcp_seq.specs.Endpoint.{fresh_endpoint}
use Rattle.tcp_seq.specs.declared.segment.Way.TheVariants.{Home, Remote}
use Rattle.graft_model.specs.Setups.{PeeringSetup, keepalive_interval_of}
use Rattle.graft_actors.specs.Items.{home_first, remote_first}
use Rattle.graft_actors.specs.declared.known.Known.{Known}
use Rattle.remote_end.specs.Remotes.{RemoteValue}
use Rattle.far_side.specs.Links.{LinkValue}
use Rattle.actor_configs.specs.Says.{bytes_to_say, bytes_at}
use Rattle.far_side.specs.Parts.{FarSideInvariant}
use Rattle.actor_configs.specs.Fars.{IsFarConfigOf}
use Rattle.actor_configs.specs.declared.far.FarConfig.{FarConfig}
use Rattle.far_side.specs.declared.fields.Fields.{Fields}
use Rattle.actor_configs.specs.declared.says.SayTable.{SayTable}

-- the fields that it begins with
abbrev pub begun : Known → FarConfig → SayTable → RemoteValue → LinkValue → LinkValue → Fields
begun known config table r home remote = record {
  known = known;
  routers = config.routers;
  peerings = config.peerings;
  peering = config.peering;
  says = table;
  plan = config.plan;
  keepalive_interval = config.beat;
  remote = r;
  homeward = home;
  remoteward = remote;
  pointer = config.pointer;
  followed = 0;
  turns = 0;
  keepalives = 0;
  last_keepalive = 0;
}

module _ (known : Known) (config : FarConfig) (table : SayTable) (r : RemoteValue) (home remote : LinkValue) (is : IsFarConfigOf known.setup config)
    (says : (step : ℕ) → bytes_at table step ≡ bytes_to_say config.says step)
    (r_is : r ≡ record {
      end = record fresh_endpoint { stream = config.opening };
      at_turn = 0;
      peering = config.peering.0;
      send_first = config.send_first.0;
      receive_first = config.receive_first.0;
    })
    (home_is : home ≡ record {
      way = Home;
      peering = config.peering.0;
      seq_first = config.send_first.0;
      ack_first = config.receive_first.0;
      segments = [];
      plans = [];
      put = 0;
    })
    (remote_is : remote ≡ record {
      way = Remote;
      peering = config.peering.0;
      seq_first = config.receive_first.0;
      ack_first = config.send_first.0;
      segments = [];
      plans = [];
      put = 0;
    }) where
  sends : config.send_first.0 ≡ remote_first known.setup config.peering.0
  sends = ap (λ s. s.0) is.sends
      ∙ sym (ap (λ (o : Option PeeringSetup). unwrap_or (option_map (λ c. c.receive_first.0) (option_map (λ q. q.config) o)) 0) is.is)

  receives : config.receive_first.0 ≡ home_first known.setup config.peering.0
  receives = ap (λ s. s.0) is.receives
      ∙ sym (ap (λ (o : Option PeeringSetup). unwrap_or (option_map (λ c. c.send_first.0) (option_map (λ q. q.config) o)) 0) is.is)

  pub begun_keeps : FarSideInvariant (begun known config table r home remote)
  begun_keeps = record {
    routers = is.routers;
    few = is.few;
    peerings = is.peerings;
    there = slice_get_within known.setup.peerings config.peering.0 is.peering is.is;
    keepalive_interval = ap (option_map keepalive_interval_of) is.is ∙ ap Some (sym is.beat);
    says = λ step. says step ∙ is.says step;
    remote = ap (λ (v : RemoteValue). v.peering) r_is;
    sends = ap (λ (v : RemoteValue). v.send_first) r_is ∙ sends;
    receives = ap (λ (v : RemoteValue). v.receive_first) r_is ∙ receives;
    homeward = record {
      way = ap (λ (l : LinkValue). l.way) home_is;
      peering = ap (λ (l : LinkValue). l.peering) home_is;
      seq_first = ap (λ (l : LinkValue). l.seq_first) home_is ∙ sends;
      ack_first = ap (λ (l : LinkValue). l.ack_first) home_is ∙ receives;
    };
    remoteward = record {
      way = ap (λ (l : LinkValue). l.way) remote_is;
      peering = ap (λ (l : LinkValue). l.peering) remote_is;
      seq_first = ap (λ (l : LinkValue). l.seq_first) remote_is ∙ receives;
      ack_first = ap (λ (l : LinkValue). l.ack_first) remote_is ∙ sends;
    };
    pointer = rw is.pointer is.known;
    pointed = rw home_is tt;
  }
