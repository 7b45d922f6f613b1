-- A session that begins.
use Rattle.std.proofs.Common.{◌≡◌, ℕ, ◌^◌, ◌<◌, ◌≤◌, Bool, true, false, List, [], ◌∷◌, length, None, refl, sym, subst, append-nil, arith}
use Rattle.std.specs.FinMap as map
use Rattle.std.specs.List.{flat_map}
use Rattle.bgp_types.specs.Spelling.{cap_octets, param_octets}
use Rattle.bgp_story.specs.Opens.{home_caps}
use Rattle.bgp_story.proofs.Ranges.{field_range}
use Rattle.bgp_types.specs.declared.message.Message.TheVariants.{OpenMsg}
use Rattle.bgp_types.specs.Spelling.{spell}
use Rattle.bgp_types.specs.Writable.{IsWritable}
use Rattle.tcp_seq.specs.declared.segment.Way.TheVariants.{Remote}
use Rattle.tcp_seq.specs.declared.state.EndState.{EndState}
use Rattle.tcp_end.specs.State.{fresh_end}
use Rattle.tcp_end.specs.Standing.{EndStands}
use Rattle.tcp_end.specs.Whole.{endpoint_of}
use Rattle.bgp_story.specs.declared.line.Line.{Line}
use Rattle.bgp_story.specs.declared.line.Line.TheVariants.{Put}
use Rattle.bgp_story.specs.Legal.{IsPeering}
use Rattle.bgp_story.specs.Readings.{put_bytes}
use Rattle.session_value.specs.declared.config.SessionConfig.{SessionConfig}
use Rattle.session_value.specs.Sessions.{begun, peering_of}
use Rattle.session_value.proofs.Rooms.{open_size}
use Rattle.session_value.proofs.Ties.{begun_is}
use Rattle.bgp_session.specs.declared.parts.Parts.{Parts}
use Rattle.bgp_session.specs.Inner.{SessionInvariant, value_of}
use Rattle.std.specs.declared.alloc.Global.{Global}
use Rattle.tcp_end.proofs.Followed.{fresh_stands}
use Rattle.bgp_story.specs.Readings.{Routes}
use Rattle.bgp_story.specs.States.{StoryValue}
use Rattle.bgp_session.proofs.Ends.{sent_stands, with_sent}

-- the OPEN can be written, in few octets
pub first_short : (config : SessionConfig) (wide : Bool) → IsPeering (peering_of config) → length (spell (OpenMsg (peering_of config).first) wide) ≤ 45
first_short config wide valid = open_size (peering_of config).first wide valid.home

-- the octets of the parameters, of which each has one capability
abbrev params : (home_as : ℕ) → (offered unicast : Bool) → List ℕ
params home_as offered unicast = flat_map (λ cap. param_octets (cap_octets cap)) (home_caps home_as offered unicast)

params_short : (home_as : ℕ) (offered unicast : Bool) → length (params home_as offered unicast) < 256
params_short home_as true true = let n : length (params home_as true true) ≡ 16 = refl in omega arith
params_short home_as true false = let n : length (params home_as true false) ≡ 8 = refl in omega arith
params_short home_as false true = let n : length (params home_as false true) ≡ 8 = refl in omega arith
params_short home_as false false = omega arith

pub first_writable : (config : SessionConfig) → IsPeering (peering_of config) → IsWritable (OpenMsg (peering_of config).first) false
first_writable config valid = record {
  body = record {
    as_number = (field_range (peering_of config).first valid.home).1;
    hold = valid.home.hold_fits;
    hold_time = valid.home.hold_time;
    identifier = valid.home.host;
    params = params_short config.home_as config.offered config.unicast;
  };
  size = let short = first_short config false valid in omega (arith, short);
}

module _ (config : SessionConfig) (alloc : Global) (valid : IsPeering (peering_of config))
    (send : config.send_first.0 < 2 ^ 32) (receive : config.receive_first.0 < 2 ^ 32) where
  abbrev octets : List ℕ
  octets = spell (OpenMsg (peering_of config).first) false

  abbrev lines : List Line
  lines = Put (OpenMsg (peering_of config).first) ∷ []

  abbrev first_state : EndState
  first_state = fresh_end Remote config.peering config.send_first config.receive_first

  abbrev pub made : StoryValue → Routes → Routes → EndState → Parts
  made story adj_rib_in adj_rib_out end = record {
    alloc = alloc;
    config = config;
    story = story;
    adj_rib_in = adj_rib_in;
    adj_rib_out = adj_rib_out;
    end = end;
    opened = None;
    left = 0;
    next_round = 0;
  }

  abbrev first_made : Parts
  first_made = made (record { lines = lines; remote_as = config.remote_as }) map.empty map.empty (with_sent first_state octets)

  put_is : put_bytes (peering_of config) lines ≡ octets
  put_is = append-nil octets

  stands : EndStands (with_sent first_state octets) (value_of first_made).end
  stands =
      let short = first_short config false valid in
      subst (λ (xs : List ℕ). EndStands (with_sent first_state octets) (endpoint_of xs [] (with_sent first_state octets))) (sym put_is)
      (sent_stands first_state [] [] octets (fresh_stands Remote config.peering config.send_first config.receive_first) (omega (arith, short)))

  first_keeps : SessionInvariant first_made
  first_keeps = record {
    stands = stands;
    tied = (begun_is config valid).tied;
    peering = refl;
    way = refl;
    send_first = refl;
    receive_first = refl;
    send_fits = send;
    receive_fits = receive;
    remote_as = refl;
    opened = refl;
    left = omega arith;
    next_round = refl;
  }

  pub begins : (story : StoryValue) (adj_rib_in adj_rib_out : Routes) (end : EndState) → story ≡ record { lines = lines; remote_as = config.remote_as }
      → adj_rib_in ≡ map.empty → adj_rib_out ≡ map.empty → end ≡ with_sent first_state octets
      → (value_of (made story adj_rib_in adj_rib_out end) ≡ begun config) × SessionInvariant (made story adj_rib_in adj_rib_out end)
  begins story adj_rib_in adj_rib_out end a b c d =
      subst (λ (x : StoryValue). (value_of (made x adj_rib_in adj_rib_out end) ≡ begun config) × SessionInvariant (made x adj_rib_in adj_rib_out end)) (sym a)
      (subst (λ (x : Routes). (value_of (made (record { lines = lines; remote_as = config.remote_as }) x adj_rib_out end) ≡ begun config)
      × SessionInvariant (made (record { lines = lines; remote_as = config.remote_as }) x adj_rib_out end)) (sym b)
      (subst (λ (x : Routes). (value_of (made (record { lines = lines; remote_as = config.remote_as }) map.empty x end) ≡ begun config)
      × SessionInvariant (made (record { lines = lines; remote_as = config.remote_as }) map.empty x end)) (sym c)
      (subst (λ (x : EndState). (value_of (made (record { lines = lines; remote_as = config.remote_as }) map.empty map.empty x) ≡ begun config)
      × SessionInvariant (made (record { lines = lines; remote_as = config.remote_as }) map.empty map.empty x)) (sym d)
      (refl, first_keeps))))
