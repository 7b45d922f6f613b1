-- Every change of a peering leaves its session what its story tells, and linked with the remote.
use Rattle.std.proofs.Common.{◌≡◌, ℕ, ◌+◌, ◌≤◌, ◌^◌, false, List, length, Option, Some, None, refl, sym, ap, ◌∙◌, subst, arith}
use Rattle.std.specs.Prelude.{slice_get, option_map}
use Rattle.std.proofs.lemmas.Option.{same_Some}
use Rattle.bgp_types.specs.declared.message.Message.TheVariants.{KeepaliveMsg}
use Rattle.bgp_types.specs.Spelling.{spell}
use Rattle.bgp_story.specs.Legal.{IsPeering}
use Rattle.tcp_seq.specs.Endpoint.{Endpoint, fresh_endpoint}
use Rattle.tcp_seq.specs.Connection.{AreLinked, StaysLinked}
use Rattle.tcp_seq.proofs.Flows.{turned, fresh_linked, sends_linked, emits_linked, takes_linked}
use Rattle.session_value.specs.declared.config.SessionConfig.{SessionConfig}
use Rattle.session_value.specs.Sessions.{SessionValue, peering_of, begun}
use Rattle.session_value.specs.Ties.{IsOfStory}
use Rattle.session_value.proofs.GotTies.{gets_of_story}
use Rattle.session_value.proofs.PutTies.{puts_of_story}
use Rattle.session_value.proofs.RoundTies.{passes_of_story}
use Rattle.session_value.proofs.Ties.{begun_is, emits_of_story, takes_of_story, stream_fits}
use Rattle.graft_model.specs.First.{first_far, first_world}
use Rattle.graft_model.specs.FarRows.{FarTaken, FarSent, Beats}
use Rattle.graft_model.specs.Parts.{FarPart, Seg, PointAt, World}
use Rattle.graft_model.specs.Setups.{Setup, PeeringSetup, IsSetup, IsPeeringSetup, config_of, start_of}
use Rattle.graft_laws.specs.Life.{Acts, Change, Rests, Lands, Clears, Puts, Emits, Arrives, Gets, Ticks, Strays, IsToSay, FarActs, SameLine, Grafts}
use Rattle.graft_laws.specs.Phases.{Phase, Idle}
use Rattle.graft_laws.specs.Streams.{Streams, IsUnbroken}
use Rattle.graft_laws.proofs.Configs.{same_config}
use Rattle.graft_laws.proofs.FarLines.{far_acts}
use Rattle.graft_laws.proofs.HomeLines.{unmoved, same_line, line_gets, line_gives, comes_in, line_says}
use Rattle.graft_laws.proofs.SessionEnds.{puts_stays, passes_stays, gets_stays}

-- ---- the first world

-- the peering that has a configuration
record Known (setup : Setup) (p : ℕ) (config : SessionConfig) : Type 0 where
  peering : PeeringSetup
  there : slice_get setup.peerings p ≡ Some peering
  same : peering.config ≡ config

known : (setup : Setup) (p : ℕ) (config : SessionConfig) → config_of setup p ≡ Some config → Known setup p config
known setup p config is = by_peering (slice_get setup.peerings p) refl is where
  by_peering : (o : Option PeeringSetup) → slice_get setup.peerings p ≡ o → option_map (λ (peering : PeeringSetup). peering.config) o ≡ Some config
      → Known setup p config
  by_peering None there e = absurd cc
  by_peering (Some peering) there e = record { peering = peering; there = there; same = same_Some peering.config config e }

linked_first : (put said : List ℕ) → length put ≤ 2 ^ 20 → length said ≤ 2 ^ 20
    → AreLinked (record fresh_endpoint { stream = put }) (record fresh_endpoint { stream = said })
linked_first put said fits fits' =
    let home : Endpoint = record fresh_endpoint { stream = put } in
    let far : Endpoint = record fresh_endpoint { stream = said } in
    let one : StaysLinked fresh_endpoint home fresh_endpoint =
    sends_linked fresh_endpoint home fresh_endpoint put fresh_linked (record { fits = omega (arith, fits); sent = refl }) in
    let two : StaysLinked fresh_endpoint far home =
    sends_linked fresh_endpoint far home said (turned home fresh_endpoint one.linked) (record { fits = omega (arith, fits'); sent = refl }) in
    turned far home two.linked

first_streams : (setup : Setup) (p : ℕ) (put : List ℕ) (peering : PeeringSetup) → slice_get setup.peerings p ≡ Some peering → length put ≤ 2 ^ 20
    → length peering.opening ≤ 4096
    → Streams (first_world setup) p (record fresh_endpoint { stream = put })
first_streams setup p put peering there fits opening =
    let far : first_far (slice_get setup.peerings p) ≡ first_far (Some peering) = ap first_far there in
    record {
      linked = subst (λ (f : FarPart). AreLinked (record fresh_endpoint { stream = put }) f.end)
          (sym far) (linked_first put peering.opening fits (omega (arith, opening)));
      outward = λ r. tt;
      remoteward = subst (λ (f : FarPart). Rattle.std.specs.List.AllByRecursion
          (Rattle.tcp_seq.specs.Connection.IsEmittedBy (record fresh_endpoint { stream = put })) f.remoteward) (sym far) tt;
      inward = λ r. tt;
      homeward = subst (λ (f : FarPart). Rattle.std.specs.List.AllByRecursion (Rattle.tcp_seq.specs.Connection.IsEmittedBy f.end) f.homeward) (sym far) tt;
    }

pub first_unbroken : (setup : Setup) (p : ℕ) (config : SessionConfig) → IsSetup setup → config_of setup p ≡ Some config
    → IsUnbroken setup (first_world setup) p (Idle (start_of setup p)) (begun config)
first_unbroken setup p config sound is =
    let k : Known setup p config = known setup p config is in
    let it : IsPeeringSetup setup p k.peering = sound.peerings p k.peering k.there in
    let story : IsOfStory (begun config) = begun_is config (subst (λ (c : SessionConfig). IsPeering (peering_of c)) k.same it.valid) in
    record {
      own = record { config = is };
      story = story;
      streams = first_streams setup p (begun config).end.stream k.peering k.there (omega (arith, stream_fits (begun config) story.tied)) it.opening;
    }

-- ---- changes

-- what is carried over changes
record Joined (w : World) (p : ℕ) (session : SessionValue) : Type 0 where
  story : IsOfStory session
  streams : Streams w p session.end

module _ (setup : Setup) (w v : World) (p : ℕ) where
  -- the session stays, and nothing of the peering goes out or comes in
  rests : (s : SessionValue) → SameLine p w v → Joined w p s → Joined v p s
  rests s line is = record { story = is.story; streams = same_line w v p s.end s.end line (unmoved s.end (w.far p).end is.streams.linked) is.streams }

  -- the session changes, and nothing of the peering goes out or comes in
  becomes : (s t : SessionValue) → SameLine p w v → IsOfStory t → StaysLinked s.end t.end (w.far p).end → Joined w p s → Joined v p t
  becomes s t line story stays is = record {
    story = story;
    streams = same_line w v p s.end t.end line stays is.streams;
  }

  changes : (phase next : Phase) (s t : SessionValue)
      → ((round : ℕ) (taken : Option FarTaken) (sent : List FarSent) (part : FarPart)
      → Beats setup p round (w.far p) taken sent part → length (w.far p).end.stream + length (spell KeepaliveMsg false) ≤ 2 ^ 20)
      → Change setup w v p phase s next t → Joined w p s → Joined v p t
  changes _ _ s _ room (Rests line entries) is = rests s line is
  changes _ _ s _ room (Grafts move line entries) is = rests s line is
  changes _ _ s _ room (Clears line entries) is = rests s line is
  changes _ _ s _ room (Lands {q = q} {k = k} {t = t} admitted line entries) is = record {
    story = is.story;
    streams = line_gets w v p t (PointAt k) s.end s.end line (unmoved s.end (w.far p).end is.streams.linked) tt is.streams;
  }
  changes _ _ s next room (Acts r errand live (Puts update puts told line entries)) is =
      becomes s next line (puts_of_story s next update puts is.story) (puts_stays s next update (w.far p).end is.streams.linked puts) is
  changes _ _ s _ room (Acts r errand live (Emits from len segment end emits line entries)) is =
      let stays = emits_linked s.end end (w.far p).end segment is.streams.linked emits.emits in
      record {
        story = emits_of_story s segment end is.story emits.emits;
        streams = line_gets w v p r (Seg segment) s.end end line stays.0 stays.1 is.streams;
      }
  changes _ _ s _ room (Acts r errand live (Arrives segment end arrives line entries)) is =
      let his = comes_in w v p r segment s.end line is.streams in
      let stays = takes_linked s.end end (w.far p).end segment is.streams.linked his arrives in
      record {
        story = takes_of_story s segment end is.story arrives;
        streams = line_gives w v p r segment s.end end line stays is.streams;
      }
  changes _ _ s next room (Acts r errand live (Gets bytes gets line entries)) is =
      becomes s next line (gets_of_story s next bytes gets is.story) (gets_stays s next bytes (w.far p).end is.story.tied is.streams.linked gets) is
  changes _ _ s next room (Acts r errand live (Ticks round passes line entries)) is =
      becomes s next line (passes_of_story s next round passes is.story) (passes_stays s next round (w.far p).end is.streams.linked passes) is
  changes _ _ s _ room (Strays r segment line entries) is = record {
    story = is.story;
    streams = line_gives w v p r segment s.end s.end line (unmoved s.end (w.far p).end is.streams.linked) is.streams;
  }
  changes _ _ s _ room (IsToSay step line entries) is = record { story = is.story; streams = line_says w v p step s.end line is.streams }
  changes _ _ s _ room (FarActs event taken sent part row moves entries) is = record {
    story = is.story;
    streams = far_acts setup event w v p s.end taken sent part (λ round. room round taken sent part) is.streams row moves;
  }

pub unbroken_then : (setup : Setup) (w v : World) (p : ℕ) (phase next : Phase) (s t : SessionValue)
    → ((round : ℕ) (taken : Option FarTaken) (sent : List FarSent) (part : FarPart)
    → Beats setup p round (w.far p) taken sent part → length (w.far p).end.stream + length (spell KeepaliveMsg false) ≤ 2 ^ 20)
    → Change setup w v p phase s next t → IsUnbroken setup w p phase s → IsUnbroken setup v p next t
unbroken_then setup w v p phase next s t room change is =
    let joined : Joined v p t = changes setup w v p phase next s t room change (record { story = is.story; streams = is.streams }) in
    record {
      own = record { config = is.own.config ∙ ap (λ (c : SessionConfig). Some c) (sym (same_config change)) };
      story = joined.story;
      streams = joined.streams;
    }
