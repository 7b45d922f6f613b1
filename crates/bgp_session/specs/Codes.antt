-- How a session is stored as a value.
use Rattle.std.specs.Prelude.{ℕ, Bool, List, refl}
use Rattle.std.specs.Coded.{Coded, code_by, coded×, coded_ℕ, coded_bool, coded_list}
use Rattle.std.specs.FinMap as map
use Rattle.bgp_types.specs.contracts.attrs.Attrs as attrs
use Rattle.bgp_types.specs.Tables.{coded_prefix}
use Rattle.tcp_seq.specs.Endpoint.{Bytes, Endpoint}
use Rattle.bgp_story.specs.contracts.line.Line as line
use Rattle.bgp_story.specs.declared.line.Line.{Line}
use Rattle.bgp_story.specs.Readings.{Routes}
use Rattle.session_value.specs.contracts.config.SessionConfig as config
use Rattle.session_value.specs.declared.config.SessionConfig.{SessionConfig}
use Rattle.session_value.specs.Sessions.{SessionValue}
use Rattle.bgp_session.specs.Running.{RunningSession}

abbrev pub coded_routes : Coded Routes
coded_routes = map.code coded_prefix attrs.the_row.coded

-- an endpoint is stored as the pairs of its fields
abbrev pub coded_endpoint : Coded Endpoint
coded_endpoint =
    code_by (List ℕ × (ℕ × (ℕ × (Bytes × (ℕ × Bool)))))
    (coded× (coded_list coded_ℕ) (coded× coded_ℕ (coded× coded_ℕ (coded× (map.code coded_ℕ coded_ℕ) (coded× coded_ℕ coded_bool)))))
    (λ e. (e.stream, (e.emitted, (e.acked, (e.arrived, (e.read, e.owed))))))
    (λ p. record { stream = p.0; emitted = p.1.0; acked = p.1.1.0; arrived = p.1.1.1.0; read = p.1.1.1.1.0; owed = p.1.1.1.1.1 })
    (λ _. refl)

-- and so is a session
abbrev pub coded_session : Coded SessionValue
coded_session =
    code_by (SessionConfig × (List Line × (Routes × (Routes × Endpoint))))
    (coded× config.the_row.coded (coded× (coded_list line.the_row.coded) (coded× coded_routes (coded× coded_routes coded_endpoint))))
    (λ s. (s.config, (s.story, (s.adj_rib_in, (s.adj_rib_out, s.end)))))
    (λ p. record { config = p.0; story = p.1.0; adj_rib_in = p.1.1.0; adj_rib_out = p.1.1.1.0; end = p.1.1.1.1 })
    (λ _. refl)

abbrev pub coded_running : Coded RunningSession
coded_running = code_by (SessionValue × ℕ) (coded× coded_session coded_ℕ)
    (λ r. (r.session, r.acked_at_turn)) (λ p. record { session = p.0; acked_at_turn = p.1 }) (λ _. refl)
