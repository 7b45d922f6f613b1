-- What holds for every session holds for one.
use Rattle.std.specs.Prelude.{[], None, false}
use Rattle.std.specs.FinMap as map
use Rattle.tcp_seq.specs.Endpoint.{fresh_endpoint}
use Rattle.session_value.specs.Sessions.{SessionValue}
use Rattle.far_side.specs.Parts.{FarSideInvariant, ForEach}
use Rattle.far_side.specs.declared.fields.Fields.{Fields}

pub some_session : SessionValue
some_session = record {
  config = record {
    peering = record { 0 = 0 };
    home_as = 0;
    identifier = 0;
    remote_as = 0;
    offered = false;
    unicast = false;
    home_hold = 0;
    remote_address = 0;
    local_address = 0;
    send_first = record { 0 = 0 };
    receive_first = record { 0 = 0 };
    import = None;
    export = None;
  };
  story = [];
  adj_rib_in = map.empty;
  adj_rib_out = map.empty;
  end = fresh_endpoint;
}

pub for_each : {C : Type 0} (P : (C → SessionValue) → Type 0) (far : Fields) → ((session : C → SessionValue) → P session)
    → ((session : C → SessionValue) → P session → FarSideInvariant far) → ForEach P far
for_each P far each keeps = record { keeps = keeps (λ x. some_session) (each (λ x. some_session)); each = each }

pub at_one : {C : Type 0} (P : (C → SessionValue) → Type 0) (far : Fields) → ForEach P far → P (λ x. some_session)
at_one P far h = h.each (λ x. some_session)
