-- Values of the forms of a capsule, from their parts.
use Rattle.std.proofs.Common.{ℕ, Bool, List}
use Rattle.std.specs.Prelude.{Option}
use Rattle.tcp_seq.specs.declared.segment.Way.TheVariants.{Remote}
use Rattle.tcp_seq.specs.declared.state.Piece.{Piece}
use Rattle.tcp_seq.specs.declared.state.EndState.{EndState}
use Rattle.capsule_bytes.specs.declared.parts.CapsuleParts.{CapsuleParts}
use Rattle.capsule_bytes.specs.declared.parts.PartLine.{PartLine}
use Rattle.capsule_bytes.specs.declared.parts.PartChange.{PartChange}
use Rattle.capsule_bytes.specs.declared.read.Config.{Config}
use Rattle.capsule_bytes.specs.Fields.{Field}
use Rattle.capsule_bytes.specs.Capsules.{config_fields}

abbrev pub config_form : Config → List Field
config_form c = config_fields c.peering.0 c.remote_as c.home_as c.identifier c.remote_address c.local_address c.home_hold c.offered c.unicast

abbrev pub config : (peering remote_as home_as identifier remote_address local_address hold : ℕ) (offered unicast : Bool) → Config
config p r h i ra la hold o u = record {
  peering = record { 0 = p };
  remote_as = r;
  home_as = h;
  identifier = i;
  remote_address = ra;
  local_address = la;
  home_hold = hold;
  offered = o;
  unicast = u;
}

abbrev pub end_state : (send_first acked sent : ℕ) (waiting : List ℕ) (receive_first taken : ℕ) (ready : List ℕ) (ahead : List Piece) (turn : ℕ)
    (owed : Bool)
    → EndState
end_state s a t waiting r taken ready ahead turn owed = record {
  way = Remote;
  peering = record { 0 = 0 };
  send_first = record { 0 = s };
  acked = a;
  sent = t;
  waiting = waiting;
  receive_first = record { 0 = r };
  taken = taken;
  ready = ready;
  ahead = ahead;
  acked_at_turn = turn;
  owed = owed;
}

abbrev pub parts_of : Config → (import export : Option (List ℕ)) → EndState → (held : List ℕ) → List PartLine → List PartChange → CapsuleParts
parts_of c import export end held story late = record {
  peering = c.peering;
  remote_as = c.remote_as;
  home_as = c.home_as;
  identifier = c.identifier;
  remote_address = c.remote_address;
  local_address = c.local_address;
  home_hold = c.home_hold;
  offered = c.offered;
  unicast = c.unicast;
  import = import;
  export = export;
  end = end;
  held = held;
  story = story;
  late = late;
}
