-- Types that a crate below doesn't export, by what its definitions take.
use Rattle.std.specs.Prelude.{[]}
use Rattle.tcp_seq.specs.declared.segment.Way.TheVariants.{Home}
use Rattle.captured_streams.specs.Peers.{peer_at}
use Rattle.captured_streams.specs.Flows.{one_way}
use Rattle.captured_streams.specs.Readings.{HasOctets}

abbrev taken_by : {X Y : Type 0} → (X → Y) → Type 0
taken_by {X} {Y} f = X

abbrev said_of : {X : Type 0} → (X → Type 0) → Type 0
said_of {X} P = X

abbrev pub Directed : Type 0
Directed = taken_by (peer_at [])

abbrev pub Both : Type 0
Both = taken_by (one_way Home)

abbrev pub Stream : Type 0
Stream = said_of HasOctets
