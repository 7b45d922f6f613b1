-- Worlds of two routers and one peering, written by what each of them has.
use Rattle.std.specs.Prelude.{ℕ, ◌==◌, List, [], if◌then◌else◌}
use Rattle.std.specs.FinMap as map
use Rattle.tcp_seq.specs.Endpoint.{PlacedSegment, fresh_endpoint}
use Rattle.graft_model.specs.Points.{at}
use Rattle.graft_model.specs.Parts.{Place, Vacant, RouterPart, FarPart, OperatorPart, Mesh, Outward, GraftOrder, Report, World}

-- one value at 0, one at 1, and none elsewhere
abbrev pub two : {A : Type 0} → A → A → A → ℕ → A
two none a b n = if n == 0 then a else if n == 1 then b else none

-- a router that has nothing
abbrev pub idle_router : RouterPart
idle_router = record {
  places = λ p. Vacant;
  entries = λ p. map.empty;
  tellings = λ q. map.empty;
  best = map.empty;
  dirty = map.empty;
  due_in = λ q. map.empty;
  due_out = λ p. map.empty;
}

-- a router with this in its place for the one peering
abbrev pub holding : RouterPart → Place → RouterPart
holding part place = record part { places = at (λ p. Vacant) 0 place }

-- a far side that said nothing
abbrev pub idle_far : FarPart
idle_far = record { end = fresh_endpoint; homeward = []; remoteward = []; pointer = 0; followed = 0; keepalives = 0; last_keepalive = 0 }

-- What is on its way: between the two routers, from each of them to the far side, from the far side to a, and between the operator and a,
-- or the far side.
pub record OnTheWay : Type 0 where
  pub to_b : List Mesh
  pub to_a : List Mesh
  pub out_a : List Outward
  pub out_b : List Outward
  pub in_a : List PlacedSegment
  pub ordered : List GraftOrder
  pub reported : List Report
  pub said : List ℕ

abbrev pub nothing_on_the_way : OnTheWay
nothing_on_the_way = record { to_b = []; to_a = []; out_a = []; out_b = []; in_a = []; ordered = []; reported = []; said = [] }

-- the world of these two routers, this far side and this operator
abbrev pub world_of : RouterPart → RouterPart → FarPart → OperatorPart → OnTheWay → World
world_of a b far operator way = record {
  router = two idle_router a b;
  far = at (λ p. idle_far) 0 far;
  operator = operator;
  mesh = two (λ r. []) (at (λ r. []) 1 way.to_b) (at (λ r. []) 0 way.to_a);
  outward = two (λ p. []) (at (λ p. []) 0 way.out_a) (at (λ p. []) 0 way.out_b);
  inward = at (λ p r. []) 0 (at (λ r. []) 0 way.in_a);
  orders = at (λ r. []) 0 way.ordered;
  reports = at (λ r. []) 0 way.reported;
  says = at (λ p. []) 0 way.said;
}
