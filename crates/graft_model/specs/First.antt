-- The world that a laboratory begins with.
use Rattle.std.specs.Prelude.{ℕ, ◌==◌, [], false, Option, Some, None, if◌then◌else◌, fold, slice_get}
use Rattle.std.specs.FinMap as map
use Rattle.tcp_seq.specs.Endpoint.{fresh_endpoint}
use Rattle.session_value.specs.Sessions.{begun}
use Rattle.graft_model.specs.Setups.{Setup, PeeringSetup, of_router}
use Rattle.graft_model.specs.Parts.{Place, Vacant, Live, Unmade, RouterPart, FarPart, OperatorPart, World}
use Rattle.graft_model.specs.Evacuations.{with_gifts}

-- Each session is held where it starts, with its OPEN put.
abbrev pub place_in : ℕ → Option PeeringSetup → Place
place_in r None = Vacant
place_in r (Some peering) = if peering.start == r then Live (begun peering.config) None else Vacant

abbrev pub first_router : Setup → ℕ → RouterPart
first_router setup r = record {
  places = λ p. place_in r (slice_get setup.peerings p);
  entries = λ p. map.empty;
  tellings = λ q. map.empty;
  best = map.empty;
  dirty = fold (λ prefixes network. map.insert prefixes network tt) map.empty (of_router (λ router. router.networks) [] setup r);
  due_in = λ q. map.empty;
  due_out = λ p. map.empty;
}

-- Its remote has said its opening, and the link points there.
abbrev pub first_far : Option PeeringSetup → FarPart
first_far None = record { end = fresh_endpoint; homeward = []; remoteward = []; pointer = 0; followed = 0; keepalives = 0; last_keepalive = 0 }
first_far (Some peering) = record {
  end = record fresh_endpoint { stream = peering.opening };
  homeward = [];
  remoteward = [];
  pointer = peering.start;
  followed = 0;
  keepalives = 0;
  last_keepalive = 0;
}

-- Nothing has been ordered, and the evacuate steps of the first group have given out their grafts.
abbrev pub first_operator : Setup → OperatorPart
first_operator setup = with_gifts setup (record { group = 0; issued = λ n. false; given = λ k. Unmade; source = λ k. None; outcome = λ k. None })

-- Nothing is on its way, nothing has been ordered, and the routers' own networks are dirty.
abbrev pub first_world : Setup → World
first_world setup = record {
  router = first_router setup;
  far = λ p. first_far (slice_get setup.peerings p);
  operator = first_operator setup;
  mesh = λ a b. [];
  outward = λ r p. [];
  inward = λ p r. [];
  orders = λ r. [];
  reports = λ r. [];
  says = λ p. [];
}
