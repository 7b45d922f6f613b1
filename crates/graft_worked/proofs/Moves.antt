-- Steps between worlds of two routers, one for each way in which an event takes and sends.
use Rattle.std.proofs.Common.{ℕ, ◌<◌, List, [], ◌∷◌, ◌++◌, Some, None, refl, sym, lit<}
use Rattle.tcp_seq.specs.Endpoint.{PlacedSegment}
use Rattle.graft_model.specs.Parts.{RouterPart, FarPart, OperatorPart, Mesh, Outward, GraftOrder, Report}
use Rattle.graft_model.specs.RouterRows.{OrderIn, SegmentIn, MeshIn, MeshTo, OutwardTo, ReportOut}
use Rattle.graft_model.specs.FarRows.{OutwardIn, SayIn}
use Rattle.graft_model.specs.OperatorRows.{ReportIn, OrderTo, SayTo}
use Rattle.graft_model.specs.Setups.{Setup, routers_in, peerings_in}
use Rattle.graft_model.specs.declared.event.RouterEvent.{RouterEvent}
use Rattle.graft_model.specs.declared.event.FarEvent.{FarEvent}
use Rattle.graft_model.specs.declared.event.OperatorEvent.{OperatorEvent}
use Rattle.graft_model.specs.Steps.{ByRouter, ByFar, ByOperator, router_row, far_row, operator_row, MayMake, Step}
use Rattle.graft_worked.specs.Base.{base}
use Rattle.graft_worked.specs.Places.{idle_router, idle_far, OnTheWay, world_of}
use Rattle.graft_worked.proofs.Points.{at-at, two-0, two-1, two2-0, two2-1, one2}

-- a laboratory of the routers a and b and the peering c, among others perhaps
pub record IsSmall (setup : Setup) : Type 0 where
  pub a : 0 < routers_in setup
  pub b : 1 < routers_in setup
  pub c : 0 < peerings_in setup

pub base_small : IsSmall base
base_small = record { a = lit< tt; b = lit< tt; c = lit< tt }

module _ (setup : Setup) (small : IsSmall setup) (a b : RouterPart) (far : FarPart) (o : OperatorPart) (way : OnTheWay) where
  -- ---- router a

  pub a_alone : (event : RouterEvent) (a' : RouterPart) → router_row setup 0 event a None [] a'
      → Step setup (ByRouter 0 event) (world_of a b far o way) (world_of a' b far o way)
  a_alone event a' row = record {
    known = small.a;
    taken = None;
    sent = [];
    part = a';
    row = row;
    without = world_of a b far o way;
    took = refl;
    is = λ i. record (world_of a b far o way) { router = sym (two-0 idle_router a b a') i };
  }

  pub a_to_b : (event : RouterEvent) (a' : RouterPart) (item : Mesh) → router_row setup 0 event a None (MeshTo 1 item ∷ []) a'
      → Step setup (ByRouter 0 event) (world_of a b far o way) (world_of a' b far o (record way { to_b = way.to_b ++ item ∷ [] }))
  a_to_b event a' item row = record {
    known = small.a;
    taken = None;
    sent = MeshTo 1 item ∷ [];
    part = a';
    row = row;
    without = world_of a b far o way;
    took = refl;
    is = λ i. record (world_of a b far o way) {
      router = sym (two-0 idle_router a b a') i;
      mesh = sym (two2-0 [] 1 0 way.to_b way.to_a (way.to_b ++ item ∷ [])) i;
    };
  }

  pub a_ordered_by : (event : RouterEvent) (a' : RouterPart) (order : GraftOrder) (rest : List GraftOrder)
      → router_row setup 0 event a (Some (OrderIn order)) [] a'
      → Step setup (ByRouter 0 event) (world_of a b far o (record way { ordered = order ∷ rest })) (world_of a' b far o (record way { ordered = rest }))
  a_ordered_by event a' order rest row = record {
    known = small.a;
    taken = Some (OrderIn order);
    sent = [];
    part = a';
    row = row;
    without = world_of a b far o (record way { ordered = rest });
    took = (record { rest = rest; is = refl }, λ i. record (world_of a b far o way) { orders = sym (at-at (λ r. []) 0 (order ∷ rest) rest) i });
    is = λ i. record (world_of a b far o (record way { ordered = rest })) { router = sym (two-0 idle_router a b a') i };
  }

  pub a_from_b : (event : RouterEvent) (a' : RouterPart) (item : Mesh) (rest : List Mesh) → router_row setup 0 event a (Some (MeshIn 1 item)) [] a'
      → Step setup (ByRouter 0 event) (world_of a b far o (record way { to_a = item ∷ rest })) (world_of a' b far o (record way { to_a = rest }))
  a_from_b event a' item rest row = record {
    known = small.a;
    taken = Some (MeshIn 1 item);
    sent = [];
    part = a';
    row = row;
    without = world_of a b far o (record way { to_a = rest });
    took = (record { rest = rest; is = refl }, λ i. record (world_of a b far o way) { mesh = sym (two2-1 [] 1 0 way.to_b (item ∷ rest) rest) i });
    is = λ i. record (world_of a b far o (record way { to_a = rest })) { router = sym (two-0 idle_router a b a') i };
  }

  pub a_ends : (event : RouterEvent) (a' : RouterPart) (item : Mesh) (rest : List Mesh) (report : Report)
      → router_row setup 0 event a (Some (MeshIn 1 item)) (ReportOut report ∷ []) a'
      → Step setup (ByRouter 0 event) (world_of a b far o (record way { to_a = item ∷ rest }))
      (world_of a' b far o (record way { to_a = rest; reported = way.reported ++ report ∷ [] }))
  a_ends event a' item rest report row = record {
    known = small.a;
    taken = Some (MeshIn 1 item);
    sent = ReportOut report ∷ [];
    part = a';
    row = row;
    without = world_of a b far o (record way { to_a = rest });
    took = (record { rest = rest; is = refl }, λ i. record (world_of a b far o way) { mesh = sym (two2-1 [] 1 0 way.to_b (item ∷ rest) rest) i });
    is = λ i. record (world_of a b far o (record way { to_a = rest })) {
      router = sym (two-0 idle_router a b a') i;
      reports = sym (at-at (λ r. []) 0 way.reported (way.reported ++ report ∷ [])) i;
    };
  }

  -- ---- router b

  pub b_alone : (event : RouterEvent) (b' : RouterPart) → router_row setup 1 event b None [] b'
      → Step setup (ByRouter 1 event) (world_of a b far o way) (world_of a b' far o way)
  b_alone event b' row = record {
    known = small.b;
    taken = None;
    sent = [];
    part = b';
    row = row;
    without = world_of a b far o way;
    took = refl;
    is = λ i. record (world_of a b far o way) { router = sym (two-1 idle_router a b b') i };
  }

  pub b_to_a : (event : RouterEvent) (b' : RouterPart) (item : Mesh) → router_row setup 1 event b None (MeshTo 0 item ∷ []) b'
      → Step setup (ByRouter 1 event) (world_of a b far o way) (world_of a b' far o (record way { to_a = way.to_a ++ item ∷ [] }))
  b_to_a event b' item row = record {
    known = small.b;
    taken = None;
    sent = MeshTo 0 item ∷ [];
    part = b';
    row = row;
    without = world_of a b far o way;
    took = refl;
    is = λ i. record (world_of a b far o way) {
      router = sym (two-1 idle_router a b b') i;
      mesh = sym (two2-1 [] 1 0 way.to_b way.to_a (way.to_a ++ item ∷ [])) i;
    };
  }

  pub b_from_a : (event : RouterEvent) (b' : RouterPart) (item : Mesh) (rest : List Mesh) → router_row setup 1 event b (Some (MeshIn 0 item)) [] b'
      → Step setup (ByRouter 1 event) (world_of a b far o (record way { to_b = item ∷ rest })) (world_of a b' far o (record way { to_b = rest }))
  b_from_a event b' item rest row = record {
    known = small.b;
    taken = Some (MeshIn 0 item);
    sent = [];
    part = b';
    row = row;
    without = world_of a b far o (record way { to_b = rest });
    took = (record { rest = rest; is = refl }, λ i. record (world_of a b far o way) { mesh = sym (two2-0 [] 1 0 (item ∷ rest) way.to_a rest) i });
    is = λ i. record (world_of a b far o (record way { to_b = rest })) { router = sym (two-1 idle_router a b b') i };
  }

  pub b_takes_in : (event : RouterEvent) (b' : RouterPart) (item : Mesh) (rest : List Mesh) (out : Outward)
      → router_row setup 1 event b (Some (MeshIn 0 item)) (OutwardTo 0 out ∷ []) b'
      → Step setup (ByRouter 1 event) (world_of a b far o (record way { to_b = item ∷ rest }))
      (world_of a b' far o (record way { to_b = rest; out_b = way.out_b ++ out ∷ [] }))
  b_takes_in event b' item rest out row = record {
    known = small.b;
    taken = Some (MeshIn 0 item);
    sent = OutwardTo 0 out ∷ [];
    part = b';
    row = row;
    without = world_of a b far o (record way { to_b = rest });
    took = (record { rest = rest; is = refl }, λ i. record (world_of a b far o way) { mesh = sym (two2-0 [] 1 0 (item ∷ rest) way.to_a rest) i });
    is = λ i. record (world_of a b far o (record way { to_b = rest })) {
      router = sym (two-1 idle_router a b b') i;
      outward = sym (two2-1 [] 0 0 way.out_a way.out_b (way.out_b ++ out ∷ [])) i;
    };
  }

  pub b_sends_back : (event : RouterEvent) (b' : RouterPart) (item back : Mesh) (rest : List Mesh)
      → router_row setup 1 event b (Some (MeshIn 0 item)) (MeshTo 0 back ∷ []) b'
      → Step setup (ByRouter 1 event) (world_of a b far o (record way { to_b = item ∷ rest }))
      (world_of a b' far o (record way { to_b = rest; to_a = way.to_a ++ back ∷ [] }))
  b_sends_back event b' item back rest row = record {
    known = small.b;
    taken = Some (MeshIn 0 item);
    sent = MeshTo 0 back ∷ [];
    part = b';
    row = row;
    without = world_of a b far o (record way { to_b = rest });
    took = (record { rest = rest; is = refl }, λ i. record (world_of a b far o way) { mesh = sym (two2-0 [] 1 0 (item ∷ rest) way.to_a rest) i });
    is = λ i. record (world_of a b far o (record way { to_b = rest })) {
      router = sym (two-1 idle_router a b b') i;
      mesh = sym (two2-1 [] 1 0 rest way.to_a (way.to_a ++ back ∷ [])) i;
    };
  }

  -- ---- the far side and the operator

  pub far_from_b : (event : FarEvent) (far' : FarPart) (item : Outward) (rest : List Outward) → far_row setup 0 event far (Some (OutwardIn 1 item)) [] far'
      → Step setup (ByFar 0 event) (world_of a b far o (record way { out_b = item ∷ rest })) (world_of a b far' o (record way { out_b = rest }))
  far_from_b event far' item rest row = record {
    known = small.c;
    taken = Some (OutwardIn 1 item);
    sent = [];
    part = far';
    row = row;
    without = world_of a b far o (record way { out_b = rest });
    took = (record { rest = rest; is = refl }, λ i. record (world_of a b far o way) { outward = sym (two2-1 [] 0 0 way.out_a (item ∷ rest) rest) i });
    is = λ i. record (world_of a b far o (record way { out_b = rest })) { far = sym (at-at (λ p. idle_far) 0 far far') i };
  }

  pub operator_alone : (event : OperatorEvent) (o' : OperatorPart) → MayMake setup event (world_of a b far o way) → operator_row setup event o None [] o'
      → Step setup (ByOperator event) (world_of a b far o way) (world_of a b far o' way)
  operator_alone event o' may row =
      record { may = may; taken = None; sent = []; part = o'; row = row; without = world_of a b far o way; took = refl; is = refl }

  pub operator_orders : (event : OperatorEvent) (o' : OperatorPart) (order : GraftOrder) → MayMake setup event (world_of a b far o way)
      → operator_row setup event o None (OrderTo 0 order ∷ []) o'
      → Step setup (ByOperator event) (world_of a b far o way) (world_of a b far o' (record way { ordered = way.ordered ++ order ∷ [] }))
  operator_orders event o' order may row = record {
    may = may;
    taken = None;
    sent = OrderTo 0 order ∷ [];
    part = o';
    row = row;
    without = world_of a b far o way;
    took = refl;
    is = λ i. record (world_of a b far o' way) { orders = sym (at-at (λ r. []) 0 way.ordered (way.ordered ++ order ∷ [])) i };
  }

  pub operator_notes : (event : OperatorEvent) (o' : OperatorPart) (report : Report) (rest : List Report)
      → MayMake setup event (world_of a b far o (record way { reported = report ∷ rest }))
      → operator_row setup event o (Some (ReportIn 0 report)) [] o'
      → Step setup (ByOperator event) (world_of a b far o (record way { reported = report ∷ rest })) (world_of a b far o' (record way { reported = rest }))
  operator_notes event o' report rest may row = record {
    may = may;
    taken = Some (ReportIn 0 report);
    sent = [];
    part = o';
    row = row;
    without = world_of a b far o (record way { reported = rest });
    took = (record { rest = rest; is = refl }, λ i. record (world_of a b far o way) { reports = sym (at-at (λ r. []) 0 (report ∷ rest) rest) i });
    is = refl;
  }

  -- ---- segments, reports and sayings

  pub a_reports : (event : RouterEvent) (a' : RouterPart) (report : Report) → router_row setup 0 event a None (ReportOut report ∷ []) a'
      → Step setup (ByRouter 0 event) (world_of a b far o way) (world_of a' b far o (record way { reported = way.reported ++ report ∷ [] }))
  a_reports event a' report row = record {
    known = small.a;
    taken = None;
    sent = ReportOut report ∷ [];
    part = a';
    row = row;
    without = world_of a b far o way;
    took = refl;
    is = λ i. record (world_of a b far o way) {
      router = sym (two-0 idle_router a b a') i;
      reports = sym (at-at (λ r. []) 0 way.reported (way.reported ++ report ∷ [])) i;
    };
  }

  pub a_to_far : (event : RouterEvent) (a' : RouterPart) (out : Outward) → router_row setup 0 event a None (OutwardTo 0 out ∷ []) a'
      → Step setup (ByRouter 0 event) (world_of a b far o way) (world_of a' b far o (record way { out_a = way.out_a ++ out ∷ [] }))
  a_to_far event a' out row = record {
    known = small.a;
    taken = None;
    sent = OutwardTo 0 out ∷ [];
    part = a';
    row = row;
    without = world_of a b far o way;
    took = refl;
    is = λ i. record (world_of a b far o way) {
      router = sym (two-0 idle_router a b a') i;
      outward = sym (two2-0 [] 0 0 way.out_a way.out_b (way.out_a ++ out ∷ [])) i;
    };
  }

  pub a_from_far : (event : RouterEvent) (a' : RouterPart) (segment : PlacedSegment) (rest : List PlacedSegment)
      → router_row setup 0 event a (Some (SegmentIn 0 segment)) [] a'
      → Step setup (ByRouter 0 event) (world_of a b far o (record way { in_a = segment ∷ rest })) (world_of a' b far o (record way { in_a = rest }))
  a_from_far event a' segment rest row = record {
    known = small.a;
    taken = Some (SegmentIn 0 segment);
    sent = [];
    part = a';
    row = row;
    without = world_of a b far o (record way { in_a = rest });
    took = (record { rest = rest; is = refl }, λ i. record (world_of a b far o way) { inward = sym (one2 [] (segment ∷ rest) rest) i });
    is = λ i. record (world_of a b far o (record way { in_a = rest })) { router = sym (two-0 idle_router a b a') i };
  }

  pub far_alone : (event : FarEvent) (far' : FarPart) → far_row setup 0 event far None [] far'
      → Step setup (ByFar 0 event) (world_of a b far o way) (world_of a b far' o way)
  far_alone event far' row = record {
    known = small.c;
    taken = None;
    sent = [];
    part = far';
    row = row;
    without = world_of a b far o way;
    took = refl;
    is = λ i. record (world_of a b far o way) { far = sym (at-at (λ p. idle_far) 0 far far') i };
  }

  pub far_says : (event : FarEvent) (far' : FarPart) (step : ℕ) (rest : List ℕ) → far_row setup 0 event far (Some (SayIn step)) [] far'
      → Step setup (ByFar 0 event) (world_of a b far o (record way { said = step ∷ rest })) (world_of a b far' o (record way { said = rest }))
  far_says event far' step rest row = record {
    known = small.c;
    taken = Some (SayIn step);
    sent = [];
    part = far';
    row = row;
    without = world_of a b far o (record way { said = rest });
    took = (record { rest = rest; is = refl }, λ i. record (world_of a b far o way) { says = sym (at-at (λ p. []) 0 (step ∷ rest) rest) i });
    is = λ i. record (world_of a b far o (record way { said = rest })) { far = sym (at-at (λ p. idle_far) 0 far far') i };
  }

  pub far_from_a : (event : FarEvent) (far' : FarPart) (item : Outward) (rest : List Outward) → far_row setup 0 event far (Some (OutwardIn 0 item)) [] far'
      → Step setup (ByFar 0 event) (world_of a b far o (record way { out_a = item ∷ rest })) (world_of a b far' o (record way { out_a = rest }))
  far_from_a event far' item rest row = record {
    known = small.c;
    taken = Some (OutwardIn 0 item);
    sent = [];
    part = far';
    row = row;
    without = world_of a b far o (record way { out_a = rest });
    took = (record { rest = rest; is = refl }, λ i. record (world_of a b far o way) { outward = sym (two2-0 [] 0 0 (item ∷ rest) way.out_b rest) i });
    is = λ i. record (world_of a b far o (record way { out_a = rest })) { far = sym (at-at (λ p. idle_far) 0 far far') i };
  }

  pub far_to_a : (event : FarEvent) (far' : FarPart) (segment : PlacedSegment)
      → far_row setup 0 event far None (record { router = 0; segment = segment } ∷ []) far'
      → Step setup (ByFar 0 event) (world_of a b far o way) (world_of a b far' o (record way { in_a = way.in_a ++ segment ∷ [] }))
  far_to_a event far' segment row = record {
    known = small.c;
    taken = None;
    sent = record { router = 0; segment = segment } ∷ [];
    part = far';
    row = row;
    without = world_of a b far o way;
    took = refl;
    is = λ i. record (world_of a b far o way) { far = sym (at-at (λ p. idle_far) 0 far far') i; inward = sym (one2 [] way.in_a (way.in_a ++ segment ∷ [])) i };
  }

  pub operator_says : (event : OperatorEvent) (o' : OperatorPart) (step : ℕ) → MayMake setup event (world_of a b far o way)
      → operator_row setup event o None (SayTo 0 step ∷ []) o'
      → Step setup (ByOperator event) (world_of a b far o way) (world_of a b far o' (record way { said = way.said ++ step ∷ [] }))
  operator_says event o' step may row = record {
    may = may;
    taken = None;
    sent = SayTo 0 step ∷ [];
    part = o';
    row = row;
    without = world_of a b far o way;
    took = refl;
    is = λ i. record (world_of a b far o' way) { says = sym (at-at (λ p. []) 0 way.said (way.said ++ step ∷ [])) i };
  }
