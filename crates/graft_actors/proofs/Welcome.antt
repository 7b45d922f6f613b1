-- Which items are welcome, case by case.
use Rattle.std.proofs.Common.{◌≡◌, ℕ, ◌+◌, ◌<◌, ◌≤◌, ◌^◌, List, length, Option, Some, None, refl, sym, ap, subst, slice_get}
use Rattle.std.specs.Prelude.{◌≢◌, ◌↔◌}
use Rattle.graft_edge.specs.declared.ids.PeeringId.{PeeringId}
use Rattle.graft_edge.specs.declared.ids.RouterId.{RouterId}
use Rattle.tcp_seq.specs.declared.segment.Segment.{Segment}
use Rattle.tcp_seq.specs.declared.segment.Way.{Way}
use Rattle.tcp_seq.specs.declared.segment.Way.TheVariants.{Home, Remote}
use Rattle.bgp_types.specs.Prefixes.{PrefixValue}
use Rattle.bgp_types.specs.declared.attrs.Route.{Route}
use Rattle.graft_steps.specs.declared.item.Item.{Item}
use Rattle.graft_steps.specs.declared.item.Item.TheVariants as items
use Rattle.graft_steps.specs.declared.refusal.Outcome.{Outcome}
use Rattle.graft_steps.specs.declared.refusal.Refusal.{Refusal}
use Rattle.session_value.specs.Sessions.{SessionValue}
use Rattle.graft_model.specs.Setups.{Setup, SayStep, routers_in, peerings_in}
use Rattle.graft_model.specs.Parts.{RouterPart, FarPart, OperatorPart, Vacant, Live, Shadow, GraftOrder, Report}
use Rattle.graft_model.specs.Parts.{Mesh, Told, Moved, Back, Asked, Answered, Done, Seg, PointAt}
use Rattle.graft_model.specs.RouterRows.{RouterTaken, OrderIn, SegmentIn, MeshIn}
use Rattle.graft_model.specs.FarRows.{FarTaken, OutwardIn, SayIn}
use Rattle.graft_model.specs.OperatorRows.{OperatorTaken, ReportIn}
use Rattle.graft_model.specs.Taking.{RouterMayTake, FarMayTake, OperatorMayTake}
use Rattle.graft_actors.specs.Actors.{RouterIs, FarIs, OperatorIs, Thing, MeshItem, OutwardItem, SegmentItem, OrderItem}
use Rattle.graft_actors.specs.Actors.{ReportItem, StepItem, ActorName, Router, FarSide, Operator, actor_at}
use Rattle.graft_actors.specs.Makes.{taken_by_router, taken_by_far, taken_by_operator}
use Rattle.graft_actors.specs.Items.{thing_of, segment_of, segment_thing, IsOnItsWay, IsSegmentOf}
use Rattle.graft_actors.specs.Acts.{OwnPart, IsWelcome, MayComeFrom, MayTakeFrom}

-- ---- what a thing is that is taken

order_is : (item : RouterTaken) (from : ActorName) (o : GraftOrder) → taken_by_router item ≡ (from, OrderItem o) → item ≡ OrderIn o
order_is (OrderIn x) from o e = let f : OrderItem x ≡ OrderItem o = ap (λ (z : ActorName × Thing). z.1) e in cc
order_is (SegmentIn p s) from o e = let f : SegmentItem s ≡ OrderItem o = ap (λ (z : ActorName × Thing). z.1) e in absurd cc
order_is (MeshIn q m) from o e = let f : MeshItem m ≡ OrderItem o = ap (λ (z : ActorName × Thing). z.1) e in absurd cc

abbrev IsMesh : RouterTaken → Mesh → Type 0
IsMesh item m = (q : ℕ) × (item ≡ MeshIn q m)

mesh_is : (item : RouterTaken) (from : ActorName) (m : Mesh) → taken_by_router item ≡ (from, MeshItem m) → IsMesh item m
mesh_is (OrderIn x) from m e = let f : OrderItem x ≡ MeshItem m = ap (λ (z : ActorName × Thing). z.1) e in absurd cc
mesh_is (SegmentIn p s) from m e = let f : SegmentItem s ≡ MeshItem m = ap (λ (z : ActorName × Thing). z.1) e in absurd cc
mesh_is (MeshIn q n) from m e = let f : MeshItem n ≡ MeshItem m = ap (λ (z : ActorName × Thing). z.1) e in (q, cc)

step_is : (item : FarTaken) (from : ActorName) (n : ℕ) → taken_by_far item ≡ (from, StepItem n) → item ≡ SayIn n
step_is (OutwardIn r o) from n e = let f : OutwardItem o ≡ StepItem n = ap (λ (z : ActorName × Thing). z.1) e in absurd cc
step_is (SayIn m) from n e = let f : StepItem m ≡ StepItem n = ap (λ (z : ActorName × Thing). z.1) e in cc

abbrev IsReport : OperatorTaken → Report → Type 0
IsReport item x = (r : ℕ) × (item ≡ ReportIn r x)

report_is : (item : OperatorTaken) (from : ActorName) (x : Report) → taken_by_operator item ≡ (from, ReportItem x) → IsReport item x
report_is (ReportIn r y) from x e = let f : ReportItem y ≡ ReportItem x = ap (λ (z : ActorName × Thing). z.1) e in (r, cc)

-- ---- who it comes from

abbrev FromRouter : Option ActorName → Type 0
FromRouter o = (r : ℕ) × (o ≡ Some (Router r))

module _ {C : Type 0} (session : C → SessionValue) (setup : Setup) where
  router_segment_comes : (r : ℕ) (g : Segment) (o : Option ActorName) → MayComeFrom session setup o (Router r) (items.Seg g)
      → (p : ℕ) × (o ≡ Some (FarSide p)) × IsSegmentOf setup p Home g
  router_segment_comes r g None m = absurd m
  router_segment_comes r g (Some (Router q)) m = absurd m
  router_segment_comes r g (Some (FarSide p)) m = (p, refl, m)
  router_segment_comes r g (Some Operator) m = absurd m

  far_segment_comes : (p : ℕ) (g : Segment) (o : Option ActorName) → MayComeFrom session setup o (FarSide p) (items.Seg g)
      → (r : ℕ) × (o ≡ Some (Router r)) × IsSegmentOf setup p Remote g
  far_segment_comes p g None m = absurd m
  far_segment_comes p g (Some (Router q)) m = (q, refl, m)
  far_segment_comes p g (Some (FarSide q)) m = absurd m
  far_segment_comes p g (Some Operator) m = absurd m

  far_point_comes : (p k : ℕ) (o : Option ActorName) → MayComeFrom session setup o (FarSide p) (items.PointAt k) → FromRouter o
  far_point_comes p k None m = absurd m
  far_point_comes p k (Some (Router q)) m = (q, refl)
  far_point_comes p k (Some (FarSide q)) m = absurd m
  far_point_comes p k (Some Operator) m = absurd m

  far_say_comes : (p n : ℕ) (o : Option ActorName) → MayComeFrom session setup o (FarSide p) (items.SayOrder n) → o ≡ Some Operator
  far_say_comes p n None m = absurd m
  far_say_comes p n (Some (Router q)) m = absurd m
  far_say_comes p n (Some (FarSide q)) m = absurd m
  far_say_comes p n (Some Operator) m = refl

  order_comes : (r k : ℕ) (peering : PeeringId) (target : RouterId) (o : Option ActorName)
      → MayComeFrom session setup o (Router r) (items.GraftOrder k peering target) → o ≡ Some Operator
  order_comes r k peering target None m = absurd m
  order_comes r k peering target (Some (Router q)) m = absurd m
  order_comes r k peering target (Some (FarSide q)) m = absurd m
  order_comes r k peering target (Some Operator) m = refl

  told_comes : (r : ℕ) (prefix : PrefixValue) (route : Option Route) (o : Option ActorName)
      → MayComeFrom session setup o (Router r) (items.Told prefix route) → FromRouter o
  told_comes r prefix route None m = absurd m
  told_comes r prefix route (Some (Router q)) m = (q, refl)
  told_comes r prefix route (Some (FarSide q)) m = absurd m
  told_comes r prefix route (Some Operator) m = absurd m

  moved_comes : (r k : ℕ) (capsule : C) (o : Option ActorName) → MayComeFrom session setup o (Router r) (items.Moved k capsule)
      → FromRouter o × IsOnItsWay setup (session capsule)
  moved_comes r k capsule None m = absurd m
  moved_comes r k capsule (Some (Router q)) m = ((q, refl), m)
  moved_comes r k capsule (Some (FarSide q)) m = absurd m
  moved_comes r k capsule (Some Operator) m = absurd m

  back_comes : (r k : ℕ) (capsule : C) (refusal : Refusal) (o : Option ActorName)
      → MayComeFrom session setup o (Router r) (items.Back k capsule refusal) → FromRouter o × IsOnItsWay setup (session capsule)
  back_comes r k capsule refusal None m = absurd m
  back_comes r k capsule refusal (Some (Router q)) m = ((q, refl), m)
  back_comes r k capsule refusal (Some (FarSide q)) m = absurd m
  back_comes r k capsule refusal (Some Operator) m = absurd m

  asked_comes : (r k : ℕ) (peering : PeeringId) (o : Option ActorName) → MayComeFrom session setup o (Router r) (items.Asked k peering) → FromRouter o
  asked_comes r k peering None m = absurd m
  asked_comes r k peering (Some (Router q)) m = (q, refl)
  asked_comes r k peering (Some (FarSide q)) m = absurd m
  asked_comes r k peering (Some Operator) m = absurd m

  answered_comes : (r k : ℕ) (peering : PeeringId) (o : Option ActorName) → MayComeFrom session setup o (Router r) (items.Answered k peering) → FromRouter o
  answered_comes r k peering None m = absurd m
  answered_comes r k peering (Some (Router q)) m = (q, refl)
  answered_comes r k peering (Some (FarSide q)) m = absurd m
  answered_comes r k peering (Some Operator) m = absurd m

  done_comes : (r k : ℕ) (peering : PeeringId) (o : Option ActorName) → MayComeFrom session setup o (Router r) (items.Done k peering) → FromRouter o
  done_comes r k peering None m = absurd m
  done_comes r k peering (Some (Router q)) m = (q, refl)
  done_comes r k peering (Some (FarSide q)) m = absurd m
  done_comes r k peering (Some Operator) m = absurd m

  report_comes : (k : ℕ) (outcome : Outcome) (o : Option ActorName) → MayComeFrom session setup o Operator (items.Report k outcome) → FromRouter o
  report_comes k outcome None m = absurd m
  report_comes k outcome (Some (Router q)) m = (q, refl)
  report_comes k outcome (Some (FarSide q)) m = absurd m
  report_comes k outcome (Some Operator) m = absurd m

  -- ---- what it does with it

  takes_order : (r : ℕ) (part : RouterPart) (x : GraftOrder) (o : Option ActorName) → MayTakeFrom setup (Router r) (RouterIs part) o (OrderItem x)
      → RouterMayTake setup part (OrderIn x)
  takes_order r part x None m = absurd m
  takes_order r part x (Some from) m = subst (RouterMayTake setup part) (order_is m.0 from x m.1) m.2

  -- whichever router an item of the mesh is from
  takes_mesh : (May : Type 0) (r : ℕ) (part : RouterPart) (x : Mesh) (o : Option ActorName) → ((q : ℕ) → RouterMayTake setup part (MeshIn q x) → May)
      → MayTakeFrom setup (Router r) (RouterIs part) o (MeshItem x) → May
  takes_mesh May r part x None may m = absurd m
  takes_mesh May r part x (Some from) may m = let e = mesh_is m.0 from x m.1 in may e.0 (subst (RouterMayTake setup part) e.1 m.2)

  takes_say : (p n : ℕ) (part : FarPart) (o : Option ActorName) → MayTakeFrom setup (FarSide p) (FarIs part) o (StepItem n) → FarMayTake setup p part (SayIn n)
  takes_say p n part None m = absurd m
  takes_say p n part (Some from) m = subst (FarMayTake setup p part) (step_is m.0 from n m.1) m.2

  takes_report : (part : OperatorPart) (x : Report) (o : Option ActorName) → MayTakeFrom setup Operator (OperatorIs part) o (ReportItem x)
      → (part.source x.graft ≢ None) × (part.outcome x.graft ≡ None)
  takes_report part x None m = absurd m
  takes_report part x (Some from) m = let e = report_is m.0 from x m.1 in subst (OperatorMayTake part) e.1 m.2

  -- ---- the two together

  module _ (n : ℕ) where
    -- from whom it comes, with what is asked of the actor's part
    welcome : (own : OwnPart) (item : Item C) (from : ActorName) → own.setup ≡ setup → actor_at setup n ≡ Some from
        → MayComeFrom session setup (Some from) own.name item
        → MayTakeFrom setup own.name own.part (Some from) (thing_of session setup item) → IsWelcome session own n item
    welcome own item from same e comes takes = record {
      comes = subst (λ (s : Setup). MayComeFrom session s (actor_at s n) own.name item) (sym same)
          (subst (λ (o : Option ActorName). MayComeFrom session setup o own.name item) (sym e) comes);
      takes = subst (λ (s : Setup). MayTakeFrom s own.name own.part (actor_at s n) (thing_of session s item)) (sym same)
          (subst (λ (o : Option ActorName). MayTakeFrom setup own.name own.part o (thing_of session setup item)) (sym e) takes);
    }

    pub router_segment : (r : ℕ) (part : RouterPart) (g : Segment)
        → IsWelcome session (record { setup = setup; name = Router r; part = RouterIs part }) n (items.Seg g)
        ↔ ((p : ℕ) × (actor_at setup n ≡ Some (FarSide p)) × IsSegmentOf setup p Home g)
    router_segment r part g = ((λ w. router_segment_comes r g (actor_at setup n) w.comes), back) where
      back : ((p : ℕ) × (actor_at setup n ≡ Some (FarSide p)) × IsSegmentOf setup p Home g)
          → IsWelcome session (record { setup = setup; name = Router r; part = RouterIs part }) n (items.Seg g)
      back (p, e, is) = welcome (record { setup = setup; name = Router r; part = RouterIs part }) (items.Seg g) (FarSide p) refl e is
          (SegmentIn p (segment_of setup g), ap (λ (way : Way). (FarSide p, segment_thing way (segment_of setup g))) (sym is.way), tt)

    pub far_segment : (p : ℕ) (part : FarPart) (g : Segment)
        → IsWelcome session (record { setup = setup; name = FarSide p; part = FarIs part }) n (items.Seg g)
        ↔ ((r : ℕ) × (actor_at setup n ≡ Some (Router r)) × IsSegmentOf setup p Remote g)
    far_segment p part g = ((λ w. far_segment_comes p g (actor_at setup n) w.comes), back) where
      back : ((r : ℕ) × (actor_at setup n ≡ Some (Router r)) × IsSegmentOf setup p Remote g)
          → IsWelcome session (record { setup = setup; name = FarSide p; part = FarIs part }) n (items.Seg g)
      back (r, e, is) = welcome (record { setup = setup; name = FarSide p; part = FarIs part }) (items.Seg g) (Router r) refl e is
          (OutwardIn r (Seg (segment_of setup g)), ap (λ (way : Way). (Router r, segment_thing way (segment_of setup g))) (sym is.way), tt)

    pub far_point : (p k : ℕ) (part : FarPart)
        → IsWelcome session (record { setup = setup; name = FarSide p; part = FarIs part }) n (items.PointAt k)
        ↔ ((r : ℕ) × (actor_at setup n ≡ Some (Router r)))
    far_point p k part = ((λ w. far_point_comes p k (actor_at setup n) w.comes), back) where
      back : ((r : ℕ) × (actor_at setup n ≡ Some (Router r)))
          → IsWelcome session (record { setup = setup; name = FarSide p; part = FarIs part }) n (items.PointAt k)
      back (r, e) = welcome (record { setup = setup; name = FarSide p; part = FarIs part })
          (items.PointAt k) (Router r) refl e tt (OutwardIn r (PointAt k), refl, tt)

    pub far_say : (p step : ℕ) (part : FarPart)
        → IsWelcome session (record { setup = setup; name = FarSide p; part = FarIs part }) n (items.SayOrder step)
        ↔ ((actor_at setup n ≡ Some Operator) × (bytes : List ℕ)
        × (slice_get setup.steps step ≡ Some (SayStep p bytes)) × (length part.end.stream + length bytes ≤ 2 ^ 20))
    far_say p step part =
        ((λ w. let may = takes_say p step part (actor_at setup n) w.takes in (far_say_comes p step (actor_at setup n) w.comes, may.0, may.1, may.2)), back)
      where
        back : ((actor_at setup n ≡ Some Operator) × (bytes : List ℕ)
            × (slice_get setup.steps step ≡ Some (SayStep p bytes)) × (length part.end.stream + length bytes ≤ 2 ^ 20))
            → IsWelcome session (record { setup = setup; name = FarSide p; part = FarIs part }) n (items.SayOrder step)
        back (e, bytes, is, room) = welcome (record { setup = setup; name = FarSide p; part = FarIs part })
            (items.SayOrder step) Operator refl e tt (SayIn step, refl, (bytes, is, room))

    pub router_order : (r k : ℕ) (part : RouterPart) (peering : PeeringId) (target : RouterId)
        → IsWelcome session (record { setup = setup; name = Router r; part = RouterIs part }) n (items.GraftOrder k peering target)
        ↔ ((actor_at setup n ≡ Some Operator) × (target.0 < routers_in setup) × (s : SessionValue) × (part.places peering.0 ≡ Live s None))
    router_order r k part peering target = (
      (λ w. let may = takes_order r part (record { graft = k; peering = peering.0; target = target.0 }) (actor_at setup n) w.takes in
          (order_comes r k peering target (actor_at setup n) w.comes, may.0, may.1, may.2.is)),
      back,
    ) where
      back : ((actor_at setup n ≡ Some Operator) × (target.0 < routers_in setup) × (s : SessionValue) × (part.places peering.0 ≡ Live s None))
          → IsWelcome session (record { setup = setup; name = Router r; part = RouterIs part }) n (items.GraftOrder k peering target)
      back (e, known, s, is) = welcome (record { setup = setup; name = Router r; part = RouterIs part }) (items.GraftOrder k peering target) Operator refl e tt
          (OrderIn (record { graft = k; peering = peering.0; target = target.0 }), refl, (known, s, record { is = is }))

    pub router_told : (r : ℕ) (part : RouterPart) (prefix : PrefixValue) (route : Option Route)
        → IsWelcome session (record { setup = setup; name = Router r; part = RouterIs part }) n (items.Told prefix route)
        ↔ ((q : ℕ) × (actor_at setup n ≡ Some (Router q)))
    router_told r part prefix route = ((λ w. told_comes r prefix route (actor_at setup n) w.comes), back) where
      back : ((q : ℕ) × (actor_at setup n ≡ Some (Router q)))
          → IsWelcome session (record { setup = setup; name = Router r; part = RouterIs part }) n (items.Told prefix route)
      back (q, e) = welcome (record { setup = setup; name = Router r; part = RouterIs part })
          (items.Told prefix route) (Router q) refl e tt (MeshIn q (Told prefix route), refl, tt)

    pub router_moved : (r k : ℕ) (part : RouterPart) (capsule : C)
        → IsWelcome session (record { setup = setup; name = Router r; part = RouterIs part }) n (items.Moved k capsule)
        ↔ (((q : ℕ) × (actor_at setup n ≡ Some (Router q))) × IsOnItsWay setup (session capsule)
        × ((session capsule).config.peering.0 < peerings_in setup) × (part.places (session capsule).config.peering.0 ≡ Vacant))
    router_moved r k part capsule = (
      (λ w. let may = takes_mesh (((session capsule).config.peering.0 < peerings_in setup) × (part.places (session capsule).config.peering.0 ≡ Vacant))
          r part (Moved k (session capsule).config.peering.0 (session capsule)) (actor_at setup n) (λ q may. may) w.takes in
          let comes = moved_comes r k capsule (actor_at setup n) w.comes in (comes.0, comes.1, may.0, may.1)),
      back,
    ) where
      back : (((q : ℕ) × (actor_at setup n ≡ Some (Router q))) × IsOnItsWay setup (session capsule)
          × ((session capsule).config.peering.0 < peerings_in setup) × (part.places (session capsule).config.peering.0 ≡ Vacant))
          → IsWelcome session (record { setup = setup; name = Router r; part = RouterIs part }) n (items.Moved k capsule)
      back ((q, e), way, known, vacant) = welcome (record { setup = setup; name = Router r; part = RouterIs part }) (items.Moved k capsule)
          (Router q) refl e way (MeshIn q (Moved k (session capsule).config.peering.0 (session capsule)), refl, (known, vacant))

    pub router_back : (r k : ℕ) (part : RouterPart) (capsule : C) (refusal : Refusal)
        → IsWelcome session (record { setup = setup; name = Router r; part = RouterIs part }) n (items.Back k capsule refusal)
        ↔ (((q : ℕ) × (actor_at setup n ≡ Some (Router q))) × IsOnItsWay setup (session capsule) × (part.places (session capsule).config.peering.0 ≡ Shadow k))
    router_back r k part capsule refusal = (
      (λ w. let comes = back_comes r k capsule refusal (actor_at setup n) w.comes in (
        comes.0,
        comes.1,
        takes_mesh (part.places (session capsule).config.peering.0 ≡ Shadow k) r part
            (Back k (session capsule).config.peering.0 (session capsule) refusal) (actor_at setup n) (λ q may. may) w.takes,
      )),
      back,
    ) where
      back : (((q : ℕ) × (actor_at setup n ≡ Some (Router q))) × IsOnItsWay setup (session capsule)
          × (part.places (session capsule).config.peering.0 ≡ Shadow k))
          → IsWelcome session (record { setup = setup; name = Router r; part = RouterIs part }) n (items.Back k capsule refusal)
      back ((q, e), way, may) = welcome (record { setup = setup; name = Router r; part = RouterIs part }) (items.Back k capsule refusal)
          (Router q) refl e way (MeshIn q (Back k (session capsule).config.peering.0 (session capsule) refusal), refl, may)

    pub router_asked : (r k : ℕ) (part : RouterPart) (peering : PeeringId)
        → IsWelcome session (record { setup = setup; name = Router r; part = RouterIs part }) n (items.Asked k peering)
        ↔ ((q : ℕ) × (actor_at setup n ≡ Some (Router q)))
    router_asked r k part peering = ((λ w. asked_comes r k peering (actor_at setup n) w.comes), back) where
      back : ((q : ℕ) × (actor_at setup n ≡ Some (Router q)))
          → IsWelcome session (record { setup = setup; name = Router r; part = RouterIs part }) n (items.Asked k peering)
      back (q, e) = welcome (record { setup = setup; name = Router r; part = RouterIs part })
          (items.Asked k peering) (Router q) refl e tt (MeshIn q (Asked k peering.0), refl, tt)

    pub router_answered : (r k : ℕ) (part : RouterPart) (peering : PeeringId)
        → IsWelcome session (record { setup = setup; name = Router r; part = RouterIs part }) n (items.Answered k peering)
        ↔ ((q : ℕ) × (actor_at setup n ≡ Some (Router q)))
    router_answered r k part peering = ((λ w. answered_comes r k peering (actor_at setup n) w.comes), back) where
      back : ((q : ℕ) × (actor_at setup n ≡ Some (Router q)))
          → IsWelcome session (record { setup = setup; name = Router r; part = RouterIs part }) n (items.Answered k peering)
      back (q, e) = welcome (record { setup = setup; name = Router r; part = RouterIs part })
          (items.Answered k peering) (Router q) refl e tt (MeshIn q (Answered k peering.0), refl, tt)

    pub router_done : (r k : ℕ) (part : RouterPart) (peering : PeeringId)
        → IsWelcome session (record { setup = setup; name = Router r; part = RouterIs part }) n (items.Done k peering)
        ↔ (((q : ℕ) × (actor_at setup n ≡ Some (Router q))) × (part.places peering.0 ≡ Shadow k))
    router_done r k part peering = (
      (λ w. (
        done_comes r k peering (actor_at setup n) w.comes,
        takes_mesh (part.places peering.0 ≡ Shadow k) r part (Done k peering.0) (actor_at setup n) (λ q may. may) w.takes,
      )),
      back,
    )
      where
        back : (((q : ℕ) × (actor_at setup n ≡ Some (Router q))) × (part.places peering.0 ≡ Shadow k))
            → IsWelcome session (record { setup = setup; name = Router r; part = RouterIs part }) n (items.Done k peering)
        back ((q, e), may) = welcome (record { setup = setup; name = Router r; part = RouterIs part })
            (items.Done k peering) (Router q) refl e tt (MeshIn q (Done k peering.0), refl, may)

    pub operator_report : (k : ℕ) (part : OperatorPart) (outcome : Outcome)
        → IsWelcome session (record { setup = setup; name = Operator; part = OperatorIs part }) n (items.Report k outcome)
        ↔ (((r : ℕ) × (actor_at setup n ≡ Some (Router r))) × (part.source k ≢ None) × (part.outcome k ≡ None))
    operator_report k part outcome = (
      (λ w. let may = takes_report part (record { graft = k; outcome = outcome }) (actor_at setup n) w.takes in
          (report_comes k outcome (actor_at setup n) w.comes, may.0, may.1)),
      back,
    )
      where
        back : (((r : ℕ) × (actor_at setup n ≡ Some (Router r))) × (part.source k ≢ None) × (part.outcome k ≡ None))
            → IsWelcome session (record { setup = setup; name = Operator; part = OperatorIs part }) n (items.Report k outcome)
        back ((r, e), ordered, unended) = welcome (record { setup = setup; name = Operator; part = OperatorIs part })
            (items.Report k outcome) (Router r) refl e tt (ReportIn r (record { graft = k; outcome = outcome }), refl, (ordered, unended))
