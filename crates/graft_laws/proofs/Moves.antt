-- A step of the world in equations, channel by channel.
use Rattle.std.proofs.Common.{◌≡◌, ℕ, List, [], ◌∷◌, ◌++◌, Option, Some, None, refl, sym, ap, ◌∙◌, arith, append_assoc}
use Rattle.std.specs.Prelude.{fold}
use Rattle.std.proofs.lemmas.Bool.Decides.{nat_tests}
use Rattle.std.proofs.lemmas.List.{append-nil}
use Rattle.tcp_seq.specs.Endpoint.{PlacedSegment}
use Rattle.graft_model.specs.Points.{at, at2}
use Rattle.graft_model.specs.Setups.{Setup}
use Rattle.graft_model.specs.Parts.{RouterPart, FarPart, Outward, GraftOrder, Report, World}
use Rattle.graft_model.specs.RouterRows.{RouterTaken, OrderIn, SegmentIn, MeshIn, RouterSent, MeshTo, OutwardTo, ReportOut}
use Rattle.graft_model.specs.FarRows.{FarTaken, OutwardIn, SayIn, FarSent}
use Rattle.graft_model.specs.OperatorRows.{OperatorTaken, ReportIn, OperatorSent, OrderTo, SayTo}
use Rattle.graft_model.specs.declared.event.RouterEvent.{RouterEvent}
use Rattle.graft_model.specs.declared.event.FarEvent.{FarEvent}
use Rattle.graft_model.specs.declared.event.OperatorEvent.{OperatorEvent}
use Rattle.graft_model.specs.Steps.{RouterTook, FarTook, OperatorTook, router_sends, far_sends, operator_sends, RouterStep, FarStep, OperatorStep}
use Rattle.graft_laws.specs.Phases.{only_at, only2}
use Rattle.graft_laws.specs.Moves.{mesh_taken, inward_taken, orders_taken, mesh_sent, outward_sent, reports_sent, RouterHeads, RouterMoves}
use Rattle.graft_laws.specs.Moves.{outward_taken, says_taken, inward_sent, FarHeads, FarMoves, orders_sent, says_sent, OperatorMoves}

-- ---- one channel, of any kind of item

-- one item more at the end of a channel
put1 : {A : Type 0} (f : ℕ → List A) (j n : ℕ) (x : A) → at f j (f j ++ x ∷ []) n ≡ f n ++ only_at j x n
put1 f j n x = grind (arith, nat_tests, append-nil)

put2 : {A : Type 0} (f : ℕ → ℕ → List A) (j k a b : ℕ) (x : A) → at2 f j k (f j k ++ x ∷ []) a b ≡ f a b ++ only2 j k x a b
put2 f j k a b x = grind (arith, nat_tests, append-nil)

-- the head of a channel is taken
cut1 : {A : Type 0} (f : ℕ → List A) (j n : ℕ) (x : A) (rest : List A) → f j ≡ x ∷ rest → only_at j x n ++ at f j rest n ≡ f n
cut1 f j n x rest e = grind (arith, nat_tests)

cut2 : {A : Type 0} (f : ℕ → ℕ → List A) (j k a b : ℕ) (x : A) (rest : List A) → f j k ≡ x ∷ rest → only2 j k x a b ++ at2 f j k rest a b ≡ f a b
cut2 f j k a b x rest e = grind (arith, nat_tests)

-- one item more, and then the others
then_others : {A : Type 0} (was more others now : List A) (mid : List A) → mid ≡ was ++ more → now ≡ mid ++ others → now ≡ was ++ (more ++ others)
then_others was more others now mid e f = f ∙ (ap (λ (x : List _). x ++ others) e ∙ append_assoc was more others)

-- ---- a router

record Sends (r : ℕ) (sent : List RouterSent) (w v : World) : Type 0 where
  router : v.router ≡ w.router
  far : v.far ≡ w.far
  operator : v.operator ≡ w.operator
  mesh : (a b : ℕ) → v.mesh a b ≡ w.mesh a b ++ mesh_sent r sent a b
  outward : (a p : ℕ) → v.outward a p ≡ w.outward a p ++ outward_sent r sent a p
  inward : v.inward ≡ w.inward
  orders : v.orders ≡ w.orders
  reports : (a : ℕ) → v.reports a ≡ w.reports a ++ reports_sent r sent a
  says : v.says ≡ w.says

sends_more : (r : ℕ) (item : RouterSent) (sent : List RouterSent) (w v : World) → Sends r sent (router_sends r w item) v → Sends r (item ∷ sent) w v
sends_more r (MeshTo q item) sent w v s = record {
  router = s.router;
  far = s.far;
  operator = s.operator;
  mesh = λ a b. then_others (w.mesh a b) (only2 r q item a b) (mesh_sent r sent a b) (v.mesh a b) _ (put2 w.mesh r q a b item) (s.mesh a b);
  outward = s.outward;
  inward = s.inward;
  orders = s.orders;
  reports = s.reports;
  says = s.says;
}
sends_more r (OutwardTo q item) sent w v s = record {
  router = s.router;
  far = s.far;
  operator = s.operator;
  mesh = s.mesh;
  outward = λ a p. then_others (w.outward a p) (only2 r q item a p) (outward_sent r sent a p) (v.outward a p) _ (put2 w.outward r q a p item) (s.outward a p);
  inward = s.inward;
  orders = s.orders;
  reports = s.reports;
  says = s.says;
}
sends_more r (ReportOut report) sent w v s = record {
  router = s.router;
  far = s.far;
  operator = s.operator;
  mesh = s.mesh;
  outward = s.outward;
  inward = s.inward;
  orders = s.orders;
  reports = λ a. then_others (w.reports a) (only_at r report a) (reports_sent r sent a) (v.reports a) _ (put1 w.reports r a report) (s.reports a);
  says = s.says;
}

sends : (r : ℕ) (sent : List RouterSent) (w v : World) → v ≡ fold (router_sends r) w sent → Sends r sent w v
sends r [] w v is = rw is (record {
  router = refl;
  far = refl;
  operator = refl;
  mesh = λ a b. sym (append-nil (w.mesh a b));
  outward = λ a p. sym (append-nil (w.outward a p));
  inward = refl;
  orders = refl;
  reports = λ a. sym (append-nil (w.reports a));
  says = refl;
})
sends r (item ∷ sent) w v is = sends_more r item sent w v (sends r sent (router_sends r w item) v is)

record Takes (r : ℕ) (taken : Option RouterTaken) (w u : World) : Type 0 where
  heads : RouterHeads w r taken
  router : u.router ≡ w.router
  far : u.far ≡ w.far
  operator : u.operator ≡ w.operator
  mesh : (a b : ℕ) → mesh_taken r taken a b ++ u.mesh a b ≡ w.mesh a b
  outward : u.outward ≡ w.outward
  inward : (p b : ℕ) → inward_taken r taken p b ++ u.inward p b ≡ w.inward p b
  orders : (b : ℕ) → orders_taken r taken b ++ u.orders b ≡ w.orders b
  reports : u.reports ≡ w.reports
  says : u.says ≡ w.says

takes : (r : ℕ) (taken : Option RouterTaken) (w u : World) → RouterTook w r taken u → Takes r taken w u
takes r None w u is = rw is (record {
  heads = tt;
  router = refl;
  far = refl;
  operator = refl;
  mesh = λ a b. refl;
  outward = refl;
  inward = λ p b. refl;
  orders = λ b. refl;
  reports = refl;
  says = refl;
})
takes r (Some (OrderIn order)) w u (h, is) = rw is (record {
  heads = h;
  router = refl;
  far = refl;
  operator = refl;
  mesh = λ a b. refl;
  outward = refl;
  inward = λ p b. refl;
  orders = λ b. cut1 w.orders r b order h.rest h.is;
  reports = refl;
  says = refl;
})
takes r (Some (SegmentIn p segment)) w u (h, is) = rw is (record {
  heads = h;
  router = refl;
  far = refl;
  operator = refl;
  mesh = λ a b. refl;
  outward = refl;
  inward = λ q b. cut2 w.inward p r q b segment h.rest h.is;
  orders = λ b. refl;
  reports = refl;
  says = refl;
})
takes r (Some (MeshIn q item)) w u (h, is) = rw is (record {
  heads = h;
  router = refl;
  far = refl;
  operator = refl;
  mesh = λ a b. cut2 w.mesh q r a b item h.rest h.is;
  outward = refl;
  inward = λ p b. refl;
  orders = λ b. refl;
  reports = refl;
  says = refl;
})

-- what was taken, what is left and what was sent
joined : {A : Type 0} (taken left sent was mid now : List A) → taken ++ mid ≡ was → now ≡ mid ++ sent → taken ++ now ≡ was ++ sent
joined taken left sent was mid now e f = ap (λ (x : List _). taken ++ x) f ∙ (sym (append_assoc taken mid sent) ∙ ap (λ (x : List _). x ++ sent) e)

pub router_moves : (setup : Setup) (r : ℕ) (event : RouterEvent) (w v : World) (x : RouterStep setup r event w v) → RouterMoves r x.taken x.sent x.part w v
router_moves setup r event w v x =
    let u : World = x.without in
    let t : Takes r x.taken w u = takes r x.taken w u x.took in
    let s : Sends r x.sent (record u { router = at u.router r x.part }) v = sends r x.sent (record u { router = at u.router r x.part }) v x.is in
    record {
      heads = t.heads;
      router = s.router ∙ ap (λ (f : ℕ → RouterPart). at f r x.part) t.router;
      far = s.far ∙ t.far;
      operator = s.operator ∙ t.operator;
      mesh = λ a b. joined (mesh_taken r x.taken a b) [] (mesh_sent r x.sent a b) (w.mesh a b) (u.mesh a b) (v.mesh a b) (t.mesh a b) (s.mesh a b);
      outward = λ a p. s.outward a p ∙ ap (λ (f : ℕ → ℕ → List Outward). f a p ++ outward_sent r x.sent a p) t.outward;
      inward = λ p b. ap (λ (f : ℕ → ℕ → List PlacedSegment). inward_taken r x.taken p b ++ f p b) s.inward ∙ t.inward p b;
      orders = λ b. ap (λ (f : ℕ → List GraftOrder). orders_taken r x.taken b ++ f b) s.orders ∙ t.orders b;
      reports = λ a. s.reports a ∙ ap (λ (f : ℕ → List Report). f a ++ reports_sent r x.sent a) t.reports;
      says = s.says ∙ t.says;
    }

-- ---- a far side

record FarSends (p : ℕ) (sent : List FarSent) (w v : World) : Type 0 where
  router : v.router ≡ w.router
  far : v.far ≡ w.far
  operator : v.operator ≡ w.operator
  mesh : v.mesh ≡ w.mesh
  outward : v.outward ≡ w.outward
  inward : (q b : ℕ) → v.inward q b ≡ w.inward q b ++ inward_sent p sent q b
  orders : v.orders ≡ w.orders
  reports : v.reports ≡ w.reports
  says : v.says ≡ w.says

far_sent : (p : ℕ) (sent : List FarSent) (w v : World) → v ≡ fold (far_sends p) w sent → FarSends p sent w v
far_sent p [] w v is = rw is (record {
  router = refl;
  far = refl;
  operator = refl;
  mesh = refl;
  outward = refl;
  inward = λ q b. sym (append-nil (w.inward q b));
  orders = refl;
  reports = refl;
  says = refl;
})
far_sent p (item ∷ sent) w v is =
    let s : FarSends p sent (far_sends p w item) v = far_sent p sent (far_sends p w item) v is in
    record {
      router = s.router;
      far = s.far;
      operator = s.operator;
      mesh = s.mesh;
      outward = s.outward;
      inward = λ q b. then_others (w.inward q b) (only2 p item.router item.segment q b) (inward_sent p sent q b)
          (v.inward q b) _ (put2 w.inward p item.router q b item.segment) (s.inward q b);
      orders = s.orders;
      reports = s.reports;
      says = s.says;
    }

record FarTakes (p : ℕ) (taken : Option FarTaken) (w u : World) : Type 0 where
  heads : FarHeads w p taken
  router : u.router ≡ w.router
  far : u.far ≡ w.far
  operator : u.operator ≡ w.operator
  mesh : u.mesh ≡ w.mesh
  outward : (a q : ℕ) → outward_taken p taken a q ++ u.outward a q ≡ w.outward a q
  inward : u.inward ≡ w.inward
  orders : u.orders ≡ w.orders
  reports : u.reports ≡ w.reports
  says : (q : ℕ) → says_taken p taken q ++ u.says q ≡ w.says q

far_took : (p : ℕ) (taken : Option FarTaken) (w u : World) → FarTook w p taken u → FarTakes p taken w u
far_took p None w u is = rw is (record {
  heads = tt;
  router = refl;
  far = refl;
  operator = refl;
  mesh = refl;
  outward = λ a q. refl;
  inward = refl;
  orders = refl;
  reports = refl;
  says = λ q. refl;
})
far_took p (Some (OutwardIn r item)) w u (h, is) = rw is (record {
  heads = h;
  router = refl;
  far = refl;
  operator = refl;
  mesh = refl;
  outward = λ a q. cut2 w.outward r p a q item h.rest h.is;
  inward = refl;
  orders = refl;
  reports = refl;
  says = λ q. refl;
})
far_took p (Some (SayIn step)) w u (h, is) = rw is (record {
  heads = h;
  router = refl;
  far = refl;
  operator = refl;
  mesh = refl;
  outward = λ a q. refl;
  inward = refl;
  orders = refl;
  reports = refl;
  says = λ q. cut1 w.says p q step h.rest h.is;
})

pub far_moves : (setup : Setup) (p : ℕ) (event : FarEvent) (w v : World) (x : FarStep setup p event w v) → FarMoves p x.taken x.sent x.part w v
far_moves setup p event w v x =
    let u : World = x.without in
    let t : FarTakes p x.taken w u = far_took p x.taken w u x.took in
    let s : FarSends p x.sent (record u { far = at u.far p x.part }) v = far_sent p x.sent (record u { far = at u.far p x.part }) v x.is in
    record {
      heads = t.heads;
      router = s.router ∙ t.router;
      far = s.far ∙ ap (λ (f : ℕ → FarPart). at f p x.part) t.far;
      operator = s.operator ∙ t.operator;
      mesh = s.mesh ∙ t.mesh;
      outward = λ a q. ap (λ (f : ℕ → ℕ → List Outward). outward_taken p x.taken a q ++ f a q) s.outward ∙ t.outward a q;
      inward = λ q b. s.inward q b ∙ ap (λ (f : ℕ → ℕ → List PlacedSegment). f q b ++ inward_sent p x.sent q b) t.inward;
      orders = s.orders ∙ t.orders;
      reports = s.reports ∙ t.reports;
      says = λ q. ap (λ (f : ℕ → List ℕ). says_taken p x.taken q ++ f q) s.says ∙ t.says q;
    }

-- ---- the operator

record OperatorSends (sent : List OperatorSent) (w v : World) : Type 0 where
  router : v.router ≡ w.router
  far : v.far ≡ w.far
  operator : v.operator ≡ w.operator
  mesh : v.mesh ≡ w.mesh
  outward : v.outward ≡ w.outward
  inward : v.inward ≡ w.inward
  orders : (b : ℕ) → v.orders b ≡ w.orders b ++ orders_sent sent b
  reports : v.reports ≡ w.reports
  says : (q : ℕ) → v.says q ≡ w.says q ++ says_sent sent q

operator_more : (item : OperatorSent) (sent : List OperatorSent) (w v : World) → OperatorSends sent (operator_sends w item) v → OperatorSends (item ∷ sent) w v
operator_more (OrderTo r order) sent w v s = record {
  router = s.router;
  far = s.far;
  operator = s.operator;
  mesh = s.mesh;
  outward = s.outward;
  inward = s.inward;
  orders = λ b. then_others (w.orders b) (only_at r order b) (orders_sent sent b) (v.orders b) _ (put1 w.orders r b order) (s.orders b);
  reports = s.reports;
  says = s.says;
}
operator_more (SayTo p step) sent w v s = record {
  router = s.router;
  far = s.far;
  operator = s.operator;
  mesh = s.mesh;
  outward = s.outward;
  inward = s.inward;
  orders = s.orders;
  reports = s.reports;
  says = λ q. then_others (w.says q) (only_at p step q) (says_sent sent q) (v.says q) _ (put1 w.says p q step) (s.says q);
}

operator_sent : (sent : List OperatorSent) (w v : World) → v ≡ fold operator_sends w sent → OperatorSends sent w v
operator_sent [] w v is = rw is (record {
  router = refl;
  far = refl;
  operator = refl;
  mesh = refl;
  outward = refl;
  inward = refl;
  orders = λ b. sym (append-nil (w.orders b));
  reports = refl;
  says = λ q. sym (append-nil (w.says q));
})
operator_sent (item ∷ sent) w v is = operator_more item sent w v (operator_sent sent (operator_sends w item) v is)

pub operator_moves : (setup : Setup) (event : OperatorEvent) (w v : World) (x : OperatorStep setup event w v) → OperatorMoves x.taken x.sent x.part w v
operator_moves setup event w v x = by_taken x.taken x.without x.took (operator_sent x.sent (record x.without { operator = x.part }) v x.is) where
  by_taken : (taken : Option OperatorTaken) (u : World) → OperatorTook w taken u → OperatorSends x.sent (record u { operator = x.part }) v
      → OperatorMoves taken x.sent x.part w v
  by_taken None u is s = record {
    heads = tt;
    router = s.router ∙ ap (λ (y : World). y.router) is;
    far = s.far ∙ ap (λ (y : World). y.far) is;
    operator = s.operator;
    mesh = s.mesh ∙ ap (λ (y : World). y.mesh) is;
    outward = s.outward ∙ ap (λ (y : World). y.outward) is;
    inward = s.inward ∙ ap (λ (y : World). y.inward) is;
    orders = λ b. s.orders b ∙ ap (λ (y : World). y.orders b ++ orders_sent x.sent b) is;
    reports = λ a. ap (λ (f : ℕ → List Report). f a) (s.reports ∙ ap (λ (y : World). y.reports) is);
    says = λ q. s.says q ∙ ap (λ (y : World). y.says q ++ says_sent x.sent q) is;
  }
  by_taken (Some (ReportIn r report)) u (h, is) s = record {
    heads = h;
    router = s.router ∙ ap (λ (y : World). y.router) is;
    far = s.far ∙ ap (λ (y : World). y.far) is;
    operator = s.operator;
    mesh = s.mesh ∙ ap (λ (y : World). y.mesh) is;
    outward = s.outward ∙ ap (λ (y : World). y.outward) is;
    inward = s.inward ∙ ap (λ (y : World). y.inward) is;
    orders = λ b. s.orders b ∙ ap (λ (y : World). y.orders b ++ orders_sent x.sent b) is;
    reports = λ a. ap (λ (f : ℕ → List Report). only_at r report a ++ f a) (s.reports ∙ ap (λ (y : World). y.reports) is)
        ∙ cut1 w.reports r a report h.rest h.is;
    says = λ q. s.says q ∙ ap (λ (y : World). y.says q ++ says_sent x.sent q) is;
  }
