-- An event leads from a world to one world: what it takes is the head of its channel, and its row has one outcome.
use Rattle.std.proofs.Common.{◌≡◌, ℕ, zero, suc, fold, List, ◌∷◌, Option, Some, None, sym, ap, ◌∙◌, subst, inl, inr}
use Rattle.std.specs.Prelude.{slice_get, option_map}
use Rattle.graft_model.specs.Points.{at, at2}
use Rattle.graft_model.specs.Setups.{Setup}
use Rattle.graft_model.specs.Parts.{RouterPart, FarPart, OperatorPart, World}
use Rattle.graft_model.specs.RouterRows.{RouterTaken, OrderIn, SegmentIn, MeshIn, RouterSent}
use Rattle.graft_model.specs.FarRows.{FarTaken, OutwardIn, SayIn, FarSent}
use Rattle.graft_model.specs.OperatorRows.{OperatorTaken, ReportIn, OperatorSent}
use Rattle.graft_model.specs.Steps.{Event, ByRouter, ByFar, ByOperator, RouterEvent, Put, Arrive, Stray, Got, Decide, Hear, Admit, Refuse, Freeze}
use Rattle.graft_model.specs.Steps.{Leave, Land, TurnBack, Return, Clear, Ask, Answer, Collect, Confirm, Tick, FarEvent, Say, Take, Point}
use Rattle.graft_model.specs.Steps.{OperatorEvent, Order, Note, Go, router_row, far_row, operator_row, Heads, RouterTook, FarTook, OperatorTook}
use Rattle.graft_model.specs.Steps.{router_sends, far_sends, operator_sends, RouterStep, FarStep, OperatorStep, Step}
use Rattle.graft_model.specs.Laws.{HasOnce, HasOneOutcome}
use Rattle.graft_model.proofs.OneOutcome.{one_router}
use Rattle.graft_model.proofs.FarOutcome.{one_far}
use Rattle.graft_model.proofs.OperatorOutcome.{one_operator}

-- ---- heads of channels

same_rest : {A : Type 0} {channel : List A} {item : A} (x y : Heads channel item) → x.rest ≡ y.rest
same_rest {item = item} x y = let e : item ∷ x.rest ≡ item ∷ y.rest = sym x.is ∙ y.is in cc

-- what is taken as an item of this kind is the first item of the channel
by_head : {A B : Type 0} (kind : A → B) {channel : List A} {item : A} {taken : Option B} → taken ≡ Some (kind item) → Heads channel item
    → taken ≡ option_map kind (slice_get channel 0)
by_head kind takes head = takes ∙ sym (ap (λ c. option_map kind (slice_get c 0)) head.is)

-- ---- a router

-- what an event takes
abbrev next_item : World → ℕ → RouterEvent → Option RouterTaken
next_item w r (Arrive p) = option_map (SegmentIn p) (slice_get (w.inward p r) 0)
next_item w r (Stray p) = option_map (SegmentIn p) (slice_get (w.inward p r) 0)
next_item w r (Hear q) = option_map (MeshIn q) (slice_get (w.mesh q r) 0)
next_item w r (Admit k) = option_map OrderIn (slice_get (w.orders r) 0)
next_item w r (Land q) = option_map (MeshIn q) (slice_get (w.mesh q r) 0)
next_item w r (TurnBack q) = option_map (MeshIn q) (slice_get (w.mesh q r) 0)
next_item w r (Return q) = option_map (MeshIn q) (slice_get (w.mesh q r) 0)
next_item w r (Clear q) = option_map (MeshIn q) (slice_get (w.mesh q r) 0)
next_item w r (Answer q) = option_map (MeshIn q) (slice_get (w.mesh q r) 0)
next_item w r (Collect q) = option_map (MeshIn q) (slice_get (w.mesh q r) 0)
next_item w r _ = None

module _ (setup : Setup) (w u : World) (r : ℕ) (taken : Option RouterTaken) (sent : List RouterSent) (part : RouterPart) (took : RouterTook w r taken u) where
  took_as : {item : RouterTaken} → taken ≡ Some item → RouterTook w r (Some item) u
  took_as takes = subst (λ (t : Option RouterTaken). RouterTook w r t u) takes took

  takes_next : (event : RouterEvent) → router_row setup r event (w.router r) taken sent part → taken ≡ next_item w r event
  takes_next (Put p zero) row = row.alone.0
  takes_next (Put p (suc n)) row = row.alone.0
  takes_next (Arrive p) row = by_head (SegmentIn p) row.takes (took_as row.takes).0
  takes_next (Stray p) row = by_head (SegmentIn p) row.takes (took_as row.takes).0
  takes_next (Got p) row = row.alone.0
  takes_next (Decide prefix) row = row.alone.0
  takes_next (Hear q) row = by_head (MeshIn q) row.takes (took_as row.takes).0
  takes_next (Admit k) row = by_head OrderIn row.takes (took_as row.takes).0
  takes_next (Freeze k) row = row.alone.0
  takes_next (Land q) row = by_head (MeshIn q) row.comes.takes (took_as row.comes.takes).0
  takes_next (TurnBack q) row = by_head (MeshIn q) row.comes.takes (took_as row.comes.takes).0
  takes_next (Return q) row = by_head (MeshIn q) row.takes (took_as row.takes).0
  takes_next (Clear q) row = by_head (MeshIn q) row.takes (took_as row.takes).0
  takes_next (Answer q) row = by_head (MeshIn q) row.takes (took_as row.takes).0
  takes_next (Collect q) (inl row) = by_head (MeshIn q) row.takes (took_as row.takes).0
  takes_next (Collect q) (inr row) = by_head (MeshIn q) row.takes (took_as row.takes).0
  takes_next (Tick p round) row = row.alone.0
  takes_next _ row = row.takes

left_by_router : (w u v : World) (r : ℕ) (taken : Option RouterTaken) → RouterTook w r taken u → RouterTook w r taken v → u ≡ v
left_by_router w u v r None x y = x ∙ sym y
left_by_router w u v r (Some (OrderIn order)) x y = x.1 ∙ ((λ i. record w { orders = at w.orders r (same_rest x.0 y.0 i) }) ∙ sym y.1)
left_by_router w u v r (Some (SegmentIn p segment)) x y = x.1 ∙ ((λ i. record w { inward = at2 w.inward p r (same_rest x.0 y.0 i) }) ∙ sym y.1)
left_by_router w u v r (Some (MeshIn q item)) x y = x.1 ∙ ((λ i. record w { mesh = at2 w.mesh q r (same_rest x.0 y.0 i) }) ∙ sym y.1)

has_one_outcome : (event : RouterEvent) (part : RouterPart) → ((k : ℕ) → HasOnce k part) → HasOneOutcome event part
has_one_outcome (Refuse k) part once = once k
has_one_outcome (Freeze k) part once = once k
has_one_outcome (Leave k) part once = once k
has_one_outcome (Ask k q) part once = once k
has_one_outcome (Confirm k) part once = once k
has_one_outcome _ part once = tt

one_router_step : (setup : Setup) (r : ℕ) (event : RouterEvent) (w u v : World) → ((k : ℕ) → HasOnce k (w.router r))
    → RouterStep setup r event w u → RouterStep setup r event w v → v ≡ u
one_router_step setup r event w u v once x y =
    y.is ∙ ((λ i. fold (router_sends r) (record (without i) { router = at (without i).router r (one.1 i) }) (one.0 i)) ∙ sym x.is)
  where
    taken : y.taken ≡ x.taken
    taken =
        takes_next setup w y.without r y.taken y.sent y.part y.took event y.row
        ∙ sym (takes_next setup w x.without r x.taken x.sent x.part x.took event x.row)

    without : y.without ≡ x.without
    without = left_by_router w y.without x.without r x.taken (subst (λ (t : Option RouterTaken). RouterTook w r t y.without) taken y.took) x.took

    one : (y.sent ≡ x.sent) × (y.part ≡ x.part)
    one =
        one_router setup r event (w.router r) x.part y.part x.taken x.sent y.sent (has_one_outcome event (w.router r) once) x.row
        (subst (λ (t : Option RouterTaken). router_row setup r event (w.router r) t y.sent y.part) taken y.row)

-- ---- a far side

abbrev far_next : World → ℕ → FarEvent → Option FarTaken
far_next w p (Say step) = option_map SayIn (slice_get (w.says p) 0)
far_next w p (Take router) = option_map (OutwardIn router) (slice_get (w.outward router p) 0)
far_next w p (Point router) = option_map (OutwardIn router) (slice_get (w.outward router p) 0)
far_next w p _ = None

module _ (setup : Setup) (w u : World) (p : ℕ) (taken : Option FarTaken) (sent : List FarSent) (part : FarPart) (took : FarTook w p taken u) where
  far_took_as : {item : FarTaken} → taken ≡ Some item → FarTook w p (Some item) u
  far_took_as takes = subst (λ (t : Option FarTaken). FarTook w p t u) takes took

  far_takes_next : (event : FarEvent) → far_row setup p event (w.far p) taken sent part → taken ≡ far_next w p event
  far_takes_next (Say step) row = by_head SayIn row.takes (far_took_as row.takes).0
  far_takes_next (Take router) row = by_head (OutwardIn router) row.takes (far_took_as row.takes).0
  far_takes_next (Point router) row = by_head (OutwardIn router) row.takes (far_took_as row.takes).0
  far_takes_next _ row = row.takes

left_by_far : (w u v : World) (p : ℕ) (taken : Option FarTaken) → FarTook w p taken u → FarTook w p taken v → u ≡ v
left_by_far w u v p None x y = x ∙ sym y
left_by_far w u v p (Some (OutwardIn r item)) x y = x.1 ∙ ((λ i. record w { outward = at2 w.outward r p (same_rest x.0 y.0 i) }) ∙ sym y.1)
left_by_far w u v p (Some (SayIn step)) x y = x.1 ∙ ((λ i. record w { says = at w.says p (same_rest x.0 y.0 i) }) ∙ sym y.1)

one_far_step : (setup : Setup) (p : ℕ) (event : FarEvent) (w u v : World) → FarStep setup p event w u → FarStep setup p event w v → v ≡ u
one_far_step setup p event w u v x y =
    y.is ∙ ((λ i. fold (far_sends p) (record (without i) { far = at (without i).far p (one.1 i) }) (one.0 i)) ∙ sym x.is)
  where
    taken : y.taken ≡ x.taken
    taken =
        far_takes_next setup w y.without p y.taken y.sent y.part y.took event y.row
        ∙ sym (far_takes_next setup w x.without p x.taken x.sent x.part x.took event x.row)

    without : y.without ≡ x.without
    without = left_by_far w y.without x.without p x.taken (subst (λ (t : Option FarTaken). FarTook w p t y.without) taken y.took) x.took

    one : (y.sent ≡ x.sent) × (y.part ≡ x.part)
    one =
        one_far setup p event (w.far p) x.part y.part x.taken x.sent y.sent x.row
        (subst (λ (t : Option FarTaken). far_row setup p event (w.far p) t y.sent y.part) taken y.row)

-- ---- the operator

abbrev operator_next : World → OperatorEvent → Option OperatorTaken
operator_next w (Note router) = option_map (ReportIn router) (slice_get (w.reports router) 0)
operator_next w _ = None

module _ (setup : Setup) (w u : World) (taken : Option OperatorTaken) (sent : List OperatorSent) (part : OperatorPart) (took : OperatorTook w taken u) where
  operator_takes_next : (event : OperatorEvent) → operator_row setup event w.operator taken sent part → taken ≡ operator_next w event
  operator_takes_next (Order step number) (inl row) = row.takes
  operator_takes_next (Order step number) (inr row) = row.takes
  operator_takes_next (Note router) row = by_head (ReportIn router) row.takes (subst (λ (t : Option OperatorTaken). OperatorTook w t u) row.takes took).0
  operator_takes_next Go row = row.takes

left_by_operator : (w u v : World) (taken : Option OperatorTaken) → OperatorTook w taken u → OperatorTook w taken v → u ≡ v
left_by_operator w u v None x y = x ∙ sym y
left_by_operator w u v (Some (ReportIn r report)) x y = x.1 ∙ ((λ i. record w { reports = at w.reports r (same_rest x.0 y.0 i) }) ∙ sym y.1)

one_operator_step : (setup : Setup) (event : OperatorEvent) (w u v : World) → OperatorStep setup event w u → OperatorStep setup event w v → v ≡ u
one_operator_step setup event w u v x y = y.is ∙ ((λ i. fold operator_sends (record (without i) { operator = one.1 i }) (one.0 i)) ∙ sym x.is) where
  taken : y.taken ≡ x.taken
  taken =
      operator_takes_next setup w y.without y.taken y.sent y.part y.took event y.row
      ∙ sym (operator_takes_next setup w x.without x.taken x.sent x.part x.took event x.row)

  without : y.without ≡ x.without
  without = left_by_operator w y.without x.without x.taken (subst (λ (t : Option OperatorTaken). OperatorTook w t y.without) taken y.took) x.took

  one : (y.sent ≡ x.sent) × (y.part ≡ x.part)
  one =
      one_operator setup event w.operator x.part y.part x.taken x.sent y.sent x.row
      (subst (λ (t : Option OperatorTaken). operator_row setup event w.operator t y.sent y.part) taken y.row)

-- ---- any event

pub one_step : (setup : Setup) (event : Event) (w u v : World) → ((r k : ℕ) → HasOnce k (w.router r))
    → Step setup event w u → Step setup event w v → v ≡ u
one_step setup (ByRouter r event) w u v once x y = one_router_step setup r event w u v (once r) x y
one_step setup (ByFar p event) w u v once x y = one_far_step setup p event w u v x y
one_step setup (ByOperator event) w u v once x y = one_operator_step setup event w u v x y
