-- In a quiet world only such events happen as may happen when nothing is left to do.
use Rattle.std.proofs.Common.{◌≡◌, ℕ, zero, suc, ◌<◌, Bool, true, false, List, [], ◌∷◌, length, Option, Some, None, sym, ap, ◌∙◌, subst, inl, inr, arith}
use Rattle.std.specs.Prelude.{slice_get, is_some}
use Rattle.std.specs.FinMap as map
use Rattle.bgp_types.specs.Prefixes.{PrefixValue}
use Rattle.bgp_types.specs.Tables.{prefix_cmp}
use Rattle.tcp_seq.specs.Endpoint.{Endpoint}
use Rattle.session_value.specs.Sessions.{SessionValue}
use Rattle.session_value.specs.Cases.{GetsFrame}
use Rattle.session_value.specs.Sets.{Prefixes, has}
use Rattle.graft_model.specs.Setups.{Setup, group_of}
use Rattle.graft_model.specs.Parts.{Errand, Place, Live, World}
use Rattle.graft_model.specs.RouterRows.{RouterTaken, OrderIn, SegmentIn, MeshIn}
use Rattle.tcp_seq.specs.declared.segment.Way.{Way}
use Rattle.tcp_seq.specs.declared.segment.Way.TheVariants.{Home, Remote}
use Rattle.graft_model.specs.FarRows.{FarTaken, OutwardIn, SayIn, link}
use Rattle.graft_model.specs.OperatorRows.{OperatorTaken, ReportIn, OrdersSay, OrdersGraft}
use Rattle.graft_model.specs.Steps.{RouterEvent, Put, Emit, Arrive, Stray, Got, Decide, Tell, Hear, Admit, Refuse, Freeze, Leave}
use Rattle.graft_model.specs.Steps.{Land, TurnBack, Return, Clear, Ask, Answer, Collect, Confirm, Tick, FarEvent, Say, Send, Take}
use Rattle.graft_model.specs.Steps.{Pass, Reach, Lose, Point, Beat, OperatorEvent, Go, Note, Event, ByRouter, ByFar, ByOperator}
use Rattle.graft_model.specs.Steps.{RouterTook, FarTook, OperatorTook, RouterStep, FarStep, OperatorStep, Step}
use Rattle.graft_model.specs.Steps.{Order as OrderOf}
use Rattle.graft_model.specs.Quiet.{Quiet, IsIdle}
use Rattle.graft_model.specs.Laws.{MayStillHappen}

-- ---- nothing can be taken

empty_heads : {A : Type 0} (channel : List A) (item : A) (rest : List A) → channel ≡ [] → channel ≡ item ∷ rest → ⊥
empty_heads channel item rest none is = cc

router_takes : (setup : Setup) (w u : World) (r : ℕ) (taken : RouterTaken) → Quiet setup w → RouterTook w r (Some taken) u → ⊥
router_takes setup w u r (OrderIn order) quiet took = empty_heads (w.orders r) order took.0.rest (quiet.orders r) took.0.is
router_takes setup w u r (SegmentIn p segment) quiet took = empty_heads (w.inward p r) segment took.0.rest (quiet.inward p r) took.0.is
router_takes setup w u r (MeshIn q item) quiet took = empty_heads (w.mesh q r) item took.0.rest (quiet.mesh q r) took.0.is

far_takes : (setup : Setup) (w u : World) (p : ℕ) (taken : FarTaken) → Quiet setup w → FarTook w p (Some taken) u → ⊥
far_takes setup w u p (OutwardIn r item) quiet took = empty_heads (w.outward r p) item took.0.rest (quiet.outward r p) took.0.is
far_takes setup w u p (SayIn step) quiet took = empty_heads (w.says p) step took.0.rest (quiet.says p) took.0.is

operator_takes : (setup : Setup) (w u : World) (taken : OperatorTaken) → Quiet setup w → OperatorTook w (Some taken) u → ⊥
operator_takes setup w u (ReportIn r report) quiet took = empty_heads (w.reports r) report took.0.rest (quiet.reports r) took.0.is

router_had : (setup : Setup) (w u : World) (r : ℕ) (taken : Option RouterTaken) (item : RouterTaken) → Quiet setup w → RouterTook w r taken u
    → taken ≡ Some item → ⊥
router_had setup w u r None item quiet took is = absurd cc
router_had setup w u r (Some other) item quiet took is = router_takes setup w u r other quiet took

far_had : (setup : Setup) (w u : World) (p : ℕ) (taken : Option FarTaken) (item : FarTaken) → Quiet setup w → FarTook w p taken u → taken ≡ Some item → ⊥
far_had setup w u p None item quiet took is = absurd cc
far_had setup w u p (Some other) item quiet took is = far_takes setup w u p other quiet took

operator_had : (setup : Setup) (w u : World) (taken : Option OperatorTaken) (item : OperatorTaken) → Quiet setup w → OperatorTook w taken u
    → taken ≡ Some item → ⊥
operator_had setup w u None item quiet took is = absurd cc
operator_had setup w u (Some other) item quiet took is = operator_takes setup w u other quiet took

-- ---- nothing is in the tables, the places and the links

has_none : (prefixes : Prefixes) (prefix : PrefixValue) → prefixes ≡ map.empty → has prefixes prefix ≡ true → ⊥
has_none prefixes prefix none there =
    let e : has prefixes prefix ≡ false = ap (λ (s : Prefixes). has s prefix) none ∙ ap is_some (map.get-empty prefix_cmp prefix) in
    absurd cc

gets_none : (end : Endpoint) (session next : SessionValue) (order : Option Errand) (bytes : List ℕ) → IsIdle end (Live session order)
    → GetsFrame session bytes next → ⊥
gets_none end session next None bytes idle gets = elim idle.0 [ inl closed ↦ gets.unclosed closed | inr nothing ↦ nothing bytes gets.rest gets.front gets.got ]
gets_none end session next (Some order) bytes idle gets = idle

no_item : {A : Type 0} (items : List A) (index : ℕ) (item : A) → items ≡ [] → slice_get items index ≡ Some item → ⊥
no_item items index item none there =
    let e : slice_get items index ≡ None = ap (λ (xs : List _). slice_get xs index) none in
    absurd cc

no_index : {A : Type 0} (items : List A) (index : ℕ) → items ≡ [] → index < length items → ⊥
no_index items index none there = let e : length items ≡ 0 = ap length none in absurd (omega arith)

-- ---- each event

idle_at : (setup : Setup) (w : World) (r p : ℕ) (place : Place) → Quiet setup w → (w.router r).places p ≡ place → IsIdle (w.far p).end place
idle_at setup w r p place quiet is = subst (λ (x : Place). IsIdle (w.far p).end x) is (quiet.places r p)

by_router : (setup : Setup) (r : ℕ) (event : RouterEvent) (w v : World) → Quiet setup w → RouterStep setup r event w v → MayStillHappen (ByRouter r event)
by_router setup r (Put p zero) w v quiet step = has_none _ _ (quiet.told_out r p) step.row.waits.0
by_router setup r (Put p (suc n)) w v quiet step = has_none _ _ (quiet.told_out r p) step.row.is_to_tell.0.0
by_router setup r (Emit p from len) w v quiet step = tt
by_router setup r (Arrive p) w v quiet step = router_had setup w step.without r step.taken _ quiet step.took step.row.takes
by_router setup r (Stray p) w v quiet step = router_had setup w step.without r step.taken _ quiet step.took step.row.takes
by_router setup r (Got p) w v quiet step = gets_none _ _ _ _ _ (idle_at setup w r p _ quiet step.row.live.is) step.row.gets
by_router setup r (Decide prefix) w v quiet step = has_none _ _ (quiet.decided r) step.row.dirty
by_router setup r (Tell q prefix) w v quiet step = has_none _ _ (quiet.told_in r q) step.row.due
by_router setup r (Hear q) w v quiet step = router_had setup w step.without r step.taken _ quiet step.took step.row.takes
by_router setup r (Admit k) w v quiet step = router_had setup w step.without r step.taken _ quiet step.took step.row.takes
by_router setup r (Refuse k) w v quiet step = idle_at setup w r _ _ quiet step.row.live.is
by_router setup r (Freeze k) w v quiet step = idle_at setup w r _ _ quiet step.row.live.is
by_router setup r (Leave k) w v quiet step = idle_at setup w r _ _ quiet step.row.frozen
by_router setup r (Land q) w v quiet step = router_had setup w step.without r step.taken _ quiet step.took step.row.comes.takes
by_router setup r (TurnBack q) w v quiet step = router_had setup w step.without r step.taken _ quiet step.took step.row.comes.takes
by_router setup r (Return q) w v quiet step = router_had setup w step.without r step.taken _ quiet step.took step.row.takes
by_router setup r (Clear q) w v quiet step = router_had setup w step.without r step.taken _ quiet step.took step.row.takes
by_router setup r (Ask k q) w v quiet step = idle_at setup w r _ _ quiet step.row.live.is
by_router setup r (Answer q) w v quiet step = router_had setup w step.without r step.taken _ quiet step.took step.row.takes
by_router setup r (Collect q) w v quiet step = elim step.row [
  | inl counts ↦ router_had setup w step.without r step.taken _ quiet step.took counts.takes
  | inr ignores ↦ router_had setup w step.without r step.taken _ quiet step.took ignores.takes
]
by_router setup r (Confirm k) w v quiet step = idle_at setup w r _ _ quiet step.row.live.is
by_router setup r (Tick p round) w v quiet step = tt

loses_none : (setup : Setup) (w : World) (p : ℕ) (way : Way) (index : ℕ) → Quiet setup w → index < length (link (w.far p) way) → ⊥
loses_none setup w p Home index quiet there = no_index _ index (quiet.homeward p) there
loses_none setup w p Remote index quiet there = no_index _ index (quiet.remoteward p) there

by_far : (setup : Setup) (p : ℕ) (event : FarEvent) (w v : World) → Quiet setup w → FarStep setup p event w v → MayStillHappen (ByFar p event)
by_far setup p (Say step) w v quiet s = far_had setup w s.without p s.taken _ quiet s.took s.row.takes
by_far setup p (Send from len) w v quiet s = tt
by_far setup p (Take router) w v quiet s = far_had setup w s.without p s.taken _ quiet s.took s.row.takes
by_far setup p (Pass index keep router) w v quiet s = no_item _ index _ (quiet.homeward p) s.row.there
by_far setup p (Reach index keep) w v quiet s = no_item _ index _ (quiet.remoteward p) s.row.there
by_far setup p (Lose way index) w v quiet s = loses_none setup w p way index quiet s.row.there
by_far setup p (Point router) w v quiet s = far_had setup w s.without p s.taken _ quiet s.took s.row.takes
by_far setup p (Beat round) w v quiet s = tt

both_ways : (b : Bool) → b ≡ true → b ≡ false → ⊥
both_ways b is is_not = absurd cc

orders_say : (setup : Setup) (step number : ℕ) (w : World) {taken : Option OperatorTaken} {sent : List _} {part : _} → Quiet setup w
    → OrdersSay setup step number w.operator taken sent part → ⊥
orders_say setup step number w quiet row = both_ways (w.operator.issued step) (quiet.issued step row.peering row.bytes row.is row.group) row.unissued

orders_graft : (setup : Setup) (step number : ℕ) (w : World) {taken : Option OperatorTaken} {sent : List _} {part : _} → Quiet setup w
    → OrdersGraft setup step number w.operator taken sent part → ⊥
orders_graft setup step number w quiet row =
    quiet.ended row.graft row.known (ap (group_of setup) row.by_step ∙ row.group)
    (λ none. (let f : Some row.target ≡ None = sym row.is ∙ none in absurd cc)) row.unended

by_operator : (setup : Setup) (event : OperatorEvent) (w v : World) → Quiet setup w → OperatorStep setup event w v → MayStillHappen (ByOperator event)
by_operator setup (OrderOf step number) w v quiet s =
    elim s.row [ inl says ↦ orders_say setup step number w quiet says | inr grafts ↦ orders_graft setup step number w quiet grafts ]
by_operator setup (Note router) w v quiet s = operator_had setup w s.without s.taken _ quiet s.took s.row.takes
by_operator setup Go w v quiet s = tt

pub still : (setup : Setup) (event : Event) (before after : World) → Quiet setup before → Step setup event before after → MayStillHappen event
still setup (ByRouter r event) before after quiet step = by_router setup r event before after quiet step
still setup (ByFar p event) before after quiet step = by_far setup p event before after quiet step
still setup (ByOperator event) before after quiet step = by_operator setup event before after quiet step
