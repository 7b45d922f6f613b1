-- Each Tick of a story in the world has the number of an event that made it: a bound on the events' numbers is one on the stories'.
use Rattle.std.proofs.Common.{rules, ◌≡◌, ◌<◌, ◌+◌, ℕ, zero, suc, Bool, true, false, List, [], ◌∷◌, ◌++◌}
use Rattle.std.proofs.Common.{Result, Ok, Err, refl, ap, subst, inl, inr, if◌then◌else◌}
use Rattle.std.specs.Prelude.{◌==◌, ◌%◌, ◌/◌, Option, Some, None, All, fold, slice_get}
use Rattle.std.specs.List.{AllByRecursion}
use Rattle.std.proofs.Math.Path.{subst⁻¹}
use Rattle.std.proofs.lemmas.Bool.Decides.{eqb_tells}
use Rattle.std.proofs.lemmas.List.Elements.{All-append}
use Rattle.ring_net.proofs.Replays.{all-append}
use Rattle.bgp_types.specs.declared.message.Message.{Message}
use Rattle.bgp_types.specs.declared.message.Message.TheVariants.{OpenMsg, UpdateMsg, NoticeMsg, KeepaliveMsg}
use Rattle.bgp_types.specs.declared.message.Notice.{Notice}
use Rattle.bgp_types.specs.declared.message.SessionState.{SessionState}
use Rattle.bgp_types.specs.FirstFault.{message_of}
use Rattle.bgp_story.specs.declared.line.Line.{Line}
use Rattle.bgp_story.specs.declared.line.Line.TheVariants.{Put, Got, Tick}
use Rattle.bgp_story.specs.Legal.{IsEarlier, expected_next, reply_to, silence}
use Rattle.session_value.specs.Sessions.{SessionValue, begun, peering_of, state, hold_time}
use Rattle.session_value.specs.Cases.{GetsFrame, PassesRound}
use Rattle.graft_model.specs.First.{first_world, place_in}
use Rattle.graft_model.specs.Points.{at, at2}
use Rattle.graft_model.specs.Setups.{Setup, PeeringSetup}
use Rattle.graft_model.specs.Parts.{Place, Vacant, Live, Frozen, Shadow, Errand, RouterPart, World, Mesh, Told, Moved, Back, Asked, Answered, Done}
use Rattle.graft_model.specs.RouterRows.{RouterTaken, OrderIn, SegmentIn, MeshIn, RouterSent, MeshTo, OutwardTo, ReportOut, IsLive}
use Rattle.graft_model.specs.FarRows.{FarTaken, OutwardIn, SayIn, FarSent}
use Rattle.graft_model.specs.OperatorRows.{OperatorTaken, ReportIn, OperatorSent, OrderTo, SayTo}
use Rattle.graft_model.specs.declared.event.RouterEvent.TheVariants as events
use Rattle.graft_model.specs.declared.event.RouterEvent.{RouterEvent}
use Rattle.graft_model.specs.declared.event.RouterEvent.TheVariants.{Emit, Arrive, Stray, Decide, Tell, Hear, Admit, Refuse, Freeze, Leave}
use Rattle.graft_model.specs.declared.event.RouterEvent.TheVariants.{Land, Return, Clear, Ask, Answer, Collect, Confirm}
use Rattle.graft_model.specs.Steps.{router_row, Event, ByRouter, ByFar, ByOperator, RouterTook, FarTook}
use Rattle.graft_model.specs.Steps.{OperatorTook, router_sends, far_sends, operator_sends, Step, Run}

module _ (n : ℕ) where
  abbrev pub Early : SessionValue → Type 0
  Early s = All (IsEarlier n) s.story

  abbrev pub EarlyPlace : Place → Type 0
  EarlyPlace Vacant = Unit {0}
  EarlyPlace (Live s o) = Early s
  EarlyPlace (Frozen s o) = Early s
  EarlyPlace (Shadow k) = Unit {0}

  abbrev pub EarlyMesh : Mesh → Type 0
  EarlyMesh (Told prefix route) = Unit {0}
  EarlyMesh (Moved k p s) = Early s
  EarlyMesh (Back k p s refusal) = Early s
  EarlyMesh (Asked k p) = Unit {0}
  EarlyMesh (Answered k p) = Unit {0}
  EarlyMesh (Done k p) = Unit {0}

  abbrev EarlyTaken : Option RouterTaken → Type 0
  EarlyTaken None = Unit {0}
  EarlyTaken (Some (OrderIn order)) = Unit {0}
  EarlyTaken (Some (SegmentIn p segment)) = Unit {0}
  EarlyTaken (Some (MeshIn q item)) = EarlyMesh item

  abbrev EarlySent : RouterSent → Type 0
  EarlySent (MeshTo q item) = EarlyMesh item
  EarlySent (OutwardTo p item) = Unit {0}
  EarlySent (ReportOut report) = Unit {0}

  abbrev pub NotLate : RouterEvent → Type 0
  NotLate (events.Tick p round) = round < n
  NotLate event = Unit {0}

  abbrev pub EarlyPlaces : RouterPart → Type 0
  EarlyPlaces part = (p : ℕ) → EarlyPlace (part.places p)

  pub record EarlyWorld (w : World) : Type 0 where
    pub places : (r : ℕ) → EarlyPlaces (w.router r)
    pub mesh : (q r : ℕ) → AllByRecursion EarlyMesh (w.mesh q r)

  -- ---- lines

  one_put : (message : Message) → All (IsEarlier n) (Put message ∷ [])
  one_put message = search rules

  one_got : (bytes : List ℕ) → All (IsEarlier n) (Got bytes ∷ [])
  one_got bytes = search rules

  one_tick : (round : ℕ) → round < n → All (IsEarlier n) (Tick round ∷ [])
  one_tick round l = search rules

  no_line : All (IsEarlier n) []
  no_line = search rules

  reply_early : (m : Result Message Notice) → All (IsEarlier n) (reply_to m).0
  reply_early (Ok (OpenMsg x)) = one_put KeepaliveMsg
  reply_early (Ok (UpdateMsg x)) = no_line
  reply_early (Ok (NoticeMsg x)) = no_line
  reply_early (Ok KeepaliveMsg) = no_line
  reply_early (Err x) = one_put (NoticeMsg x)

  abbrev answer_at : (b c : Bool) (x y : Message) (s t : SessionState) → List Line × SessionState
  answer_at b c x y s t = if b then (Put x ∷ [], s) else if c then (Put y ∷ [], t) else ([], t)

  at_early : (b c : Bool) (x y : Message) (s t : SessionState) → All (IsEarlier n) (answer_at b c x y s t).0
  at_early true c x y s t = one_put x
  at_early false true x y s t = one_put y
  at_early false false x y s t = no_line

  gets_early : (s u : SessionValue) (bytes : List ℕ) → GetsFrame s bytes u → Early s → Early u
  gets_early s u bytes g early = subst⁻¹ (λ (lines : List Line). All (IsEarlier n) lines)
      (ap (λ (x : SessionValue). x.story) g.effect) (All-append (IsEarlier n) s.story (Got bytes ∷ g.answer) early
      (All-append (IsEarlier n) (Got bytes ∷ []) g.answer (one_got bytes)
      (subst (λ (lines : List Line). All (IsEarlier n) lines) (ap (λ (x : List Line × SessionState). x.0) g.reply)
      (reply_early (message_of (expected_next (peering_of s.config) s.story (state s)) bytes)))))

  passes_early : (s u : SessionValue) (round : ℕ) → PassesRound s round u → round < n → Early s → Early u
  passes_early s u round g l early = subst⁻¹ (λ (lines : List Line). All (IsEarlier n) lines)
      (ap (λ (x : SessionValue). x.story) g.effect) (All-append (IsEarlier n) s.story (Tick round ∷ g.answer) early
      (All-append (IsEarlier n) (Tick round ∷ []) g.answer (one_tick round l)
      (subst (λ (lines : List Line). All (IsEarlier n) lines) (ap (λ (x : List Line × SessionState). x.0) g.reply)
      (at_early (silence s.story + 1 == hold_time s) (round % (hold_time s / 3) == 0) _ _ _ (state s)))))

  -- ---- places

  at_place : (a b : RouterPart) (q : ℕ) (v : Place) → b.places ≡ at a.places q v → EarlyPlace v → EarlyPlaces a → EarlyPlaces b
  at_place a b q v effect new all p = subst⁻¹ EarlyPlace (ap (λ (f : ℕ → Place). f p) effect) (elim (eqb_tells p q) [
    | inl e ↦ subst⁻¹ EarlyPlace (let h : at a.places q v p ≡ v = rw (e.0) refl in h) new
    | inr ne ↦ subst⁻¹ EarlyPlace (let h : at a.places q v p ≡ a.places p = rw (ne.0) refl in h) (all p)
  ])

  same_places : (a b : RouterPart) → b.places ≡ a.places → EarlyPlaces a → EarlyPlaces b
  same_places a b e all p = subst⁻¹ EarlyPlace (ap (λ (f : ℕ → Place). f p) e) (all p)

  was_early : (a : RouterPart) (q : ℕ) (s : SessionValue) (o : Option Errand) → IsLive a q s o → EarlyPlaces a → Early s
  was_early a q s o live all = subst EarlyPlace live.is (all q)

  nothing_sent : (sent : List RouterSent) → sent ≡ [] → AllByRecursion EarlySent sent
  nothing_sent sent e = subst⁻¹ (λ (xs : List RouterSent). AllByRecursion EarlySent xs) e tt

  abbrev After : RouterPart → List RouterSent → Type 0
  After b sent = EarlyPlaces b × AllByRecursion EarlySent sent

  early_row : (setup : Setup) (r : ℕ) (event : RouterEvent) (a b : RouterPart) (taken : Option RouterTaken) (sent : List RouterSent)
      → router_row setup r event a taken sent b → NotLate event → EarlyPlaces a → EarlyTaken taken → After b sent
  early_row setup r (events.Put q zero) a b taken sent row l all took =
      (same_places a b (ap (λ (x : RouterPart). x.places) row.effect) all, nothing_sent sent row.alone.1)
  early_row setup r (events.Put q (suc m)) a b taken sent row l all took = (
    at_place a b q (Live row.next row.errand) (ap (λ (x : RouterPart). x.places) row.effect)
        (subst⁻¹ (λ (lines : List Line). All (IsEarlier n) lines) (ap (λ (x : SessionValue). x.story) row.puts.effect)
        (All-append (IsEarlier n) row.session.story _ (was_early a q row.session row.errand row.live all) (one_put _))) all,
    nothing_sent sent row.alone.1,
  )
  early_row setup r (Emit q from len) a b taken sent row l all took = (
    at_place a b q (Live (record row.session { end = row.end }) row.errand)
        (ap (λ (x : RouterPart). x.places) row.effect) (was_early a q row.session row.errand row.live all) all,
    subst⁻¹ (λ (xs : List RouterSent). AllByRecursion EarlySent xs) row.sends (tt, tt),
  )
  early_row setup r (Arrive q) a b taken sent row l all took = (
    at_place a b q (Live (record row.session { end = row.end }) row.errand)
        (ap (λ (x : RouterPart). x.places) row.effect) (was_early a q row.session row.errand row.live all) all,
    nothing_sent sent row.sends,
  )
  early_row setup r (Stray q) a b taken sent row l all took = (same_places a b (ap (λ (x : RouterPart). x.places) row.stays) all, nothing_sent sent row.sends)
  early_row setup r (events.Got q) a b taken sent row l all took = (
    at_place a b q (Live row.next row.errand) (ap (λ (x : RouterPart). x.places) row.follows.effect)
        (gets_early row.session row.next row.bytes row.gets (was_early a q row.session row.errand row.live all)) all,
    nothing_sent sent row.alone.1,
  )
  early_row setup r (Decide prefix) a b taken sent row l all took =
      (same_places a b (ap (λ (x : RouterPart). x.places) row.effect) all, nothing_sent sent row.alone.1)
  early_row setup r (Tell q prefix) a b taken sent row l all took = (
    same_places a b (ap (λ (x : RouterPart). x.places) row.effect) all,
    subst⁻¹ (λ (xs : List RouterSent). AllByRecursion EarlySent xs) row.sends (tt, tt),
  )
  early_row setup r (Hear q) a b taken sent row l all took = (same_places a b (ap (λ (x : RouterPart). x.places) row.effect) all, nothing_sent sent row.sends)
  early_row setup r (Admit k) a b taken sent row l all took = (
    at_place a b row.peering _ (ap (λ (x : RouterPart). x.places) row.effect) (was_early a row.peering row.session None row.live all) all,
    nothing_sent sent row.sends,
  )
  early_row setup r (Refuse k) a b taken sent row l all took = (
    at_place a b row.peering (Live row.session None) (ap (λ (x : RouterPart). x.places) row.effect) (was_early a row.peering row.session _ row.live all) all,
    subst⁻¹ (λ (xs : List RouterSent). AllByRecursion EarlySent xs) row.sends (tt, tt),
  )
  early_row setup r (Freeze k) a b taken sent row l all took = (
    at_place a b row.peering _ (ap (λ (x : RouterPart). x.places) row.effect) (was_early a row.peering row.session _ row.live all) all,
    nothing_sent sent row.alone.1,
  )
  early_row setup r (Leave k) a b taken sent row l all took = (
    at_place a b row.peering (Shadow k) (ap (λ (x : RouterPart). x.places) row.effect) tt all,
    subst⁻¹ (λ (xs : List RouterSent). AllByRecursion EarlySent xs) row.sends (subst EarlyPlace row.frozen (all row.peering), tt),
  )
  early_row setup r (Land q) a b taken sent row l all took = (
    at_place a b row.comes.peering _ (ap (λ (x : RouterPart). x.places) row.effect) (subst EarlyTaken row.comes.takes took) all,
    subst⁻¹ (λ (xs : List RouterSent). AllByRecursion EarlySent xs) row.sends (tt, tt),
  )
  early_row setup r (Return q) a b taken sent row l all took = (
    at_place a b row.peering (Live row.session None) (ap (λ (x : RouterPart). x.places) row.effect) (subst EarlyTaken row.takes took) all,
    subst⁻¹ (λ (xs : List RouterSent). AllByRecursion EarlySent xs) row.sends (tt, tt),
  )
  early_row setup r (Clear q) a b taken sent row l all took = (
    at_place a b row.peering Vacant (ap (λ (x : RouterPart). x.places) row.effect) tt all,
    subst⁻¹ (λ (xs : List RouterSent). AllByRecursion EarlySent xs) row.sends (tt, tt),
  )
  early_row setup r (Ask k q) a b taken sent row l all took = (
    at_place a b row.peering _ (ap (λ (x : RouterPart). x.places) row.effect) (was_early a row.peering row.session _ row.live all) all,
    subst⁻¹ (λ (xs : List RouterSent). AllByRecursion EarlySent xs) row.sends (tt, tt),
  )
  early_row setup r (Answer q) a b taken sent row l all took =
      (same_places a b (ap (λ (x : RouterPart). x.places) row.stays) all, subst⁻¹ (λ (xs : List RouterSent). AllByRecursion EarlySent xs) row.sends (tt, tt))
  early_row setup r (Collect q) a b taken sent (inl row) l all took = (
    at_place a b row.peering _ (ap (λ (x : RouterPart). x.places) row.effect) (was_early a row.peering row.session _ row.live all) all,
    nothing_sent sent row.sends,
  )
  early_row setup r (Collect q) a b taken sent (inr row) l all took =
      (same_places a b (ap (λ (x : RouterPart). x.places) row.stays) all, nothing_sent sent row.sends)
  early_row setup r (Confirm k) a b taken sent row l all took = (
    at_place a b row.peering (Live row.session None) (ap (λ (x : RouterPart). x.places) row.effect) (was_early a row.peering row.session _ row.live all) all,
    subst⁻¹ (λ (xs : List RouterSent). AllByRecursion EarlySent xs) row.sends (tt, tt),
  )
  early_row setup r (events.Tick q round) a b taken sent row l all took = (
    at_place a b q (Live row.next row.errand) (ap (λ (x : RouterPart). x.places) row.follows.effect)
        (passes_early row.session row.next round row.passes l (was_early a q row.session row.errand row.live all)) all,
    nothing_sent sent row.alone.1,
  )
  early_row setup r _ a b taken sent row l all took = (
    same_places a b (ap (λ (x : RouterPart). x.places) row.stays) all,
    subst⁻¹ (λ (xs : List RouterSent). AllByRecursion EarlySent xs) row.sends (subst EarlyTaken row.comes.takes took, tt),
  )

  -- ---- the world

  mesh_at : (f : ℕ → ℕ → List Mesh) (q r : ℕ) (items : List Mesh) → ((x y : ℕ) → AllByRecursion EarlyMesh (f x y)) → AllByRecursion EarlyMesh items
      → (x y : ℕ) → AllByRecursion EarlyMesh (at2 f q r items x y)
  mesh_at f q r items all new x y = elim (eqb_tells x q) [
    | inl e ↦ elim (eqb_tells y r) [
      | inl g ↦ subst⁻¹ (λ (xs : List Mesh). AllByRecursion EarlyMesh xs) (let h : at2 f q r items x y ≡ items = rw (e.0, g.0) refl in h) new
      | inr ne ↦ subst⁻¹ (λ (xs : List Mesh). AllByRecursion EarlyMesh xs) (let h : at2 f q r items x y ≡ f q y = rw (e.0, ne.0) refl in h) (all q y)
    ]
    | inr ne ↦ subst⁻¹ (λ (xs : List Mesh). AllByRecursion EarlyMesh xs) (let h : at2 f q r items x y ≡ f x y = rw (ne.0) refl in h) (all x y)
  ]

  router_at : (f : ℕ → RouterPart) (r : ℕ) (part : RouterPart) → ((x : ℕ) → EarlyPlaces (f x)) → EarlyPlaces part → (x : ℕ) → EarlyPlaces (at f r part x)
  router_at f r part all new x = elim (eqb_tells x r) [
    | inl e ↦ subst⁻¹ EarlyPlaces (let h : at f r part x ≡ part = rw (e.0) refl in h) new
    | inr ne ↦ subst⁻¹ EarlyPlaces (let h : at f r part x ≡ f x = rw (ne.0) refl in h) (all x)
  ]

  took_early : (w u : World) (r : ℕ) (taken : Option RouterTaken) → RouterTook w r taken u → EarlyWorld w → EarlyWorld u × EarlyTaken taken
  took_early w u r None took early = (subst⁻¹ EarlyWorld took early, tt)
  took_early w u r (Some (OrderIn order)) took early = (subst⁻¹ EarlyWorld took.1 (record { places = early.places; mesh = early.mesh }), tt)
  took_early w u r (Some (SegmentIn p segment)) took early = (subst⁻¹ EarlyWorld took.1 (record { places = early.places; mesh = early.mesh }), tt)
  took_early w u r (Some (MeshIn q item)) took early =
      let heads : AllByRecursion EarlyMesh (item ∷ took.0.rest) = subst (λ (xs : List Mesh). AllByRecursion EarlyMesh xs) took.0.is (early.mesh q r) in
      (subst⁻¹ EarlyWorld took.1 (record { places = early.places; mesh = mesh_at w.mesh q r took.0.rest early.mesh heads.1 }), heads.0)

  sends_early : (r : ℕ) (sent : List RouterSent) (w : World) → AllByRecursion EarlySent sent → EarlyWorld w → EarlyWorld (fold (router_sends r) w sent)
  sends_early r [] w all early = early
  sends_early r (MeshTo q item ∷ sent) w all early =
      sends_early r sent (router_sends r w (MeshTo q item)) all.1 (record {
        places = early.places;
        mesh = mesh_at w.mesh r q (w.mesh r q ++ item ∷ []) early.mesh (all-append EarlyMesh (w.mesh r q) (item ∷ []) (early.mesh r q) (all.0, tt));
      })
  sends_early r (OutwardTo p item ∷ sent) w all early =
      sends_early r sent (router_sends r w (OutwardTo p item)) all.1 (record { places = early.places; mesh = early.mesh })
  sends_early r (ReportOut report ∷ sent) w all early =
      sends_early r sent (router_sends r w (ReportOut report)) all.1 (record { places = early.places; mesh = early.mesh })

  far_took_early : (w u : World) (p : ℕ) (taken : Option FarTaken) → FarTook w p taken u → EarlyWorld w → EarlyWorld u
  far_took_early w u p None took early = subst⁻¹ EarlyWorld took early
  far_took_early w u p (Some (OutwardIn r item)) took early = subst⁻¹ EarlyWorld took.1 (record { places = early.places; mesh = early.mesh })
  far_took_early w u p (Some (SayIn step)) took early = subst⁻¹ EarlyWorld took.1 (record { places = early.places; mesh = early.mesh })

  far_sends_early : (p : ℕ) (sent : List FarSent) (w : World) → EarlyWorld w → EarlyWorld (fold (far_sends p) w sent)
  far_sends_early p [] w early = early
  far_sends_early p (s ∷ sent) w early = far_sends_early p sent (far_sends p w s) (record { places = early.places; mesh = early.mesh })

  operator_took_early : (w u : World) (taken : Option OperatorTaken) → OperatorTook w taken u → EarlyWorld w → EarlyWorld u
  operator_took_early w u None took early = subst⁻¹ EarlyWorld took early
  operator_took_early w u (Some (ReportIn r report)) took early = subst⁻¹ EarlyWorld took.1 (record { places = early.places; mesh = early.mesh })

  operator_sends_early : (sent : List OperatorSent) (w : World) → EarlyWorld w → EarlyWorld (fold operator_sends w sent)
  operator_sends_early [] w early = early
  operator_sends_early (OrderTo r order ∷ sent) w early =
      operator_sends_early sent (operator_sends w (OrderTo r order)) (record { places = early.places; mesh = early.mesh })
  operator_sends_early (SayTo p step ∷ sent) w early =
      operator_sends_early sent (operator_sends w (SayTo p step)) (record { places = early.places; mesh = early.mesh })

  abbrev pub NotLateEvent : Event → Type 0
  NotLateEvent (ByRouter r event) = NotLate event
  NotLateEvent (ByFar p event) = Unit {0}
  NotLateEvent (ByOperator event) = Unit {0}

  early_step : (setup : Setup) (event : Event) (w v : World) → Step setup event w v → NotLateEvent event → EarlyWorld w → EarlyWorld v
  early_step setup (ByRouter r event) w v step l early =
      let took = took_early w step.without r step.taken step.took early in
      let row = early_row setup r event (w.router r) step.part step.taken step.sent step.row l (early.places r) took.1 in
      subst⁻¹ EarlyWorld step.is (sends_early r step.sent (record step.without { router = at step.without.router r step.part }) row.1
      (record { places = router_at step.without.router r step.part took.0.places row.0; mesh = took.0.mesh }))
  early_step setup (ByFar p event) w v step l early =
      let took = far_took_early w step.without p step.taken step.took early in
      subst⁻¹ EarlyWorld step.is
      (far_sends_early p step.sent (record step.without { far = at step.without.far p step.part }) (record { places = took.places; mesh = took.mesh }))
  early_step setup (ByOperator event) w v step l early =
      let took = operator_took_early w step.without step.taken step.took early in
      subst⁻¹ EarlyWorld step.is
      (operator_sends_early step.sent (record step.without { operator = step.part }) (record { places = took.places; mesh = took.mesh }))

  pub early_run : (setup : Setup) (events : List Event) (w v : World) → Run setup w events v → AllByRecursion NotLateEvent events → EarlyWorld w → EarlyWorld v
  early_run setup [] w v run all early = subst⁻¹ EarlyWorld run early
  early_run setup (event ∷ events) w v (u, step, rest) all early = early_run setup events u v rest all.1 (early_step setup event w u step all.0 early)

  first_place : (r : ℕ) (peering : Option PeeringSetup) → EarlyPlace (place_in r peering)
  first_place r None = tt
  first_place r (Some peering) = by_flag (peering.start == r) (begun peering.config) (one_put _)
    where
      by_flag : (b : Bool) (s : SessionValue) → Early s → EarlyPlace (if b then Live s None else Vacant)
      by_flag true s early = early
      by_flag false s early = tt

  pub early_first : (setup : Setup) → EarlyWorld (first_world setup)
  early_first setup = record { places = λ r p. first_place r (slice_get setup.peerings p); mesh = λ q r. tt }
