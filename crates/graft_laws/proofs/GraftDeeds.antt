-- What the events of a graft at routers do.
use Rattle.std.proofs.Common.{◌≡◌, ◌==◌, cond, ℕ, suc, ◌<◌, ◌≤◌, ◌+◌, Bool, true, false, List, [], ◌∷◌, ◌++◌}
use Rattle.std.proofs.Common.{Option, Some, None, refl, sym, ap, ◌∙◌, subst, arith, inl, inr}
use Rattle.std.proofs.lemmas.Bool.Decides.{nat_tests}
use Rattle.std.specs.Prelude.{◌≢◌, ◌⊎◌, IsSome}
use Rattle.std.specs.List.{AllByRecursion}
use Rattle.std.specs.FinMap as map
use Rattle.graft_steps.specs.declared.refusal.Refusal.{Refusal}
use Rattle.graft_steps.specs.declared.refusal.Refusal.TheVariants.{SameRouter}
use Rattle.graft_steps.specs.declared.refusal.Outcome.TheVariants.{Accepted, Refused}
use Rattle.graft_steps.specs.Refusals.{freeze_refusal, session_refusal}
use Rattle.bgp_types.specs.declared.message.SessionState.{SessionState}
use Rattle.session_value.specs.Sessions.{SessionValue, state, hold_time}
use Rattle.graft_model.specs.Points.{at}
use Rattle.graft_model.specs.Setups.{Setup, peerings_in, room_of, graft_at}
use Rattle.graft_model.specs.Parts.{Order, Errand, Leaving, Owing, Asking as ToAnswer, Place, Vacant, Live, Frozen, Shadow}
use Rattle.graft_model.specs.Parts.{RouterPart, Mesh, Moved, Back, Asked, Answered, Done, PointAt, GraftOrder, Report, World}
use Rattle.graft_model.specs.RouterRows.{RouterTaken, OrderIn, MeshIn, RouterSent, MeshTo, OutwardTo, ReportOut, BringsIn}
use Rattle.graft_model.specs.GraftRows.{Admits, Refuses, Freezes, Leaves, Lands, TurnsBack, Returns, Asks, Answers}
use Rattle.graft_model.specs.GraftRows.{Counts, Ignores, Confirms, Clears, is_taken, taken_in, refusal_of}
use Rattle.graft_model.specs.Steps.{Heads}
use Rattle.graft_laws.specs.Phases.{Ordered, Stored, Halted, Moving, Landed, Asking, Confirmed, Returning, Phase, Busy, only_at}
use Rattle.graft_laws.specs.Log.{is_graft_on}
use Rattle.graft_laws.specs.Owned.{is_on, Stands, Owned}
use Rattle.graft_laws.specs.Moves.{inward_taken, outward_sent, reports_sent, RouterMoves}
use Rattle.graft_laws.proofs.Phases.{live_session, stored_at, halted_at, owing_at, asking_at, moved_in, back_in, done_in, order_in}
use Rattle.graft_laws.proofs.Others.{AreOthers}
use Rattle.graft_laws.proofs.Logs.{own_known}
use Rattle.graft_laws.proofs.Following.{at_phase, at_here, at_other, own_head}
use Rattle.graft_laws.proofs.Grafts.{equal, admit_own, refuse_own, freeze_own, leave_own, land_own, ask_own}
use Rattle.graft_laws.proofs.Grafts.{count_own, confirm_own, turn_back_own, return_own, clear_own}
use Rattle.graft_laws.proofs.Room.{no_more_taken, one_more_taken, room_left}
use Rattle.graft_laws.proofs.Deeds.{differs, of_known, not_of, known_place, known_order, Deed, all_apart, own_or_apart, no_items}
use Rattle.graft_laws.proofs.Deeds.{other_order, other_report, other_mesh, other_sent, other_taken, no_outward}

abbrev order_of : ℕ → ℕ → Order
order_of k t = record { graft = k; target = t }

abbrev word_of : ℕ → ℕ → ℕ → Errand
word_of k q n = Owing (record { graft = k; source = q; next = n })

-- the deed of an event whose items are known
pub deed_as : (setup : Setup) (w v : World) (r : ℕ) (taken known : Option RouterTaken) (sent items : List RouterSent) (part : RouterPart)
    → taken ≡ known → sent ≡ items
    → (RouterMoves r known items part w v → Deed setup w v r known items part) → RouterMoves r taken sent part w v → Deed setup w v r taken sent part
deed_as setup w v r taken known sent items part e f deed =
    subst (λ (x : Option RouterTaken). RouterMoves r x sent part w v → Deed setup w v r x sent part) (sym e)
    (subst (λ (x : List RouterSent). RouterMoves r known x part w v → Deed setup w v r known x part) (sym f) deed)

-- the reports of one event are of a graft that is known
pub one_report : (setup : Setup) (r a : ℕ) (report : Report) → IsSome (graft_at setup report.graft)
    → AllByRecursion (λ (o : Report). IsSome (graft_at setup o.graft)) (only_at r report a ++ [])
one_report setup r a report known = by_test (a == r) where
  by_test : (b : Bool) → AllByRecursion (λ (o : Report). IsSome (graft_at setup o.graft)) (cond b (report ∷ []) [] ++ [])
  by_test true = (known, tt)
  by_test false = tt

pub le_trans : (a b c : ℕ) → a ≤ b → b ≤ c → a ≤ c
le_trans a b c l m = omega arith

above : (a b : ℕ) → a < b → a + 1 ≤ b
above a b l = omega arith

-- a session freezes for another router alone
freezes_apart : (r t : ℕ) (s : SessionState) (h : ℕ) → freeze_refusal (record { 0 = r }) (record { 0 = t }) s h ≡ None → t ≢ r
freezes_apart r t s h e is = by_test (t == r) refl e where
  by_test : (b : Bool) → (t == r) ≡ b → cond b (Some SameRouter) (session_refusal s h) ≡ None → ⊥
  by_test true f g = cc
  by_test false f g = let n : (t == r) ≡ true = grind (arith, nat_tests) in cc

-- another place of a router stays
pub place_stays : (before part : RouterPart) (p q : ℕ) (place : Place) → part.places ≡ at before.places q place → p ≢ q → part.places p ≡ before.places p
place_stays before part p q place e ne = ap (λ (f : ℕ → Place). f p) e ∙ at_other before.places q p place ne

pub place_here : (before part : RouterPart) (q : ℕ) (place : Place) → part.places ≡ at before.places q place → part.places q ≡ place
place_here before part q place e = ap (λ (f : ℕ → Place). f q) e ∙ at_here before.places q place

-- an answer is in no count
other_answer : (setup : Setup) (p r q k n : ℕ) → AreOthers setup p r (Some (MeshIn q (Answered k n))) []
other_answer setup p r q k n =
    record { mesh_taken = other_taken setup p r q (Answered k n) refl; mesh_sent = λ i j. refl; orders_taken = λ i. refl; reports_sent = λ i. refl }

-- the part stays, and what is taken and sent is in no count
unmoved_deed : (setup : Setup) (w v : World) (r : ℕ) (taken : Option RouterTaken) (sent : List RouterSent) (part : RouterPart) → part ≡ w.router r
    → ((p : ℕ) → AreOthers setup p r taken sent) → ((a p : ℕ) → outward_sent r sent a p ≡ []) → ((p b : ℕ) → inward_taken r taken p b ≡ [])
    → ((a : ℕ) → reports_sent r sent a ≡ [])
    → RouterMoves r taken sent part w v → Deed setup w v r taken sent part
unmoved_deed setup w v r taken sent part stays items none_out none_in no_report m = record {
  each = all_apart setup w v r taken sent part m (λ p. record {
    places = ap (λ (x : RouterPart). x.places p) stays;
    entries = ap (λ (x : RouterPart). x.entries p) stays;
    items = items p;
    outward_sent = λ a. none_out a p;
    inward_taken = λ b. none_in p b;
  });
  reports = λ a. subst (λ (x : List Report). AllByRecursion (λ (o : Report). IsSome (graft_at setup o.graft)) x) (sym (no_report a)) tt;
  room = λ l. subst (λ (x : RouterPart). taken_in setup x ≤ room_of setup r) (sym stays) l;
}

-- a router that is asked answers
pub answer_deed : (setup : Setup) (w v : World) (r q : ℕ) (taken : Option RouterTaken) (sent : List RouterSent) (part : RouterPart)
    → Answers q (w.router r) taken sent part
    → RouterMoves r taken sent part w v → Deed setup w v r taken sent part
answer_deed setup w v r q taken sent part row =
    deed_as setup w v r taken (Some (MeshIn q (Asked row.graft row.peering))) sent (MeshTo q (Answered row.graft row.peering) ∷ []) part row.takes row.sends
    (unmoved_deed setup w v r (Some (MeshIn q (Asked row.graft row.peering))) (MeshTo q (Answered row.graft row.peering) ∷ []) part row.stays
    (λ p. other_mesh setup p r q q (Asked row.graft row.peering) (Answered row.graft row.peering) refl refl) (λ a p. refl) (λ p b. refl) (λ a. refl))

module _ (setup : Setup) (w v : World) (r : ℕ) (owned : Owned setup w) where
  abbrev before : RouterPart
  before = w.router r

  -- the graft for which a session is stored, comes back or has landed is its peering's own
  stored_own : (q k t : ℕ) (s : SessionValue) → before.places q ≡ Live s (Some (Leaving (order_of k t))) → q < peerings_in setup → is_graft_on setup q k ≡ true
  stored_own q k t s is known =
      let h = owned.peerings q known in
      let e : h.phase ≡ Busy r k t Stored = (stored_at h.phase h.session s r k t (sym is ∙ h.stands.places r)).0 in
      let b : Stands setup w q (Busy r k t Stored) h.session = subst (λ (x : Phase). Stands setup w q x h.session) e h.stands in
      own_known setup q k b.log.goes_on.known

  back_own : (a q k : ℕ) (s : SessionValue) (refusal : Refusal) → Heads (w.mesh a r) (Back k q s refusal) → q < peerings_in setup → is_graft_on setup q k ≡ true
  back_own a q k s refusal head known =
      let h = owned.peerings q known in
      let e : h.phase ≡ Busy r k a (Returning refusal) = (back_in h.phase q h.session s refusal a r k _
      (own_head (is_on q) (w.mesh a r) head.rest (Back k q s refusal) head.is (equal q) ∙ h.stands.mesh a r)).0 in
      let b : Stands setup w q (Busy r k a (Returning refusal)) h.session = subst (λ (x : Phase). Stands setup w q x h.session) e h.stands in
      own_known setup q k b.log.goes_on.known

  done_own : (a q k : ℕ) → Heads (w.mesh a r) (Done k q) → q < peerings_in setup → is_graft_on setup q k ≡ true
  done_own a q k head known =
      let h = owned.peerings q known in
      let e : h.phase ≡ Busy r k a Confirmed =
      done_in h.phase q h.session a r k _ (own_head (is_on q) (w.mesh a r) head.rest (Done k q) head.is (equal q) ∙ h.stands.mesh a r) in
      let b : Stands setup w q (Busy r k a Confirmed) h.session = subst (λ (x : Phase). Stands setup w q x h.session) e h.stands in
      own_known setup q k b.log.goes_on.known

  -- ---- at the source

  pub admit_deed : (k : ℕ) (taken : Option RouterTaken) (sent : List RouterSent) (part : RouterPart) → Admits setup k before taken sent part
      → RouterMoves r taken sent part w v → Deed setup w v r taken sent part
  admit_deed k taken sent part row = deed_as setup w v r taken
      (Some (OrderIn (record { graft = k; peering = row.peering; target = row.target }))) sent [] part row.takes row.sends (λ m.
      let q : ℕ = row.peering in
      let o : GraftOrder = record { graft = k; peering = q; target = row.target } in
      let places : part.places ≡ at before.places q (Live row.session (Some (Leaving (order_of k row.target)))) =
      ap (λ (x : RouterPart). x.places) row.effect in
      record {
        each = own_or_apart setup w v r q (Some (OrderIn o)) [] part m (known_order setup w owned r q o m.heads (equal q))
            (λ p ne. record {
              places = place_stays before part p q _ places ne;
              entries = ap (λ (x : RouterPart). x.entries p) row.effect;
              items = other_order setup p r o (differs p q ne);
              outward_sent = λ a. refl;
              inward_taken = λ b. refl;
            })
            (λ phase s b.
            let e = order_in phase q r o _ (own_head (λ (x : GraftOrder). x.peering == q) (w.orders r) m.heads.rest o m.heads.is (equal q) ∙ b.orders r) in
            let same : row.session ≡ s = live_session phase s row.session None r (sym row.live.is ∙ b.places r) in
            at_phase setup w v q phase (Busy r k row.target Ordered) s e.0
            (admit_own setup w v q r k row.target s part m (place_here before part q _ places
            ∙ ap (λ (x : SessionValue). Live x (Some (Leaving (order_of k row.target)))) same) (ap (λ (x : RouterPart). x.entries q) row.effect)) b);
        reports = λ a. tt;
        room = λ l. le_trans _ _ _ (no_more_taken setup before part q _ places (ap is_taken row.live.is)) l;
      })

  pub refuse_deed : (k : ℕ) (taken : Option RouterTaken) (sent : List RouterSent) (part : RouterPart) → Refuses r k before taken sent part
      → RouterMoves r taken sent part w v → Deed setup w v r taken sent part
  refuse_deed k taken sent part row =
      deed_as setup w v r taken None sent (ReportOut (record { graft = k; outcome = Refused row.refusal }) ∷ []) part row.takes row.sends (λ m.
      let q : ℕ = row.peering in
      let places : part.places ≡ at before.places q (Live row.session None) = ap (λ (x : RouterPart). x.places) row.effect in
      let known : q < peerings_in setup = known_place setup w owned r q _ row.live.is (λ e. absurd cc) in
      let own : is_graft_on setup q k ≡ true = stored_own q k row.target row.session row.live.is known in
      record {
        each = own_or_apart setup w v r q None (ReportOut (record { graft = k; outcome = Refused row.refusal }) ∷ []) part m known
            (λ p ne. record {
              places = place_stays before part p q _ places ne;
              entries = ap (λ (x : RouterPart). x.entries p) row.effect;
              items = other_report setup p r None (record { graft = k; outcome = Refused row.refusal }) (λ i j. refl) (λ i. refl) (not_of setup p q k ne own);
              outward_sent = λ a. refl;
              inward_taken = λ b. refl;
            })
            (λ phase s b.
            let e = stored_at phase s row.session r k row.target (sym row.live.is ∙ b.places r) in
            at_phase setup w v q phase (Busy r k row.target Stored) s e.0
            (refuse_own setup w v q r k row.target s part row.refusal m
            (place_here before part q _ places ∙ ap (λ (x : SessionValue). Live x None) e.1) (ap (λ (x : RouterPart). x.entries q) row.effect)
            (subst (λ (x : SessionValue). freeze_refusal (record { 0 = r }) (record { 0 = row.target }) (state x) (hold_time x) ≡ Some row.refusal)
            e.1 row.cause)) b);
        reports = λ a. one_report setup r a (record { graft = k; outcome = Refused row.refusal }) (of_known setup q k own);
        room = λ l. le_trans _ _ _ (no_more_taken setup before part q _ places (ap is_taken row.live.is)) l;
      })

  pub freeze_deed : (k : ℕ) (taken : Option RouterTaken) (sent : List RouterSent) (part : RouterPart) → Freezes r k before taken sent part
      → RouterMoves r taken sent part w v → Deed setup w v r taken sent part
  freeze_deed k taken sent part row = deed_as setup w v r taken None sent [] part row.alone.0 row.alone.1 (λ m.
      let q : ℕ = row.peering in
      let places : part.places ≡ at before.places q (Frozen row.session (order_of k row.target)) = ap (λ (x : RouterPart). x.places) row.effect in
      record {
        each = own_or_apart setup w v r q None [] part m (known_place setup w owned r q _ row.live.is (λ e. absurd cc))
            (λ p ne. record {
              places = place_stays before part p q _ places ne;
              entries = ap (λ (x : RouterPart). x.entries p) row.effect;
              items = no_items setup p r;
              outward_sent = λ a. refl;
              inward_taken = λ b. refl;
            })
            (λ phase s b.
            let e = stored_at phase s row.session r k row.target (sym row.live.is ∙ b.places r) in
            at_phase setup w v q phase (Busy r k row.target Stored) s e.0
            (freeze_own setup w v q r k row.target s part m (place_here before part q _ places
            ∙ ap (λ (x : SessionValue). Frozen x (order_of k row.target)) e.1) (ap (λ (x : RouterPart). x.entries q) row.effect)
            (subst (λ (x : SessionValue). freeze_refusal (record { 0 = r }) (record { 0 = row.target }) (state x) (hold_time x) ≡ None) e.1 row.no_cause)
            (freezes_apart r row.target (state row.session) (hold_time row.session) row.no_cause)) b);
        reports = λ a. tt;
        room = λ l. le_trans _ _ _ (no_more_taken setup before part q _ places (ap is_taken row.live.is)) l;
      })

  pub leave_deed : (k : ℕ) (taken : Option RouterTaken) (sent : List RouterSent) (part : RouterPart) → Leaves k before taken sent part
      → RouterMoves r taken sent part w v → Deed setup w v r taken sent part
  leave_deed k taken sent part row =
      deed_as setup w v r taken None sent (MeshTo row.target (Moved k row.peering row.session) ∷ []) part row.takes row.sends (λ m.
      let q : ℕ = row.peering in
      let places : part.places ≡ at before.places q (Shadow k) = ap (λ (x : RouterPart). x.places) row.effect in
      record {
        each = own_or_apart setup w v r q None (MeshTo row.target (Moved k q row.session) ∷ []) part m
            (known_place setup w owned r q _ row.frozen (λ e. absurd cc))
            (λ p ne. record {
              places = place_stays before part p q _ places ne;
              entries = ap (λ (x : RouterPart). x.entries p) row.effect;
              items = other_sent setup p r row.target (Moved k q row.session) (differs p q ne);
              outward_sent = λ a. refl;
              inward_taken = λ b. refl;
            })
            (λ phase s b.
            let e = halted_at phase s row.session r k row.target (sym row.frozen ∙ b.places r) in
            at_phase setup w v q phase (Busy r k row.target Halted) s e.0
            (leave_own setup w v q r k row.target s part (subst (λ (x : SessionValue). RouterMoves r None (MeshTo row.target (Moved k q x) ∷ []) part w v)
            e.1 m) (place_here before part q _ places) (ap (λ (x : RouterPart). x.entries q) row.effect)) b);
        reports = λ a. tt;
        room = λ l. le_trans _ _ _ (no_more_taken setup before part q _ places (ap is_taken row.frozen)) l;
      })

  -- ---- at the target

  pub land_deed : (q : ℕ) (taken : Option RouterTaken) (sent : List RouterSent) (part : RouterPart) → Lands setup r q before taken sent part
      → RouterMoves r taken sent part w v → Deed setup w v r taken sent part
  land_deed q taken sent part row = deed_as setup w v r taken (Some (MeshIn q (Moved row.comes.graft row.comes.peering row.comes.session))) sent
      (OutwardTo row.comes.peering (PointAt row.comes.graft) ∷ []) part row.comes.takes row.sends (λ m.
      let k : ℕ = row.comes.graft in
      let n : ℕ = row.comes.peering in
      let item : Mesh = Moved k n row.comes.session in
      let places : part.places ≡ at before.places n (Live row.comes.session (Some (word_of k q 0))) = ap (λ (x : RouterPart). x.places) row.effect in
      record {
        each = own_or_apart setup w v r n (Some (MeshIn q item)) (OutwardTo n (PointAt k) ∷ []) part m row.comes.known
            (λ p ne. record {
              places = place_stays before part p n _ places ne;
              entries = ap (λ (x : RouterPart). x.entries p) row.effect ∙ at_other before.entries n p (part.entries n) ne;
              items = record {
                mesh_taken = other_taken setup p r q item (differs p n ne);
                mesh_sent = λ i j. refl;
                orders_taken = λ i. refl;
                reports_sent = λ i. refl;
              };
              outward_sent = λ a. no_outward r n p a (PointAt k) ne;
              inward_taken = λ b. refl;
            })
            (λ phase s b.
            let e = moved_in phase n s row.comes.session q r k _ (own_head (is_on n) (w.mesh q r) m.heads.rest item m.heads.is (equal n) ∙ b.mesh q r) in
            at_phase setup w v n phase (Busy q k r Moving) s e.0
            (land_own setup w v n q k r s part
            (subst (λ (x : SessionValue). RouterMoves r (Some (MeshIn q (Moved k n x))) (OutwardTo n (PointAt k) ∷ []) part w v) e.1 m)
            (place_here before part n _ places ∙ ap (λ (x : SessionValue). Live x (Some (word_of k q 0))) e.1)
            (subst (λ (x : SessionValue). BringsIn setup r x (part.entries n)) e.1 row.entries)
            (subst (λ (x : SessionValue). refusal_of setup r before x ≡ None) e.1 row.admitted)) b);
        reports = λ a. tt;
        room = λ l. le_trans _ _ _ (one_more_taken setup before part n _ places) (above _ _ (room_left setup r before row.comes.session row.admitted));
      })

  pub ask_deed : (k q : ℕ) (taken : Option RouterTaken) (sent : List RouterSent) (part : RouterPart) → Asks setup r k q before taken sent part
      → RouterMoves r taken sent part w v → Deed setup w v r taken sent part
  ask_deed k q taken sent part row = deed_as setup w v r taken None sent (MeshTo q (Asked k row.peering) ∷ []) part row.takes row.sends (λ m.
      let n : ℕ = row.peering in
      let asking : Errand = ToAnswer (record { graft = k; source = row.source; next = q }) in
      let places : part.places ≡ at before.places n (Live row.session (Some asking)) = ap (λ (x : RouterPart). x.places) row.effect in
      record {
        each = own_or_apart setup w v r n None (MeshTo q (Asked k n) ∷ []) part m (known_place setup w owned r n _ row.live.is (λ e. absurd cc))
            (λ p ne. record {
              places = place_stays before part p n _ places ne;
              entries = ap (λ (x : RouterPart). x.entries p) row.effect;
              items = other_sent setup p r q (Asked k n) refl;
              outward_sent = λ a. refl;
              inward_taken = λ b. refl;
            })
            (λ phase s b.
            let e = owing_at phase s row.session r k row.source row.next (sym row.live.is ∙ b.places r) in
            at_phase setup w v n phase (Busy row.source k r (Landed row.next)) s e.0
            (ask_own setup w v n row.source k r s part row.next q m (place_here before part n _ places
            ∙ ap (λ (x : SessionValue). Live x (Some asking)) e.1) (ap (λ (x : RouterPart). x.entries n) row.effect)) b);
        reports = λ a. tt;
        room = λ l. le_trans _ _ _ (no_more_taken setup before part n _ places (ap is_taken row.live.is)) l;
      })

  count_deed : (q : ℕ) (taken : Option RouterTaken) (sent : List RouterSent) (part : RouterPart) → Counts q before taken sent part
      → RouterMoves r taken sent part w v → Deed setup w v r taken sent part
  count_deed q taken sent part row = deed_as setup w v r taken (Some (MeshIn q (Answered row.graft row.peering))) sent [] part row.takes row.sends (λ m.
      let k : ℕ = row.graft in
      let n : ℕ = row.peering in
      let places : part.places ≡ at before.places n (Live row.session (Some (word_of k row.source (suc q)))) = ap (λ (x : RouterPart). x.places) row.effect in
      record {
        each = own_or_apart setup w v r n (Some (MeshIn q (Answered k n))) [] part m (known_place setup w owned r n _ row.live.is (λ e. absurd cc))
            (λ p ne. record {
              places = place_stays before part p n _ places ne;
              entries = ap (λ (x : RouterPart). x.entries p) row.effect;
              items = other_answer setup p r q k n;
              outward_sent = λ a. refl;
              inward_taken = λ b. refl;
            })
            (λ phase s b.
            let e = asking_at phase s row.session r k row.source q (sym row.live.is ∙ b.places r) in
            at_phase setup w v n phase (Busy row.source k r (Asking q)) s e.0
            (count_own setup w v n row.source k r s part q (suc q) m
            (place_here before part n _ places ∙ ap (λ (x : SessionValue). Live x (Some (word_of k row.source (suc q)))) e.1)
            (ap (λ (x : RouterPart). x.entries n) row.effect)) b);
        reports = λ a. tt;
        room = λ l. le_trans _ _ _ (no_more_taken setup before part n _ places (ap is_taken row.live.is)) l;
      })

  pub collect_deed : (q : ℕ) (taken : Option RouterTaken) (sent : List RouterSent) (part : RouterPart)
      → Counts q before taken sent part ⊎ Ignores q before taken sent part
      → RouterMoves r taken sent part w v → Deed setup w v r taken sent part
  collect_deed q taken sent part (inl row) = count_deed q taken sent part row
  collect_deed q taken sent part (inr row) = deed_as setup w v r taken (Some (MeshIn q (Answered row.graft row.peering))) sent [] part row.takes row.sends
      (unmoved_deed setup w v r (Some (MeshIn q (Answered row.graft row.peering))) [] part row.stays
      (λ p. other_answer setup p r q row.graft row.peering) (λ a p. refl) (λ p b. refl) (λ a. refl))

  pub confirm_deed : (k : ℕ) (taken : Option RouterTaken) (sent : List RouterSent) (part : RouterPart) → Confirms setup r k before taken sent part
      → RouterMoves r taken sent part w v → Deed setup w v r taken sent part
  confirm_deed k taken sent part row = deed_as setup w v r taken None sent (MeshTo row.source (Done k row.peering) ∷ []) part row.takes row.sends (λ m.
      let n : ℕ = row.peering in
      let places : part.places ≡ at before.places n (Live row.session None) = ap (λ (x : RouterPart). x.places) row.effect in
      record {
        each = own_or_apart setup w v r n None (MeshTo row.source (Done k n) ∷ []) part m (known_place setup w owned r n _ row.live.is (λ e. absurd cc))
            (λ p ne. record {
              places = place_stays before part p n _ places ne;
              entries = ap (λ (x : RouterPart). x.entries p) row.effect;
              items = other_sent setup p r row.source (Done k n) (differs p n ne);
              outward_sent = λ a. refl;
              inward_taken = λ b. refl;
            })
            (λ phase s b.
            let e = owing_at phase s row.session r k row.source row.next (sym row.live.is ∙ b.places r) in
            at_phase setup w v n phase (Busy row.source k r (Landed row.next)) s e.0
            (confirm_own setup w v n row.source k r s part row.next m (place_here before part n _ places ∙ ap (λ (x : SessionValue). Live x None) e.1)
            (ap (λ (x : RouterPart). x.entries n) row.effect)) b);
        reports = λ a. tt;
        room = λ l. le_trans _ _ _ (no_more_taken setup before part n _ places (ap is_taken row.live.is)) l;
      })

  pub turn_back_deed : (q : ℕ) (taken : Option RouterTaken) (sent : List RouterSent) (part : RouterPart) → TurnsBack setup r q before taken sent part
      → RouterMoves r taken sent part w v → Deed setup w v r taken sent part
  turn_back_deed q taken sent part row = deed_as setup w v r taken (Some (MeshIn q (Moved row.comes.graft row.comes.peering row.comes.session))) sent
      (MeshTo q (Back row.comes.graft row.comes.peering row.comes.session row.refusal) ∷ []) part row.comes.takes row.sends (λ m.
      let k : ℕ = row.comes.graft in
      let n : ℕ = row.comes.peering in
      let item : Mesh = Moved k n row.comes.session in
      record {
        each = own_or_apart setup w v r n (Some (MeshIn q item)) (MeshTo q (Back k n row.comes.session row.refusal) ∷ []) part m row.comes.known
            (λ p ne. record {
              places = ap (λ (x : RouterPart). x.places p) row.stays;
              entries = ap (λ (x : RouterPart). x.entries p) row.stays;
              items = other_mesh setup p r q q item (Back k n row.comes.session row.refusal) (differs p n ne) (differs p n ne);
              outward_sent = λ a. refl;
              inward_taken = λ b. refl;
            })
            (λ phase s b.
            let e = moved_in phase n s row.comes.session q r k _ (own_head (is_on n) (w.mesh q r) m.heads.rest item m.heads.is (equal n) ∙ b.mesh q r) in
            at_phase setup w v n phase (Busy q k r Moving) s e.0
            (turn_back_own setup w v n q k r s part row.refusal
            (subst (λ (x : SessionValue). RouterMoves r (Some (MeshIn q (Moved k n x))) (MeshTo q (Back k n x row.refusal) ∷ []) part w v) e.1 m)
            (ap (λ (x : RouterPart). x.places n) row.stays ∙ row.comes.vacant)
            (ap (λ (x : RouterPart). x.entries n) row.stays)
            (subst (λ (x : SessionValue). refusal_of setup r before x ≡ Some row.refusal) e.1 row.cause)) b);
        reports = λ a. tt;
        room = λ l. subst (λ (x : RouterPart). taken_in setup x ≤ room_of setup r) (sym row.stays) l;
      })

  -- ---- at the source again

  pub return_deed : (q : ℕ) (taken : Option RouterTaken) (sent : List RouterSent) (part : RouterPart) → Returns q before taken sent part
      → RouterMoves r taken sent part w v → Deed setup w v r taken sent part
  return_deed q taken sent part row = deed_as setup w v r taken (Some (MeshIn q (Back row.graft row.peering row.session row.refusal))) sent
      (ReportOut (record { graft = row.graft; outcome = Refused row.refusal }) ∷ []) part row.takes row.sends (λ m.
      let k : ℕ = row.graft in
      let n : ℕ = row.peering in
      let item : Mesh = Back k n row.session row.refusal in
      let report : Report = record { graft = k; outcome = Refused row.refusal } in
      let places : part.places ≡ at before.places n (Live row.session None) = ap (λ (x : RouterPart). x.places) row.effect in
      let known : n < peerings_in setup = known_place setup w owned r n _ row.shadow (λ e. absurd cc) in
      let own : is_graft_on setup n k ≡ true = back_own q n k row.session row.refusal m.heads known in
      record {
        each = own_or_apart setup w v r n (Some (MeshIn q item)) (ReportOut report ∷ []) part m known
            (λ p ne. record {
              places = place_stays before part p n _ places ne;
              entries = ap (λ (x : RouterPart). x.entries p) row.effect;
              items = other_report setup p r (Some (MeshIn q item)) report
                  (other_taken setup p r q item (differs p n ne)) (λ i. refl) (not_of setup p n k ne own);
              outward_sent = λ a. refl;
              inward_taken = λ b. refl;
            })
            (λ phase s b.
            let e = back_in phase n s row.session row.refusal q r k _ (own_head (is_on n) (w.mesh q r) m.heads.rest item m.heads.is (equal n) ∙ b.mesh q r) in
            at_phase setup w v n phase (Busy r k q (Returning row.refusal)) s e.0
            (return_own setup w v n r k q s part row.refusal
            (subst (λ (x : SessionValue). RouterMoves r (Some (MeshIn q (Back k n x row.refusal))) (ReportOut report ∷ []) part w v) e.1 m)
            (place_here before part n _ places ∙ ap (λ (x : SessionValue). Live x None) e.1)
            (ap (λ (x : RouterPart). x.entries n) row.effect)) b);
        reports = λ a. one_report setup r a report (of_known setup n k own);
        room = λ l. le_trans _ _ _ (no_more_taken setup before part n _ places (ap is_taken row.shadow)) l;
      })

  pub clear_deed : (q : ℕ) (taken : Option RouterTaken) (sent : List RouterSent) (part : RouterPart) → Clears q before taken sent part
      → RouterMoves r taken sent part w v → Deed setup w v r taken sent part
  clear_deed q taken sent part row = deed_as setup w v r taken (Some (MeshIn q (Done row.graft row.peering))) sent
      (ReportOut (record { graft = row.graft; outcome = Accepted }) ∷ []) part row.takes row.sends (λ m.
      let k : ℕ = row.graft in
      let n : ℕ = row.peering in
      let item : Mesh = Done k n in
      let report : Report = record { graft = k; outcome = Accepted } in
      let places : part.places ≡ at before.places n Vacant = ap (λ (x : RouterPart). x.places) row.effect in
      let known : n < peerings_in setup = known_place setup w owned r n _ row.shadow (λ e. absurd cc) in
      let own : is_graft_on setup n k ≡ true = done_own q n k m.heads known in
      record {
        each = own_or_apart setup w v r n (Some (MeshIn q item)) (ReportOut report ∷ []) part m known
            (λ p ne. record {
              places = place_stays before part p n _ places ne;
              entries = ap (λ (x : RouterPart). x.entries p) row.effect ∙ at_other before.entries n p map.empty ne;
              items = other_report setup p r (Some (MeshIn q item)) report
                  (other_taken setup p r q item (differs p n ne)) (λ i. refl) (not_of setup p n k ne own);
              outward_sent = λ a. refl;
              inward_taken = λ b. refl;
            })
            (λ phase s b.
            let e = done_in phase n s q r k _ (own_head (is_on n) (w.mesh q r) m.heads.rest item m.heads.is (equal n) ∙ b.mesh q r) in
            at_phase setup w v n phase (Busy r k q Confirmed) s e
            (clear_own setup w v n r k q s part m (place_here before part n _ places)
            (ap (λ (x : RouterPart). x.entries n) row.effect ∙ at_here before.entries n map.empty)) b);
        reports = λ a. one_report setup r a report (of_known setup n k own);
        room = λ l. le_trans _ _ _ (no_more_taken setup before part n _ places (ap is_taken row.shadow)) l;
      })
