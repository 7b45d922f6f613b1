-- A session that an evacuate step moves finds room where it was given.
use Rattle.std.proofs.Common.{◌≡◌, ◌≢◌, ◌==◌, cond, ℕ, ◌<◌, ◌≤◌, Bool, true, false, ◌||◌, List, Option}
use Rattle.std.proofs.Common.{Some, None, refl, sym, ap, ◌∙◌, subst, arith, ◌⊎◌, inl, inr}
use Rattle.std.proofs.lemmas.Bool.{eq-eqb}
use Rattle.std.proofs.lemmas.Bool.Decides.{nat_tests}
use Rattle.std.proofs.lemmas.Option.{same_Some}
use Rattle.std.specs.Prelude.{slice_get, nat_le}
use Rattle.std.specs.Option.{option_map}
use Rattle.graft_edge.specs.declared.ids.RouterId.{RouterId}
use Rattle.bgp_types.specs.declared.message.SessionState.{SessionState}
use Rattle.bgp_types.specs.declared.message.SessionState.TheVariants.{OpenSent, OpenConfirm, Established, Closed}
use Rattle.graft_steps.specs.declared.refusal.Refusal.{Refusal}
use Rattle.graft_steps.specs.declared.refusal.Refusal.TheVariants.{SameRouter, HoldTooShort, RouterFull, PolicyMissing}
use Rattle.graft_steps.specs.declared.refusal.Outcome.{Outcome}
use Rattle.graft_steps.specs.declared.refusal.Outcome.TheVariants.{Accepted, Refused}
use Rattle.graft_steps.specs.Refusals.{is_too_short, freeze_refusal, session_refusal, admit_refusal}
use Rattle.session_value.specs.Sessions.{SessionValue, state, hold_time}
use Rattle.graft_model.specs.Points.{at}
use Rattle.graft_model.specs.Setups.{Setup, EvacuateStep, ScriptGraft, IsSetup, peerings_in, room_of, missing_policy, group_of, graft_at}
use Rattle.graft_model.specs.Parts.{Place, Vacant, Live, Frozen, Shadow, Leaving, Owing, Asking as ToAnswer, To, OperatorPart, Report, World}
use Rattle.graft_model.specs.Placements.{placement}
use Rattle.graft_model.specs.Evacuations.{gift_to}
use Rattle.graft_model.specs.GraftRows.{is_taken, taken_in, refusal_of}
use Rattle.graft_model.specs.OperatorRows.{ReportIn}
use Rattle.graft_model.specs.declared.event.OperatorEvent.{OperatorEvent}
use Rattle.graft_model.specs.declared.event.OperatorEvent.TheVariants.{Order, Note, Go}
use Rattle.graft_model.specs.Steps.{OperatorStep}
use Rattle.graft_laws.specs.Phases.{Ordered, Stored, Halted, Moving, Landed, Asking, Confirmed, Returning}
use Rattle.graft_laws.specs.Phases.{Declined, Cleared, Phase, Idle, Busy, source_of, place_by}
use Rattle.graft_laws.specs.Log.{is_peering, is_graft_on}
use Rattle.graft_laws.specs.Owned.{reports_of, Stands, Owned}
use Rattle.graft_laws.specs.Moves.{OperatorHeads, OperatorMoves}
use Rattle.graft_laws.specs.Life.{GraftMove, Begins, Admits, Refuses, Freezes, Leaves, TurnsBack, Returns, Asks, Counts, Confirms}
use Rattle.graft_laws.specs.Life.{NotesRefusal, NotesSuccess, Change, Rests, Grafts, Lands, Clears, Acts, Strays, IsToSay, FarActs}
use Rattle.graft_laws.specs.Keeps.{Reached, Has}
use Rattle.graft_laws.specs.Emptied.{EmptyAlone}
use Rattle.graft_laws.proofs.Phases.{refusal_in}
use Rattle.graft_laws.proofs.Moves.{operator_moves}
use Rattle.graft_laws.proofs.Following.{own_head}
use Rattle.graft_laws.proofs.Deeds.{below_or}
use Rattle.graft_laws.proofs.GraftBounds.{graft_within}
use Rattle.graft_laws.proofs.Runs.{always_has, always_owned}
use Rattle.graft_laws.proofs.GivenRooms.{fewer_by_one, is_to, comes_to, room_for_all}
use Rattle.graft_laws.proofs.GroupGifts.{always_operator}
use Rattle.graft_laws.proofs.ByPlan.{FollowsPlan, goes_by_plan, always_by_plan}

-- ---- whose a place is

-- the router is the target of the graft that is under way
abbrev IsTarget : Phase → ℕ → Type 0
IsTarget (Idle q) r = ⊥
IsTarget (Busy q k t stage) r = r ≡ t

at_one : (r q : ℕ) (place : Place) → is_taken (cond (r == q) place Vacant) ≡ true → r ≡ q
at_one r q place taken = by_test (r == q) refl taken where
  by_test : (b : Bool) → (r == q) ≡ b → is_taken (cond b place Vacant) ≡ true → r ≡ q
  by_test true is e = grind (arith, nat_tests)
  by_test false is e = absurd cc

at_two : (r t q : ℕ) (one two : Place) → is_taken (cond (r == t) one (cond (r == q) two Vacant)) ≡ true → (r ≡ q) ⊎ (r ≡ t)
at_two r t q one two taken = by_test (r == t) refl taken where
  by_test : (b : Bool) → (r == t) ≡ b → is_taken (cond b one (cond (r == q) two Vacant)) ≡ true → (r ≡ q) ⊎ (r ≡ t)
  by_test true is e = inr (grind (arith, nat_tests))
  by_test false is e = inl (at_one r q two e)

-- A place of a peering is taken only where it belongs by the log, or at the target of its graft.
taken_where : (phase : Phase) (s : SessionValue) (r : ℕ) → is_taken (place_by phase s r) ≡ true → (r ≡ source_of phase) ⊎ IsTarget phase r
taken_where (Idle q) s r taken = inl (at_one r q (Live s None) taken)
taken_where (Busy q k t Ordered) s r taken = inl (at_one r q (Live s None) taken)
taken_where (Busy q k t Stored) s r taken = inl (at_one r q (Live s (Some (Leaving (record { graft = k; target = t })))) taken)
taken_where (Busy q k t Halted) s r taken = inl (at_one r q (Frozen s (record { graft = k; target = t })) taken)
taken_where (Busy q k t Moving) s r taken = inl (at_one r q (Shadow k) taken)
taken_where (Busy q k t (Landed n)) s r taken = at_two r t q (Live s (Some (Owing (record { graft = k; source = q; next = n })))) (Shadow k) taken
taken_where (Busy q k t (Asking n)) s r taken = at_two r t q (Live s (Some (ToAnswer (record { graft = k; source = q; next = n })))) (Shadow k) taken
taken_where (Busy q k t Confirmed) s r taken = at_two r t q (Live s None) (Shadow k) taken
taken_where (Busy q k t (Returning refusal)) s r taken = inl (at_one r q (Shadow k) taken)
taken_where (Busy q k t (Declined refusal)) s r taken = inl (at_one r q (Live s None) taken)
taken_where (Busy q k t Cleared) s r taken = inr (at_one r t (Live s None) taken)

-- ---- where a session arrives

module _ (setup : Setup) (w : World) (alone : EmptyAlone setup) (owned : Owned setup w)
    (p q k t n e : ℕ) (s : SessionValue) (there : slice_get setup.steps n ≡ Some (EvacuateStep e))
    (at_work : group_of setup n ≡ w.operator.group) (plan : FollowsPlan setup w.operator n e) (b : Stands setup w p (Busy q k t Moving) s) where
  -- whether a peering's session is to be, or was given, where this one arrives
  abbrev comes : ℕ → Bool
  comes x = comes_to setup plan.placed e t x

  abbrev takes : ℕ → Bool
  takes x = is_taken ((w.router t).places x)

  is_given : (x : ℕ) → gift_to setup plan.placed e x ≡ To t → comes x ≡ true
  is_given x given = by_test (plan.placed x == t) (ap (is_to t) given ∙ eq-eqb t t refl) where
    by_test : (c : Bool) → is_to t (gift_to setup plan.placed e x) ≡ true → (c || is_to t (gift_to setup plan.placed e x)) ≡ true
    by_test true f = refl
    by_test false f = f

  is_placed : (x : ℕ) → plan.placed x ≡ t → comes x ≡ true
  is_placed x is = ap (λ (c : Bool). c || is_to t (gift_to setup plan.placed e x)) (eq-eqb (plan.placed x) t is)

  taken_comes : (x : ℕ) → takes x ≡ true → comes x ≡ true
  taken_comes x taken = by_bound (below_or x (peerings_in setup)) where
    by_belongs : (r : ℕ) → t ≡ r → (r ≡ plan.placed x) ⊎ (gift_to setup plan.placed e x ≡ To r) → comes x ≡ true
    by_belongs r is (inl stays) = is_placed x (sym (is ∙ stays))
    by_belongs r is (inr given) = is_given x (given ∙ ap To (sym is))

    by_place : (phase : Phase) (z : SessionValue) → x < peerings_in setup → Stands setup w x phase z → (t ≡ source_of phase) ⊎ IsTarget phase t → comes x ≡ true
    by_place phase z l c (inl at_source) = by_belongs (placement setup w.operator x) (at_source ∙ sym c.log.placed) (plan.belongs x l)
    by_place (Idle r) z l c (inr at_target) = absurd at_target
    by_place (Busy r j u stage) z l c (inr at_target) = is_given x (goes_by_plan setup w x r j u n e stage z alone there at_work plan c ∙ ap To (sym at_target))

    by_bound : (x < peerings_in setup) ⊎ (peerings_in setup ≤ x) → comes x ≡ true
    by_bound (inl l) =
        let held = owned.peerings x l in
        by_place held.phase held.session l held.stands (taken_where held.phase held.session t (sym (ap is_taken (held.stands.places t)) ∙ taken))
    by_bound (inr past) = let f : true ≡ false = sym taken ∙ ap is_taken ((owned.no_others x past).places t) in absurd cc

  -- nothing of the session's own peering is there
  free_here : takes p ≡ false
  free_here = ap is_taken (b.places t) ∙ elsewhere t q k b.bounds.2 where
    elsewhere : (r u j : ℕ) → r ≢ u → is_taken (cond (r == u) (Shadow j) Vacant) ≡ false
    elsewhere r u j ne = grind (arith, nat_tests)

  pub has_room : p < peerings_in setup → taken_in setup (w.router t) < room_of setup t
  has_room l =
      let given : gift_to setup plan.placed e p ≡ To t = goes_by_plan setup w p q k t n e Moving s alone there at_work plan b in
      let fewer = fewer_by_one takes comes 0 (peerings_in setup) p (omega arith) (omega (arith, l)) free_here (is_given p given) taken_comes in
      let room = room_for_all setup plan.placed e t p l given in
      omega (arith, fewer, room)

-- ---- refusals

-- the refusal of a graft of an evacuate step isn't for want of room
abbrev IsNotFull : Setup → ℕ → Refusal → Type 0
IsNotFull setup k refusal = (g : ScriptGraft) (e room : ℕ) → graft_at setup k ≡ Some g → slice_get setup.steps g.step ≡ Some (EvacuateStep e)
    → refusal ≢ RouterFull room

not_at_freeze : (source target : RouterId) (now : SessionState) (hold room : ℕ) → freeze_refusal source target now hold ≡ Some (RouterFull room) → ⊥
not_at_freeze source target now hold room is = by_test (target.0 == source.0) is where
  too_short : (b : Bool) → cond b (Some (HoldTooShort hold)) None ≡ Some (RouterFull room) → ⊥
  too_short true f = cc
  too_short false f = cc

  by_state : (x : SessionState) → session_refusal x hold ≡ Some (RouterFull room) → ⊥
  by_state Established f = too_short (is_too_short hold) f
  by_state OpenSent f = cc
  by_state OpenConfirm f = cc
  by_state Closed f = cc

  by_test : (b : Bool) → cond b (Some SameRouter) (session_refusal now hold) ≡ Some (RouterFull room) → ⊥
  by_test true f = cc
  by_test false f = by_state now f

full_at_target : (held room named : ℕ) (missing : Option (List ℕ)) → admit_refusal held room missing ≡ Some (RouterFull named) → room ≤ held
full_at_target held room named missing is = by_test (nat_le room held) refl is where
  by_missing : (o : Option (List ℕ)) → option_map PolicyMissing o ≡ Some (RouterFull named) → ⊥
  by_missing None f = cc
  by_missing (Some name) f = cc

  by_test : (b : Bool) → nat_le room held ≡ b → cond b (Some (RouterFull room)) (option_map PolicyMissing missing) ≡ Some (RouterFull named) → room ≤ held
  by_test true e f = grind (arith, nat_tests)
  by_test false e f = absurd (by_missing missing f)

-- So is each refusal that a phase has.
abbrev HasRoom : Setup → World → ℕ → Phase → SessionValue → Type 0
HasRoom setup w p (Busy q k t (Returning refusal)) s = IsNotFull setup k refusal
HasRoom setup w p (Busy q k t (Declined refusal)) s = IsNotFull setup k refusal
HasRoom setup w p phase s = Unit {0}

module _ (setup : Setup) (ok : IsSetup setup) (alone : EmptyAlone setup) where
  -- a session that arrives is turned back for another reason
  turned_back : (w : World) (p q k t : ℕ) (s : SessionValue) (refusal : Refusal) → Reached setup w → p < peerings_in setup
      → Stands setup w p (Busy q k t Moving) s → refusal_of setup t (w.router t) s ≡ Some refusal
      → IsNotFull setup k refusal
  turned_back w p q k t s refusal reached l b why g e room known there full =
      let on = b.log.goes_on in
      let same : g ≡ record { graft = k; peering = p; step = on.step } = same_Some _ _ (sym known ∙ on.known) in
      let is : slice_get setup.steps on.step ≡ Some (EvacuateStep e) = ap (λ (x : ScriptGraft). slice_get setup.steps x.step) (sym same) ∙ there in
      let plan : FollowsPlan setup w.operator on.step e = always_by_plan setup ok alone w reached on.step e is on.begun in
      let fits = has_room setup w alone (always_owned setup ok w reached) p q k t on.step e s is on.begun plan b l in
      let none = full_at_target (taken_in setup (w.router t)) (room_of setup t) room (missing_policy setup t s.config) (why ∙ ap Some full) in
      omega (arith, fits, none)

  moves_keep : (w v : World) (p : ℕ) (phase next : Phase) (s : SessionValue) → Reached setup w → p < peerings_in setup → Stands setup w p phase s
      → GraftMove setup w phase s next → HasRoom setup w p phase s → HasRoom setup v p next s
  moves_keep w v p _ _ s reached l b Begins room = tt
  moves_keep w v p _ _ s reached l b Admits room = tt
  moves_keep w v p _ _ s reached l b (Refuses {q = q} {t = t} why) room =
      λ g e named known there full. not_at_freeze (record { 0 = q }) (record { 0 = t }) (state s) (hold_time s) named (why ∙ ap Some full)
  moves_keep w v p _ _ s reached l b (Freezes why) room = tt
  moves_keep w v p _ _ s reached l b Leaves room = tt
  moves_keep w v p _ _ s reached l b (TurnsBack {q = q} {k = k} {t = t} {refusal = refusal} why) room = turned_back w p q k t s refusal reached l b why
  moves_keep w v p _ _ s reached l b Returns room = room
  moves_keep w v p _ _ s reached l b Asks room = tt
  moves_keep w v p _ _ s reached l b Counts room = tt
  moves_keep w v p _ _ s reached l b Confirms room = tt
  moves_keep w v p _ _ s reached l b NotesRefusal room = tt
  moves_keep w v p _ _ s reached l b NotesSuccess room = tt

  same_phase : (w v : World) (p : ℕ) (phase : Phase) (s t : SessionValue) → HasRoom setup w p phase s → HasRoom setup v p phase t
  same_phase w v p (Idle q) s t room = tt
  same_phase w v p (Busy q k u Ordered) s t room = tt
  same_phase w v p (Busy q k u Stored) s t room = tt
  same_phase w v p (Busy q k u Halted) s t room = tt
  same_phase w v p (Busy q k u Moving) s t room = tt
  same_phase w v p (Busy q k u (Landed n)) s t room = tt
  same_phase w v p (Busy q k u (Asking n)) s t room = tt
  same_phase w v p (Busy q k u Confirmed) s t room = tt
  same_phase w v p (Busy q k u (Returning refusal)) s t room = room
  same_phase w v p (Busy q k u (Declined refusal)) s t room = room
  same_phase w v p (Busy q k u Cleared) s t room = tt

  changes_keep : (w v : World) (p : ℕ) (phase next : Phase) (s t : SessionValue) → Reached setup w → p < peerings_in setup → Stands setup w p phase s
      → Change setup w v p phase s next t → HasRoom setup w p phase s
      → HasRoom setup v p next t
  changes_keep w v p phase next s _ reached l b (Grafts move line entries) room = moves_keep w v p phase next s reached l b move room
  changes_keep w v p _ _ _ _ reached l b (Lands admitted line entries) room = tt
  changes_keep w v p _ _ _ _ reached l b (Clears line entries) room = tt
  changes_keep w v p _ _ s t reached l b (Rests {phase = phase} line entries) room = same_phase w v p phase s t room
  changes_keep w v p _ _ s t reached l b (Acts {phase = phase} r errand place act) room = same_phase w v p phase s t room
  changes_keep w v p _ _ s t reached l b (Strays {phase = phase} r segment line entries) room = same_phase w v p phase s t room
  changes_keep w v p _ _ s t reached l b (IsToSay {phase = phase} step line entries) room = same_phase w v p phase s t room
  changes_keep w v p _ _ s t reached l b (FarActs {phase = phase} event taken sent part row m entries) room = same_phase w v p phase s t room

  always_room : (w : World) → Reached setup w → (p : ℕ) → p < peerings_in setup → Has setup (HasRoom setup) w p
  always_room = always_has setup (HasRoom setup) ok (record {
    first = λ p config is. tt;
    step = λ before after p phase next s t reached l stands then change room. changes_keep before after p phase next s t reached l stands change room;
  })

  -- ---- outcomes

  -- no graft of an evacuate step has that it was refused for want of room
  abbrev NoneFull : OperatorPart → Type 0
  NoneFull operator = (g : ScriptGraft) (e room : ℕ) → graft_at setup g.graft ≡ Some g → slice_get setup.steps g.step ≡ Some (EvacuateStep e)
      → operator.outcome g.graft ≢ Some (Refused (RouterFull room))

  -- a report that the next item of a router's channel is
  reported : (w : World) (r k p : ℕ) (refusal : Refusal) → Reached setup w → p < peerings_in setup → is_graft_on setup p k ≡ true
      → OperatorHeads w (Some (ReportIn r (record { graft = k; outcome = Refused refusal })))
      → IsNotFull setup k refusal
  reported w r k p refusal reached l own h =
      let has = always_room w reached p l in
      let found = refusal_in has.phase r k refusal (reports_of setup p h.rest) (own_head (λ (o : Report). is_graft_on setup p o.graft)
      (w.reports r) h.rest (record { graft = k; outcome = Refused refusal }) h.is own ∙ has.stands.reports r) in
      subst (λ (phase : Phase). HasRoom setup w p phase has.session) found.1 has.more

  notes_keep : (w : World) (r : ℕ) (report : Report) → Reached setup w → OperatorHeads w (Some (ReportIn r report)) → NoneFull w.operator
      → NoneFull (record w.operator { outcome = at w.operator.outcome report.graft (Some report.outcome) })
  notes_keep w r report reached h was g e room known there full = by_test (g.graft == report.graft) refl full where
    by_outcome : (outcome : Outcome) → g.graft ≡ report.graft
        → OperatorHeads w (Some (ReportIn r (record { graft = report.graft; outcome = outcome }))) → Some outcome ≡ Some (Refused (RouterFull room))
        → ⊥
    by_outcome Accepted same head f = cc
    by_outcome (Refused refusal) same head f =
        let l : g.peering < peerings_in setup = graft_within setup g.graft g ok known in
        let mine : graft_at setup report.graft ≡ Some g = ap (graft_at setup) (sym same) ∙ known in
        let own : is_graft_on setup g.peering report.graft ≡ true = ap (is_peering g.peering) mine ∙ eq-eqb g.peering g.peering refl in
        let cause : refusal ≡ RouterFull room = cc in
        reported w r report.graft g.peering refusal reached l own head g e room mine there cause

    by_test : (b : Bool) → (g.graft == report.graft) ≡ b → cond b (Some report.outcome) (w.operator.outcome g.graft) ≡ Some (Refused (RouterFull room)) → ⊥
    by_test true is f = by_outcome report.outcome (grind (arith, nat_tests)) h f
    by_test false is f = was g e room known there f

  rows_keep : (event : OperatorEvent) (before after : World) → Reached setup before → (x : OperatorStep setup event before after)
      → NoneFull before.operator → NoneFull x.part
  rows_keep (Order n number) before after reached x was = elim x.row [
    | inl row ↦ subst NoneFull (sym row.effect) was
    | inr row ↦ subst NoneFull (sym row.effect) was
  ]
  rows_keep (Note r) before after reached x was =
      let m : OperatorMoves x.taken x.sent x.part before after = operator_moves setup (Note r) before after x in
      subst NoneFull (sym x.row.effect) (notes_keep before r x.row.report reached (subst (OperatorHeads before) x.row.takes m.heads) was)
  rows_keep Go before after reached x was = subst NoneFull (sym x.row.effect) was

  pub none_full : (w : World) → Reached setup w → NoneFull w.operator
  none_full = always_operator setup NoneFull
      (λ g e room known there full. cc)
      (λ event before after reached x was.
      subst NoneFull (sym (operator_moves setup event before after x).operator) (rows_keep event before after reached x was))
