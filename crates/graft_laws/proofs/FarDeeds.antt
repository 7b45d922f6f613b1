-- What the events of far sides and of the operator do.
use Rattle.std.proofs.Common.{◌≡◌, ◌==◌, cond, ℕ, ◌+◌, ◌<◌, Bool, true, false, List, [], ◌∷◌, ◌++◌}
use Rattle.std.proofs.Common.{Option, Some, None, refl, sym, ap, ◌∙◌, subst, arith, inl, inr}
use Rattle.std.proofs.lemmas.Bool.Decides.{nat_tests}
use Rattle.std.proofs.lemmas.List.{append-nil}
use Rattle.std.specs.Prelude.{◌≢◌}
use Rattle.graft_steps.specs.declared.refusal.Outcome.{Outcome}
use Rattle.graft_steps.specs.declared.refusal.Outcome.TheVariants.{Accepted, Refused}
use Rattle.tcp_seq.specs.Endpoint.{PlacedSegment}
use Rattle.session_value.specs.Sessions.{SessionValue}
use Rattle.graft_model.specs.Points.{at}
use Rattle.graft_model.specs.Setups.{Setup, ScriptGraft, IsSetup, routers_in, peerings_in, group_of}
use Rattle.graft_model.specs.Parts.{RouterPart, FarPart, OperatorPart, Mesh, Outward, GraftOrder, Report, World}
use Rattle.graft_model.specs.FarRows.{FarTaken, OutwardIn, SayIn, FarSent}
use Rattle.graft_model.specs.OperatorRows.{OperatorTaken, ReportIn, OperatorSent, OrderTo, SayTo, OrdersSay, OrdersGraft, Notes, BeginsGroup}
use Rattle.graft_model.specs.Placements.{placement}
use Rattle.graft_model.specs.Evacuations.{with_gifts}
use Rattle.graft_model.specs.Quiet.{Quiet}
use Rattle.graft_model.specs.declared.event.FarEvent.{FarEvent}
use Rattle.graft_model.specs.declared.event.OperatorEvent.{OperatorEvent}
use Rattle.graft_model.specs.declared.event.OperatorEvent.TheVariants.{Order, Note, Go}
use Rattle.graft_model.specs.Steps.{far_row, operator_row, MayMake}
use Rattle.graft_laws.specs.Phases.{Stage, Ordered, Declined, Cleared, Phase, Idle, Busy, source_of, only_at, only2, place_by, mesh_by, orders_by, reports_by}
use Rattle.graft_laws.specs.Log.{is_graft_on, LogSays}
use Rattle.graft_laws.specs.Owned.{mesh_items_on, orders_of, reports_of, Stands, HasNothingOf}
use Rattle.graft_laws.specs.Moves.{FarMoves, OperatorMoves, outward_taken, inward_sent, says_taken, orders_sent, says_sent, reports_taken}
use Rattle.graft_laws.specs.Life.{Grafts, SameLine, LineSays, SameEntries, Change, Rests, FarActs, Begins, NotesRefusal, NotesSuccess, IsToSay}
use Rattle.graft_laws.proofs.Phases.{refusal_in, success_in}
use Rattle.graft_laws.proofs.Others.{KeepsLog, SameLog, same_if, absent_still, untouched_by_far, untouched_by_operator, still_sent, still_taken}
use Rattle.graft_laws.proofs.LogOrders.{order_others, MayOrder, order_own}
use Rattle.graft_laws.proofs.LogNotes.{with_outcome, note_others, refused_log, accepted_log}
use Rattle.graft_model.proofs.Gifts.{given_stays}
use Rattle.graft_laws.proofs.Logs.{log_kept}
use Rattle.graft_laws.proofs.Gifts.{GivesToRouters}
use Rattle.graft_laws.proofs.GraftBounds.{graft_within, target_within}
use Rattle.graft_laws.proofs.QuietPhases.{quiet_idle}
use Rattle.graft_laws.proofs.Rests.{stands_still, rests}
use Rattle.graft_laws.proofs.Following.{Followed, at_phase, at_other, own_only, none_only, own_channel, own_head}
use Rattle.graft_laws.proofs.Deeds.{Each, equal_or_not, differs}
use Rattle.graft_laws.proofs.Grafts.{equal}

-- ---- far sides

no_outward_taken : (p q : ℕ) (taken : Option FarTaken) (a : ℕ) → p ≢ q → outward_taken q taken a p ≡ []
no_outward_taken p q None a ne = refl
no_outward_taken p q (Some (SayIn step)) a ne = refl
no_outward_taken p q (Some (OutwardIn r item)) a ne = grind (arith, nat_tests)

no_says_taken : (p q : ℕ) (taken : Option FarTaken) → p ≢ q → says_taken q taken p ≡ []
no_says_taken p q None ne = refl
no_says_taken p q (Some (OutwardIn r item)) ne = refl
no_says_taken p q (Some (SayIn step)) ne = grind (arith, nat_tests)

no_inward_sent : (p q : ℕ) (sent : List FarSent) (b : ℕ) → p ≢ q → inward_sent q sent p b ≡ []
no_inward_sent p q [] b ne = refl
no_inward_sent p q (item ∷ sent) b ne = ap (λ (x : List PlacedSegment). x ++ inward_sent q sent p b)
    (let e : only2 q item.router item.segment p b ≡ [] = grind (arith, nat_tests) in e) ∙ no_inward_sent p q sent b ne

front_none : {A : Type 0} (xs ys zs : List A) → xs ++ ys ≡ zs → xs ≡ [] → ys ≡ zs
front_none xs ys zs e none = ap (λ (x : List _). x ++ ys) (sym none) ∙ e

back_none : {A : Type 0} (ys zs xs : List A) → ys ≡ zs ++ xs → xs ≡ [] → ys ≡ zs
back_none ys zs xs e none = e ∙ (ap (λ (x : List _). zs ++ x) none ∙ append-nil zs)

line_by_far : (p q : ℕ) (taken : Option FarTaken) (sent : List FarSent) (part : FarPart) (w v : World) → p ≢ q → FarMoves q taken sent part w v → SameLine p w v
line_by_far p q taken sent part w v ne m = record {
  far = ap (λ (f : ℕ → FarPart). f p) m.far ∙ at_other w.far q p part ne;
  outward = λ a. front_none (outward_taken q taken a p) (v.outward a p) (w.outward a p) (m.outward a p) (no_outward_taken p q taken a ne);
  inward = λ b. back_none (v.inward p b) (w.inward p b) (inward_sent q sent p b) (m.inward p b) (no_inward_sent p q sent b ne);
  says = front_none (says_taken q taken p) (v.says p) (w.says p) (m.says p) (no_says_taken p q taken ne);
}

entries_still : (p : ℕ) (w v : World) → v.router ≡ w.router → SameEntries p w v
entries_still p w v e = record { same = λ r. ap (λ (f : ℕ → RouterPart). (f r).entries p) e }

pub far_each : (setup : Setup) (w v : World) (q : ℕ) (event : FarEvent) (taken : Option FarTaken) (sent : List FarSent) (part : FarPart)
    → far_row setup q event (w.far q) taken sent part → FarMoves q taken sent part w v → Each setup w v
far_each setup w v q event taken sent part row m = record {
  absent = λ p past. absent_still setup p w v (untouched_by_far setup p q taken sent part w v m);
  known = λ p l phase s b. record {
    next = phase;
    session = s;
    stands = stands_still setup w v p phase s (untouched_by_far setup p q taken sent part w v m) b;
    change = elim (equal_or_not p q) [
      | inl e ↦ acts p e phase s
      | inr ne ↦ Rests (line_by_far p q taken sent part w v ne m) (entries_still p w v m.router)
    ];
  };
} where
  acts : (p : ℕ) → p ≡ q → (phase : Phase) (s : SessionValue) → Change setup w v p phase s phase s
  acts p e phase s = subst (λ (x : ℕ). Change setup w v x phase s phase s) (sym e) (FarActs event taken sent part row m (entries_still q w v m.router))

-- ---- the operator

operator_line : (p : ℕ) (w v : World) (taken : Option OperatorTaken) (sent : List OperatorSent) (part : OperatorPart)
    → OperatorMoves taken sent part w v → says_sent sent p ≡ [] → SameLine p w v
operator_line p w v taken sent part m none = record {
  far = ap (λ (f : ℕ → FarPart). f p) m.far;
  outward = λ r. ap (λ (f : ℕ → ℕ → List Outward). f r p) m.outward;
  inward = λ r. ap (λ (f : ℕ → ℕ → List PlacedSegment). f p r) m.inward;
  says = back_none (v.says p) (w.says p) (says_sent sent p) (m.says p) none;
}

operator_says : (p step : ℕ) (w v : World) (taken : Option OperatorTaken) (part : OperatorPart) → OperatorMoves taken (SayTo p step ∷ []) part w v
    → LineSays p step w v
operator_says p step w v taken part m = record {
  far = ap (λ (f : ℕ → FarPart). f p) m.far;
  outward = λ r. ap (λ (f : ℕ → ℕ → List Outward). f r p) m.outward;
  inward = λ r. ap (λ (f : ℕ → ℕ → List PlacedSegment). f p r) m.inward;
  says = m.says p ∙ ap (λ (x : List ℕ). w.says p ++ x) (let e : only_at p step p ++ [] ≡ step ∷ [] = ap (λ c. cond c (step ∷ []) [] ++ []) (equal p) in e);
}

-- the routers, and what stands between them, stay
still_absent : (p : ℕ) (w v : World) (taken : Option OperatorTaken) (sent : List OperatorSent) (part : OperatorPart)
    → OperatorMoves taken sent part w v → ((b : ℕ) → orders_of p (orders_sent sent b) ≡ []) → HasNothingOf w p → HasNothingOf v p
still_absent p w v taken sent part m no_order was = record {
  places = λ r. ap (λ (f : ℕ → RouterPart). (f r).places p) m.router ∙ was.places r;
  mesh = λ a b. ap (λ (f : ℕ → ℕ → List Mesh). mesh_items_on p (f a b)) m.mesh ∙ was.mesh a b;
  orders = λ r. still_sent (λ o. o.peering == p) (v.orders r) (w.orders r) (orders_sent sent r) (m.orders r) (no_order r) ∙ was.orders r;
}

-- an event of the operator with which a peering has nothing to do
operator_rests : (setup : Setup) (w v : World) (p : ℕ) (taken : Option OperatorTaken)
    (sent : List OperatorSent) (part : OperatorPart) (phase : Phase) (s : SessionValue)
    → OperatorMoves taken sent part w v
    → ((b : ℕ) → orders_of p (orders_sent sent b) ≡ []) → ((a : ℕ) → reports_of setup p (reports_taken taken a) ≡ []) → says_sent sent p ≡ []
    → SameLog setup p w.operator part → Stands setup w p phase s → Followed setup w v p phase s
operator_rests setup w v p taken sent part phase s m no_order no_report no_say same b =
    rests setup w v p phase s (untouched_by_operator setup p taken sent part w v m no_order no_report same)
    (operator_line p w v taken sent part m no_say) (entries_still p w v m.router) b

-- the moves of an event whose items are known
operator_as : (setup : Setup) (w v : World) (taken known : Option OperatorTaken) (sent items : List OperatorSent) (part : OperatorPart)
    → taken ≡ known → sent ≡ items
    → (OperatorMoves known items part w v → Each setup w v) → OperatorMoves taken sent part w v → Each setup w v
operator_as setup w v taken known sent items part e f each =
    subst (λ (x : Option OperatorTaken). OperatorMoves x sent part w v → Each setup w v) (sym e)
    (subst (λ (x : List OperatorSent). OperatorMoves known x part w v → Each setup w v) (sym f) each)

-- ---- a step is to be said

say_issued : (setup : Setup) (p step : ℕ) (before part : OperatorPart) → part ≡ record before { issued = at before.issued step true }
    → SameLog setup p before part
say_issued setup p step before part effect = subst (λ (x : OperatorPart). SameLog setup p before x) (sym effect)
    (same_if setup p before (record before { issued = at before.issued step true }) refl refl (λ k own. refl) (λ k own. refl))

say_each : (setup : Setup) (w v : World) (step number : ℕ) (taken : Option OperatorTaken) (sent : List OperatorSent) (part : OperatorPart)
    → OrdersSay setup step number w.operator taken sent part → OperatorMoves taken sent part w v → Each setup w v
say_each setup w v step number taken sent part row = operator_as setup w v taken None sent (SayTo row.peering step ∷ []) part row.takes row.sends (λ m.
    let same : (p : ℕ) → SameLog setup p w.operator part = λ p. say_issued setup p step w.operator part row.effect in
    record {
      absent = λ p past. still_absent p w v None (SayTo row.peering step ∷ []) part m (λ b. refl);
      known = λ p l phase s b. elim (equal_or_not p row.peering) [
        | inl e ↦ record {
          next = phase;
          session = s;
          stands = stands_still setup w v p phase s
              (untouched_by_operator setup p None (SayTo row.peering step ∷ []) part w v m (λ i. refl) (λ i. refl) (same p)) b;
          change = subst (λ (x : ℕ). Change setup w v x phase s phase s) (sym e)
              (IsToSay step (operator_says row.peering step w v None part m) (entries_still row.peering w v m.router));
        }
        | inr ne ↦ operator_rests setup w v p None (SayTo row.peering step ∷ []) part phase s m
            (λ i. refl) (λ i. refl) (no_say p row.peering step ne) (same p) b
      ];
    })
  where
    no_say : (p q n : ℕ) → p ≢ q → only_at q n p ++ [] ≡ []
    no_say p q n ne = grind (arith, nat_tests)

-- ---- a graft is ordered

module _ (setup : Setup) (w v : World) (k p t : ℕ) (part : OperatorPart) where
  abbrev source : ℕ
  source = placement setup w.operator p

  abbrev order : GraftOrder
  order = record { graft = k; peering = p; target = t }

  ordered_stands : (s : SessionValue) → OperatorMoves None (OrderTo source order ∷ []) part w v → LogSays setup part p (Busy source k t Ordered)
      → t < routers_in setup → Stands setup w p (Idle source) s
      → Followed setup w v p (Idle source) s
  ordered_stands s m log below b = record {
    next = Busy source k t Ordered;
    session = s;
    stands = record {
      places = λ r. ap (λ (f : ℕ → RouterPart). (f r).places p) m.router ∙ b.places r;
      mesh = λ i j. ap (λ (f : ℕ → ℕ → List Mesh). mesh_items_on p (f i j)) m.mesh ∙ b.mesh i j;
      orders = λ r. own_channel (λ o. o.peering == p) [] (v.orders r) (w.orders r)
          (only_at source order r ++ []) [] (only_at source order r) (m.orders r) refl (b.orders r)
          (ap (orders_of p) (append-nil (only_at source order r)) ∙ own_only (λ (o : GraftOrder). o.peering == p) order source r (equal p));
      reports = λ r. still_taken (λ o. is_graft_on setup p o.graft) [] (v.reports r) (w.reports r) (m.reports r) refl ∙ b.reports r;
      log = subst (λ (o : OperatorPart). LogSays setup o p (Busy source k t Ordered)) (sym m.operator) log;
      bounds = (b.bounds, below, tt);
    };
    change = Grafts Begins (operator_line p w v None (OrderTo source order ∷ []) part m refl) (entries_still p w v m.router);
  }

may_order : (setup : Setup) (n number : ℕ) (before part : OperatorPart) (taken : Option OperatorTaken)
    (sent : List OperatorSent) (row : OrdersGraft setup n number before taken sent part)
    → MayOrder setup before row.graft row.target
may_order setup n number before part taken sent row = record {
  known = row.known;
  group = ap (group_of setup) row.by_step ∙ row.group;
  is = row.is;
  unordered = row.unordered;
  unended = row.unended;
  earlier = row.earlier;
}

graft_each : (setup : Setup) (w v : World) (n number : ℕ) (taken : Option OperatorTaken) (sent : List OperatorSent) (part : OperatorPart)
    → IsSetup setup → GivesToRouters setup w.operator
    → OrdersGraft setup n number w.operator taken sent part → OperatorMoves taken sent part w v → Each setup w v
graft_each setup w v n number taken sent part ok given row =
    let g : ScriptGraft = row.graft in
    let q : ℕ = g.peering in
    let source : ℕ = placement setup w.operator q in
    let o : GraftOrder = record { graft = g.graft; peering = q; target = row.target } in
    let known : q < peerings_in setup = graft_within setup g.graft g ok row.known in
    operator_as setup w v taken None sent (OrderTo source o ∷ []) part row.takes row.sends (λ m.
    let none : (p : ℕ) → p ≢ q → (b : ℕ) → orders_of p (only_at source o b ++ []) ≡ [] =
    λ p ne b. ap (orders_of p) (append-nil (only_at source o b)) ∙ none_only (λ (x : GraftOrder). x.peering == p) o source b (differs p q ne) in
    record {
      absent = λ p past. still_absent p w v None (OrderTo source o ∷ []) part m (none p (λ is. omega arith));
      known = λ p l phase s b. elim (equal_or_not p q) [
        | inl e ↦ subst (λ (x : ℕ). Stands setup w x phase s → Followed setup w v x phase s) (sym e) (own phase s m) b
        | inr ne ↦ operator_rests setup w v p None (OrderTo source o ∷ []) part phase s m (none p ne) (λ i. refl) refl
            (subst (λ (x : OperatorPart). SameLog setup p w.operator x) (sym row.effect) (order_others setup w.operator g source p row.known ne)) b
      ];
    })
  where
    own : (phase : Phase) (s : SessionValue)
        → OperatorMoves None (OrderTo (placement setup w.operator row.graft.peering)
        (record { graft = row.graft.graft; peering = row.graft.peering; target = row.target }) ∷ []) part w v
        → Stands setup w row.graft.peering phase s → Followed setup w v row.graft.peering phase s
    own phase s m b =
        let says = order_own setup w.operator row.graft row.target (may_order setup n number w.operator part taken sent row) phase b.log in
        at_phase setup w v row.graft.peering phase (Idle (placement setup w.operator row.graft.peering)) s says.was
        (ordered_stands setup w v row.graft.graft row.graft.peering row.target part s m
        (subst (λ (x : OperatorPart). LogSays setup x row.graft.peering
        (Busy (placement setup w.operator row.graft.peering) row.graft.graft row.target Ordered)) (sym row.effect) says.log)
        (target_within setup w.operator row.graft row.target ok given row.is)) b

-- ---- an outcome is noted

module _ (setup : Setup) (w v : World) (p r k : ℕ) (part : OperatorPart) where
  noted_stands : (q t : ℕ) (stage : Stage) (final : ℕ) (outcome : Outcome) (s : SessionValue)
      → OperatorMoves (Some (ReportIn r (record { graft = k; outcome = outcome }))) [] part w v
      → ((x : ℕ) → reports_by (Busy q k t stage) x ≡ only_at r (record { graft = k; outcome = outcome }) x)
      → ((x : ℕ) → place_by (Busy q k t stage) s x ≡ place_by (Idle final) s x)
      → ((a b : ℕ) → mesh_by (Busy q k t stage) p s a b ≡ []) → ((x : ℕ) → orders_by (Busy q k t stage) p x ≡ [])
      → is_graft_on setup p k ≡ true → LogSays setup part p (Idle final) → final < routers_in setup → Stands setup w p (Busy q k t stage) s
      → Stands setup v p (Idle final) s
  noted_stands q t stage final outcome s m reported placed no_mesh no_order own log below b = record {
    places = λ x. ap (λ (f : ℕ → RouterPart). (f x).places p) m.router ∙ (b.places x ∙ placed x);
    mesh = λ i j. ap (λ (f : ℕ → ℕ → List Mesh). mesh_items_on p (f i j)) m.mesh ∙ (b.mesh i j ∙ no_mesh i j);
    orders = λ x. still_sent (λ o. o.peering == p) (v.orders x) (w.orders x) [] (m.orders x) refl ∙ (b.orders x ∙ no_order x);
    reports = λ x. own_channel (λ o. is_graft_on setup p o.graft) (only_at r (record { graft = k; outcome = outcome }) x)
        (v.reports x) (w.reports x) [] (only_at r (record { graft = k; outcome = outcome }) x) []
        (m.reports x ∙ sym (append-nil (w.reports x)))
        (own_only (λ (o : Report). is_graft_on setup p o.graft) (record { graft = k; outcome = outcome }) r x own) (b.reports x ∙ reported x) refl;
    log = subst (λ (o : OperatorPart). LogSays setup o p (Idle final)) (sym m.operator) log;
    bounds = below;
  }

  note_own : (outcome : Outcome) (phase : Phase) (s : SessionValue) → part ≡ with_outcome setup w.operator p k outcome → is_graft_on setup p k ≡ true
      → OperatorMoves (Some (ReportIn r (record { graft = k; outcome = outcome }))) [] part w v → Stands setup w p phase s → Followed setup w v p phase s
  note_own (Refused refusal) phase s effect own m b =
      let found = refusal_in phase r k refusal _ (own_head (λ (o : Report). is_graft_on setup p o.graft)
      (w.reports r) m.heads.rest (record { graft = k; outcome = Refused refusal }) m.heads.is own ∙ b.reports r) in
      at_phase setup w v p phase (Busy r k found.0 (Declined refusal)) s found.1 (λ was. record {
        next = Idle r;
        session = s;
        stands = noted_stands r found.0 (Declined refusal) r (Refused refusal) s m (λ x. refl) (λ x. refl) (λ i j. refl) (λ x. refl) own
            (subst (λ (o : OperatorPart). LogSays setup o p (Idle r)) (sym effect)
            (refused_log setup w.operator p r k found.0 (Declined refusal) refusal was.log)) was.bounds.0 was;
        change = Grafts NotesRefusal (operator_line p w v (Some (ReportIn r (record { graft = k; outcome = Refused refusal }))) [] part m refl)
            (entries_still p w v m.router);
      }) b
  note_own Accepted phase s effect own m b =
      let found = success_in phase r k _ (own_head (λ (o : Report). is_graft_on setup p o.graft)
      (w.reports r) m.heads.rest (record { graft = k; outcome = Accepted }) m.heads.is own ∙ b.reports r) in
      at_phase setup w v p phase (Busy r k found.0 Cleared) s found.1 (λ was. record {
        next = Idle found.0;
        session = s;
        stands = noted_stands r found.0 Cleared found.0 Accepted s m (λ x. refl) (λ x. refl) (λ i j. refl) (λ x. refl) own
            (subst (λ (o : OperatorPart). LogSays setup o p (Idle found.0)) (sym effect)
            (accepted_log setup w.operator p r k found.0 Cleared was.log)) was.bounds.1 was;
        change = Grafts NotesSuccess (operator_line p w v (Some (ReportIn r (record { graft = k; outcome = Accepted }))) [] part m refl)
            (entries_still p w v m.router);
      }) b

note_each : (setup : Setup) (w v : World) (r : ℕ) (taken : Option OperatorTaken) (sent : List OperatorSent) (part : OperatorPart)
    → Notes r w.operator taken sent part → OperatorMoves taken sent part w v → Each setup w v
note_each setup w v r taken sent part row = operator_as setup w v taken (Some (ReportIn r row.report)) sent [] part row.takes row.sends (λ m.
    record {
      absent = λ p past. still_absent p w v (Some (ReportIn r row.report)) [] part m (λ b. refl);
      known = λ p l phase s b. by_test p phase s m b (is_graft_on setup p row.report.graft) refl;
    }) where
      by_test : (p : ℕ) (phase : Phase) (s : SessionValue) → OperatorMoves (Some (ReportIn r row.report)) [] part w v → Stands setup w p phase s
          → (own : Bool) → is_graft_on setup p row.report.graft ≡ own → Followed setup w v p phase s
      by_test p phase s m b true own = note_own setup w v p r row.report.graft part row.report.outcome phase s row.effect own m b
      by_test p phase s m b false other = operator_rests setup w v p (Some (ReportIn r row.report)) [] part phase s m
          (λ i. refl) (λ i. none_only (λ (o : Report). is_graft_on setup p o.graft) row.report r i other) refl
          (subst (λ (x : OperatorPart). SameLog setup p w.operator x) (sym row.effect)
          (note_others setup w.operator p row.report.graft row.report.outcome other)) b

-- ---- the next group

-- As a group begins, the log keeps what it has of the grafts of the groups before.
pub begun_log : (setup : Setup) (p : ℕ) (before : OperatorPart) → KeepsLog setup p before (with_gifts setup (record before { group = before.group + 1 }))
begun_log setup p before = record {
  group = omega arith;
  given = λ g own begun.
      given_stays setup (record before { group = before.group + 1 }) g own.0 (λ (same : group_of setup g.step ≡ before.group + 1). omega arith);
  source = λ k own. refl;
  outcome = λ k own. refl;
}

begun_stands : (setup : Setup) (w v : World) (p q : ℕ) (part : OperatorPart) (s : SessionValue) → OperatorMoves None [] part w v
    → KeepsLog setup p w.operator part → Stands setup w p (Idle q) s → Stands setup v p (Idle q) s
begun_stands setup w v p q part s m kept b = record {
  places = λ r. ap (λ (f : ℕ → RouterPart). (f r).places p) m.router ∙ b.places r;
  mesh = λ i j. ap (λ (f : ℕ → ℕ → List Mesh). mesh_items_on p (f i j)) m.mesh ∙ b.mesh i j;
  orders = λ r. still_sent (λ o. o.peering == p) (v.orders r) (w.orders r) [] (m.orders r) refl ∙ b.orders r;
  reports = λ r. still_taken (λ o. is_graft_on setup p o.graft) [] (v.reports r) (w.reports r) (m.reports r) refl ∙ b.reports r;
  log = subst (λ (o : OperatorPart). LogSays setup o p (Idle q)) (sym m.operator) (log_kept setup p w.operator part kept (Idle q) tt b.log);
  bounds = b.bounds;
}

go_each : (setup : Setup) (w v : World) (taken : Option OperatorTaken) (sent : List OperatorSent) (part : OperatorPart) → Quiet setup w
    → BeginsGroup setup w.operator taken sent part → OperatorMoves taken sent part w v → Each setup w v
go_each setup w v taken sent part quiet row = operator_as setup w v taken None sent [] part row.takes row.sends (λ m.
    record {
      absent = λ p past. still_absent p w v None [] part m (λ b. refl);
      known = λ p l phase s b. at_phase setup w v p phase (Idle (source_of phase)) s (quiet_idle setup w p phase s quiet b) (λ was. record {
        next = Idle (source_of phase);
        session = s;
        stands = begun_stands setup w v p (source_of phase) part s m
            (subst (λ (x : OperatorPart). KeepsLog setup p w.operator x) (sym row.effect) (begun_log setup p w.operator)) was;
        change = Rests (operator_line p w v None [] part m refl) (entries_still p w v m.router);
      }) b;
    })

pub operator_each : (setup : Setup) (w v : World) (event : OperatorEvent) (taken : Option OperatorTaken) (sent : List OperatorSent) (part : OperatorPart)
    → IsSetup setup → GivesToRouters setup w.operator
    → MayMake setup event w → operator_row setup event w.operator taken sent part → OperatorMoves taken sent part w v → Each setup w v
operator_each setup w v (Order n number) taken sent part ok given may (inl row) m = say_each setup w v n number taken sent part row m
operator_each setup w v (Order n number) taken sent part ok given may (inr row) m = graft_each setup w v n number taken sent part ok given row m
operator_each setup w v (Note r) taken sent part ok given may row m = note_each setup w v r taken sent part row m
operator_each setup w v Go taken sent part ok given may row m = go_each setup w v taken sent part may row m
