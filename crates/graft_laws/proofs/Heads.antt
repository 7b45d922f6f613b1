-- What a phase says for the items at the heads of channels, for the session's place and for the graft's number.
use Rattle.std.proofs.Common.{◌≡◌, ◌==◌, cond, ℕ, ◌<◌, List, [], ◌∷◌, Some, None, refl, sym, ap, ◌∙◌, subst, arith}
use Rattle.std.proofs.lemmas.Bool.Decides.{nat_tests}
use Rattle.std.proofs.lemmas.Option.{same_Some}
use Rattle.std.specs.Prelude.{◌≢◌}
use Rattle.std.specs.List.{flat_map}
use Rattle.graft_steps.specs.declared.refusal.Refusal.{Refusal}
use Rattle.graft_steps.specs.declared.refusal.Outcome.TheVariants.{Accepted, Refused}
use Rattle.session_value.specs.Sessions.{SessionValue}
use Rattle.graft_model.specs.Setups.{Setup, ScriptGraft, peerings_in}
use Rattle.graft_model.specs.Parts.{Place, Vacant, Live, Frozen, Shadow, Leaving, Owing, Asking as ToAnswer}
use Rattle.graft_model.specs.Parts.{Moved, Back, Done, GraftOrder, Report, OperatorPart, World}
use Rattle.graft_model.specs.Placements.{target_in}
use Rattle.graft_model.specs.Claims.{sessions_at, sessions_on}
use Rattle.graft_model.specs.Steps.{Heads}
use Rattle.graft_laws.specs.Phases.{Stage, Ordered, Stored, Halted, Moving, Landed, Asking, Confirmed, Returning}
use Rattle.graft_laws.specs.Phases.{Declined, Cleared, Phase, Idle, Busy, only_at, only2, place_by, mesh_by}
use Rattle.graft_laws.specs.Log.{IsGraftUnderWay}
use Rattle.graft_laws.specs.Owned.{is_on, mesh_items_on, orders_of, Stands, Owned}
use Rattle.graft_laws.specs.Facts.{IsNowhereElse}
use Rattle.graft_model.specs.RouterRows.{OrderIn}
use Rattle.graft_model.specs.Taking.{RouterMayTake}
use Rattle.graft_laws.proofs.Phases.{stored_at, halted_at, owing_at, asking_at, moved_in, back_in, done_in, order_in, refusal_in, success_in}
use Rattle.graft_laws.proofs.Following.{own_head}
use Rattle.graft_laws.proofs.Deeds.{known_mesh, known_order}
use Rattle.graft_laws.proofs.Grafts.{equal}
use Rattle.graft_laws.proofs.Holders.{one_session, items_of}

-- ---- one phase

pub only_here : {A : Type 0} (m : ℕ) (x : A) → only_at m x m ≡ x ∷ []
only_here m x = ap (λ b. cond b (x ∷ []) []) (equal m)

pub only2_here : {A : Type 0} (j k : ℕ) (x : A) → only2 j k x j k ≡ x ∷ []
only2_here j k x = ap (λ b. cond b (cond (k == k) (x ∷ []) []) []) (equal j) ∙ only_here k x

pub placed_here : (q : ℕ) (place : Place) → cond (q == q) place Vacant ≡ place
placed_here q place = ap (λ b. cond b place Vacant) (equal q)

pub landed_here : (t : ℕ) (place other : Place) → cond (t == t) place other ≡ place
landed_here t place other = ap (λ b. cond b place other) (equal t)

-- a graft has one target
same_target : (setup : Setup) (operator : OperatorPart) (p q k t u : ℕ) (now other : List ScriptGraft) → IsGraftUnderWay setup operator p q k t now
    → IsGraftUnderWay setup operator p q k u other → u ≡ t
same_target setup operator p q k t u now other one two =
    let same = same_Some _ _ (sym one.known ∙ two.known) in
    same_Some u t (sym two.aims ∙ (ap (target_in setup operator) (sym same) ∙ one.aims))

module _ (setup : Setup) (w : World) (p q k t : ℕ) (s : SessionValue) (next : Phase) (u : SessionValue) (other : Stands setup w p next u) where
  -- the target of a graft is the log's
  by_target : (stage : Stage) (v : ℕ) → Stands setup w p (Busy q k t stage) s → next ≡ Busy q k v stage → next ≡ Busy q k t stage
  by_target stage v b e =
      let o : Stands setup w p (Busy q k v stage) u = subst (λ (x : Phase). Stands setup w p x u) e other in
      e ∙ ap (λ (x : ℕ). Busy q k x stage) (same_target setup w.operator p q k t v b.log.now o.log.now b.log.goes_on o.log.goes_on)

  pub busy_same : (stage : Stage) → Stands setup w p (Busy q k t stage) s → next ≡ Busy q k t stage
  busy_same Ordered b =
      let o : GraftOrder = record { graft = k; peering = p; target = t } in
      (order_in next p q o [] (sym (only_here q o) ∙ (sym (b.orders q) ∙ other.orders q))).0
  busy_same Stored b =
      (stored_at next u s q k t (sym (placed_here q (Live s (Some (Leaving (record { graft = k; target = t }))))) ∙ (sym (b.places q) ∙ other.places q))).0
  busy_same Halted b = (halted_at next u s q k t (sym (placed_here q (Frozen s (record { graft = k; target = t }))) ∙ (sym (b.places q) ∙ other.places q))).0
  busy_same Moving b = (moved_in next p u s q t k [] (sym (only2_here q t (Moved k p s)) ∙ (sym (b.mesh q t) ∙ other.mesh q t))).0
  busy_same (Landed n) b =
      (owing_at next u s t k q n (sym (landed_here t (Live s (Some (Owing (record { graft = k; source = q; next = n })))) (cond (t == q) (Shadow k) Vacant))
      ∙ (sym (b.places t) ∙ other.places t))).0
  busy_same (Asking n) b =
      (asking_at next u s t k q n (sym (landed_here t (Live s (Some (ToAnswer (record { graft = k; source = q; next = n }))))
      (cond (t == q) (Shadow k) Vacant)) ∙ (sym (b.places t) ∙ other.places t))).0
  busy_same Confirmed b = done_in next p u t q k [] (sym (only2_here t q (Done k p)) ∙ (sym (b.mesh t q) ∙ other.mesh t q))
  busy_same (Returning refusal) b = (back_in next p u s refusal t q k [] (sym (only2_here t q (Back k p s refusal)) ∙ (sym (b.mesh t q) ∙ other.mesh t q))).0
  busy_same (Declined refusal) b =
      let found = refusal_in next q k refusal []
      (sym (only_here q (let o : Report = record { graft = k; outcome = Refused refusal } in o)) ∙ (sym (b.reports q) ∙ other.reports q)) in
      by_target (Declined refusal) found.0 b found.1
  busy_same Cleared b =
      let found = success_in next q k []
      (sym (only_here q (let o : Report = record { graft = k; outcome = Accepted } in o)) ∙ (sym (b.reports q) ∙ other.reports q)) in
      by_target Cleared found.0 b found.1

-- A peering stands in one phase, with one session.
pub one_phase : (setup : Setup) (w : World) (p : ℕ) (phase next : Phase) (s u : SessionValue) → Stands setup w p phase s → Stands setup w p next u
    → phase ≡ next
one_phase setup w p (Busy q k t stage) next s u b o = sym (busy_same setup w p q k t s next u o stage b)
one_phase setup w p (Idle q) (Busy r k t stage) s u b o = busy_same setup w p r k t u (Idle q) s b stage o
one_phase setup w p (Idle q) (Idle r) s u b o = ap Idle (sym b.log.placed ∙ o.log.placed)

same_one : (s u : SessionValue) → s ∷ [] ≡ u ∷ [] → s ≡ u
same_one s u e = cc

pub same_session : (setup : Setup) (w : World) (p : ℕ) (phase next : Phase) (s u : SessionValue) → Stands setup w p phase s → Stands setup w p next u → s ≡ u
same_session setup w p phase next s u b o = same_one s u (sym (one_session setup w p phase s b) ∙ one_session setup w p next u o)

-- ---- where a session is, it is alone

abbrev NoOther : Phase → ℕ → SessionValue → ℕ → Type 0
NoOther phase p s r = ((x : ℕ) → x ≢ r → sessions_at (place_by phase s x) ≡ []) × ((a b : ℕ) → flat_map (sessions_on p) (mesh_by phase p s a b) ≡ [])

no_other : (phase : Phase) (p : ℕ) (s : SessionValue) (r : ℕ) → sessions_at (place_by phase s r) ≢ [] → NoOther phase p s r
no_other (Busy q k t Moving) p s r some = absurd (some (grind (arith, nat_tests)))
no_other (Busy q k t (Landed n)) p s r some = (λ x ne. grind (arith, nat_tests), λ a b. grind (arith, nat_tests))
no_other (Busy q k t (Asking n)) p s r some = (λ x ne. grind (arith, nat_tests), λ a b. grind (arith, nat_tests))
no_other (Busy q k t Confirmed) p s r some = (λ x ne. grind (arith, nat_tests), λ a b. grind (arith, nat_tests))
no_other (Busy q k t (Returning refusal)) p s r some = absurd (some (grind (arith, nat_tests)))
no_other _ p s r some = (λ x ne. grind (arith, nat_tests), λ a b. refl)

pub nowhere_else : (setup : Setup) (w : World) (p r : ℕ) (phase : Phase) (s : SessionValue) → Stands setup w p phase s
    → sessions_at ((w.router r).places p) ≢ [] → IsNowhereElse w p r
nowhere_else setup w p r phase s b some =
    let none : NoOther phase p s r = no_other phase p s r (λ (e : sessions_at (place_by phase s r) ≡ []). some (ap sessions_at (b.places r) ∙ e)) in
    record {
      places = λ x ne. ap sessions_at (b.places x) ∙ none.0 x ne;
      channels = λ i j. items_of p (w.mesh i j) ∙ (ap (flat_map (sessions_on p)) (b.mesh i j) ∙ none.1 i j);
    }

-- ---- the heads of channels

module _ (setup : Setup) (w : World) (owned : Owned setup w) where
  pub may_store : (r : ℕ) (o : GraftOrder) → Heads (w.orders r) o → RouterMayTake setup (w.router r) (OrderIn o)
  may_store r o h =
      let p : ℕ = o.peering in
      let l : p < peerings_in setup = known_order setup w owned r p o h (equal p) in
      let held = owned.peerings p l in
      let e = order_in held.phase p r o (orders_of p h.rest)
      (own_head (λ (x : GraftOrder). x.peering == p) (w.orders r) h.rest o h.is (equal p) ∙ held.stands.orders r) in
      let b : Stands setup w p (Busy r o.graft o.target Ordered) held.session = subst (λ (x : Phase). Stands setup w p x held.session) e.0 held.stands in
      (b.bounds.1, held.session, record { is = b.places r ∙ placed_here r (Live held.session None) })

  pub vacant_at : (q r k p : ℕ) (s : SessionValue) → Heads (w.mesh q r) (Moved k p s) → (p < peerings_in setup) × ((w.router r).places p ≡ Vacant)
  vacant_at q r k p s h =
      let l : p < peerings_in setup = known_mesh setup w owned q r p (Moved k p s) h (equal p) in
      let held = owned.peerings p l in
      let e = moved_in held.phase p held.session s q r k (mesh_items_on p h.rest)
      (own_head (is_on p) (w.mesh q r) h.rest (Moved k p s) h.is (equal p) ∙ held.stands.mesh q r) in
      let b : Stands setup w p (Busy q k r Moving) held.session = subst (λ (x : Phase). Stands setup w p x held.session) e.0 held.stands in
      (l, b.places r ∙ vacant r q k b.bounds.2)
    where
      vacant : (r q k : ℕ) → r ≢ q → cond (r == q) (Shadow k) Vacant ≡ Vacant
      vacant r q k ne = grind (arith, nat_tests)

  pub shadow_back : (q r k p : ℕ) (s : SessionValue) (refusal : Refusal) → Heads (w.mesh q r) (Back k p s refusal) → (w.router r).places p ≡ Shadow k
  shadow_back q r k p s refusal h =
      let l : p < peerings_in setup = known_mesh setup w owned q r p (Back k p s refusal) h (equal p) in
      let held = owned.peerings p l in
      let e = back_in held.phase p held.session s refusal q r k (mesh_items_on p h.rest)
      (own_head (is_on p) (w.mesh q r) h.rest (Back k p s refusal) h.is (equal p) ∙ held.stands.mesh q r) in
      let b : Stands setup w p (Busy r k q (Returning refusal)) held.session = subst (λ (x : Phase). Stands setup w p x held.session) e.0 held.stands in
      b.places r ∙ placed_here r (Shadow k)

  pub shadow_done : (q r k p : ℕ) → Heads (w.mesh q r) (Done k p) → (w.router r).places p ≡ Shadow k
  shadow_done q r k p h =
      let l : p < peerings_in setup = known_mesh setup w owned q r p (Done k p) h (equal p) in
      let held = owned.peerings p l in
      let e = done_in held.phase p held.session q r k (mesh_items_on p h.rest)
      (own_head (is_on p) (w.mesh q r) h.rest (Done k p) h.is (equal p) ∙ held.stands.mesh q r) in
      let b : Stands setup w p (Busy r k q Confirmed) held.session = subst (λ (x : Phase). Stands setup w p x held.session) e held.stands in
      b.places r ∙ shadow r q k held.session b.bounds.2
    where
      shadow : (r q k : ℕ) (s : SessionValue) → q ≢ r → cond (r == q) (Live s None) (cond (r == r) (Shadow k) Vacant) ≡ Shadow k
      shadow r q k s ne = grind (arith, nat_tests)
