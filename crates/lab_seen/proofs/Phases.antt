-- Where the phase of a peering has its session.
use Rattle.std.proofs.Common.{◌≡◌, ◌≢◌, ◌<◌, ℕ, Bool, true, false, cond, List, [], ◌∷◌, Option, Some, None, refl, sym, ap, ◌∙◌, subst, inl, inr, arith}
use Rattle.std.specs.Prelude.{◌==◌}
use Rattle.std.specs.List.{AllByRecursion}
use Rattle.std.proofs.lemmas.Bool.Decides.{eqb_tells, nat_tests}
use Rattle.session_value.specs.Sessions.{SessionValue}
use Rattle.graft_model.specs.Setups.{Setup, routers_in}
use Rattle.graft_model.specs.Parts.{Place, Vacant, Live, Frozen, Shadow, Order, Errand, Mesh, Told, Moved, Back}
use Rattle.graft_model.specs.Parts.{Asked, Answered, Done, Leaving, Owing, Asking as AskingOf}
use Rattle.graft_model.specs.Claims.{sessions_at}
use Rattle.graft_laws.specs.Owned.{mesh_items_on}
use Rattle.graft_laws.specs.Phases.{Ordered, Stored, Halted, Moving, Landed, Asking, Confirmed, Returning, Declined}
use Rattle.graft_laws.specs.Phases.{Cleared, Phase, Idle, Busy, place_by, placed_at, mesh_by, only2, InBounds}
use Rattle.lab_report.specs.declared.lab.Place.{Place as LabPlace}
use Rattle.lab_report.specs.declared.lab.Place.TheVariants as labs
use Rattle.lab_seen.specs.Seen.{session_view}
use Rattle.lab_seen.specs.declared.found.Found.{Found}

-- the router that holds the session, or that it is on its way
abbrev pub place_in : Phase → LabPlace
place_in (Idle q) = labs.Held (record { 0 = q })
place_in (Busy q k t Moving) = labs.Moving
place_in (Busy q k t (Returning refusal)) = labs.Moving
place_in (Busy q k t (Landed next)) = labs.Held (record { 0 = t })
place_in (Busy q k t (Asking next)) = labs.Held (record { 0 = t })
place_in (Busy q k t Confirmed) = labs.Held (record { 0 = t })
place_in (Busy q k t Cleared) = labs.Held (record { 0 = t })
place_in (Busy q k t stage) = labs.Held (record { 0 = q })

-- held by the router of this number
abbrev pub held_at : ℕ → LabPlace
held_at r = labs.Held (record { 0 = r })

itself : (n : ℕ) → (n == n) ≡ true
itself n = grind (arith, nat_tests)

differs : (m n : ℕ) → (m == n) ≡ false → m ≡ n → ⊥
differs m n e same = absurd (let f : true ≡ false = sym (ap (λ k. k == n) same ∙ itself n) ∙ e in cc)

-- ---- at a router

-- what a router has that holds a session
pub record IsSessionOf (phase : Phase) (s : SessionValue) (r : ℕ) (x : SessionValue) : Type 0 where
  pub same : x ≡ s
  pub place : held_at r ≡ place_in phase

live_is : (q r : ℕ) (s x : SessionValue) (o o' : Option Errand) → placed_at q (Live s o) r ≡ Live x o' → (x ≡ s) × (held_at r ≡ held_at q)
live_is q r s x o o' e = elim (eqb_tells r q) [
  | inl same ↦ (let f : Live s o ≡ Live x o' = sym (rw (same.0) refl) ∙ e in (cc, ap held_at same.1))
  | inr apart ↦ absurd (let f : Vacant ≡ Live x o' = sym (rw (apart.0) refl) ∙ e in cc)
]

no_live : (q r : ℕ) (place : Place) (x : SessionValue) (o : Option Errand) → (place ≡ Live x o → ⊥) → placed_at q place r ≡ Live x o → ⊥
no_live q r place x o none e = elim (eqb_tells r q) [
  | inl same ↦ none (sym (rw (same.0) refl) ∙ e)
  | inr apart ↦ absurd (let f : Vacant ≡ Live x o = sym (rw (apart.0) refl) ∙ e in cc)
]

no_shadow : (k : ℕ) (x : SessionValue) (o : Option Errand) → Shadow k ≡ Live x o → ⊥
no_shadow k x o e = cc

no_frozen : (s : SessionValue) (order : Order) (x : SessionValue) (o : Option Errand) → Frozen s order ≡ Live x o → ⊥
no_frozen s order x o e = cc

landed_is : (q r t k : ℕ) (s x : SessionValue) (o o' : Option Errand) → cond (r == t) (Live s o') (placed_at q (Shadow k) r) ≡ Live x o
    → (x ≡ s) × (held_at r ≡ held_at t)
landed_is q r t k s x o o' e = elim (eqb_tells r t) [
  | inl same ↦ (let f : Live s o' ≡ Live x o = sym (rw (same.0) refl) ∙ e in (cc, ap held_at same.1))
  | inr apart ↦ absurd (no_live q r (Shadow k) x o (no_shadow k x o) (sym (rw (apart.0) refl) ∙ e))
]

-- a session that is live at a router is the peering's, which is held there
pub live_by : (phase : Phase) (s : SessionValue) (r : ℕ) (x : SessionValue) (o : Option Errand) → place_by phase s r ≡ Live x o → IsSessionOf phase s r x
live_by (Idle q) s r x o e = let h = live_is q r s x None o e in record { same = h.0; place = h.1 }
live_by (Busy q k t Ordered) s r x o e = let h = live_is q r s x None o e in record { same = h.0; place = h.1 }
live_by (Busy q k t Stored) s r x o e = let h = live_is q r s x (Some (Leaving (record { graft = k; target = t }))) o e in record { same = h.0; place = h.1 }
live_by (Busy q k t Halted) s r x o e =
    absurd (no_live q r (Frozen s (record { graft = k; target = t })) x o (no_frozen s (record { graft = k; target = t }) x o) e)
live_by (Busy q k t Moving) s r x o e = absurd (no_live q r (Shadow k) x o (no_shadow k x o) e)
live_by (Busy q k t (Asking next)) s r x o e = let h = landed_is q r t k s x o _ e in record { same = h.0; place = h.1 }
live_by (Busy q k t (Landed next)) s r x o e = let h = landed_is q r t k s x o _ e in record { same = h.0; place = h.1 }
live_by (Busy q k t Confirmed) s r x o e = let h = landed_is q r t k s x o _ e in record { same = h.0; place = h.1 }
live_by (Busy q k t (Returning refusal)) s r x o e = absurd (no_live q r (Shadow k) x o (no_shadow k x o) e)
live_by (Busy q k t (Declined refusal)) s r x o e = let h = live_is q r s x None o e in record { same = h.0; place = h.1 }
live_by (Busy q k t Cleared) s r x o e = let h = live_is t r s x None o e in record { same = h.0; place = h.1 }

-- ---- on its way

-- a session that is on its way, as it is found
abbrev pub moving : SessionValue → Found
moving x = record { peering = x.config.peering; place = labs.Moving; view = session_view x }

-- this holds of the session that an item carries, where it carries that of its peering
abbrev pub OnMesh : (Found → Type 0) → Mesh → Type 0
OnMesh P (Told prefix route) = Unit {0}
OnMesh P (Moved k q x) = q ≡ x.config.peering.0 → P (moving x)
OnMesh P (Back k q x refusal) = q ≡ x.config.peering.0 → P (moving x)
OnMesh P (Asked k q) = Unit {0}
OnMesh P (Answered k q) = Unit {0}
OnMesh P (Done k q) = Unit {0}

abbrev pub IsNotOn : ℕ → Found → Type 0
IsNotOn p one = one.peering.0 ≢ p

-- an item that carries a session of the peering carries this one
abbrev pub CarriesOnly : ℕ → Phase → SessionValue → Mesh → Type 0
CarriesOnly p phase s (Told prefix route) = Unit {0}
CarriesOnly p phase s (Moved k q x) = q ≡ p → (x ≡ s) × (labs.Moving ≡ place_in phase)
CarriesOnly p phase s (Back k q x refusal) = q ≡ p → (x ≡ s) × (labs.Moving ≡ place_in phase)
CarriesOnly p phase s (Asked k q) = Unit {0}
CarriesOnly p phase s (Answered k q) = Unit {0}
CarriesOnly p phase s (Done k q) = Unit {0}

only_item : (P : Mesh → Type 0) (j k a b : ℕ) (item : Mesh) → P item → AllByRecursion P (only2 j k item a b)
only_item P j k a b item is = by_tests (a == j) (b == k) where
  by_tests : (s t : Bool) → AllByRecursion P (cond s (cond t (item ∷ []) []) [])
  by_tests true true = (is, tt)
  by_tests true false = tt
  by_tests false t = tt

moved_by : (p : ℕ) (phase : Phase) (s : SessionValue) (a b : ℕ) → AllByRecursion (CarriesOnly p phase s) (mesh_by phase p s a b)
moved_by p (Idle q) s a b = tt
moved_by p (Busy q k t Ordered) s a b = tt
moved_by p (Busy q k t Stored) s a b = tt
moved_by p (Busy q k t Halted) s a b = tt
moved_by p (Busy q k t Moving) s a b = only_item (CarriesOnly p (Busy q k t Moving) s) q t a b (Moved k p s) (λ same. (refl, refl))
moved_by p (Busy q k t (Landed next)) s a b = tt
moved_by p (Busy q k t (Asking next)) s a b = tt
moved_by p (Busy q k t Confirmed) s a b = only_item (CarriesOnly p (Busy q k t Confirmed) s) t q a b (Done k p) tt
moved_by p (Busy q k t (Returning refusal)) s a b =
    only_item (CarriesOnly p (Busy q k t (Returning refusal)) s) t q a b (Back k p s refusal) (λ same. (refl, refl))
moved_by p (Busy q k t (Declined refusal)) s a b = tt
moved_by p (Busy q k t Cleared) s a b = tt

-- so do all items of a channel, where those of the peering do
carries_all : (p : ℕ) (phase : Phase) (s : SessionValue) (items : List Mesh) → AllByRecursion (CarriesOnly p phase s) (mesh_items_on p items)
    → AllByRecursion (CarriesOnly p phase s) items
carries_all p phase s [] all = tt
carries_all p phase s (Told prefix route ∷ items) all = (tt, carries_all p phase s items all)
carries_all p phase s (Moved k q x ∷ items) all = by_test (q == p) refl (carries_all p phase s items) all where
  by_test : (b : Bool) → (q == p) ≡ b → (AllByRecursion (CarriesOnly p phase s) (mesh_items_on p items) → AllByRecursion (CarriesOnly p phase s) items)
      → AllByRecursion (CarriesOnly p phase s) (cond b (Moved k q x ∷ mesh_items_on p items) (mesh_items_on p items))
      → AllByRecursion (CarriesOnly p phase s) (Moved k q x ∷ items)
  by_test true e rest all = (all.0, rest all.1)
  by_test false e rest all = (λ same. absurd (differs q p e same), rest all)
carries_all p phase s (Back k q x refusal ∷ items) all = by_test (q == p) refl (carries_all p phase s items) all where
  by_test : (b : Bool) → (q == p) ≡ b → (AllByRecursion (CarriesOnly p phase s) (mesh_items_on p items) → AllByRecursion (CarriesOnly p phase s) items)
      → AllByRecursion (CarriesOnly p phase s) (cond b (Back k q x refusal ∷ mesh_items_on p items) (mesh_items_on p items))
      → AllByRecursion (CarriesOnly p phase s) (Back k q x refusal ∷ items)
  by_test true e rest all = (all.0, rest all.1)
  by_test false e rest all = (λ same. absurd (differs q p e same), rest all)
carries_all p phase s (Asked k q ∷ items) all = (tt, carries_all p phase s items all)
carries_all p phase s (Answered k q ∷ items) all = (tt, carries_all p phase s items all)
carries_all p phase s (Done k q ∷ items) all = by_test (q == p) (carries_all p phase s items) all where
  by_test : (b : Bool) → (AllByRecursion (CarriesOnly p phase s) (mesh_items_on p items) → AllByRecursion (CarriesOnly p phase s) items)
      → AllByRecursion (CarriesOnly p phase s) (cond b (Done k q ∷ mesh_items_on p items) (mesh_items_on p items))
      → AllByRecursion (CarriesOnly p phase s) (Done k q ∷ items)
  by_test true rest all = (tt, rest all.1)
  by_test false rest all = (tt, rest all)

pub moved_only : (p : ℕ) (phase : Phase) (s : SessionValue) (a b : ℕ) (items : List Mesh) → mesh_items_on p items ≡ mesh_by phase p s a b
    → AllByRecursion (CarriesOnly p phase s) items
moved_only p phase s a b items is =
    carries_all p phase s items (subst (λ (xs : List Mesh). AllByRecursion (CarriesOnly p phase s) xs) (sym is) (moved_by p phase s a b))

-- ---- somewhere

-- The session is live at a router, or frozen there; or an item that carries it is on its way between two routers, and no router has it.
pub data Whereabouts (setup : Setup) (p : ℕ) (phase : Phase) (s : SessionValue) : Type 0 where
  AtRouter : (r : ℕ) (order : Option Errand) → r < routers_in setup → place_by phase s r ≡ Live s order → place_in phase ≡ held_at r
      → Whereabouts setup p phase s
  Halts : (r : ℕ) (order : Order) → r < routers_in setup → place_by phase s r ≡ Frozen s order → place_in phase ≡ held_at r → Whereabouts setup p phase s
  OnWay : (a b : ℕ) (item : Mesh) → a < routers_in setup → b < routers_in setup → a ≢ b → mesh_by phase p s a b ≡ item ∷ []
      → (OnMesh (IsNotOn p) item → s.config.peering.0 ≡ p → ⊥)
      → place_in phase ≡ labs.Moving → ((r : ℕ) → sessions_at (place_by phase s r) ≡ []) → Whereabouts setup p phase s

placed : (q : ℕ) (place : Place) → placed_at q place q ≡ place
placed q place = rw (itself q) refl

alone : (j k : ℕ) (item : Mesh) → only2 j k item j k ≡ item ∷ []
alone j k item = rw (itself j, itself k) refl

shadows : (q k r : ℕ) → sessions_at (placed_at q (Shadow k) r) ≡ []
shadows q k r = by_test (r == q) where
  by_test : (b : Bool) → sessions_at (cond b (Shadow k) Vacant) ≡ []
  by_test true = refl
  by_test false = refl

pub whereabouts : (setup : Setup) (p : ℕ) (phase : Phase) (s : SessionValue) → InBounds setup phase → Whereabouts setup p phase s
whereabouts setup p (Idle q) s l = AtRouter q None l (placed q (Live s None)) refl
whereabouts setup p (Busy q k t Ordered) s l = AtRouter q None l.0 (placed q (Live s None)) refl
whereabouts setup p (Busy q k t Stored) s l =
    AtRouter q (Some (Leaving (record { graft = k; target = t }))) l.0 (placed q (Live s (Some (Leaving (record { graft = k; target = t }))))) refl
whereabouts setup p (Busy q k t Halted) s l = Halts q (record { graft = k; target = t }) l.0 (placed q (Frozen s (record { graft = k; target = t }))) refl
whereabouts setup p (Busy q k t Moving) s l =
    OnWay q t (Moved k p s) l.0 l.1 (λ e. l.2 (sym e)) (alone q t (Moved k p s)) (λ not number. not (sym number) number) refl (shadows q k)
whereabouts setup p (Busy q k t (Landed next)) s l = AtRouter t (Some (Owing (record { graft = k; source = q; next = next }))) l.1 (rw (itself t) refl) refl
whereabouts setup p (Busy q k t (Asking next)) s l = AtRouter t (Some (AskingOf (record { graft = k; source = q; next = next }))) l.1 (rw (itself t) refl) refl
whereabouts setup p (Busy q k t Confirmed) s l = AtRouter t None l.1 (rw (itself t) refl) refl
whereabouts setup p (Busy q k t (Returning refusal)) s l =
    OnWay t q (Back k p s refusal) l.1 l.0 l.2 (alone t q (Back k p s refusal)) (λ not number. not (sym number) number) refl (shadows q k)
whereabouts setup p (Busy q k t (Declined refusal)) s l = AtRouter q None l.0 (placed q (Live s None)) refl
whereabouts setup p (Busy q k t Cleared) s l = AtRouter t None l.1 (placed t (Live s None)) refl
