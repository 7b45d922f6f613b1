-- What each event of a router does to the peerings: to its own, if it has one, and to the others.
use Rattle.std.proofs.Common.{◌≡◌, ◌==◌, ℕ, ◌<◌, ◌≤◌, Bool, true, false, List, [], ◌∷◌, ◌++◌, Option, Some, None, refl, sym, ap, ◌∙◌, subst, arith, inl, inr}
use Rattle.std.proofs.lemmas.Bool.Decides.{nat_tests}
use Rattle.std.proofs.lemmas.List.{append-nil}
use Rattle.std.specs.Prelude.{◌≢◌, ◌⊎◌, filter, IsSome}
use Rattle.std.specs.List.{AllByRecursion}
use Rattle.session_value.specs.Sessions.{SessionValue}
use Rattle.graft_model.specs.Setups.{Setup, ScriptGraft, peerings_in, room_of, graft_at}
use Rattle.graft_model.specs.Parts.{Place, Vacant, Mesh, RouterPart, GraftOrder, Report, World}
use Rattle.graft_model.specs.RouterRows.{RouterTaken, OrderIn, MeshIn, RouterSent, MeshTo, ReportOut}
use Rattle.graft_model.specs.GraftRows.{taken_in}
use Rattle.graft_model.specs.Steps.{Heads}
use Rattle.graft_laws.specs.Phases.{Phase, only_at, only2}
use Rattle.graft_laws.specs.Log.{is_peering, is_graft_on}
use Rattle.graft_laws.specs.Owned.{is_on, mesh_items_on, orders_of, Stands, HasNothingOf, Owned}
use Rattle.graft_laws.specs.Moves.{mesh_taken, orders_taken, reports_sent, RouterMoves}
use Rattle.graft_laws.proofs.Others.{AreOthers, Apart, absent_still, untouched_by_router}
use Rattle.graft_laws.proofs.Rests.{rests_by_router}
use Rattle.graft_laws.proofs.Following.{Followed, none_only, none_only2, own_head}

-- ---- whose an item is

pub differs : (p q : ℕ) → p ≢ q → (q == p) ≡ false
differs p q ne = grind (arith, nat_tests)

pub of_known : (setup : Setup) (q k : ℕ) → is_graft_on setup q k ≡ true → IsSome (graft_at setup k)
of_known setup q k own = by_value (graft_at setup k) own where
  by_value : (o : Option ScriptGraft) → is_peering q o ≡ true → IsSome o
  by_value None e = absurd cc
  by_value (Some g) e = refl

pub not_of : (setup : Setup) (p q k : ℕ) → p ≢ q → is_graft_on setup q k ≡ true → is_graft_on setup p k ≡ false
not_of setup p q k ne own = by_value (graft_at setup k) own where
  by_value : (o : Option ScriptGraft) → is_peering q o ≡ true → is_peering p o ≡ false
  by_value None e = refl
  by_value (Some g) e = grind (arith, nat_tests)

pub below_or : (p n : ℕ) → (p < n) ⊎ (n ≤ p)
below_or p n = grind arith

-- a peering of which something is there is one of the setup
module _ (setup : Setup) (w : World) (owned : Owned setup w) where
  pub known_place : (r q : ℕ) (place : Place) → (w.router r).places q ≡ place → place ≢ Vacant → q < peerings_in setup
  known_place r q place is some = elim (below_or q (peerings_in setup)) [ inl l ↦ l | inr past ↦ absurd (some (sym is ∙ (owned.no_others q past).places r)) ]

  pub known_mesh : (a b q : ℕ) (item : Mesh) → Heads (w.mesh a b) item → is_on q item ≡ true → q < peerings_in setup
  known_mesh a b q item h own = elim (below_or q (peerings_in setup)) [
    | inl l ↦ l
    | inr past ↦
        (let e : item ∷ mesh_items_on q h.rest ≡ [] = own_head (is_on q) (w.mesh a b) h.rest item h.is own ∙ (owned.no_others q past).mesh a b in absurd cc)
  ]

  pub known_order : (r q : ℕ) (order : GraftOrder) → Heads (w.orders r) order → (order.peering == q) ≡ true → q < peerings_in setup
  known_order r q order h own = elim (below_or q (peerings_in setup)) [
    | inl l ↦ l
    | inr past ↦ (let e : order ∷ orders_of q h.rest ≡ [] =
        own_head (λ o. o.peering == q) (w.orders r) h.rest order h.is own ∙ (owned.no_others q past).orders r in absurd cc)
  ]

-- ---- what an event does

-- Of a peering that isn't the setup's nothing changes, and each of the setup is followed to where it stands then.
pub record Each (setup : Setup) (w v : World) : Type 0 where
  pub absent : (p : ℕ) → peerings_in setup ≤ p → HasNothingOf w p → HasNothingOf v p
  pub known : (p : ℕ) → p < peerings_in setup → (phase : Phase) (s : SessionValue) → Stands setup w p phase s → Followed setup w v p phase s

-- What a router's event reports is of the script's grafts, and the router has room for what it has then.
pub record Deed (setup : Setup) (w v : World) (r : ℕ) (taken : Option RouterTaken) (sent : List RouterSent) (part : RouterPart) : Type 0 where
  pub each : Each setup w v
  pub reports : (a : ℕ) → AllByRecursion (λ (o : Report). IsSome (graft_at setup o.graft)) (reports_sent r sent a)
  pub room : taken_in setup (w.router r) ≤ room_of setup r → taken_in setup part ≤ room_of setup r

pub equal_or_not : (p q : ℕ) → (p ≡ q) ⊎ (p ≢ q)
equal_or_not p q = by_test (p == q) refl where
  by_test : (b : Bool) → (p == q) ≡ b → (p ≡ q) ⊎ (p ≢ q)
  by_test true is = inl (grind (arith, nat_tests))
  by_test false is = inr (grind (arith, nat_tests))

pub all_apart : (setup : Setup) (w v : World) (r : ℕ) (taken : Option RouterTaken) (sent : List RouterSent) (part : RouterPart)
    → RouterMoves r taken sent part w v
    → ((p : ℕ) → Apart setup p r taken sent (w.router r) part) → Each setup w v
all_apart setup w v r taken sent part m apart = record {
  absent = λ p past. absent_still setup p w v (untouched_by_router setup p r taken sent part w v m (apart p));
  known = λ p l phase s b. rests_by_router setup w v p r taken sent part phase s m (apart p) b;
}

-- an event of the peering q
pub own_or_apart : (setup : Setup) (w v : World) (r q : ℕ) (taken : Option RouterTaken) (sent : List RouterSent) (part : RouterPart)
    → RouterMoves r taken sent part w v → q < peerings_in setup
    → ((p : ℕ) → p ≢ q → Apart setup p r taken sent (w.router r) part)
    → ((phase : Phase) (s : SessionValue) → Stands setup w q phase s → Followed setup w v q phase s) → Each setup w v
own_or_apart setup w v r q taken sent part m known apart follow = record {
  absent = λ p past. absent_still setup p w v (untouched_by_router setup p r taken sent part w v m (apart p (λ is. omega arith)));
  known = λ p l phase s b. elim (equal_or_not p q) [
    | inl e ↦ subst (λ (x : ℕ). Stands setup w x phase s → Followed setup w v x phase s) (sym e) (follow phase s) b
    | inr ne ↦ rests_by_router setup w v p r taken sent part phase s m (apart p ne) b
  ];
}

-- ---- items of other peerings

pub no_items : (setup : Setup) (p r : ℕ) → AreOthers setup p r None []
no_items setup p r = record { mesh_taken = λ i j. refl; mesh_sent = λ i j. refl; orders_taken = λ i. refl; reports_sent = λ i. refl }

pub other_order : (setup : Setup) (p r : ℕ) (order : GraftOrder) → (order.peering == p) ≡ false → AreOthers setup p r (Some (OrderIn order)) []
other_order setup p r order e = record {
  mesh_taken = λ i j. refl;
  mesh_sent = λ i j. refl;
  orders_taken = λ i. none_only (λ (o : GraftOrder). o.peering == p) order r i e;
  reports_sent = λ i. refl;
}

-- to one item, if it is another's, nothing is added
only_front : {A : Type 0} (test : A → Bool) (xs : List A) → filter test xs ≡ [] → filter test (xs ++ []) ≡ []
only_front test xs e = ap (filter test) (append-nil xs) ∙ e

pub other_report : (setup : Setup) (p r : ℕ) (taken : Option RouterTaken) (report : Report)
    → ((i j : ℕ) → mesh_items_on p (mesh_taken r taken i j) ≡ []) → ((i : ℕ) → orders_of p (orders_taken r taken i) ≡ [])
    → is_graft_on setup p report.graft ≡ false
    → AreOthers setup p r taken (ReportOut report ∷ [])
other_report setup p r taken report no_mesh no_order e = record {
  mesh_taken = no_mesh;
  mesh_sent = λ i j. refl;
  orders_taken = no_order;
  reports_sent = λ i. only_front (λ (o : Report). is_graft_on setup p o.graft)
      (only_at r report i) (none_only (λ (o : Report). is_graft_on setup p o.graft) report r i e);
}

-- an item from a router, another to a router, and what goes to far sides
pub other_mesh : (setup : Setup) (p r q t : ℕ) (item more : Mesh) → is_on p item ≡ false → is_on p more ≡ false
    → AreOthers setup p r (Some (MeshIn q item)) (MeshTo t more ∷ [])
other_mesh setup p r q t item more e f = record {
  mesh_taken = λ i j. none_only2 (is_on p) item q r i j e;
  mesh_sent = λ i j. only_front (is_on p) (only2 r t more i j) (none_only2 (is_on p) more r t i j f);
  orders_taken = λ i. refl;
  reports_sent = λ i. refl;
}

pub other_sent : (setup : Setup) (p r t : ℕ) (more : Mesh) → is_on p more ≡ false → AreOthers setup p r None (MeshTo t more ∷ [])
other_sent setup p r t more f = record {
  mesh_taken = λ i j. refl;
  mesh_sent = λ i j. only_front (is_on p) (only2 r t more i j) (none_only2 (is_on p) more r t i j f);
  orders_taken = λ i. refl;
  reports_sent = λ i. refl;
}

pub other_taken : (setup : Setup) (p r q : ℕ) (item : Mesh) → is_on p item ≡ false → (i j : ℕ) → mesh_items_on p (mesh_taken r (Some (MeshIn q item)) i j) ≡ []
other_taken setup p r q item e i j = none_only2 (is_on p) item q r i j e

pub no_outward : {A : Type 0} (r q p a : ℕ) (item : A) → p ≢ q → only2 r q item a p ++ [] ≡ []
no_outward r q p a item ne = grind (arith, nat_tests)

pub no_inward : {A : Type 0} (r q p b : ℕ) (item : A) → p ≢ q → only2 q r item p b ≡ []
no_inward r q p b item ne = grind (arith, nat_tests)
