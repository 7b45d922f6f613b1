-- The events of a graft at routers: each leads its peering from one phase to the next.
use Rattle.std.proofs.Common.{◌≡◌, ◌==◌, cond, ℕ, Bool, true, false, [], ◌∷◌, ◌++◌, Some, None, refl, ap, ◌∙◌, arith}
use Rattle.std.proofs.lemmas.Bool.Decides.{nat_tests}
use Rattle.std.proofs.lemmas.List.{append-nil}
use Rattle.std.specs.Prelude.{◌≢◌, filter}
use Rattle.std.specs.FinMap as map
use Rattle.graft_steps.specs.declared.refusal.Refusal.{Refusal}
use Rattle.graft_steps.specs.declared.refusal.Outcome.TheVariants.{Accepted, Refused}
use Rattle.graft_steps.specs.Refusals.{freeze_refusal}
use Rattle.session_value.specs.Sessions.{SessionValue, state, hold_time}
use Rattle.graft_model.specs.Setups.{Setup}
use Rattle.graft_model.specs.Parts.{Place, Vacant, Live, Frozen, Shadow, Leaving, Owing, Asking as ToAnswer, RouterPart, Mesh}
use Rattle.graft_model.specs.Parts.{Moved, Back, Asked, Answered, Done, PointAt, GraftOrder, Report, World}
use Rattle.graft_model.specs.RouterRows.{OrderIn, MeshIn, MeshTo, OutwardTo, ReportOut, BringsIn}
use Rattle.graft_model.specs.GraftRows.{refusal_of}
use Rattle.graft_laws.specs.Phases.{Ordered, Stored, Halted, Moving, Landed, Asking, Confirmed, Returning, Declined, Cleared, Busy, only_at, only2, place_by}
use Rattle.graft_laws.specs.Log.{is_graft_on}
use Rattle.graft_laws.specs.Owned.{is_on, mesh_items_on, Stands}
use Rattle.graft_laws.specs.Moves.{RouterMoves}
use Rattle.graft_laws.specs.Life.{Grafts, Admits, Refuses, Freezes, Leaves, Lands, TurnsBack, Returns, Asks, Counts, Confirms, Clears}
use Rattle.graft_laws.proofs.Logs.{log_on, own_known}
use Rattle.graft_laws.proofs.Following.{Followed, own_only, own_only2, none_only2, shifted, line_by_router, line_gets, same_entries, enters, drops}

pub equal : (n : ℕ) → (n == n) ≡ true
equal n = grind (arith, nat_tests)

-- this at the router r, and what was there before at the others
place_now : (r x : ℕ) (part_place place other : Place) → part_place ≡ place → cond (x == r) part_place (cond (x == r) other Vacant) ≡ cond (x == r) place Vacant
place_now r x part_place place other e = by_test (x == r) where
  by_test : (b : Bool) → cond b part_place (cond b other Vacant) ≡ cond b place Vacant
  by_test true = e
  by_test false = refl

own_sent : (p j k a b : ℕ) (item : Mesh) → is_on p item ≡ true → mesh_items_on p (only2 j k item a b ++ []) ≡ only2 j k item a b
own_sent p j k a b item e = ap (mesh_items_on p) (append-nil (only2 j k item a b)) ∙ own_only2 (is_on p) item j k a b e

-- an item that no phase tracks
untracked_sent : (p j k a b : ℕ) (item : Mesh) → is_on p item ≡ false → mesh_items_on p (only2 j k item a b ++ []) ≡ []
untracked_sent p j k a b item e = ap (mesh_items_on p) (append-nil (only2 j k item a b)) ∙ none_only2 (is_on p) item j k a b e

own_report : (setup : Setup) (p r a : ℕ) (o : Report) → is_graft_on setup p o.graft ≡ true
    → filter (λ (x : Report). is_graft_on setup p x.graft) (only_at r o a ++ []) ≡ only_at r o a
own_report setup p r a o e = ap (filter (λ (x : Report). is_graft_on setup p x.graft)) (append-nil (only_at r o a))
    ∙ own_only (λ (x : Report). is_graft_on setup p x.graft) o r a e

module _ (setup : Setup) (w v : World) (p q k t : ℕ) (s : SessionValue) (part : RouterPart) where
  -- the order is stored
  pub admit_own : RouterMoves q (Some (OrderIn (record { graft = k; peering = p; target = t }))) [] part w v
      → part.places p ≡ Live s (Some (Leaving (record { graft = k; target = t }))) → part.entries p ≡ (w.router q).entries p
      → Stands setup w p (Busy q k t Ordered) s → Followed setup w v p (Busy q k t Ordered) s
  admit_own m place entries b = record {
    next = Busy q k t Stored;
    session = s;
    stands = shifted setup w v p q s (Some (OrderIn (record { graft = k; peering = p; target = t }))) [] part (Busy q k t Ordered) (Busy q k t Stored) m
        (record {
          places = λ x. place_now q x (part.places p) (Live s (Some (Leaving (record { graft = k; target = t })))) (Live s None) place;
          mesh_taken = λ i j. refl;
          mesh_sent = λ i j. refl;
          orders_taken = λ x. own_only (λ (o : GraftOrder). o.peering == p) (record { graft = k; peering = p; target = t }) q x (equal p);
          no_order = λ x. refl;
          no_report = λ x. refl;
          reports_sent = λ x. refl;
        }) b (log_on setup w.operator p q k t Ordered Stored b.log) b.bounds;
    change = Grafts Admits (line_by_router w v p q _ [] part m (λ a. refl) (λ a. refl)) (same_entries w v p q part m.router entries);
  }

  -- the source refuses
  pub refuse_own : (refusal : Refusal) → RouterMoves q None (ReportOut (record { graft = k; outcome = Refused refusal }) ∷ []) part w v
      → part.places p ≡ Live s None → part.entries p ≡ (w.router q).entries p
      → freeze_refusal (record { 0 = q }) (record { 0 = t }) (state s) (hold_time s) ≡ Some refusal
      → Stands setup w p (Busy q k t Stored) s → Followed setup w v p (Busy q k t Stored) s
  refuse_own refusal m place entries cause b = record {
    next = Busy q k t (Declined refusal);
    session = s;
    stands = shifted setup w v p q s None (ReportOut (record { graft = k; outcome = Refused refusal }) ∷ []) part
        (Busy q k t Stored) (Busy q k t (Declined refusal)) m
        (record {
          places = λ x. place_now q x (part.places p) (Live s None) (Live s (Some (Leaving (record { graft = k; target = t })))) place;
          mesh_taken = λ i j. refl;
          mesh_sent = λ i j. refl;
          orders_taken = λ x. refl;
          no_order = λ x. refl;
          no_report = λ x. refl;
          reports_sent = λ x. own_report setup p q x (record { graft = k; outcome = Refused refusal }) (own_known setup p k b.log.goes_on.known);
        }) b (log_on setup w.operator p q k t Stored (Declined refusal) b.log) b.bounds;
    change = Grafts (Refuses cause) (line_by_router w v p q None _ part m (λ a. refl) (λ a. refl)) (same_entries w v p q part m.router entries);
  }

  -- the source freezes
  pub freeze_own : RouterMoves q None [] part w v → part.places p ≡ Frozen s (record { graft = k; target = t }) → part.entries p ≡ (w.router q).entries p
      → freeze_refusal (record { 0 = q }) (record { 0 = t }) (state s) (hold_time s) ≡ None → t ≢ q
      → Stands setup w p (Busy q k t Stored) s → Followed setup w v p (Busy q k t Stored) s
  freeze_own m place entries no_cause apart b = record {
    next = Busy q k t Halted;
    session = s;
    stands = shifted setup w v p q s None [] part (Busy q k t Stored) (Busy q k t Halted) m
        (record {
          places = λ x. place_now q x (part.places p) (Frozen s (record { graft = k; target = t }))
              (Live s (Some (Leaving (record { graft = k; target = t })))) place;
          mesh_taken = λ i j. refl;
          mesh_sent = λ i j. refl;
          orders_taken = λ x. refl;
          no_order = λ x. refl;
          no_report = λ x. refl;
          reports_sent = λ x. refl;
        }) b (log_on setup w.operator p q k t Stored Halted b.log) (b.bounds.0, b.bounds.1, apart);
    change = Grafts (Freezes no_cause) (line_by_router w v p q None [] part m (λ a. refl) (λ a. refl)) (same_entries w v p q part m.router entries);
  }

  -- the session leaves
  pub leave_own : RouterMoves q None (MeshTo t (Moved k p s) ∷ []) part w v → part.places p ≡ Shadow k → part.entries p ≡ (w.router q).entries p
      → Stands setup w p (Busy q k t Halted) s → Followed setup w v p (Busy q k t Halted) s
  leave_own m place entries b = record {
    next = Busy q k t Moving;
    session = s;
    stands = shifted setup w v p q s None (MeshTo t (Moved k p s) ∷ []) part (Busy q k t Halted) (Busy q k t Moving) m
        (record {
          places = λ x. place_now q x (part.places p) (Shadow k) (Frozen s (record { graft = k; target = t })) place;
          mesh_taken = λ i j. refl;
          mesh_sent = λ i j. own_sent p q t i j (Moved k p s) (equal p);
          orders_taken = λ x. refl;
          no_order = λ x. refl;
          no_report = λ x. refl;
          reports_sent = λ x. refl;
        }) b (log_on setup w.operator p q k t Halted Moving b.log) b.bounds;
    change = Grafts Leaves (line_by_router w v p q None _ part m (λ a. refl) (λ a. refl)) (same_entries w v p q part m.router entries);
  }

  abbrev owing : ℕ → Place
  owing n = Live s (Some (Owing (record { graft = k; source = q; next = n })))

  abbrev asking : ℕ → Place
  asking n = Live s (Some (ToAnswer (record { graft = k; source = q; next = n })))

  -- the session lands
  pub land_own : RouterMoves t (Some (MeshIn q (Moved k p s))) (OutwardTo p (PointAt k) ∷ []) part w v → part.places p ≡ owing 0
      → BringsIn setup t s (part.entries p)
      → refusal_of setup t (w.router t) s ≡ None → Stands setup w p (Busy q k t Moving) s → Followed setup w v p (Busy q k t Moving) s
  land_own m place brings admitted b = record {
    next = Busy q k t (Landed 0);
    session = s;
    stands = shifted setup w v p t s (Some (MeshIn q (Moved k p s))) (OutwardTo p (PointAt k) ∷ []) part (Busy q k t Moving) (Busy q k t (Landed 0)) m
        (record {
          places = λ x. ap (λ (y : Place). cond (x == t) y (place_by (Busy q k t Moving) s x)) place;
          mesh_taken = λ i j. own_only2 (is_on p) (Moved k p s) q t i j (equal p);
          mesh_sent = λ i j. refl;
          orders_taken = λ x. refl;
          no_order = λ x. refl;
          no_report = λ x. refl;
          reports_sent = λ x. refl;
        }) b (log_on setup w.operator p q k t Moving (Landed 0) b.log) b.bounds;
    change = Lands admitted (line_gets w v p t _ _ part (PointAt k) m (λ a. (let e : only2 t p (PointAt k) a p ≡ only_at t (PointAt k) a =
        ap (λ c. cond (a == t) (cond c (PointAt k ∷ []) []) []) (equal p) in append-nil (only2 t p (PointAt k) a p) ∙ e)) (λ a. refl))
        (enters setup w v p t s part m.router brings);
  }

  -- the place of the target goes on, and the others stay
  landed_place : (x : ℕ) (here place was other : Place) → here ≡ place → cond (x == t) here (cond (x == t) was other) ≡ cond (x == t) place other
  landed_place x here place was other e = by_test (x == t) where
    by_test : (b : Bool) → cond b here (cond b was other) ≡ cond b place other
    by_test true = e
    by_test false = refl

  -- the target asks a router
  pub ask_own : (n m : ℕ) → RouterMoves t None (MeshTo m (Asked k p) ∷ []) part w v → part.places p ≡ asking m → part.entries p ≡ (w.router t).entries p
      → Stands setup w p (Busy q k t (Landed n)) s → Followed setup w v p (Busy q k t (Landed n)) s
  ask_own n m moves place entries b = record {
    next = Busy q k t (Asking m);
    session = s;
    stands = shifted setup w v p t s None (MeshTo m (Asked k p) ∷ []) part (Busy q k t (Landed n)) (Busy q k t (Asking m)) moves
        (record {
          places = λ x. landed_place x (part.places p) (asking m) (owing n) (cond (x == q) (Shadow k) Vacant) place;
          mesh_taken = λ i j. refl;
          mesh_sent = λ i j. untracked_sent p t m i j (Asked k p) refl;
          orders_taken = λ x. refl;
          no_order = λ x. refl;
          no_report = λ x. refl;
          reports_sent = λ x. refl;
        }) b (log_on setup w.operator p q k t (Landed n) (Asking m) b.log) b.bounds;
    change = Grafts Asks (line_by_router w v p t None _ part moves (λ a. refl) (λ a. refl)) (same_entries w v p t part moves.router entries);
  }

  -- its answer is counted
  pub count_own : (n m : ℕ) → RouterMoves t (Some (MeshIn n (Answered k p))) [] part w v → part.places p ≡ owing m → part.entries p ≡ (w.router t).entries p
      → Stands setup w p (Busy q k t (Asking n)) s → Followed setup w v p (Busy q k t (Asking n)) s
  count_own n m moves place entries b = record {
    next = Busy q k t (Landed m);
    session = s;
    stands = shifted setup w v p t s (Some (MeshIn n (Answered k p))) [] part (Busy q k t (Asking n)) (Busy q k t (Landed m)) moves
        (record {
          places = λ x. landed_place x (part.places p) (owing m) (asking n) (cond (x == q) (Shadow k) Vacant) place;
          mesh_taken = λ i j. none_only2 (is_on p) (Answered k p) n t i j refl;
          mesh_sent = λ i j. refl;
          orders_taken = λ x. refl;
          no_order = λ x. refl;
          no_report = λ x. refl;
          reports_sent = λ x. refl;
        }) b (log_on setup w.operator p q k t (Asking n) (Landed m) b.log) b.bounds;
    change = Grafts Counts (line_by_router w v p t _ [] part moves (λ a. refl) (λ a. refl)) (same_entries w v p t part moves.router entries);
  }

  -- the target gives word
  pub confirm_own : (n : ℕ) → RouterMoves t None (MeshTo q (Done k p) ∷ []) part w v → part.places p ≡ Live s None → part.entries p ≡ (w.router t).entries p
      → Stands setup w p (Busy q k t (Landed n)) s → Followed setup w v p (Busy q k t (Landed n)) s
  confirm_own n m place entries b = record {
    next = Busy q k t Confirmed;
    session = s;
    stands = shifted setup w v p t s None (MeshTo q (Done k p) ∷ []) part (Busy q k t (Landed n)) (Busy q k t Confirmed) m
        (record {
          places = λ x. landed_place x (part.places p) (Live s None) (owing n) (cond (x == q) (Shadow k) Vacant) place;
          mesh_taken = λ i j. refl;
          mesh_sent = λ i j. own_sent p t q i j (Done k p) (equal p);
          orders_taken = λ x. refl;
          no_order = λ x. refl;
          no_report = λ x. refl;
          reports_sent = λ x. refl;
        }) b (log_on setup w.operator p q k t (Landed n) Confirmed b.log) b.bounds;
    change = Grafts Confirms (line_by_router w v p t None _ part m (λ a. refl) (λ a. refl)) (same_entries w v p t part m.router entries);
  }

  turned_place : (x : ℕ) (here : Place) → t ≢ q → here ≡ Vacant → cond (x == t) here (cond (x == q) (Shadow k) Vacant) ≡ cond (x == q) (Shadow k) Vacant
  turned_place x here apart e = grind (arith, nat_tests)

  -- the target turns it back
  pub turn_back_own : (refusal : Refusal) → RouterMoves t (Some (MeshIn q (Moved k p s))) (MeshTo q (Back k p s refusal) ∷ []) part w v
      → part.places p ≡ Vacant → part.entries p ≡ (w.router t).entries p
      → refusal_of setup t (w.router t) s ≡ Some refusal → Stands setup w p (Busy q k t Moving) s → Followed setup w v p (Busy q k t Moving) s
  turn_back_own refusal m place entries cause b = record {
    next = Busy q k t (Returning refusal);
    session = s;
    stands = shifted setup w v p t s (Some (MeshIn q (Moved k p s)))
        (MeshTo q (Back k p s refusal) ∷ []) part (Busy q k t Moving) (Busy q k t (Returning refusal)) m
        (record {
          places = λ x. turned_place x (part.places p) b.bounds.2 place;
          mesh_taken = λ i j. own_only2 (is_on p) (Moved k p s) q t i j (equal p);
          mesh_sent = λ i j. own_sent p t q i j (Back k p s refusal) (equal p);
          orders_taken = λ x. refl;
          no_order = λ x. refl;
          no_report = λ x. refl;
          reports_sent = λ x. refl;
        }) b (log_on setup w.operator p q k t Moving (Returning refusal) b.log) b.bounds;
    change = Grafts (TurnsBack cause) (line_by_router w v p t _ _ part m (λ a. refl) (λ a. refl)) (same_entries w v p t part m.router entries);
  }

  -- it is back at the source
  pub return_own : (refusal : Refusal)
      → RouterMoves q (Some (MeshIn t (Back k p s refusal))) (ReportOut (record { graft = k; outcome = Refused refusal }) ∷ []) part w v
      → part.places p ≡ Live s None
      → part.entries p ≡ (w.router q).entries p → Stands setup w p (Busy q k t (Returning refusal)) s → Followed setup w v p (Busy q k t (Returning refusal)) s
  return_own refusal m place entries b = record {
    next = Busy q k t (Declined refusal);
    session = s;
    stands = shifted setup w v p q s (Some (MeshIn t (Back k p s refusal)))
        (ReportOut (record { graft = k; outcome = Refused refusal }) ∷ []) part (Busy q k t (Returning refusal)) (Busy q k t (Declined refusal)) m
        (record {
          places = λ x. place_now q x (part.places p) (Live s None) (Shadow k) place;
          mesh_taken = λ i j. own_only2 (is_on p) (Back k p s refusal) t q i j (equal p);
          mesh_sent = λ i j. refl;
          orders_taken = λ x. refl;
          no_order = λ x. refl;
          no_report = λ x. refl;
          reports_sent = λ x. own_report setup p q x (record { graft = k; outcome = Refused refusal }) (own_known setup p k b.log.goes_on.known);
        }) b (log_on setup w.operator p q k t (Returning refusal) (Declined refusal) b.log) (b.bounds.0, b.bounds.1, tt);
    change = Grafts Returns (line_by_router w v p q _ _ part m (λ a. refl) (λ a. refl)) (same_entries w v p q part m.router entries);
  }

  cleared_place : (x : ℕ) (here : Place) → t ≢ q → here ≡ Vacant
      → cond (x == q) here (cond (x == t) (Live s None) (cond (x == q) (Shadow k) Vacant)) ≡ cond (x == t) (Live s None) Vacant
  cleared_place x here apart e = grind (arith, nat_tests)

  -- the source clears its shadow
  pub clear_own : RouterMoves q (Some (MeshIn t (Done k p))) (ReportOut (record { graft = k; outcome = Accepted }) ∷ []) part w v
      → part.places p ≡ Vacant → part.entries p ≡ map.empty
      → Stands setup w p (Busy q k t Confirmed) s → Followed setup w v p (Busy q k t Confirmed) s
  clear_own m place none b = record {
    next = Busy q k t Cleared;
    session = s;
    stands = shifted setup w v p q s (Some (MeshIn t (Done k p)))
        (ReportOut (record { graft = k; outcome = Accepted }) ∷ []) part (Busy q k t Confirmed) (Busy q k t Cleared) m
        (record {
          places = λ x. cleared_place x (part.places p) b.bounds.2 place;
          mesh_taken = λ i j. own_only2 (is_on p) (Done k p) t q i j (equal p);
          mesh_sent = λ i j. refl;
          orders_taken = λ x. refl;
          no_order = λ x. refl;
          no_report = λ x. refl;
          reports_sent = λ x. own_report setup p q x (record { graft = k; outcome = Accepted }) (own_known setup p k b.log.goes_on.known);
        }) b (log_on setup w.operator p q k t Confirmed Cleared b.log) b.bounds;
    change = Clears (line_by_router w v p q _ _ part m (λ a. refl) (λ a. refl)) (drops w v p q part m.router none);
  }
