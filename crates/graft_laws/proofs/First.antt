-- Where everything stands in the first world.
use Rattle.std.proofs.Common.{◌≡◌, ◌==◌, cond, ℕ, zero, suc, ◌+◌, ◌<◌, ◌≤◌, Bool, true, false, List, [], ◌∷◌}
use Rattle.std.proofs.Common.{length, Option, Some, None, refl, sym, ap, ◌∙◌, subst, arith}
use Rattle.std.proofs.lemmas.Bool.Decides.{nat_tests}
use Rattle.std.proofs.lemmas.Option.{slice_get_past}
use Rattle.std.specs.Prelude.{filter, slice_get, option_map, unwrap_or}
use Rattle.std.specs.List.{range_with_len}
use Rattle.session_value.specs.Sessions.{begun}
use Rattle.graft_model.specs.Setups.{Setup, PeeringSetup, IsSetup, routers_in, peerings_in, room_of, starting_at, start_of}
use Rattle.graft_model.specs.Parts.{Vacant, Live, Unmade, To, OperatorPart}
use Rattle.graft_model.specs.First.{place_in, first_router, first_operator, first_world}
use Rattle.graft_model.specs.GraftRows.{is_taken, taken_in}
use Rattle.graft_laws.specs.Phases.{Idle, place_by}
use Rattle.graft_laws.specs.Log.{grafts_of, AwaitsOrder, LogSays}
use Rattle.graft_laws.specs.Owned.{Stands, Owned}
use Rattle.graft_laws.proofs.Lists.{all_of}
use Rattle.graft_laws.proofs.Placements.{placed_first}
use Rattle.graft_laws.proofs.Gifts.{gifts_to_routers}

-- ---- the log

first_log : (setup : Setup) (p : ℕ) → LogSays setup (first_operator setup) p (Idle (start_of setup p))
first_log setup p = record {
  past = [];
  now = [];
  later = grafts_of setup p;
  grafts = refl;
  are_behind = tt;
  goes_on = refl;
  wait = all_of (AwaitsOrder (first_operator setup)) (grafts_of setup p) (λ g. record { unordered = refl; unended = refl });
  placed = placed_first setup (first_operator setup) p (λ k. refl);
}

-- ---- the places

first_place : (o : Option PeeringSetup) (peering : PeeringSetup) (r start : ℕ) → o ≡ Some peering → start ≡ peering.start
    → place_in r o ≡ place_by (Idle start) (begun peering.config) r
first_place o peering r start e is = ap (place_in r) e ∙ turned (peering.start == r) (r == start) (grind (arith, nat_tests)) where
  turned : (a b : Bool) → a ≡ b → cond a (Live (begun peering.config) None) Vacant ≡ cond b (Live (begun peering.config) None) Vacant
  turned a b e = ap (λ (x : Bool). cond x (Live (begun peering.config) None) Vacant) e

pub first_stands : (setup : Setup) (p : ℕ) (peering : PeeringSetup) → IsSetup setup → slice_get setup.peerings p ≡ Some peering
    → Stands setup (first_world setup) p (Idle (start_of setup p)) (begun peering.config)
first_stands setup p peering ok is =
    let start : start_of setup p ≡ peering.start = ap (λ (o : Option PeeringSetup). unwrap_or (option_map (λ (x : PeeringSetup). x.start) o) 0) is in
    record {
      places = λ r. first_place (slice_get setup.peerings p) peering r (start_of setup p) is start;
      mesh = λ a b. refl;
      orders = λ r. refl;
      reports = λ r. refl;
      log = first_log setup p;
      bounds = subst (λ (x : ℕ). x < routers_in setup) (sym start) ((ok.peerings p peering is).start);
    }

-- ---- room

count_step : (r a n : ℕ) (peering : PeeringSetup) (peerings : List PeeringSetup) (here : ℕ → Option PeeringSetup) → here a ≡ Some peering
    → length (filter (λ p. is_taken (place_in r (here p))) (range_with_len (a + 1) n)) ≡ length (filter (λ (x : PeeringSetup). x.start == r) peerings)
    → length (filter (λ p. is_taken (place_in r (here p))) (a ∷ range_with_len (a + 1) n))
    ≡ length (filter (λ (x : PeeringSetup). x.start == r) (peering ∷ peerings))
count_step r a n peering peerings here is rest = same (is_taken (place_in r (here a))) (peering.start == r)
    (ap (λ (o : Option PeeringSetup). is_taken (place_in r o)) is ∙ taken (peering.start == r))
  where
    taken : (b : Bool) → is_taken (cond b (Live (begun peering.config) None) Vacant) ≡ b
    taken true = refl
    taken false = refl

    same : (u v : Bool) → u ≡ v
        → length (cond u (a ∷ filter (λ p. is_taken (place_in r (here p))) (range_with_len (a + 1) n))
        (filter (λ p. is_taken (place_in r (here p))) (range_with_len (a + 1) n)))
        ≡ length (cond v (peering ∷ filter (λ (x : PeeringSetup). x.start == r) peerings) (filter (λ (x : PeeringSetup). x.start == r) peerings))
    same true true e = ap suc rest
    same true false e = absurd cc
    same false true e = absurd cc
    same false false e = rest

-- as many places are taken as peerings start there
first_count : (r a : ℕ) (peerings : List PeeringSetup) (here : ℕ → Option PeeringSetup) → ((i : ℕ) → here (a + i) ≡ slice_get peerings i)
    → length (filter (λ p. is_taken (place_in r (here p))) (range_with_len a (length peerings))) ≡ length (filter (λ (x : PeeringSetup). x.start == r) peerings)
first_count r a [] here is = refl
first_count r a (peering ∷ peerings) here is =
    count_step r a (length peerings) peering peerings here (ap here (let e : a ≡ a + 0 = omega arith in e) ∙ is 0)
    (first_count r (a + 1) peerings here (λ i. ap here (let e : a + 1 + i ≡ a + suc i = omega arith in e) ∙ is (suc i)))

pub first_taken : (setup : Setup) (r : ℕ) → taken_in setup (first_router setup r) ≡ starting_at setup r
first_taken setup r = first_count r 0 setup.peerings (slice_get setup.peerings) (λ i. ap (slice_get setup.peerings) (let e : 0 + i ≡ i = omega arith in e))

-- ---- the whole

none_past : (setup : Setup) (p r : ℕ) → peerings_in setup ≤ p → place_in r (slice_get setup.peerings p) ≡ Vacant
none_past setup p r past = ap (place_in r) (slice_get_past setup.peerings p past)

pub some_peering : (setup : Setup) (p : ℕ) → p < peerings_in setup → (peering : PeeringSetup) × (slice_get setup.peerings p ≡ Some peering)
some_peering setup p l = at (slice_get setup.peerings p) refl where
  at : (o : Option PeeringSetup) → slice_get setup.peerings p ≡ o → (peering : PeeringSetup) × (slice_get setup.peerings p ≡ Some peering)
  at (Some peering) e = (peering, e)
  at None e = absurd (missing setup.peerings p l e) where
    missing : (xs : List PeeringSetup) (i : ℕ) → i < length xs → slice_get xs i ≡ None → ⊥
    missing [] i l e = omega arith
    missing (x ∷ xs) zero l e = cc
    missing (x ∷ xs) (suc i) l e = missing xs i (omega arith) e

-- the operator before the first group begins
abbrev pub ungiven : OperatorPart
ungiven = record { group = 0; issued = λ n. false; given = λ k. Unmade; source = λ k. None; outcome = λ k. None }

no_gift : (target : ℕ) → Unmade ≡ To target → ⊥
no_gift target e = cc

pub first_owned : (setup : Setup) → IsSetup setup → Owned setup (first_world setup)
first_owned setup ok = record {
  peerings = λ p l. (let some = some_peering setup p l in
      record { phase = Idle (start_of setup p); session = begun some.0.config; stands = first_stands setup p some.0 ok some.1 });
  no_others = λ p past. record { places = λ r. none_past setup p r past; mesh = λ a b. refl; orders = λ r. refl };
  room = λ r l. subst (λ (n : ℕ). n ≤ room_of setup r) (sym (first_taken setup r)) (ok.room r l);
  reports = λ r. tt;
  given = gifts_to_routers setup ungiven (λ k target e. absurd (no_gift target e));
}
