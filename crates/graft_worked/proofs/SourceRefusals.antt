-- A graft that its source refuses changes no session.
use Rattle.std.proofs.Common.{◌≡◌, ◌==◌, cond, ℕ, List, ◌++◌, Bool, true, false, Option, None, refl, sym, ap, ◌∙◌, subst, arith, fold, flat_map}
use Rattle.std.proofs.lemmas.Bool.Decides.{nat_tests}
use Rattle.graft_steps.specs.declared.refusal.Outcome.TheVariants.{Refused}
use Rattle.graft_model.specs.Claims.{sessions_at, sessions_on, sessions_of}
use Rattle.graft_model.specs.Points.{at}
use Rattle.graft_model.specs.Setups.{Setup, router_numbers}
use Rattle.graft_model.specs.Parts.{Live, RouterPart, World}
use Rattle.graft_model.specs.RouterRows.{RouterTaken, RouterSent, ReportOut}
use Rattle.graft_model.specs.GraftRows.{Refuses}
use Rattle.graft_model.specs.declared.event.RouterEvent.TheVariants.{Refuse}
use Rattle.graft_model.specs.Steps.{ByRouter, RouterTook, router_sends, Step}

-- what is the same of a value and of the one that it takes the place of, is the same of all
alike_at : {A B : Type 0} (F : A → B) (f : ℕ → A) (k : ℕ) (v : A) → F v ≡ F (f k) → (n : ℕ) → F (at f k v n) ≡ F (f n)
alike_at F f k v e n = by_test (n == k) refl where
  by_test : (t : Bool) → (n == k) ≡ t → F (cond t v (f n)) ≡ F (f n)
  by_test true is = e ∙ ap (λ (m : ℕ). F (f m)) (let same : k ≡ n = grind (arith, nat_tests) in same)
  by_test false is = refl

module _ (setup : Setup) (w v : World) (r k p : ℕ) (step : Step setup (ByRouter r (Refuse k)) w v) where
  row : Refuses r k (w.router r) step.taken step.sent step.part
  row = step.row

  nothing_taken : step.without ≡ w
  nothing_taken = subst (λ (taken : Option RouterTaken). RouterTook w r taken step.without) row.takes step.took

  abbrev reported : RouterSent
  reported = ReportOut (record { graft = k; outcome = Refused row.refusal })

  abbrev with_part : World → World
  with_part u = record u { router = at u.router r step.part }

  leads : v ≡ router_sends r (with_part w) reported
  leads = step.is
      ∙ (ap (λ (sent : List RouterSent). fold (router_sends r) (with_part step.without) sent) row.sends
      ∙ ap (λ (u : World). router_sends r (with_part u) reported) nothing_taken)

  at_place : sessions_at (step.part.places p) ≡ sessions_at ((w.router r).places p)
  at_place = ap (λ (part : RouterPart). sessions_at (part.places p)) row.effect
      ∙ alike_at sessions_at (w.router r).places row.peering (Live row.session None) (sym (ap sessions_at row.live.is)) p

  pub places_stay : (q : ℕ) → sessions_at ((v.router q).places p) ≡ sessions_at ((w.router q).places p)
  places_stay q = ap (λ (u : World). sessions_at ((u.router q).places p)) leads
      ∙ alike_at (λ (part : RouterPart). sessions_at (part.places p)) w.router r step.part at_place q

  mesh_stays : v.mesh ≡ w.mesh
  mesh_stays = ap (λ (u : World). u.mesh) leads

  pub sessions_stay : sessions_of setup v p ≡ sessions_of setup w p
  sessions_stay = λ i.
      flat_map (λ q. places_stay q i) (router_numbers setup)
      ++ flat_map (λ a. flat_map (λ b. flat_map (sessions_on p) (mesh_stays i a b)) (router_numbers setup)) (router_numbers setup)
