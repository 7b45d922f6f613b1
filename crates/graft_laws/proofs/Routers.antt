-- What each event of a router keeps of its part, every run keeps of all routers.
use Rattle.std.proofs.Common.{ℕ, Option, sym, subst, inl, inr}
use Rattle.std.specs.Prelude.{List}
use Rattle.std.proofs.lemmas.Bool.{cases_eq}
use Rattle.graft_model.specs.First.{first_router}
use Rattle.graft_model.specs.Parts.{RouterPart, World}
use Rattle.graft_model.specs.Points.{at}
use Rattle.graft_model.specs.RouterRows.{RouterTaken, RouterSent}
use Rattle.graft_model.specs.Setups.{Setup}
use Rattle.graft_model.specs.declared.event.RouterEvent.{RouterEvent}
use Rattle.graft_model.specs.Steps.{Event, ByRouter, ByFar, ByOperator, Step, router_row}
pub use Rattle.graft_model.proofs.Footprints.{at_same, at_apart}
use Rattle.graft_laws.specs.Keeps.{Reached}
use Rattle.graft_laws.proofs.Moves.{router_moves, far_moves, operator_moves}
use Rattle.graft_laws.proofs.Runs.{carried}

-- a property of all values is kept where one of them changes
pub at_keeps : {A : Type 0} (P : ℕ → A → Type 0) (f : ℕ → A) (j : ℕ) (x : A) → P j x → ((n : ℕ) → P n (f n)) → (n : ℕ) → P n (at f j x n)
at_keeps P f j x here all n = elim (cases_eq n j) [
  | inl is ↦ subst (λ (m : ℕ). P m (at f j x m)) (sym is) (subst (P j) (sym (at_same f j x)) here)
  | inr other ↦ subst (P n) (sym (at_apart f j n x other)) (all n)
]

module _ (setup : Setup) (P : ℕ → RouterPart → Type 0)
    (keeps : (r : ℕ) (event : RouterEvent) (w : World) (taken : Option RouterTaken) (sent : List RouterSent) (part : RouterPart)
    → Reached setup w → router_row setup r event (w.router r) taken sent part → P r (w.router r) → P r part) where
  step_keeps : (event : Event) (w v : World) → Reached setup w → Step setup event w v → ((r : ℕ) → P r (w.router r)) → (r : ℕ) → P r (v.router r)
  step_keeps (ByRouter q event) w v reached x all r =
      let m = router_moves setup q event w v x in
      subst (λ (f : ℕ → RouterPart). P r (f r)) (sym m.router)
      (at_keeps P w.router q x.part (keeps q event w x.taken x.sent x.part reached x.row (all q)) all r)
  step_keeps (ByFar p event) w v reached x all r = subst (λ (f : ℕ → RouterPart). P r (f r)) (sym (far_moves setup p event w v x).router) (all r)
  step_keeps (ByOperator event) w v reached x all r = subst (λ (f : ℕ → RouterPart). P r (f r)) (sym (operator_moves setup event w v x).router) (all r)

  pub of_routers : ((r : ℕ) → P r (first_router setup r)) → (w : World) → Reached setup w → (r : ℕ) → P r (w.router r)
  of_routers first w reached = carried setup (λ (u : World). (r : ℕ) → P r (u.router r)) first
      (λ event before after reach step all. step_keeps event before after reach step all) w reached
