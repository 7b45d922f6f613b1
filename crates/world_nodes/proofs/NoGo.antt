-- In a round no group begins.
use Rattle.std.proofs.Common.{◌≡◌, ◌≢◌, ◌∙◌, ℕ, List, [], ◌∷◌, length, Option, Some, None, refl, ap, sym, arith, inl, inr}
use Rattle.std.proofs.lemmas.Bool.Decides.{nat_tests}
use Rattle.std.specs.Option.{option_map}
use Rattle.std.specs.List.{AllByRecursion}
use Rattle.ring_net.specs.declared.entry.JournalEntry.{JournalEntry}
use Rattle.ring_net.specs.Deeds.{Deed, Replay, TakesFirst}
use Rattle.graft_steps.specs.declared.item.Item.{Item}
use Rattle.session_value.specs.Sessions.{SessionValue}
use Rattle.graft_model.specs.Setups.{Setup}
use Rattle.graft_model.specs.Codes.{router_code, far_code, operator_code}
use Rattle.graft_model.specs.declared.event.RouterEvent.{RouterEvent}
use Rattle.graft_model.specs.declared.event.FarEvent.{FarEvent}
use Rattle.graft_model.specs.declared.event.OperatorEvent.{OperatorEvent}
use Rattle.graft_model.specs.declared.event.OperatorEvent.TheVariants.{Order, Note, Go}
use Rattle.graft_model.specs.Steps.{operator_row}
use Rattle.graft_model.specs.OperatorRows.{OperatorTaken}
use Rattle.graft_actors.specs.Actors.{ActorPart, RouterIs, FarIs, OperatorIs, Thing, ActorName, Router, FarSide, Operator}
use Rattle.graft_actors.specs.Makes.{makes_as, numbered, taken_by_operator}
use Rattle.graft_actors.specs.Laws.{IsGo}
use Rattle.graft_actors.specs.Acts.{OwnPart, ActsAs, acts}
use Rattle.world_runs.specs.Laws.{IsNoGo}
use Rattle.graft_model.proofs.GoAlone.{router_kind, far_kind}

-- ---- by their kinds

no_router_go : (event : RouterEvent) → (router_code event).kind ≡ (operator_code Go).kind → ⊥
no_router_go event e = let apart = router_kind event in grind (arith, nat_tests, apart, e)

no_far_go : (event : FarEvent) → (far_code event).kind ≡ (operator_code Go).kind → ⊥
no_far_go event e = let apart = far_kind event in grind (arith, nat_tests, apart, e)

-- ---- by their rows: a Go is the operator's, and takes nothing

pub row_go : (setup : Setup) (name : ActorName) (p q : ActorPart) (entry : JournalEntry) (taken : Option (ℕ × Thing)) (sent : List (ℕ × Thing))
    → makes_as setup (Some name) p entry taken sent q → IsGo entry
    → (name ≡ Operator) × (taken ≡ None)
row_go setup (Router r) (RouterIs p) (RouterIs q) entry taken sent row go = absurd (no_router_go row.event (sym row.coded.kind ∙ go))
row_go setup (Router r) (RouterIs p) (FarIs q) entry taken sent row go = absurd row
row_go setup (Router r) (RouterIs p) (OperatorIs q) entry taken sent row go = absurd row
row_go setup (Router r) (FarIs p) q entry taken sent row go = absurd row
row_go setup (Router r) (OperatorIs p) q entry taken sent row go = absurd row
row_go setup (FarSide n) (FarIs p) (FarIs q) entry taken sent row go = absurd (no_far_go row.event (sym row.coded.kind ∙ go))
row_go setup (FarSide n) (FarIs p) (RouterIs q) entry taken sent row go = absurd row
row_go setup (FarSide n) (FarIs p) (OperatorIs q) entry taken sent row go = absurd row
row_go setup (FarSide n) (RouterIs p) q entry taken sent row go = absurd row
row_go setup (FarSide n) (OperatorIs p) q entry taken sent row go = absurd row
row_go setup Operator (OperatorIs p) (RouterIs q) entry taken sent row go = absurd row
row_go setup Operator (OperatorIs p) (FarIs q) entry taken sent row go = absurd row
row_go setup Operator (RouterIs p) q entry taken sent row go = absurd row
row_go setup Operator (FarIs p) q entry taken sent row go = absurd row
row_go setup Operator (OperatorIs p) (OperatorIs q) entry taken sent row go = (refl, by_event row.event refl)
  where
    by_event : (event : OperatorEvent) → row.event ≡ event → taken ≡ None
    by_event (Order step number) e = let h : (operator_code (Order step number)).kind ≡ (operator_code Go).kind =
        ap (λ o. (operator_code o).kind) (sym e) ∙ sym row.coded.kind ∙ go in absurd (omega (arith, h))
    by_event (Note router) e = let h : (operator_code (Note router)).kind ≡ (operator_code Go).kind =
        ap (λ o. (operator_code o).kind) (sym e) ∙ sym row.coded.kind ∙ go in absurd (omega (arith, h))
    by_event Go e = row.is_taken ∙ ap (λ o. option_map (λ (t : OperatorTaken). numbered setup (taken_by_operator t)) o) (takes row.event e row.holds)
      where
        takes : (event : OperatorEvent) → event ≡ Go → operator_row setup event p row.took row.gave q → row.took ≡ None
        takes Go e h = h.takes
        takes (Order step number) e h = absurd cc
        takes (Note router) e h = absurd cc

module _ {C : Type 0} (session : C → SessionValue) where
  none_mapped : {A B : Type 0} (f : A → B) (o : Option A) → option_map f o ≡ None → o ≡ None
  none_mapped f None e = refl
  none_mapped f (Some x) e = absurd cc

  -- the same of an actor of the program
  pub act_go : (before after : OwnPart) (entry : JournalEntry) (taken : Option (ℕ × Item C)) (sent : List (ℕ × Item C))
      → ActsAs session before entry taken sent after → IsGo entry → (before.name ≡ Operator) × (taken ≡ None)
  act_go before after entry taken sent act go = elim (act.does) [
    | inl makes ↦ let row = row_go before.setup before.name before.part after.part entry _ _ makes.row go in (row.0, none_mapped _ taken row.1)
    | inr drops ↦ let h : 0 ≡ (operator_code Go).kind = sym drops.kind ∙ go in absurd (omega (arith, h))
  ]

  -- who isn't the operator begins no group
  pub replay_no_go : (k : ℕ) (p q : OwnPart) (ds : List (Deed (Item C))) → p.name ≢ Operator → Replay (acts session) k p ds q → AllByRecursion IsNoGo ds
  replay_no_go k p q [] other replay = tt
  replay_no_go k p q (d ∷ ds) other replay =
      (λ go. other (act_go p replay.0 d.entry d.taken d.sent replay.1 go).0, replay_no_go k replay.0 q ds (λ e. other (sym replay.1.name ∙ e)) replay.2)

  -- the one event of a take begins no group
  pub take_no_go : (k : ℕ) (p q : OwnPart) (from : ℕ) (item : Item C) (ds : List (Deed (Item C))) → length ds ≡ 1 → TakesFirst from item ds
      → Replay (acts session) k p ds q → AllByRecursion IsNoGo ds
  take_no_go k p q from item [] one first replay = absurd first
  take_no_go k p q from item (d ∷ []) one first replay =
      (λ go. absurd (let h : Some (from, item) ≡ None = sym first.0 ∙ (act_go p replay.0 d.entry d.taken d.sent replay.1 go).1 in cc), tt)
  take_no_go k p q from item (d ∷ e ∷ ds) one first replay = absurd (omega (arith, one))
