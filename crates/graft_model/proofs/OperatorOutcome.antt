-- What the operator's event sends and leaves is determined.
use Rattle.std.proofs.Common.{◌≡◌, ℕ, List, [], ◌∷◌, Option, Some, None, inl, inr, sym, ap, ◌∙◌}
use Rattle.std.specs.Prelude.{slice_get}
use Rattle.graft_model.specs.Points.{at}
use Rattle.graft_model.specs.Setups.{Setup, ScriptStep, SayStep, ScriptGraft}
use Rattle.graft_model.specs.Parts.{OperatorPart, Report}
use Rattle.graft_model.specs.OperatorRows.{OperatorTaken, ReportIn, OperatorSent, OrderTo, SayTo, OrdersSay}
use Rattle.graft_model.specs.OperatorRows.{OrdersGraft, Notes, target_in, placement, number_by}
use Rattle.graft_model.specs.Placements.{target_by}
use Rattle.graft_model.specs.Steps.{OperatorEvent, Order, Note, Go, operator_row}
use Rattle.graft_model.proofs.Numbers.{one_order}

same_some : {A : Type 0} (x y : A) → Some x ≡ Some y → x ≡ y
same_some x y e = cc

say_peering : (p q : ℕ) (x y : List ℕ) → Some (SayStep p x) ≡ Some (SayStep q y) → p ≡ q
say_peering p q x y e = cc

report_in : (r : ℕ) (x y : Report) → Some (ReportIn r x) ≡ Some (ReportIn r y) → x ≡ y
report_in r x y e = cc

module _ (setup : Setup) (before a b : OperatorPart) (taken : Option OperatorTaken) (sent items : List OperatorSent) where
  abbrev Same : Type 0
  Same = (items ≡ sent) × (b ≡ a)

  one_says : (step number : ℕ) → OrdersSay setup step number before taken sent a → OrdersSay setup step number before taken items b → Same
  one_says step number x y =
      let p : y.peering ≡ x.peering = say_peering y.peering x.peering y.bytes x.bytes (sym y.is ∙ x.is) in
      (y.sends ∙ (ap (λ (q : ℕ). let v : List OperatorSent = SayTo q step ∷ [] in v) p ∙ sym x.sends), y.effect ∙ sym x.effect)

  -- a step that says something makes no graft
  no_graft : (step number : ℕ) {some : List OperatorSent} {part : OperatorPart} (peering : ℕ) (bytes : List ℕ)
      → slice_get setup.steps step ≡ Some (SayStep peering bytes)
      → OrdersGraft setup step number before taken some part → ⊥
  no_graft step number peering bytes is row =
      let there : slice_get setup.steps row.graft.step ≡ Some (SayStep peering bytes) = ap (slice_get setup.steps) row.by_step ∙ is in
      let none : target_in setup before row.graft ≡ None = ap (λ (s : Option ScriptStep). target_by s (before.given row.graft.graft)) there in
      let some : Some row.target ≡ None = sym row.is ∙ none in
      absurd cc

  abbrev orders : ScriptGraft → ℕ → List OperatorSent
  orders g target = OrderTo (placement setup before g.peering) (record { graft = g.graft; peering = g.peering; target = target }) ∷ []

  abbrev with_source : ScriptGraft → OperatorPart
  with_source g = record before { source = at before.source g.graft (Some (placement setup before g.peering)) }

  one_orders : (step number : ℕ) → OrdersGraft setup step number before taken sent a → OrdersGraft setup step number before taken items b → Same
  one_orders step number x y =
      let by : y.graft.step ≡ x.graft.step = y.by_step ∙ sym x.by_step in
      let name_x : number ≡ number_by (slice_get setup.steps x.graft.step) x.graft.graft =
      x.named ∙ ap (λ (z : ℕ). number_by (slice_get setup.steps z) x.graft.graft) (sym x.by_step) in
      let name_y : number ≡ number_by (slice_get setup.steps y.graft.step) y.graft.graft =
      y.named ∙ ap (λ (z : ℕ). number_by (slice_get setup.steps z) y.graft.graft) (sym y.by_step) in
      let g : y.graft ≡ x.graft = one_order setup y.graft x.graft y.known x.known by (sym name_y ∙ name_x) in
      let t : y.target ≡ x.target = same_some y.target x.target (sym y.is ∙ (ap (target_in setup before) g ∙ x.is)) in
      (y.sends ∙ (ap (orders y.graft) t ∙ (ap (λ (z : ScriptGraft). orders z x.target) g ∙ sym x.sends)), y.effect ∙ (ap with_source g ∙ sym x.effect))

  one_notes : (router : ℕ) → Notes router before taken sent a → Notes router before taken items b → Same
  one_notes router x y =
      let r : y.report ≡ x.report = report_in router y.report x.report (sym y.takes ∙ x.takes) in (
        y.sends ∙ sym x.sends,
        y.effect
            ∙ (ap (λ (z : Report). let v : OperatorPart = record before { outcome = at before.outcome z.graft (Some z.outcome) } in v) r ∙ sym x.effect),
      )

pub one_operator : (setup : Setup) (event : OperatorEvent) (before a b : OperatorPart) (taken : Option OperatorTaken) (sent items : List OperatorSent)
    → operator_row setup event before taken sent a → operator_row setup event before taken items b → (items ≡ sent) × (b ≡ a)
one_operator setup (Order step number) before a b taken sent items (inl x) (inl y) = one_says setup before a b taken sent items step number x y
one_operator setup (Order step number) before a b taken sent items (inl x) (inr y) =
    absurd (no_graft setup before a b taken sent items step number x.peering x.bytes x.is y)
one_operator setup (Order step number) before a b taken sent items (inr x) (inl y) =
    absurd (no_graft setup before a b taken sent items step number y.peering y.bytes y.is x)
one_operator setup (Order step number) before a b taken sent items (inr x) (inr y) = one_orders setup before a b taken sent items step number x y
one_operator setup (Note router) before a b taken sent items x y = one_notes setup before a b taken sent items router x y
one_operator setup Go before a b taken sent items x y = (y.sends ∙ sym x.sends, y.effect ∙ sym x.effect)
