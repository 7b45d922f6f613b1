-- Where nothing is on its way and nothing is stored, no graft is under way.
use Rattle.std.proofs.Common.{◌≡◌, ◌==◌, cond, ℕ, Bool, List, [], ◌∷◌, Some, sym, ap, ◌∙◌, subst, inl, inr}
use Rattle.std.specs.Prelude.{filter}
use Rattle.graft_steps.specs.declared.refusal.Outcome.TheVariants.{Accepted, Refused}
use Rattle.session_value.specs.Sessions.{SessionValue}
use Rattle.graft_model.specs.Setups.{Setup}
use Rattle.graft_model.specs.Parts.{Place, Vacant, Live, Frozen, Shadow, Leaving, Owing, Asking as ToAnswer}
use Rattle.graft_model.specs.Parts.{Word, Moved, Back, Asked, Answered, Done, GraftOrder, Report, World}
use Rattle.graft_laws.specs.Phases.{Stage, Ordered, Stored, Halted, Moving, Landed, Asking, Confirmed, Returning, Declined, Cleared, Busy}
use Rattle.graft_laws.specs.Owned.{is_on, Stands}
use Rattle.graft_laws.specs.Log.{is_graft_on}
use Rattle.graft_laws.proofs.Heads.{only_here, only2_here, placed_here, landed_here}
use Rattle.still_grafts.specs.Still.{HasNoneStored, IsStill}
use Rattle.still_grafts.proofs.Awaited.{IsAmong, AreAwaited}

-- an empty channel has nothing of a peering
nothing_in : {A : Type 0} (test : A → Bool) (items : List A) (x : A) → items ≡ [] → filter test items ≡ x ∷ [] → ⊥
nothing_in test items x none some = let e : [] ≡ x ∷ [] = ap (filter test) (sym none) ∙ some in cc

none_among : {A : Type 0} (x : A) (items : List A) → items ≡ [] → IsAmong x items → ⊥
none_among x items none is = subst (IsAmong x) none is

module _ (setup : Setup) (w : World) (still : IsStill setup w) (awaited : AreAwaited w) where
  nothing_at : (r p : ℕ) (place : Place) → (w.router r).places p ≡ place → HasNoneStored place
  nothing_at r p place is = subst HasNoneStored is (still.places r p)

  -- no answer is waited for
  none_asks : (t p : ℕ) (s : SessionValue) (word : Word) → (w.router t).places p ≡ Live s (Some (ToAnswer word)) → ⊥
  none_asks t p s word is = elim (awaited t p s word is) [
    | inl question ↦ none_among (Asked word.graft p) (w.mesh t word.next) (still.mesh t word.next) question
    | inr answer ↦ none_among (Answered word.graft p) (w.mesh word.next t) (still.mesh word.next t) answer
  ]

  -- no graft is under way
  pub not_busy : (p q k t : ℕ) (stage : Stage) (s : SessionValue) → Stands setup w p (Busy q k t stage) s → ⊥
  not_busy p q k t Ordered s b =
      let order : GraftOrder = record { graft = k; peering = p; target = t } in
      nothing_in (λ (o : GraftOrder). o.peering == p) (w.orders q) order (still.orders q) (b.orders q ∙ only_here q order)
  not_busy p q k t Stored s b =
      let place : Place = Live s (Some (Leaving (record { graft = k; target = t }))) in
      nothing_at q p place (b.places q ∙ placed_here q place)
  not_busy p q k t Halted s b =
      let place : Place = Frozen s (record { graft = k; target = t }) in
      nothing_at q p place (b.places q ∙ placed_here q place)
  not_busy p q k t Moving s b = nothing_in (is_on p) (w.mesh q t) (Moved k p s) (still.mesh q t) (b.mesh q t ∙ only2_here q t (Moved k p s))
  not_busy p q k t (Landed n) s b =
      let place : Place = Live s (Some (Owing (record { graft = k; source = q; next = n }))) in
      nothing_at t p place (b.places t ∙ landed_here t place (cond (t == q) (Shadow k) Vacant))
  not_busy p q k t (Asking n) s b =
      let word : Word = record { graft = k; source = q; next = n } in
      none_asks t p s word (b.places t ∙ landed_here t (Live s (Some (ToAnswer word))) (cond (t == q) (Shadow k) Vacant))
  not_busy p q k t Confirmed s b = nothing_in (is_on p) (w.mesh t q) (Done k p) (still.mesh t q) (b.mesh t q ∙ only2_here t q (Done k p))
  not_busy p q k t (Returning refusal) s b =
      nothing_in (is_on p) (w.mesh t q) (Back k p s refusal) (still.mesh t q) (b.mesh t q ∙ only2_here t q (Back k p s refusal))
  not_busy p q k t (Declined refusal) s b =
      let report : Report = record { graft = k; outcome = Refused refusal } in
      nothing_in (λ (o : Report). is_graft_on setup p o.graft) (w.reports q) report (still.reports q) (b.reports q ∙ only_here q report)
  not_busy p q k t Cleared s b =
      let report : Report = record { graft = k; outcome = Accepted } in
      nothing_in (λ (o : Report). is_graft_on setup p o.graft) (w.reports q) report (still.reports q) (b.reports q ∙ only_here q report)
