-- What is left of grafts where nothing moves: nothing.
use Rattle.std.proofs.Common.{◌≡◌, ◌==◌, ◌⊎◌, inl, inr, ℕ, ◌<◌, ◌≤◌, Bool, true, false, Some, None, sym, ap, ◌∙◌}
use Rattle.std.specs.Prelude.{if◌then◌else◌}
use Rattle.session_value.specs.Sessions.{SessionValue}
use Rattle.graft_model.specs.Setups.{Setup, IsSetup, peerings_in}
use Rattle.graft_model.specs.Parts.{Vacant, Live, World}
use Rattle.graft_laws.specs.Phases.{Phase, Idle, Busy}
use Rattle.graft_laws.specs.Owned.{Stands, Owned}
use Rattle.graft_laws.specs.Keeps.{Reached}
use Rattle.graft_laws.proofs.Deeds.{below_or}
use Rattle.graft_laws.proofs.GroupGifts.{over_ended}
use Rattle.graft_laws.proofs.OneGraft.{under_way_once}
use Rattle.graft_laws.proofs.Runs.{always_owned}
use Rattle.settled_check.specs.Left.{graft_in_place, HoldsGraft, IsOpen}
use Rattle.still_grafts.specs.Still.{IsStill, HasNoGraftLeft}
use Rattle.still_grafts.proofs.Awaited.{AreAwaited, always_awaited}
use Rattle.still_grafts.proofs.Idle.{not_busy}
use Rattle.still_grafts.proofs.Script.{none_unissued}

module _ (setup : Setup) (w : World) (sound : IsSetup setup) (reached : Reached setup w) (still : IsStill setup w) where
  owned : Owned setup w
  owned = always_owned setup sound w reached

  awaited : AreAwaited w
  awaited = always_awaited setup w reached

  -- a session that is only held is no graft
  none_held : (b : Bool) (s : SessionValue) (k : ℕ) → graft_in_place (if b then Live s None else Vacant) ≡ Some k → ⊥
  none_held true s k e = cc
  none_held false s k e = cc

  none_in : (p r k : ℕ) (phase : Phase) (s : SessionValue) → Stands setup w p phase s → graft_in_place ((w.router r).places p) ≡ Some k → ⊥
  none_in p r k (Busy q j t stage) s stands e = not_busy setup w still awaited p q j t stage s stands
  none_in p r k (Idle q) s stands e = none_held (r == q) s k (ap graft_in_place (sym (stands.places r)) ∙ e)

  none_there : (r k : ℕ) → HoldsGraft (w.router r) k → ⊥
  none_there r k (p, e) = by_bound (below_or p (peerings_in setup)) where
    by_bound : (p < peerings_in setup) ⊎ (peerings_in setup ≤ p) → ⊥
    by_bound (inl below) = let held = owned.peerings p below in none_in p r k held.phase held.session held.stands e
    by_bound (inr past) = let f : None ≡ Some k = ap graft_in_place (sym ((owned.no_others p past).places r)) ∙ e in cc

  none_open : (k : ℕ) → IsOpen setup w.operator k → ⊥
  none_open k (g, is, u, ordered) =
      let found = under_way_once setup w g sound owned u.known (λ none. ordered (ap w.operator.source (sym is) ∙ none)) u.unended in
      let under = found.3 in
      not_busy setup w still awaited g.peering _ g.graft found.0 under.stage under.session under.stands

  pub no_graft_left : HasNoGraftLeft setup w
  no_graft_left = record {
    routers = none_there;
    unended = none_open;
    script = none_unissued setup w.operator still.operator (over_ended setup w reached) none_open;
  }
