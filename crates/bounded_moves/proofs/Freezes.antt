-- Behind a freeze the graft is halted or further, and at the end of the round it is on its way or further.
use Rattle.std.proofs.Common.{◌≡◌, ◌≤◌, ◌<◌, ℕ, zero, suc, List, [], ◌∷◌, length, Some, None, sym, ap, ◌∙◌, subst, arith}
use Rattle.std.specs.Prelude.{◌≢◌, slice_index_or}
use Rattle.std.specs.List.{Contains}
use Rattle.session_value.specs.Sessions.{SessionValue}
use Rattle.graft_model.specs.Setups.{Setup, IsSetup, routers_in, peerings_in}
use Rattle.graft_model.specs.Parts.{Order, Frozen, RouterPart, World}
use Rattle.graft_model.specs.GraftRows as rows
use Rattle.graft_model.specs.declared.event.RouterEvent.TheVariants.{Freeze}
use Rattle.graft_model.specs.Steps.{Event, ByRouter, RouterStep, Step, Run}
use Rattle.graft_laws.specs.Phases.{Stage, Halted, Phase, Busy}
use Rattle.graft_laws.specs.Owned.{Stands, Owned}
use Rattle.graft_laws.specs.Keeps.{Reached}
use Rattle.graft_laws.proofs.Deeds.{known_place}
use Rattle.graft_laws.proofs.Following.{at_here}
use Rattle.graft_laws.proofs.Heads.{one_phase, placed_here}
use Rattle.graft_laws.proofs.Logs.{own_known}
use Rattle.graft_laws.proofs.Moves.{router_moves}
use Rattle.graft_laws.proofs.Numbers.{one_peering}
use Rattle.graft_laws.proofs.Phases.{halted_at}
use Rattle.graft_laws.proofs.Runs.{reached_more, always_owned}
use Rattle.router_core.specs.Rested.{IsQuietPlace}
use Rattle.bounded_moves.proofs.Ranks.{rank, IsOn, goes_on, raised}

-- The graft k is under way from the router r to another one, with at least this rank.
pub record HasLeft (setup : Setup) (r k least : ℕ) (w : World) : Type 0 where
  pub peering : ℕ
  pub target : ℕ
  pub below : peering < peerings_in setup
  pub source_known : r < routers_in setup
  pub target_known : target < routers_in setup
  pub apart : target ≢ r
  pub on : IsOn setup k peering r target least w

same_busy : (a b r k t : ℕ) (stage : Stage) → Busy a k b stage ≡ Busy r k t Halted → (a ≡ r) × (b ≡ t) × (stage ≡ Halted)
same_busy a b r k t stage e = (cc, cc, cc)

module _ (setup : Setup) (sound : IsSetup setup) (r k : ℕ) where
  -- where the session is frozen, the graft is halted there, and nowhere else under way
  halted : (w : World) (p t : ℕ) (s : SessionValue) → r < routers_in setup → Reached setup w
      → (w.router r).places p ≡ Frozen s (record { graft = k; target = t }) → HasLeft setup r k 2 w
  halted w p t s known reached frozen = record {
    peering = p;
    target = t;
    below = below;
    source_known = known;
    target_known = here.bounds.1;
    apart = here.bounds.2;
    on = record { ordered = λ none. (let g : Some r ≡ None = sym here.log.goes_on.ordered ∙ none in cc); only = only };
  }
    where
      owned : Owned setup w
      owned = always_owned setup sound w reached

      below : p < peerings_in setup
      below = known_place setup w owned r p (Frozen s (record { graft = k; target = t })) frozen (λ none. cc)

      session : SessionValue
      session = (owned.peerings p below).session

      here : Stands setup w p (Busy r k t Halted) session
      here = let held = owned.peerings p below in
          subst (λ (x : Phase). Stands setup w p x held.session)
          (halted_at held.phase held.session s r k t (sym frozen ∙ held.stands.places r)).0 held.stands

      only : (x a b : ℕ) (stage : Stage) (z : SessionValue) → x < peerings_in setup → Stands setup w x (Busy a k b stage) z
          → (x ≡ p) × (a ≡ r) × (b ≡ t) × (2 ≤ rank stage)
      only x a b stage z known_peering stands =
          let same : x ≡ p = one_peering setup x p k (own_known setup x k stands.log.goes_on.known) (own_known setup p k here.log.goes_on.known) in
          let e = same_busy a b r k t stage
          (one_phase setup w p (Busy a k b stage) (Busy r k t Halted) z session
          (subst (λ (n : ℕ). Stands setup w n (Busy a k b stage) z) same stands) here) in
          (same, e.0, e.1, subst (λ (x : Stage). 2 ≤ rank x) (sym e.2) (omega arith))

  -- ---- the event

  frozen_then : (w v : World) (step : RouterStep setup r (Freeze k) w v) (row : rows.Freezes r k (w.router r) step.taken step.sent step.part)
      → (v.router r).places row.peering ≡ Frozen row.session (record { graft = k; target = row.target })
  frozen_then w v step row =
      ap (λ (f : ℕ → RouterPart). (f r).places row.peering) (router_moves setup r (Freeze k) w v step).router
      ∙ (ap (λ (x : RouterPart). x.places row.peering) (at_here w.router r step.part)
      ∙ (ap (λ (x : RouterPart). x.places row.peering) row.effect
      ∙ at_here (w.router r).places row.peering (Frozen row.session (record { graft = k; target = row.target }))))

  freezes : (w v : World) → Reached setup w → Step setup (ByRouter r (Freeze k)) w v → HasLeft setup r k 2 v
  freezes w v reached step = halted v step.row.peering step.row.target step.row.session step.known
      (reached_more setup (ByRouter r (Freeze k)) w v reached step) (frozen_then w v step step.row)

  -- ---- the round

  stays_left : (events : List Event) (w v : World) → Reached setup w → Run setup w events v → HasLeft setup r k 2 w → HasLeft setup r k 2 v
  stays_left events w v reached run left = record {
    peering = left.peering;
    target = left.target;
    below = left.below;
    source_known = left.source_known;
    target_known = left.target_known;
    apart = left.apart;
    on = goes_on setup sound k left.peering r left.target 2 events w v reached run left.on;
  }

  along : (events : List Event) (i : ℕ) (w v : World) → i < length events → slice_index_or events i (ByRouter r (Freeze k)) ≡ ByRouter r (Freeze k)
      → Reached setup w → Run setup w events v → HasLeft setup r k 2 v
  along [] i w v within is reached run = absurd (omega (arith, within))
  along (event ∷ events) zero w v within is reached (u, step, run) =
      let here : Step setup (ByRouter r (Freeze k)) w u = subst (λ (x : Event). Step setup x w u) is step in
      stays_left events u v (reached_more setup (ByRouter r (Freeze k)) w u reached here) run (freezes w u reached here)
  along (event ∷ events) (suc i) w v within is reached (u, step, run) = along events i u v (omega (arith, within)) is
      (reached_more setup event w u reached step) run

  -- a place that is at rest is frozen for nothing
  not_halted : (w : World) (p t : ℕ) (stage : Stage) (s : SessionValue) → ((x : ℕ) → IsQuietPlace ((w.router r).places x))
      → Stands setup w p (Busy r k t stage) s → rank stage ≡ 2 → ⊥
  not_halted w p t Halted s quiet stands is =
      let order : Order = record { graft = k; target = t } in
      subst IsQuietPlace (stands.places r ∙ placed_here r (Frozen s order)) (quiet p)
  not_halted w p t _ s quiet stands is = cc

  pub left_by : (events : List Event) (w v : World) → Contains events (ByRouter r (Freeze k)) → Reached setup w → Run setup w events v
      → (r < routers_in setup → (x : ℕ) → IsQuietPlace ((v.router r).places x)) → HasLeft setup r k 3 v
  left_by events w v contains reached run quiet =
      let left : HasLeft setup r k 2 v = along events contains.0 w v contains.1 contains.2 reached run in record {
        peering = left.peering;
        target = left.target;
        below = left.below;
        source_known = left.source_known;
        target_known = left.target_known;
        apart = left.apart;
        on = raised setup sound k left.peering r left.target 2 v
            (λ stage s stands is. not_halted v left.peering left.target stage s (quiet left.source_known) stands is) left.on;
      }
