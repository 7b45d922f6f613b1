-- How far a graft is, and that it never goes back.
use Rattle.std.proofs.Common.{◌≡◌, ◌+◌, ◌≤◌, ◌<◌, ℕ, List, None, refl, sym, ◌∙◌, subst, arith}
use Rattle.std.specs.Prelude.{◌≢◌}
use Rattle.session_value.specs.Sessions.{SessionValue}
use Rattle.graft_model.specs.Setups.{Setup, IsSetup, peerings_in}
use Rattle.graft_model.specs.Parts.{World}
use Rattle.graft_model.specs.Steps.{Event, Step, Run}
use Rattle.graft_laws.specs.Phases.{Stage, Ordered, Stored, Halted, Moving, Returning, Phase, Idle, Busy}
use Rattle.graft_laws.specs.Owned.{Stands, Owned}
use Rattle.graft_laws.specs.Keeps.{Reached}
use Rattle.graft_laws.specs.Life.{Change, GraftMove, Begins, NotesRefusal, NotesSuccess, Grafts, Lands, Clears}
use Rattle.graft_laws.proofs.Following.{Followed}
use Rattle.graft_laws.proofs.GraftDeeds.{le_trans}
use Rattle.graft_laws.proofs.Growth.{LogGrows, log_grows, idle_ended}
use Rattle.graft_laws.proofs.Heads.{one_phase}
use Rattle.graft_laws.proofs.Logs.{own_known}
use Rattle.graft_laws.proofs.Runs.{followed, carried_from, always_owned}

-- halted, on its way, on its way back, and past all that
abbrev pub rank : Stage → ℕ
rank Ordered = 0
rank Stored = 1
rank Halted = 2
rank Moving = 3
rank (Returning refusal) = 4
rank stage = 5

-- ---- one event

-- a graft that is under way after an event was so before, no further, or nothing of its peering was
abbrev CameFrom : Phase → Phase → Type 0
CameFrom phase (Idle y) = Unit {0}
CameFrom (Idle x) (Busy q k t stage) = Unit {0}
CameFrom (Busy x j y old) (Busy q k t stage) = (x ≡ q) × (j ≡ k) × (y ≡ t) × (rank old ≤ rank stage)

on_move : {setup : Setup} {w : World} (phase next : Phase) (s : SessionValue) → GraftMove setup w phase s next → CameFrom phase next
on_move _ _ s Begins = tt
on_move _ _ s NotesRefusal = tt
on_move _ _ s NotesSuccess = tt
on_move _ _ s _ = (refl, refl, refl, omega arith)

itself : (phase : Phase) → CameFrom phase phase
itself (Idle q) = tt
itself (Busy q k t stage) = (refl, refl, refl, omega arith)

came : {setup : Setup} {w v : World} (p : ℕ) (phase next : Phase) (s z : SessionValue) → Change setup w v p phase s next z → CameFrom phase next
came p phase next s _ (Grafts move line entries) = on_move phase next s move
came p _ _ s _ (Lands admitted line entries) = (refl, refl, refl, omega arith)
came p _ _ s _ (Clears line entries) = (refl, refl, refl, omega arith)
came p phase _ s z _ = itself phase

-- ---- a graft under way

-- The graft k was ordered; and wherever it is under way, it is that of the peering p from q to t, with at least this rank.
pub record IsOn (setup : Setup) (k p q t least : ℕ) (w : World) : Type 0 where
  pub ordered : w.operator.source k ≢ None
  pub only : (x a b : ℕ) (stage : Stage) (s : SessionValue) → x < peerings_in setup → Stands setup w x (Busy a k b stage) s
      → (x ≡ p) × (a ≡ q) × (b ≡ t) × (least ≤ rank stage)

above : (a b : ℕ) → a ≤ b → b ≢ a → a + 1 ≤ b
above a b l ne = omega (arith, l, ne)

module _ (setup : Setup) (sound : IsSetup setup) (k p q t least : ℕ) where
  pub stays : (event : Event) (w v : World) → Reached setup w → Step setup event w v → IsOn setup k p q t least w → IsOn setup k p q t least v
  stays event w v reached step on = record { ordered = grows.source k on.ordered; only = only }
    where
      owned : Owned setup w
      owned = always_owned setup sound w reached

      grows : LogGrows w.operator v.operator
      grows = log_grows setup event w v step

      back : (x a b : ℕ) (stage : Stage) (s z : SessionValue) (phase : Phase) → x < peerings_in setup → Stands setup v x (Busy a k b stage) s
          → Stands setup w x phase z → CameFrom phase (Busy a k b stage)
          → (x ≡ p) × (a ≡ q) × (b ≡ t) × (least ≤ rank stage)
      back x a b stage s z (Idle y) below now was from =
          absurd (grows.outcome k
          (idle_ended setup w.operator x y k was.log (own_known setup x k now.log.goes_on.known) on.ordered) now.log.goes_on.unended)
      back x a b stage s z (Busy c j d old) below now was from =
          let e = on.only x c d old z below (subst (λ (n : ℕ). Stands setup w x (Busy c n d old) z) from.1 was) in
          (e.0, sym from.0 ∙ e.1, sym from.2 ∙ e.2, le_trans least (rank old) (rank stage) e.3 from.3)

      only : (x a b : ℕ) (stage : Stage) (s : SessionValue) → x < peerings_in setup → Stands setup v x (Busy a k b stage) s
          → (x ≡ p) × (a ≡ q) × (b ≡ t) × (least ≤ rank stage)
      only x a b stage s below now =
          let held = owned.peerings x below in
          let f : Followed setup w v x held.phase held.session = followed setup w v event x held.phase held.session sound owned step below held.stands in
          let same : f.next ≡ Busy a k b stage = one_phase setup v x f.next (Busy a k b stage) f.session s f.stands now in
          back x a b stage s held.session held.phase below now held.stands
          (subst (CameFrom held.phase) same (came x held.phase f.next held.session f.session f.change))

  pub goes_on : (events : List Event) (w v : World) → Reached setup w → Run setup w events v → IsOn setup k p q t least w → IsOn setup k p q t least v
  goes_on = carried_from setup (IsOn setup k p q t least) stays

  -- where it isn't of this rank, it is further
  pub raised : (w : World) → ((stage : Stage) (s : SessionValue) → Stands setup w p (Busy q k t stage) s → rank stage ≡ least → ⊥)
      → IsOn setup k p q t least w → IsOn setup k p q t (least + 1) w
  raised w not on = record { ordered = on.ordered; only = only }
    where
      here : (x a b : ℕ) (stage : Stage) (s : SessionValue) → x ≡ p → a ≡ q → b ≡ t → Stands setup w x (Busy a k b stage) s
          → Stands setup w p (Busy q k t stage) s
      here x a b stage s e f g stands = subst (λ (n : ℕ). Stands setup w p (Busy q k n stage) s) g
          (subst (λ (n : ℕ). Stands setup w p (Busy n k b stage) s) f (subst (λ (n : ℕ). Stands setup w n (Busy a k b stage) s) e stands))

      only : (x a b : ℕ) (stage : Stage) (s : SessionValue) → x < peerings_in setup → Stands setup w x (Busy a k b stage) s
          → (x ≡ p) × (a ≡ q) × (b ≡ t) × (least + 1 ≤ rank stage)
      only x a b stage s below stands =
          let e = on.only x a b stage s below stands in
          (e.0, e.1, e.2, above least (rank stage) e.3 (not stage s (here x a b stage s e.0 e.1 e.2 stands)))
