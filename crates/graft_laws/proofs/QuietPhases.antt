-- In a quiet world no graft is under way, and each session is where it belongs by the log.
use Rattle.std.proofs.Common.{◌≡◌, ◌==◌, cond, ℕ, Bool, false, List, [], ◌∷◌, Some, None, refl, sym, ap, ◌∙◌, subst, arith}
use Rattle.std.proofs.lemmas.Bool.Decides.{nat_tests}
use Rattle.std.specs.Prelude.{◌≢◌, filter}
use Rattle.graft_steps.specs.declared.refusal.Outcome.TheVariants.{Accepted, Refused}
use Rattle.tcp_seq.specs.Endpoint.{Endpoint}
use Rattle.session_value.specs.Sessions.{SessionValue}
use Rattle.graft_model.specs.Setups.{Setup}
use Rattle.graft_model.specs.Parts.{Place, Vacant, Live, Frozen, Shadow, Order, Errand, Leaving, Owing}
use Rattle.graft_model.specs.Parts.{Asking as ToAnswer, Moved, Back, Done, GraftOrder, Report, World}
use Rattle.graft_model.specs.OperatorRows.{placement}
use Rattle.graft_model.specs.Quiet.{HasRead, AllAcked, IsIdle, Quiet}
use Rattle.graft_laws.specs.Phases.{Ordered, Stored, Halted, Moving, Landed, Asking, Confirmed, Returning, Declined, Cleared, Phase, Idle, Busy, source_of}
use Rattle.graft_laws.specs.Owned.{is_on, Stands}
use Rattle.graft_laws.specs.Log.{is_graft_on}
use Rattle.graft_laws.proofs.Heads.{only_here, only2_here, placed_here, landed_here}

-- an empty channel has nothing of a peering
nothing_in : {A : Type 0} (test : A → Bool) (items : List A) (x : A) → items ≡ [] → filter test items ≡ x ∷ [] → ⊥
nothing_in test items x none some = let e : [] ≡ x ∷ [] = ap (filter test) (sym none) ∙ some in cc

not_idle : (remote : Endpoint) (place : Place) (s : SessionValue) (errand : Errand) → IsIdle remote place → place ≡ Live s (Some errand) → ⊥
not_idle remote place s errand idle is = subst (IsIdle remote) is idle

not_frozen : (remote : Endpoint) (place : Place) (s : SessionValue) (order : Order) → IsIdle remote place → place ≡ Frozen s order → ⊥
not_frozen remote place s order idle is = subst (IsIdle remote) is idle

pub quiet_idle : (setup : Setup) (w : World) (p : ℕ) (phase : Phase) (s : SessionValue) → Quiet setup w → Stands setup w p phase s
    → phase ≡ Idle (source_of phase)
quiet_idle setup w p (Idle q) s quiet b = refl
quiet_idle setup w p (Busy q k t Ordered) s quiet b = absurd (nothing_in (λ (o : GraftOrder). o.peering == p) (w.orders q)
    (record { graft = k; peering = p; target = t }) (quiet.orders q) (b.orders q ∙ only_here q (record { graft = k; peering = p; target = t })))
quiet_idle setup w p (Busy q k t Stored) s quiet b = absurd (not_idle (w.far p).end ((w.router q).places p) s (Leaving (record { graft = k; target = t }))
    (quiet.places q p) (b.places q ∙ placed_here q (Live s (Some (Leaving (record { graft = k; target = t }))))))
quiet_idle setup w p (Busy q k t Halted) s quiet b = absurd (not_frozen (w.far p).end ((w.router q).places p) s
    (record { graft = k; target = t }) (quiet.places q p) (b.places q ∙ placed_here q (Frozen s (record { graft = k; target = t }))))
quiet_idle setup w p (Busy q k t Moving) s quiet b =
    absurd (nothing_in (is_on p) (w.mesh q t) (Moved k p s) (quiet.mesh q t) (b.mesh q t ∙ only2_here q t (Moved k p s)))
quiet_idle setup w p (Busy q k t (Landed n)) s quiet b =
    let word : Errand = Owing (record { graft = k; source = q; next = n }) in
    absurd (not_idle (w.far p).end ((w.router t).places p) s word (quiet.places t p)
    (b.places t ∙ landed_here t (Live s (Some word)) (cond (t == q) (Shadow k) Vacant)))
quiet_idle setup w p (Busy q k t (Asking n)) s quiet b =
    let word : Errand = ToAnswer (record { graft = k; source = q; next = n }) in
    absurd (not_idle (w.far p).end ((w.router t).places p) s word (quiet.places t p)
    (b.places t ∙ landed_here t (Live s (Some word)) (cond (t == q) (Shadow k) Vacant)))
quiet_idle setup w p (Busy q k t Confirmed) s quiet b =
    absurd (nothing_in (is_on p) (w.mesh t q) (Done k p) (quiet.mesh t q) (b.mesh t q ∙ only2_here t q (Done k p)))
quiet_idle setup w p (Busy q k t (Returning refusal)) s quiet b =
    absurd (nothing_in (is_on p) (w.mesh t q) (Back k p s refusal) (quiet.mesh t q) (b.mesh t q ∙ only2_here t q (Back k p s refusal)))
quiet_idle setup w p (Busy q k t (Declined refusal)) s quiet b =
    absurd (nothing_in (λ (o : Report). is_graft_on setup p o.graft) (w.reports q) (record { graft = k; outcome = Refused refusal })
    (quiet.reports q) (b.reports q ∙ only_here q (record { graft = k; outcome = Refused refusal })))
quiet_idle setup w p (Busy q k t Cleared) s quiet b =
    absurd (nothing_in (λ (o : Report). is_graft_on setup p o.graft) (w.reports q) (record { graft = k; outcome = Accepted })
    (quiet.reports q) (b.reports q ∙ only_here q (record { graft = k; outcome = Accepted })))

pub quiet_phase : (setup : Setup) (w : World) (p : ℕ) (phase : Phase) (s : SessionValue) → Quiet setup w → Stands setup w p phase s
    → phase ≡ Idle (placement setup w.operator p)
quiet_phase setup w p phase s quiet b = quiet_idle setup w p phase s quiet b ∙ ap Idle (sym b.log.placed)

-- ---- the places

pub placed_there : (setup : Setup) (w : World) (p q : ℕ) (s : SessionValue) → Stands setup w p (Idle q) s → (w.router q).places p ≡ Live s None
placed_there setup w p q s b = b.places q ∙ placed_here q (Live s None)

pub vacant_else : (setup : Setup) (w : World) (p q r : ℕ) (s : SessionValue) → Stands setup w p (Idle q) s → r ≢ q → (w.router r).places p ≡ Vacant
vacant_else setup w p q r s b ne = b.places r ∙ ap (λ c. cond c (Live s None) Vacant) (let e : (r == q) ≡ false = grind (arith, nat_tests) in e)

-- what a quiet session has read, and what both sides know
pub record IsDone (w : World) (p : ℕ) (s : SessionValue) : Type 0 where
  pub read : HasRead s
  pub home : AllAcked s.end (w.far p).end
  pub remote : AllAcked (w.far p).end s.end

pub quiet_done : (setup : Setup) (w : World) (p q : ℕ) (s : SessionValue) → Quiet setup w → Stands setup w p (Idle q) s → IsDone w p s
quiet_done setup w p q s quiet b =
    let idle : IsIdle (w.far p).end (Live s None) = subst (IsIdle (w.far p).end) (placed_there setup w p q s b) (quiet.places q p) in
    record { read = idle.0; home = idle.1; remote = idle.2 }
