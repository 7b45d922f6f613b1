-- A round without an event: the world stays as it is, no actor notes anything, and each is at rest at its end.
use Rattle.std.proofs.Common.{◌≡◌, ◌<◌, ◌≤◌, ◌∙◌, ℕ, List, [], ◌∷◌, ◌++◌, length, refl, ap, sym, subst, inl, inr, arith}
use Rattle.std.specs.Prelude.{◌⊎◌, Option}
use Rattle.std.specs.List.{AllByRecursion}
use Rattle.std.proofs.Math.Path.{subst⁻¹}
use Rattle.link_bag.specs.declared.plan.Fault.{Fault}
use Rattle.ring_net.specs.declared.entry.JournalEntry.{JournalEntry}
use Rattle.journal_merge.specs.Merges.{entries_by}
use Rattle.tcp_seq.specs.Endpoint.{Endpoint}
use Rattle.session_value.specs.Sessions.{SessionValue}
use Rattle.graft_model.specs.declared.code.Code.{Code}
use Rattle.graft_model.specs.Codes.{router_code, far_code}
use Rattle.graft_model.specs.Setups.{Setup}
use Rattle.graft_model.specs.Parts.{Errand, RouterPart, FarPart, World}
use Rattle.graft_model.specs.RouterRows.{IsLive}
use Rattle.graft_model.specs.declared.event.RouterEvent.{RouterEvent}
use Rattle.graft_model.specs.declared.event.FarEvent.{FarEvent}
use Rattle.graft_model.specs.Steps.{Event, Run}
use Rattle.graft_actors.specs.Actors.{Router, FarSide, number_in}
use Rattle.graft_actors.specs.Laws.{AreEntriesOf}
use Rattle.graft_actors.specs.Emissions.{IsRested}
use Rattle.operator_state.specs.Holds.{NothingToOrder}
use Rattle.router_core.specs.Rested.{RestedRouter}
use Rattle.router_core.specs.Rounds.{RouterGoes}
use Rattle.router_core.specs.Turned.{emits_on}
use Rattle.real_rounds.specs.Ends.{AcksOrResends}
use Rattle.real_rounds.specs.Routers.{HasLive, StaysLive, RealRouter}
use Rattle.real_rounds.specs.Fars.{Links, RealFar}
use Rattle.real_rounds.specs.Whole.{Slices, RouterDid, FarDid, OperatorDid, RoundGoes}
use Rattle.graft_actors.specs.Makes.{AreCoded}

-- ---- numbers and lists

pub below_or_past : (m n : ℕ) → (m < n) ⊎ (n ≤ m)
below_or_past m n = grind arith

pub append_none : {A : Type 0} (xs ys : List A) → xs ++ ys ≡ [] → (xs ≡ []) × (ys ≡ [])
append_none [] ys e = (refl, e)
append_none (x ∷ xs) ys e = absurd cc

-- ---- the round

-- The world at the end of a round is that at its start, and no actor noted anything in it.
pub record IsSilent (start : World) (slices : Slices) (end : World) : Type 0 where
  pub same : end ≡ start
  pub none : (n : ℕ) → slices n ≡ []

no_entries : (setup : Setup) (entries : List JournalEntry) → AreEntriesOf setup [] entries → entries ≡ []
no_entries setup [] are = refl
no_entries setup (entry ∷ entries) are = absurd are

pub silent_round : (setup : Setup) (start : World) (slices : Slices) (events : List Event) (end : World) → RoundGoes setup start slices events end
    → events ≡ [] → IsSilent start slices end
silent_round setup start slices events end goes none = record {
  same = subst (λ (es : List Event). Run setup start es end) none goes.run;
  none = λ n. sym (goes.merged.each n)
      ∙ ap (λ (es : List JournalEntry). entries_by n es)
      (no_entries setup goes.entries (subst (λ (es : List Event). AreEntriesOf setup es goes.entries) none goes.entries_of));
}

no_events : {E : Type 0} (code : E → Code) (events : List E) (entries : List JournalEntry) → AreCoded code events entries → entries ≡ [] → events ≡ []
no_events code [] entries are none = refl
no_events code (event ∷ events) [] are none = absurd are
no_events code (event ∷ events) (entry ∷ entries) are none = absurd cc

-- ---- an endpoint

-- without an old slice sent again, and with the acknowledged length as before, nothing is outstanding
nothing_out : (e : Endpoint) (again : ℕ) → again ≡ 0 → AcksOrResends e e again → e.emitted ≤ e.acked
nothing_out e again none goes_on = elim (below_or_past e.acked e.emitted) [
  | inl out ↦ elim (goes_on out) [ inl more ↦ omega (arith, more) | inr once ↦ omega (arith, none, once) ]
  | inr past ↦ past
]

-- ---- a router

-- A router is at rest, and nothing is outstanding on a session that is live there.
pub record RouterRests (setup : Setup) (r : ℕ) (part : RouterPart) : Type 0 where
  pub rested : RestedRouter setup r part
  pub sent : (p : ℕ) (s : SessionValue) (o : Option Errand) → IsLive part p s o → s.end.emitted ≤ s.end.acked

goes_nowhere : (setup : Setup) (r : ℕ) (Allowed : RouterPart → RouterEvent → Type 0)
    (before : RouterPart) (events : List RouterEvent) (parts : List RouterPart) (after : RouterPart)
    → events ≡ []
    → RouterGoes setup r Allowed before events parts after → parts ≡ []
goes_nowhere setup r Allowed before [] [] after none goes = refl
goes_nowhere setup r Allowed before [] (part ∷ parts) after none goes = absurd goes
goes_nowhere setup r Allowed before (event ∷ events) parts after none goes = absurd cc

all_none : {A : Type 0} (xs ys zs : List A) → xs ≡ [] → ys ≡ [] → zs ≡ [] → xs ++ (ys ++ zs) ≡ []
all_none xs ys zs first second third = ap (λ vs. vs ++ (ys ++ zs)) first ∙ ap (λ vs. vs ++ zs) second ∙ third

module _ (setup : Setup) (r round : ℕ) (part : RouterPart) (events : List RouterEvent) (end : RouterPart)
    (real : RealRouter setup r round part events end) (none : events ≡ []) (same : end ≡ part) where
  pieces : (real.taken ≡ []) × (real.again ≡ []) × (real.work ≡ [])
  pieces =
      let first = append_none real.taken (real.again ++ real.work) (sym real.is ∙ none) in
      let second = append_none real.again real.work first.1 in
      (first.0, second.0, second.1)

  stays : (p : ℕ) (s : SessionValue) (o : Option Errand) → IsLive part p s o → StaysLive p part (real.first ++ (real.second ++ real.third)) end s s
  stays p s o live =
      let parts : real.first ++ (real.second ++ real.third) ≡ [] =
      all_none real.first real.second real.third (goes_nowhere setup r _ part real.taken real.first real.turning pieces.0 real.takes)
      (goes_nowhere setup r _ real.turning real.again real.second real.sent pieces.1 real.sends)
      (goes_nowhere setup r _ real.sent real.work real.third end pieces.2 real.works) in
      record {
        first_order = o;
        last_order = o;
        starts = live;
        ends = subst⁻¹ (λ (x : RouterPart). IsLive x p s o) same live;
        throughout = subst⁻¹ (λ (xs : List RouterPart). AllByRecursion (HasLive p) (part ∷ xs)) parts ((s, o, live), tt);
      }

  router_at_rest : RouterRests setup r part
  router_at_rest = record {
    rested = subst (λ (x : RouterPart). RestedRouter setup r x) same real.rested;
    sent = λ p s o live. nothing_out s.end (emits_on p real.again)
        (ap (λ (es : List RouterEvent). emits_on p es) pieces.1) (real.goes_on p s s (stays p s o live));
  }

pub router_rests : (setup : Setup) (r round : ℕ) (start : World) (slices : Slices) (end : World) → RouterDid setup r round start slices end
    → IsSilent start slices end → RouterRests setup r (start.router r)
router_rests setup r round start slices end did silent =
    router_at_rest setup r round (start.router r) did.events (end.router r) did.real
    (no_events router_code did.events _ did.coded (silent.none (number_in setup (Router r)))) (ap (λ (w : World). w.router r) silent.same)

-- ---- a far side

-- A remote is at rest, and nothing is outstanding.
pub record FarRests (part : FarPart) : Type 0 where
  pub rested : IsRested part.end
  pub sent : part.end.emitted ≤ part.end.acked

module _ (setup : Setup) (faults : List Fault) (p round : ℕ) (part : FarPart) (before : Links) (events : List FarEvent) (end : FarPart) (after : Links)
    (real : RealFar setup faults p round part before events end after) (none : events ≡ []) (same : end ≡ part) where
  none_again : real.again ≡ []
  none_again =
      let turn = (append_none real.taken _ (sym real.is ∙ none)).1 in
      let away = (append_none _ _ turn).1 in
      let sends = (append_none _ _ away).1 in
      (append_none real.again _ sends).0

  far_at_rest : FarRests part
  far_at_rest = record {
    rested = subst (λ (x : FarPart). IsRested x.end) same real.rested;
    sent = nothing_out part.end (length real.again) (ap (λ (es : List FarEvent). length es) none_again)
        (subst (λ (x : FarPart). AcksOrResends part.end x.end (length real.again)) same real.goes_on);
  }

pub far_rests : (setup : Setup) (faults : List Fault) (p round : ℕ) (start : World) (before : Links) (slices : Slices) (end : World) (after : Links)
    → FarDid setup faults p round start before slices end after → IsSilent start slices end → FarRests (start.far p)
far_rests setup faults p round start before slices end after did silent =
    far_at_rest setup faults p round (start.far p) before did.events (end.far p) after did.real
    (no_events far_code did.events _ did.coded (silent.none (number_in setup (FarSide p)))) (ap (λ (w : World). w.far p) silent.same)

-- ---- the operator

pub nothing_to_order : (setup : Setup) (start : World) (slices : Slices) (end : World) → OperatorDid setup start slices end
    → IsSilent start slices end → NothingToOrder setup start.operator
nothing_to_order setup start slices end did silent = subst (λ (w : World). NothingToOrder setup w.operator) silent.same did.real.issued
