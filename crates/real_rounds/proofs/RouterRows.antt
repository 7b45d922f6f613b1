-- Where a session of a router is live before and after an event.
use Rattle.std.proofs.Common.{◌≡◌, ◌≢◌, ℕ, zero, suc, List, [], ◌∷◌, ◌==◌, true, false, refl, ap, sym, ◌∙◌, inl, inr}
use Rattle.std.specs.Prelude.{Option, None}
use Rattle.std.specs.List.{AllByRecursion}
use Rattle.std.proofs.lemmas.Bool.Decides.{eqb_tells}
use Rattle.session_value.specs.Sessions.{SessionValue}
use Rattle.graft_model.specs.Codes.{router_code}
use Rattle.graft_model.specs.Points.{at}
use Rattle.graft_model.specs.Setups.{Setup}
use Rattle.graft_model.specs.Parts.{Place, Vacant, Live, Shadow, Errand, RouterPart}
use Rattle.graft_model.specs.RouterRows.{RouterTaken, RouterSent, IsLive}
use Rattle.graft_model.specs.declared.event.RouterEvent.{RouterEvent}
use Rattle.graft_model.specs.declared.event.RouterEvent.TheVariants.{Put, Emit, Arrive, Got, Decide, Tell, Hear, Admit, Refuse, Freeze}
use Rattle.graft_model.specs.declared.event.RouterEvent.TheVariants.{Leave, Land, Return, Clear, Ask, Collect, Confirm, Tick}
use Rattle.graft_model.specs.Steps.{router_row}
use Rattle.router_core.specs.Rounds.{RouterGoes}
use Rattle.router_core.specs.Turned.{rounds_on}
use Rattle.real_rounds.specs.Routers.{HasLive}

-- neither that of a session that lands nor that of one that returns
pub record IsNoLanding (kind : ℕ) : Type 0 where
  pub land : kind ≢ (router_code (Land 0)).kind
  pub return : kind ≢ (router_code (Return 0)).kind

abbrev pub LandsNobody : RouterEvent → Type 0
LandsNobody event = IsNoLanding ((router_code event).kind)

-- ---- places

same_at : (a b : RouterPart) (p : ℕ) → b.places p ≡ a.places p → HasLive p b → HasLive p a
same_at a b p e (s, o, live) = (s, o, record { is = sym e ∙ live.is })

other : (f : ℕ → Place) (q : ℕ) (v : Place) (p : ℕ) → (p == q) ≡ false → at f q v p ≡ f p
other f q v p ne = rw ne refl

own : (f : ℕ → Place) (q : ℕ) (v : Place) (p : ℕ) → (p == q) ≡ true → at f q v p ≡ v
own f q v p e = rw e refl

-- another value where a session was live
at_live : (a b : RouterPart) (q p : ℕ) (v : Place) (s : SessionValue) (o : Option Errand) → IsLive a q s o → b.places ≡ at a.places q v → HasLive p b
    → HasLive p a
at_live a b q p v s o before effect live = elim (eqb_tells p q) [
  | inl e ↦ (s, o, record { is = ap a.places e.1 ∙ before.is })
  | inr ne ↦ same_at a b p (ap (λ (f : ℕ → Place). f p) effect ∙ other a.places q v p ne.0) live
]

-- a value that is no live session
at_dead : (a b : RouterPart) (q p : ℕ) (v : Place) → ((s : SessionValue) (o : Option Errand) → v ≢ Live s o) → b.places ≡ at a.places q v
    → HasLive p b → HasLive p a
at_dead a b q p v dead effect (s, o, live) = elim (eqb_tells p q) [
  | inl e ↦ absurd (dead s o (sym (own a.places q v p e.0) ∙ sym (ap (λ (f : ℕ → Place). f p) effect) ∙ live.is))
  | inr ne ↦ same_at a b p (ap (λ (f : ℕ → Place). f p) effect ∙ other a.places q v p ne.0) (s, o, live)
]

no_shadow : (k : ℕ) (s : SessionValue) (o : Option Errand) → Shadow k ≢ Live s o
no_shadow k s o e = absurd cc

no_vacant : (s : SessionValue) (o : Option Errand) → Vacant ≢ Live s o
no_vacant s o e = absurd cc

-- ---- one event

-- what is live after an event that lands nobody was live before it
pub live_before : (setup : Setup) (r : ℕ) (event : RouterEvent) (a b : RouterPart) (taken : Option RouterTaken) (sent : List RouterSent)
    → router_row setup r event a taken sent b → LandsNobody event → (p : ℕ) → HasLive p b → HasLive p a
live_before setup r (Put q zero) a b taken sent row calm p live = same_at a b p (ap (λ (x : RouterPart). x.places p) row.effect) live
live_before setup r (Put q (suc n)) a b taken sent row calm p live =
    at_live a b q p (Live row.next row.errand) row.session row.errand row.live (ap (λ (x : RouterPart). x.places) row.effect) live
live_before setup r (Emit q from len) a b taken sent row calm p live =
    at_live a b q p (Live (record row.session { end = row.end }) row.errand) row.session row.errand row.live (ap (λ (x : RouterPart). x.places) row.effect) live
live_before setup r (Arrive q) a b taken sent row calm p live =
    at_live a b q p (Live (record row.session { end = row.end }) row.errand) row.session row.errand row.live (ap (λ (x : RouterPart). x.places) row.effect) live
live_before setup r (Got q) a b taken sent row calm p live =
    at_live a b q p (Live row.next row.errand) row.session row.errand row.live (ap (λ (x : RouterPart). x.places) row.follows.effect) live
live_before setup r (Decide prefix) a b taken sent row calm p live = same_at a b p (ap (λ (x : RouterPart). x.places p) row.effect) live
live_before setup r (Tell q prefix) a b taken sent row calm p live = same_at a b p (ap (λ (x : RouterPart). x.places p) row.effect) live
live_before setup r (Hear q) a b taken sent row calm p live = same_at a b p (ap (λ (x : RouterPart). x.places p) row.effect) live
live_before setup r (Admit k) a b taken sent row calm p live =
    at_live a b row.peering p _ row.session None row.live (ap (λ (x : RouterPart). x.places) row.effect) live
live_before setup r (Refuse k) a b taken sent row calm p live =
    at_live a b row.peering p _ row.session _ row.live (ap (λ (x : RouterPart). x.places) row.effect) live
live_before setup r (Freeze k) a b taken sent row calm p live =
    at_live a b row.peering p _ row.session _ row.live (ap (λ (x : RouterPart). x.places) row.effect) live
live_before setup r (Leave k) a b taken sent row calm p live =
    at_dead a b row.peering p (Shadow k) (no_shadow k) (ap (λ (x : RouterPart). x.places) row.effect) live
live_before setup r (Land q) a b taken sent row calm p live = absurd (calm.land refl)
live_before setup r (Return q) a b taken sent row calm p live = absurd (calm.return refl)
live_before setup r (Clear q) a b taken sent row calm p live = at_dead a b row.peering p Vacant no_vacant (ap (λ (x : RouterPart). x.places) row.effect) live
live_before setup r (Ask k q) a b taken sent row calm p live =
    at_live a b row.peering p _ row.session _ row.live (ap (λ (x : RouterPart). x.places) row.effect) live
live_before setup r (Collect q) a b taken sent (inl row) calm p live =
    at_live a b row.peering p _ row.session _ row.live (ap (λ (x : RouterPart). x.places) row.effect) live
live_before setup r (Collect q) a b taken sent (inr row) calm p live = same_at a b p (ap (λ (x : RouterPart). x.places p) row.stays) live
live_before setup r (Confirm k) a b taken sent row calm p live =
    at_live a b row.peering p _ row.session _ row.live (ap (λ (x : RouterPart). x.places) row.effect) live
live_before setup r (Tick q round) a b taken sent row calm p live =
    at_live a b q p (Live row.next row.errand) row.session row.errand row.live (ap (λ (x : RouterPart). x.places) row.follows.effect) live
live_before setup r _ a b taken sent row calm p live = same_at a b p (ap (λ (x : RouterPart). x.places p) row.stays) live

-- ---- several events

pub live_start : (Allowed : RouterPart → RouterEvent → Type 0) (setup : Setup) (r : ℕ) (a b : RouterPart) (es : List RouterEvent) (ms : List RouterPart)
    → RouterGoes setup r Allowed a es ms b → AllByRecursion LandsNobody es → (p : ℕ) → HasLive p b
    → HasLive p a
live_start Allowed setup r a b [] [] h calm p live = same_at a b p (ap (λ (x : RouterPart). x.places p) h) live
live_start Allowed setup r a b [] (m ∷ ms) h calm p live = absurd h
live_start Allowed setup r a b (e ∷ es) [] h calm p live = absurd h
live_start Allowed setup r a b (e ∷ es) (m ∷ ms) (taken, sent, row, allowed, rest) calm p live =
    live_before setup r e a m taken sent row calm.0 p (live_start Allowed setup r m b es ms rest calm.1 p live)

-- on a session that isn't live no round passes
pub no_rounds_there : (Allowed : RouterPart → RouterEvent → Type 0) (setup : Setup) (r : ℕ) (a b : RouterPart) (es : List RouterEvent) (ms : List RouterPart)
    → RouterGoes setup r Allowed a es ms b → AllByRecursion LandsNobody es → (p : ℕ)
    → ¬ HasLive p a → rounds_on p es ≡ []
no_rounds_there Allowed setup r a b [] ms h calm p absent = refl
no_rounds_there Allowed setup r a b (e ∷ es) [] h calm p absent = absurd h
no_rounds_there Allowed setup r a b (e ∷ es) (m ∷ ms) (taken, sent, row, allowed, rest) calm p absent =
    one e row ∙ no_rounds_there Allowed setup r m b es ms rest calm.1 p (λ live. absent (live_before setup r e a m taken sent row calm.0 p live))
  where
    one : (event : RouterEvent) → router_row setup r event a taken sent m → rounds_on p (event ∷ es) ≡ rounds_on p es
    one (Tick q round) row = elim (eqb_tells q p) [
      | inl e ↦ absurd (absent (row.session, row.errand, record { is = sym (ap a.places e.1) ∙ row.live.is }))
      | inr ne ↦ rw (ne.0) refl
    ]
    one _ row = refl
