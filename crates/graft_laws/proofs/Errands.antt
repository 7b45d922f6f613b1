-- Where a router's errand for a graft comes from: it was there before an event, or the event itself begins it.
use Rattle.std.proofs.Common.{◌≡◌, ◌≢◌, ◌⊎◌, inl, inr, ℕ, zero, suc, List, Option, Some, None, refl, sym, ap, ◌∙◌, subst}
use Rattle.std.proofs.lemmas.Bool.{cases_eq}
use Rattle.graft_steps.specs.Landings.{IsNextToAsk}
use Rattle.session_value.specs.Sessions.{SessionValue}
use Rattle.graft_model.specs.Parts.{Word, Errand, Leaving, Owing, Asking, Place, Vacant, Live, Frozen, Shadow, RouterPart, Answered}
use Rattle.graft_model.specs.Points.{at}
use Rattle.graft_model.specs.RouterRows.{RouterTaken, MeshIn, RouterSent}
use Rattle.graft_model.specs.Setups.{Setup, routers_in}
use Rattle.graft_model.specs.Steps.{router_row}
use Rattle.graft_model.specs.declared.event.RouterEvent.{RouterEvent}
use Rattle.graft_model.specs.declared.event.RouterEvent.TheVariants.{Put, Emit, Arrive, Stray, Got, Decide, Tell, Hear, Admit, Refuse, Freeze, Leave, Land}
use Rattle.graft_model.specs.declared.event.RouterEvent.TheVariants.{TurnBack, Return, Clear, Ask, Answer, Collect, Confirm, Tick}
use Rattle.graft_laws.proofs.Routers.{at_same, at_apart}

-- The answer of the router that was asked was taken.
pub record IsCounted (before : RouterPart) (taken : Option RouterTaken) (p : ℕ) (word : Word) : Type 0 where
  pub from : ℕ
  pub session : SessionValue
  pub takes : taken ≡ Some (MeshIn from (Answered word.graft p))
  pub was : before.places p ≡ Live session (Some (Asking (record word { next = from })))
  pub next : word.next ≡ suc from

-- A router was asked, which was the next one to be asked.
pub record IsAskedNow (setup : Setup) (r : ℕ) (before : RouterPart) (p : ℕ) (word : Word) : Type 0 where
  pub start : ℕ
  pub session : SessionValue
  pub was : before.places p ≡ Live session (Some (Owing (record word { next = start })))
  pub asked : IsNextToAsk word.source r (routers_in setup) start word.next

module _ (setup : Setup) (r : ℕ) (before after : RouterPart) (taken : Option RouterTaken) (sent : List RouterSent) where
  abbrev pub WasThere : ℕ → Errand → Type 0
  WasThere p errand = (session : SessionValue) × (before.places p ≡ Live session (Some errand))

  abbrev pub IsNew : ℕ → Errand → Type 0
  IsNew p (Leaving order) = Unit {0}
  IsNew p (Owing word) = (word.next ≡ 0) ⊎ IsCounted before taken p word
  IsNew p (Asking word) = IsAskedNow setup r before p word

  module _ (p : ℕ) (s : SessionValue) (errand : Errand) (now : after.places p ≡ Live s (Some errand)) where
    abbrev Comes : Type 0
    Comes = WasThere p errand ⊎ IsNew p errand

    -- one place changes
    changes : (q : ℕ) (place : Place) → after.places ≡ at before.places q place → (p ≡ q → place ≡ Live s (Some errand) → Comes) → Comes
    changes q place e comes = by_place (cases_eq p q) where
      by_place : (p ≡ q) ⊎ (p ≢ q) → Comes
      by_place (inl is) =
          comes is (sym (at_same before.places q place) ∙ ap (at before.places q place) (sym is) ∙ ap (λ (f : ℕ → Place). f p) (sym e) ∙ now)
      by_place (inr other) = inl (s, sym (at_apart before.places q p place other) ∙ ap (λ (f : ℕ → Place). f p) (sym e) ∙ now)

    stays : after.places ≡ before.places → Comes
    stays e = inl (s, ap (λ (f : ℕ → Place). f p) (sym e) ∙ now)

    -- the session changes, and its errand stays
    goes_on : (q : ℕ) (session next : SessionValue) (was : Option Errand)
        → before.places q ≡ Live session was → after.places ≡ at before.places q (Live next was) → Comes
    goes_on q session next was live e =
        changes q (Live next was) e (λ is same. inl (session, ap before.places is ∙ live ∙ ap (Live session) (let f : was ≡ Some errand = cc in f)))

    ends : (q : ℕ) (place : Place) → place ≢ Live s (Some errand) → after.places ≡ at before.places q place → Comes
    ends q place none e = changes q place e (λ is same. absurd (none same))

    -- the errand is a new one
    begins : (q : ℕ) (session : SessionValue) (new : Errand) → after.places ≡ at before.places q (Live session (Some new)) → IsNew q new → Comes
    begins q session new e is_new =
        changes q (Live session (Some new)) e
        (λ is same. inr (subst (IsNew p) (let f : new ≡ errand = cc in f) (subst (λ (n : ℕ). IsNew n new) (sym is) is_new)))

    pub errand_from : (event : RouterEvent) → router_row setup r event before taken sent after → Comes
    errand_from (Put q zero) row = stays (ap (λ (u : RouterPart). u.places) row.effect)
    errand_from (Put q (suc n)) row = goes_on q row.session row.next row.errand row.live.is (ap (λ (u : RouterPart). u.places) row.effect)
    errand_from (Emit q from len) row = goes_on q row.session _ row.errand row.live.is (ap (λ (u : RouterPart). u.places) row.effect)
    errand_from (Arrive q) row = goes_on q row.session _ row.errand row.live.is (ap (λ (u : RouterPart). u.places) row.effect)
    errand_from (Stray q) row = stays (ap (λ (u : RouterPart). u.places) row.stays)
    errand_from (Got q) row = goes_on q row.session row.next row.errand row.live.is (ap (λ (u : RouterPart). u.places) row.follows.effect)
    errand_from (Decide prefix) row = stays (ap (λ (u : RouterPart). u.places) row.effect)
    errand_from (Tell q prefix) row = stays (ap (λ (u : RouterPart). u.places) row.effect)
    errand_from (Hear q) row = stays (ap (λ (u : RouterPart). u.places) row.effect)
    errand_from (Admit k) row = begins row.peering row.session _ (ap (λ (u : RouterPart). u.places) row.effect) tt
    errand_from (Refuse k) row = ends row.peering (Live row.session None) (λ is. cc) (ap (λ (u : RouterPart). u.places) row.effect)
    errand_from (Freeze k) row = ends row.peering (Frozen row.session _) (λ is. cc) (ap (λ (u : RouterPart). u.places) row.effect)
    errand_from (Leave k) row = ends row.peering (Shadow k) (λ is. cc) (ap (λ (u : RouterPart). u.places) row.effect)
    errand_from (Land q) row = begins row.comes.peering row.comes.session _ (ap (λ (u : RouterPart). u.places) row.effect) (inl refl)
    errand_from (TurnBack q) row = stays (ap (λ (u : RouterPart). u.places) row.stays)
    errand_from (Return q) row = ends row.peering (Live row.session None) (λ is. cc) (ap (λ (u : RouterPart). u.places) row.effect)
    errand_from (Clear q) row = ends row.peering Vacant (λ is. cc) (ap (λ (u : RouterPart). u.places) row.effect)
    errand_from (Ask k q) row = begins row.peering row.session _ (ap (λ (u : RouterPart). u.places) row.effect)
        (record { start = row.next; session = row.session; was = row.live.is; asked = row.asked })
    errand_from (Answer q) row = stays (ap (λ (u : RouterPart). u.places) row.stays)
    errand_from (Collect q) (inl row) = begins row.peering row.session _ (ap (λ (u : RouterPart). u.places) row.effect)
        (inr (record { from = q; session = row.session; takes = row.takes; was = row.live.is; next = refl }))
    errand_from (Collect q) (inr row) = stays (ap (λ (u : RouterPart). u.places) row.stays)
    errand_from (Confirm k) row = ends row.peering (Live row.session None) (λ is. cc) (ap (λ (u : RouterPart). u.places) row.effect)
    errand_from (Tick q round) row = goes_on q row.session row.next row.errand row.live.is (ap (λ (u : RouterPart). u.places) row.follows.effect)
