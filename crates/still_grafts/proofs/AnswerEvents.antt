-- What an event of a router does about answers that are waited for: a wait begins with a question, a question that is taken is answered, and an answer
-- that is taken ends the wait.
use Rattle.std.proofs.Common.{◌≡◌, ◌≢◌, ◌⊎◌, inl, inr, ℕ, zero, suc, List, [], ◌∷◌, Option, Some, None, sym, ap, ◌∙◌, subst}
use Rattle.std.proofs.lemmas.Bool.{cases_eq}
use Rattle.tcp_seq.specs.Endpoint.{PlacedSegment}
use Rattle.session_value.specs.Sessions.{SessionValue}
use Rattle.graft_model.specs.Parts.{Word, Errand, Owing, Asking, Place, Vacant, Live, Frozen, Shadow}
use Rattle.graft_model.specs.Parts.{RouterPart, Mesh, Told, Moved, Back, Asked, Answered, Done, GraftOrder}
use Rattle.graft_model.specs.Points.{at}
use Rattle.graft_model.specs.RouterRows.{RouterTaken, OrderIn, SegmentIn, MeshIn, RouterSent, MeshTo}
use Rattle.graft_model.specs.Setups.{Setup}
use Rattle.graft_model.specs.Steps.{router_row}
use Rattle.graft_model.specs.declared.event.RouterEvent.{RouterEvent}
use Rattle.graft_model.specs.declared.event.RouterEvent.TheVariants.{Put, Emit, Arrive, Stray, Got, Decide, Tell, Hear, Admit, Refuse, Freeze, Leave, Land}
use Rattle.graft_model.specs.declared.event.RouterEvent.TheVariants.{TurnBack, Return, Clear, Ask, Answer, Collect, Confirm, Tick}
use Rattle.graft_model.proofs.Footprints.{at_same, at_apart}

module _ (setup : Setup) (r : ℕ) (before after : RouterPart) (taken : Option RouterTaken) (sent : List RouterSent) where
  -- ---- where a wait comes from

  module _ (p : ℕ) (s : SessionValue) (word : Word) (now : after.places p ≡ Live s (Some (Asking word))) where
    -- It was there before, or the question is sent.
    abbrev pub Begins : Type 0
    Begins = ((session : SessionValue) × (before.places p ≡ Live session (Some (Asking word))))
        ⊎ ((taken ≡ None) × (sent ≡ MeshTo word.next (Asked word.graft p) ∷ []))

    -- one place changes
    changes : (q : ℕ) (place : Place) → after.places ≡ at before.places q place → (q ≡ p → place ≡ Live s (Some (Asking word)) → Begins) → Begins
    changes q place e comes = by_place (cases_eq p q) where
      by_place : (p ≡ q) ⊎ (p ≢ q) → Begins
      by_place (inl is) =
          comes (sym is) (sym (at_same before.places q place) ∙ ap (at before.places q place) (sym is) ∙ ap (λ (f : ℕ → Place). f p) (sym e) ∙ now)
      by_place (inr other) = inl (s, sym (at_apart before.places q p place other) ∙ ap (λ (f : ℕ → Place). f p) (sym e) ∙ now)

    stays : after.places ≡ before.places → Begins
    stays e = inl (s, ap (λ (f : ℕ → Place). f p) (sym e) ∙ now)

    -- the session changes, and what is to be done with it stays
    goes_on : (q : ℕ) (session next : SessionValue) (was : Option Errand)
        → before.places q ≡ Live session was → after.places ≡ at before.places q (Live next was) → Begins
    goes_on q session next was live e = changes q (Live next was) e
        (λ is same. inl (session, ap before.places (sym is) ∙ live ∙ ap (Live session) (let f : was ≡ Some (Asking word) = cc in f)))

    ends : (q : ℕ) (place : Place) → place ≢ Live s (Some (Asking word)) → after.places ≡ at before.places q place → Begins
    ends q place none e = changes q place e (λ is same. absurd (none same))

    asks : (q : ℕ) (session : SessionValue) (new : Word) → after.places ≡ at before.places q (Live session (Some (Asking new))) → taken ≡ None
        → sent ≡ MeshTo new.next (Asked new.graft q) ∷ [] → Begins
    asks q session new e takes sends = changes q (Live session (Some (Asking new))) e (λ is same.
        let one : new ≡ word = cc in
        inr (takes, sends ∙ ap (λ (n : ℕ). MeshTo new.next (Asked new.graft n) ∷ []) is ∙ ap (λ (x : Word). MeshTo x.next (Asked x.graft p) ∷ []) one))

    pub asking_from : (event : RouterEvent) → router_row setup r event before taken sent after → Begins
    asking_from (Put q zero) row = stays (ap (λ (u : RouterPart). u.places) row.effect)
    asking_from (Put q (suc n)) row = goes_on q row.session row.next row.errand row.live.is (ap (λ (u : RouterPart). u.places) row.effect)
    asking_from (Emit q from len) row = goes_on q row.session _ row.errand row.live.is (ap (λ (u : RouterPart). u.places) row.effect)
    asking_from (Arrive q) row = goes_on q row.session _ row.errand row.live.is (ap (λ (u : RouterPart). u.places) row.effect)
    asking_from (Stray q) row = stays (ap (λ (u : RouterPart). u.places) row.stays)
    asking_from (Got q) row = goes_on q row.session row.next row.errand row.live.is (ap (λ (u : RouterPart). u.places) row.follows.effect)
    asking_from (Decide prefix) row = stays (ap (λ (u : RouterPart). u.places) row.effect)
    asking_from (Tell q prefix) row = stays (ap (λ (u : RouterPart). u.places) row.effect)
    asking_from (Hear q) row = stays (ap (λ (u : RouterPart). u.places) row.effect)
    asking_from (Admit k) row = ends row.peering _ (λ is. cc) (ap (λ (u : RouterPart). u.places) row.effect)
    asking_from (Refuse k) row = ends row.peering (Live row.session None) (λ is. cc) (ap (λ (u : RouterPart). u.places) row.effect)
    asking_from (Freeze k) row = ends row.peering (Frozen row.session _) (λ is. cc) (ap (λ (u : RouterPart). u.places) row.effect)
    asking_from (Leave k) row = ends row.peering (Shadow k) (λ is. cc) (ap (λ (u : RouterPart). u.places) row.effect)
    asking_from (Land q) row = ends row.comes.peering _ (λ is. cc) (ap (λ (u : RouterPart). u.places) row.effect)
    asking_from (TurnBack q) row = stays (ap (λ (u : RouterPart). u.places) row.stays)
    asking_from (Return q) row = ends row.peering (Live row.session None) (λ is. cc) (ap (λ (u : RouterPart). u.places) row.effect)
    asking_from (Clear q) row = ends row.peering Vacant (λ is. cc) (ap (λ (u : RouterPart). u.places) row.effect)
    asking_from (Ask k q) row =
        asks row.peering row.session (record { graft = k; source = row.source; next = q }) (ap (λ (u : RouterPart). u.places) row.effect) row.takes row.sends
    asking_from (Answer q) row = stays (ap (λ (u : RouterPart). u.places) row.stays)
    asking_from (Collect q) (inl row) = ends row.peering _ (λ is. cc) (ap (λ (u : RouterPart). u.places) row.effect)
    asking_from (Collect q) (inr row) = stays (ap (λ (u : RouterPart). u.places) row.stays)
    asking_from (Confirm k) row = ends row.peering (Live row.session None) (λ is. cc) (ap (λ (u : RouterPart). u.places) row.effect)
    asking_from (Tick q round) row = goes_on q row.session row.next row.errand row.live.is (ap (λ (u : RouterPart). u.places) row.follows.effect)

  -- ---- what becomes of questions and answers

  -- What was done about an item of another router: a question is answered, and nothing waits for an answer that came.
  abbrev pub IsDone : ℕ → Mesh → Type 0
  IsDone q (Asked k p) = sent ≡ MeshTo q (Answered k p) ∷ []
  IsDone q (Answered k p) = (source : ℕ) (s : SessionValue) → after.places p ≡ Live s (Some (Asking (record { graft = k; source = source; next = q }))) → ⊥
  IsDone q other = Unit {0}

  module _ (q : ℕ) (item : Mesh) (takes : taken ≡ Some (MeshIn q item)) where
    none : taken ≡ None → IsDone q item
    none e = let f : None ≡ Some (MeshIn q item) = sym e ∙ takes in absurd cc

    order : (o : GraftOrder) → taken ≡ Some (OrderIn o) → IsDone q item
    order o e = let f : Some (OrderIn o) ≡ Some (MeshIn q item) = sym e ∙ takes in absurd cc

    segment : (p : ℕ) (x : PlacedSegment) → taken ≡ Some (SegmentIn p x) → IsDone q item
    segment p x e = let f : Some (SegmentIn p x) ≡ Some (MeshIn q item) = sym e ∙ takes in absurd cc

    this : (from : ℕ) (it : Mesh) → taken ≡ Some (MeshIn from it) → IsDone from it → IsDone q item
    this from it e is =
        let f : Some (MeshIn from it) ≡ Some (MeshIn q item) = sym e ∙ takes in
        let same : from ≡ q = cc in
        let one : it ≡ item = cc in
        subst (IsDone q) one (subst (λ (n : ℕ). IsDone n it) same is)

    pub is_done : (event : RouterEvent) → router_row setup r event before taken sent after → IsDone q item
    is_done (Put p zero) row = none row.alone.0
    is_done (Put p (suc n)) row = none row.alone.0
    is_done (Emit p from len) row = none row.takes
    is_done (Arrive p) row = segment p row.segment row.takes
    is_done (Stray p) row = segment p row.segment row.takes
    is_done (Got p) row = none row.alone.0
    is_done (Decide prefix) row = none row.alone.0
    is_done (Tell x prefix) row = none row.takes
    is_done (Hear x) row = this x (Told row.prefix row.route) row.takes tt
    is_done (Admit k) row = order _ row.takes
    is_done (Refuse k) row = none row.takes
    is_done (Freeze k) row = none row.alone.0
    is_done (Leave k) row = none row.takes
    is_done (Land x) row = this x (Moved row.comes.graft row.comes.peering row.comes.session) row.comes.takes tt
    is_done (TurnBack x) row = this x (Moved row.comes.graft row.comes.peering row.comes.session) row.comes.takes tt
    is_done (Return x) row = this x (Back row.graft row.peering row.session row.refusal) row.takes tt
    is_done (Clear x) row = this x (Done row.graft row.peering) row.takes tt
    is_done (Ask k x) row = none row.takes
    is_done (Answer x) row = this x (Asked row.graft row.peering) row.takes row.sends
    is_done (Collect x) (inl row) = this x (Answered row.graft row.peering) row.takes (λ source s now.
        let word : Errand = Owing (record { graft = row.graft; source = row.source; next = suc x }) in
        let e : Live row.session (Some word) ≡ Live s (Some (Asking (record { graft = row.graft; source = source; next = x }))) =
        sym (at_same before.places row.peering (Live row.session (Some word))) ∙ ap (λ (u : RouterPart). u.places row.peering) (sym row.effect) ∙ now in
        cc)
    is_done (Collect x) (inr row) = this x (Answered row.graft row.peering) row.takes (λ source s now.
        row.unawaited source s (record { is = ap (λ (u : RouterPart). u.places row.peering) (sym row.stays) ∙ now }))
    is_done (Confirm k) row = none row.takes
    is_done (Tick p round) row = none row.alone.0
