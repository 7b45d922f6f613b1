-- A frozen session is the same until it lands or comes back.
use Rattle.std.proofs.Common.{◌≡◌, ℕ, ◌<◌, List, [], ◌∷◌, ◌++◌, Option, Some, None, refl, sym, ap, ◌∙◌, subst, arith, inl, inr}
use Rattle.std.proofs.lemmas.Bool.Decides.{nat_tests}
use Rattle.std.proofs.lemmas.List.{append-nil}
use Rattle.std.specs.Prelude.{◌≢◌, ◌⊎◌}
use Rattle.std.specs.List.{flat_map}
use Rattle.graft_steps.specs.declared.refusal.Refusal.{Refusal}
use Rattle.graft_steps.specs.declared.refusal.Outcome.TheVariants.{Refused}
use Rattle.session_value.specs.Sessions.{SessionValue}
use Rattle.graft_model.specs.Points.{at}
use Rattle.graft_model.specs.Setups.{Setup, IsSetup, peerings_in, router_numbers}
use Rattle.graft_model.specs.Parts.{Order, Errand, Leaving, Owing, Place, Live, Frozen, RouterPart, Mesh, Moved, Back, World}
use Rattle.graft_model.specs.RouterRows.{RouterTaken, MeshIn, RouterSent, ReportOut}
use Rattle.graft_model.specs.GraftRows.{Refuses, Freezes, Lands, Returns}
use Rattle.graft_model.specs.Claims.{sessions_at, sessions_on, sessions_of, FrozenBefore, Unchanged}
use Rattle.graft_model.specs.First.{first_world}
use Rattle.graft_model.specs.Laws.{HasGraft, HasOnce}
use Rattle.graft_model.specs.declared.event.RouterEvent.{RouterEvent}
use Rattle.graft_model.specs.declared.event.RouterEvent.TheVariants.{Refuse, Freeze, Land, Return}
use Rattle.graft_model.specs.Steps.{Event, ByRouter, Step, Heads}
use Rattle.graft_laws.specs.Phases.{Stage, Ordered, Stored, Halted, Moving, Returning, Declined, Cleared, Phase, Idle, Busy, place_by}
use Rattle.graft_laws.specs.Owned.{is_on, mesh_items_on, Stands, Owned}
use Rattle.graft_laws.specs.Moves.{RouterHeads, RouterMoves}
use Rattle.graft_laws.specs.Life.{Acts, Change, Begins, Admits, Refuses as SourceRefuses, Freezes as SourceFreezes}
use Rattle.graft_laws.specs.Life.{Lands as TargetLands, Returns as SourceReturns, NotesRefusal, NotesSuccess, GraftMove, Grafts}
use Rattle.graft_laws.specs.Keeps.{Reached}
use Rattle.graft_laws.specs.Unchanged.{IsFound, IsAwayIn, IsAway}
use Rattle.graft_laws.proofs.Phases.{halted_at, moved_in, back_in}
use Rattle.graft_laws.proofs.Logs.{own_known}
use Rattle.graft_laws.proofs.Moves.{router_moves}
use Rattle.graft_laws.proofs.Following.{at_here, at_other, own_head, moves_as}
use Rattle.graft_laws.proofs.Deeds.{known_place, equal_or_not}
use Rattle.graft_laws.proofs.Grafts.{equal}
use Rattle.graft_laws.proofs.Growth.{LogGrows, log_grows, idle_ended}
use Rattle.graft_laws.proofs.Heads.{one_phase, same_session}
use Rattle.graft_laws.proofs.Holders.{flat_same}
use Rattle.graft_laws.proofs.OneGraft.{at_one_place}
use Rattle.graft_laws.proofs.Runs.{followed, reached_more, reached_run, carried_from, always_owned}

-- ---- one change

-- Where a session is live, it isn't away.
live_not_away : (stage : Stage) (q k t x : ℕ) (found s next : SessionValue) (o : Option Errand) → place_by (Busy q k t stage) s x ≡ Live s o
    → IsFound stage found s → IsFound stage found next
live_not_away Ordered q k t x found s next o there is = is
live_not_away Stored q k t x found s next o there is = is
live_not_away Halted q k t x found s next o there is = absurd (grind (arith, nat_tests))
live_not_away Moving q k t x found s next o there is = absurd (grind (arith, nat_tests))
live_not_away (Returning refusal) q k t x found s next o there is = absurd (grind (arith, nat_tests))
live_not_away _ q k t x found s next o there is = tt

changed_away : (phase : Phase) (r k t x : ℕ) (found s next : SessionValue) (o : Option Errand) → place_by phase s x ≡ Live s o
    → IsAwayIn phase r k t found s → IsAwayIn phase r k t found next
changed_away (Idle q) r k t x found s next o there away = away
changed_away (Busy q j u stage) r k t x found s next o there away = (away.0, away.1, away.2, live_not_away stage q j u x found s next o there away.3)

module _ (setup : Setup) (w v : World) (p : ℕ) (grows : LogGrows w.operator v.operator) (r k t : ℕ) (found : SessionValue) where
  -- the outcome of the graft that was under way is noted
  noted : (q j u n : ℕ) (stage : Stage) (s z : SessionValue) → Stands setup w p (Busy q j u stage) s → Stands setup v p (Idle n) z → j ≡ k
      → v.operator.outcome k ≢ None
  noted q j u n stage s z b then is =
      subst (λ (x : ℕ). v.operator.outcome x ≢ None) is
      (idle_ended setup v.operator p n j then.log (own_known setup p j b.log.goes_on.known)
      (grows.source j (λ none. (let e : Some q ≡ None = sym b.log.goes_on.ordered ∙ none in absurd cc))))

  away_on : (phase next : Phase) (s : SessionValue) → GraftMove setup w phase s next → Stands setup w p phase s → Stands setup v p next s
      → IsAwayIn phase r k t found s → IsAway v next r k t found s
  away_on _ _ _ Begins b then away = absurd away
  away_on _ _ _ Admits b then away = absurd away.3
  away_on _ _ _ (SourceRefuses cause) b then away = absurd away.3
  away_on _ _ _ (SourceFreezes cause) b then away = absurd away.3
  away_on _ _ _ SourceReturns b then away = inr (away.0, away.1, away.2, tt)
  away_on _ _ s (NotesRefusal {q = q} {k = j} {t = u} {refusal = refusal}) b then away = inl (noted q j u q (Declined refusal) s s b then away.1)
  away_on _ _ s (NotesSuccess {q = q} {k = j} {t = u}) b then away = inl (noted q j u u Cleared s s b then away.1)
  away_on _ _ _ _ b then away = inr away

  away_in : (phase next : Phase) (s z : SessionValue) → Stands setup w p phase s → Stands setup v p next z → Change setup w v p phase s next z
      → IsAwayIn phase r k t found s → IsAway v next r k t found z
  away_in phase next s _ b then (Grafts move line entries) away = away_on phase next s move b then away
  away_in _ _ _ _ b then (TargetLands admitted line entries) away = inr (away.0, away.1, away.2, tt)
  away_in phase _ s next b then (Acts x errand live act) away = inr (changed_away phase r k t x found s next errand live away)
  away_in _ _ _ _ b then _ away = inr away

  away_then : (phase next : Phase) (s z : SessionValue) → Stands setup w p phase s → Stands setup v p next z → Change setup w v p phase s next z
      → IsAway w phase r k t found s → IsAway v next r k t found z
  away_then phase next s z b then change (inl ended) = inl (grows.outcome k ended)
  away_then phase next s z b then change (inr away) = away_in phase next s z b then change away

-- ---- runs after the freeze

module _ (setup : Setup) (ok : IsSetup setup) (p r k t : ℕ) (l : p < peerings_in setup) (found : SessionValue) where
  abbrev IsAwayNow : World → Type 0
  IsAwayNow w = (phase : Phase) (s : SessionValue) → Stands setup w p phase s → IsAway w phase r k t found s

  away_step : (event : Event) (w v : World) → Reached setup w → Step setup event w v → IsAwayNow w → IsAwayNow v
  away_step event w v reached step away phase s b =
      let owned : Owned setup w = always_owned setup ok w reached in
      let held = owned.peerings p l in
      let f = followed setup w v event p held.phase held.session ok owned step l held.stands in
      let a : IsAway v f.next r k t found f.session = away_then setup w v p (log_grows setup event w v step) r k t found
      held.phase f.next held.session f.session held.stands f.stands f.change (away held.phase held.session held.stands) in
      subst (λ (x : Phase). IsAway v x r k t found s) (one_phase setup v p f.next phase f.session s f.stands b)
      (subst (λ (x : SessionValue). IsAway v f.next r k t found x) (same_session setup v p f.next phase f.session s f.stands b) a)

  -- the freeze itself
  away_first : (w v : World) → Reached setup w → (w.router r).places p ≡ Live found (Some (Leaving (record { graft = k; target = t })))
      → Step setup (ByRouter r (Freeze k)) w v → IsAwayNow v
  away_first w v reached was step phase s b =
      let owned : Owned setup w = always_owned setup ok w reached in
      let row : Freezes r k (w.router r) step.taken step.sent step.part = step.row in
      let once : HasOnce k (w.router r) = at_one_place setup w r k owned in
      let here : row.peering ≡ p =
      once row.peering p (has_graft (w.router r) row.peering row.session row.target row.live.is) (has_graft (w.router r) p found t was) in
      let same : Live row.session (Some (Leaving (record { graft = k; target = row.target })))
      ≡ Live found (Some (Leaving (record { graft = k; target = t }))) = sym row.live.is ∙ (ap (λ (x : ℕ). (w.router r).places x) here ∙ was) in
      let m : RouterMoves r step.taken step.sent step.part w v = router_moves setup r (Freeze k) w v step in
      let frozen : (v.router r).places p ≡ Frozen found (record { graft = k; target = t }) =
      ap (λ (f : ℕ → RouterPart). (f r).places p) m.router ∙ (ap (λ (x : RouterPart). x.places p) (at_here w.router r step.part)
      ∙ (ap (λ (x : RouterPart). x.places p) row.effect
      ∙ (ap (λ (x : ℕ). at (w.router r).places x (Frozen row.session (record { graft = k; target = row.target })) p) here
      ∙ (at_here (w.router r).places p (Frozen row.session (record { graft = k; target = row.target })) ∙ frozen_same row.session found row.target same)))) in
      is_away phase s b (sym frozen ∙ b.places r)
    where
      has_graft : (part : RouterPart) (x : ℕ) (y : SessionValue) (u : ℕ) → part.places x ≡ Live y (Some (Leaving (record { graft = k; target = u })))
          → HasGraft k (part.places x)
      has_graft part x y u e = subst (HasGraft k) (sym e) refl

      frozen_same : (y z : SessionValue) (u : ℕ)
          → Live y (Some (Leaving (record { graft = k; target = u }))) ≡ Live z (Some (Leaving (record { graft = k; target = t })))
          → Frozen y (record { graft = k; target = u }) ≡ Frozen z (record { graft = k; target = t })
      frozen_same y z u e =
          let a : y ≡ z = cc in
          let o : Some (Leaving (record { graft = k; target = u })) ≡ Some (Leaving (record { graft = k; target = t })) = cc in
          let c : (let x : Order = record { graft = k; target = u } in x) ≡ record { graft = k; target = t } = cc in
          ap (λ (x : SessionValue). Frozen x (record { graft = k; target = u })) a ∙ ap (λ (x : Order). Frozen z x) c

      is_away : (phase : Phase) (s : SessionValue) → Stands setup v p phase s → Frozen found (record { graft = k; target = t }) ≡ place_by phase s r
          → IsAway v phase r k t found s
      is_away phase s b e =
          let h = halted_at phase s found r k t e in
          subst (λ (x : Phase). IsAway v x r k t found s) (sym h.0) (inr (refl, refl, refl, sym h.1))

-- ---- the item that comes

module _ (setup : Setup) (ok : IsSetup setup) (events : List Event) (r k p target s q : ℕ)
    (found session : SessionValue) (event : RouterEvent) (item : Mesh) (after : World)
    (f : FrozenBefore setup (first_world setup) events r k p target found s q event item after) where
  reached₁ : Reached setup f.w₁
  reached₁ = record { events = f.begun; run = f.before }

  reached₃ : Reached setup f.w₃
  reached₃ = reached_run setup f.away f.w₂ f.w₃ (reached_more setup (ByRouter r (Freeze k)) f.w₁ f.w₂ reached₁ f.freezes) f.meanwhile

  known : p < peerings_in setup
  known = known_place setup f.w₁ (always_owned setup ok f.w₁ reached₁) r p _ f.was (λ e. absurd cc)

  pub found_away : (phase : Phase) (z : SessionValue) → Stands setup f.w₃ p phase z → IsAway f.w₃ phase r k target found z
  found_away = carried_from setup (IsAwayNow setup ok p r k target known found) (away_step setup ok p r k target known found) f.away f.w₂ f.w₃
      (reached_more setup (ByRouter r (Freeze k)) f.w₁ f.w₂ reached₁ f.freezes) f.meanwhile
      (away_first setup ok p r k target known found f.w₁ f.w₂ reached₁ f.was f.freezes)

  -- a graft that is under way has no outcome
  under_way : (phase : Phase) (a u : ℕ) (stage : Stage) (z : SessionValue) → phase ≡ Busy a k u stage → Stands setup f.w₃ p phase z
      → IsAwayIn (Busy a k u stage) r k target found z
  under_way phase a u stage z e b = by_case (subst (λ (x : Phase). IsAway f.w₃ x r k target found z) e (found_away phase z b)) where
    by_case : IsAway f.w₃ (Busy a k u stage) r k target found z → IsAwayIn (Busy a k u stage) r k target found z
    by_case (inr away) = away
    by_case (inl ended) = absurd (ended (subst (λ (x : Phase). Stands setup f.w₃ p x z) e b).log.goes_on.unended)

heads_same : (x y : Mesh) (xs ys : List Mesh) → x ∷ xs ≡ y ∷ ys → x ≡ y
heads_same x y xs ys e = cc

-- the item that an event of the router s takes from q is the one that comes
taken_is : (setup : Setup) (w v : World) (s q : ℕ) (taken : Option RouterTaken)
    (sent : List RouterSent) (part : RouterPart) (item other : Mesh) (items : List Mesh)
    → RouterMoves s taken sent part w v → taken ≡ Some (MeshIn q other)
    → w.mesh q s ≡ item ∷ items → other ≡ item
taken_is setup w v s q taken sent part item other items m takes comes =
    let head : Heads (w.mesh q s) other = subst (λ (x : Option RouterTaken). RouterHeads w s x) takes m.heads in
    heads_same other item head.rest items (sym head.is ∙ comes)

-- where the router's place is then
place_after : (setup : Setup) (w v : World) (s p n : ℕ) (taken : Option RouterTaken)
    (sent : List RouterSent) (part : RouterPart) (z found : SessionValue) (o : Option Errand)
    → RouterMoves s taken sent part w v
    → part.places ≡ at (w.router s).places n (Live z o) → n ≡ p → z ≡ found → (v.router s).places p ≡ Live found o
place_after setup w v s p n taken sent part z found o m places is same =
    ap (λ (f : ℕ → RouterPart). (f s).places p) m.router ∙ (ap (λ (x : RouterPart). x.places p) (at_here w.router s part) ∙ (ap (λ (g : ℕ → Place). g p) places
    ∙ (ap (λ (x : ℕ). at (w.router s).places x (Live z o) p) is ∙ (at_here (w.router s).places p (Live z o) ∙ ap (λ (x : SessionValue). Live x o) same))))

back_parts : (j k n p : ℕ) (y z : SessionValue) (f g : Refusal) → Back j n y f ≡ Back k p z g → (n ≡ p) × (y ≡ z)
back_parts j k n p y z f g e = (cc, cc)

moved_parts : (j k n p : ℕ) (y z : SessionValue) → Moved j n y ≡ Moved k p z → (n ≡ p) × (y ≡ z) × (j ≡ k)
moved_parts j k n p y z e = (cc, cc, cc)

module _ (setup : Setup) (ok : IsSetup setup) (events : List Event) (r k p target s q : ℕ) (found session : SessionValue) where
  returned : (refusal : Refusal) (after : World)
      → FrozenBefore setup (first_world setup) events r k p target found s q (Return q) (Back k p session refusal) after
      → (s ≡ r) × ((after.router s).places p ≡ Live found None)
  returned refusal after f =
      let item : Mesh = Back k p session refusal in
      let held = (always_owned setup ok f.w₃ (reached₃ setup ok events r k p target s q found session (Return q) item after f)).peerings p
      (known setup ok events r k p target s q found session (Return q) item after f) in
      let e = back_in held.phase p held.session session refusal q s k (mesh_items_on p f.items)
      (own_head (is_on p) (f.w₃.mesh q s) f.items item f.comes (equal p) ∙ held.stands.mesh q s) in
      let away = under_way setup ok events r k p target s q found session
      (Return q) item after f held.phase s q (Returning refusal) held.session e.0 held.stands in
      let row : Returns q (f.w₃.router s) f.step.taken f.step.sent f.step.part = f.step.row in
      let m : RouterMoves s f.step.taken f.step.sent f.step.part f.w₃ after = router_moves setup s (Return q) f.w₃ after f.step in
      let parts = back_parts row.graft k row.peering p row.session session row.refusal refusal (taken_is setup f.w₃ after s q
      f.step.taken f.step.sent f.step.part item (Back row.graft row.peering row.session row.refusal) f.items m row.takes f.comes) in (
        away.0,
        place_after setup f.w₃ after s p row.peering f.step.taken f.step.sent f.step.part row.session found None m
            (ap (λ (x : RouterPart). x.places) row.effect) parts.0 (parts.1 ∙ (e.1 ∙ away.3)),
      )

  landed : (after : World) → FrozenBefore setup (first_world setup) events r k p target found s q (Land q) (Moved k p session) after
      → (s ≡ target) × ((after.router s).places p ≡ Live found (Some (Owing (record { graft = k; source = r; next = 0 }))))
  landed after f =
      let item : Mesh = Moved k p session in
      let held = (always_owned setup ok f.w₃ (reached₃ setup ok events r k p target s q found session (Land q) item after f)).peerings p
      (known setup ok events r k p target s q found session (Land q) item after f) in
      let e = moved_in held.phase p held.session session q s k (mesh_items_on p f.items)
      (own_head (is_on p) (f.w₃.mesh q s) f.items item f.comes (equal p) ∙ held.stands.mesh q s) in
      let away = under_way setup ok events r k p target s q found session (Land q) item after f held.phase q s Moving held.session e.0 held.stands in
      let row : Lands setup s q (f.w₃.router s) f.step.taken f.step.sent f.step.part = f.step.row in
      let m : RouterMoves s f.step.taken f.step.sent f.step.part f.w₃ after = router_moves setup s (Land q) f.w₃ after f.step in
      let parts = moved_parts row.comes.graft k row.comes.peering p row.comes.session session (taken_is setup f.w₃ after s q f.step.taken
      f.step.sent f.step.part item (Moved row.comes.graft row.comes.peering row.comes.session) f.items m row.comes.takes f.comes) in (
        away.2,
        place_after setup f.w₃ after s p row.comes.peering f.step.taken f.step.sent f.step.part row.comes.session found _ m
            (ap (λ (x : RouterPart). x.places) row.effect) parts.0 (parts.1 ∙ (e.1 ∙ away.3))
            ∙ (ap (λ (x : ℕ). Live found (Some (Owing (record { graft = x; source = q; next = 0 })))) parts.2
            ∙ ap (λ (x : ℕ). Live found (Some (Owing (record { graft = k; source = x; next = 0 })))) away.0),
      )

-- ---- a graft that the source refuses

module _ (setup : Setup) (w v : World) (r k p : ℕ) (step : Step setup (ByRouter r (Refuse k)) w v) where
  row : Refuses r k (w.router r) step.taken step.sent step.part
  row = step.row

  moves : RouterMoves r step.taken step.sent step.part w v
  moves = router_moves setup r (Refuse k) w v step

  refused_part : sessions_at (step.part.places p) ≡ sessions_at ((w.router r).places p)
  refused_part = ap (λ (x : RouterPart). sessions_at (x.places p)) row.effect ∙ by_place (equal_or_not p row.peering) where
    by_place : (p ≡ row.peering) ⊎ (p ≢ row.peering)
        → sessions_at (at (w.router r).places row.peering (Live row.session None) p) ≡ sessions_at ((w.router r).places p)
    by_place (inl is) =
        subst (λ (x : ℕ). sessions_at (at (w.router r).places row.peering (Live row.session None) x) ≡ sessions_at ((w.router r).places x)) (sym is)
        (ap sessions_at (at_here (w.router r).places row.peering (Live row.session None)) ∙ sym (ap sessions_at row.live.is))
    by_place (inr ne) = ap sessions_at (at_other (w.router r).places row.peering p (Live row.session None) ne)

  refused_places : (x : ℕ) → sessions_at ((v.router x).places p) ≡ sessions_at ((w.router x).places p)
  refused_places x = ap (λ (f : ℕ → RouterPart). sessions_at ((f x).places p)) moves.router ∙ by_router (equal_or_not x r) where
    by_router : (x ≡ r) ⊎ (x ≢ r) → sessions_at ((at w.router r step.part x).places p) ≡ sessions_at ((w.router x).places p)
    by_router (inl is) = subst (λ (y : ℕ). sessions_at ((at w.router r step.part y).places p) ≡ sessions_at ((w.router y).places p))
        (sym is) (ap (λ (y : RouterPart). sessions_at (y.places p)) (at_here w.router r step.part) ∙ refused_part)
    by_router (inr ne) = ap (λ (y : RouterPart). sessions_at (y.places p)) (at_other w.router r x step.part ne)

  same_mesh : (a b : ℕ) → v.mesh a b ≡ w.mesh a b
  same_mesh a b =
      let m : RouterMoves r None (ReportOut (record { graft = k; outcome = Refused row.refusal }) ∷ []) step.part w v =
      moves_as w v r step.taken None step.sent (ReportOut (record { graft = k; outcome = Refused row.refusal }) ∷ []) step.part row.takes row.sends moves in
      m.mesh a b ∙ append-nil (w.mesh a b)

  pub refused_sessions : sessions_of setup v p ≡ sessions_of setup w p
  refused_sessions =
      let held : flat_map (λ x. sessions_at ((v.router x).places p)) (router_numbers setup)
      ≡ flat_map (λ x. sessions_at ((w.router x).places p)) (router_numbers setup) =
      flat_same (λ x. sessions_at ((v.router x).places p)) (λ x. sessions_at ((w.router x).places p)) (router_numbers setup) refused_places in
      let on_way : flat_map (λ a. flat_map (λ b. flat_map (sessions_on p) (v.mesh a b)) (router_numbers setup)) (router_numbers setup)
      ≡ flat_map (λ a. flat_map (λ b. flat_map (sessions_on p) (w.mesh a b)) (router_numbers setup)) (router_numbers setup) =
      flat_same (λ a. flat_map (λ b. flat_map (sessions_on p) (v.mesh a b)) (router_numbers setup))
      (λ a. flat_map (λ b. flat_map (sessions_on p) (w.mesh a b)) (router_numbers setup)) (router_numbers setup)
      (λ a. flat_same (λ b. flat_map (sessions_on p) (v.mesh a b)) (λ b. flat_map (sessions_on p) (w.mesh a b))
      (router_numbers setup) (λ b. ap (flat_map (sessions_on p)) (same_mesh a b))) in
      ap (λ (x : List SessionValue).
      x ++ flat_map (λ a. flat_map (λ b. flat_map (sessions_on p) (v.mesh a b)) (router_numbers setup)) (router_numbers setup)) held
      ∙ ap (λ (x : List SessionValue). flat_map (λ y. sessions_at ((w.router y).places p)) (router_numbers setup) ++ x) on_way

-- ---- every run

pub unchanged : (setup : Setup) (events : List Event) → IsSetup setup → Unchanged setup (first_world setup) events
unchanged setup events ok = record {
  returned = λ r k p target s q found session refusal after f. returned setup ok events r k p target s q found session refusal after f;
  landed = λ r k p target s q found session after f. landed setup ok events r k p target s q found session after f;
  refused = λ begun rest r k p w v among run step. (refused_sessions setup w v r k p step, refused_places setup w v r k p step);
}
