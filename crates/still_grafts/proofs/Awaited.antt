-- Where a session waits for an answer, the question or the answer is on its way.
use Rattle.std.proofs.Common.{◌≡◌, ◌⊎◌, inl, inr, ◌==◌, ℕ, Bool, true, false, List, [], ◌∷◌, ◌++◌, Option, Some, None, refl, sym, ap, ◌∙◌, subst, arith}
use Rattle.std.specs.Prelude.{if◌then◌else◌}
use Rattle.std.proofs.lemmas.Bool.{cases_eq}
use Rattle.std.proofs.lemmas.Bool.Decides.{nat_tests}
use Rattle.session_value.specs.Sessions.{SessionValue, begun}
use Rattle.graft_model.specs.Parts.{Word, Asking, Vacant, Live, RouterPart, Mesh, Asked, Answered, World}
use Rattle.graft_model.specs.Points.{at}
use Rattle.graft_model.specs.RouterRows.{RouterTaken, OrderIn, SegmentIn, MeshIn, RouterSent, MeshTo}
use Rattle.graft_model.specs.Setups.{Setup, PeeringSetup}
use Rattle.std.specs.Prelude.{slice_get}
use Rattle.graft_model.specs.First.{place_in}
use Rattle.graft_model.specs.Steps.{Event, ByRouter, ByFar, ByOperator, RouterStep, Step}
use Rattle.graft_model.specs.declared.event.RouterEvent.{RouterEvent}
use Rattle.graft_model.proofs.Footprints.{at_same, at_apart}
use Rattle.graft_laws.specs.Phases.{only2}
use Rattle.graft_laws.specs.Moves.{mesh_taken, mesh_sent, RouterMoves}
use Rattle.graft_laws.specs.Keeps.{Reached}
use Rattle.graft_laws.proofs.Heads.{only2_here}
use Rattle.graft_laws.proofs.Moves.{router_moves, far_moves, operator_moves}
use Rattle.graft_laws.proofs.Runs.{carried}
use Rattle.still_grafts.proofs.AnswerEvents.{asking_from, is_done}

-- ---- one of a list

-- the item is one of the list
abbrev pub IsAmong : {A : Type 0} → A → List A → Type 0
IsAmong x [] = ⊥
IsAmong x (y ∷ ys) = (y ≡ x) ⊎ IsAmong x ys

among_left : {A : Type 0} (x : A) (xs ys : List A) → IsAmong x xs → IsAmong x (xs ++ ys)
among_left x [] ys is = absurd is
among_left x (y ∷ xs) ys (inl is) = inl is
among_left x (y ∷ xs) ys (inr is) = inr (among_left x xs ys is)

among_right : {A : Type 0} (x : A) (xs ys : List A) → IsAmong x ys → IsAmong x (xs ++ ys)
among_right x [] ys is = is
among_right x (y ∷ xs) ys is = inr (among_right x xs ys is)

among_either : {A : Type 0} (x : A) (xs ys : List A) → IsAmong x (xs ++ ys) → IsAmong x xs ⊎ IsAmong x ys
among_either x [] ys is = inr is
among_either x (y ∷ xs) ys (inl is) = inl (inl is)
among_either x (y ∷ xs) ys (inr is) = elim (among_either x xs ys is) [ inl front ↦ inl (inr front) | inr back ↦ inr back ]

among_only2 : {A : Type 0} (x item : A) (j k a b : ℕ) → IsAmong x (only2 j k item a b) → (a ≡ j) × (b ≡ k) × (item ≡ x)
among_only2 x item j k a b is = by_tests (a == j) (b == k) refl refl is where
  by_tests : (u v : Bool) → (a == j) ≡ u → (b == k) ≡ v → IsAmong x (if u then (if v then item ∷ [] else []) else []) → (a ≡ j) × (b ≡ k) × (item ≡ x)
  by_tests true true e f (inl same) = (grind (arith, nat_tests), grind (arith, nat_tests), same)
  by_tests true true e f (inr none) = absurd none
  by_tests true false e f none = absurd none
  by_tests false v e f none = absurd none

-- ---- an item that a router takes

among_taken : (r a b : ℕ) (item : Mesh) (taken : Option RouterTaken) → IsAmong item (mesh_taken r taken a b) → (b ≡ r) × (taken ≡ Some (MeshIn a item))
among_taken r a b item (Some (MeshIn q it)) is =
    let found = among_only2 item it q r a b is in
    (found.1, ap (λ (n : ℕ). Some (MeshIn n it)) (sym found.0) ∙ ap (λ (m : Mesh). Some (MeshIn a m)) found.2)
among_taken r a b item None is = absurd is
among_taken r a b item (Some (OrderIn o)) is = absurd is
among_taken r a b item (Some (SegmentIn p x)) is = absurd is

-- ---- what is waited for

-- The question is on its way to the router that is asked, or its answer on its way back.
abbrev pub IsAwaited : World → ℕ → ℕ → Word → Type 0
IsAwaited w t p word = IsAmong (Asked word.graft p) (w.mesh t word.next) ⊎ IsAmong (Answered word.graft p) (w.mesh word.next t)

abbrev pub AreAwaited : World → Type 0
AreAwaited w = (t p : ℕ) (s : SessionValue) (word : Word) → (w.router t).places p ≡ Live s (Some (Asking word)) → IsAwaited w t p word

module _ (setup : Setup) (r : ℕ) (event : RouterEvent) (w v : World) (step : RouterStep setup r event w v) (awaited : AreAwaited w) where
  moves : RouterMoves r step.taken step.sent step.part w v
  moves = router_moves setup r event w v step

  -- what stood in a channel, or is sent, is taken or stands there
  was_or_sent : (a b : ℕ) (item : Mesh) → IsAmong item (w.mesh a b ++ mesh_sent r step.sent a b)
      → ((b ≡ r) × (step.taken ≡ Some (MeshIn a item))) ⊎ IsAmong item (v.mesh a b)
  was_or_sent a b item is = elim (among_either item (mesh_taken r step.taken a b) (v.mesh a b) (subst (IsAmong item) (sym (moves.mesh a b)) is)) [
    | inl took ↦ inl (among_taken r a b item step.taken took)
    | inr there ↦ inr there
  ]

  -- an item that this router sends alone stands in its channel, or it was taken
  sent_alone : (q : ℕ) (item : Mesh) → step.sent ≡ MeshTo q item ∷ [] → IsAmong item (w.mesh r q ++ mesh_sent r step.sent r q)
  sent_alone q item e = among_right item (w.mesh r q) (mesh_sent r step.sent r q)
      (subst (λ (x : List RouterSent). IsAmong item (mesh_sent r x r q)) (sym e)
      (among_left item (only2 r q item r q) [] (subst (IsAmong item) (sym (only2_here r q item)) (inl refl))))

  -- a question goes out
  asked_now : (p : ℕ) (word : Word) → step.taken ≡ None → step.sent ≡ MeshTo word.next (Asked word.graft p) ∷ [] → IsAwaited v r p word
  asked_now p word takes sends = elim (was_or_sent r word.next (Asked word.graft p) (sent_alone word.next (Asked word.graft p) sends)) [
    | inl (here, took) ↦ (let e : None ≡ Some (MeshIn r (Asked word.graft p)) = sym takes ∙ took in absurd cc)
    | inr there ↦ inl there
  ]

  -- a question that was taken is answered
  answered_now : (t p : ℕ) (word : Word) → word.next ≡ r → step.taken ≡ Some (MeshIn t (Asked word.graft p)) → IsAwaited v t p word
  answered_now t p word here took =
      let item : Mesh = Answered word.graft p in
      let sends : step.sent ≡ MeshTo t item ∷ [] = is_done setup r (w.router r) step.part step.taken step.sent t (Asked word.graft p) took event step.row in
      let stands : IsAmong item (w.mesh word.next t ++ mesh_sent r step.sent word.next t) =
      subst (λ (n : ℕ). IsAmong item (w.mesh n t ++ mesh_sent r step.sent n t)) (sym here) (sent_alone t item sends) in
      elim (was_or_sent word.next t item stands) [
        | inl (at_here, other) ↦ (let e : Some (MeshIn t (Asked word.graft p)) ≡ Some (MeshIn word.next item) = sym took ∙ other in absurd cc)
        | inr there ↦ inr there
      ]

  -- what was waited for is so still, unless the answer was taken
  awaited_still : (t p : ℕ) (word : Word)
      → (t ≡ r → step.taken ≡ Some (MeshIn word.next (Answered word.graft p)) → ⊥) → IsAwaited w t p word → IsAwaited v t p word
  awaited_still t p word untaken (inl question) =
      let stands = among_left (Asked word.graft p) (w.mesh t word.next) (mesh_sent r step.sent t word.next) question in
      elim (was_or_sent t word.next (Asked word.graft p) stands) [
        | inl (here, took) ↦ answered_now t p word here took
        | inr there ↦ inl there
      ]
  awaited_still t p word untaken (inr answer) =
      let stands = among_left (Answered word.graft p) (w.mesh word.next t) (mesh_sent r step.sent word.next t) answer in
      elim (was_or_sent word.next t (Answered word.graft p) stands) [
        | inl (here, took) ↦ absurd (untaken here took)
        | inr there ↦ inr there
      ]

  at_this : (p : ℕ) (s : SessionValue) (word : Word) → step.part.places p ≡ Live s (Some (Asking word)) → IsAwaited v r p word
  at_this p s word now = elim (asking_from setup r (w.router r) step.part step.taken step.sent p s word now event step.row) [
    | inl (session, was) ↦ awaited_still r p word
        (λ same took. is_done setup r (w.router r) step.part step.taken step.sent word.next (Answered word.graft p) took event step.row word.source s now)
        (awaited r p session word was)
    | inr (takes, sends) ↦ asked_now p word takes sends
  ]

  by_router : AreAwaited v
  by_router t p s word now = elim (cases_eq t r) [
    | inl here ↦ subst (λ (n : ℕ). IsAwaited v n p word) (sym here) (at_this p s word
        (ap (λ (u : RouterPart). u.places p) (sym (at_same w.router r step.part)) ∙ ap (λ (n : ℕ). (at w.router r step.part n).places p) (sym here)
        ∙ ap (λ (f : ℕ → RouterPart). (f t).places p) (sym moves.router) ∙ now))
    | inr other ↦ awaited_still t p word (λ same took. other same) (awaited t p s word
        (ap (λ (u : RouterPart). u.places p) (sym (at_apart w.router r t step.part other))
        ∙ ap (λ (f : ℕ → RouterPart). (f t).places p) (sym moves.router) ∙ now))
  ]

unmoved : (w v : World) → v.router ≡ w.router → v.mesh ≡ w.mesh → AreAwaited w → AreAwaited v
unmoved w v routers mesh awaited t p s word now =
    subst (λ (m : ℕ → ℕ → List Mesh). IsAmong (Asked word.graft p) (m t word.next) ⊎ IsAmong (Answered word.graft p) (m word.next t)) (sym mesh)
    (awaited t p s word (ap (λ (f : ℕ → RouterPart). (f t).places p) (sym routers) ∙ now))

awaited_then : (setup : Setup) (event : Event) (w v : World) → Step setup event w v → AreAwaited w → AreAwaited v
awaited_then setup (ByRouter r event) w v step awaited = by_router setup r event w v step awaited
awaited_then setup (ByFar p event) w v step awaited = let m = far_moves setup p event w v step in unmoved w v m.router m.mesh awaited
awaited_then setup (ByOperator event) w v step awaited = let m = operator_moves setup event w v step in unmoved w v m.router m.mesh awaited

-- nothing is waited for at first
none_asks : (r : ℕ) (peering : Option PeeringSetup) (s : SessionValue) (word : Word) → place_in r peering ≡ Live s (Some (Asking word)) → ⊥
none_asks r None s word e = cc
none_asks r (Some peering) s word e = by_test (peering.start == r) e where
  by_test : (t : Bool) → (if t then Live (begun peering.config) None else Vacant) ≡ Live s (Some (Asking word)) → ⊥
  by_test true e = cc
  by_test false e = cc

pub always_awaited : (setup : Setup) (w : World) → Reached setup w → AreAwaited w
always_awaited setup w reached = carried setup AreAwaited (λ t p s word now. absurd (none_asks t (slice_get setup.peerings p) s word now))
    (λ event before after reach step awaited. awaited_then setup event before after step awaited) w reached
