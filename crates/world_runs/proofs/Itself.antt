-- A router sends nothing to itself.
use Rattle.std.proofs.Common.{◌≡◌, ◌≢◌, ◌==◌, ℕ, Bool, true, false, List, [], ◌∷◌, ◌++◌, Option, Some}
use Rattle.std.proofs.Common.{if◌then◌else◌, refl, sym, ap, ◌∙◌, subst, inl, inr, arith}
use Rattle.std.specs.List.{AllByRecursion}
use Rattle.std.proofs.lemmas.Bool.Decides.{nat_tests}
use Rattle.bgp_types.specs.Prefixes.{PrefixValue}
use Rattle.journal_merge.proofs.Orders.{equal_or_not}
use Rattle.session_value.specs.Sessions.{SessionValue}
use Rattle.session_value.specs.Sets.{has}
use Rattle.graft_model.specs.Setups.{Setup, IsSetup, peerings_in}
use Rattle.graft_model.specs.Parts.{RouterPart, Mesh, Told, Moved, Back, Asked, Answered, Done, World}
use Rattle.graft_model.specs.RouterRows.{RouterTaken, MeshIn, RouterSent, MeshTo, OutwardTo, ReportOut}
use Rattle.graft_model.specs.TableRows.{Tells}
use Rattle.graft_model.specs.declared.event.RouterEvent.{RouterEvent}
use Rattle.graft_model.proofs.Footprints.{Footprint, Deciding, Telling, Hearing, Staying, Changing, SendsNoTelling, footprint}
use Rattle.graft_model.specs.Steps.{Heads, Event, ByRouter, ByFar, ByOperator, Step, router_row}
use Rattle.graft_laws.specs.Phases.{Moving, Confirmed, Returning, Phase, Busy, only2, mesh_by, InBounds}
use Rattle.graft_laws.specs.Moves.{mesh_taken, mesh_sent, RouterHeads, RouterMoves}
use Rattle.graft_laws.specs.Owned.{mesh_items_on, Owned}
use Rattle.graft_laws.specs.Keeps.{Reached}
use Rattle.graft_laws.proofs.Lists.{all_moves}
use Rattle.graft_laws.proofs.Moves.{router_moves, far_moves, operator_moves}
use Rattle.graft_laws.proofs.Runs.{carried, always_owned}
use Rattle.graft_laws.proofs.Informed.{informed}
use Rattle.world_runs.proofs.OnTheWay.{below_or_past}

-- ---- what routers tell, ask and answer

-- no telling, no question and no answer
abbrev IsUntold : Mesh → Type 0
IsUntold (Told prefix route) = ⊥
IsUntold (Moved k p session) = Unit {0}
IsUntold (Back k p session refusal) = Unit {0}
IsUntold (Asked k p) = ⊥
IsUntold (Answered k p) = ⊥
IsUntold (Done k p) = Unit {0}

abbrev AreUntold : List Mesh → Type 0
AreUntold items = AllByRecursion IsUntold items

-- nothing is due from the router to itself
abbrev IsNotDue : ℕ → RouterPart → Type 0
IsNotDue r part = (x : PrefixValue) → has (part.due_in r) x ≡ false

one_untold : (r q : ℕ) (item : Mesh) → IsUntold item → AreUntold (only2 r q item r r ++ [])
one_untold r q item untold = by_tests (r == r) (r == q) where
  by_tests : (t u : Bool) → AreUntold ((if t then (if u then item ∷ [] else []) else []) ++ [])
  by_tests true true = (untold, tt)
  by_tests true false = tt
  by_tests false u = tt

sent_elsewhere : (r : ℕ) (sent : List RouterSent) (a b : ℕ) → a ≢ r → mesh_sent r sent a b ≡ []
sent_elsewhere r [] a b other = refl
sent_elsewhere r (MeshTo q item ∷ sent) a b other = let none : only2 r q item a b ≡ [] = grind (arith, nat_tests) in
    ap (λ (xs : List Mesh). xs ++ mesh_sent r sent a b) none ∙ sent_elsewhere r sent a b other
sent_elsewhere r (OutwardTo p item ∷ sent) a b other = sent_elsewhere r sent a b other
sent_elsewhere r (ReportOut report ∷ sent) a b other = sent_elsewhere r sent a b other

module _ (setup : Setup) (r : ℕ) (before : RouterPart) (taken : Option RouterTaken) (sent : List RouterSent) (after : RouterPart) where
  these_untold : (items : List RouterSent) → sent ≡ items → AreUntold (mesh_sent r items r r) → AreUntold (mesh_sent r sent r r)
  these_untold items is untold = subst (λ (s : List RouterSent). AreUntold (mesh_sent r s r r)) (sym is) untold

  -- what goes to another router doesn't go to itself
  nowhere : (q : ℕ) (item : Mesh) → r ≢ q → AreUntold (mesh_sent r (MeshTo q item ∷ []) r r)
  nowhere q item apart = let nothing : only2 r q item r r ++ [] ≡ [] = grind (arith, nat_tests, apart) in subst AreUntold (sym nothing) tt

  tells_others : (q : ℕ) (prefix : PrefixValue) → IsNotDue r before → Tells q prefix before taken sent after → AreUntold (mesh_sent r sent r r)
  tells_others q prefix none row = these_untold _ row.sends (nowhere q _ apart) where
    apart : r ≢ q
    apart e = let due : true ≡ false = sym row.due ∙ ap (λ (n : ℕ). has (before.due_in n) prefix) (sym e) ∙ none prefix in cc

  -- no question of its own is taken
  abbrev IsUnasked : Type 0
  IsUnasked = (k p : ℕ) → taken ≡ Some (MeshIn r (Asked k p)) → ⊥

  -- one item at most is sent beside tellings, and it is none
  silent_untold : (event : RouterEvent) (items : List RouterSent) → IsUnasked → SendsNoTelling setup r event before taken after items
      → AreUntold (mesh_sent r items r r)
  silent_untold event [] unasked silent = tt
  silent_untold event (MeshTo q (Told x route) ∷ []) unasked silent = absurd silent
  silent_untold event (MeshTo q (Moved k p s) ∷ []) unasked silent = one_untold r q (Moved k p s) tt
  silent_untold event (MeshTo q (Back k p s refusal) ∷ []) unasked silent = one_untold r q (Back k p s refusal) tt
  silent_untold event (MeshTo q (Asked k p) ∷ []) unasked (is, row) = nowhere q (Asked k p) (λ e. row.asked.not_target (sym e))
  silent_untold event (MeshTo q (Answered k p) ∷ []) unasked (takes, same) =
      nowhere q (Answered k p) (λ e. unasked k p (takes ∙ ap (λ (n : ℕ). Some (MeshIn n (Asked k p))) (sym e)))
  silent_untold event (MeshTo q (Done k p) ∷ []) unasked silent = one_untold r q (Done k p) tt
  silent_untold event (OutwardTo p item ∷ []) unasked silent = tt
  silent_untold event (ReportOut report ∷ []) unasked silent = tt
  silent_untold event (item ∷ more ∷ items) unasked silent = absurd silent

  row_untold : (event : RouterEvent) → IsNotDue r before → IsUnasked → router_row setup r event before taken sent after → AreUntold (mesh_sent r sent r r)
  row_untold event none unasked row = by_print (footprint setup r before after taken sent event row) where
    by_print : Footprint setup r event before taken sent after → AreUntold (mesh_sent r sent r r)
    by_print (Deciding prefix decides) = these_untold [] decides.alone.1 tt
    by_print (Telling q prefix tells) = tells_others q prefix none tells
    by_print (Hearing q hears) = these_untold [] hears.sends tt
    by_print (Staying silent stays) = silent_untold event sent unasked silent.sends
    by_print (Changing p silent one change) = silent_untold event sent unasked silent.sends

abbrev TellsNothing : World → Type 0
TellsNothing w = (a : ℕ) → AreUntold (w.mesh a a)

still_nothing : (setup : Setup) (event : Event) (w v : World) → Reached setup w → Step setup event w v → TellsNothing w → TellsNothing v
still_nothing setup (ByRouter r event) w v reached step nothing a =
    let m : RouterMoves r step.taken step.sent step.part w v = router_moves setup r event w v step in
    all_moves IsUntold (mesh_taken r step.taken a a) (v.mesh a a) (w.mesh a a) (mesh_sent r step.sent a a) (m.mesh a a) (nothing a) sent
  where
    unasked : (taken : Option RouterTaken) → RouterHeads w r taken → (k p : ℕ) → taken ≡ Some (MeshIn r (Asked k p)) → ⊥
    unasked taken heads k p is =
        let h : Heads (w.mesh r r) (Asked k p) = subst (RouterHeads w r) is heads in
        (subst AreUntold h.is (nothing r)).0

    mine : AreUntold (mesh_sent r step.sent r r)
    mine = row_untold setup r (w.router r) step.taken step.sent step.part event (λ x. ((informed setup r r w reached).itself refl x).0)
        (unasked step.taken (router_moves setup r event w v step).heads) step.row

    sent : AreUntold (mesh_sent r step.sent a a)
    sent = elim (equal_or_not a r) [
      | inl e ↦ subst (λ (n : ℕ). AreUntold (mesh_sent r step.sent n n)) (sym e) mine
      | inr ne ↦ subst AreUntold (sym (sent_elsewhere r step.sent a a ne)) tt
    ]
still_nothing setup (ByFar p event) w v reached step nothing a =
    subst (λ (f : ℕ → ℕ → List Mesh). AreUntold (f a a)) (sym (far_moves setup p event w v step).mesh) (nothing a)
still_nothing setup (ByOperator event) w v reached step nothing a =
    subst (λ (f : ℕ → ℕ → List Mesh). AreUntold (f a a)) (sym (operator_moves setup event w v step).mesh) (nothing a)

-- ---- grafts

apart_nowhere : {A : Type 0} (q t r : ℕ) (item : A) → t ≢ q → only2 q t item r r ≡ []
apart_nowhere q t r item apart = grind (arith, nat_tests)

graft_nowhere : (setup : Setup) (phase : Phase) (p : ℕ) (s : SessionValue) (r : ℕ) → InBounds setup phase → mesh_by phase p s r r ≡ []
graft_nowhere setup (Busy q k t Moving) p s r bounds = apart_nowhere q t r (Moved k p s) bounds.2
graft_nowhere setup (Busy q k t Confirmed) p s r bounds = apart_nowhere t q r (Done k p) (λ e. bounds.2 (sym e))
graft_nowhere setup (Busy q k t (Returning refusal)) p s r bounds = apart_nowhere t q r (Back k p s refusal) (λ e. bounds.2 (sym e))
graft_nowhere setup phase p s r bounds = refl

of_nobody : (items : List Mesh) → AreUntold items → ((p : ℕ) → mesh_items_on p items ≡ []) → items ≡ []
of_nobody [] untold none = refl
of_nobody (Told prefix route ∷ items) untold none = absurd untold.0
of_nobody (Moved k p s ∷ items) untold none = absurd (let e = none p in grind (arith, nat_tests))
of_nobody (Back k p s refusal ∷ items) untold none = absurd (let e = none p in grind (arith, nat_tests))
of_nobody (Asked k p ∷ items) untold none = absurd untold.0
of_nobody (Answered k p ∷ items) untold none = absurd untold.0
of_nobody (Done k p ∷ items) untold none = absurd (let e = none p in grind (arith, nat_tests))

pub nobody_writes_to_itself : (setup : Setup) (w : World) (r : ℕ) → IsSetup setup → Reached setup w → w.mesh r r ≡ []
nobody_writes_to_itself setup w r sound reached = of_nobody (w.mesh r r) (carried setup TellsNothing (λ a. tt) (still_nothing setup) w reached r) no_graft where
  owned : Owned setup w
  owned = always_owned setup sound w reached

  no_graft : (p : ℕ) → mesh_items_on p (w.mesh r r) ≡ []
  no_graft p = elim (below_or_past p (peerings_in setup)) [
    | inl below ↦ (let h = owned.peerings p below in h.stands.mesh r r ∙ graft_nowhere setup h.phase p h.session r h.stands.bounds)
    | inr past ↦ (owned.no_others p past).mesh r r
  ]
