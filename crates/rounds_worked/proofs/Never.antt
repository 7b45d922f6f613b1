-- Rounds that no router makes.
use Rattle.std.proofs.Common.{◌≡◌, ◌<◌, ◌≤◌, ◌+◌, max, ℕ, List, [], ◌∷◌, ◌++◌, length, Option, sym, ap, ◌∙◌, subst, inl, inr, lit<, arith}
use Rattle.std.specs.Prelude.{map}
use Rattle.std.specs.List.{AllByRecursion}
use Rattle.ring_net.specs.Deeds.{Climbs}
use Rattle.tcp_seq.specs.Endpoint.{Endpoint, PlacedSegment}
use Rattle.session_value.specs.Sessions.{SessionValue}
use Rattle.graft_model.specs.Slices.{EmitsAt}
use Rattle.graft_model.specs.Parts.{Live, Errand, RouterPart}
use Rattle.graft_model.specs.RouterRows.{RouterTaken, RouterSent, IsLive, Emits}
use Rattle.graft_model.specs.declared.event.RouterEvent.{RouterEvent}
use Rattle.graft_model.specs.declared.event.RouterEvent.TheVariants.{Arrive, Tick}
use Rattle.graft_model.specs.Steps.{router_row}
use Rattle.router_core.specs.Rounds as rounds
use Rattle.router_core.specs.Rounds.{RouterGoes}
use Rattle.router_core.specs.Turned as turned
use Rattle.router_core.specs.Turned.{stage_of, rounds_on, emits_on}
use Rattle.real_rounds.specs.Routers.{RealRouter}
use Rattle.graft_worked.specs.Base.{base}
use Rattle.rounds_worked.specs.Routers.{other_octets}
use Rattle.rounds_worked.proofs.Marks.{heads, tails, apart, less}
use Rattle.rounds_worked.proofs.Routers.{goes_nowhere, is_allowed, no_stage}

-- ---- a round of another number

ticks_from : (start turning sent : RouterPart) (events taken again work : List RouterEvent) (first second : List RouterPart)
    → Tick 0 1 ∷ events ≡ taken ++ (again ++ work)
    → RouterGoes base 0 turned.IsRouterTake start taken first turning → RouterGoes base 0 rounds.RouterRetransmits turning again second sent → ((p : ℕ)
    → AllByRecursion (λ n. n ≡ 2) (rounds_on p work)) → ⊥
ticks_from start turning sent events (y ∷ taken) again work first second e takes sends numbered = no_stage 0
    (subst (λ x. stage_of x ≡ 0) (sym (heads _ _ _ _ e)) (is_allowed base 0 turned.IsRouterTake _ _ y _ first takes))
ticks_from start turning sent events [] (y ∷ again) work first second e takes sends numbered = subst (rounds.RouterRetransmits turning) (sym (heads _ _ _ _ e))
    (is_allowed base 0 rounds.RouterRetransmits _ _ y _ second sends)
ticks_from start turning sent events [] [] work first second e takes sends numbered = apart 1 2 (lit< tt)
    (subst (λ xs. AllByRecursion (λ n. n ≡ 2) (rounds_on 0 xs)) (sym e) (numbered 0)).0

pub never_ticks : (start end : RouterPart) (events : List RouterEvent) → RealRouter base 0 2 start (Tick 0 1 ∷ events) end → ⊥
never_ticks start end events h = ticks_from start h.turning h.sent events h.taken h.again h.work h.first h.second h.is h.takes h.sends h.numbered

-- ---- an old slice that is sent twice

pub same_live : (s t : SessionValue) (o u : Option Errand) → Live s o ≡ Live t u → s ≡ t
same_live s t o u e = cc

above_ten : (m n len k : ℕ) → len ≡ 19 → k ≡ max m (n + len) → 10 < k
above_ten m n len k size is = omega (arith, size, is)

-- behind such a slice more than 10 octets are emitted
some_emitted : (e after : Endpoint) (segment : PlacedSegment) → EmitsAt 10 19 e segment after → 10 < after.emitted
some_emitted e after segment emits = elim emits.emits [
  | inl slice ↦ let size = emits.size in let rises : after.emitted ≡ max e.emitted (segment.offset + length segment.bytes) = ap (λ (x : Endpoint). x.emitted)
      slice.rises in above_ten e.emitted segment.offset (length segment.bytes) after.emitted size rises
  | inr empty ↦ let none : length segment.bytes ≡ 0 = ap (λ (s : PlacedSegment). length s.bytes) empty.empty in let size = emits.size in absurd
      (omega (arith, none, size))
]

emitted_behind : (before after : RouterPart) (taken : Option RouterTaken) (sent : List RouterSent) (s : SessionValue) (o : Option Errand)
    → Emits 0 10 19 before taken sent after → IsLive after 0 s o → 10 < s.end.emitted
emitted_behind before after taken sent s o row live =
    let same = same_live (record row.session { end = row.end }) s row.errand o (sym (ap (λ (part : RouterPart). part.places 0) row.effect) ∙ live.is) in
    subst (λ (x : SessionValue). 10 < x.end.emitted) same (some_emitted row.session.end row.end row.segment row.emits)

-- so it isn't new then
not_new_behind : (before after : RouterPart) (x y : RouterEvent) (taken : Option RouterTaken) (sent : List RouterSent) → other_octets ≡ x
    → other_octets ≡ y → router_row base 0 x before taken sent after
    → rounds.IsNewWork base 0 after y → ⊥
not_new_behind before after x y taken sent is_x is_y row works =
    let emits = subst (λ z. router_row base 0 z before taken sent after) (sym is_x) row in
    let new = subst (rounds.IsNewWork base 0 after) (sym is_y) works in
    let some = emitted_behind before after taken sent new.session new.errand emits new.live in
    let next = new.kind.next in
    absurd (omega (arith, some, next))

no_events : (y : RouterEvent) (events : List RouterEvent) → [] ≡ y ∷ events → ⊥
no_events y events e = cc

-- two in the work
works_twice : (sent end : RouterPart) (x y : RouterEvent) (work : List RouterEvent) (parts : List RouterPart) → other_octets ≡ x → other_octets ≡ y
    → RouterGoes base 0 (rounds.IsNewWork base 0) sent (x ∷ y ∷ work) parts end → ⊥
works_twice sent end x y work [] is_x is_y g = g
works_twice sent end x y work (part ∷ []) is_x is_y g = g.4
works_twice sent end x y work (part ∷ next ∷ parts) is_x is_y g = not_new_behind sent part x y g.0 g.1 is_x is_y g.2 g.4.3

-- one sent again, and one in the work
again_and_work : (turning sent end : RouterPart) (x y : RouterEvent) (work : List RouterEvent) (second third : List RouterPart) → other_octets ≡ x
    → other_octets ≡ y
    → RouterGoes base 0 rounds.RouterRetransmits turning (x ∷ []) second sent → RouterGoes base 0 (rounds.IsNewWork base 0) sent (y ∷ work) third end → ⊥
again_and_work turning sent end x y work [] third is_x is_y sends works = sends
again_and_work turning sent end x y work (part ∷ second) third is_x is_y sends works =
    not_new_behind turning part x y sends.0 sends.1 is_x is_y sends.2 (subst (λ p. rounds.IsNewWork base 0 p y)
    (goes_nowhere base 0 rounds.RouterRetransmits part sent second sends.4) (is_allowed base 0 (rounds.IsNewWork base 0) sent end y work third works))

two_again : (x y : RouterEvent) → other_octets ≡ x → other_octets ≡ y → emits_on 0 (x ∷ y ∷ []) ≤ 1 → ⊥
two_again x y is_x is_y few = less 1 2 (lit< tt) (subst (λ z. emits_on 0 (other_octets ∷ z ∷ []) ≤ 1) (sym is_y)
    (subst (λ z. emits_on 0 (z ∷ y ∷ []) ≤ 1) (sym is_x) few))

twice_from : (start turning sent end : RouterPart) (taken again work : List RouterEvent) (first second third : List RouterPart)
    → Arrive 0 ∷ other_octets ∷ other_octets ∷ [] ≡ taken ++ (again ++ work)
    → RouterGoes base 0 turned.IsRouterTake start taken first turning → RouterGoes base 0 rounds.RouterRetransmits turning again second sent
    → RouterGoes base 0 (rounds.IsNewWork base 0) sent work third end
    → Climbs 1 (map stage_of work) → emits_on 0 again ≤ 1 → ⊥
twice_from start turning sent end [] (x ∷ again) work first second third e takes sends works order few = subst (rounds.RouterRetransmits turning)
    (sym (heads _ _ _ _ e)) (is_allowed base 0 rounds.RouterRetransmits _ _ x _ second sends)
twice_from start turning sent end [] [] work first second third e takes sends works order few = less 0 1 (lit< tt)
    (subst (λ events. Climbs 1 (map stage_of events)) (sym e) order).0
twice_from start turning sent end (t ∷ []) [] (x ∷ y ∷ work) first second third e takes sends works order few = works_twice sent end x y work third
    (heads _ _ _ _ (tails _ _ _ _ e)) (heads _ _ _ _ (tails _ _ _ _ (tails _ _ _ _ e))) works
twice_from start turning sent end (t ∷ []) [] (x ∷ []) first second third e takes sends works order few = no_events other_octets []
    (sym (tails _ _ _ _ (tails _ _ _ _ e)))
twice_from start turning sent end (t ∷ []) [] [] first second third e takes sends works order few = no_events other_octets _ (sym (tails _ _ _ _ e))
twice_from start turning sent end (t ∷ []) (x ∷ []) [] first second third e takes sends works order few = no_events other_octets []
    (sym (tails _ _ _ _ (tails _ _ _ _ e)))
twice_from start turning sent end (t ∷ []) (x ∷ []) (y ∷ work) first second third e takes sends works order few =
    again_and_work turning sent end x y work second third (heads _ _ _ _ (tails _ _ _ _ e)) (heads _ _ _ _ (tails _ _ _ _ (tails _ _ _ _ e))) sends works
twice_from start turning sent end (t ∷ []) (x ∷ y ∷ []) work first second third e takes sends works order few =
    two_again x y (heads _ _ _ _ (tails _ _ _ _ e)) (heads _ _ _ _ (tails _ _ _ _ (tails _ _ _ _ e))) few
twice_from start turning sent end (t ∷ []) (x ∷ y ∷ z ∷ again) work first second third e takes sends works order few = no_events z (again ++ work)
    (tails _ _ _ _ (tails _ _ _ _ (tails _ _ _ _ e)))
twice_from start turning sent end (t ∷ u ∷ taken) again work (part ∷ first) second third e takes sends works order few =
    no_stage 6 (subst (λ x. stage_of x ≡ 0) (sym (heads _ _ _ _ (tails _ _ _ _ e))) (is_allowed base 0 turned.IsRouterTake part turning u taken first takes.4))
twice_from start turning sent end (t ∷ u ∷ taken) again work [] second third e takes sends works order few = takes

pub never_twice : (start end : RouterPart) → RealRouter base 0 1 start (Arrive 0 ∷ other_octets ∷ other_octets ∷ []) end → ⊥
never_twice start end h = twice_from start h.turning h.sent end h.taken h.again h.work h.first h.second h.third h.is h.takes h.sends h.works h.in_order
    (h.few 0)
