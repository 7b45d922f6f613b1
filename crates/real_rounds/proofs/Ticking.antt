-- On a session that stands through a round while its hold time runs, the round may pass.
use Rattle.std.proofs.Common.{rules, ◌≡◌, ◌≢◌, ◌<◌, ◌+◌, ◌∙◌, ℕ, zero, suc, Bool, true, false, List, [], ◌∷◌}
use Rattle.std.proofs.Common.{◌++◌, length, Result, Ok, Err, refl, ap, sym, subst, inl, inr, arith}
use Rattle.std.specs.Prelude.{◌⊎◌, ◌==◌, Option, None, All}
use Rattle.std.specs.List.{AllByRecursion}
use Rattle.std.proofs.Math.Path.{subst⁻¹}
use Rattle.std.proofs.lemmas.Bool.Decides.{eqb_tells}
use Rattle.std.proofs.lemmas.List.{append-nil}
use Rattle.std.proofs.lemmas.List.Elements.{All-append}
use Rattle.std.proofs.lemmas.List.Sums.{fold-append}
use Rattle.bgp_types.specs.declared.message.Message.{Message}
use Rattle.bgp_types.specs.declared.message.Message.TheVariants.{OpenMsg, UpdateMsg, NoticeMsg, KeepaliveMsg}
use Rattle.bgp_types.specs.declared.message.Notice.{Notice}
use Rattle.bgp_types.specs.declared.message.SessionState.{SessionState}
use Rattle.bgp_types.specs.declared.message.SessionState.TheVariants.{OpenSent, OpenConfirm, Established, Closed}
use Rattle.bgp_types.specs.declared.message.Update.{Update}
use Rattle.bgp_types.specs.FirstFault.{message_of}
use Rattle.tcp_seq.specs.Endpoint.{Endpoint}
use Rattle.bgp_story.specs.declared.line.Line.{Line}
use Rattle.bgp_story.specs.declared.line.Line.TheVariants.{Put, Got, Tick}
use Rattle.bgp_story.specs.Legal.{Peering, IsEarlier, expected_next, is_up, hold, smaller_hold, got_open, reply_to}
use Rattle.bgp_story.specs.States.{after, after_got, is_type, with_keepalive_got, state_of}
use Rattle.session_value.specs.Sessions.{SessionValue, peering_of, state, hold_time}
use Rattle.session_value.specs.Cases.{GetsFrame, PutsUpdate, PassesRound, put_by}
use Rattle.session_value.proofs.Replies.{confirmed_from}
use Rattle.session_value.proofs.Ties.{emits_same, takes_same}
use Rattle.graft_model.specs.Points.{at}
use Rattle.graft_model.specs.Setups.{Setup}
use Rattle.graft_model.specs.Parts.{Place, Vacant, Live, Frozen, Shadow, Order, Errand, RouterPart}
use Rattle.graft_model.specs.RouterRows.{RouterTaken, RouterSent, IsLive, update_for}
use Rattle.graft_model.specs.declared.event.RouterEvent.TheVariants as events
use Rattle.graft_model.specs.declared.event.RouterEvent.{RouterEvent}
use Rattle.graft_model.specs.declared.event.RouterEvent.TheVariants.{Emit, Arrive, Decide, Tell, Hear, Admit, Refuse, Freeze, Leave}
use Rattle.graft_model.specs.declared.event.RouterEvent.TheVariants.{Land, Return, Clear, Ask, Collect, Confirm}
use Rattle.graft_model.specs.Steps.{router_row}
use Rattle.bgp_session.specs.Steps.{MayPass}
use Rattle.router_core.specs.Parts.{router_part}
use Rattle.router_core.specs.Places.{place_of}
use Rattle.router_core.specs.Rounds.{RouterGoes}
use Rattle.router_core.specs.Turned.{IsRouterTake, stage_of}
use Rattle.real_rounds.proofs.Calls.{CallsSay}
use Rattle.real_rounds.specs.Routers.{HasLive}
use Rattle.real_rounds.proofs.LegActors.{Ticking}
use Rattle.real_rounds.proofs.RouterRounds.{turn_goes, runs_at}
use Rattle.real_rounds.proofs.RouterWays.{Anything, through_both}

-- ---- what an event does to a session that is live before and after it

pub data Step (event : RouterEvent) (p : ℕ) (s u : SessionValue) : Type 0 where
  stays : u ≡ s → Step event p s u
  ends : (end : Endpoint) → u ≡ record s { end = end } → end.stream ≡ s.end.stream → Step event p s u
  gets : (bytes : List ℕ) → GetsFrame s bytes u → Step event p s u
  puts : (update : Update) → PutsUpdate s update u → stage_of event ≢ 0 → Step event p s u
  passes : (round : ℕ) → PassesRound s round u → stage_of event ≢ 0 → Step event p s u

same_live : (s u : SessionValue) (o q : Option Errand) → Live s o ≡ Live u q → u ≡ s
same_live s u o q e = cc

-- the place of the event, or another
at_step : (a b : RouterPart) (q p : ℕ) (v : Place) (s u : SessionValue) (o w : Option Errand) → IsLive a p s o → IsLive b p u w
    → b.places ≡ at a.places q v → ((p ≡ q) × (v ≡ Live u w)) ⊎ (u ≡ s)
at_step a b q p v s u o w before ends_at effect = elim (eqb_tells p q) [
  | inl e ↦ inl (e.1, sym (own e.0) ∙ sym (ap (λ (f : ℕ → Place). f p) effect) ∙ ends_at.is)
  | inr ne ↦ inr (same_live s u o w (sym before.is ∙ sym (other ne.0) ∙ sym (ap (λ (f : ℕ → Place). f p) effect) ∙ ends_at.is))
]
  where
    own : (p == q) ≡ true → at a.places q v p ≡ v
    own e = rw e refl

    other : (p == q) ≡ false → at a.places q v p ≡ a.places p
    other e = rw e refl

-- it was the session of the event's row
was : (a : RouterPart) (p q : ℕ) (s x : SessionValue) (o y : Option Errand) → p ≡ q → IsLive a p s o → IsLive a q x y → x ≡ s
was a p q s x o y e here row = same_live s x o y (sym here.is ∙ ap a.places e ∙ row.is)

-- the same place
place_same : (event : RouterEvent) (a b : RouterPart) (p : ℕ) (s u : SessionValue) (o w : Option Errand) → IsLive a p s o → IsLive b p u w
    → b.places p ≡ a.places p → Step event p s u
place_same event a b p s u o w before ends_at e = stays (same_live s u o w (sym before.is ∙ sym e ∙ ends_at.is))

-- only the order changes, or the session is not live then
order_changes : (event : RouterEvent) (a b : RouterPart) (q p : ℕ) (x s u : SessionValue) (y z o w : Option Errand) → IsLive a q x y → IsLive a p s o
    → IsLive b p u w → b.places ≡ at a.places q (Live x z) → Step event p s u
order_changes event a b q p x s u y z o w row before ends_at effect = elim (at_step a b q p (Live x z) s u o w before ends_at effect) [
  | inl h ↦ stays (same_live x u z w h.1 ∙ was a p q s x o y h.0 before row)
  | inr e ↦ stays e
]

leaves : (event : RouterEvent) (a b : RouterPart) (q p : ℕ) (v : Place) (s u : SessionValue) (o w : Option Errand)
    → ((x : SessionValue) (y : Option Errand) → v ≢ Live x y) → IsLive a p s o → IsLive b p u w → b.places ≡ at a.places q v → Step event p s u
leaves event a b q p v s u o w dead before ends_at effect = elim (at_step a b q p v s u o w before ends_at effect) [
  | inl h ↦ absurd (dead u w h.1)
  | inr e ↦ stays e
]

-- it comes where none was
comes : (event : RouterEvent) (a b : RouterPart) (q p : ℕ) (v : Place) (s u : SessionValue) (o w : Option Errand)
    → ((x : SessionValue) (y : Option Errand) → a.places q ≢ Live x y) → IsLive a p s o → IsLive b p u w → b.places ≡ at a.places q v
    → Step event p s u
comes event a b q p v s u o w absent before ends_at effect = elim (at_step a b q p v s u o w before ends_at effect) [
  | inl h ↦ absurd (absent s o (ap a.places (sym h.0) ∙ before.is))
  | inr e ↦ stays e
]

no_vacant : (v : Place) → v ≡ Vacant → (x : SessionValue) (y : Option Errand) → v ≢ Live x y
no_vacant v e x y f = absurd (let h : Vacant ≡ Live x y = sym e ∙ f in cc)

no_shadow : (v : Place) (k : ℕ) → v ≡ Shadow k → (x : SessionValue) (y : Option Errand) → v ≢ Live x y
no_shadow v k e x y f = absurd (let h : Shadow k ≡ Live x y = sym e ∙ f in cc)

no_frozen : (z : SessionValue) (k : Order) (x : SessionValue) (y : Option Errand) → Frozen z k ≢ Live x y
no_frozen z k x y f = absurd cc

-- another session there, by a case
changes : (event : RouterEvent) (a b : RouterPart) (q p : ℕ) (x next s u : SessionValue) (y z o w : Option Errand) → IsLive a q x y → IsLive a p s o
    → IsLive b p u w → b.places ≡ at a.places q (Live next z)
    → (p ≡ q → x ≡ s → next ≡ u → Step event p s u) → Step event p s u
changes event a b q p x next s u y z o w row before ends_at effect case = elim (at_step a b q p (Live next z) s u o w before ends_at effect) [
  | inl h ↦ case h.0 (was a p q s x o y h.0 before row) (sym (same_live next u z w h.1))
  | inr e ↦ stays e
]

pub step_of : (setup : Setup) (r : ℕ) (event : RouterEvent) (a b : RouterPart) (taken : Option RouterTaken) (sent : List RouterSent)
    → router_row setup r event a taken sent b → (p : ℕ) (s u : SessionValue) (o w : Option Errand)
    → IsLive a p s o → IsLive b p u w → Step event p s u
step_of setup r (events.Put q zero) a b taken sent row p s u o w before ends_at =
    place_same (events.Put q zero) a b p s u o w before ends_at (ap (λ (x : RouterPart). x.places p) row.effect)
step_of setup r (events.Put q (suc n)) a b taken sent row p s u o w before ends_at =
    changes (events.Put q (suc n)) a b q p row.session row.next s u row.errand row.errand o w row.live before ends_at
    (ap (λ (x : RouterPart). x.places) row.effect)
    (λ e is to. puts (update_for row.attrs row.prefixes) (subst (λ (x : SessionValue). PutsUpdate x (update_for row.attrs row.prefixes) u) is
    (subst (λ (x : SessionValue). PutsUpdate row.session (update_for row.attrs row.prefixes) x) to row.puts)) (λ h. absurd (omega (arith, h))))
step_of setup r (Emit q from len) a b taken sent row p s u o w before ends_at =
    changes (Emit q from len) a b q p row.session (record row.session { end = row.end }) s u row.errand row.errand o w row.live before ends_at
    (ap (λ (x : RouterPart). x.places) row.effect)
    (λ e is to. ends row.end (sym to ∙ ap (λ (x : SessionValue). let y : SessionValue = record x { end = row.end } in y) is)
    ((emits_same row.session.end row.segment row.end row.emits.emits).stream ∙ ap (λ (x : SessionValue). x.end.stream) is))
step_of setup r (Arrive q) a b taken sent row p s u o w before ends_at =
    changes (Arrive q) a b q p row.session (record row.session { end = row.end }) s u row.errand row.errand o w row.live before ends_at
    (ap (λ (x : RouterPart). x.places) row.effect)
    (λ e is to. ends row.end (sym to ∙ ap (λ (x : SessionValue). let y : SessionValue = record x { end = row.end } in y) is)
    ((takes_same row.session.end row.segment row.end row.arrives).stream ∙ ap (λ (x : SessionValue). x.end.stream) is))
step_of setup r (events.Got q) a b taken sent row p s u o w before ends_at =
    changes (events.Got q) a b q p row.session row.next s u row.errand row.errand o w row.live before ends_at
    (ap (λ (x : RouterPart). x.places) row.follows.effect)
    (λ e is to. gets row.bytes
    (subst (λ (x : SessionValue). GetsFrame x row.bytes u) is (subst (λ (x : SessionValue). GetsFrame row.session row.bytes x) to row.gets)))
step_of setup r (Decide prefix) a b taken sent row p s u o w before ends_at =
    place_same (Decide prefix) a b p s u o w before ends_at (ap (λ (x : RouterPart). x.places p) row.effect)
step_of setup r (Tell q prefix) a b taken sent row p s u o w before ends_at =
    place_same (Tell q prefix) a b p s u o w before ends_at (ap (λ (x : RouterPart). x.places p) row.effect)
step_of setup r (Hear q) a b taken sent row p s u o w before ends_at =
    place_same (Hear q) a b p s u o w before ends_at (ap (λ (x : RouterPart). x.places p) row.effect)
step_of setup r (Admit k) a b taken sent row p s u o w before ends_at =
    order_changes (Admit k) a b row.peering p row.session s u None _ o w row.live before ends_at (ap (λ (x : RouterPart). x.places) row.effect)
step_of setup r (Refuse k) a b taken sent row p s u o w before ends_at =
    order_changes (Refuse k) a b row.peering p row.session s u _ None o w row.live before ends_at (ap (λ (x : RouterPart). x.places) row.effect)
step_of setup r (Freeze k) a b taken sent row p s u o w before ends_at =
    leaves (Freeze k) a b row.peering p _ s u o w (no_frozen row.session (record { graft = k; target = row.target })) before ends_at
    (ap (λ (x : RouterPart). x.places) row.effect)
step_of setup r (Leave k) a b taken sent row p s u o w before ends_at =
    leaves (Leave k) a b row.peering p (Shadow k) s u o w (no_shadow (Shadow k) k refl) before ends_at (ap (λ (x : RouterPart). x.places) row.effect)
step_of setup r (Land q) a b taken sent row p s u o w before ends_at =
    comes (Land q) a b row.comes.peering p _ s u o w
    (no_vacant (a.places row.comes.peering) row.comes.vacant) before ends_at (ap (λ (x : RouterPart). x.places) row.effect)
step_of setup r (Return q) a b taken sent row p s u o w before ends_at =
    comes (Return q) a b row.peering p _ s u o w (no_shadow (a.places row.peering) row.graft row.shadow) before ends_at
    (ap (λ (x : RouterPart). x.places) row.effect)
step_of setup r (Clear q) a b taken sent row p s u o w before ends_at =
    leaves (Clear q) a b row.peering p Vacant s u o w (no_vacant Vacant refl) before ends_at (ap (λ (x : RouterPart). x.places) row.effect)
step_of setup r (Ask k q) a b taken sent row p s u o w before ends_at =
    order_changes (Ask k q) a b row.peering p row.session s u _ _ o w row.live before ends_at (ap (λ (x : RouterPart). x.places) row.effect)
step_of setup r (Collect q) a b taken sent (inl row) p s u o w before ends_at =
    order_changes (Collect q) a b row.peering p row.session s u _ _ o w row.live before ends_at (ap (λ (x : RouterPart). x.places) row.effect)
step_of setup r (Collect q) a b taken sent (inr row) p s u o w before ends_at =
    place_same (Collect q) a b p s u o w before ends_at (ap (λ (x : RouterPart). x.places p) row.stays)
step_of setup r (Confirm k) a b taken sent row p s u o w before ends_at =
    order_changes (Confirm k) a b row.peering p row.session s u _ None o w row.live before ends_at (ap (λ (x : RouterPart). x.places) row.effect)
step_of setup r (events.Tick q round) a b taken sent row p s u o w before ends_at =
    changes (events.Tick q round) a b q p row.session row.next s u row.errand row.errand o w row.live before ends_at
    (ap (λ (x : RouterPart). x.places) row.follows.effect)
    (λ e is to. passes round (subst (λ (x : SessionValue). PassesRound x round u) is
    (subst (λ (x : SessionValue). PassesRound row.session round x) to row.passes)) (λ h. absurd (omega (arith, h))))
step_of setup r event a b taken sent row p s u o w before ends_at =
    place_same event a b p s u o w before ends_at (ap (λ (x : RouterPart). x.places p) row.stays)

-- ---- a closed session stays closed

closed_up : (x : SessionState) → x ≡ Closed → is_up x ≡ true → ⊥
closed_up x e up = absurd (let h : is_up Closed ≡ true = ap is_up (sym e) ∙ up in cc)

closed_step : (event : RouterEvent) (p : ℕ) (s u : SessionValue) → Step event p s u → state s ≡ Closed → state u ≡ Closed
closed_step event p s u (stays e) closed = ap (λ (x : SessionValue). state x) e ∙ closed
closed_step event p s u (ends end e stream) closed = ap (λ (x : SessionValue). state x) e ∙ closed
closed_step event p s u (gets bytes g) closed = absurd (g.unclosed closed)
closed_step event p s u (puts update g is) closed = absurd (let h : Closed ≡ Established = sym closed ∙ g.established in cc)
closed_step event p s u (passes round g is) closed = absurd (closed_up (state s) closed g.up)

closed_on : (Allowed : RouterPart → RouterEvent → Type 0) (setup : Setup) (r : ℕ) (a b : RouterPart) (es : List RouterEvent) (ms : List RouterPart)
    → RouterGoes setup r Allowed a es ms b → (p : ℕ) → AllByRecursion (HasLive p) (a ∷ ms)
    → (s u : SessionValue) (o w : Option Errand) → IsLive a p s o → IsLive b p u w → state s ≡ Closed → state u ≡ Closed
closed_on Allowed setup r a b [] [] goes p all s u o w before ends_at closed =
    ap (λ (x : SessionValue). state x) (same_live s u o w (sym before.is ∙ ap (λ (x : RouterPart). x.places p) (sym goes) ∙ ends_at.is)) ∙ closed
closed_on Allowed setup r a b [] (m ∷ ms) goes p all s u o w before ends_at closed = absurd goes
closed_on Allowed setup r a b (e ∷ es) [] goes p all s u o w before ends_at closed = absurd goes
closed_on Allowed setup r a b (e ∷ es) (m ∷ ms) goes p all s u o w before ends_at closed =
    let (x, y, live) = all.1.0 in
    closed_on Allowed setup r m b es ms goes.4 p all.1 x u y w live ends_at
    (closed_step e p s x (step_of setup r e a m goes.0 goes.1 goes.2 p s x o y before live) closed)

-- ---- what is got

open_stays : (p : Peering) (lines more : List Line) → 0 < hold p lines → got_open p (lines ++ more) ≡ got_open p lines
open_stays p [] more runs = absurd (omega (arith, runs))
open_stays p (Put message ∷ lines) more runs = open_stays p lines more runs
open_stays p (Tick round ∷ lines) more runs = open_stays p lines more runs
open_stays p (Got bytes ∷ lines) more runs = refl

up_got : (x : SessionState) (bytes : List ℕ) → is_up x ≡ true → after_got x bytes ≢ Closed → is_up (after_got x bytes) ≡ true
up_got x bytes up unclosed = by_flags (is_type 3 bytes) (is_type 4 bytes) refl refl
  where
    kept : (x : SessionState) → is_up x ≡ true → is_up (with_keepalive_got x) ≡ true
    kept OpenSent up = absurd cc
    kept OpenConfirm up = refl
    kept Established up = refl
    kept Closed up = absurd cc

    by_flags : (b c : Bool) → is_type 3 bytes ≡ b → is_type 4 bytes ≡ c → is_up (after_got x bytes) ≡ true
    by_flags true c e f = absurd (unclosed (rw e refl))
    by_flags false true e f = rw (e, f) (kept x up)
    by_flags false false e f = rw (e, f) up

not_open : (x : SessionState) → is_up x ≡ true → x ≢ OpenSent
not_open x up e = absurd (let h : is_up OpenSent ≡ true = ap is_up (sym e) ∙ up in cc)

-- what is got while the timer runs has no answer, where the session isn't closed then
no_answer : (s u : SessionValue) (bytes : List ℕ) (g : GetsFrame s bytes u) → is_up (state s) ≡ true → state u ≢ Closed → g.answer ≡ []
no_answer s u bytes g up unclosed = by_message (message_of (expected_next (peering_of s.config) s.story (state s)) bytes) g.reply
  where
    by_message : (m : Result Message Notice) → reply_to m ≡ (g.answer, g.next) → g.answer ≡ []
    by_message (Ok (OpenMsg x)) f =
        absurd (not_open (state s) up (confirmed_from (expected_next (peering_of s.config) s.story (state s)) bytes g.answer g.next g.reply
        (λ e. (let h : OpenConfirm ≡ Established = ap (λ y. y.1) f ∙ e in cc)) (λ e. (let h : OpenConfirm ≡ Closed = ap (λ y. y.1) f ∙ e in cc))))
    by_message (Ok (UpdateMsg x)) f = sym (ap (λ y. y.0) f)
    by_message (Ok (NoticeMsg x)) f = sym (ap (λ y. y.0) f)
    by_message (Ok KeepaliveMsg) f = sym (ap (λ y. y.0) f)
    by_message (Err n) f = absurd (unclosed
        (ap (λ (x : SessionValue). state x) g.effect ∙ ap (λ (answer : List Line). state_of (s.story ++ Got bytes ∷ answer)) (sym (ap (λ y. y.0) f))
        ∙ fold-append after OpenSent s.story (Got bytes ∷ Put (NoticeMsg n) ∷ [])))

may_get : (s u : SessionValue) (bytes : List ℕ) (round : ℕ) → GetsFrame s bytes u → MayPass s round → state u ≢ Closed → MayPass u round
may_get s u bytes round g may unclosed =
    let none = no_answer s u bytes g may.up unclosed in
    let story : u.story ≡ s.story ++ Got bytes ∷ [] =
    ap (λ (x : SessionValue). x.story) g.effect ∙ ap (λ (answer : List Line). s.story ++ Got bytes ∷ answer) none in
    let config : u.config ≡ s.config = ap (λ (x : SessionValue). x.config) g.effect in
    let state_is : state u ≡ after_got (state s) bytes = ap state_of story ∙ fold-append after OpenSent s.story (Got bytes ∷ []) in
    let stream : u.end.stream ≡ s.end.stream = ap (λ (x : SessionValue). x.end.stream) g.effect
    ∙ ap (λ (answer : List Line). s.end.stream ++ put_by s (s.story ++ Got bytes ∷ answer) answer) none ∙ append-nil s.end.stream in
    let time : hold_time u ≡ hold_time s = (λ i. hold (peering_of (config i)) (story i))
    ∙ ap (smaller_hold (peering_of s.config).first) (open_stays (peering_of s.config) s.story (Got bytes ∷ []) may.runs) in
    record {
      up = ap is_up state_is ∙ up_got (state s) bytes may.up (λ e. unclosed (state_is ∙ e));
      runs = omega (arith, may.runs, time);
      later = subst⁻¹ (λ (lines : List Line). All (IsEarlier round) lines) story
          (All-append (IsEarlier round) s.story (Got bytes ∷ []) may.later (one_got round bytes));
      room = omega (arith, may.room, ap (λ (xs : List ℕ). length xs) stream);
    }
  where
    one_got : (round : ℕ) (bytes : List ℕ) → All (IsEarlier round) (Got bytes ∷ [])
    one_got round bytes = search rules

may_step : (event : RouterEvent) (p : ℕ) (s u : SessionValue) (round : ℕ) → Step event p s u → stage_of event ≡ 0 → MayPass s round
    → state u ≢ Closed → MayPass u round
may_step event p s u round (stays e) takes may unclosed = subst⁻¹ (λ (x : SessionValue). MayPass x round) e may
may_step event p s u round (ends end e stream) takes may unclosed = subst⁻¹ (λ (x : SessionValue). MayPass x round) e
    (record { up = may.up; runs = may.runs; later = may.later; room = omega (arith, may.room, ap (λ (xs : List ℕ). length xs) stream) })
may_step event p s u round (gets bytes g) takes may unclosed = may_get s u bytes round g may unclosed
may_step event p s u round (puts update g is) takes may unclosed = absurd (is takes)
may_step event p s u round (passes n g is) takes may unclosed = absurd (is takes)

may_on : (setup : Setup) (r : ℕ) (a b : RouterPart) (es : List RouterEvent) (ms : List RouterPart) (round : ℕ)
    → RouterGoes setup r IsRouterTake a es ms b → (p : ℕ) → AllByRecursion (HasLive p) (a ∷ ms)
    → (s u : SessionValue) (o w : Option Errand) → IsLive a p s o → IsLive b p u w → state u ≢ Closed → MayPass s round → MayPass u round
may_on setup r a b [] [] round goes p all s u o w before ends_at unclosed may =
    subst⁻¹ (λ (x : SessionValue). MayPass x round) (same_live s u o w (sym before.is ∙ ap (λ (x : RouterPart). x.places p) (sym goes) ∙ ends_at.is)) may
may_on setup r a b [] (m ∷ ms) round goes p all s u o w before ends_at unclosed may = absurd goes
may_on setup r a b (e ∷ es) [] round goes p all s u o w before ends_at unclosed may = absurd goes
may_on setup r a b (e ∷ es) (m ∷ ms) round goes p all s u o w before ends_at unclosed may =
    let (x, y, live) = all.1.0 in
    may_on setup r m b es ms round goes.4 p all.1 x u y w live ends_at unclosed
    (may_step e p s x round (step_of setup r e a m goes.0 goes.1 goes.2 p s x o y before live) goes.3 may
    (λ closed. unclosed (closed_on IsRouterTake setup r m b es ms goes.4 p all.1 x u y w live ends_at closed)))

-- ---- the law of one round

pub ticking : (law : CallsSay) → Ticking
ticking law x c ds ph n at earlier p s u stands starts ends_up room m o m_at =
    let both = through_both (HasLive p) IsRouterTake x.known.setup x.number.0 (router_part x)
    (router_part ph.mid) ph.takes.events ph.takes.moments (ph.turns.first ++ ph.turns.later) ph.takes.goes stands.throughout in
    let (v, v_order, v_at, v_is) = runs_at x p s stands.first_order stands.starts in
    let number : c.turns ≡ n + 1 = omega (arith, ph.turns.turns, ph.takes.turns, at.turns) in
    let later : All (IsEarlier (n + 1)) s.story = subst (λ (y : SessionValue). All (IsEarlier (n + 1)) y.story) v_is (earlier p v v_order v_at) in
    let live : IsLive (router_part ph.mid) p m.session _ = record { is = ap place_of m_at.is } in
    let unclosed : state m.session ≢ Closed = λ closed. closed_up (state u)
    (closed_on Anything x.known.setup x.number.0 (router_part ph.mid) (router_part c) (ph.turns.again ++ ph.turns.work) (ph.turns.first ++ ph.turns.later)
    (turn_goes law.turns x ph.mid c ph.first ph.second ph.takes ph.turns ph.calm n at) p
    both.1 m.session u _ stands.last_order live stands.ends closed) ends_up.up in
    subst⁻¹ (λ (k : ℕ). MayPass m.session k) number
    (may_on x.known.setup x.number.0 (router_part x) (router_part ph.mid) ph.takes.events ph.takes.moments
    (n + 1) ph.takes.goes p both.0 s m.session stands.first_order _
    stands.starts live unclosed (record { up = starts.up; runs = starts.runs; later = later; room = room }))
