-- The retransmission turn, the new slices and the answer of the session at a place.
use Rattle.std.proofs.Common.{◌≡◌, ℕ, ◌+◌, ◌<◌, ◌≤◌, [], ◌∷◌, length, Option, option_map, Some, None, Bool}
use Rattle.std.proofs.Common.{true, false, ◌⊎◌, inl, inr, refl, sym, ap, subst, ◌∙◌, arith}
use Rattle.std.specs.Prelude.{nat_lt, if◌then◌else◌, IsNone, IfNone, ◌↔◌, Result, Ok, Err, IfOk, OnOk}
use Rattle.std.proofs.lemmas.Bool.{cases_lt, lt-ltb, le-ltb}
use Rattle.std.proofs.lemmas.Result.{IfOk-weaker}
use Rattle.ring_net.specs.declared.post.Post.{Post}
use Rattle.tcp_seq.specs.Endpoint.{Endpoint, PlacedSegment, EmitsNext, EmitsAgain, EmitsSlice, next_length, again_length}
use Rattle.tcp_seq.specs.Numbers.{offset_from}
use Rattle.tcp_seq.specs.declared.segment.Segment.{Segment}
use Rattle.graft_steps.specs.declared.item.Item.{Item}
use Rattle.graft_steps.specs.declared.item.Item.TheVariants as items
use Rattle.graft_model.specs.declared.event.RouterEvent.TheVariants.{Emit}
use Rattle.session_places.specs.Places.{PlaceList, with_place}
use Rattle.router_core.specs.Rounds.{WritesEvent}
use Rattle.router_core.specs.declared.place.Errand.{Errand}
use Rattle.session_value.specs.Sessions.{SessionValue, unread}
use Rattle.bgp_session.specs.Running.{RunningSession}
use Rattle.bgp_session.specs.Steps.{SessionEmits, SessionEmitsIfAny, sent_as}
use Rattle.graft_model.specs.Setups.{routers_in}
use Rattle.graft_model.specs.Slices.{EmitsAt}
use Rattle.graft_model.specs.Parts as model
use Rattle.graft_actors.specs.Emissions.{Tally, reach_of}
use Rattle.rib_stages.specs.Values.{rib_of, table_at}
use Rattle.router_core.specs.Parts.{RouterInvariant, KeepsPlace}
use Rattle.router_tables.specs.Owned.{IsOfPeering}
use Rattle.router_core.specs.Lends.{live_in, with_live}
use Rattle.router_core.specs.Places.{AtOne, place_of, place_at, errand_of}
use Rattle.router_core.specs.Sending.{AtPlace, SessionSentAgain, SentNext, SessionSentAnswer, IsOutletOf}
use Rattle.router_core.specs.Stages.{IsLevel, again_at, answer_at}
use Rattle.router_core.specs.Visits.{none_on, Stage, Visits, SameButPlaces, Answers, SlicesOut, AllNewOut, answering, sending_again, slicing}
use Rattle.router_core.specs.declared.fields.Fields.{Fields}
use Rattle.router_core.specs.declared.place.Place.{Place}
use Rattle.router_core.specs.declared.place.Place.TheVariants.{Live, Shadow}
use Rattle.router_core.specs.declared.stages.send.Outlet.{Outlet}
use Rattle.graft_actors.proofs.Careful.{at_again, at_answer, at_next, careful_again, careful_next, counted_again, counted_next}
use Rattle.router_core.proofs.EmitSteps.{Gives, visits_emitted}
use Rattle.router_core.proofs.PlaceLists.{same_there}
use Rattle.router_core.proofs.PlaceSteps.{keeps_live, visits_same}
use Rattle.router_core.proofs.RoundLists.{answer_here, emit_here, no_answer}

false_true : ◌≡◌ {A = Bool} false true → ⊥
false_true e = let y : ⊥ = cc in y

is_none_some : {A : Type 0} (x : A) → IsNone (Some x) → ⊥
is_none_some x e = let y : ⊥ = cc in y

pub some_none : {A : Type 0} (x : A) → Some x ≡ None → ⊥
some_none x e = let y : ⊥ = cc in y

-- what an outlet notes and sends
abbrev pub WroteBy : Outlet → Segment → Post (Item RunningSession) → Post (Item RunningSession) → Type 0
WroteBy outlet segment p q =
    WritesEvent p (Emit outlet.place (offset_from segment.seq.0 outlet.first.0) (length segment.bytes)) ((outlet.to, items.Seg segment) ∷ []) q

module _ (f : Fields) (n : ℕ) (outlet : Outlet) (is : IsOutletOf f n outlet) (p q : Post (Item RunningSession)) (segment : Segment) where
  pub wrote_by : (s : SessionValue) (from len : ℕ) → IsOfPeering f.known.setup n s → (sent_as s.config segment).offset ≡ from
      → length segment.bytes ≡ len → WroteBy outlet segment p q
      → WritesEvent p (Emit n from len) ((routers_in f.known.setup + n, items.Seg segment) ∷ []) q
  wrote_by s from len of offset size wrote =
      let seen : offset_from segment.seq.0 outlet.first.0 ≡ from = ap (offset_from segment.seq.0) (is.first ∙ sym of.sends) ∙ offset in
      subst (λ (m : ℕ). WritesEvent p (Emit n from m) ((routers_in f.known.setup + n, items.Seg segment) ∷ []) q) size
      (subst (λ (m : ℕ). WritesEvent p (Emit n m (length segment.bytes)) ((routers_in f.known.setup + n, items.Seg segment) ∷ []) q) seen
      (subst (λ (m : ℕ). WritesEvent p (Emit n (offset_from segment.seq.0 outlet.first.0) (length segment.bytes)) ((m, items.Seg segment) ∷ []) q) is.to
      (subst (λ (m : ℕ). WritesEvent p (Emit m (offset_from segment.seq.0 outlet.first.0) (length segment.bytes)) ((outlet.to, items.Seg segment) ∷ []) q)
      is.place wrote)))

-- by a step and the slice that it emits
pub gives_slice : (Step : Endpoint → PlacedSegment → Endpoint → Type 0) (s u : SessionValue) (segment : Segment) (from len : ℕ)
    → ((end : Endpoint) → EmitsSlice s.end (sent_as s.config segment) end
    → Step s.end (sent_as s.config segment) end → EmitsAt from len s.end (sent_as s.config segment) end)
    → SessionEmits Step s segment u → SessionEmits EmitsSlice s segment u → Gives s segment u from len
gives_slice Step s u segment from len at emits slice =
    let same : slice.end ≡ emits.end = sym (ap (λ (v : SessionValue). v.end) slice.effect) ∙ ap (λ (v : SessionValue). v.end) emits.effect in
    record {
      end = emits.end;
      at = at emits.end (subst (EmitsSlice s.end (sent_as s.config segment)) same slice.step) emits.step;
      in_streams = emits.in_streams;
      peering = emits.peering;
      way = emits.way;
      effect = emits.effect;
    }

-- a running session by its two parts
running_is : (u : RunningSession) (v : SessionValue) (n : ℕ) → u.session ≡ v → u.acked_at_turn ≡ n → u ≡ record { session = v; acked_at_turn = n }
running_is u v n session turn = λ i. record { session = session i; acked_at_turn = turn i }

-- what a place keeps, where it is what it was
module _ (f : Fields) (n : ℕ) (keeps : RouterInvariant f) where
  keeps_here : (x : Option Place) → place_at f.places.places n ≡ x → KeepsPlace f.known.setup f.number.0 n ((rib_of f.rib).entries n) (table_at f.due_out n) x
  keeps_here x is = subst (KeepsPlace f.known.setup f.number.0 n ((rib_of f.rib).entries n) (table_at f.due_out n)) is (keeps.each n)

-- ---- the retransmission turn

again_is : (s : RunningSession) (o : Option Errand) → s.session.end.acked ≤ s.acked_at_turn → 0 < again_length s.session.end → again_at (Some (Live s o)) ≡ 1
again_is s o late some =
    ap (λ (b : Bool). let n : ℕ = if b then 0 else (if nat_lt 0 (again_length s.session.end) then 1 else 0) in n)
    (le-ltb s.acked_at_turn s.session.end.acked late)
    ∙ ap (λ (b : Bool). let n : ℕ = if b then 1 else 0 in n) (lt-ltb 0 (again_length s.session.end) some)

none_is : (s : RunningSession) (o : Option Errand) → (again_length s.session.end ≡ 0) ⊎ (s.acked_at_turn < s.session.end.acked) → again_at (Some (Live s o)) ≡ 0
none_is s o (inr raised) = ap (λ (b : Bool). let n : ℕ = if b then 0 else (if nat_lt 0 (again_length s.session.end) then 1 else 0) in n)
    (lt-ltb s.acked_at_turn s.session.end.acked raised)
none_is s o (inl none) = by_flag (nat_lt s.acked_at_turn s.session.end.acked)
  where
    nothing_out : ◌≡◌ {A = ℕ} (if nat_lt 0 (again_length s.session.end) then 1 else 0) 0
    nothing_out = ap (λ (b : Bool). let n : ℕ = if b then 1 else 0 in n) (le-ltb 0 (again_length s.session.end) (omega (arith, none)))

    by_flag : (b : Bool) → ◌≡◌ {A = ℕ} (if b then 0 else (if nat_lt 0 (again_length s.session.end) then 1 else 0)) 0
    by_flag true = refl
    by_flag false = nothing_out

-- a turn that sends is late: nothing was acknowledged since the last one
late_for : (s : RunningSession) (segment : Segment)
    → (IsNone (Some segment) ↔ ((again_length s.session.end ≡ 0) ⊎ (s.acked_at_turn < s.session.end.acked))) → s.session.end.acked ≤ s.acked_at_turn
late_for s segment none =
    elim (cases_lt s.acked_at_turn s.session.end.acked) [ inl raised ↦ absurd (is_none_some segment (none.1 (inr raised))) | inr late ↦ late ]

plus_again : (t : Tally) (n : ℕ) → n ≡ 0 → (let u : Tally = record t { again = t.again + n } in u) ≡ t
plus_again t n is = ap (λ (m : ℕ). let u : Tally = record t { again = m } in u) (let e : t.again + n ≡ t.again = omega (arith, is) in e)

plus_answers : (t : Tally) (n : ℕ) → n ≡ 0 → (let u : Tally = record t { answers = t.answers + n } in u) ≡ t
plus_answers t n is = ap (λ (m : ℕ). let u : Tally = record t { answers = m } in u) (let e : t.answers + n ≡ t.answers = omega (arith, is) in e)

-- the places of f with x at n are those of g
module _ (f g : Fields) (p q : Post (Item RunningSession)) (n : ℕ) (x : Option Place) (keeps : RouterInvariant f)
    (there : n < length f.places.places) (same : SameButPlaces f g) (items_are : g.places ≡ with_place f.places n x) where
  items_for : (y : Option Place) → x ≡ y → g.places ≡ with_place f.places n y
  items_for y is = items_are ∙ ap (with_place f.places n) is

  -- the place is what it was
  module _ (stage : Stage) (same_rest : stage.kept.Same f g) where
    pub visits_idle : (y : Option Place) → place_at f.places.places n ≡ y → x ≡ y → stage.Goes none_on y y → ((t : Tally) → stage.count y t ≡ t)
        → Visits stage n f p g p
    visits_idle y is x_is goes count =
        visits_same f g n x there same items_are stage p keeps (ap place_of (x_is ∙ sym is))
        (subst (λ (z : Option Place). stage.Goes none_on z x) (sym is) (subst (stage.Goes none_on y) (sym x_is) goes))
        (λ t. ap (λ (z : Option Place). stage.count z t) is ∙ count t) same_rest
        (subst (KeepsPlace f.known.setup f.number.0 n ((rib_of f.rib).entries n) (table_at f.due_out n)) (sym x_is) (keeps_here f n keeps y is))

    -- its session is another one that the model doesn't tell from it
    visits_alike : (s u : RunningSession) (o : Option Errand) → place_at f.places.places n ≡ Some (Live s o) → x ≡ Some (Live u o)
        → u.session ≡ s.session → stage.Goes none_on (Some (Live s o)) (Some (Live u o)) → ((t : Tally) → stage.count (Some (Live s o)) t ≡ t)
        → Visits stage n f p g p
    visits_alike s u o is x_is alike goes count =
        visits_same f g n x there same items_are stage p keeps
        (ap place_of x_is ∙ ap (λ (v : SessionValue). model.Live v (option_map errand_of o)) alike ∙ sym (ap place_of is))
        (subst (λ (z : Option Place). stage.Goes none_on z x) (sym is) (subst (stage.Goes none_on (Some (Live s o))) (sym x_is) goes))
        (λ t. ap (λ (z : Option Place). stage.count z t) is ∙ count t) same_rest
        (subst (KeepsPlace f.known.setup f.number.0 n ((rib_of f.rib).entries n) (table_at f.due_out n)) (sym x_is)
        (keeps_live f.known.setup f.number.0 n ((rib_of f.rib).entries n) (table_at f.due_out n) s u o (keeps_here f n keeps (Some (Live s o)) is)
        (ap (λ (v : SessionValue). v.config) alike) (ap (λ (v : SessionValue). v.story) alike) (ap unread alike)))

  module _ (outlet : Outlet) (outlet_is : IsOutletOf f n outlet) (segment : Segment) (wrote : WroteBy outlet segment p q) where
    again_live : (s u : RunningSession) (o : Option Errand) → place_at f.places.places n ≡ Some (Live s o) → x ≡ Some (Live u o)
        → SessionSentAgain s (Some segment) u → Visits sending_again n f p g q
    again_live s u o is x_is sent =
        let e : Endpoint = s.session.end in
        let gives : Gives s.session segment u.session e.acked (again_length e) = gives_slice EmitsAgain s.session u.session segment e.acked (again_length e)
        (λ end slice step. at_again e end (sent_as s.session.config segment) sent.within slice step) sent.step sent.slice in
        let some : 0 < again_length e = sent.step.step.some in
        let late : e.acked ≤ s.acked_at_turn = late_for s segment sent.none in
        let out : e.acked < e.emitted = omega (arith, some) in
        let level : IsLevel s u = running_is u s.session e.acked
        (sent.step.effect ∙ ap (λ (d : Endpoint). let v : SessionValue = record s.session { end = d } in v) sent.step.step.stays) sent.turned in
        visits_emitted f g p q n s u o segment e.acked (again_length e) keeps there is same
        (items_for (Some (Live u o)) x_is) gives (careful_again e some) sent.slice.step.short
        (wrote_by f n outlet outlet_is p q segment s.session e.acked (again_length e)
        (keeps_here f n keeps (Some (Live s o)) is).0 gives.at.offset gives.at.size wrote)
        sending_again refl (emit_here n e.acked (again_length e) ∙ sym (again_is s o late some), (u, refl, level))
        (λ t. counted_again e (again_length e) t some out
        ∙ ap (λ (m : ℕ). let v : Tally = record t { again = t.again + m } in v) (sym (again_is s o late some))) same

    pub again_some : (y : Option Place) → place_at f.places.places n ≡ y → AtPlace SessionSentAgain y (Some segment) x → Visits sending_again n f p g q
    again_some None is at = absurd (some_none segment at.0)
    again_some (Some (Live s o)) is (u, x_is, sent) = again_live s u o is x_is sent
    again_some (Some (Shadow away)) is at = absurd (some_none segment at.0)

    next_live : (s u : RunningSession) (o : Option Errand) → place_at f.places.places n ≡ Some (Live s o) → x ≡ Some (Live u o)
        → SentNext s (Some segment) u → Visits slicing n f p g q
    next_live s u o is x_is sent =
        let e : Endpoint = s.session.end in
        let gives : Gives s.session segment u.session e.emitted (next_length e) = gives_slice EmitsNext s.session u.session segment e.emitted (next_length e)
        (λ end slice step. at_next e end (sent_as s.session.config segment) slice step) sent.step sent.slice in
        let some : 0 < next_length e = sent.step.step.some in
        let rises : u ≡ record s { session = record s.session { end = record e { emitted = e.emitted + next_length e } } } =
        running_is u (record s.session { end = record e { emitted = e.emitted + next_length e } }) s.acked_at_turn
        (sent.step.effect ∙ ap (λ (d : Endpoint). let v : SessionValue = record s.session { end = d } in v) sent.step.step.rises) sent.same_turn in
        let out : SlicesOut s u = subst (SlicesOut s) (sym rises) refl in
        visits_emitted f g p q n s u o segment e.emitted (next_length e) keeps there is same
        (items_for (Some (Live u o)) x_is) gives (careful_next e some) sent.slice.step.short
        (wrote_by f n outlet outlet_is p q segment s.session e.emitted (next_length e)
        (keeps_here f n keeps (Some (Live s o)) is).0 gives.at.offset gives.at.size wrote)
        slicing refl (no_answer n n e.emitted (next_length e) some, (u, refl, out)) (λ t. counted_next e (next_length e) t some) same

    pub next_some : (y : Option Place) → place_at f.places.places n ≡ y → AtPlace SentNext y (Some segment) x → Visits slicing n f p g q
    next_some None is at = absurd (some_none segment at.0)
    next_some (Some (Live s o)) is (u, x_is, sent) = next_live s u o is x_is sent
    next_some (Some (Shadow away)) is at = absurd (some_none segment at.0)

    answer_live : (s u : RunningSession) (o : Option Errand) → place_at f.places.places n ≡ Some (Live s o) → x ≡ Some (Live u o)
        → SessionSentAnswer s (Some segment) u → Visits answering n f p g q
    answer_live s u o is x_is sent =
        let e : Endpoint = s.session.end in
        let at : EmitsAt e.emitted 0 e (sent_as s.session.config segment) sent.step.end =
        at_answer e sent.step.end (sent_as s.session.config segment) sent.step.step in
        let gives : Gives s.session segment u.session e.emitted 0 = record {
          end = sent.step.end;
          at = at;
          in_streams = sent.step.in_streams;
          peering = sent.step.peering;
          way = sent.step.way;
          effect = sent.step.effect;
        } in
        let given : Answers s u = running_is u (record s.session { end = record e { owed = false } }) s.acked_at_turn
        (sent.step.effect ∙ ap (λ (d : Endpoint). let v : SessionValue = record s.session { end = d } in v) sent.step.step.answer.given) sent.same_turn in
        let one : answer_at (Some (Live s o)) ≡ 1 = ap (λ (b : Bool). let m : ℕ = if b then 1 else 0 in m) sent.step.step.owed in
        visits_emitted f g p q n s u o segment e.emitted 0 keeps there is same
        (items_for (Some (Live u o)) x_is) gives sent.step.step.owed (omega (arith, at.size))
        (wrote_by f n outlet outlet_is p q segment s.session e.emitted 0 (keeps_here f n keeps (Some (Live s o)) is).0 at.offset at.size wrote)
        answering refl (answer_here n e.emitted ∙ sym one, (u, refl, given))
        (λ t. ap (λ (m : ℕ). let v : Tally = record t { answers = t.answers + m } in v) (sym one)) same

    pub answer_some : (y : Option Place) → place_at f.places.places n ≡ y → AtPlace SessionSentAnswer y (Some segment) x → Visits answering n f p g q
    answer_some None is at = absurd (some_none segment at.0)
    answer_some (Some (Live s o)) is (u, x_is, sent) = answer_live s u o is x_is sent
    answer_some (Some (Shadow away)) is at = absurd (some_none segment at.0)

  -- ---- nothing is sent

  pub again_none : (y : Option Place) → place_at f.places.places n ≡ y → AtPlace SessionSentAgain y None x → Visits sending_again n f p g p
  again_none None is at = visits_idle sending_again same None is at.1 (refl, refl) (λ t. plus_again t 0 refl)
  again_none (Some (Live s o)) is (u, x_is, sent) = visits_alike sending_again same s u o is x_is sent.step
      (sym (none_is s o (sent.none.0 refl)), (u, refl, running_is u s.session s.session.end.acked sent.step sent.turned))
      (λ t. plus_again t (again_at (Some (Live s o))) (none_is s o (sent.none.0 refl)))
  again_none (Some (Shadow away)) is at = visits_idle sending_again same (Some (Shadow away)) is at.1 (refl, refl) (λ t. plus_again t 0 refl)

  pub next_none : (y : Option Place) → place_at f.places.places n ≡ y → AtPlace SentNext y None x → Visits slicing n f p g p
  next_none None is at = visits_idle slicing same None is at.1 (refl, refl) (λ t. refl)
  next_none (Some (Live s o)) is (u, x_is, sent) = visits_alike slicing same s u o is x_is sent.step
      (refl, (u, refl, subst (SlicesOut s) (sym (running_is u s.session s.acked_at_turn sent.step sent.same_turn)) refl)) (λ t. refl)
  next_none (Some (Shadow away)) is at = visits_idle slicing same (Some (Shadow away)) is at.1 (refl, refl) (λ t. refl)

  pub answer_none : (y : Option Place) → place_at f.places.places n ≡ y → AtPlace SessionSentAnswer y None x → Visits answering n f p g p
  answer_none None is at = visits_idle answering same None is at.1 (refl, refl) (λ t. plus_answers t 0 refl)
  answer_none (Some (Live s o)) is (u, x_is, sent) =
      let not : s.session.end.owed ≡ false = by_owed s.session.end.owed refl in
      let none : answer_at (Some (Live s o)) ≡ 0 = ap (λ (b : Bool). let m : ℕ = if b then 1 else 0 in m) not in
      visits_alike answering same s u o is x_is sent.step (
        sym none,
        (
          u,
          refl,
          running_is u (record s.session { end = record s.session.end { owed = false } }) s.acked_at_turn
              (sent.step ∙ ap (λ (b : Bool). let v : SessionValue = record s.session { end = record s.session.end { owed = b } } in v) not) sent.same_turn,
        ),
      )
      (λ t. plus_answers t (answer_at (Some (Live s o))) none)
    where
      by_owed : (b : Bool) → s.session.end.owed ≡ b → s.session.end.owed ≡ false
      by_owed true is = absurd (false_true (sent.some.1 is))
      by_owed false is = is
  answer_none (Some (Shadow away)) is at = visits_idle answering same (Some (Shadow away)) is at.1 (refl, refl) (λ t. plus_answers t 0 refl)

  -- what was emitted where no new slice is left
  pub next_all : (y : Option Place) → place_at f.places.places n ≡ y → AtPlace SentNext y None x → AllNewOut x
  next_all None is at = subst AllNewOut (sym at.1) tt
  next_all (Some (Live s o)) is (u, x_is, sent) =
      subst AllNewOut (sym x_is) (subst (λ (v : SessionValue). v.end.emitted ≡ reach_of v.end) (sym sent.step) sent.all)
  next_all (Some (Shadow away)) is at = subst AllNewOut (sym at.1) tt

-- ---- what a session's call answers

pub sent_again_ok : {E : Type 0} (s u : RunningSession) (r : Result (Option Segment) E) → s.session.end.emitted ≤ length s.session.end.stream
    → IfOk r (λ a. IsNone a ↔ ((again_length s.session.end ≡ 0) ⊎ (s.acked_at_turn < s.session.end.acked)))
    → IfOk r (λ a. SessionEmitsIfAny EmitsAgain s.session a u.session) → IfOk r (λ a. SessionEmitsIfAny EmitsSlice s.session a u.session)
    → OnOk r (u.acked_at_turn ≡ s.session.end.acked) → IfOk r (λ a. SessionSentAgain s a u)
sent_again_ok s u (Ok a) within none step slice turned = record { none = none; within = within; step = step; slice = slice; turned = turned }
sent_again_ok s u (Err e) within none step slice turned = tt

pub sent_next_ok : {E : Type 0} (s u : RunningSession) (r : Result (Option Segment) E) → IfOk r (λ a. IsNone a ↔ (next_length s.session.end ≡ 0))
    → IfOk r (λ a. IfNone a (s.session.end.emitted ≡ reach_of s.session.end))
    → IfOk r (λ a. SessionEmitsIfAny EmitsNext s.session a u.session) → IfOk r (λ a. SessionEmitsIfAny EmitsSlice s.session a u.session)
    → OnOk r (u.acked_at_turn ≡ s.acked_at_turn) → IfOk r (λ a. SentNext s a u)
sent_next_ok s u (Ok a) none all step slice same = record { none = none; all = all; step = step; slice = slice; same_turn = same }
sent_next_ok s u (Err e) none all step slice same = tt

-- at the place of the session, which was lent
at_live : {A : Type 0} (Does : RunningSession → Option A → RunningSession → Type 0) (x : Option Place) (s u : RunningSession) (a : Option A)
    → live_in x ≡ Some s → Does s a u → AtPlace Does x a (with_live x u)
at_live Does None s u a lent does = absurd (some_none s (sym lent))
at_live Does (Some (Live v o)) s u a lent does = (u, refl, subst (λ (w : RunningSession). Does w a u) (let e : s ≡ v = cc in e) does)
at_live Does (Some (Shadow away)) s u a lent does = absurd (some_none s (sym lent))

module _ {A : Type 0} (Does : RunningSession → Option A → RunningSession → Type 0) (old : PlaceList Place) (n : ℕ) where
  pub lent_one : (s u : RunningSession) (a : Option A) → live_in (place_at old.places n) ≡ Some s → Does s a u
      → AtOne (λ x y. AtPlace Does x a y) old n (with_place old n (with_live (place_at old.places n) u))
  lent_one s u a lent does = record { place = with_live (place_at old.places n) u; goes = at_live Does (place_at old.places n) s u a lent does; stays = refl }

  pub lent_ok : {E : Type 0} (s u : RunningSession) (r : Result (Option A) E) → live_in (place_at old.places n) ≡ Some s → IfOk r (λ a. Does s a u)
      → IfOk r (λ a. AtOne (λ x y. AtPlace Does x a y) old n (with_place old n (with_live (place_at old.places n) u)))
  lent_ok s u r lent does = IfOk-weaker r _ _ (λ a. lent_one s u a lent) does

  -- no session is live there
  pub none_lent : live_in (place_at old.places n) ≡ None → AtOne (λ x y. AtPlace Does x None y) old n old
  none_lent none = record { place = place_at old.places n; goes = by_place (place_at old.places n) none; stays = sym (same_there old n) }
    where
      by_place : (x : Option Place) → live_in x ≡ None → AtPlace Does x None x
      by_place None none = (refl, refl)
      by_place (Some (Live s o)) none = absurd (some_none s none)
      by_place (Some (Shadow away)) none = (refl, refl)

-- what is sent has at most 1,024 bytes
pub short_again : (y x : Option Place) (segment : Segment) → AtPlace SessionSentAgain y (Some segment) x → length segment.bytes ≤ 1024
short_again None x segment at = absurd (some_none segment at.0)
short_again (Some (Live s o)) x segment (u, x_is, sent) = sent.slice.step.short
short_again (Some (Shadow away)) x segment at = absurd (some_none segment at.0)

pub short_next : (y x : Option Place) (segment : Segment) → AtPlace SentNext y (Some segment) x → length segment.bytes ≤ 1024
short_next None x segment at = absurd (some_none segment at.0)
short_next (Some (Live s o)) x segment (u, x_is, sent) = sent.slice.step.short
short_next (Some (Shadow away)) x segment at = absurd (some_none segment at.0)
