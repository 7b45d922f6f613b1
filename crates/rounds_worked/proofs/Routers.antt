-- Rounds of a router in which one field is false.
use Rattle.std.proofs.Common.{◌≡◌, ◌≢◌, ◌<◌, ◌≤◌, ◌+◌, max, ℕ, zero, suc, ◌==◌, Bool, true, false, cond, List, [], ◌∷◌, ◌++◌, drop, take}
use Rattle.std.proofs.Common.{length, Option, Some, None, is_some, refl, sym, ap, ◌∙◌, subst, inl, inr, ◌⊎◌, lit<, lit≤, arith}
use Rattle.std.specs.Prelude.{map}
use Rattle.std.specs.FinMap.{entries, empty, get, len-entries, len-empty, entries-from_sorted}
use Rattle.std.specs.Ordering.{nat_cmp}
use Rattle.std.specs.List.{AllByRecursion, enumerate_from}
use Rattle.std.proofs.lemmas.Bool.Decides.{nat_tests}
use Rattle.ring_net.specs.Deeds.{Climbs}
use Rattle.bgp_types.specs.FirstFault.{body_of, message_of}
use Rattle.bgp_types.specs.Header.{header_fault, frame_at}
use Rattle.bgp_types.specs.Many.{many, many_within}
use Rattle.bgp_types.specs.OpenBody.{cap_at, caps_of, params_of, open_of}
use Rattle.tcp_seq.specs.Endpoint.{Endpoint, Bytes, slice_at, run_from}
use Rattle.session_value.specs.Sessions.{SessionValue, unread}
use Rattle.bgp_story.specs.WorkedSessions.{ten}
use Rattle.session_value.specs.Fronts.{BeginsNothing}
use Rattle.session_value.specs.Sets.{Prefixes}
use Rattle.graft_model.specs.Points.{at}
use Rattle.graft_model.specs.Slices.{EmitsAt}
use Rattle.graft_model.specs.Setups.{Setup}
use Rattle.graft_model.specs.Parts.{Vacant, Live, Errand, Seg, RouterPart}
use Rattle.graft_model.specs.RouterRows.{IsLive, OutwardTo, SegmentIn, Emits, Strays}
use Rattle.graft_model.specs.declared.event.RouterEvent.{RouterEvent}
use Rattle.graft_actors.specs.Emissions.{IsOld, IsRested}
use Rattle.router_core.specs.Rested.{IsDone, IsQuietPlace, RestedRouter}
use Rattle.router_core.specs.Rounds as rounds
use Rattle.router_core.specs.Rounds.{RouterGoes, EmitsSome}
use Rattle.router_core.specs.Turned as turned
use Rattle.router_core.specs.Turned.{stage_of, rounds_on, emits_on}
use Rattle.real_rounds.specs.Ends as ends
use Rattle.real_rounds.specs.Routers.{StaysLive, HoldRuns, RealRouter}
use Rattle.graft_worked.specs.Base.{base}
use Rattle.graft_worked.specs.Places.{idle_router}
use Rattle.graft_worked.specs.First.{session_first}
use Rattle.graft_worked.specs.Graft.{ten_alone, said_all}
use Rattle.graft_worked.specs.Others.{beating}
use Rattle.graft_worked.specs.Start.{a_with, ack_segment}
use Rattle.graft_worked.proofs.Points.{at-at, at_all}
use Rattle.graft_worked.proofs.GraftEnds.{nothing_begins}
use Rattle.graft_worked.proofs.Tens.{got_none, got_it}
use Rattle.rounds_worked.specs.Routers.{RouterField, Is, Takes, Sends, Works, InOrder, Rested, GoesOn, Ticks, NoField}
use Rattle.rounds_worked.specs.Routers.{RealRouterBut, FalseAloneInRouter, undecided, open_unsent, waiting_session, waiting}
use Rattle.rounds_worked.specs.Routers.{timed_session, timed, all_octets, ten_octets, other_octets, stray}
use Rattle.rounds_worked.proofs.Marks.{heads, apart, less}

-- ---- all fields, and all but one

pub router_of : (setup : Setup) (r round : ℕ) (start : RouterPart) (events : List RouterEvent) (end : RouterPart)
    → RealRouterBut NoField setup r round start events end → RealRouter setup r round start events end
router_of setup r round start events end b = record {
  taken = b.taken;
  again = b.again;
  work = b.work;
  is = b.is (λ e. cc);
  turning = b.turning;
  sent = b.sent;
  first = b.first;
  second = b.second;
  third = b.third;
  takes = b.takes (λ e. cc);
  sends = b.sends (λ e. cc);
  works = b.works (λ e. cc);
  in_order = b.in_order (λ e. cc);
  rested = b.rested (λ e. cc);
  few = b.few (λ e. cc);
  goes_on = b.goes_on (λ e. cc);
  numbered = b.numbered (λ e. cc);
  ticks = b.ticks (λ e. cc);
}

pub of_router : (but : RouterField) (setup : Setup) (r round : ℕ) (start : RouterPart) (events : List RouterEvent) (end : RouterPart)
    → RealRouter setup r round start events end → RealRouterBut but setup r round start events end
of_router but setup r round start events end h = record {
  taken = h.taken;
  again = h.again;
  work = h.work;
  is = λ other. h.is;
  turning = h.turning;
  sent = h.sent;
  first = h.first;
  second = h.second;
  third = h.third;
  takes = λ other. h.takes;
  sends = λ other. h.sends;
  works = λ other. h.works;
  in_order = λ other. h.in_order;
  rested = λ other. h.rested;
  few = λ other. h.few;
  goes_on = λ other. h.goes_on;
  numbered = λ other. h.numbered;
  ticks = λ other. h.ticks;
}

-- ---- what a round of events may be

pub goes_nowhere : (setup : Setup) (r : ℕ) (Allowed : RouterPart → RouterEvent → Type 0) (before after : RouterPart) (parts : List RouterPart)
    → RouterGoes setup r Allowed before [] parts after → after ≡ before
goes_nowhere setup r Allowed before after [] g = g
goes_nowhere setup r Allowed before after (part ∷ parts) g = absurd g

pub is_allowed : (setup : Setup) (r : ℕ) (Allowed : RouterPart → RouterEvent
    → Type 0) (before after : RouterPart) (x : RouterEvent) (xs : List RouterEvent) (parts : List RouterPart)
    → RouterGoes setup r Allowed before (x ∷ xs) parts after → Allowed before x
is_allowed setup r Allowed before after x xs [] g = absurd g
is_allowed setup r Allowed before after x xs (part ∷ parts) g = g.3

-- the first event is made as an item is taken, or sends an old slice again, or is the first of the work
abbrev FirstIs : Setup → ℕ → RouterPart → RouterEvent → List RouterEvent → Type 0
FirstIs setup r start x xs = (stage_of x ≡ 0) ⊎ (rounds.RouterRetransmits start x ⊎ (rounds.IsNewWork setup r start x × Climbs 1 (map stage_of (x ∷ xs))))

first_from : (setup : Setup) (r : ℕ) (start turning sent end : RouterPart) (x : RouterEvent) (xs taken again work : List RouterEvent)
    (first second third : List RouterPart)
    → x ∷ xs ≡ taken ++ (again ++ work) → RouterGoes setup r turned.IsRouterTake start taken first turning
    → RouterGoes setup r rounds.RouterRetransmits turning again second sent
    → RouterGoes setup r (rounds.IsNewWork setup r) sent work third end → Climbs 1 (map stage_of work) → FirstIs setup r start x xs
first_from setup r start turning sent end x xs (y ∷ taken) again work first second third e takes sends works order =
    inl (subst (λ z. stage_of z ≡ 0) (sym (heads _ _ _ _ e)) (is_allowed setup r turned.IsRouterTake _ _ y _ first takes))
first_from setup r start turning sent end x xs [] (y ∷ again) work first second third e takes sends works order =
    inr (inl (subst (rounds.RouterRetransmits start) (sym (heads _ _ _ _ e)) (subst (λ part. rounds.RouterRetransmits part y)
    (goes_nowhere setup r turned.IsRouterTake _ _ first takes) (is_allowed setup r rounds.RouterRetransmits _ _ y _ second sends))))
first_from setup r start turning sent end x xs [] [] (y ∷ work) first second third e takes sends works order =
    inr (inr (
      subst (rounds.IsNewWork setup r start) (sym (heads _ _ _ _ e))
          (subst (λ part. rounds.IsNewWork setup r part y)
          (goes_nowhere setup r rounds.RouterRetransmits _ _ second sends ∙ goes_nowhere setup r turned.IsRouterTake _ _ first
          takes) (is_allowed setup r (rounds.IsNewWork setup r) _ _ y _ third works)),
      subst (λ events. Climbs 1 (map stage_of events)) (sym e) order,
    ))
first_from setup r start turning sent end x xs [] [] [] first second third e takes sends works order = absurd cc

first_is : (setup : Setup) (r round : ℕ) (start end : RouterPart) (x : RouterEvent) (xs : List RouterEvent) → RealRouter setup r round start (x ∷ xs) end
    → FirstIs setup r start x xs
first_is setup r round start end x xs h = first_from setup r start h.turning h.sent end x xs h.taken h.again h.work h.first h.second h.third h.is h.takes
    h.sends h.works h.in_order

-- where nothing happens, a session that is live stands there all the time
record NothingDone (p round : ℕ) (start end : RouterPart) (parts : List RouterPart) (again work : List RouterEvent) (s : SessionValue) : Type 0 where
  stands : StaysLive p start parts end s s
  none_again : emits_on p again ≡ 0
  none_passes : rounds_on p work ≡ []

nothing_from : (setup : Setup) (r round p : ℕ) (s : SessionValue) (o : Option Errand) (start turning sent end : RouterPart)
    (taken again work : List RouterEvent) (first second third : List RouterPart)
    → IsLive start p s o → [] ≡ taken ++ (again ++ work) → RouterGoes setup r turned.IsRouterTake start taken first turning
    → RouterGoes setup r rounds.RouterRetransmits turning again second sent
    → RouterGoes setup r (rounds.IsNewWork setup r) sent work third end → NothingDone p round start end (first ++ (second ++ third)) again work s
nothing_from setup r round p s o start turning sent end [] [] [] [] [] [] live e takes sends works = record {
  stands = record {
    first_order = o;
    last_order = o;
    starts = live;
    ends = subst (λ part. IsLive part p s o) (sym (works ∙ (sends ∙ takes))) live;
    throughout
        = ((s, o, live), tt);
  };
  none_again = refl;
  none_passes = refl;
}
nothing_from setup r round p s o start turning sent end (x ∷ taken) again work first second third live e takes sends works = absurd cc
nothing_from setup r round p s o start turning sent end [] (x ∷ again) work first second third live e takes sends works = absurd cc
nothing_from setup r round p s o start turning sent end [] [] (x ∷ work) first second third live e takes sends works = absurd cc
nothing_from setup r round p s o start turning sent end [] [] [] (x ∷ first) second third live e takes sends works = absurd takes
nothing_from setup r round p s o start turning sent end [] [] [] [] (x ∷ second) third live e takes sends works = absurd sends
nothing_from setup r round p s o start turning sent end [] [] [] [] [] (x ∷ third) live e takes sends works = absurd works

-- ---- where a session is

pub zero_not : (n : ℕ) → (0 == suc n) ≡ false
zero_not n = grind (arith, nat_tests)

beyond_zero : (p : ℕ) → (suc p == 0) ≡ false
beyond_zero p = grind (arith, nat_tests)

-- a router with one session has it at peering 0
held_at : (w s : SessionValue) (o : Option Errand) (p : ℕ) → IsLive (a_with w) p s o → (p ≡ 0) × (w ≡ s)
held_at w s o zero live = let e : Live w None ≡ Live s o = live.is in (refl, cc)
held_at w s o (suc p) live = let e : Vacant ≡ Live s o = sym (ap (λ t. cond t (Live w None) Vacant) (beyond_zero p)) ∙ live.is in absurd cc

none_at_idle : (p : ℕ) (s : SessionValue) (o : Option Errand) → IsLive idle_router p s o → ⊥
none_at_idle p s o live = let e : Vacant ≡ Live s o = live.is in absurd cc

no_list : {A : Type 0} (xs : List A) → length xs ≡ 0 → xs ≡ []
no_list [] e = refl
no_list (x ∷ xs) e = absurd (omega (arith, e))

none_arrived : entries (empty {X = ℕ} {R = nat_cmp}) ≡ []
none_arrived = no_list _ (sym (len-entries (empty {X = ℕ} {R = nat_cmp})) ∙ len-empty nat_cmp ℕ)

nothing_unread : (s : SessionValue) → s.end.arrived ≡ empty → unread s ≡ drop s.end.read []
nothing_unread s e = ap (λ (b : Bytes). drop s.end.read (run_from 0 (entries b))) e ∙ ap (λ (es : List (ℕ × ℕ)). drop s.end.read (run_from 0 es)) none_arrived

-- ---- routers at rest

rested_with : (s : SessionValue) → unread s ≡ [] → IsRested s.end → (setup : Setup) → RestedRouter setup 0 (a_with s)
rested_with s all rest setup = record {
  clean = refl;
  due_in = λ q. refl;
  quiet = at_all IsQuietPlace Vacant 0 (Live s None) tt (tt, (λ closed. subst BeginsNothing (sym all) nothing_begins), rest);
  done = λ p. at_all (IsDone setup 0 (a_with s) p) Vacant 0 (Live s None) refl (inl refl) p;
}

idle_rested : RestedRouter base 0 idle_router
idle_rested = record { clean = refl; due_in = λ q. refl; quiet = λ p. tt; done = λ p. refl }

waiting_rested : RestedRouter base 0 waiting
waiting_rested = rested_with waiting_session (nothing_unread waiting_session refl) (record { emitted = refl; answered = refl }) base

-- ---- no hold time runs on a session whose OPEN was put alone

no_hold : (n : ℕ) → HoldRuns (record session_first { end = record session_first.end { emitted = n } }) → ⊥
unfolding header_fault
no_hold n runs = let e : ◌≡◌ {A = Bool} false true = runs.up in absurd cc

-- ---- segments that are emitted

abbrev emitted_to : ℕ → SessionValue
emitted_to n = record session_first { end = record session_first.end { emitted = n } }

-- a slice of the outstanding or the next bytes may be emitted
pub emits_at : (e : Endpoint) (from len : ℕ) → e.acked ≤ from → from ≤ e.emitted → 0 < len → len ≤ 1024 → from + len ≤ length e.stream
    → from + len ≤ e.acked + 15360
    → length (take len (drop from e.stream)) ≡ len → EmitsAt from len e (slice_at e from len) (record e { emitted = max e.emitted (from + len) })
emits_at e from len above to some short within flight size = record {
  offset = refl;
  size = size;
  emits = inl (record {
    from = above;
    to = to;
    some = subst (λ n. 0 < n) (sym size) some;
    short = subst (λ n. n ≤ 1024) (sym size) short;
    within = subst (λ n. from + n ≤ length e.stream) (sym size) within;
    flight = subst (λ n. from + n ≤ e.acked + 15360) (sym size) flight;
    slice = ap (slice_at e from) (sym size);
    rises = ap (λ n. record e { emitted = max e.emitted (from + n) }) (sym size);
  });
}

emits : (s : SessionValue) (from len : ℕ) → EmitsAt from len s.end (slice_at s.end from len) (record s.end { emitted = max s.end.emitted (from + len) })
    → Emits 0 from len (a_with s) None (OutwardTo 0 (Seg (slice_at s.end from len)) ∷ [])
    (a_with (record s { end = record s.end { emitted = max s.end.emitted (from + len) } }))
emits s from len may = record {
  session = s;
  errand = None;
  live = record { is = refl };
  segment = slice_at s.end from len;
  end = record s.end { emitted = max s.end.emitted (from + len) };
  emits = may;
  takes = refl;
  sends = refl;
  effect = λ i. record (a_with (record s { end = record s.end { emitted = max s.end.emitted (from + len) } })) {
    places = sym (at-at (λ p. Vacant) 0 (Live s None) (Live (record s { end = record s.end { emitted = max s.end.emitted (from + len) } }) None)) i;
  };
}

emits_all : Emits 0 0 29 open_unsent None (OutwardTo 0 (Seg (slice_at session_first.end 0 29)) ∷ []) waiting
emits_all = emits session_first 0 29 (emits_at session_first.end 0 29 (lit≤ tt) (lit≤ tt) (lit< tt) (lit≤ tt) (lit≤ tt) (lit≤ tt) refl)

emits_again : Emits 0 0 29 waiting None (OutwardTo 0 (Seg (slice_at waiting_session.end 0 29)) ∷ []) waiting
emits_again = emits waiting_session 0 29 (emits_at waiting_session.end 0 29 (lit≤ tt) (lit≤ tt) (lit< tt) (lit≤ tt) (lit≤ tt) (lit≤ tt) refl)

-- ---- rounds in which nothing happens

still : (but : RouterField) (setup : Setup) (round : ℕ) (part : RouterPart) (events : List RouterEvent) → (but ≢ Is → events ≡ []) → (but ≢ Rested
    → RestedRouter setup 0 part)
    → (but ≢ GoesOn → (p : ℕ) (s u : SessionValue) → StaysLive p part [] part s u → ends.AcksOrResends s.end u.end 0)
    → (but ≢ Ticks → (p : ℕ) (s u : SessionValue) → StaysLive p part [] part s u → HoldRuns s → ⊥) → RealRouterBut but setup 0 round part events part
still but setup round part events is rested goes_on untimed = record {
  taken = [];
  again = [];
  work = [];
  is = is;
  turning = part;
  sent = part;
  first = [];
  second = [];
  third = [];
  takes = λ other. refl;
  sends = λ other. refl;
  works = λ other. refl;
  in_order = λ other. tt;
  rested = rested;
  few = λ other p. lit≤ tt;
  goes_on = goes_on;
  numbered = λ other p. tt;
  ticks = λ other p s u stands holds. absurd (untimed other p s u stands holds);
}

pub idle_real : RealRouter base 0 1 idle_router [] idle_router
idle_real = router_of base 0 1 idle_router [] idle_router (still NoField base 1 idle_router [] (λ other. refl) (λ other. idle_rested)
    (λ other p s u stands. absurd (none_at_idle p s _ stands.starts)) (λ other p s u stands holds. none_at_idle p s _ stands.starts))

pub no_stage : (n : ℕ) → suc n ≡ 0 → ⊥
no_stage n e = absurd (omega (arith, e))

-- what a router without a session may not emit
nothing_to_emit : FirstIs base 0 idle_router all_octets [] → ⊥
nothing_to_emit (inl stage) = no_stage 6 stage
nothing_to_emit (inr (inl old)) = none_at_idle 0 _ _ old.live
nothing_to_emit (inr (inr new)) = none_at_idle 0 _ _ new.0.live

pub another_event : FalseAloneInRouter Is base 1 idle_router (all_octets ∷ []) idle_router
another_event = (
  still Is base 1 idle_router (all_octets ∷ []) (λ other. absurd (other refl)) (λ other. idle_rested)
      (λ other p s u stands. absurd (none_at_idle p s _ stands.starts)) (λ other p s u stands holds. none_at_idle p s _ stands.starts),
  λ h. nothing_to_emit (first_is base 0 1 idle_router idle_router all_octets [] h),
)

not_decided : ◌≡◌ {A = Prefixes} ten_alone empty → ⊥
not_decided e = let apart : ◌≡◌ {A = Bool} false true = ap is_some (sym (got_none ten) ∙ (ap (λ (set : Prefixes). get set ten) (sym e) ∙ got_it tt)) in cc

none_at_undecided : (p : ℕ) (s : SessionValue) (o : Option Errand) → IsLive undecided p s o → ⊥
none_at_undecided p s o live = let e : Vacant ≡ Live s o = live.is in absurd cc

pub left_undecided : FalseAloneInRouter Rested base 1 undecided [] undecided
left_undecided = (
  still Rested base 1 undecided [] (λ other. refl) (λ other. absurd (other refl))
      (λ other p s u stands. absurd (none_at_undecided p s _ stands.starts)) (λ other p s u stands holds. none_at_undecided p s _ stands.starts),
  λ h. not_decided h.rested.clean,
)

untimed : (n p : ℕ) (s u : SessionValue) (parts : List RouterPart) (end : RouterPart) → StaysLive p (a_with (emitted_to n)) parts end s u → HoldRuns s → ⊥
untimed n p s u parts end stands holds = no_hold n (subst HoldRuns (sym (held_at (emitted_to n) s _ p stands.starts).1) holds)

nothing_sent : RealRouter base 0 1 waiting [] waiting → ⊥
nothing_sent h =
    let n = nothing_from base 0 1 0 waiting_session None waiting h.turning h.sent waiting h.taken h.again h.work h.first h.second h.third
    (record { is = refl }) h.is h.takes h.sends h.works in
    elim (h.goes_on 0 waiting_session waiting_session n.stands (lit< tt)) [
      | inl more ↦ less 0 1 (lit< tt) more
      | inr again ↦ apart 0 1 (lit< tt) (sym n.none_again ∙ again)
    ]

pub not_sent_again : FalseAloneInRouter GoesOn base 1 waiting [] waiting
not_sent_again = (
  still GoesOn base 1 waiting [] (λ other. refl) (λ other. waiting_rested) (λ other. absurd (other refl))
      (λ other p s u stands. untimed 29 p s u _ _ stands),
  nothing_sent,
)

-- ---- a hold time that runs

timed_unread : unread timed_session ≡ []
timed_unread = ap (λ (es : List (ℕ × ℕ)). drop 91 (run_from 0 es)) (entries-from_sorted nat_cmp (enumerate_from 0 said_all) tt)

hold_runs : HoldRuns timed_session
unfolding message_of header_fault frame_at body_of open_of many many_within cap_at caps_of params_of
hold_runs = record { up = refl; runs = lit< tt }

no_round : RealRouter beating 0 1 timed [] timed → ⊥
no_round h =
    let n = nothing_from beating 0 1 0 timed_session None timed h.turning h.sent timed h.taken h.again h.work h.first h.second h.third (record { is = refl })
    h.is h.takes h.sends h.works in
    apart 0 1 (lit< tt) (ap length (sym n.none_passes ∙ h.ticks 0 timed_session timed_session n.stands hold_runs hold_runs (lit≤ tt)))

pub round_never_passes : FalseAloneInRouter Ticks beating 1 timed [] timed
round_never_passes = (
  still Ticks beating 1 timed [] (λ other. refl) (λ other. rested_with timed_session timed_unread (record { emitted = refl; answered = refl }) beating)
      (λ other p s u stands out. let same = (held_at timed_session s _ p stands.starts).1 in absurd
      (less 48 49 (lit< tt) (subst (λ (x : SessionValue). x.end.acked < x.end.emitted) (sym same) out)))
      (λ other. absurd (other refl)),
  no_round,
)

-- ---- segments that may not be emitted at their stage

-- what the one session emits
kind_at : (w : SessionValue) (Kind : Endpoint → ℕ → ℕ → Type 0) (from len : ℕ) → EmitsSome Kind (a_with w) 0 from len → Kind w.end from len
kind_at w Kind from len e = subst (λ (x : SessionValue). Kind x.end from len) (sym (held_at w e.session e.errand 0 e.live).1) e.kind

-- a round of the session that has emitted so much, at the end of which all is emitted
moving : (but : RouterField) (n : ℕ) (events taken again work : List RouterEvent) (turning sent : RouterPart) (first second third : List RouterPart)
    → events ≡ taken ++ (again ++ work)
    → (but ≢ Takes → RouterGoes base 0 turned.IsRouterTake (a_with (emitted_to n)) taken first turning) → (but ≢ Sends
    → RouterGoes base 0 rounds.RouterRetransmits turning again second sent)
    → (but ≢ Works → RouterGoes base 0 (rounds.IsNewWork base 0) sent work third waiting) → (but ≢ InOrder → Climbs 1 (map stage_of work))
    → ((p : ℕ) → emits_on p again ≤ 1) → (0 < n → emits_on 0 again ≡ 1) → ((p : ℕ) → rounds_on p work ≡ [])
    → RealRouterBut but base 0 1 (a_with (emitted_to n)) events waiting
moving but n events taken again work turning sent first second third is takes sends works in_order few again_is none_passes = record {
  taken = taken;
  again = again;
  work = work;
  is = λ other. is;
  turning = turning;
  sent = sent;
  first = first;
  second = second;
  third = third;
  takes = takes;
  sends = sends;
  works = works;
  in_order = in_order;
  rested = λ other. waiting_rested;
  few = λ other. few;
  goes_on = λ other p s u stands out. let at = held_at (emitted_to n) s _ p stands.starts in
      inr (subst (λ q. emits_on q again ≡ 1) (sym at.0) (again_is (subst (λ (x : SessionValue). x.end.acked < x.end.emitted) (sym at.1) out)));
  numbered = λ other p. subst (AllByRecursion (λ k. k ≡ 1)) (sym (none_passes p)) tt;
  ticks = λ other p s u stands holds. absurd (untimed n p s u _ _ stands holds);
}

-- the first ten octets of the OPEN where all are outstanding: an old slice has them all
no_first_ten : FirstIs base 0 waiting ten_octets [] → ⊥
no_first_ten (inl stage) = no_stage 6 stage
no_first_ten (inr (inl old)) = apart 10 29 (lit< tt) (kind_at waiting_session IsOld 0 10 old).all
no_first_ten (inr (inr new)) = apart 0 29 (lit< tt) (kind_at waiting_session rounds.IsNewOrOwed 0 10 new.0).next

one_at_most : (p : ℕ) → emits_on p (ten_octets ∷ []) ≤ 1
one_at_most zero = lit≤ tt
one_at_most (suc p) = subst (λ t. 0 + cond t 1 0 ≤ 1) (sym (zero_not p)) (lit≤ tt)

pub short_again : FalseAloneInRouter Sends base 1 waiting (ten_octets ∷ []) waiting
short_again = (
  moving Sends 29 (ten_octets ∷ []) [] (ten_octets ∷ []) [] waiting waiting [] [] [] refl (λ other. refl) (λ other. absurd (other refl)) (λ other. refl)
      (λ other. tt)
      (λ p. one_at_most p) (λ some. refl) (λ p. refl),
  λ h. no_first_ten (first_is base 0 1 waiting waiting ten_octets [] h),
)

-- the same where none is outstanding: a new slice has them all
no_ten_alone : FirstIs base 0 open_unsent ten_octets (other_octets ∷ []) → ⊥
no_ten_alone (inl stage) = no_stage 6 stage
no_ten_alone (inr (inl old)) = less 0 1 (lit< tt) (kind_at session_first IsOld 0 10 old).out
no_ten_alone (inr (inr new)) = elim (kind_at session_first rounds.IsNewOrOwed 0 10 new.0).all [
  | inl full ↦ apart 10 1024 (lit< tt) full
  | inr end ↦ apart 10 29 (lit< tt) end
]

pub short_slices : FalseAloneInRouter Works base 1 open_unsent (ten_octets ∷ other_octets ∷ []) waiting
short_slices = (
  moving Works 0 (ten_octets ∷ other_octets ∷ []) [] [] (ten_octets ∷ other_octets ∷ []) open_unsent open_unsent [] [] [] refl (λ other. refl) (λ other. refl)
      (λ other. absurd (other refl))
      (λ other. (lit≤ tt, (lit≤ tt, tt))) (λ p. lit≤ tt) (λ some. absurd (less 0 1 (lit< tt) some)) (λ p. refl),
  λ h. no_ten_alone (first_is base 0 1 open_unsent waiting ten_octets (other_octets ∷ []) h),
)

-- nothing is taken behind a new slice
not_behind : FirstIs base 0 open_unsent all_octets (stray ∷ []) → ⊥
not_behind (inl stage) = no_stage 6 stage
not_behind (inr (inl old)) = less 0 1 (lit< tt) (kind_at session_first IsOld 0 29 old).out
not_behind (inr (inr new)) = less 0 7 (lit< tt) new.1.1.0

pub emitted_among_takes : FalseAloneInRouter Takes base 1 open_unsent (all_octets ∷ stray ∷ []) waiting
emitted_among_takes = (
  moving Takes 0 (all_octets ∷ stray ∷ []) (all_octets ∷ stray ∷ []) [] [] waiting waiting [] [] [] refl (λ other. absurd (other refl)) (λ other. refl)
      (λ other. refl) (λ other. tt)
      (λ p. lit≤ tt) (λ some. absurd (less 0 1 (lit< tt) some)) (λ p. refl),
  λ h. not_behind (first_is base 0 1 open_unsent waiting all_octets (stray ∷ []) h),
)

strays : Strays 1 waiting (Some (SegmentIn 1 ack_segment)) [] waiting
strays = record { absent = λ s o live. let e : Vacant ≡ Live s o = live.is in absurd cc; segment = ack_segment; takes = refl; sends = refl; stays = refl }

pub taken_behind_work : FalseAloneInRouter InOrder base 1 open_unsent (all_octets ∷ stray ∷ []) waiting
taken_behind_work = (
  moving InOrder 0 (all_octets ∷ stray ∷ []) [] [] (all_octets ∷ stray ∷ []) open_unsent open_unsent [] []
      (waiting ∷ waiting ∷ []) refl (λ other. refl) (λ other. refl)
      (λ other. (
        None,
        _,
        emits_all,
        record { session = session_first; errand = None; live = record { is = refl }; kind = record { next = refl; all = inr refl } },
        (Some (SegmentIn 1 ack_segment), [], strays, tt, refl),
      ))
      (λ other. absurd (other refl)) (λ p. lit≤ tt) (λ some. absurd (less 0 1 (lit< tt) some)) (λ p. refl),
  λ h. not_behind (first_is base 0 1 open_unsent waiting all_octets (stray ∷ []) h),
)

-- ---- rounds that are real

pub sends_new : RealRouter base 0 1 open_unsent (all_octets ∷ []) waiting
sends_new = router_of base 0 1 open_unsent (all_octets ∷ []) waiting
    (moving NoField 0 (all_octets ∷ []) [] [] (all_octets ∷ []) open_unsent open_unsent [] [] (waiting ∷ []) refl (λ other. refl) (λ other. refl)
    (λ other. (
      None,
      _,
      emits_all,
      record {
        session = session_first;
        errand = None;
        live = record { is = refl };
        kind = record
            { next = refl; all = inr refl };
      },
      refl,
    ))
    (λ other. (lit≤ tt, tt)) (λ p. lit≤ tt) (λ some. absurd (less 0 1 (lit< tt) some)) (λ p. refl))

pub sends_again : RealRouter base 0 1 waiting (all_octets ∷ []) waiting
sends_again = router_of base 0 1 waiting (all_octets ∷ []) waiting
    (moving NoField 29 (all_octets ∷ []) [] (all_octets ∷ []) [] waiting waiting [] (waiting ∷ []) [] refl (λ other. refl)
    (λ other. (
      None,
      _,
      emits_again,
      record {
        session = waiting_session;
        errand = None;
        live = record { is = refl };
        kind = record
            { first = refl; out = lit< tt; all = refl };
      },
      refl,
    ))
    (λ other. refl) (λ other. tt) (λ p. one_at_most p) (λ some. refl) (λ p. refl))
