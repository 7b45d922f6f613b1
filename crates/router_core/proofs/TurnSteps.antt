-- A turn is its stages, one after another.
use Rattle.std.proofs.Common.{◌≡◌, ℕ, ◌+◌, ◌<◌, ◌≤◌, List, [], ◌∷◌, ◌++◌, Option, option_map, Some, None, Bool}
use Rattle.std.proofs.Common.{true, false, refl, sym, ap, subst, ◌∙◌, arith, inl, inr, ◌⊎◌, map}
use Rattle.std.proofs.lemmas.List.{append-nil}
use Rattle.std.specs.Prelude.{nat_lt, if◌then◌else◌}
use Rattle.std.proofs.lemmas.Bool.{lt-ltb, le-ltb}
use Rattle.tcp_seq.specs.Endpoint.{again_length}
use Rattle.ring_net.specs.Deeds.{Climbs}
use Rattle.ring_net.specs.declared.post.Post.{Post}
use Rattle.graft_steps.specs.declared.item.Item.{Item}
use Rattle.router_core.specs.declared.place.Errand.{Errand}
use Rattle.session_value.specs.Sessions.{SessionValue}
use Rattle.session_value.specs.Sets.{Entries, Prefixes}
use Rattle.bgp_session.specs.Running.{RunningSession}
use Rattle.bgp_session.specs.Steps.{MayPass}
use Rattle.graft_model.specs.Setups.{Setup}
use Rattle.graft_model.specs.Parts as model
use Rattle.graft_model.specs.Parts.{RouterPart}
use Rattle.graft_model.specs.declared.event.RouterEvent.{RouterEvent}
use Rattle.graft_actors.specs.Emissions.{Tally, IsRested, zero_tally, reach_of}
use Rattle.router_core.specs.Parts.{router_part, KeepsPlace}
use Rattle.router_core.specs.Places.{place_of, place_at, errand_of, RunsAt}
use Rattle.settled_check.specs.Left.{AwaitsAtMost}
use Rattle.router_core.specs.Rested.{IsDone, IsQuietPlace, RestedRouter}
use Rattle.router_core.specs.Rounds.{RouterRetransmits, IsNewWork, DidAsRouter}
use Rattle.router_core.specs.Stages.{PlaceGoes, GraftGoes, WordGoes, PutsMore, IsLevel, EmitsAll, PassesWhereItMay}
use Rattle.router_core.specs.Stages.{again_at, answer_at, with_again, with_answers, SendsAgain, PassesRounds}
use Rattle.router_core.specs.Stages.{BeginsGrafts, DecidesAll, TellsAll, ConfirmsAll, PutsAll, EmitsEverywhere}
use Rattle.router_core.specs.Turned.{rounds_on, emits_on, answers_on, stage_of, TurnsSession, RouterTurnsOnce}
use Rattle.router_core.specs.Updates.{IsStuck, IsUnwritable}
use Rattle.router_core.specs.declared.fields.Fields.{Fields}
use Rattle.router_core.specs.declared.place.Errand.TheVariants.{Leaving, Owing, Asking}
use Rattle.router_core.specs.declared.place.Place.{Place}
use Rattle.router_core.specs.declared.place.Place.TheVariants.{Live, Shadow}
use Rattle.router_core.proofs.Dids.{did_same, did_then, round_at}
use Rattle.router_core.proofs.Goes.{GoesThrough, goes_again, goes_working}
use Rattle.router_core.proofs.RoundLists.{answers_behind, climbs_at, rounds_behind, rounds_none, rounds_on-append}

-- ---- a place through the stages

abbrev NotLive : Option Place → Type 0
NotLive None = Unit {0}
NotLive (Some (Live s o)) = ⊥
NotLive (Some (Shadow away)) = Unit {0}

-- its session is to go nowhere
abbrev NotLeaving : Option Place → Type 0
NotLeaving None = Unit {0}
NotLeaving (Some (Live s None)) = Unit {0}
NotLeaving (Some (Live s (Some (Leaving ids)))) = ⊥
NotLeaving (Some (Live s (Some (Owing landing)))) = Unit {0}
NotLeaving (Some (Live s (Some (Asking landing)))) = Unit {0}
NotLeaving (Some (Shadow away)) = Unit {0}

-- its session waits at most for an answer
abbrev WaitsAtMost : Option Place → Type 0
WaitsAtMost None = Unit {0}
WaitsAtMost (Some (Live s o)) = AwaitsAtMost (option_map errand_of o)
WaitsAtMost (Some (Shadow away)) = Unit {0}

abbrev AllOut : Option Place → Type 0
AllOut None = Unit {0}
AllOut (Some (Live s o)) = IsRested s.session.end
AllOut (Some (Shadow away)) = Unit {0}

not_live_on : (R : RunningSession → RunningSession → Type 0) (x y : Option Place) → PlaceGoes R x y → NotLive x → NotLive y
not_live_on R None y goes not = subst NotLive (sym goes) tt
not_live_on R (Some (Live s o)) y goes not = absurd not
not_live_on R (Some (Shadow away)) y goes not = subst NotLive (sym goes) tt

not_live_told : (x y : Option Place) → WordGoes x y → NotLive x → NotLive y
not_live_told None y goes not = subst NotLive (sym goes) tt
not_live_told (Some (Live s o)) y goes not = absurd not
not_live_told (Some (Shadow away)) y goes not = subst NotLive (sym goes) tt

not_leaving : (x y : Option Place) → GraftGoes x y → NotLeaving y
not_leaving None y goes = subst NotLeaving (sym goes) tt
not_leaving (Some (Live s None)) y goes = subst NotLeaving (sym goes) tt
not_leaving (Some (Live s (Some (Leaving ids)))) y (inl goes) = subst NotLeaving (sym goes) tt
not_leaving (Some (Live s (Some (Leaving ids)))) y (inr goes) = subst NotLeaving (sym goes) tt
not_leaving (Some (Live s (Some (Owing landing)))) y goes = subst NotLeaving (sym goes) tt
not_leaving (Some (Live s (Some (Asking landing)))) y goes = subst NotLeaving (sym goes) tt
not_leaving (Some (Shadow away)) y goes = subst NotLeaving (sym goes) tt

waits_first : (x y : Option Place) → NotLeaving x → WordGoes x y → WaitsAtMost y
waits_first None y stays goes = subst WaitsAtMost (sym goes) tt
waits_first (Some (Live s None)) y stays goes = subst WaitsAtMost (sym goes) tt
waits_first (Some (Live s (Some (Leaving ids)))) y stays goes = absurd stays
waits_first (Some (Live s (Some (Owing landing)))) y stays (inl (q, goes)) = subst WaitsAtMost (sym goes) tt
waits_first (Some (Live s (Some (Owing landing)))) y stays (inr goes) = subst WaitsAtMost (sym goes) tt
waits_first (Some (Live s (Some (Asking landing)))) y stays goes = subst WaitsAtMost (sym goes) tt
waits_first (Some (Shadow away)) y stays goes = subst WaitsAtMost (sym goes) tt

waits_on : (R : RunningSession → RunningSession → Type 0) (x y : Option Place) → PlaceGoes R x y → WaitsAtMost x → WaitsAtMost y
waits_on R None y goes waits = subst WaitsAtMost (sym goes) tt
waits_on R (Some (Live s o)) y (u, is, becomes) waits = subst WaitsAtMost (sym is) waits
waits_on R (Some (Shadow away)) y goes waits = subst WaitsAtMost (sym goes) tt

all_out : (x y : Option Place) → PlaceGoes EmitsAll x y → AllOut y
all_out None y goes = subst AllOut (sym goes) tt
all_out (Some (Live s o)) y (u, is, becomes) = subst AllOut (sym is) (record {
  emitted = ap (λ (v : RunningSession). v.session.end.emitted) becomes ∙ sym (ap (λ (v : RunningSession). reach_of v.session.end) becomes);
  answered = ap (λ (v : RunningSession). v.session.end.owed) becomes;
})
all_out (Some (Shadow away)) y goes = subst AllOut (sym goes) tt

quiet : (setup : Setup) (r p : ℕ) (entries : Entries) (due : Prefixes) (x : Option Place) → KeepsPlace setup r p entries due x → WaitsAtMost x
    → AllOut x → IsQuietPlace (place_of x)
quiet setup r p entries due None keeps waits out = tt
quiet setup r p entries due (Some (Live s o)) keeps waits out = (waits, keeps.1, out)
quiet setup r p entries due (Some (Shadow away)) keeps waits out = tt

-- what is emitted changes nothing of what is to be told
stuck_on : (setup : Setup) (r p n : ℕ) (part : RouterPart) (places : ℕ → model.Place) (s : SessionValue) (m : ℕ) (b : Bool) → IsStuck setup r part p s n
    → IsStuck setup r (record part { places = places }) p (record s { end = record s.end { emitted = m; owed = b } }) n
stuck_on setup r p n part places s m b h =
    record { established = h.established; batch = h.batch; next = h.next; writable = h.writable; size = h.size; above = h.above }

unwritable_on : (setup : Setup) (r p : ℕ) (part : RouterPart) (places : ℕ → model.Place) (s : SessionValue) (m : ℕ) (b : Bool) → IsUnwritable setup r part p s
    → IsUnwritable setup r (record part { places = places }) p (record s { end = record s.end { emitted = m; owed = b } })
unwritable_on setup r p part places s m b h = record { established = h.established; batch = h.batch; next = h.next; unwritable = h.unwritable }

done_live : (setup : Setup) (r p : ℕ) (part : RouterPart) (places : ℕ → model.Place) (s : SessionValue) (o : Option model.Errand) (m : ℕ) (b : Bool)
    → IsDone setup r part p (model.Live s o)
    → IsDone setup r (record part { places = places }) p (model.Live (record s { end = record s.end { emitted = m; owed = b } }) o)
done_live setup r p part places s o m b (inl none) = inl none
done_live setup r p part places s o m b (inr (inl (n, stuck))) = inr (inl (n, stuck_on setup r p n part places s m b stuck))
done_live setup r p part places s o m b (inr (inr not)) = inr (inr (unwritable_on setup r p part places s m b not))

done_on : (setup : Setup) (r p : ℕ) (part : RouterPart) (places : ℕ → model.Place) (x y : Option Place) → PlaceGoes EmitsAll x y
    → IsDone setup r part p (place_of x) → IsDone setup r (record part { places = places }) p (place_of y)
done_on setup r p part places None y goes done = subst (λ (z : Option Place). IsDone setup r (record part { places = places }) p (place_of z)) (sym goes) done
done_on setup r p part places (Some (Live s o)) y (u, is, becomes) done =
    subst (λ (z : Option Place). IsDone setup r (record part { places = places }) p (place_of z))
    (sym (is ∙ ap (λ (v : RunningSession). Some (Live v o)) becomes))
    (done_live setup r p part places s.session (option_map errand_of o) (reach_of s.session.end) false done)
done_on setup r p part places (Some (Shadow away)) y goes done =
    subst (λ (z : Option Place). IsDone setup r (record part { places = places }) p (place_of z)) (sym goes) done

-- ---- a session through the stages

abbrev session_in : RunningSession → Option Place → RunningSession
session_in x None = x
session_in x (Some (Live s o)) = s
session_in x (Some (Shadow away)) = x

live_same : (s u : RunningSession) (o q : Option Errand) → Some (Live s o) ≡ Some (Live u q) → s ≡ u
live_same s u o q e = ap (session_in s) e

-- the session is live at a place, whatever is to be done for its graft
abbrev IsLiveThere : RunningSession → Option Place → Type 0
IsLiveThere s y = (o : Option Errand) × (y ≡ Some (Live s o))

-- a session that is still live had no graft that began
still_live : (s : RunningSession) (o : Option Errand) (y : Option Place) → GraftGoes (Some (Live s o)) y → (NotLive y → ⊥) → IsLiveThere s y
still_live s None y goes live = (None, goes)
still_live s (Some (Leaving ids)) y (inl goes) live = (None, goes)
still_live s (Some (Leaving ids)) y (inr goes) live = absurd (live (subst NotLive (sym goes) tt))
still_live s (Some (Owing landing)) y goes live = (Some (Owing landing), goes)
still_live s (Some (Asking landing)) y goes live = (Some (Asking landing), goes)

live_told : (s : RunningSession) (o : Option Errand) (y : Option Place) → WordGoes (Some (Live s o)) y → IsLiveThere s y
live_told s None y goes = (None, goes)
live_told s (Some (Leaving ids)) y goes = (Some (Leaving ids), goes)
live_told s (Some (Owing landing)) y (inl (q, goes)) = (Some (Asking (record landing { next = q })), goes)
live_told s (Some (Owing landing)) y (inr goes) = (None, goes)
live_told s (Some (Asking landing)) y goes = (Some (Asking landing), goes)

record LivesOn (round : ℕ) (rounds : List ℕ) (s u : RunningSession) : Type 0 where
  acked : u.session.end.acked ≡ s.session.end.acked
  at_turn : u.acked_at_turn ≡ s.session.end.acked
  ticked : (MayPass s.session round × (rounds ≡ round ∷ [])) ⊎ ((¬ MayPass s.session round) × (rounds ≡ []))

level_rounds : (round : ℕ) (rounds : List ℕ) (s u v : RunningSession) → IsLevel s u
    → (MayPass u.session round × (rounds ≡ round ∷ [])) ⊎ ((¬ MayPass u.session round) × (rounds ≡ []) × (v ≡ u))
    → (MayPass s.session round × (rounds ≡ round ∷ [])) ⊎ ((¬ MayPass s.session round) × (rounds ≡ []))
level_rounds round rounds s u v level (inl h) = inl (subst (λ (x : SessionValue). MayPass x round) (ap (λ (x : RunningSession). x.session) level) h.0, h.1)
level_rounds round rounds s u v level (inr h) = inr (subst (λ (x : SessionValue). ¬ MayPass x round) (ap (λ (x : RunningSession). x.session) level) h.0, h.1)

-- the session at the start, after each stage that changes it, and at the end
lives_with : (round : ℕ) (rounds : List ℕ) (s s1 s2 s3 s4 u : RunningSession) → IsLevel s s1 → PassesWhereItMay round rounds s1 s2 → PutsMore s2 s3
    → EmitsAll s3 s4 → s4 ≡ u → LivesOn round rounds s u
lives_with round rounds s s1 s2 s3 s4 u level passed more all last = record {
  acked = sym (ap (λ (x : RunningSession). x.session.end.acked) last) ∙ ap (λ (x : RunningSession). x.session.end.acked) all ∙ more.acked
      ∙ passed.0.acked ∙ ap (λ (x : RunningSession). x.session.end.acked) level;
  at_turn = sym (ap (λ (x : RunningSession). x.acked_at_turn) last) ∙ ap (λ (x : RunningSession). x.acked_at_turn) all ∙ more.at_turn
      ∙ passed.0.at_turn ∙ ap (λ (x : RunningSession). x.acked_at_turn) level;
  ticked = level_rounds round rounds s s1 s2 level passed.1;
}

-- its place once a router is asked or the source is told, after the later stages, and at the end
lives_later : (round : ℕ) (rounds : List ℕ) (m h k : Option Place) (s s1 s2 u : RunningSession) (o q : Option Errand) → m ≡ Some (Live s2 o)
    → k ≡ Some (Live u q) → IsLevel s s1 → PassesWhereItMay round rounds s1 s2 → PlaceGoes PutsMore m h → PlaceGoes EmitsAll h k
    → LivesOn round rounds s u
lives_later round rounds m h k s s1 s2 u o q is end level passed puts emits =
    let (s3, h_is, more) = subst (λ (x : Option Place). PlaceGoes PutsMore x h) is puts in
    let (s4, k_is, all) = subst (λ (x : Option Place). PlaceGoes EmitsAll x k) h_is emits in
    lives_with round rounds s s1 s2 s3 s4 u level passed more all (live_same s4 u o q (sym k_is ∙ end))

-- a place before the turn, after each stage that changes places, and at the end
lives_on : (round : ℕ) (rounds : List ℕ) (a b c d m h k : Option Place) (s u : RunningSession) (o q : Option Errand) → a ≡ Some (Live s o)
    → k ≡ Some (Live u q) → PlaceGoes IsLevel a b → PlaceGoes (PassesWhereItMay round rounds) b c → GraftGoes c d
    → WordGoes d m → PlaceGoes PutsMore m h → PlaceGoes EmitsAll h k → LivesOn round rounds s u
lives_on round rounds a b c d m h k s u o q is end again passes grafts confirms puts emits =
    let (s1, b_is, level) = subst (λ (x : Option Place). PlaceGoes IsLevel x b) is again in
    let (s2, c_is, passed) = subst (λ (x : Option Place). PlaceGoes (PassesWhereItMay round rounds) x c) b_is passes in
    let live : NotLive d → ⊥ = λ not. subst NotLive end (not_live_on EmitsAll h k emits (not_live_on PutsMore m h puts (not_live_told d m confirms not))) in
    let (o1, d_is) = still_live s2 o d (subst (λ (x : Option Place). GraftGoes x d) c_is grafts) live in
    let (o2, m_is) = live_told s2 o1 m (subst (λ (x : Option Place). WordGoes x m) d_is confirms) in
    lives_later round rounds m h k s s1 s2 u o2 q m_is end level passed puts emits

-- ---- how much is sent

again_few : (x : Option Place) → again_at x ≤ 1
again_few None = omega arith
again_few (Some (Live s o)) = by_flags (nat_lt s.acked_at_turn s.session.end.acked) (nat_lt 0 (again_length s.session.end))
  where
    by_flags : (b c : Bool) → (if b then 0 else (if c then 1 else 0)) ≤ 1
    by_flags true c = omega arith
    by_flags false true = omega arith
    by_flags false false = omega arith
again_few (Some (Shadow away)) = omega arith

answer_few : (x : Option Place) → answer_at x ≤ 1
answer_few None = omega arith
answer_few (Some (Live s o)) = by_flag s.session.end.owed
  where
    by_flag : (b : Bool) → (if b then 1 else 0) ≤ 1
    by_flag true = omega arith
    by_flag false = omega arith
answer_few (Some (Shadow away)) = omega arith

again_once : (s : RunningSession) (o : Option Errand) → s.acked_at_turn ≡ s.session.end.acked → s.session.end.acked < s.session.end.emitted
    → again_at (Some (Live s o)) ≡ 1
again_once s o level out =
    ap (λ (b : Bool). let n : ℕ = if b then 0 else (if nat_lt 0 (again_length s.session.end) then 1 else 0) in n)
    (le-ltb s.acked_at_turn s.session.end.acked (omega (arith, level)))
    ∙ ap (λ (b : Bool). let n : ℕ = if b then 1 else 0 in n) (lt-ltb 0 (again_length s.session.end) (omega (arith, out)))

-- ---- the whole turn

-- f is the router before the turn, a after its turn was counted, and b to k after each stage
module _ (f a b c d e g m h k : Fields) (p0 p1 p2 p3 p4 p5 p6 p7 p8 : Post (Item RunningSession)) (counted : a ≡ record f { turns = f.turns + 1 })
    (again : SendsAgain a p0 b p1) (rounds : PassesRounds b p1 c p2) (grafts : BeginsGrafts c p2 d p3) (decides : DecidesAll d p3 e p4)
    (tells : TellsAll e p4 g p5) (confirms : ConfirmsAll g p5 m p6) (puts : PutsAll m p6 h p7) (emits : EmitsEverywhere h p7 k p8) where
  -- what each stage leaves
  b_same : b ≡ record f { turns = f.turns + 1; places = b.places }
  b_same = again.same ∙ ap (λ (x : Fields). let y : Fields = record x { places = b.places } in y) counted

  c_same : c ≡ record f { turns = f.turns + 1; places = c.places; rib = c.rib; due_out = c.due_out }
  c_same = rounds.same ∙ ap (λ (x : Fields). let y : Fields = record x { places = c.places; rib = c.rib; due_out = c.due_out } in y) b_same

  d_same : d ≡ record f { turns = f.turns + 1; places = d.places; rib = c.rib; due_out = d.due_out }
  d_same = grafts.same ∙ ap (λ (x : Fields). let y : Fields = record x { places = d.places; due_out = d.due_out } in y) c_same

  e_same : e ≡ record f { turns = f.turns + 1; places = d.places; rib = e.rib; due_in = e.due_in; due_out = e.due_out }
  e_same = decides.same ∙ ap (λ (x : Fields). let y : Fields = record x { rib = e.rib; due_in = e.due_in; due_out = e.due_out } in y) d_same

  g_same : g ≡ record f { turns = f.turns + 1; places = d.places; rib = e.rib; due_in = g.due_in; due_out = e.due_out }
  g_same = tells.same ∙ ap (λ (x : Fields). let y : Fields = record x { due_in = g.due_in } in y) e_same

  m_same : m ≡ record f { turns = f.turns + 1; places = m.places; rib = e.rib; due_in = g.due_in; due_out = e.due_out }
  m_same = confirms.same ∙ ap (λ (x : Fields). let y : Fields = record x { places = m.places } in y) g_same

  h_same : h ≡ record f { turns = f.turns + 1; places = h.places; rib = e.rib; due_in = g.due_in; due_out = h.due_out }
  h_same = puts.same ∙ ap (λ (x : Fields). let y : Fields = record x { places = h.places; due_out = h.due_out } in y) m_same

  k_same : k ≡ record f { turns = f.turns + 1; places = k.places; rib = e.rib; due_in = g.due_in; due_out = h.due_out }
  k_same = emits.same ∙ ap (λ (x : Fields). let y : Fields = record x { places = k.places } in y) h_same

  -- the places that deciding and telling leave alone
  g_places : (p : ℕ) → place_at g.places.places p ≡ place_at d.places.places p
  g_places p = ap (λ (x : Fields). place_at x.places.places p) g_same

  confirms_at : (p : ℕ) → WordGoes (place_at d.places.places p) (place_at m.places.places p)
  confirms_at p = subst (λ (x : Option Place). WordGoes x (place_at m.places.places p)) (g_places p) (confirms.places p)

  -- the events behind the stage of rounds, and those of the work
  abbrev behind : List RouterEvent
  behind = grafts.events ++ (decides.events ++ (tells.events ++ (confirms.events ++ (puts.events ++ emits.events))))

  abbrev work : List RouterEvent
  work = rounds.events ++ behind

  -- the tallies once old segments were sent again, and at the end
  abbrev sent : ℕ → Tally
  sent = with_again a (λ p. zero_tally)

  abbrev tally : ℕ → Tally
  tally = with_answers h sent

  did_again : DidAsRouter f p0 (λ p. zero_tally) again.events b p1 sent
  did_again =
      let counted_did : DidAsRouter f p0 (λ p. zero_tally) [] a p0 (λ p. zero_tally) = did_same f a p0 (λ p. zero_tally)
      (record { setup = ap (λ (x : Fields). x.known.setup) counted; number = ap (λ (x : Fields). x.number) counted }) (ap router_part counted) in
      did_then f a b p0 p0 p1 (λ p. zero_tally) (λ p. zero_tally) sent [] again.events counted_did (again.did (λ p. zero_tally))

  did_work : DidAsRouter b p1 sent work k p8 tally
  did_work =
      let told : List RouterEvent = confirms.events ++ (puts.events ++ emits.events) in
      did_then b c k p1 p2 p8 sent sent tally rounds.events behind (rounds.did sent)
      (did_then c d k p2 p3 p8 sent sent tally grafts.events (decides.events ++ (tells.events ++ told)) (grafts.did sent)
      (did_then d e k p3 p4 p8 sent sent tally decides.events (tells.events ++ told) (decides.did sent)
      (did_then e g k p4 p5 p8 sent sent tally tells.events told (tells.did sent)
      (did_then g m k p5 p6 p8 sent sent tally confirms.events (puts.events ++ emits.events) (confirms.did sent)
      (did_then m h k p6 p7 p8 sent sent tally puts.events emits.events (puts.did sent) (emits.did sent))))))

  did_all : DidAsRouter f p0 (λ p. zero_tally) (again.events ++ work) k p8 tally
  did_all = did_then f b k p0 p1 p8 (λ p. zero_tally) sent tally again.events work did_again did_work

  -- old segments first, and the work then
  sends : GoesThrough f.known.setup f.number.0 RouterRetransmits (router_part f) again.events (router_part b)
  sends = goes_again f.known.setup f.number.0 (router_part f) (router_part b)
      (λ p. zero_tally) sent again.events did_again.round again.at (λ p. ap (λ (n : ℕ). 0 + n) (sym (again.once p)))

  works : GoesThrough f.known.setup f.number.0 (IsNewWork f.known.setup f.number.0) (router_part b) work (router_part k)
  works = goes_working f.known.setup f.number.0 (router_part b) (router_part k) sent tally work
      (round_at f b sent tally work (router_part b) (router_part k) did_again.router did_work.round) (λ p. refl)

  in_order : Climbs 1 (map stage_of work)
  in_order =
      let told : List RouterEvent = confirms.events ++ (puts.events ++ emits.events) in
      let last : Climbs 6 (map stage_of emits.events) = subst (λ (es : List RouterEvent). Climbs 6 (map stage_of es))
      (append-nil emits.events) (climbs_at 6 7 emits.events [] (omega arith) emits.at tt) in
      climbs_at 1 1 rounds.events behind (omega arith) rounds.at
      (climbs_at 1 2 grafts.events (decides.events ++ (tells.events ++ told)) (omega arith) grafts.at
      (climbs_at 2 3 decides.events (tells.events ++ told) (omega arith) decides.at
      (climbs_at 3 4 tells.events told (omega arith) tells.at
      (climbs_at 4 5 confirms.events (puts.events ++ emits.events) (omega arith) confirms.at
      (climbs_at 5 6 puts.events emits.events (omega arith) puts.at last)))))

  -- the rounds of the turn are those of their stage
  rounds_are : (p : ℕ) → rounds_on p work ≡ rounds_on p rounds.events
  rounds_are p =
      let told : List RouterEvent = confirms.events ++ (puts.events ++ emits.events) in
      let none : rounds_on p behind ≡ [] =
      rounds_behind 2 p grafts.events (decides.events ++ (tells.events ++ told)) (λ e. omega (arith, e)) grafts.at
      ∙ rounds_behind 3 p decides.events (tells.events ++ told) (λ e. omega (arith, e)) decides.at
      ∙ rounds_behind 4 p tells.events told (λ e. omega (arith, e)) tells.at
      ∙ rounds_behind 5 p confirms.events (puts.events ++ emits.events) (λ e. omega (arith, e)) confirms.at
      ∙ rounds_behind 6 p puts.events emits.events (λ e. omega (arith, e)) puts.at
      ∙ rounds_none 7 p emits.events (λ e. omega (arith, e)) emits.at in
      rounds_on-append p rounds.events behind ∙ ap (λ (xs : List ℕ). rounds_on p rounds.events ++ xs) none ∙ append-nil (rounds_on p rounds.events)

  -- and so are its answers
  answers_are : (p : ℕ) → answers_on p work ≡ answers_on p emits.events
  answers_are p =
      let told : List RouterEvent = confirms.events ++ (puts.events ++ emits.events) in
      answers_behind 1 p rounds.events behind (λ e. omega (arith, e)) rounds.at
      ∙ answers_behind 2 p grafts.events (decides.events ++ (tells.events ++ told)) (λ e. omega (arith, e)) grafts.at
      ∙ answers_behind 3 p decides.events (tells.events ++ told) (λ e. omega (arith, e)) decides.at
      ∙ answers_behind 4 p tells.events told (λ e. omega (arith, e)) tells.at
      ∙ answers_behind 5 p confirms.events (puts.events ++ emits.events) (λ e. omega (arith, e)) confirms.at
      ∙ answers_behind 6 p puts.events emits.events (λ e. omega (arith, e)) puts.at

  few : (p : ℕ) → (emits_on p again.events ≤ 1) × (answers_on p work ≤ 1)
  few p = (
    subst (λ (n : ℕ). n ≤ 1) (sym (again.once p)) (again_few (place_at a.places.places p)),
    subst (λ (n : ℕ). n ≤ 1) (sym (answers_are p ∙ emits.once p)) (answer_few (place_at h.places.places p)),
  )

  session_turns : (p : ℕ) (s u : RunningSession) (o q : Option Errand) → RunsAt f.places.places p s o → RunsAt k.places.places p u q
      → TurnsSession k.turns p again.events work s u
  session_turns p s u o q before after =
      let start : place_at a.places.places p ≡ Some (Live s o) = ap (λ (x : Fields). place_at x.places.places p) counted ∙ before.is in
      let round : b.turns ≡ k.turns = ap (λ (x : Fields). x.turns) b_same ∙ sym (ap (λ (x : Fields). x.turns) k_same) in
      let passes : PlaceGoes (PassesWhereItMay k.turns (rounds_on p rounds.events)) (place_at b.places.places p) (place_at c.places.places p) =
      subst (λ (n : ℕ). PlaceGoes (PassesWhereItMay n (rounds_on p rounds.events)) (place_at b.places.places p) (place_at c.places.places p)) round
      (rounds.places p) in
      let on : LivesOn k.turns (rounds_on p rounds.events) s u =
      lives_on k.turns (rounds_on p rounds.events) (place_at a.places.places p) (place_at b.places.places p) (place_at c.places.places p)
      (place_at d.places.places p) (place_at m.places.places p) (place_at h.places.places p) (place_at k.places.places p)
      s u o q start after.is (again.places p) passes (grafts.places p) (confirms_at p) (puts.places p) (emits.places p) in
      record {
        acked = on.acked;
        at_turn = on.at_turn;
        again = λ level out. again.once p ∙ ap again_at start ∙ again_once s o level out;
        ticked = subst (λ (xs : List ℕ). (MayPass s.session k.turns × (xs ≡ k.turns ∷ [])) ⊎ ((¬ MayPass s.session k.turns) × (xs ≡ [])))
            (sym (rounds_are p)) on.ticked;
      }

  session_passes : (p : ℕ) (s : RunningSession) (o : Option Errand) → RunsAt f.places.places p s o
      → (MayPass s.session k.turns × (rounds_on p work ≡ k.turns ∷ [])) ⊎ ((¬ MayPass s.session k.turns) × (rounds_on p work ≡ []))
  session_passes p s o before =
      let start : place_at a.places.places p ≡ Some (Live s o) = ap (λ (x : Fields). place_at x.places.places p) counted ∙ before.is in
      let round : b.turns ≡ k.turns = ap (λ (x : Fields). x.turns) b_same ∙ sym (ap (λ (x : Fields). x.turns) k_same) in
      let passes : PlaceGoes (PassesWhereItMay k.turns (rounds_on p rounds.events)) (place_at b.places.places p) (place_at c.places.places p) =
      subst (λ (n : ℕ). PlaceGoes (PassesWhereItMay n (rounds_on p rounds.events)) (place_at b.places.places p) (place_at c.places.places p)) round
      (rounds.places p) in
      let (s1, b_is, level) = subst (λ (x : Option Place). PlaceGoes IsLevel x (place_at b.places.places p)) start (again.places p) in
      let (s2, c_is, passed) =
      subst (λ (x : Option Place). PlaceGoes (PassesWhereItMay k.turns (rounds_on p rounds.events)) x (place_at c.places.places p)) b_is passes in
      subst (λ (xs : List ℕ). (MayPass s.session k.turns × (xs ≡ k.turns ∷ [])) ⊎ ((¬ MayPass s.session k.turns) × (xs ≡ []))) (sym (rounds_are p))
      (level_rounds k.turns (rounds_on p rounds.events) s s1 s2 level passed.1)

  -- at the end
  same_setup : m.known.setup ≡ f.known.setup
  same_setup = ap (λ (x : Fields). x.known.setup) m_same

  same_number : m.number.0 ≡ f.number.0
  same_number = ap (λ (x : Fields). x.number.0) m_same

  done : (p : ℕ) → IsDone f.known.setup f.number.0 (router_part k) p ((router_part k).places p)
  done p =
      let at_h : IsDone f.known.setup f.number.0 (router_part h) p (place_of (place_at h.places.places p)) =
      subst (λ (s : Setup). IsDone s f.number.0 (router_part h) p (place_of (place_at h.places.places p))) same_setup
      (subst (λ (n : ℕ). IsDone m.known.setup n (router_part h) p (place_of (place_at h.places.places p))) same_number (puts.done p)) in
      subst (λ (x : RouterPart). IsDone f.known.setup f.number.0 x p (place_of (place_at k.places.places p))) (sym (ap router_part emits.same))
      (done_on f.known.setup f.number.0 p (router_part h) (λ q. place_of (place_at k.places.places q))
      (place_at h.places.places p) (place_at k.places.places p) (emits.places p) at_h)

  rested : RestedRouter f.known.setup f.number.0 (router_part k)
  rested = record {
    clean = ap (λ (x : Fields). x.rib.dirty) k_same ∙ decides.clean;
    due_in = λ q. ap (λ (x : Fields). (router_part x).due_in q) k_same ∙ tells.told q;
    quiet = λ p. quiet k.known.setup k.number.0 p _ _ (place_at k.places.places p) (emits.keeps.each p)
        (waits_on EmitsAll (place_at h.places.places p) (place_at k.places.places p) (emits.places p)
        (waits_on PutsMore (place_at m.places.places p) (place_at h.places.places p) (puts.places p)
        (waits_first (place_at d.places.places p) (place_at m.places.places p)
        (not_leaving (place_at c.places.places p) (place_at d.places.places p) (grafts.places p)) (confirms_at p))))
        (all_out (place_at h.places.places p) (place_at k.places.places p) (emits.places p));
    done = done;
  }

  pub turns_once : RouterTurnsOnce f p0 k p8
  turns_once = record {
    moved = record {
      deeds = did_all.deeds;
      wrote = did_all.wrote;
      none = did_all.none;
      replay = did_all.replay;
      moved = record {
        router = did_all.router;
        turns = ap (λ (x : Fields). x.turns) k_same;
        again = again.events;
        work = work;
        coded = did_all.coded;
        sent = router_part b;
        first = sends.0;
        later = works.0;
        sends = sends.1;
        works = works.1;
        in_order = in_order;
        rested = rested;
        few = few;
        passes = session_passes;
        sessions = session_turns;
      };
    };
    keeps = emits.keeps;
  }
