-- Takes of a router, one after another, and then its turn are a real round.
use Rattle.std.proofs.Common.{◌≡◌, ◌≢◌, ◌≤◌, ◌+◌, ℕ, List, [], ◌∷◌, ◌++◌, length, refl, ap, sym, subst, ◌∙◌, inl, inr, arith}
use Rattle.std.specs.Prelude.{Option, Some, None}
use Rattle.std.specs.List.{AllByRecursion}
use Rattle.std.proofs.Math.Path.{subst⁻¹}
use Rattle.ring_net.specs.Deeds.{Deed, Replay, TakesFirst}
use Rattle.router_core.specs.declared.place.Errand.{Errand}
use Rattle.bgp_session.specs.Running.{RunningSession, carried}
use Rattle.bgp_session.specs.Steps.{MayPass}
use Rattle.session_value.specs.Sessions.{SessionValue}
use Rattle.graft_model.specs.Parts as model
use Rattle.graft_model.specs.Parts.{RouterPart}
use Rattle.graft_model.specs.RouterRows.{IsLive}
use Rattle.graft_model.specs.Setups.{Setup}
use Rattle.graft_model.specs.declared.event.RouterEvent.{RouterEvent}
use Rattle.graft_actors.specs.Acts.{acts}
use Rattle.router_core.specs.Parts.{router_part, own_part}
use Rattle.router_core.specs.Places.{place_at, place_of, RunsAt}
use Rattle.router_core.specs.Rested.{RestedRouter}
use Rattle.router_core.specs.Rounds.{RouterRetransmits, IsNewWork, RouterGoes, SameRouter}
use Rattle.router_core.specs.Takes.{TookAsRouter, TakesRows, Stays}
use Rattle.router_core.specs.Turned.{RouterTurned, TurnsSession, IsRouterTake, rounds_on, emits_on}
use Rattle.router_core.specs.declared.fields.Fields.{Fields}
use Rattle.router_core.specs.declared.place.Place.{Place}
use Rattle.router_core.specs.declared.place.Place.TheVariants.{Live, Shadow}
use Rattle.router_core.proofs.Dids.{same_router, router_then}
use Rattle.router_core.proofs.RoundLists.{rounds_on-append}
use Rattle.world_nodes.specs.Nodes.{Mail}
use Rattle.real_rounds.proofs.Calls.{TurnsPassOne}
use Rattle.real_rounds.specs.Ends.{AcksOrResends}
use Rattle.real_rounds.specs.Routers.{HasLive, StaysLive, HoldRuns, RealRouter}
use Rattle.real_rounds.proofs.Goes.{goes_on}
use Rattle.real_rounds.proofs.RouterDeeds.{IsKept, took_welcome}
use Rattle.real_rounds.proofs.RouterRows.{LandsNobody, live_start, no_rounds_there}
use Rattle.real_rounds.proofs.RouterWays.{Anything, goes_anyhow, goes_append, through_both, none_taking, none_sending}
use Rattle.real_rounds.proofs.Lists.{all_front, all_back}
use Rattle.graft_actors.specs.Makes.{AreDeeds}
use Rattle.graft_model.specs.Codes.{router_code}
use Rattle.graft_actors.proofs.Deeds.{are_deeds-append}

-- ---- places

-- a session that is live in the model runs
pub runs_at : (f : Fields) (p : ℕ) (s : SessionValue) (o : Option model.Errand) → IsLive (router_part f) p s o
    → (v : RunningSession) × (q : Option Errand) × RunsAt f.places.places p v q × (v.session ≡ s)
runs_at f p s o live = by_place (place_at f.places.places p) refl
  where
    same : (v : RunningSession) (q : Option model.Errand) → model.Live v.session q ≡ model.Live s o → v.session ≡ s
    same v q e = cc

    by_place : (x : Option Place) → place_at f.places.places p ≡ x → (v : RunningSession) × (q : Option Errand) × RunsAt f.places.places p v q × (v.session ≡ s)
    by_place None e = absurd (let h : model.Vacant ≡ model.Live s o = ap place_of (sym e) ∙ live.is in cc)
    by_place (Some (Live v q)) e = (v, q, record { is = e }, same v _ (ap place_of (sym e) ∙ live.is))
    by_place (Some (Shadow away)) e = absurd (let h : model.Shadow away.graft ≡ model.Live s o = ap place_of (sym e) ∙ live.is in cc)

live_at : (f : Fields) (p : ℕ) (v : RunningSession) (q : Option Errand) → RunsAt f.places.places p v q → HasLive p (router_part f)
live_at f p v q runs = (v.session, _, record { is = ap place_of runs.is })

some_running : (f : Fields) (p : ℕ) → HasLive p (router_part f) → (v : RunningSession) × (q : Option Errand) × RunsAt f.places.places p v q
some_running f p (s, o, live) = let x = runs_at f p s o live in (x.0, x.1, x.2)

-- ---- several takes

stays_then : (s v u : RunningSession) → Stays s v → Stays v u → Stays s u
stays_then s v u x y = record { acked = omega (arith, x.acked, y.acked); emitted = y.emitted ∙ x.emitted; at_turn = y.at_turn ∙ x.at_turn }

same_running : (f : Fields) (p : ℕ) (s u : RunningSession) (o q : Option Errand) → RunsAt f.places.places p s o → RunsAt f.places.places p u q → u ≡ s
same_running f p s u o q x y = let e : Some (Live s o) ≡ Some (Live u q) = sym x.is ∙ y.is in cc

-- What takes leave: their events, each of which is made as an item is taken, and the sessions that stay.
pub record TookRouter (a : Fields) (ds : List (Deed Mail)) (b : Fields) : Type 0 where
  pub router : SameRouter a b
  pub turns : b.turns ≡ a.turns
  pub events : List RouterEvent
  pub moments : List RouterPart
  pub coded : AreDeeds router_code events ds
  pub goes : RouterGoes a.known.setup a.number.0 IsRouterTake (router_part a) events moments (router_part b)
  pub stays : (p : ℕ) (s u : RunningSession) (o q : Option Errand) → RunsAt a.places.places p s o → RunsAt b.places.places p u q
      → AllByRecursion (HasLive p) (router_part a ∷ moments) → Stays s u

pub took_none : (a : Fields) → TookRouter a [] a
took_none a = record {
  router = same_router a;
  turns = refl;
  events = [];
  moments = [];
  coded = tt;
  goes = refl;
  stays = λ p s u o q x y all. (let e : u ≡ s = same_running a p s u o q x y in
      record {
        acked = omega (arith, ap (λ (v : RunningSession). v.session.end.acked) e);
        emitted = ap (λ (v : RunningSession). v.session.end.emitted) e;
        at_turn = ap (λ (v : RunningSession). v.acked_at_turn) e;
      });
}

pub took_one : (a b : Fields) (n from : ℕ) (item : Mail) (ds : List (Deed Mail)) → TookAsRouter a from item ds b → TakesFirst from item ds
    → Replay (acts carried) n (own_part a) ds (own_part b) → AllByRecursion IsKept ds → TookRouter a ds b
took_one a b n from item ds took first replay kept =
    let rows : TakesRows a ds b = took.rows (took_welcome n (own_part a) (own_part b) from item ds first replay kept) in
    record {
      router = took.router;
      turns = took.turns;
      events = rows.events;
      moments = rows.parts;
      coded = rows.coded;
      goes = rows.goes;
      stays = λ p s u o q x y all. rows.stays p s u o q x y;
    }

-- what a router does is the same of what it was
goes_at : (Allowed : Setup → ℕ → RouterPart → RouterEvent → Type 0) (a b : Fields) (es : List RouterEvent) (ms : List RouterPart) (x y : RouterPart)
    → SameRouter a b
    → RouterGoes b.known.setup b.number.0 (Allowed b.known.setup b.number.0) x es ms y
    → RouterGoes a.known.setup a.number.0 (Allowed a.known.setup a.number.0) x es ms y
goes_at Allowed a b es ms x y same h =
    subst (λ (s : Setup). RouterGoes s a.number.0 (Allowed s a.number.0) x es ms y) same.setup
    (subst (λ (n : ℕ). RouterGoes b.known.setup n (Allowed b.known.setup n) x es ms y) (ap (λ k. k.0) same.number) h)

pub took_then : (a b c : Fields) (ds es : List (Deed Mail)) → TookRouter a ds b → TookRouter b es c → TookRouter a (ds ++ es) c
took_then a b c ds es x y = record {
  router = router_then a b c x.router y.router;
  turns = y.turns ∙ x.turns;
  events = x.events ++ y.events;
  moments = x.moments ++ y.moments;
  coded = are_deeds-append router_code x.events y.events ds es x.coded y.coded;
  goes = goes_append IsRouterTake a.known.setup a.number.0 (router_part a) (router_part b) (router_part c) x.events y.events x.moments y.moments x.goes
      (goes_at (λ setup r. IsRouterTake) a b y.events y.moments (router_part b) (router_part c) x.router y.goes);
  stays = λ p s u o q before after all. (
      let both = through_both (HasLive p) IsRouterTake a.known.setup a.number.0 (router_part a) (router_part b) x.events x.moments y.moments x.goes all in
      let mid = some_running b p both.1.0 in
      stays_then s mid.0 u (x.stays p s mid.0 o mid.1 before mid.2 both.0) (y.stays p mid.0 u mid.1 q mid.2 after both.1));
}

-- ---- the round

-- a router at a mark after so many rounds: what was acknowledged at each session's last retransmission turn is what is acknowledged
pub record RouterAt (n : ℕ) (f : Fields) : Type 0 where
  pub turns : f.turns ≡ n
  pub level : (p : ℕ) (s : RunningSession) (o : Option Errand) → RunsAt f.places.places p s o → s.acked_at_turn ≡ s.session.end.acked

-- On a session that stands through the round, and whose hold time runs, a round may pass in the turn.
abbrev pub MayPassThen : (start mid end : Fields) → List RouterPart → Type 0
MayPassThen a b c moments = (p : ℕ) (s u : SessionValue) → StaysLive p (router_part a) moments (router_part c) s u → HoldRuns s → HoldRuns u
    → length s.end.stream ≤ 1044461
    → (m : RunningSession) (o : Option Errand) → RunsAt b.places.places p m o → MayPass m.session c.turns

module _ (pass : TurnsPassOne) (a b c : Fields) (ds es : List (Deed Mail)) (took : TookRouter a ds b) (turned : RouterTurned b es c)
    (calm : AllByRecursion LandsNobody (turned.again ++ turned.work)) (n : ℕ) (at : RouterAt n a) where
  abbrev pub moments : List RouterPart
  moments = took.moments ++ (turned.first ++ turned.later)

  abbrev pub events : List RouterEvent
  events = took.events ++ (turned.again ++ turned.work)

  sends : RouterGoes a.known.setup a.number.0 RouterRetransmits (router_part b) turned.again turned.first turned.sent
  sends = goes_at (λ setup r. RouterRetransmits) a b turned.again turned.first (router_part b) turned.sent took.router turned.sends

  works : RouterGoes a.known.setup a.number.0 (IsNewWork a.known.setup a.number.0) turned.sent turned.work turned.later (router_part c)
  works = goes_at IsNewWork a b turned.work turned.later turned.sent (router_part c) took.router turned.works

  -- the turn, in one piece
  pub turn_goes : RouterGoes a.known.setup a.number.0 Anything (router_part b) (turned.again ++ turned.work) (turned.first ++ turned.later) (router_part c)
  turn_goes = goes_append Anything a.known.setup a.number.0 (router_part b) turned.sent (router_part c) turned.again turned.work turned.first turned.later
      (goes_anyhow RouterRetransmits a.known.setup a.number.0 (router_part b) turned.sent turned.again turned.first sends)
      (goes_anyhow (IsNewWork a.known.setup a.number.0) a.known.setup a.number.0 turned.sent (router_part c) turned.work turned.later works)

  number_is : c.turns ≡ n + 1
  number_is = omega (arith, turned.turns, took.turns, at.turns)

  rested : RestedRouter a.known.setup a.number.0 (router_part c)
  rested = subst (λ (s : Setup). RestedRouter s a.number.0 (router_part c)) took.router.setup
      (subst (λ (k : ℕ). RestedRouter b.known.setup k (router_part c)) (ap (λ k. k.0) took.router.number) turned.rested)

  -- the session that stands there, at the start, before the turn and at the end
  stood : (p : ℕ) (s u : SessionValue) → StaysLive p (router_part a) moments (router_part c) s u → AcksOrResends s.end u.end (emits_on p turned.again)
  stood p s u st =
      let both = through_both (HasLive p) IsRouterTake a.known.setup a.number.0 (router_part a)
      (router_part b) took.events took.moments (turned.first ++ turned.later) took.goes st.throughout in
      let (v, v_order, v_at, v_is) = runs_at a p s st.first_order st.starts in
      let (m, m_order, m_at) = some_running b p both.1.0 in
      let (w, w_order, w_at, w_is) = runs_at c p u st.last_order st.ends in
      let stays : Stays v m = took.stays p v m v_order m_order v_at m_at both.0 in
      let on : TurnsSession c.turns p turned.again turned.work m w = turned.sessions p m w m_order w_order m_at w_at in
      subst (λ (x : SessionValue). AcksOrResends x.end u.end (emits_on p turned.again)) v_is
      (subst (λ (x : SessionValue). AcksOrResends v.session.end x.end (emits_on p turned.again)) w_is
      (goes_on v.session.end m.session.end w.session.end (emits_on p turned.again) stays.acked stays.emitted on.acked
      (λ is out. on.again (stays.at_turn ∙ at.level p v v_order v_at ∙ is) out)))

  pub numbered : (p : ℕ) → AllByRecursion (λ k. k ≡ n + 1) (rounds_on p turned.work)
  numbered p = by_place (place_at b.places.places p) refl
    where
      absent : (x : Option Place) → place_at b.places.places p ≡ x → ((v : RunningSession) (q : Option Errand) → x ≢ Some (Live v q))
          → AllByRecursion (λ k. k ≡ n + 1) (rounds_on p turned.work)
      absent x e none = subst⁻¹ (λ (xs : List ℕ). AllByRecursion (λ k. k ≡ n + 1) xs)
          (no_rounds_there (IsNewWork a.known.setup a.number.0) a.known.setup a.number.0 turned.sent
          (router_part c) turned.work turned.later works (all_back LandsNobody turned.again turned.work calm) p
          (λ live. (let some = some_running b p (live_start RouterRetransmits a.known.setup a.number.0
          (router_part b) turned.sent turned.again turned.first sends (all_front LandsNobody turned.again turned.work calm) p live) in
          none some.0 some.1 (sym e ∙ some.2.is)))) tt

      by_place : (x : Option Place) → place_at b.places.places p ≡ x → AllByRecursion (λ k. k ≡ n + 1) (rounds_on p turned.work)
      by_place None e = absent None e (λ v q h. absurd cc)
      by_place (Some (Live v q)) e = elim (pass b c es turned p v q (record { is = e })) [
        | inl h ↦ subst⁻¹ (λ (xs : List ℕ). AllByRecursion (λ k. k ≡ n + 1) xs) h.1 (number_is, tt)
        | inr h ↦ subst⁻¹ (λ (xs : List ℕ). AllByRecursion (λ k. k ≡ n + 1) xs) h.1 tt
      ]
      by_place (Some (Shadow away)) e = absent (Some (Shadow away)) e (λ v q h. absurd cc)

  -- rounds pass in the router's work alone
  rounds_are : (p : ℕ) → rounds_on p events ≡ rounds_on p turned.work
  rounds_are p = rounds_on-append p took.events (turned.again ++ turned.work)
      ∙ (λ i. none_taking a.known.setup a.number.0 (router_part a) (router_part b) took.events took.moments took.goes p i
      ++ rounds_on-append p turned.again turned.work i)
      ∙ ap (λ (xs : List ℕ). xs ++ rounds_on p turned.work)
      (none_sending a.known.setup a.number.0 (router_part b) turned.sent turned.again turned.first sends p)

  pub all_numbered : (p : ℕ) → AllByRecursion (λ k. k ≡ n + 1) (rounds_on p events)
  all_numbered p = subst⁻¹ (λ (xs : List ℕ). AllByRecursion (λ k. k ≡ n + 1) xs) (rounds_are p) (numbered p)

  ticks : MayPassThen a b c moments → (p : ℕ) (s u : SessionValue) → StaysLive p (router_part a) moments (router_part c) s u → HoldRuns s
      → HoldRuns u → length s.end.stream ≤ 1044461 → rounds_on p turned.work ≡ (n + 1) ∷ []
  ticks may p s u st starts ends room =
      let both = through_both (HasLive p) IsRouterTake a.known.setup a.number.0 (router_part a)
      (router_part b) took.events took.moments (turned.first ++ turned.later) took.goes st.throughout in
      let (m, m_order, m_at) = some_running b p both.1.0 in
      elim (pass b c es turned p m m_order m_at) [
        | inl h ↦ h.1 ∙ ap (λ (k : ℕ). k ∷ []) number_is
        | inr h ↦ absurd (h.0 (may p s u st starts ends room m m_order m_at))
      ]

  pub real_router : MayPassThen a b c moments → RealRouter a.known.setup a.number.0 (n + 1) (router_part a) events (router_part c)
  real_router may = record {
    taken = took.events;
    again = turned.again;
    work = turned.work;
    is = refl;
    turning = router_part b;
    sent = turned.sent;
    first = took.moments;
    second = turned.first;
    third = turned.later;
    takes = took.goes;
    sends = sends;
    works = works;
    in_order = turned.in_order;
    rested = rested;
    few = λ p. (turned.few p).0;
    goes_on = stood;
    numbered = numbered;
    ticks = ticks may;
  }

  pub router_coded : AreDeeds router_code events (ds ++ es)
  router_coded = are_deeds-append router_code took.events (turned.again ++ turned.work) ds es took.coded turned.coded

  pub router_after : RouterAt (n + 1) c
  router_after = record {
    turns = number_is;
    level = λ p u q runs. (
        let before = some_running b p
        (live_start Anything a.known.setup a.number.0 (router_part b) (router_part c) (turned.again ++ turned.work)
        (turned.first ++ turned.later) turn_goes calm p (live_at c p u q runs)) in
        let on : TurnsSession c.turns p turned.again turned.work before.0 u = turned.sessions p before.0 u before.1 q before.2 runs in
        on.at_turn ∙ sym on.acked);
  }
