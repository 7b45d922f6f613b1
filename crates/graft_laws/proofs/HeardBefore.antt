-- Before a source clears its shadow, each other router has heard what the target told before it asked that router.
use Rattle.std.proofs.Common.{◌≡◌, ◌≢◌, ◌==◌, ◌⊎◌, inl, inr, ℕ, ◌<◌, ◌≤◌, Bool, true, false, List, [], ◌∷◌, ◌++◌, Option, Some, None}
use Rattle.std.proofs.Common.{refl, sym, ap, ◌∙◌, subst, arith, append_assoc}
use Rattle.std.specs.Prelude.{if◌then◌else◌, slice_get}
use Rattle.std.specs.FinMap as map
use Rattle.std.specs.List.{AllByRecursion}
use Rattle.std.proofs.lemmas.Bool.{cases_eq}
use Rattle.std.proofs.lemmas.List.{append-nil}
use Rattle.bgp_types.specs.declared.attrs.Route.{Route}
use Rattle.bgp_types.specs.Prefixes.{PrefixValue, same_prefix}
use Rattle.bgp_types.proofs.OnceLaws.{is_same}
use Rattle.route_policy.specs.Telling.{tell_in}
use Rattle.session_value.specs.Sessions.{SessionValue, begun}
use Rattle.session_value.specs.Sets.{has}
use Rattle.graft_model.specs.Claims.{IsToldIn, HasHeard}
use Rattle.graft_model.specs.Decisions.{chosen}
use Rattle.graft_model.specs.First.{place_in, first_world}
use Rattle.graft_model.specs.GraftRows.{Asks, Confirms}
use Rattle.graft_model.specs.Parts.{Word, Errand, Leaving, Owing, Asking, Vacant, Live, RouterPart, Mesh, Told, Moved, Back, Asked, Answered, Done, World}
use Rattle.graft_model.specs.RouterRows.{RouterTaken, MeshIn, MeshTo}
use Rattle.graft_model.specs.Setups.{Setup, PeeringSetup, routers_in}
use Rattle.graft_model.specs.Steps.{Event, ByRouter, ByFar, ByOperator, Heads, RouterStep, Step, Run}
use Rattle.graft_model.specs.declared.event.RouterEvent.{RouterEvent}
use Rattle.graft_model.specs.declared.event.RouterEvent.TheVariants.{Tell, Ask, Confirm}
use Rattle.graft_laws.specs.Keeps.{Reached}
use Rattle.graft_laws.specs.Moves.{mesh_taken, mesh_sent, RouterHeads, RouterMoves}
use Rattle.graft_laws.specs.Tables.{last_told}
use Rattle.graft_laws.proofs.Deeds.{below_or}
use Rattle.graft_laws.proofs.Errands.{WasThere, IsNew, IsCounted, IsAskedNow, errand_from}
use Rattle.graft_laws.proofs.Informed.{says_row, taken_apart}
use Rattle.graft_laws.proofs.Lists.{StandsIn, stands_in, none_stands, all_map, all_join, all_front, all_back, behind_in}
use Rattle.graft_laws.proofs.Moves.{router_moves, far_moves, operator_moves}
use Rattle.graft_laws.proofs.Routers.{at_same, at_apart}
use Rattle.graft_laws.proofs.Runs.{run_more, with_events}
use Rattle.graft_laws.proofs.SentItems.{IsTold, told_map, IsTelling, IsSent, is_sent, all_tellings}
use Rattle.graft_laws.proofs.TableLaws.{always_decided, always_informed}

-- ---- what is told last is one of what is told

one_told : (P : PrefixValue → Option Route → Type 0) (x y : PrefixValue) (route d : Option Route) (t : Bool)
    → same_prefix x y ≡ t → P y route → P x d → P x (if t then route else d)
one_told P x y route d true e told was = subst (λ (z : PrefixValue). P z route) (sym (is_same x y e)) told
one_told P x y route d false e told was = was

last_is : (P : PrefixValue → Option Route → Type 0) (x : PrefixValue) (items : List Mesh) (d : Option Route)
    → AllByRecursion (IsTold P) items → P x d → P x (last_told x items d)
last_is P x [] d all was = was
last_is P x (Told y route ∷ items) d all was =
    last_is P x items (if same_prefix x y then route else d) all.1 (one_told P x y route d (same_prefix x y) refl all.0 was)
last_is P x (Moved k p s ∷ items) d all was = last_is P x items d all.1 was
last_is P x (Back k p s refusal ∷ items) d all was = last_is P x items d all.1 was
last_is P x (Asked k p ∷ items) d all was = last_is P x items d all.1 was
last_is P x (Answered k p ∷ items) d all was = last_is P x items d all.1 was
last_is P x (Done k p ∷ items) d all was = last_is P x items d all.1 was

-- ---- questions

-- In the run t asked x in graft k. It had then the routes that it chose.
pub record WasAsked (setup : Setup) (events : List Event) (t x k : ℕ) (w : World) : Type 0 where
  pub begun : List Event
  pub since : List Event
  pub among : events ≡ begun ++ ByRouter t (Ask k x) ∷ since
  pub asking : World
  pub asked : World
  pub before : Run setup (first_world setup) begun asking
  pub asks : Step setup (ByRouter t (Ask k x)) asking asked
  pub meanwhile : Run setup asked since w
  pub decided : (prefix : PrefixValue) → map.get (asking.router t).best prefix ≡ chosen setup t (asking.router t) prefix

-- what was told since the question
abbrev pub IsLater : {setup : Setup} {events : List Event} {t x k : ℕ} {w : World} → WasAsked setup events t x k w → PrefixValue → Option Route → Type 0
IsLater {setup = setup} {t = t} {x = x} question prefix route = IsToldIn setup t x prefix question.asked question.since route

-- that, or what t told before
abbrev pub IsOfThen : {setup : Setup} {events : List Event} {t x k : ℕ} {w : World} → WasAsked setup events t x k w → PrefixValue → Option Route → Type 0
IsOfThen {setup = setup} {t = t} {x = x} question prefix route =
    (route ≡ tell_in (map.get (question.asking.router t).best prefix)) ⊎ IsToldIn setup t x prefix question.asked question.since route

-- A question that stands between these items in the channel from t to x: once x has read those in front, it has what t told before it asked, and those
-- behind are told since.
record IsAsked (setup : Setup) (events : List Event) (t x k : ℕ) (front later : List Mesh) (w : World) : Type 0 where
  question : WasAsked setup events t x k w
  told : (prefix : PrefixValue) → last_told prefix front (map.get ((w.router x).tellings t) prefix) ≡ tell_in (map.get (question.asking.router t).best prefix)
  behind : AllByRecursion (IsTold (IsLater question)) later

-- The router x has read a question of t: what it has of t, and all that is on its way from there, was told before the question or since.
pub record HasRead (setup : Setup) (events : List Event) (t x k : ℕ) (w : World) : Type 0 where
  pub question : WasAsked setup events t x k w
  pub heard : (prefix : PrefixValue) → IsOfThen question prefix (map.get ((w.router x).tellings t) prefix)
  pub on_way : AllByRecursion (IsTold (IsOfThen question)) (w.mesh t x)

-- a question that is next to be read
read_next : (setup : Setup) (events : List Event) (t x k p : ℕ) (later : List Mesh) (w : World) → w.mesh t x ≡ Asked k p ∷ later
    → IsAsked setup events t x k [] later w → HasRead setup events t x k w
read_next setup events t x k p later w next a = record {
  question = a.question;
  heard = λ prefix. inl (a.told prefix);
  on_way = subst (λ (items : List Mesh). AllByRecursion (IsTold (IsOfThen a.question)) items) (sym next) (
    tt,
    all_map (IsTold (IsLater a.question)) (IsTold (IsOfThen a.question)) later
        (told_map (IsLater a.question) (IsOfThen a.question) (λ prefix route is. inr is)) a.behind,
  );
}

-- ---- one event

-- t tells x this by this event, and had chosen it
abbrev IsToldNow : Setup → Event → ℕ → ℕ → World → PrefixValue → Option Route → Type 0
IsToldNow setup event t x w prefix route =
    (event ≡ ByRouter t (Tell x prefix)) × (map.get (w.router t).best prefix ≡ chosen setup t (w.router t) prefix)
    × (route ≡ tell_in (map.get (w.router t).best prefix))

-- what an event does in the channel from t to x, and to what x has from t
record Passes (setup : Setup) (event : Event) (t x : ℕ) (took sent : List Mesh) (w v : World) : Type 0 where
  moves : took ++ v.mesh t x ≡ w.mesh t x ++ sent
  hears : (left : List Mesh) (prefix : PrefixValue)
      → last_told prefix left (map.get ((v.router x).tellings t) prefix) ≡ last_told prefix (took ++ left) (map.get ((w.router x).tellings t) prefix)
  tells : AllByRecursion (IsTold (IsToldNow setup event t x w)) sent

module _ (setup : Setup) (events : List Event) (event : Event) (w v : World) (step : Step setup event w v) (t x k : ℕ) where
  abbrev goes_on : WasAsked setup events t x k w → WasAsked setup (events ++ event ∷ []) t x k v
  goes_on q = record {
    begun = q.begun;
    since = q.since ++ event ∷ [];
    among = ap (λ (es : List Event). es ++ event ∷ []) q.among ∙ append_assoc q.begun (ByRouter t (Ask k x) ∷ q.since) (event ∷ []);
    asking = q.asking;
    asked = q.asked;
    before = q.before;
    asks = q.asks;
    meanwhile = run_more setup q.since event q.asked w v q.meanwhile step;
    decided = q.decided;
  }

  later_on : (q : WasAsked setup events t x k w) (prefix : PrefixValue) (route : Option Route) → IsLater q prefix route → IsLater (goes_on q) prefix route
  later_on q prefix route is = record {
    begun = is.begun;
    rest = is.rest ++ event ∷ [];
    among = ap (λ (es : List Event). es ++ event ∷ []) is.among ∙ append_assoc is.begun (ByRouter t (Tell x prefix) ∷ is.rest) (event ∷ []);
    telling = is.telling;
    before = is.before;
    decided = is.decided;
    told = is.told;
  }

  told_now : (q : WasAsked setup events t x k w) (prefix : PrefixValue) (route : Option Route)
      → IsToldNow setup event t x w prefix route → IsLater (goes_on q) prefix route
  told_now q prefix route is = record {
    begun = q.since;
    rest = [];
    among = ap (λ (e : Event). q.since ++ e ∷ []) is.0;
    telling = w;
    before = q.meanwhile;
    decided = is.1;
    told = is.2;
  }

  then_on : (q : WasAsked setup events t x k w) (prefix : PrefixValue) (route : Option Route) → IsOfThen q prefix route → IsOfThen (goes_on q) prefix route
  then_on q prefix route (inl is) = inl is
  then_on q prefix route (inr is) = inr (later_on q prefix route is)

  module _ (took sent : List Mesh) (passes : Passes setup event t x took sent w v) where
    -- what is sent now is told since
    sent_later : (q : WasAsked setup events t x k w) → AllByRecursion (IsTold (IsLater (goes_on q))) sent
    sent_later q = all_map (IsTold (IsToldNow setup event t x w)) (IsTold (IsLater (goes_on q))) sent
        (told_map (IsToldNow setup event t x w) (IsLater (goes_on q)) (told_now q)) passes.tells

    -- who has read a question has read it
    read_on : HasRead setup events t x k w → HasRead setup (events ++ event ∷ []) t x k v
    read_on h = record {
      question = goes_on h.question;
      heard = λ prefix. subst (IsOfThen (goes_on h.question) prefix) (sym (hears_all prefix))
          (last_is (IsOfThen (goes_on h.question)) prefix took _ (all_front _ took (v.mesh t x) all) (then_on h.question prefix _ (h.heard prefix)));
      on_way = all_back _ took (v.mesh t x) all;
    } where
      hears_all : (prefix : PrefixValue)
          → map.get ((v.router x).tellings t) prefix ≡ last_told prefix took (map.get ((w.router x).tellings t) prefix)
      hears_all prefix =
          passes.hears [] prefix ∙ ap (λ (items : List Mesh). last_told prefix items (map.get ((w.router x).tellings t) prefix)) (append-nil took)

      all : AllByRecursion (IsTold (IsOfThen (goes_on h.question))) (took ++ v.mesh t x)
      all = subst (λ (items : List Mesh). AllByRecursion (IsTold (IsOfThen (goes_on h.question))) items) (sym passes.moves)
          (all_join (IsTold (IsOfThen (goes_on h.question))) (w.mesh t x) sent
          (all_map (IsTold (IsOfThen h.question)) (IsTold (IsOfThen (goes_on h.question))) (w.mesh t x)
          (told_map (IsOfThen h.question) (IsOfThen (goes_on h.question)) (then_on h.question)) h.on_way)
          (all_map (IsTold (IsLater (goes_on h.question))) (IsTold (IsOfThen (goes_on h.question))) sent
          (told_map (IsLater (goes_on h.question)) (IsOfThen (goes_on h.question)) (λ prefix route is. inr is)) (sent_later h.question)))

    -- a question stays where it stands
    asked_on : (front was later : List Mesh) → later ≡ was ++ sent → IsAsked setup events t x k (took ++ front) was w
        → IsAsked setup (events ++ event ∷ []) t x k front later v
    asked_on front was later e a = record {
      question = goes_on a.question;
      told = λ prefix. passes.hears front prefix ∙ a.told prefix;
      behind = subst (λ (items : List Mesh). AllByRecursion (IsTold (IsLater (goes_on a.question))) items) (sym e)
          (all_join (IsTold (IsLater (goes_on a.question))) was sent
          (all_map (IsTold (IsLater a.question)) (IsTold (IsLater (goes_on a.question))) was
          (told_map (IsLater a.question) (IsLater (goes_on a.question)) (later_on a.question)) a.behind)
          (sent_later a.question));
    }

-- ---- what holds along a run

-- the routers that a landed session's target has asked have read its question, but for the last one where an answer is awaited
abbrev AllBefore : Setup → List Event → ℕ → Word → World → Type 0
AllBefore setup events t word w = (x : ℕ) → x < word.next → x ≢ word.source → x ≢ t → HasRead setup events t x word.graft w

abbrev ErrandHas : Setup → List Event → ℕ → Errand → World → Type 0
ErrandHas setup events t (Leaving order) w = Unit {0}
ErrandHas setup events t (Owing word) w = AllBefore setup events t word w
ErrandHas setup events t (Asking word) w = AllBefore setup events t word w

-- Of each question, of each answer, of each landing of which word is owed, and of each word: who has read it.
record Hearings (setup : Setup) (events : List Event) (w : World) : Type 0 where
  questions : (t x k p : ℕ) (front later : List Mesh) → w.mesh t x ≡ front ++ Asked k p ∷ later → IsAsked setup events t x k front later w
  answers : (t x k p : ℕ) (front later : List Mesh) → w.mesh x t ≡ front ++ Answered k p ∷ later → HasRead setup events t x k w
  errands : (t p : ℕ) (s : SessionValue) (errand : Errand) → (w.router t).places p ≡ Live s (Some errand) → ErrandHas setup events t errand w
  words : (t s k p : ℕ) (front later : List Mesh) → w.mesh t s ≡ front ++ Done k p ∷ later
      → (x : ℕ) → x < routers_in setup → x ≢ s → x ≢ t → HasRead setup events t x k w

errand_on : (setup : Setup) (events more : List Event) (t : ℕ) (w v : World)
    → ((x k : ℕ) → HasRead setup events t x k w → HasRead setup more t x k v)
    → (errand : Errand) → ErrandHas setup events t errand w → ErrandHas setup more t errand v
errand_on setup events more t w v on (Leaving order) has = tt
errand_on setup events more t w v on (Owing word) has = λ x below other apart. on x word.graft (has x below other apart)
errand_on setup events more t w v on (Asking word) has = λ x below other apart. on x word.graft (has x below other apart)

-- the same routers and channels
unmoved : (setup : Setup) (events : List Event) (event : Event) (w v : World) → Step setup event w v → v.router ≡ w.router → v.mesh ≡ w.mesh
    → Hearings setup events w → Hearings setup (events ++ event ∷ []) v
unmoved setup events event w v step routers mesh h = record {
  questions = λ t x k p front later e.
      asked_on setup events event w v step t x k [] [] (passes t x) front later later (sym (append-nil later)) (h.questions t x k p front later (was t x ∙ e));
  answers = λ t x k p front later e. on t x k (h.answers t x k p front later (was x t ∙ e));
  errands = λ t p s errand e.
      errand_on setup events (events ++ event ∷ []) t w v (on t) errand
      (h.errands t p s errand (ap (λ (f : ℕ → RouterPart). (f t).places p) (sym routers) ∙ e));
  words = λ t s k p front later e x below other apart. on t x k (h.words t s k p front later (was t s ∙ e) x below other apart);
} where
  was : (a b : ℕ) → w.mesh a b ≡ v.mesh a b
  was a b = ap (λ (f : ℕ → ℕ → List Mesh). f a b) (sym mesh)

  passes : (t x : ℕ) → Passes setup event t x [] [] w v
  passes t x = record {
    moves = sym (was t x) ∙ sym (append-nil (w.mesh t x));
    hears = λ left prefix. ap (λ (f : ℕ → RouterPart). last_told prefix left (map.get ((f x).tellings t) prefix)) routers;
    tells = tt;
  }

  on : (t x k : ℕ) → HasRead setup events t x k w → HasRead setup (events ++ event ∷ []) t x k v
  on t x k has = read_on setup events event w v step t x k [] [] (passes t x) has

-- ---- an event of a router

-- what b takes from the front of a channel is in its tellings then
pub heard_kept : (setup : Setup) (r : ℕ) (event : RouterEvent) (w v : World) (step : RouterStep setup r event w v)
    (a b : ℕ) (left : List Mesh) (x : PrefixValue)
    → last_told x left (map.get ((v.router b).tellings a) x) ≡ last_told x (mesh_taken r step.taken a b ++ left) (map.get ((w.router b).tellings a) x)
heard_kept setup r event w v step a b left x = by_router (cases_eq b r) where
  moves : RouterMoves r step.taken step.sent step.part w v
  moves = router_moves setup r event w v step

  by_router : (b ≡ r) ⊎ (b ≢ r)
      → last_told x left (map.get ((v.router b).tellings a) x) ≡ last_told x (mesh_taken r step.taken a b ++ left) (map.get ((w.router b).tellings a) x)
  by_router (inl is) =
      ap (λ (n : ℕ). last_told x left (map.get ((v.router n).tellings a) x)) is
      ∙ ap (λ (u : RouterPart). last_told x left (map.get (u.tellings a) x))
      (ap (λ (f : ℕ → RouterPart). f r) moves.router ∙ at_same w.router r step.part)
      ∙ (says_row setup r (w.router r) step.taken step.sent step.part event step.row).hears a x left (mesh_taken r step.taken a r ++ left) refl
      ∙ ap (λ (n : ℕ). last_told x (mesh_taken r step.taken a n ++ left) (map.get ((w.router n).tellings a) x)) (sym is)
  by_router (inr other) =
      ap (λ (u : RouterPart). last_told x left (map.get (u.tellings a) x))
      (ap (λ (f : ℕ → RouterPart). f b) moves.router ∙ at_apart w.router r b step.part other)
      ∙ ap (λ (xs : List Mesh). last_told x (xs ++ left) (map.get ((w.router b).tellings a) x)) (sym (taken_apart r step.taken a b other))

module _ (setup : Setup) (events : List Event) (r : ℕ) (event : RouterEvent) (w v : World)
    (run : Run setup (first_world setup) events w) (step : RouterStep setup r event w v) (h : Hearings setup events w) where
  reached : Reached setup w
  reached = record { events = events; run = run }

  moves : RouterMoves r step.taken step.sent step.part w v
  moves = router_moves setup r event w v step

  abbrev more : List Event
  more = events ++ ByRouter r event ∷ []

  abbrev Sent : ℕ → ℕ → Mesh → List Mesh → List Mesh → Type 0
  Sent a b z ws vs = IsSent setup r (w.router r) step.part step.taken step.sent event a b z ws vs

  abbrev TellsNow : ℕ → ℕ → PrefixValue → Option Route → Type 0
  TellsNow t x = IsTelling setup r (w.router r) step.part step.taken step.sent event t x

  told_so : (t x : ℕ) (prefix : PrefixValue) (route : Option Route) → TellsNow t x prefix route → IsToldNow setup (ByRouter r event) t x w prefix route
  told_so t x prefix route is = (
    ap (ByRouter r) is.1 ∙ ap (λ (n : ℕ). ByRouter n (Tell x prefix)) (sym is.0),
    (always_decided setup w reached t).best prefix (ap (λ (n : ℕ). has (w.router n).dirty prefix) is.0 ∙ is.2.clean),
    is.3 ∙ ap (λ (n : ℕ). tell_in (map.get (w.router n).best prefix)) (sym is.0),
  )

  passes : (t x : ℕ) → Passes setup (ByRouter r event) t x (mesh_taken r step.taken t x) (mesh_sent r step.sent t x) w v
  passes t x = record {
    moves = moves.mesh t x;
    hears = λ left prefix. heard_kept setup r event w v step t x left prefix;
    tells = all_map (IsTold (TellsNow t x)) (IsTold (IsToldNow setup (ByRouter r event) t x w)) (mesh_sent r step.sent t x)
        (told_map (TellsNow t x) (IsToldNow setup (ByRouter r event) t x w) (told_so t x))
        (all_tellings setup r (w.router r) step.part step.taken step.sent event t x step.row);
  }

  on : (t x k : ℕ) → HasRead setup events t x k w → HasRead setup more t x k v
  on t x k has =
      read_on setup events (ByRouter r event) w v step t x k (mesh_taken r step.taken t x) (mesh_sent r step.sent t x) (passes t x) has

  -- an item that stands in a channel now stood there before, with what was taken in front of it, or it is sent now
  abbrev Stood : (a b : ℕ) (z : Mesh) (front later : List Mesh) → Type 0
  Stood a b z front later = (ws : List Mesh) × (w.mesh a b ≡ (mesh_taken r step.taken a b ++ front) ++ z ∷ ws) × (later ≡ ws ++ mesh_sent r step.sent a b)

  stood : (a b : ℕ) (z : Mesh) (front later : List Mesh) → v.mesh a b ≡ front ++ z ∷ later
      → Stood a b z front later ⊎ ((ws : List Mesh) × (mesh_taken r step.taken a b ++ front ≡ w.mesh a b ++ ws) × Sent a b z ws later)
  stood a b z front later e = by_place (stands_in (w.mesh a b) (mesh_sent r step.sent a b) (mesh_taken r step.taken a b ++ front) later z joined) where
    joined : w.mesh a b ++ mesh_sent r step.sent a b ≡ (mesh_taken r step.taken a b ++ front) ++ z ∷ later
    joined =
        sym (moves.mesh a b) ∙ ap (λ (xs : List Mesh). mesh_taken r step.taken a b ++ xs) e
        ∙ sym (append_assoc (mesh_taken r step.taken a b) front (z ∷ later))

    by_place : StandsIn (w.mesh a b) (mesh_sent r step.sent a b) (mesh_taken r step.taken a b ++ front) later z
        → Stood a b z front later ⊎ ((ws : List Mesh) × (mesh_taken r step.taken a b ++ front ≡ w.mesh a b ++ ws) × Sent a b z ws later)
    by_place (inl (ws, was)) = inl (ws, was, behind_in (w.mesh a b) (mesh_sent r step.sent a b) (mesh_taken r step.taken a b ++ front) later ws z joined was)
    by_place (inr (ws, is, new)) = inr (ws, is, is_sent setup r (w.router r) step.part step.taken step.sent event a b z ws later step.row new)

  -- the item that is taken stands at the head of its channel
  head_of : (a : ℕ) (item : Mesh) → step.taken ≡ Some (MeshIn a item) → Heads (w.mesh a r) item
  head_of a item takes = subst (λ (t : Option RouterTaken). RouterHeads w r t) takes moves.heads

  -- ---- what is new

  new_question : (t x k p : ℕ) (ws front later : List Mesh) → mesh_taken r step.taken t x ++ front ≡ w.mesh t x ++ ws → Sent t x (Asked k p) ws later
      → IsAsked setup more t x k front later v
  new_question t x k p ws front later e s = asked_by s.by where
    asked_by : (event ≡ Ask k x) × Asks setup r k x (w.router r) step.taken (MeshTo x (Asked k p) ∷ []) step.part → IsAsked setup more t x k front later v
    asked_by (is, row) =
        let event_is : ByRouter r event ≡ ByRouter t (Ask k x) = ap (ByRouter r) is ∙ ap (λ (n : ℕ). ByRouter n (Ask k x)) (sym s.here) in
        let front_is : front ≡ w.mesh t x =
        ap (λ (o : Option RouterTaken). mesh_taken r o t x ++ front) (sym row.takes) ∙ e
        ∙ ap (λ (xs : List Mesh). w.mesh t x ++ xs) s.first ∙ append-nil (w.mesh t x) in
        record {
          question = record {
            begun = events;
            since = [];
            among = ap (λ (y : Event). events ++ y ∷ []) event_is;
            asking = w;
            asked = v;
            before = run;
            asks = subst (λ (y : Event). Step setup y w v) event_is step;
            meanwhile = refl;
            decided = λ prefix. (always_decided setup w reached t).best prefix (ap (λ (n : ℕ). has (w.router n).dirty prefix) s.here ∙ row.clean prefix);
          };
          told = λ prefix.
              ap (λ (xs : List Mesh). last_told prefix xs (map.get ((v.router x).tellings t) prefix)) front_is
              ∙ ap (λ (u : RouterPart). last_told prefix (w.mesh t x) (map.get (u.tellings t) prefix))
              (ap (λ (f : ℕ → RouterPart). f x) moves.router ∙ at_apart w.router r x step.part row.asked.not_target)
              ∙ (always_informed setup w reached t x).others (λ same. row.asked.not_target (sym same ∙ s.here)) row.asked.known prefix
              (ap (λ (n : ℕ). has ((w.router n).due_in x) prefix) s.here ∙ row.told prefix);
          behind = subst (λ (xs : List Mesh). AllByRecursion (IsTold (λ prefix route. IsToldIn setup t x prefix v [] route)) xs) (sym s.last) tt;
        }

  new_answer : (t x k p : ℕ) {ws later : List Mesh} → Sent x t (Answered k p) ws later → HasRead setup more t x k v
  new_answer t x k p s = on t x k (answered_by s.by) where
    answered_by : (step.taken ≡ Some (MeshIn t (Asked k p))) × (step.part ≡ w.router r) → HasRead setup events t x k w
    answered_by (takes, stays) =
        let head : Heads (w.mesh t x) (Asked k p) = subst (λ (n : ℕ). Heads (w.mesh t n) (Asked k p)) (sym s.here) (head_of t (Asked k p) takes) in
        read_next setup events t x k p head.rest w head.is (h.questions t x k p [] head.rest head.is)

  -- an answer is counted
  counted : (p : ℕ) (word : Word) → IsCounted (w.router r) step.taken p word → AllBefore setup events r word w
  counted p word c x below other apart = by_number (cases_eq x c.from) where
    by_number : (x ≡ c.from) ⊎ (x ≢ c.from) → HasRead setup events r x word.graft w
    by_number (inl is) =
        let head : Heads (w.mesh c.from r) (Answered word.graft p) = head_of c.from (Answered word.graft p) c.takes in
        subst (λ (n : ℕ). HasRead setup events r n word.graft w) (sym is) (h.answers r c.from word.graft p [] head.rest head.is)
    by_number (inr ne) = h.errands r p c.session (Asking (record word { next = c.from })) c.was x (less ne) other apart where
      less : x ≢ c.from → x < c.from
      less ne = omega (arith, c.next, below)

  -- a router is asked, where those before it are the source and the target, or have answered
  asked_now : (p : ℕ) (word : Word) → IsAskedNow setup r (w.router r) p word → AllBefore setup events r word w
  asked_now p word c x below other apart = by_bound (below_or x c.start) where
    by_bound : (x < c.start) ⊎ (c.start ≤ x) → HasRead setup events r x word.graft w
    by_bound (inl l) = h.errands r p c.session (Owing (record word { next = c.start })) c.was x l other apart
    by_bound (inr l) = absurd (by_skip (c.asked.first x l below)) where
      by_skip : (x ≡ word.source) ⊎ (x ≡ r) → ⊥
      by_skip (inl is) = other is
      by_skip (inr is) = apart is

  new_errand : (p : ℕ) (errand : Errand) → IsNew setup r (w.router r) step.part step.taken step.sent p errand → ErrandHas setup events r errand w
  new_errand p (Leaving order) new = tt
  new_errand p (Owing word) (inl zero) = λ x below other apart. absurd (none_below x word.next zero below) where
    none_below : (x n : ℕ) → n ≡ 0 → x < n → ⊥
    none_below x n is below = omega arith
  new_errand p (Owing word) (inr c) = counted p word c
  new_errand p (Asking word) c = asked_now p word c

  here_errand : (p : ℕ) (s : SessionValue) (errand : Errand) → (v.router r).places p ≡ Live s (Some errand) → ErrandHas setup more r errand v
  here_errand p s errand e =
      errand_on setup events more r w v (on r) errand
      (by_origin (errand_from setup r (w.router r) step.part step.taken step.sent p s errand now event step.row))
    where
      now : step.part.places p ≡ Live s (Some errand)
      now = sym (ap (λ (u : RouterPart). u.places p) (ap (λ (f : ℕ → RouterPart). f r) moves.router ∙ at_same w.router r step.part)) ∙ e

      by_origin : WasThere setup r (w.router r) step.part step.taken step.sent p errand ⊎ IsNew setup r (w.router r) step.part step.taken step.sent p errand
          → ErrandHas setup events r errand w
      by_origin (inl (was, there)) = h.errands r p was errand there
      by_origin (inr new) = new_errand p errand new

  new_word : (t s k p : ℕ) {ws later : List Mesh} → Sent t s (Done k p) ws later
      → (x : ℕ) → x < routers_in setup → x ≢ s → x ≢ t → HasRead setup more t x k v
  new_word t s k p sent x known other apart = on t x k (told_by sent.by) where
    same_target : (q n : ℕ) (y z : Mesh) → MeshTo q y ∷ [] ≡ MeshTo n z ∷ [] → q ≡ n
    same_target q n y z e = cc

    told_by : (event ≡ Confirm k) × Confirms setup r k (w.router r) step.taken (MeshTo s (Done k p) ∷ []) step.part → HasRead setup events t x k w
    told_by (is, row) = subst (λ (n : ℕ). HasRead setup events n x k w) (sym sent.here) (by_bound (below_or x row.next)) where
      to : s ≡ row.source
      to = same_target s row.source (Done k p) (Done k row.peering) row.sends

      not_here : x ≢ r
      not_here same = apart (same ∙ sym sent.here)

      not_source : x ≢ row.source
      not_source same = other (same ∙ sym to)

      by_skip : (x ≡ row.source) ⊎ (x ≡ r) → ⊥
      by_skip (inl same) = not_source same
      by_skip (inr same) = not_here same

      by_bound : (x < row.next) ⊎ (row.next ≤ x) → HasRead setup events r x k w
      by_bound (inl l) =
          h.errands r row.peering row.session (Owing (record { graft = k; source = row.source; next = row.next })) row.live.is x l not_source not_here
      by_bound (inr l) = absurd (by_skip (row.answered x l known))

  -- ---- all of it

  by_router : Hearings setup more v
  by_router = record {
    questions = λ t x k p front later e. elim (stood t x (Asked k p) front later e) [
      | inl (ws, was, behind) ↦ asked_on setup events (ByRouter r event) w v step t x k
          (mesh_taken r step.taken t x) (mesh_sent r step.sent t x) (passes t x) front ws later behind
          (h.questions t x k p (mesh_taken r step.taken t x ++ front) ws was)
      | inr (ws, is, new) ↦ new_question t x k p ws front later is new
    ];
    answers = λ t x k p front later e. elim (stood x t (Answered k p) front later e) [
      | inl (ws, was, behind) ↦ on t x k (h.answers t x k p (mesh_taken r step.taken x t ++ front) ws was)
      | inr (ws, is, new) ↦ new_answer t x k p new
    ];
    errands = λ t p s errand e. elim (cases_eq t r) [
      | inl same ↦ subst (λ (n : ℕ). ErrandHas setup more n errand v) (sym same)
          (here_errand p s errand (ap (λ (n : ℕ). (v.router n).places p) (sym same) ∙ e))
      | inr other ↦ errand_on setup events more t w v (on t) errand
          (h.errands t p s errand
          (sym (ap (λ (u : RouterPart). u.places p) (ap (λ (f : ℕ → RouterPart). f t) moves.router ∙ at_apart w.router r t step.part other)) ∙ e))
    ];
    words = λ t s k p front later e x known other apart. elim (stood t s (Done k p) front later e) [
      | inl (ws, was, behind) ↦ on t x k (h.words t s k p (mesh_taken r step.taken t s ++ front) ws was x known other apart)
      | inr (ws, is, new) ↦ new_word t s k p new x known other apart
    ];
  }

-- ---- runs

hearings_then : (setup : Setup) (events : List Event) (event : Event) (w v : World) → Run setup (first_world setup) events w → Step setup event w v
    → Hearings setup events w → Hearings setup (events ++ event ∷ []) v
hearings_then setup events (ByRouter r event) w v run step h = by_router setup events r event w v run step h
hearings_then setup events (ByFar p event) w v run step h =
    let m = far_moves setup p event w v step in unmoved setup events (ByFar p event) w v step m.router m.mesh h
hearings_then setup events (ByOperator event) w v run step h =
    let m = operator_moves setup event w v step in unmoved setup events (ByOperator event) w v step m.router m.mesh h

-- no session has an errand at first
no_errand : (r : ℕ) (peering : Option PeeringSetup) (s : SessionValue) (errand : Errand) → place_in r peering ≡ Live s (Some errand) → ⊥
no_errand r None s errand e = cc
no_errand r (Some peering) s errand e = by_test (peering.start == r) e where
  by_test : (t : Bool) → (if t then Live (begun peering.config) None else Vacant) ≡ Live s (Some errand) → ⊥
  by_test true e = cc
  by_test false e = cc

first_hearings : (setup : Setup) → Hearings setup [] (first_world setup)
first_hearings setup = record {
  questions = λ t x k p front later e. absurd (none_stands (Asked k p) front later e);
  answers = λ t x k p front later e. absurd (none_stands (Answered k p) front later e);
  errands = λ t p s errand e. absurd (no_errand t (slice_get setup.peerings p) s errand e);
  words = λ t s k p front later e x known other apart. absurd (none_stands (Done k p) front later e);
}

-- Where word of a landing is next to be taken, each other router of the setup has heard what the target told it before it asked it, or what it told since.
pub others_heard : (setup : Setup) (events : List Event) (w : World) → Run setup (first_world setup) events w
    → (t s k p : ℕ) (items : List Mesh) → w.mesh t s ≡ Done k p ∷ items
    → (x : ℕ) → x < routers_in setup → x ≢ s → x ≢ t → HasHeard setup (first_world setup) events t x k w
others_heard setup events w run t s k p items comes x known other apart =
    let all : Hearings setup events w =
    with_events setup (Hearings setup) (first_world setup) (hearings_then setup) [] events (first_world setup) w refl run (first_hearings setup) in
    let has : HasRead setup events t x k w = all.words t s k p [] items comes x known other apart in
    record {
      begun = has.question.begun;
      since = has.question.since;
      among = has.question.among;
      asking = has.question.asking;
      asked = has.question.asked;
      before = has.question.before;
      asks = has.question.asks;
      meanwhile = has.question.meanwhile;
      decided = has.question.decided;
      heard = has.heard;
    }
