-- A source has its target's routes before it clears its shadow.
use Rattle.std.proofs.Common.{◌≡◌, ◌≢◌, ℕ, ◌<◌, false, List, [], ◌∷◌, ◌++◌, Option, Some, None, inl, inr}
use Rattle.std.proofs.Common.{refl, sym, ap, ◌∙◌, subst, append_assoc}
use Rattle.std.specs.FinMap as map
use Rattle.std.proofs.lemmas.List.{append-nil}
use Rattle.bgp_types.specs.Prefixes.{PrefixValue}
use Rattle.route_policy.specs.Telling.{tell_in}
use Rattle.session_value.specs.Sessions.{SessionValue}
use Rattle.session_value.specs.Sets.{has}
use Rattle.graft_model.specs.Claims.{MadeBeforeBroken}
use Rattle.graft_model.specs.Decisions.{chosen}
use Rattle.graft_model.specs.First.{first_world}
use Rattle.graft_model.specs.GraftRows.{Confirms}
use Rattle.graft_model.specs.Parts.{Done, Owing, Live, RouterPart, Mesh, World}
use Rattle.graft_model.specs.RouterRows.{RouterTaken, MeshTo}
use Rattle.graft_model.specs.Setups.{Setup, IsSetup, routers_in}
use Rattle.graft_model.specs.declared.event.RouterEvent.{RouterEvent}
use Rattle.graft_model.specs.declared.event.RouterEvent.TheVariants.{Confirm}
use Rattle.graft_model.specs.Steps.{Event, ByRouter, ByFar, ByOperator, RouterStep, Step, Run}
use Rattle.graft_laws.specs.Keeps.{Reached}
use Rattle.graft_laws.specs.Moves.{mesh_taken, mesh_sent, RouterMoves}
use Rattle.graft_laws.specs.Owned.{Stands, Owned}
use Rattle.graft_laws.specs.Phases.{Landed, Phase, Busy}
use Rattle.graft_laws.specs.Tables.{last_told}
use Rattle.graft_laws.proofs.Deeds.{known_place}
use Rattle.graft_laws.proofs.HeardBefore.{heard_kept, others_heard}
use Rattle.graft_laws.proofs.Lists.{StandsIn, stands_in, none_stands}
use Rattle.graft_laws.proofs.Moves.{router_moves, far_moves, operator_moves}
use Rattle.graft_laws.proofs.Phases.{owing_at}
use Rattle.graft_laws.proofs.Routers.{at_apart}
use Rattle.graft_laws.proofs.Runs.{run_more, with_events, always_owned}
use Rattle.graft_laws.proofs.SentItems.{is_sent}
use Rattle.graft_laws.proofs.TableLaws.{always_decided, always_informed}

-- ---- who sends word

-- The event of the router r is the one by which word of the graft goes to b.
record IsWordOf (setup : Setup) (r k b : ℕ) (event : RouterEvent) (before : RouterPart) (taken : Option RouterTaken) : Type 0 where
  is : event ≡ Confirm k
  clean : (x : PrefixValue) → has before.dirty x ≡ false
  told : (q : ℕ) (x : PrefixValue) → has (before.due_in q) x ≡ false
  takes : taken ≡ None
  apart : r ≢ b
  below : b < routers_in setup

-- word is owed to another router of the setup
owed_to : (setup : Setup) (w : World) (r j n q next : ℕ) (s : SessionValue) → Owned setup w
    → (w.router r).places n ≡ Live s (Some (Owing (record { graft = j; source = q; next = next })))
    → (r ≢ q) × (q < routers_in setup)
owed_to setup w r j n q next s owned live =
    let held = owned.peerings n (known_place setup w owned r n _ live (λ e. absurd cc)) in
    let e = owing_at held.phase held.session s r j q next (sym live ∙ held.stands.places r) in
    let there : Stands setup w n (Busy q j r (Landed next)) held.session = subst (λ (x : Phase). Stands setup w n x held.session) e.0 held.stands in
    (there.bounds.2, there.bounds.0)

same_target : (q t : ℕ) (x y : Mesh) → MeshTo q x ∷ [] ≡ MeshTo t y ∷ [] → q ≡ t
same_target q t x y f = cc

gives_word : (setup : Setup) (w : World) (r : ℕ) (taken : Option RouterTaken) (after : RouterPart) (k b p : ℕ) (event : RouterEvent) → Owned setup w
    → (event ≡ Confirm k) × Confirms setup r k (w.router r) taken (MeshTo b (Done k p) ∷ []) after → IsWordOf setup r k b event (w.router r) taken
gives_word setup w r taken after k b p event owned (is, row) =
    let to : b ≡ row.source = same_target b row.source (Done k p) (Done k row.peering) row.sends in
    let owed = owed_to setup w r k row.peering row.source row.next row.session owned row.live.is in
    record {
      is = is;
      clean = row.clean;
      told = row.told;
      takes = row.takes;
      apart = λ same. owed.0 (same ∙ to);
      below = subst (λ (n : ℕ). n < routers_in setup) (sym to) owed.1;
    }

-- ---- what stands before a word

-- Word of the graft k that stands behind these items in the channel from a to b was given in the run: a had then the routes that it chose, and b has of
-- it what it told of them, once these items are read.
record IsGiven (setup : Setup) (events : List Event) (a b k : ℕ) (front : List Mesh) (w : World) : Type 0 where
  begun : List Event
  since : List Event
  among : events ≡ begun ++ ByRouter a (Confirm k) ∷ since
  giving : World
  given : World
  before : Run setup (first_world setup) begun giving
  gives : Step setup (ByRouter a (Confirm k)) giving given
  meanwhile : Run setup given since w
  decided : (x : PrefixValue) → map.get (giving.router a).best x ≡ chosen setup a (giving.router a) x
  heard : (x : PrefixValue) → last_told x front (map.get ((w.router b).tellings a) x) ≡ tell_in (map.get (giving.router a).best x)

abbrev AreGiven : Setup → List Event → World → Type 0
AreGiven setup events w = (a b k p : ℕ) (front later : List Mesh) → w.mesh a b ≡ front ++ Done k p ∷ later → IsGiven setup events a b k front w

goes_on : (setup : Setup) (events : List Event) (event : Event) (a b k : ℕ) (front left : List Mesh) (w v : World) → Step setup event w v
    → ((x : PrefixValue) → last_told x left (map.get ((v.router b).tellings a) x) ≡ last_told x front (map.get ((w.router b).tellings a) x))
    → IsGiven setup events a b k front w → IsGiven setup (events ++ event ∷ []) a b k left v
goes_on setup events event a b k front left w v step kept g = record {
  begun = g.begun;
  since = g.since ++ event ∷ [];
  among = ap (λ (es : List Event). es ++ event ∷ []) g.among ∙ append_assoc g.begun (ByRouter a (Confirm k) ∷ g.since) (event ∷ []);
  giving = g.giving;
  given = g.given;
  before = g.before;
  gives = g.gives;
  meanwhile = run_more setup g.since event g.given w v g.meanwhile step;
  decided = g.decided;
  heard = λ x. kept x ∙ g.heard x;
}

-- the same routers and channels
unmoved : (setup : Setup) (events : List Event) (event : Event) (w v : World) → Step setup event w v → v.router ≡ w.router → v.mesh ≡ w.mesh
    → AreGiven setup events w → AreGiven setup (events ++ event ∷ []) v
unmoved setup events event w v step routers mesh all a b k p front later e =
    goes_on setup events event a b k front front w v step (λ x. ap (λ (f : ℕ → RouterPart). last_told x front (map.get ((f b).tellings a) x)) routers)
    (all a b k p front later (ap (λ (f : ℕ → ℕ → List Mesh). f a b) (sym mesh) ∙ e))

module _ (setup : Setup) (ok : IsSetup setup) (events : List Event) (r : ℕ) (event : RouterEvent) (w v : World)
    (run : Run setup (first_world setup) events w) (step : RouterStep setup r event w v) where
  reached : Reached setup w
  reached = record { events = events; run = run }

  moves : RouterMoves r step.taken step.sent step.part w v
  moves = router_moves setup r event w v step

  there : (n : ℕ) → n ≢ r → v.router n ≡ w.router n
  there n other = ap (λ (f : ℕ → RouterPart). f n) moves.router ∙ at_apart w.router r n step.part other

  -- word that is given now
  new_word : (a b k : ℕ) (ws front : List Mesh) → mesh_taken r step.taken a b ++ front ≡ w.mesh a b ++ ws
      → (a ≡ r) × (ws ≡ []) × IsWordOf setup r k b event (w.router r) step.taken
      → IsGiven setup (events ++ ByRouter r event ∷ []) a b k front v
  new_word a b k ws front e (here, first, word) =
      let event_is : ByRouter r event ≡ ByRouter a (Confirm k) = ap (λ (n : ℕ). ByRouter n event) (sym here) ∙ ap (ByRouter a) word.is in
      let apart : a ≢ b = λ same. word.apart (sym here ∙ same) in
      let front_is : front ≡ w.mesh a b =
      ap (λ (t : Option RouterTaken). mesh_taken r t a b ++ front) (sym word.takes) ∙ e
      ∙ ap (λ (xs : List Mesh). w.mesh a b ++ xs) first ∙ append-nil (w.mesh a b) in
      record {
        begun = events;
        since = [];
        among = ap (λ (x : Event). events ++ x ∷ []) event_is;
        giving = w;
        given = v;
        before = run;
        gives = subst (λ (x : Event). Step setup x w v) event_is step;
        meanwhile = refl;
        decided = λ x. (always_decided setup w reached a).best x (ap (λ (n : ℕ). has (w.router n).dirty x) here ∙ word.clean x);
        heard = λ x.
            ap (λ (xs : List Mesh). last_told x xs (map.get ((v.router b).tellings a) x)) front_is
            ∙ ap (λ (u : RouterPart). last_told x (w.mesh a b) (map.get (u.tellings a) x)) (there b (λ same. word.apart (sym same)))
            ∙ (always_informed setup w reached a b).others apart word.below x (ap (λ (n : ℕ). has ((w.router n).due_in b) x) here ∙ word.told b x);
      }

  by_router : AreGiven setup events w → AreGiven setup (events ++ ByRouter r event ∷ []) v
  by_router all a b k p front later e = by_place (stands_in (w.mesh a b) (mesh_sent r step.sent a b) (took ++ front) later (Done k p) joined) where
    took : List Mesh
    took = mesh_taken r step.taken a b

    joined : w.mesh a b ++ mesh_sent r step.sent a b ≡ (took ++ front) ++ Done k p ∷ later
    joined = sym (moves.mesh a b) ∙ ap (λ (xs : List Mesh). took ++ xs) e ∙ sym (append_assoc took front (Done k p ∷ later))

    by_place : StandsIn (w.mesh a b) (mesh_sent r step.sent a b) (took ++ front) later (Done k p)
        → IsGiven setup (events ++ ByRouter r event ∷ []) a b k front v
    by_place (inl (ws, was)) =
        goes_on setup events (ByRouter r event) a b k (took ++ front) front w v step (λ x. heard_kept setup r event w v step a b front x)
        (all a b k p (took ++ front) ws was)
    by_place (inr (ws, is, new)) =
        let owned : Owned setup w = always_owned setup ok w reached in
        let s = is_sent setup r (w.router r) step.part step.taken step.sent event a b (Done k p) ws later step.row new in
        new_word a b k ws front is (s.here, s.first, gives_word setup w r step.taken step.part k b p event owned s.by)

-- ---- runs

given_then : (setup : Setup) → IsSetup setup → (events : List Event) (event : Event) (w v : World)
    → Run setup (first_world setup) events w → Step setup event w v
    → AreGiven setup events w → AreGiven setup (events ++ event ∷ []) v
given_then setup ok events (ByRouter r event) w v run step all = by_router setup ok events r event w v run step all
given_then setup ok events (ByFar p event) w v run step all =
    let m = far_moves setup p event w v step in unmoved setup events (ByFar p event) w v step m.router m.mesh all
given_then setup ok events (ByOperator event) w v run step all =
    let m = operator_moves setup event w v step in unmoved setup events (ByOperator event) w v step m.router m.mesh all

always_given : (setup : Setup) → IsSetup setup → (events : List Event) (w : World) → Run setup (first_world setup) events w → AreGiven setup events w
always_given setup ok events w run =
    with_events setup (AreGiven setup) (first_world setup) (given_then setup ok) [] events (first_world setup) w refl run
    (λ a b k p front later e. absurd (none_stands (Done k p) front later e))

pub made_before : (setup : Setup) (events : List Event) → IsSetup setup → MadeBeforeBroken setup (first_world setup) events
made_before setup events ok begun rest s t k p items before after among run step comes =
    let g : IsGiven setup begun t s k [] before = always_given setup ok begun before run t s k p [] items comes in
    record {
      begun = g.begun;
      since = g.since;
      among = g.among;
      giving = g.giving;
      given = g.given;
      before = g.before;
      gives = g.gives;
      meanwhile = g.meanwhile;
      decided = g.decided;
      heard = g.heard;
      others = others_heard setup begun before run t s k p items comes;
    }
