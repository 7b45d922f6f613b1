-- What each event keeps, every run keeps.
use Rattle.std.proofs.Common.{◌≡◌, ◌==◌, cond, ℕ, ◌<◌, ◌≤◌, Bool, true, false, List, [], ◌∷◌, ◌++◌, Some, refl, sym, ap, subst, arith, append_assoc, append-nil}
use Rattle.std.proofs.lemmas.Bool.Decides.{nat_tests}
use Rattle.std.specs.Prelude.{IsSome, option_map}
use Rattle.std.specs.List.{AllByRecursion}
use Rattle.session_value.specs.Sessions.{SessionValue, begun}
use Rattle.session_value.specs.declared.config.SessionConfig.{SessionConfig}
use Rattle.graft_model.specs.Points.{at}
use Rattle.graft_model.specs.Setups.{Setup, PeeringSetup, IsSetup, routers_in, peerings_in, room_of, config_of, start_of, graft_at}
use Rattle.graft_model.specs.Parts.{RouterPart, Report, World}
use Rattle.graft_model.specs.GraftRows.{taken_in}
use Rattle.graft_model.specs.First.{first_world}
use Rattle.graft_model.specs.Steps.{Event, ByRouter, ByFar, ByOperator, Step, Run}
use Rattle.graft_laws.specs.Phases.{Phase, Idle}
use Rattle.graft_laws.specs.Owned.{Stands, Owned}
use Rattle.graft_laws.specs.Moves.{reports_sent, RouterMoves, reports_taken, OperatorMoves, FarMoves}
use Rattle.graft_laws.specs.Life.{Change}
use Rattle.graft_laws.specs.Keeps.{Reached, IsInvariant, Has}
use Rattle.graft_laws.proofs.Lists.{all_join, all_back}
use Rattle.graft_laws.proofs.Moves.{router_moves, far_moves, operator_moves}
use Rattle.graft_laws.proofs.Gifts.{GivesToRouters, row_gives}
use Rattle.graft_laws.proofs.Following.{Followed}
use Rattle.graft_laws.proofs.Deeds.{Each, Deed}
use Rattle.graft_laws.proofs.SessionDeeds.{deed}
use Rattle.graft_laws.proofs.FarDeeds.{far_each, operator_each}
use Rattle.graft_laws.proofs.First.{some_peering, first_stands, first_owned}

-- ---- one event

each_of : (setup : Setup) (w v : World) (event : Event) → IsSetup setup → Owned setup w → Step setup event w v → Each setup w v
each_of setup w v (ByRouter r event) ok owned x = (deed setup w v r owned event x.taken x.sent x.part x.row (router_moves setup r event w v x)).each
each_of setup w v (ByFar p event) ok owned x = far_each setup w v p event x.taken x.sent x.part x.row (far_moves setup p event w v x)
each_of setup w v (ByOperator event) ok owned x =
    operator_each setup w v event x.taken x.sent x.part ok owned.given x.may x.row (operator_moves setup event w v x)

-- where a peering of the setup stands after an event, and what the event did to it
pub followed : (setup : Setup) (w v : World) (event : Event) (p : ℕ) (phase : Phase) (s : SessionValue) → IsSetup setup → Owned setup w
    → Step setup event w v → p < peerings_in setup → Stands setup w p phase s
    → Followed setup w v p phase s
followed setup w v event p phase s ok owned step l b = (each_of setup w v event ok owned step).known p l phase s b

abbrev HasRoom : Setup → ℕ → RouterPart → Type 0
HasRoom setup r part = taken_in setup part ≤ room_of setup r

abbrev AreKnown : Setup → List Report → Type 0
AreKnown setup reports = AllByRecursion (λ (o : Report). IsSome (graft_at setup o.graft)) reports

room_at : (setup : Setup) (f : ℕ → RouterPart) (r x : ℕ) (part : RouterPart) → HasRoom setup x (f x) → (HasRoom setup r (f r) → HasRoom setup r part)
    → HasRoom setup x (at f r part x)
room_at setup f r x part was keeps = by_test (x == r) refl where
  by_test : (b : Bool) → (x == r) ≡ b → HasRoom setup x (cond b part (f x))
  by_test true is = let same : x ≡ r = grind (arith, nat_tests) in subst (λ (y : ℕ). HasRoom setup y (f y) → HasRoom setup y part) (sym same) keeps was
  by_test false is = was

room_then : (setup : Setup) (w v : World) (event : Event) → Owned setup w → Step setup event w v → (x : ℕ) → x < routers_in setup → HasRoom setup x (v.router x)
room_then setup w v (ByRouter r event) owned s x l =
    let m : RouterMoves r s.taken s.sent s.part w v = router_moves setup r event w v s in
    let d : Deed setup w v r s.taken s.sent s.part = deed setup w v r owned event s.taken s.sent s.part s.row m in
    subst (λ (f : ℕ → RouterPart). HasRoom setup x (f x)) (sym m.router) (room_at setup w.router r x s.part (owned.room x l) d.room)
room_then setup w v (ByFar p event) owned s x l = let m : FarMoves p s.taken s.sent s.part w v = far_moves setup p event w v s in
    subst (λ (f : ℕ → RouterPart). HasRoom setup x (f x)) (sym m.router) (owned.room x l)
room_then setup w v (ByOperator event) owned s x l = let m : OperatorMoves s.taken s.sent s.part w v = operator_moves setup event w v s in
    subst (λ (f : ℕ → RouterPart). HasRoom setup x (f x)) (sym m.router) (owned.room x l)

reports_then : (setup : Setup) (w v : World) (event : Event) → Owned setup w → Step setup event w v → (a : ℕ) → AreKnown setup (v.reports a)
reports_then setup w v (ByRouter r event) owned s a =
    let m : RouterMoves r s.taken s.sent s.part w v = router_moves setup r event w v s in
    let d : Deed setup w v r s.taken s.sent s.part = deed setup w v r owned event s.taken s.sent s.part s.row m in
    subst (λ (x : List Report). AreKnown setup x) (sym (m.reports a))
    (all_join (λ (o : Report). IsSome (graft_at setup o.graft)) (w.reports a) (reports_sent r s.sent a) (owned.reports a) (d.reports a))
reports_then setup w v (ByFar p event) owned s a = let m : FarMoves p s.taken s.sent s.part w v = far_moves setup p event w v s in
    subst (λ (f : ℕ → List Report). AreKnown setup (f a)) (sym m.reports) (owned.reports a)
reports_then setup w v (ByOperator event) owned s a =
    let m : OperatorMoves s.taken s.sent s.part w v = operator_moves setup event w v s in
    all_back (λ (o : Report). IsSome (graft_at setup o.graft)) (reports_taken s.taken a) (v.reports a)
    (subst (λ (x : List Report). AreKnown setup x) (sym (m.reports a)) (owned.reports a))

given_then : (setup : Setup) (w v : World) (event : Event) → Owned setup w → Step setup event w v → GivesToRouters setup v.operator
given_then setup w v (ByRouter r event) owned s =
    let m : RouterMoves r s.taken s.sent s.part w v = router_moves setup r event w v s in subst (GivesToRouters setup) (sym m.operator) owned.given
given_then setup w v (ByFar p event) owned s =
    let m : FarMoves p s.taken s.sent s.part w v = far_moves setup p event w v s in subst (GivesToRouters setup) (sym m.operator) owned.given
given_then setup w v (ByOperator event) owned s =
    let m : OperatorMoves s.taken s.sent s.part w v = operator_moves setup event w v s in
    subst (GivesToRouters setup) (sym m.operator) (row_gives setup event w.operator s.part s.taken s.sent s.row owned.given)

pub owned_then : (setup : Setup) (w v : World) (event : Event) → IsSetup setup → Owned setup w → Step setup event w v → Owned setup v
owned_then setup w v event ok owned step =
    let each : Each setup w v = each_of setup w v event ok owned step in
    record {
      peerings = λ p l. (let h = owned.peerings p l in let f = each.known p l h.phase h.session h.stands in
          record { phase = f.next; session = f.session; stands = f.stands });
      no_others = λ p past. each.absent p past (owned.no_others p past);
      room = room_then setup w v event owned step;
      reports = reports_then setup w v event owned step;
      given = given_then setup w v event owned step;
    }

-- ---- runs

pub run_more : (setup : Setup) (events : List Event) (event : Event) (w u v : World) → Run setup w events u → Step setup event u v
    → Run setup w (events ++ event ∷ []) v
run_more setup [] event w u v is step = (v, subst (λ (x : World). Step setup event x v) is step, refl)
run_more setup (e ∷ events) event w u v (next, first, run) step = (next, first, run_more setup events event next u v run step)

pub reached_first : (setup : Setup) → Reached setup (first_world setup)
reached_first setup = record { events = []; run = refl }

pub reached_more : (setup : Setup) (event : Event) (w v : World) → Reached setup w → Step setup event w v → Reached setup v
reached_more setup event w v reached step =
    record { events = reached.events ++ event ∷ []; run = run_more setup reached.events event (first_world setup) w v reached.run step }

-- A property of worlds that the first one has and each event keeps is one of every world that is reached.
module _ (setup : Setup) (I : World → Type 0)
    (keeps : (event : Event) (before after : World) → Reached setup before → Step setup event before after → I before → I after) where
  along : (events : List Event) (w v : World) → Reached setup w → Run setup w events v → I w → I v
  along [] w v reached is i = subst I (sym is) i
  along (event ∷ events) w v reached (u, step, run) i = along events u v (reached_more setup event w u reached step) run (keeps event w u reached step i)

-- The same of a property that speaks of the events before, too.
pub with_events : (setup : Setup) (I : List Event → World → Type 0) (first : World)
    → ((done : List Event) (event : Event) (before after : World) → Run setup first done before
    → Step setup event before after → I done before → I (done ++ event ∷ []) after)
    → (done events : List Event) (w v : World) → Run setup first done w → Run setup w events v → I done w → I (done ++ events) v
with_events setup I first keeps done [] w v before is i = subst (λ (es : List Event). I es v) (sym (append-nil done)) (subst (I done) (sym is) i)
with_events setup I first keeps done (event ∷ events) w v before (u, step, run) i =
    subst (λ (es : List Event). I es v) (append_assoc done (event ∷ []) events)
    (with_events setup I first keeps (done ++ event ∷ []) events u v (run_more setup done event first w u before step) run (keeps done event w u before step i))

-- a run goes on from a world that is reached
pub reached_run : (setup : Setup) (events : List Event) (w v : World) → Reached setup w → Run setup w events v → Reached setup v
reached_run setup [] w v reached is = subst (Reached setup) (sym is) reached
reached_run setup (event ∷ events) w v reached (u, step, run) = reached_run setup events u v (reached_more setup event w u reached step) run

pub carried_from : (setup : Setup) (I : World → Type 0)
    → ((event : Event) (before after : World) → Reached setup before → Step setup event before after → I before → I after)
    → (events : List Event) (w v : World) → Reached setup w → Run setup w events v → I w → I v
carried_from setup I keeps events w v reached run i = along setup I keeps events w v reached run i

pub carried : (setup : Setup) (I : World → Type 0) → I (first_world setup)
    → ((event : Event) (before after : World) → Reached setup before → Step setup event before after → I before → I after)
    → (w : World) → Reached setup w → I w
carried setup I first keeps w reached = along setup I keeps reached.events (first_world setup) w (reached_first setup) reached.run first

pub always_owned : (setup : Setup) → IsSetup setup → (w : World) → Reached setup w → Owned setup w
always_owned setup ok =
    carried setup (Owned setup) (first_owned setup ok) (λ event before after reached step owned. owned_then setup before after event ok owned step)

-- ---- further invariants of peerings

abbrev HaveAll : Setup → (World → ℕ → Phase → SessionValue → Type 0) → World → Type 0
HaveAll setup I w = (p : ℕ) → p < peerings_in setup → Has setup I w p

has_first : (setup : Setup) (I : World → ℕ → Phase → SessionValue → Type 0) → IsSetup setup
    → ((p : ℕ) (config : SessionConfig) → config_of setup p ≡ Some config → I (first_world setup) p (Idle (start_of setup p)) (begun config))
    → HaveAll setup I (first_world setup)
has_first setup I ok first p l =
    let some = some_peering setup p l in
    record {
      phase = Idle (start_of setup p);
      session = begun some.0.config;
      stands = first_stands setup p some.0 ok some.1;
      more = first p some.0.config (ap (option_map (λ (x : PeeringSetup). x.config)) some.1);
    }

-- what each event keeps of a peering
abbrev IsKept : Setup → (World → ℕ → Phase → SessionValue → Type 0) → Type 0
IsKept setup I = (event : Event) (before after : World) (p : ℕ) (phase next : Phase) (s t : SessionValue) → Reached setup before
    → Step setup event before after → p < peerings_in setup
    → Stands setup before p phase s → Stands setup after p next t → Change setup before after p phase s next t → I before p phase s → I after p next t

has_then : (setup : Setup) (I : World → ℕ → Phase → SessionValue → Type 0) → IsSetup setup → IsKept setup I → (event : Event) (before after : World)
    → Reached setup before → Step setup event before after
    → HaveAll setup I before → HaveAll setup I after
has_then setup I ok kept event before after reached step have p l =
    let h = have p l in
    let f = followed setup before after event p h.phase h.session ok (always_owned setup ok before reached) step l h.stands in
    record {
      phase = f.next;
      session = f.session;
      stands = f.stands;
      more = kept event before after p h.phase f.next h.session f.session reached step l h.stands f.stands f.change h.more;
    }

-- the same where the event itself counts
pub always_has_along : (setup : Setup) (I : World → ℕ → Phase → SessionValue → Type 0) → IsSetup setup
    → ((p : ℕ) (config : SessionConfig) → config_of setup p ≡ Some config → I (first_world setup) p (Idle (start_of setup p)) (begun config)) → IsKept setup I
    → (w : World) → Reached setup w → (p : ℕ) → p < peerings_in setup → Has setup I w p
always_has_along setup I ok first kept = carried setup (HaveAll setup I) (has_first setup I ok first) (has_then setup I ok kept)

pub always_has : (setup : Setup) (I : World → ℕ → Phase → SessionValue → Type 0) → IsSetup setup → IsInvariant setup I → (w : World)
    → Reached setup w → (p : ℕ) → p < peerings_in setup → Has setup I w p
always_has setup I ok keeps = always_has_along setup I ok keeps.first
    (λ event before after p phase next s t reached step l stands then change i. keeps.step before after p phase next s t reached l stands then change i)
