-- What an actor of the auditor does by the row of an event is what an actor of a laboratory does.
use Rattle.std.proofs.Common.{◌≡◌, ℕ, ◌<◌, List, [], ◌∷◌, ◌++◌, Option, Some, None, map, option_map, refl, sym, ap, ◌∙◌, subst, inl, arith}
use Rattle.ring_net.specs.declared.entry.JournalEntry.{JournalEntry}
use Rattle.std.specs.List.{AllByRecursion}
use Rattle.std.specs.Option.{option_to_list}
use Rattle.ring_net.specs.Deeds.{Deed}
use Rattle.journal_merge.specs.Worlds as worlds
use Rattle.journal_merge.specs.Worlds.{takes_on, sends_on}
use Rattle.graft_model.specs.Setups.{Setup}
use Rattle.graft_model.specs.Parts.{World, RouterPart, FarPart, OperatorPart}
use Rattle.graft_model.specs.Codes.{router_code, far_code, operator_code}
use Rattle.graft_model.specs.RouterRows.{RouterTaken, MeshIn, OrderIn, SegmentIn}
use Rattle.graft_model.specs.FarRows.{FarTaken, OutwardIn, SayIn}
use Rattle.graft_model.specs.OperatorRows.{OperatorTaken, ReportIn}
use Rattle.graft_model.specs.declared.event.RouterEvent.{RouterEvent}
use Rattle.graft_model.specs.declared.event.FarEvent.{FarEvent}
use Rattle.graft_model.specs.declared.event.OperatorEvent.{OperatorEvent}
use Rattle.graft_model.specs.Steps.{router_row, far_row, operator_row}
use Rattle.graft_actors.specs.Actors.{Thing, MeshItem, OutwardItem, SegmentItem, OrderItem, ReportItem, StepItem}
use Rattle.graft_actors.specs.Actors.{ActorName, Router, FarSide, Operator, IsActor, number_in, actor_at}
use Rattle.graft_actors.specs.Acts.{OwnPart, SendsFit, TakesWelcome, ActsAs, acts, things}
use Rattle.graft_actors.specs.Items.{thing_of}
use Rattle.graft_actors.specs.Makes.{HasCode, numbered, taken_by_router, taken_by_far, taken_by_operator, sent_by_router, sent_by_far, sent_by_operator}
use Rattle.graft_actors.specs.Seen.{part_of}
use Rattle.graft_actors.proofs.Numbers.{of_number}
use Rattle.graft_laws.specs.Facts.{NothingIsDropped}
use Rattle.world_runs.specs.Labs.{IsLab, actors_in}
use Rattle.world_runs.proofs.Comes.{own_is, takes_welcome}
use Rattle.audit_ruling.specs.Rulings.{Parcel, Holds, router_takes, far_takes, operator_takes, router_own, far_own, operator_own}
use Rattle.audit_ruling.specs.Senders.{from_router_taken, from_far_taken, from_operator_taken}
use Rattle.bgp_session.specs.Running.{carried}

-- ---- what is taken, with the number of its sender

-- an item with a number, as a thing
abbrev pub as_thing : Setup → ℕ × Parcel → ℕ × Thing
as_thing setup x = (x.0, thing_of carried setup x.1)

router_taken_is : (from : ActorName) (thing : Thing) (t : RouterTaken) → router_takes from thing ≡ Some t → taken_by_router t ≡ (from, thing)
router_taken_is (Router q) (MeshItem item) t e = let same : t ≡ MeshIn q item = cc in ap taken_by_router same
router_taken_is (FarSide p) (SegmentItem segment) t e = let same : t ≡ SegmentIn p segment = cc in ap taken_by_router same
router_taken_is Operator (OrderItem order) t e = let same : t ≡ OrderIn order = cc in ap taken_by_router same
router_taken_is from thing t e = absurd cc

far_taken_is : (from : ActorName) (thing : Thing) (t : FarTaken) → far_takes from thing ≡ Some t → taken_by_far t ≡ (from, thing)
far_taken_is (Router r) (OutwardItem item) t e = let same : t ≡ OutwardIn r item = cc in ap taken_by_far same
far_taken_is Operator (StepItem step) t e = let same : t ≡ SayIn step = cc in ap taken_by_far same
far_taken_is from thing t e = absurd cc

operator_taken_is : (from : ActorName) (thing : Thing) (t : OperatorTaken) → operator_takes from thing ≡ Some t → taken_by_operator t ≡ (from, thing)
operator_taken_is (Router r) (ReportItem report) t e = let same : t ≡ ReportIn r report = cc in ap taken_by_operator same
operator_taken_is from thing t e = absurd cc

-- what is taken from an actor that an event names has that one's number
module _ (setup : Setup) (from : ActorName) (item : Parcel) where
  abbrev thing : Thing
  thing = thing_of carried setup item

  taken_from : {T : Type 0} (takes : ActorName → Thing → Option T) (taken_by : T → ActorName × Thing)
      → ((thing : Thing) (t : T) → takes from thing ≡ Some t → taken_by t ≡ (from, thing))
      → option_map (λ t. (taken_by t).0) (takes from thing) ≡ Some from
      → Some (as_thing setup (number_in setup from, item)) ≡ option_map (λ t. numbered setup (taken_by t)) (takes from thing)
  taken_from takes taken_by told named = by_taken (takes from thing) refl named where
    by_taken : (o : Option _) → takes from thing ≡ o → option_map (λ t. (taken_by t).0) o ≡ Some from
        → Some (as_thing setup (number_in setup from, item)) ≡ option_map (λ t. numbered setup (taken_by t)) o
    by_taken None is e = absurd cc
    by_taken (Some t) is e = ap (λ (x : ActorName × Thing). Some (numbered setup x)) (sym (told thing t is))

  pub router_took : from_router_taken (router_takes from thing) ≡ Some from
      → option_map (as_thing setup) (Some (number_in setup from, item)) ≡ option_map (λ t. numbered setup (taken_by_router t)) (router_takes from thing)
  router_took named = taken_from router_takes taken_by_router (router_taken_is from) named

  pub far_took : from_far_taken (far_takes from thing) ≡ Some from
      → option_map (as_thing setup) (Some (number_in setup from, item)) ≡ option_map (λ t. numbered setup (taken_by_far t)) (far_takes from thing)
  far_took named = taken_from far_takes taken_by_far (far_taken_is from) named

  pub operator_took : from_operator_taken (operator_takes from thing) ≡ Some from
      → option_map (as_thing setup) (Some (number_in setup from, item)) ≡ option_map (λ t. numbered setup (taken_by_operator t)) (operator_takes from thing)
  operator_took named = taken_from operator_takes taken_by_operator (operator_taken_is from) named

-- an actor's number is one of all
pub number_below : (setup : Setup) (x : ActorName) → IsActor setup x → number_in setup x < actors_in setup
number_below setup (Router r) known = omega (arith, known)
number_below setup (FarSide p) known = omega (arith, known)
number_below setup Operator known = omega arith

-- what is sent goes to actors that exist
pub sent_there : (own : OwnPart) (sent : List (ℕ × Parcel)) → SendsFit carried own sent → AllByRecursion (λ x. x.0 < actors_in own.setup) sent
sent_there own [] fit = tt
sent_there own (x ∷ sent) fit =
    let to = of_number own.setup x.0 fit.0.0 fit.0.1 in
    (subst (λ (n : ℕ). n < actors_in own.setup) (sym to.1) (number_below own.setup fit.0.0 to.0), sent_there own sent fit.1)

-- the one to whom something is sent exists
pub one_there : {A : Type 0} (count : ℕ) (sent : List (ℕ × A)) (to : Option ℕ) → AllByRecursion (λ x. x.0 < count) sent
    → map (λ x. x.0) sent ≡ option_to_list to → (n : ℕ) → to ≡ Some n → n < count
one_there count [] None all is n e = absurd cc
one_there count [] (Some m) all is n e = absurd cc
one_there count (x ∷ sent) None all is n e = absurd cc
one_there count (x ∷ sent) (Some m) all is n e = subst (λ (k : ℕ). k < count) (let same : x.0 ≡ n = cc in same) all.0

-- nothing is sent where no things are
pub none_sent : (setup : Setup) (sent : List (ℕ × Parcel)) → things carried setup sent ≡ [] → sent ≡ []
none_sent setup [] e = refl
none_sent setup (x ∷ sent) e = absurd cc

-- ---- acts

module _ (setup : Setup) (entry : JournalEntry) (taken : Option (ℕ × Parcel)) (sent : List (ℕ × Parcel)) where
  pub router_acts : (r : ℕ) (event : RouterEvent) (before after : RouterPart) (took : Option RouterTaken) → HasCode (router_code event) entry
      → option_map (as_thing setup) taken ≡ option_map (λ t. numbered setup (taken_by_router t)) took
      → Holds (router_row setup r event) sent_by_router (router_own setup r before) before took sent after
      → TakesWelcome carried (router_own setup r before) taken
      → ActsAs carried (router_own setup r before) entry taken sent (router_own setup r after)
  router_acts r event before after took coded is_taken holds welcome = record {
    setup = refl;
    name = refl;
    does = inl (record {
      welcome = welcome;
      row = record {
        event = event;
        coded = coded;
        took = took;
        gave = holds.gave;
        holds = holds.row;
        is_taken = is_taken;
        is_sent = holds.is_sent;
        there = holds.there;
      };
      fit = holds.fit;
    });
  }

  pub far_acts : (p : ℕ) (event : FarEvent) (before after : FarPart) (took : Option FarTaken) → HasCode (far_code event) entry
      → option_map (as_thing setup) taken ≡ option_map (λ t. numbered setup (taken_by_far t)) took
      → Holds (far_row setup p event) sent_by_far (far_own setup p before) before took sent after
      → TakesWelcome carried (far_own setup p before) taken
      → ActsAs carried (far_own setup p before) entry taken sent (far_own setup p after)
  far_acts p event before after took coded is_taken holds welcome = record {
    setup = refl;
    name = refl;
    does = inl (record {
      welcome = welcome;
      row = record {
        event = event;
        coded = coded;
        took = took;
        gave = holds.gave;
        holds = holds.row;
        is_taken = is_taken;
        is_sent = holds.is_sent;
        there = holds.there;
      };
      fit = holds.fit;
    });
  }

  pub operator_acts : (event : OperatorEvent) (before after : OperatorPart) (took : Option OperatorTaken) → HasCode (operator_code event) entry
      → option_map (as_thing setup) taken ≡ option_map (λ t. numbered setup (taken_by_operator t)) took
      → Holds (operator_row setup event) sent_by_operator (operator_own setup before) before took sent after
      → TakesWelcome carried (operator_own setup before) taken
      → ActsAs carried (operator_own setup before) entry taken sent (operator_own setup after)
  operator_acts event before after took coded is_taken holds welcome = record {
    setup = refl;
    name = refl;
    does = inl (record {
      welcome = welcome;
      row = record {
        event = event;
        coded = coded;
        took = took;
        gave = holds.gave;
        holds = holds.row;
        is_taken = is_taken;
        is_sent = holds.is_sent;
        there = holds.there;
      };
      fit = holds.fit;
    });
  }

-- ---- one deed of a laboratory

module _ (setup : Setup) (lab next : worlds.DeedWorld OwnPart Parcel) (w : World) (nothing : NothingIsDropped setup w) (is_lab : IsLab carried setup lab w)
    (deed : Deed Parcel) (x : ActorName) (is : actor_at setup deed.entry.actor ≡ Some x) (rest : ℕ → ℕ → List Parcel)
    (takes : (a b : ℕ) → lab.channel a b ≡ takes_on deed a b ++ rest a b)
    (sends : (a b : ℕ) → next.channel a b ≡ rest a b ++ sends_on deed a b) where
  -- what is taken is welcome
  pub welcome : TakesWelcome carried (record { setup = setup; name = x; part = part_of w x }) deed.taken
  welcome = takes_welcome carried setup lab w nothing is_lab deed x is rest takes

  -- the actor's act is a step of the laboratory
  pub deed_step : (own : OwnPart) → ActsAs carried (record { setup = setup; name = x; part = part_of w x }) deed.entry deed.taken deed.sent own
      → next.part deed.entry.actor ≡ own → ((k : ℕ) → (k ≡ deed.entry.actor → ⊥) → next.part k ≡ lab.part k)
      → worlds.DeedStep (acts carried) lab deed next
  deed_step own acted now others = record {
    made = subst (λ (after : OwnPart). ActsAs carried (lab.part deed.entry.actor) deed.entry deed.taken deed.sent after) (sym now)
        (subst (λ (before : OwnPart). ActsAs carried before deed.entry deed.taken deed.sent own)
        (sym (own_is carried setup lab w is_lab deed.entry.actor x is)) acted);
    others = others;
    rest = rest;
    takes = takes;
    sends = sends;
  }
