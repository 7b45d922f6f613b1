-- A round passes on a session, and the router follows it.
use Rattle.std.proofs.Common.{◌≡◌, ◌≢◌, ℕ, ◌+◌, ◌<◌, List, [], ◌∷◌, ◌++◌, length, Option, Some, None, option_map}
use Rattle.std.proofs.Common.{Bool, true, false, inl, inr, refl, sym, ap, subst, ◌∙◌}
use Rattle.std.specs.Prelude.{if◌then◌else◌, nat_lt, Result, OnOk}
use Rattle.std.proofs.lemmas.Result.{on_ok_weaker}
use Rattle.std.proofs.lemmas.Bool.{cases_lt, eq-eqb, ne_eqb}
use Rattle.std.proofs.lemmas.List.{length-set}
use Rattle.ring_net.specs.declared.post.Post.{Post}
use Rattle.graft_steps.specs.declared.item.Item.{Item}
use Rattle.session_places.specs.Places.{with_place}
use Rattle.router_core.specs.declared.place.Errand.{Errand}
use Rattle.session_value.specs.declared.config.SessionConfig.{SessionConfig}
use Rattle.session_value.specs.Fronts.{BeginsNothing}
use Rattle.session_value.specs.Sessions.{SessionValue, state}
use Rattle.session_value.specs.Sets.{Entries, Prefixes}
use Rattle.session_value.proofs.Replies.{up_open}
use Rattle.bgp_session.specs.Running.{RunningSession}
use Rattle.bgp_session.specs.Steps.{MayPass, SessionTicks}
use Rattle.bgp_session.specs.declared.answers.TickStep.{TickStep}
use Rattle.rib_stages.specs.Values.{RibValue, rib_of, table_at}
use Rattle.graft_model.specs.Decisions.{entry_of}
use Rattle.graft_model.specs.Parts.{RouterPart}
use Rattle.graft_model.specs.RouterRows as rows
use Rattle.graft_model.specs.declared.event.RouterEvent.TheVariants as events
use Rattle.graft_actors.specs.Emissions.{Tally}
use Rattle.router_core.specs.Parts.{router_part, RouterInvariant, KeepsPlace}
use Rattle.router_core.specs.Places.{errand_of, place_of, place_at, RunsAt}
use Rattle.router_core.specs.Reading.{FollowsStep}
use Rattle.router_core.specs.Rounds.{DidAsRouter, WritesEvent}
use Rattle.router_core.specs.Sending.{AtPlace}
use Rattle.router_core.specs.Stages.{PassesRounds, PassesWhereItMay, PlaceGoes, PutsMore}
use Rattle.router_core.specs.Ticking.{Ticked}
use Rattle.router_tables.specs.Reads.{followed}
use Rattle.router_tables.proofs.Rounds.{due_round, follows_round, unread_same, up_round}
use Rattle.router_core.specs.Turned.{rounds_on}
use Rattle.router_core.specs.Visits.{OnPeering, events_on, none_on, SameButPlaces, SameButSessions, Visited, Visits, passing_rounds}
use Rattle.router_core.specs.declared.fields.Fields.{Fields}
use Rattle.router_core.specs.declared.place.Place.{Place}
use Rattle.router_core.specs.declared.place.Place.TheVariants.{Live, Shadow}
use Rattle.router_core.proofs.Dids.{did_one}
use Rattle.router_core.proofs.Kept.{keeps_on, places_at, with_routes}
use Rattle.router_tables.proofs.Points.{at_is, one_or_other, at_else}
use Rattle.router_core.proofs.PlaceSteps.{at_own}
use Rattle.router_core.proofs.ReadSteps.{entry_is}
use Rattle.router_core.proofs.SendSteps.{some_none, visits_idle}
use Rattle.router_core.proofs.PlaceLists.{listed, rooms}
use Rattle.router_core.proofs.VisitSteps.{place_at_end, set_here, set_other}

-- ---- the event

module _ (f g : Fields) (p : ℕ) (a b : Post (Item RunningSession)) (round : ℕ) (s u : RunningSession) (o : Option Errand)
    (step : TickStep) (keeps : RouterInvariant f) (is : place_at f.places.places p ≡ Some (Live s o)) (there : p < length f.places.places)
    (may : MayPass s.session round) (ticks : SessionTicks step s round u)
    (items : g.places ≡ with_place f.places p (Some (Live u o))) (wrote : WritesEvent a (events.Tick p round) [] b)
    (follows : FollowsStep (record f { places = g.places }) p u (followed step) g) where
  same : g ≡ record f { places = g.places; rib = g.rib; due_out = g.due_out }
  same = follows.same

  here : place_at g.places.places p ≡ Some (Live u o)
  here = ap (λ (xs : List (Option Place)). place_at xs p) (listed items) ∙ set_here f.places.places p (Some (Live u o)) there

  elsewhere : (n : ℕ) → n ≢ p → place_at g.places.places n ≡ place_at f.places.places n
  elsewhere n not = ap (λ (xs : List (Option Place)). place_at xs n) (listed items) ∙ set_other f.places.places p (Some (Live u o)) there n not

  entries_else : (n : ℕ) → n ≢ p → (rib_of g.rib).entries n ≡ (rib_of f.rib).entries n
  entries_else n not = ap (λ (v : RibValue). v.entries n) follows.entered.effect ∙ at_else (rib_of f.rib).entries p ((rib_of g.rib).entries p) n not

  row : rows.Ticks f.known.setup f.number.0 p round (router_part f) None [] (router_part g)
  row = record {
    alone = (refl, refl);
    session = s.session;
    errand = option_map errand_of o;
    live = record { is = ap place_of is };
    next = u.session;
    passes = ticks.passes;
    follows = record {
      entries = follows_round s.session u.session round ticks.passes (entry_of f.known.setup f.number.0 u.session)
          ((rib_of f.rib).entries p) ((rib_of g.rib).entries p) step ticks.tells
          (λ x e. follows.entered.each x e ∙ entry_is f u.session x keeps) follows.entered.others;
      dirty = follows.entered.dirty;
      due = due_round s.session u.session round ticks.passes f.rib.best (table_at f.due_out p) (table_at g.due_out p) step ticks.tells follows.due;
      effect = ap router_part same
          ∙ (λ i. let v : RouterPart = record (with_routes (router_part f) (follows.entered.effect i)) {
            places =
                (ap (λ (xs : List (Option Place)). (λ n. place_of (place_at xs n))) (listed items) ∙ places_at f.places.places p (Some (Live u o)) there) i;
            due_out = at_is (table_at f.due_out) (table_at g.due_out) p (table_at g.due_out p) refl (λ n not. follows.sets.others n not) i;
          } in v);
    };
  }

  place_is : KeepsPlace f.known.setup f.number.0 p ((rib_of f.rib).entries p) (table_at f.due_out p) (Some (Live s o))
  place_is = subst (KeepsPlace f.known.setup f.number.0 p ((rib_of f.rib).entries p) (table_at f.due_out p)) is (keeps.each p)

  config_is : u.session.config ≡ s.session.config
  config_is = ap (λ (v : SessionValue). v.config) ticks.passes.effect

  place_then : KeepsPlace f.known.setup f.number.0 p ((rib_of g.rib).entries p) (table_at g.due_out p) (Some (Live u o))
  place_then = (
    record {
      peering = ap (λ (c : SessionConfig). c.peering.0) config_is ∙ place_is.0.peering;
      sends = ap (λ (c : SessionConfig). c.send_first.0) config_is ∙ place_is.0.sends;
      receives = ap (λ (c : SessionConfig). c.receive_first.0) config_is ∙ place_is.0.receives;
    },
    λ unclosed. subst BeginsNothing (sym (unread_same s.session u.session round ticks.passes)) (place_is.1 (up_open (state s.session) ticks.passes.up)),
    place_is.2,
    up_round s.session u.session round ticks.passes f.rib.best (table_at f.due_out p) (table_at g.due_out p) step ticks.tells follows.due place_is.3,
  )

  keeps_then : RouterInvariant g
  keeps_then = keeps_on f g keeps
      (subst (λ (h : Fields). h ≡ record f { places = h.places; rib = h.rib; due_in = h.due_in; due_out = h.due_out; turns = h.turns }) (sym same) refl)
      (record {
        places = ap length (listed items) ∙ length-set f.places.places p (Some (Live u o));
        reserved = rooms items;
        due_in = ap (λ (h : Fields). length h.due_in) same;
        due_out = follows.sets.length;
        config = ap (λ (v : RibValue). v.config) follows.entered.effect;
        tellings = λ q out. ap (λ (v : RibValue). v.tellings q) follows.entered.effect;
      })
      (λ n. elim (one_or_other p n) [
        | inl e ↦
            subst (λ (m : ℕ). KeepsPlace f.known.setup f.number.0 m ((rib_of g.rib).entries m) (table_at g.due_out m) (place_at g.places.places m)) (sym e)
            (subst (λ (x : Option Place). KeepsPlace f.known.setup f.number.0 p ((rib_of g.rib).entries p) (table_at g.due_out p) x) (sym here) place_then)
        | inr not ↦
            subst (λ (x : Option Place). KeepsPlace f.known.setup f.number.0 n ((rib_of g.rib).entries n) (table_at g.due_out n) x) (sym (elsewhere n not))
            (subst (λ (es : Entries). KeepsPlace f.known.setup f.number.0 n es (table_at g.due_out n) (place_at f.places.places n)) (sym (entries_else n not))
            (subst (λ (d : Prefixes). KeepsPlace f.known.setup f.number.0 n ((rib_of f.rib).entries n) d (place_at f.places.places n))
            (sym (follows.sets.others n not)) (keeps.each n)))
      ])

  round_here : rounds_on p (events.Tick p round ∷ []) ≡ round ∷ []
  round_here = ap (λ (t : Bool). let xs : List ℕ = (if t then round ∷ [] else []) ++ [] in xs) (eq-eqb p p refl)

  round_else : (n : ℕ) → n ≢ p → events_on n (events.Tick p round ∷ []) ≡ none_on
  round_else n not = ap (λ (t : Bool). let on : OnPeering = record { rounds = (if t then round ∷ [] else []) ++ []; emits = 0; answers = 0 } in on)
      (ne_eqb p n (λ e. not (sym e)))

  more : PutsMore s u
  more = record {
    acked = ap (λ (v : SessionValue). v.end.acked) ticks.passes.effect;
    emitted = ap (λ (v : SessionValue). v.end.emitted) ticks.passes.effect;
    at_turn = ticks.same_turn;
  }

  pub ticks_at : Visits (passing_rounds round) p f a g b
  ticks_at = record {
    events = events.Tick p round ∷ [];
    did = λ t. subst (λ (v : ℕ → Tally). DidAsRouter f a t (events.Tick p round ∷ []) g b v) (λ i n. sym (at_own t p (t p) refl n) i)
        (did_one f g a b t (events.Tick p round)
        (record { setup = ap (λ (h : Fields). h.known.setup) same; number = ap (λ (h : Fields). h.number) same }) wrote row tt);
    at = (refl, tt);
    goes = subst (λ (xs : List ℕ). PlaceGoes (PassesWhereItMay round xs) (place_at f.places.places p) (place_at g.places.places p)) (sym round_here)
        (subst (λ (x : Option Place). PlaceGoes (PassesWhereItMay round (round ∷ [])) x (place_at g.places.places p))
        (sym is) (u, here, (more, inl (may, refl))));
    others = λ n not. (elsewhere n not, round_else n not);
    same = same;
    keeps = keeps_then;
  }

-- the router with the session after its round, which it follows then
module _ {T E : Type 0} (r : Result T E) (f k g : Fields) (p round : ℕ) (a b : Post (Item RunningSession))
    (x : Option Place) (step : TickStep) (keeps : RouterInvariant f) (there : p < length f.places.places)
    (same : k ≡ record f { places = k.places }) (items : k.places ≡ with_place f.places p x)
    (wrote : WritesEvent a (events.Tick p round) [] b) (follows : (s : RunningSession) (o : Option Errand)
    → RunsAt k.places.places p s o → s.session.config.peering.0 ≡ p → OnOk r (FollowsStep k p s (followed step) g)) where
  ticks_live : (s u : RunningSession) (o : Option Errand) → place_at f.places.places p ≡ Some (Live s o) → x ≡ Some (Live u o)
      → MayPass s.session round → SessionTicks step s round u → OnOk r (Visits (passing_rounds round) p f a g b)
  ticks_live s u o is x_is may ticks =
      let own : KeepsPlace f.known.setup f.number.0 p ((rib_of f.rib).entries p) (table_at f.due_out p) (Some (Live s o)) =
      subst (KeepsPlace f.known.setup f.number.0 p ((rib_of f.rib).entries p) (table_at f.due_out p)) is (keeps.each p) in
      on_ok_weaker r
      (λ (done : FollowsStep k p u (followed step) g).
      let done' : FollowsStep (record f { places = k.places }) p u (followed step) g = subst (λ (h : Fields). FollowsStep h p u (followed step) g) same done in
      let places_are : k.places ≡ g.places = sym (ap (λ (h : Fields). h.places) done.same) in
      ticks_at f g p a b round s u o step keeps is there may ticks (ap (λ (h : Fields). h.places) done.same ∙ items ∙ ap (with_place f.places p) x_is) wrote
      (subst (λ v. FollowsStep (record f { places = v }) p u (followed step) g) places_are done'))
      (follows u o (record { is = ap (λ (xs : List (Option Place)). place_at xs p) (listed items) ∙ set_here f.places.places p x there ∙ x_is })
      (ap (λ (v : SessionValue). v.config.peering.0) ticks.passes.effect ∙ own.0.peering))

  pub ticks_some : (y : Option Place) → place_at f.places.places p ≡ y → AtPlace (Ticked round) y (Some step) x
      → OnOk r (Visits (passing_rounds round) p f a g b)
  ticks_some None is ticked = absurd (some_none step ticked.0)
  ticks_some (Some (Live s o)) is (u, x_is, ticked) = ticks_live s u o is x_is ticked.0 ticked.1
  ticks_some (Some (Shadow away)) is ticked = absurd (some_none step ticked.0)

-- ---- where none may pass

stays_put : (s : RunningSession) → PutsMore s s
stays_put s = record { acked = refl; emitted = refl; at_turn = refl }

module _ (f g : Fields) (a : Post (Item RunningSession)) (p round : ℕ) (x : Option Place) (keeps : RouterInvariant f)
    (there : p < length f.places.places) (same : SameButPlaces f g) (items : g.places ≡ with_place f.places p x) where
  same_rest : SameButSessions f g
  same_rest = subst (λ (h : Fields). h ≡ record f { places = h.places; rib = h.rib; due_out = h.due_out }) (sym same) refl

  pub ticks_none : (y : Option Place) → place_at f.places.places p ≡ y → AtPlace (Ticked round) y None x → Visits (passing_rounds round) p f a g a
  ticks_none None is ticked = visits_idle f g a a p x keeps there same items (passing_rounds round) same_rest None is ticked.1 refl (λ t. refl)
  ticks_none (Some (Live s o)) is (u, x_is, ticked) =
      visits_idle f g a a p x keeps there same items (passing_rounds round) same_rest (Some (Live s o)) is
      (x_is ∙ ap (λ (v : RunningSession). Some (Live v o)) ticked.1) (s, refl, (stays_put s, inr (ticked.0, refl, refl))) (λ t. refl)
  ticks_none (Some (Shadow away)) is ticked =
      visits_idle f g a a p x keeps there same items (passing_rounds round) same_rest (Some (Shadow away)) is ticked.1 refl (λ t. refl)

-- ---- all places

pub passes_all : (f g : Fields) (a b : Post (Item RunningSession)) → Visited (passing_rounds f.turns) (length f.places.places) f a g b → PassesRounds f a g b
passes_all f g a b v = record {
  events = v.events;
  did = λ t. subst (λ (w : ℕ → Tally). DidAsRouter f a t v.events g b w) (λ i k. both (nat_lt k (length f.places.places)) (t k) i) (v.did t);
  at = v.at;
  places = λ k. elim (cases_lt k (length f.places.places)) [
    | inl below ↦ v.done k below
    | inr from ↦
        let end : place_at f.places.places k ≡ None = place_at_end f.places.places k from in
        subst (PlaceGoes (PassesWhereItMay f.turns (rounds_on k v.events)) (place_at f.places.places k)) (sym (v.left k from).0)
        (subst (λ (x : Option Place). PlaceGoes (PassesWhereItMay f.turns (rounds_on k v.events)) x x) (sym end) refl)
  ];
  same = v.same;
  keeps = v.keeps;
}
  where
    both : (t : Bool) (x : Tally) → (if t then x else x) ≡ x
    both true x = refl
    both false x = refl
