-- One message that a session reads, as an event of the router; and all of them.
use Rattle.std.proofs.Common.{◌≡◌, ◌≢◌, ℕ, ◌<◌, List, [], ◌∷◌, ◌++◌, length, Option, Some, None, option_map, refl, sym, ap, subst, ◌∙◌, arith, inl, inr}
use Rattle.std.proofs.lemmas.Bool.{cases_lt}
use Rattle.std.proofs.lemmas.List.{length-set, get_or_past}
use Rattle.ring_net.specs.declared.post.Post.{Post}
use Rattle.graft_steps.specs.declared.item.Item.{Item}
use Rattle.session_places.specs.Places.{with_place}
use Rattle.router_core.specs.declared.place.Errand.{Errand}
use Rattle.bgp_session.specs.Running.{RunningSession}
use Rattle.bgp_session.specs.Steps.{ReadsFrame}
use Rattle.bgp_session.specs.Fronts.{CantRead}
use Rattle.bgp_session.specs.declared.answers.ReadStep.{ReadStep}
use Rattle.session_value.specs.declared.config.SessionConfig.{SessionConfig}
use Rattle.session_value.specs.Sessions.{SessionValue, unread}
use Rattle.session_value.specs.Sets.{Entries, Prefixes}
use Rattle.rib_stages.specs.Values.{RibValue, rib_of, table_at}
use Rattle.graft_model.specs.Decisions.{entry_of}
use Rattle.graft_model.specs.Parts.{RouterPart}
use Rattle.graft_model.specs.RouterRows.{GetsNext}
use Rattle.graft_model.specs.declared.event.RouterEvent.{RouterEvent}
use Rattle.graft_model.specs.declared.event.RouterEvent.TheVariants.{Got}
use Rattle.graft_actors.specs.Emissions.{Tally}
use Rattle.router_core.specs.Parts.{router_part, RouterInvariant, KeepsPlace, HasReadAll, KeepsAt}
use Rattle.router_tables.specs.Owned.{IsOfPeering}
use Rattle.router_core.specs.Places.{errand_of, place_of, place_at, RunsAt}
use Rattle.router_core.specs.Reading.{FollowsStep, KeepsBut, KeepsLive, KeepsRest, ReadsAll, ReadsNone, ReadsOne, ReadsAt, StaysBut, unread_at}
use Rattle.router_core.specs.Rounds.{DidAsRouter, WritesEvent}
use Rattle.router_core.specs.Takes.{Stays}
use Rattle.router_core.specs.declared.fields.Fields.{Fields}
use Rattle.router_core.specs.declared.place.Place.{Place}
use Rattle.router_core.specs.declared.place.Place.TheVariants.{Live, Shadow}
use Rattle.router_core.proofs.Dids.{did_one, did_same, did_then, same_router}
use Rattle.router_core.proofs.RoundLists.{at-append}
use Rattle.router_core.specs.Turned.{AreAt}
use Rattle.router_tables.proofs.Points.{one_or_other, at_is, at_else}
use Rattle.router_core.proofs.Kept.{places_at, placed_here, placed_else, keeps_with, rest_on, with_routes, live_is, stays_itself}
use Rattle.router_core.proofs.PlaceLists.{listed, rooms, same_there}
use Rattle.router_core.proofs.ReadSteps.{entry_is}
use Rattle.router_tables.proofs.ReadSteps.{due_then, due_up, follows_heard, less_unread}

module _ (f g : Fields) (p : ℕ) (a b : Post (Item RunningSession)) (s u : RunningSession) (o : Option Errand) (step : ReadStep)
    (keeps : KeepsBut p f) (live : RunsAt f.places.places p s o) (reads : ReadsFrame step s u)
    (there : p < length f.places.places) (items : g.places ≡ with_place f.places p (Some (Live u o)))
    (wrote : WritesEvent a (Got p) [] b) (follows : FollowsStep (record f { places = g.places }) p u step g) where
  same : g ≡ record f { places = g.places; rib = g.rib; due_out = g.due_out }
  same = follows.same

  here : place_at g.places.places p ≡ Some (Live u o)
  here = ap (λ (xs : List (Option Place)). place_at xs p) (listed items) ∙ placed_here f.places.places p (Some (Live u o)) there

  elsewhere : (n : ℕ) → n ≢ p → place_at g.places.places n ≡ place_at f.places.places n
  elsewhere n not = ap (λ (xs : List (Option Place)). place_at xs n) (listed items) ∙ placed_else f.places.places p (Some (Live u o)) n not

  entries_else : (n : ℕ) → n ≢ p → (rib_of g.rib).entries n ≡ (rib_of f.rib).entries n
  entries_else n not = ap (λ (v : RibValue). v.entries n) follows.entered.effect ∙ at_else (rib_of f.rib).entries p ((rib_of g.rib).entries p) n not

  row : GetsNext f.known.setup f.number.0 p (router_part f) None [] (router_part g)
  row = record {
    alone = (refl, refl);
    session = s.session;
    errand = option_map errand_of o;
    live = record { is = ap place_of live.is };
    bytes = reads.bytes;
    next = u.session;
    gets = reads.gets;
    follows = record {
      entries = follows_heard s.session u.session reads.bytes reads.gets (entry_of f.known.setup f.number.0 u.session)
          ((rib_of f.rib).entries p) ((rib_of g.rib).entries p) step reads.tells
          (λ x e. follows.entered.each x e ∙ entry_is f u.session x keeps.rest) follows.entered.others;
      dirty = follows.entered.dirty;
      due = due_then s.session u.session reads.bytes reads.gets f.rib.best (table_at f.due_out p) (table_at g.due_out p) step reads.tells follows.due;
      effect = ap router_part same
          ∙ (λ i. let v : RouterPart = record (with_routes (router_part f) (follows.entered.effect i)) {
            places =
                (ap (λ (xs : List (Option Place)). (λ n. place_of (place_at xs n))) (listed items) ∙ places_at f.places.places p (Some (Live u o)) there) i;
            due_out = at_is (table_at f.due_out) (table_at g.due_out) p (table_at g.due_out p) refl (λ n not. follows.sets.others n not) i;
          } in v);
    };
  }

  config_is : u.session.config ≡ s.session.config
  config_is = ap (λ (v : SessionValue). v.config) reads.gets.effect

  is_here : (keeps.here.session ≡ s) × (keeps.here.errand ≡ o)
  is_here = let e : Some (Live keeps.here.session keeps.here.errand) ≡ Some (Live s o) = sym keeps.here.live.is ∙ live.is in
      (let x : keeps.here.session ≡ s = cc in x, let y : keeps.here.errand ≡ o = cc in y)

  own : IsOfPeering f.known.setup p s.session
  own = subst (λ (v : RunningSession). IsOfPeering f.known.setup p v.session) is_here.0 keeps.here.own

  rest : KeepsRest g
  rest = rest_on f g keeps.rest
      (subst (λ (h : Fields). h ≡ record f { places = h.places; rib = h.rib; due_in = h.due_in; due_out = h.due_out; turns = h.turns }) (sym same) refl)
      (record {
        places = ap length (listed items) ∙ length-set f.places.places p (Some (Live u o));
        reserved = rooms items;
        due_in = ap (λ (h : Fields). length h.due_in) same;
        due_out = follows.sets.length;
        config = ap (λ (v : RibValue). v.config) follows.entered.effect;
        tellings = λ n out. ap (λ (v : RibValue). v.tellings n) follows.entered.effect;
      })

  kept : KeepsBut p g
  kept = record {
    rest = rest;
    here = subst (λ (h : Fields). KeepsLive (record h { places = g.places; due_out = g.due_out }) p) (sym same) (record {
      session = u;
      errand = o;
      live = record { is = here };
      own = record {
        peering = ap (λ (c : SessionConfig). c.peering.0) config_is ∙ own.peering;
        sends = ap (λ (c : SessionConfig). c.send_first.0) config_is ∙ own.sends;
        receives = ap (λ (c : SessionConfig). c.receive_first.0) config_is ∙ own.receives;
      };
      for_graft = subst (λ (w : Option Errand). Rattle.router_core.specs.Parts.IsErrandOf f.known.setup f.number.0 p w) is_here.1 keeps.here.for_graft;
      due = due_up s.session u.session reads.bytes reads.gets f.rib.best (table_at f.due_out p) (table_at g.due_out p) step reads.tells follows.due
          (subst (λ (v : RunningSession). Rattle.router_core.specs.Parts.IsDueWhileUp v.session (table_at f.due_out p)) is_here.0 keeps.here.due);
    });
    others = λ n not. subst
        (λ (h : Fields). KeepsPlace h.known.setup h.number.0 n ((rib_of g.rib).entries n) (table_at g.due_out n) (place_at g.places.places n)) (sym same)
        (subst (λ (x : Option Place). KeepsPlace f.known.setup f.number.0 n ((rib_of g.rib).entries n) (table_at g.due_out n) x) (sym (elsewhere n not))
        (subst (λ (es : Entries). KeepsPlace f.known.setup f.number.0 n es (table_at g.due_out n) (place_at f.places.places n)) (sym (entries_else n not))
        (subst (λ (d : Prefixes). KeepsPlace f.known.setup f.number.0 n ((rib_of f.rib).entries n) d (place_at f.places.places n))
        (sym (follows.sets.others n not)) (keeps.others n not))));
  }

  stays_one : Stays s u
  stays_one = record {
    acked = let e : u.session.end.acked ≡ s.session.end.acked = ap (λ (v : SessionValue). v.end.acked) reads.gets.effect in omega (arith, e);
    emitted = ap (λ (v : SessionValue). v.end.emitted) reads.gets.effect;
    at_turn = reads.same_turn;
  }

  pub reads_one : ReadsOne p f a g b
  reads_one = record {
    did = λ t. did_one f g a b t (Got p) (record { setup = ap (λ (h : Fields). h.known.setup) same; number = ap (λ (h : Fields). h.number) same }) wrote row tt;
    stays = record {
      same = same;
      others = elsewhere;
      stays = λ v w n m x y.
          subst (λ (k : RunningSession). Stays k w) (let e : Some (Live s o) ≡ Some (Live v n) = sym live.is ∙ x.is in let z : s ≡ v = cc in z)
          (subst (λ (k : RunningSession). Stays s k) (let e : Some (Live u o) ≡ Some (Live w m) = sym here ∙ y.is in let z : u ≡ w = cc in z) stays_one);
    };
    less = subst (λ (x : Option Place). unread_at x < unread_at (place_at f.places.places p)) (sym here)
        (subst (λ (x : Option Place). length (unread u.session) < unread_at x) (sym live.is) (less_unread s.session u.session reads.bytes reads.gets));
    keeps = kept;
  }

-- ---- one after another

-- so many were read
pub record ReadsSome (p : ℕ) (f : Fields) (a : Post (Item RunningSession)) (g : Fields) (b : Post (Item RunningSession)) : Type 0 where
  pub events : List RouterEvent
  pub did : (t : ℕ → Tally) → DidAsRouter f a t events g b t
  pub at : AreAt 0 events
  pub stays : StaysBut p f g
  pub keeps : KeepsBut p g

pub reads_first : (p : ℕ) (f : Fields) (a : Post (Item RunningSession)) → KeepsBut p f → ReadsSome p f a f a
reads_first p f a keeps = record {
  events = [];
  did = λ t. did_same f f a t (same_router f) refl;
  at = tt;
  stays = record { same = refl; others = λ n not. refl; stays = λ s u o q x y. stays_itself s u (live_is f.places.places p s u o q x y) };
  keeps = keeps;
}

pub reads_next : (p : ℕ) (f g h : Fields) (a b c : Post (Item RunningSession)) → ReadsSome p f a g b → ReadsOne p g b h c → ReadsSome p f a h c
reads_next p f g h a b c some one = record {
  events = some.events ++ Got p ∷ [];
  did = λ t. did_then f g h a b c t t t some.events (Got p ∷ []) (some.did t) (one.did t);
  at = at-append 0 some.events (Got p ∷ []) some.at (refl, tt);
  stays = record {
    same = one.stays.same ∙ (λ i. let v : Fields = record (some.stays.same i) { places = h.places; rib = h.rib; due_out = h.due_out } in v);
    others = λ n not. one.stays.others n not ∙ some.stays.others n not;
    stays = λ s u o q x y.
        let first : Stays s some.keeps.here.session = some.stays.stays s some.keeps.here.session o some.keeps.here.errand x some.keeps.here.live in
        let second : Stays some.keeps.here.session u = one.stays.stays some.keeps.here.session u some.keeps.here.errand q some.keeps.here.live y in
        record { acked = omega (arith, first.acked, second.acked); emitted = second.emitted ∙ first.emitted; at_turn = second.at_turn ∙ first.at_turn };
  };
  keeps = one.keeps;
}

pub reads_last : (p : ℕ) (f g h : Fields) (a b c : Post (Item RunningSession)) → ReadsSome p f a g b → ReadsNone p g b h c → ReadsAll p f a h c
reads_last p f g h a b c some none = record {
  events = some.events ++ [];
  did = λ t. subst (λ (d : Post (Item RunningSession)). DidAsRouter f a t (some.events ++ []) h d t) (sym none.post)
      (did_then f g h a b b t t t some.events [] (some.did t)
      (did_same g h b t (record { setup = ap (λ (k : Fields). k.known.setup) none.same; number = ap (λ (k : Fields). k.number) none.same }) part));
  at = at-append 0 some.events [] some.at tt;
  stays = record {
    same = none.same
        ∙ (λ i. let v : Fields = record (some.stays.same
        i) { places = h.places; rib = sym (ap (λ (k : Fields). k.rib) none.same) i; due_out = sym (ap (λ (k : Fields). k.due_out) none.same) i } in v);
    others = λ n not. at_same n ∙ some.stays.others n not;
    stays = λ s u o q x y. some.stays.stays s u o q x (record { is = sym (at_same p) ∙ y.is });
  };
  keeps = subst RouterInvariant (sym none.same) (keeps_with g (record g { places = h.places }) some.keeps.rest refl
      (record { places = ap length (listed none.places); reserved = rooms none.places; due_in = refl; due_out = refl; config = refl; tellings = λ n out. refl })
      (KeepsAt (record g { places = h.places }))
      (λ n. subst (λ (xs : List (Option Place)). KeepsPlace g.known.setup g.number.0 n ((rib_of g.rib).entries n) (table_at g.due_out n) (place_at xs n))
      (sym (listed none.places)) (each n)));
}
  where
    at_same : (n : ℕ) → place_at h.places.places n ≡ place_at g.places.places n
    at_same n = ap (λ (xs : List (Option Place)). place_at xs n) (listed none.places)

    part : router_part h ≡ router_part g
    part = ap router_part none.same
        ∙ ap (λ (xs : List (Option Place)). let v : RouterPart = record (router_part g) { places = λ n. place_of (place_at xs n) } in v) (listed none.places)

    all_read : CantRead some.keeps.here.session.session → HasReadAll some.keeps.here.session.session
    all_read (inl closed) = λ unclosed. absurd (unclosed closed)
    all_read (inr nothing) = λ unclosed. nothing

    each : (n : ℕ) → KeepsPlace g.known.setup g.number.0 n ((rib_of g.rib).entries n) (table_at g.due_out n) (place_at g.places.places n)
    each n = elim (one_or_other p n) [
      | inl e ↦
          subst (λ (m : ℕ). KeepsPlace g.known.setup g.number.0 m ((rib_of g.rib).entries m) (table_at g.due_out m) (place_at g.places.places m)) (sym e)
          (subst (λ (x : Option Place). KeepsPlace g.known.setup g.number.0 p ((rib_of g.rib).entries p) (table_at g.due_out p) x)
          (sym some.keeps.here.live.is) (
            some.keeps.here.own,
            all_read (none.none some.keeps.here.session some.keeps.here.errand some.keeps.here.live),
            some.keeps.here.for_graft,
            some.keeps.here.due,
          ))
      | inr not ↦ some.keeps.others n not
    ]

-- ---- nothing to read

new_is : (x new : Option Place) → ReadsAt None x new → new ≡ x
new_is None new r = r.1
new_is (Some (Live s o)) new (u, is, read) = is ∙ ap (λ (v : RunningSession). Some (Live v o)) read.1
new_is (Some (Shadow away)) new r = r.1

cant : (x new : Option Place) → ReadsAt None x new → (s : RunningSession) (o : Option Errand) → x ≡ Some (Live s o) → CantRead s.session
cant None new r s o e = absurd (let z : ⊥ = cc in z)
cant (Some (Live v w)) new (u, is, read) s o e = subst (λ (k : RunningSession). CantRead k.session) (let z : v ≡ s = cc in z) read.0
cant (Some (Shadow away)) new r s o e = absurd (let z : ⊥ = cc in z)

pub reads_none : (f g : Fields) (p i : ℕ) (a : Post (Item RunningSession)) (x new : Option Place) (step : Option ReadStep)
    → place_at f.places.places p ≡ x → ReadsAt step x new → step ≡ None → x ≡ place_at f.places.places i → g ≡ record f { places = g.places }
    → g.places ≡ with_place f.places i new → ReadsNone p f a g a
reads_none f g p i a x new step seen reads none item same held =
    let r : ReadsAt None x new = subst (λ (o : Option ReadStep). ReadsAt o x new) none reads in record {
      same = same;
      places = held ∙ ap (with_place f.places i) (new_is x new r ∙ item) ∙ same_there f.places i;
      post = refl;
      none = λ s o live. cant x new r s o (sym seen ∙ live.is);
    }

-- the place of a live session is there
pub live_within : (f : Fields) (p i : ℕ) → KeepsBut p f → i ≡ p → i < length f.places.places
live_within f p i keeps same = elim (cases_lt p (length f.places.places)) [
  | inl l ↦ omega (arith, l, same)
  | inr past ↦ absurd (let e : None ≡ Some (Live keeps.here.session keeps.here.errand) =
      sym (get_or_past f.places.places p None past) ∙ keeps.here.live.is in let z : ⊥ = cc in z)
]

-- ---- a message that is read at a place

pub reads_some : (f g : Fields) (p : ℕ) (a b : Post (Item RunningSession)) (mid : Fields) (x new : Option Place) (step : ReadStep) (o : Option ReadStep)
    → KeepsBut p f → place_at f.places.places p ≡ x → ReadsAt o x new → o ≡ Some step → mid ≡ record f { places = mid.places }
    → mid.places ≡ with_place f.places p new
    → WritesEvent a (Got p) [] b
    → ((s : RunningSession) (w : Option Errand) → RunsAt mid.places.places p s w → s.session.config.peering.0 ≡ p → FollowsStep mid p s step g)
    → ReadsOne p f a g b
reads_some f g p a b mid x new step o keeps seen reads some same held wrote follows =
    by_place x seen (subst (λ (q : Option ReadStep). ReadsAt q x new) some reads)
  where
    below : p < length f.places.places
    below = live_within f p p keeps refl

    by_place : (y : Option Place) → place_at f.places.places p ≡ y → ReadsAt (Some step) y new → ReadsOne p f a g b
    by_place None e r = absurd (no_step r.0)
      where
        no_step : Some step ≡ None → ⊥
        no_step h = cc
    by_place (Some (Shadow away)) e r = absurd (no_step r.0)
      where
        no_step : Some step ≡ None → ⊥
        no_step h = cc
    by_place (Some (Live s w)) e (u, is, read) =
        let items_are : mid.places ≡ with_place f.places p (Some (Live u w)) = held ∙ ap (with_place f.places p) is in
        let live : RunsAt f.places.places p s w = record { is = e } in
        let now : RunsAt mid.places.places p u w =
        record { is = ap (λ (xs : List (Option Place)). place_at xs p) (listed items_are) ∙ placed_here f.places.places p (Some (Live u w)) below } in
        let had : keeps.here.session ≡ s = live_is f.places.places p s keeps.here.session w keeps.here.errand live keeps.here.live in
        let own : u.session.config.peering.0 ≡ p = ap (λ (v : SessionValue). v.config.peering.0) read.gets.effect
        ∙ ap (λ (v : RunningSession). v.session.config.peering.0) (sym had) ∙ keeps.here.own.peering in
        let step_is : FollowsStep mid p u step g = follows u w now own in
        let places_are : g.places ≡ mid.places = ap (λ (h : Fields). h.places) step_is.same in
        reads_one f g p a b s u w step keeps live read below (places_are ∙ items_are) wrote
        (subst (λ (h : Fields). FollowsStep h p u step g) (same ∙ (λ i. let h : Fields = record f { places = sym places_are i } in h)) step_is)
