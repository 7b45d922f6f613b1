-- The segments that a router takes.
use Rattle.std.proofs.Common.{◌≡◌, ◌≢◌, ℕ, ◌+◌, ◌<◌, ◌≤◌, List, [], length, Bool, true, false, Option, Some}
use Rattle.std.proofs.Common.{option_map, refl, sym, ap, subst, ◌∙◌, arith, inl, inr, None}
use Rattle.std.proofs.lemmas.List.{length-set}
use Rattle.ring_net.specs.declared.post.Post.{Post}
use Rattle.graft_steps.specs.declared.item.Item.{Item}
use Rattle.graft_steps.specs.declared.item.Item.TheVariants as items
use Rattle.session_places.specs.Places.{with_place}
use Rattle.router_core.specs.Rounds.{WritesEvent}
use Rattle.router_core.specs.declared.place.Errand.{Errand}
use Rattle.tcp_end.specs.declared.arrival.Arrival.{Arrival}
use Rattle.tcp_seq.specs.Endpoint.{PlacedSegment, TakesSegment}
use Rattle.tcp_seq.specs.Placed.{placed}
use Rattle.tcp_seq.specs.declared.segment.Segment.{Segment}
use Rattle.tcp_seq.specs.declared.segment.Way.{Way}
use Rattle.tcp_seq.specs.declared.segment.Way.TheVariants.{Home}
use Rattle.bgp_session.specs.Running.{RunningSession, carried}
use Rattle.bgp_session.specs.Steps.{SegmentArrives, received_as}
use Rattle.session_value.specs.Sessions.{SessionValue}
use Rattle.rib_stages.specs.Values.{rib_of, table_at}
use Rattle.graft_model.specs.Points.{at}
use Rattle.graft_model.specs.Parts as model
use Rattle.graft_model.specs.Parts.{RouterPart}
use Rattle.graft_model.specs.RouterRows.{SegmentIn}
use Rattle.graft_model.specs.Setups.{routers_in, peerings_in}
use Rattle.graft_model.specs.declared.event.RouterEvent.TheVariants.{Arrive, Stray}
use Rattle.graft_actors.specs.Actors.{FarSide, actor_at}
use Rattle.graft_actors.proofs.Numbers.{there as is_there, of_number}
use Rattle.graft_actors.specs.Items.{home_first, remote_first, placed_for, segment_of, segment_thing, IsSegmentOf}
use Rattle.graft_actors.specs.Notes.{WroteOne, dropped}
use Rattle.graft_actors.proofs.Welcome.{router_segment}
use Rattle.router_core.specs.Parts.{router_part, RouterInvariant, KeepsPlace}
use Rattle.router_tables.specs.Owned.{IsOfPeering}
use Rattle.router_core.specs.Places.{errand_of, place_of, place_at, RunsAt}
use Rattle.router_core.specs.Reading.{ArrivesAt, KeepsBut, ReadsAll}
use Rattle.router_core.specs.Takes.{Stays, RouterTakesIt}
use Rattle.router_core.specs.declared.fields.Fields.{Fields}
use Rattle.router_core.specs.declared.place.Place.{Place}
use Rattle.router_core.specs.declared.place.Place.TheVariants.{Live, Shadow}
use Rattle.router_core.proofs.Dids.{did_same, same_router}
use Rattle.router_tables.proofs.Points.{one_or_other}
use Rattle.router_core.proofs.Kept.{places_at, placed_here, placed_else, rest_on, live_is, stays_itself}
use Rattle.router_core.proofs.PlaceLists.{listed, rooms, same_there}
use Rattle.router_core.proofs.Takings.{drops, takes_then}

module _ (f : Fields) (a b : Post (Item RunningSession)) (from p : ℕ) (g : Segment) (keeps : RouterInvariant f) where
  -- a segment of no far side
  pub drops_stranger : (from < f.routers → ⊥) → f.routers + length f.places.places ≤ from → WroteOne a dropped [] b → RouterTakesIt from (items.Seg g) f a f b
  drops_stranger not past wrote = drops f a b from (items.Seg g) keeps wrote
      (λ w.
      let is = (router_segment carried f.known.setup from f.number.0 (router_part f) g).0 w in
      let at_it = of_number f.known.setup from (FarSide is.0) is.1 in omega (arith, at_it.0, at_it.1, past, keeps.routers, keeps.places))

  -- a segment of a router
  pub drops_router : from < f.routers → WroteOne a dropped [] b → RouterTakesIt from (items.Seg g) f a f b
  drops_router below wrote = drops f a b from (items.Seg g) keeps wrote
      (λ w.
      let is = (router_segment carried f.known.setup from f.number.0 (router_part f) g).0 w in
      let at_it = of_number f.known.setup from (FarSide is.0) is.1 in omega (arith, at_it.1, below, keeps.routers))

  -- one that isn't of its sender's peering
  pub drops_other : from ≡ f.routers + p → (IsSegmentOf f.known.setup p Home g → ⊥) → WroteOne a dropped [] b → RouterTakesIt from (items.Seg g) f a f b
  drops_other number not wrote = drops f a b from (items.Seg g) keeps wrote
      (λ w.
      let is = (router_segment carried f.known.setup from f.number.0 (router_part f) g).0 w in
      let at_it = of_number f.known.setup from (FarSide is.0) is.1 in
      let same : is.0 ≡ p = omega (arith, at_it.1, number, keeps.routers) in
      not (subst (λ (n : ℕ). IsSegmentOf f.known.setup n Home g) same is.2))

-- ---- a segment of the peering

module _ (f : Fields) (a b : Post (Item RunningSession)) (from p : ℕ) (g : Segment) (keeps : RouterInvariant f)
    (number : from ≡ f.routers + p) (there : p < length f.places.places) (is : IsSegmentOf f.known.setup p Home g) where
  abbrev seg : PlacedSegment
  seg = segment_of f.known.setup g

  from_is : actor_at f.known.setup from ≡ Some (FarSide p)
  from_is =
      let number_is : from ≡ routers_in f.known.setup + p = omega (arith, number, keeps.routers) in
      let known : p < peerings_in f.known.setup = omega (arith, there, keeps.places) in
      ap (actor_at f.known.setup) number_is ∙ is_there f.known.setup (FarSide p) known

  own_of : (s : RunningSession) (o : Option Errand) → RunsAt f.places.places p s o → IsOfPeering f.known.setup p s.session
  own_of s o live =
      (subst (λ (x : Option Place). KeepsPlace f.known.setup f.number.0 p ((rib_of f.rib).entries p) (table_at f.due_out p) x) live.is (keeps.each p)).0

  seg_is : (s : RunningSession) (o : Option Errand) → RunsAt f.places.places p s o → seg ≡ received_as s.session.config g
  seg_is s o live =
      let own : IsOfPeering f.known.setup p s.session = own_of s o live in
      ap (λ (w : Way). placed_for w (home_first f.known.setup g.peering.0) (remote_first f.known.setup g.peering.0) g) is.way
      ∙ ap (λ (n : ℕ). placed (remote_first f.known.setup n) (home_first f.known.setup n) g) is.peering
      ∙ ap (λ (n : ℕ). placed n (home_first f.known.setup p) g) (sym own.receives)
      ∙ ap (λ (n : ℕ). placed s.session.config.receive_first.0 n g) (sym own.sends)

  -- no session is live there
  pub strays : (h : Fields) → h ≡ record f { places = h.places } → h.places ≡ with_place f.places p (place_at f.places.places p)
      → ((s : RunningSession) (o : Option Errand) → place_at f.places.places p ≡ Some (Live s o) → ⊥) → WritesEvent a (Stray p) [] b
      → RouterTakesIt from (items.Seg g) f a h b
  strays h same held absent wrote =
      let kept : h.places ≡ f.places = held ∙ same_there f.places p in
      let unchanged : h.places.places ≡ f.places.places = listed kept in
      let part : router_part h ≡ router_part f = ap router_part same
      ∙ ap (λ (xs : List (Option Place)). let v : RouterPart = record (router_part f) { places = λ n. place_of (place_at xs n) } in v) unchanged in
      takes_then f h h a b b from (items.Seg g) (Stray p) []
      (record {
        router = record { setup = ap (λ (k : Fields). k.known.setup) same; number = ap (λ (k : Fields). k.number) same };
        sent = [];
        wrote = wrote;
        welcome = (router_segment carried f.known.setup from f.number.0 (router_part f) g).1 (p, from_is, is);
        name = FarSide p;
        number = omega (arith, number, keeps.routers);
        took = SegmentIn p seg;
        thing = ap (λ (w : Way). (FarSide p, segment_thing w seg)) (sym is.way);
        gave = [];
        row = record { absent = λ s o live. no_live (place_at f.places.places p) refl s o live.is; segment = seg; takes = refl; sends = refl; stays = part };
        sends = refl;
        known = tt;
        fit = tt;
        careful = tt;
        still = λ t. refl;
      })
      (λ t. did_same h h b t (same_router h) refl)
      (refl, tt)
      (λ n u v o w x y. stays_itself u v
      (live_is f.places.places n u v o w x (record { is = ap (λ (xs : List (Option Place)). place_at xs n) (sym unchanged) ∙ y.is })))
      (ap (λ (k : Fields). k.turns) same)
      (Rattle.router_core.proofs.Kept.keeps_on f h keeps
      (subst (λ (k : Fields). k ≡ record f { places = k.places; rib = k.rib; due_in = k.due_in; due_out = k.due_out; turns = k.turns }) (sym same) refl)
      (record {
        places = ap length unchanged;
        reserved = rooms kept;
        due_in = ap (λ (k : Fields). length k.due_in) same;
        due_out = ap (λ (k : Fields). length k.due_out) same;
        config = ap (λ (k : Fields). k.rib.config) same;
        tellings = λ n out. ap (λ (k : Fields). (rib_of k.rib).tellings n) same;
      })
      (λ n. subst (λ (k : Fields). KeepsPlace f.known.setup f.number.0 n ((rib_of k.rib).entries n) (table_at k.due_out n) (place_at h.places.places n))
      (sym same)
      (subst (λ (xs : List (Option Place)). KeepsPlace f.known.setup f.number.0 n ((rib_of f.rib).entries n) (table_at f.due_out n) (place_at xs n))
      (sym unchanged) (keeps.each n))))
    where
      no_live : (x : Option Place) → place_at f.places.places p ≡ x → (s : SessionValue) (o : Option model.Errand) → place_of x ≡ model.Live s o → ⊥
      no_live None e s o l = cc
      no_live (Some (Live u w)) e s o l = absent u w e
      no_live (Some (Shadow away)) e s o l = cc

  -- it arrives at the session that is live there
  module _ (mid : Fields) (s u : RunningSession) (o : Option Errand) (arrival : Arrival)
      (live : RunsAt f.places.places p s o) (arr : SegmentArrives arrival s g u)
      (same : mid ≡ record f { places = mid.places }) (held : mid.places ≡ with_place f.places p (Some (Live u o))) where
    here : place_at mid.places.places p ≡ Some (Live u o)
    here = ap (λ (xs : List (Option Place)). place_at xs p) (listed held) ∙ placed_here f.places.places p (Some (Live u o)) there

    elsewhere : (n : ℕ) → n ≢ p → place_at mid.places.places n ≡ place_at f.places.places n
    elsewhere n not = ap (λ (xs : List (Option Place)). place_at xs n) (listed held) ∙ placed_else f.places.places p (Some (Live u o)) n not

    keeps_live : KeepsPlace f.known.setup f.number.0 p ((rib_of f.rib).entries p) (table_at f.due_out p) (Some (Live s o))
    keeps_live = subst (λ (x : Option Place). KeepsPlace f.known.setup f.number.0 p ((rib_of f.rib).entries p) (table_at f.due_out p) x) live.is (keeps.each p)

    pub keeps_arrival : KeepsBut p mid
    keeps_arrival = subst (KeepsBut p) (sym same) (record {
      rest = rest_on f (record f { places = mid.places }) keeps refl
          (record {
            places = ap length (listed held) ∙ length-set f.places.places p (Some (Live u o));
            reserved = rooms held;
            due_in = refl;
            due_out = refl;
            config = refl;
            tellings = λ n out. refl;
          });
      here = record {
        session = u;
        errand = o;
        live = record { is = here };
        own = subst (λ (v : RunningSession). IsOfPeering f.known.setup p v.session) (sym arr.effect)
            (record { peering = keeps_live.0.peering; sends = keeps_live.0.sends; receives = keeps_live.0.receives });
        for_graft = keeps_live.2;
        due = subst (λ (v : RunningSession). Rattle.router_core.specs.Parts.IsDueWhileUp v.session (table_at f.due_out p)) (sym arr.effect) keeps_live.3;
      };
      others = λ n not. subst (λ (x : Option Place). KeepsPlace f.known.setup f.number.0 n ((rib_of f.rib).entries n) (table_at f.due_out n) x)
          (sym (elsewhere n not)) (keeps.each n);
    })

    rises : s.session.end.acked ≤ u.session.end.acked
    rises =
        let e : u.session.end.acked ≡ arr.end.acked = ap (λ (v : RunningSession). v.session.end.acked) arr.effect in
        elim arr.takes [
          | inl d ↦ let x : arr.end.acked ≡ s.session.end.acked = ap (λ v. v.acked) d.stays in omega (arith, e, x)
          | inr c ↦ let x : arr.end.acked ≡ Rattle.std.specs.Prelude.max s.session.end.acked (received_as s.session.config g).ack =
              ap (λ v. v.acked) c.changed in omega (arith, e, x)
        ]

    emits_none : u.session.end.emitted ≡ s.session.end.emitted
    emits_none = ap (λ (v : RunningSession). v.session.end.emitted) arr.effect
        ∙ elim arr.takes [ inl d ↦ ap (λ v. v.emitted) d.stays | inr c ↦ ap (λ v. v.emitted) c.changed ]

    stays_one : Stays s u
    stays_one = record { acked = rises; emitted = emits_none; at_turn = ap (λ (v : RunningSession). v.acked_at_turn) arr.effect }

    pub arrives : (h : Fields) (c : Post (Item RunningSession)) → WritesEvent a (Arrive p) [] b → ReadsAll p mid b h c
        → RouterTakesIt from (items.Seg g) f a h c
    arrives h c wrote reads =
        takes_then f mid h a b c from (items.Seg g) (Arrive p) reads.events
        (record {
          router = record { setup = ap (λ (k : Fields). k.known.setup) same; number = ap (λ (k : Fields). k.number) same };
          sent = [];
          wrote = wrote;
          welcome = (router_segment carried f.known.setup from f.number.0 (router_part f) g).1 (p, from_is, is);
          name = FarSide p;
          number = omega (arith, number, keeps.routers);
          took = SegmentIn p seg;
          thing = ap (λ (w : Way). (FarSide p, segment_thing w seg)) (sym is.way);
          gave = [];
          row = record {
            session = s.session;
            errand = option_map errand_of o;
            live = record { is = ap place_of live.is };
            segment = seg;
            takes = refl;
            sends = refl;
            end = arr.end;
            arrives = subst (λ (x : PlacedSegment). TakesSegment s.session.end x arr.end) (sym (seg_is s o live)) arr.takes;
            effect = ap router_part same
                ∙ ap (λ (xs : List (Option Place)). let v : RouterPart = record (router_part f) { places = λ n. place_of (place_at xs n) } in v) (listed held)
                ∙ ap (λ (ps : ℕ → model.Place). let v : RouterPart = record (router_part f) { places = ps } in v)
                (places_at f.places.places p (Some (Live u o)) there)
                ∙ ap (λ (w : RunningSession). let v : RouterPart =
                record (router_part f) { places = at (router_part f).places p (model.Live w.session (option_map errand_of o)) } in v) arr.effect;
          };
          sends = refl;
          known = tt;
          fit = tt;
          careful = tt;
          still = λ t. refl;
        })
        reads.did
        (refl, reads.at)
        (λ n v w m k x y. elim (one_or_other p n) [
          | inl e ↦ at_it v w m k (record { is = ap (place_at f.places.places) (sym e) ∙ x.is }) (record { is = ap (place_at h.places.places) (sym e) ∙ y.is })
          | inr not ↦ stays_itself v w (live_is f.places.places n v w m k x (record { is = sym (reads.stays.others n not ∙ elsewhere n not) ∙ y.is }))
        ])
        (ap (λ (k : Fields). k.turns) reads.stays.same ∙ ap (λ (k : Fields). k.turns) same)
        reads.keeps
      where
        at_it : (v w : RunningSession) (m k : Option Errand) → RunsAt f.places.places p v m → RunsAt h.places.places p w k → Stays v w
        at_it v w m k x y =
            let e : s ≡ v = live_is f.places.places p v s m o x live in
            let later : Stays u w = reads.stays.stays u w o k (record { is = here }) y in
            subst (λ (z : RunningSession). Stays z w) e
            (record { acked = omega (arith, rises, later.acked); emitted = later.emitted ∙ emits_none; at_turn = later.at_turn ∙ stays_one.at_turn })

-- ---- what a place answers to a segment

pub record Stands (place new : Option Place) : Type 0 where
  pub same : new ≡ place
  pub absent : (s : RunningSession) (o : Option Errand) → place ≡ Some (Live s o) → ⊥

pub stands : (place new : Option Place) (g : Segment) (live : Bool) → ArrivesAt live place g new → live ≡ false → Stands place new
stands None new g live r e = record { same = r.1; absent = λ s o f. let x : ⊥ = cc in x }
stands (Some (Live s o)) new g live r e = absurd (let x : true ≡ false = sym r.0 ∙ e in let y : ⊥ = cc in y)
stands (Some (Shadow away)) new g live r e = record { same = r.1; absent = λ s o f. let x : ⊥ = cc in x }

pub record TookIn (place new : Option Place) (g : Segment) : Type 0 where
  pub session : RunningSession
  pub errand : Option Errand
  pub later : RunningSession
  pub arrival : Arrival
  pub live : place ≡ Some (Live session errand)
  pub arrives : SegmentArrives arrival session g later
  pub is : new ≡ Some (Live later errand)

pub took_in : (place new : Option Place) (g : Segment) (live : Bool) → ArrivesAt live place g new → live ≡ true → TookIn place new g
took_in None new g live r e = absurd (let x : false ≡ true = sym r.0 ∙ e in let y : ⊥ = cc in y)
took_in (Some (Live s o)) new g live (is_live, arrival, u, arrives, is) e =
    record { session = s; errand = o; later = u; arrival = arrival; live = refl; arrives = arrives; is = is }
took_in (Some (Shadow away)) new g live r e = absurd (let x : false ≡ true = sym r.0 ∙ e in let y : ⊥ = cc in y)
