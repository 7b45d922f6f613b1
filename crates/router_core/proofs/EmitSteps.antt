-- What sessions emit at their places.
use Rattle.std.proofs.Common.{◌≡◌, ℕ, ◌+◌, ◌<◌, ◌≤◌, [], ◌∷◌, length, Option, option_map, ◌⊎◌, inl, inr, refl, sym, ap, subst, ◌∙◌, arith, Some}
use Rattle.ring_net.specs.declared.post.Post.{Post}
use Rattle.tcp_seq.specs.Endpoint.{Endpoint, PlacedSegment, IsInStreams, EmitsSlice, EmitsEmpty, ready_bytes}
use Rattle.tcp_seq.specs.Placed.{placed}
use Rattle.tcp_seq.specs.declared.segment.Segment.{Segment}
use Rattle.tcp_seq.specs.declared.segment.Way.{Way}
use Rattle.tcp_seq.specs.declared.segment.Way.TheVariants.{Remote}
use Rattle.graft_steps.specs.declared.item.Item.{Item}
use Rattle.graft_steps.specs.declared.item.Item.TheVariants as items
use Rattle.session_places.specs.Places.{with_place}
use Rattle.router_core.specs.declared.place.Errand.{Errand}
use Rattle.session_value.specs.Sessions.{SessionValue, unread}
use Rattle.bgp_session.specs.Running.{RunningSession}
use Rattle.bgp_session.specs.Steps.{sent_as}
use Rattle.rib_stages.specs.Values.{rib_of, table_at}
use Rattle.graft_model.specs.Points.{at}
use Rattle.graft_model.specs.Setups.{Setup, routers_in, peerings_in}
use Rattle.graft_model.specs.Slices.{EmitsAt}
use Rattle.graft_model.specs.Parts as model
use Rattle.graft_model.specs.Parts.{RouterPart, Seg}
use Rattle.graft_model.specs.RouterRows.{OutwardTo}
use Rattle.graft_model.specs.declared.event.RouterEvent.TheVariants.{Emit}
use Rattle.graft_actors.specs.Actors.{FarSide, OutwardItem}
use Rattle.graft_actors.specs.Emissions.{IsCareful, Tally, tallied}
use Rattle.graft_actors.specs.Items.{home_first, remote_first, placed_for, segment_of, segment_thing}
use Rattle.router_core.specs.Parts.{router_part, RouterInvariant, KeepsPlace}
use Rattle.router_tables.specs.Owned.{IsOfPeering}
use Rattle.router_core.specs.Places.{place_of, place_at, errand_of}
use Rattle.router_core.specs.Rounds.{DidAsRouter, tally_at, WritesEvent}
use Rattle.router_core.specs.Visits.{events_on, Stage, Visits, SameButPlaces}
use Rattle.router_core.specs.declared.fields.Fields.{Fields}
use Rattle.router_core.specs.declared.place.Place.{Place}
use Rattle.router_core.specs.declared.place.Place.TheVariants.{Live}
use Rattle.router_core.proofs.Dids.{Sends, did_sent}
use Rattle.router_core.proofs.RoundLists.{emit_elsewhere}
use Rattle.router_core.proofs.PlaceSteps.{keeps_live, here, elsewhere, part_at, keeps_at}

-- ---- the segment

-- a session emits a segment: a slice of its stream, or none of it
pub record Gives (s : SessionValue) (segment : Segment) (u : SessionValue) (from len : ℕ) : Type 0 where
  pub end : Endpoint
  pub at : EmitsAt from len s.end (sent_as s.config segment) end
  pub in_streams : IsInStreams (sent_as s.config segment)
  pub peering : segment.peering ≡ s.config.peering
  pub way : segment.way ≡ Remote
  pub effect : u ≡ record s { end = end }

-- what is sent is that segment, and may go to the far side of its peering
placed_is : (setup : Setup) (p : ℕ) (s : SessionValue) (segment : Segment) → IsOfPeering setup p s → segment.peering ≡ s.config.peering
    → segment.way ≡ Remote → segment_of setup segment ≡ sent_as s.config segment
placed_is setup p s segment of peering way =
    ap (λ (w : Way). placed_for w (home_first setup segment.peering.0) (remote_first setup segment.peering.0) segment) way
    ∙ ap (λ (k : ℕ). placed (home_first setup k) (remote_first setup k) segment) (ap (λ q. q.0) peering ∙ of.peering)
    ∙ (λ i. placed (sym of.sends i) (sym of.receives i) segment)

sends_segment : (f : Fields) (p from len : ℕ) (s u : SessionValue) (segment : Segment) → p < peerings_in f.known.setup
    → IsOfPeering f.known.setup p s → Gives s segment u from len → length segment.bytes ≤ 1024
    → Sends f (routers_in f.known.setup + p) (items.Seg segment) (OutwardTo p (Seg (sent_as s.config segment)))
sends_segment f p from len s u segment there of gives short = record {
  name = FarSide p;
  known = there;
  number = refl;
  thing = λ i. (
    FarSide p,
    (ap (λ (w : PlacedSegment). OutwardItem (Seg w)) (sym (placed_is f.known.setup p s segment of gives.peering gives.way))
        ∙ ap (λ (w : Way). segment_thing w (segment_of f.known.setup segment)) (sym gives.way)) i,
  );
  may = record {
    peering = ap (λ q. q.0) gives.peering ∙ of.peering;
    way = gives.way;
    len = omega (arith, short);
    placed = subst IsInStreams (sym (placed_is f.known.setup p s segment of gives.peering gives.way)) gives.in_streams;
  };
}

unread_same : (e f : Endpoint) (g : PlacedSegment) → EmitsSlice e g f ⊎ EmitsEmpty e g f → ready_bytes f ≡ ready_bytes e
unread_same e f g (inl slice) = ap ready_bytes slice.rises
unread_same e f g (inr empty) = ap ready_bytes empty.given

-- ---- the event

-- The session that is live at a place emits a segment, which is noted and sent.
module _ (f g : Fields) (p q : Post (Item RunningSession)) (n : ℕ) (s u : RunningSession) (o : Option Errand) (segment : Segment) (from len : ℕ)
    (keeps : RouterInvariant f) (there : n < length f.places.places) (is : place_at f.places.places n ≡ Some (Live s o))
    (same : SameButPlaces f g) (items_are : g.places ≡ with_place f.places n (Some (Live u o)))
    (gives : Gives s.session segment u.session from len) (careful : IsCareful s.session.end from len) (short : length segment.bytes ≤ 1024)
    (wrote : WritesEvent p (Emit n from len) ((routers_in f.known.setup + n, items.Seg segment) ∷ []) q) where
  place_is : KeepsPlace f.known.setup f.number.0 n ((rib_of f.rib).entries n) (table_at f.due_out n) (Some (Live s o))
  place_is = subst (KeepsPlace f.known.setup f.number.0 n ((rib_of f.rib).entries n) (table_at f.due_out n)) is (keeps.each n)

  peering_there : n < peerings_in f.known.setup
  peering_there = omega (arith, there, keeps.places)

  part_is : (router_part f).places n ≡ model.Live s.session (option_map errand_of o)
  part_is = ap place_of is

  did_emit : (t : ℕ → Tally) → DidAsRouter f p t (Emit n from len ∷ []) g q (at t n (tallied s.session.end from len (t n)))
  did_emit t = subst (λ (x : model.Place). DidAsRouter f p t (Emit n from len ∷ []) g q (at t n (tally_at x from len (t n)))) part_is
      (did_sent f g p q t (Emit n from len) (routers_in f.known.setup + n) (items.Seg segment) (OutwardTo n (Seg (sent_as s.session.config segment)))
      (record { setup = ap (λ (h : Fields). h.known.setup) same; number = ap (λ (h : Fields). h.number) same }) wrote
      (sends_segment f n from len s.session u.session segment peering_there place_is.0 gives short)
      (record {
        session = s.session;
        errand = option_map errand_of o;
        live = record { is = part_is };
        segment = sent_as s.session.config segment;
        end = gives.end;
        emits = gives.at;
        takes = refl;
        sends = refl;
        effect = part_at f g n (Some (Live u o)) there same items_are
            ∙ ap (λ (v : SessionValue). let x : RouterPart =
            record (router_part f) { places = at (router_part f).places n (model.Live v (option_map errand_of o)) } in x) gives.effect;
      })
      (record { session = s.session; errand = option_map errand_of o; live = record { is = part_is }; careful = careful }))

  pub keeps_emitted : RouterInvariant g
  keeps_emitted = keeps_at f g n (Some (Live u o)) there same items_are keeps
      (keeps_live f.known.setup f.number.0 n ((rib_of f.rib).entries n) (table_at f.due_out n) s u o place_is
      (ap (λ (v : SessionValue). v.config) gives.effect) (ap (λ (v : SessionValue). v.story) gives.effect)
      (ap unread gives.effect ∙ unread_same s.session.end gives.end (sent_as s.session.config segment) gives.at.emits))

  pub visits_emitted : (stage : Stage) → 7 ≡ stage.number → stage.Goes (events_on n (Emit n from len ∷ [])) (Some (Live s o)) (Some (Live u o))
      → ((t : Tally) → tallied s.session.end from len t ≡ stage.count (Some (Live s o)) t) → stage.kept.Same f g → Visits stage n f p g q
  visits_emitted stage number goes count same_rest = record {
    events = Emit n from len ∷ [];
    did = λ t. subst (λ (x : Option Place). DidAsRouter f p t (Emit n from len ∷ []) g q (at t n (stage.count x (t n)))) (sym is)
        (subst (λ (x : Tally). DidAsRouter f p t (Emit n from len ∷ []) g q (at t n x)) (count (t n)) (did_emit t));
    at = (number, tt);
    goes = subst (λ (x : Option Place). stage.Goes (events_on n (Emit n from len ∷ [])) x (place_at g.places.places n)) (sym is)
        (subst (λ (x : Option Place). stage.Goes (events_on n (Emit n from len ∷ [])) (Some (Live s o)) x)
        (sym (here f g n (Some (Live u o)) there same items_are)) goes);
    others = λ k not. (elsewhere f g n (Some (Live u o)) there same items_are k not, emit_elsewhere k n from len not);
    same = same_rest;
    keeps = keeps_emitted;
  }
