-- The rows of events on sessions: no session is live there, segments that are emitted and that arrive, messages and rounds.
use Rattle.std.proofs.Common.{◌≡◌, ◌≢◌, ℕ, ◌+◌, ◌<◌, ◌≤◌, List, ◌∷◌, length, Option, option_map, Some, false, inl, inr}
use Rattle.std.proofs.Common.{refl, sym, ap, ◌∙◌, subst, arith}
use Rattle.std.specs.Prelude.{slice_get, slice_set}
use Rattle.std.proofs.lemmas.Bool.{false≢true}
use Rattle.std.proofs.lemmas.List.{get_or_past}
use Rattle.tcp_seq.specs.Endpoint.{Endpoint, IsInStreams, PlacedSegment, TakesSegment}
use Rattle.tcp_seq.specs.Placed.{placed}
use Rattle.tcp_seq.specs.declared.segment.Segment.{Segment}
use Rattle.tcp_seq.specs.declared.segment.Way.{Way}
use Rattle.tcp_seq.specs.declared.segment.Way.TheVariants.{Home}
use Rattle.tcp_end.specs.Emitting.{EmitsPart}
use Rattle.tcp_end.specs.declared.arrival.Arrival.{Arrival}
use Rattle.graft_steps.specs.declared.item.Item.TheVariants as items
use Rattle.bgp_session.specs.Fronts.{CantRead}
use Rattle.bgp_session.specs.Running.{RunningSession, carried}
use Rattle.bgp_session.specs.Steps.{MayPass, ReadsFrame, SegmentArrives, SessionEmits, SessionTicks, received_as, sent_as}
use Rattle.bgp_session.specs.declared.answers.ReadStep.{ReadStep}
use Rattle.bgp_session.specs.declared.answers.TickStep.{TickStep}
use Rattle.session_value.specs.Cases.{GetsFrame}
use Rattle.session_value.specs.Sessions.{SessionValue}
use Rattle.graft_model.specs.Parts as model
use Rattle.graft_model.specs.Points.{at}
use Rattle.graft_model.specs.RouterRows.{IsLive, OutwardTo, SegmentIn}
use Rattle.graft_model.specs.Setups.{peerings_in, routers_in}
use Rattle.graft_model.specs.Slices.{EmitsAt}
use Rattle.graft_model.specs.declared.event.RouterEvent.TheVariants.{Arrive, Emit, Got, Stray, Tick}
use Rattle.graft_actors.specs.Actors.{FarSide, OutwardItem}
use Rattle.graft_actors.specs.Items.{IsSegmentOf, home_first, placed_for, remote_first, segment_of, segment_thing, thing_of}
use Rattle.router_tables.specs.Owned.{HasNoEntry, IsOfPeering}
use Rattle.router_tables.proofs.Points.{at_else}
use Rattle.rib_stages.specs.Values.{table_at}
use Rattle.audit_ruling.specs.Rulings.{Parcel, router_takes}
use Rattle.audit_ruling.specs.declared.ruling.Ruling.TheVariants.{Refused, Silent, Sends}
use Rattle.audit_tables.specs.Parts.{entries_at, part_with}
use Rattle.audit_tables.specs.declared.tables.Tables.{Tables}
use Rattle.audit_router.specs.Decides.{Decides, DecidesTaking, KeepsRouter}
use Rattle.audit_router.specs.Nexts.{is_segment}
use Rattle.audit_router.specs.Parts.{RouterInvariant, places_of, router_part, setup_of_router}
use Rattle.audit_router.specs.Places.{errand_of, place_at, place_of}
use Rattle.audit_router.specs.declared.place.Errand.{Errand}
use Rattle.audit_router.specs.declared.place.Place.{Place}
use Rattle.audit_router.specs.declared.place.Place.TheVariants.{Vacant, Live}
use Rattle.audit_router.specs.declared.router.AuditedRouter.{AuditedRouter}
use Rattle.audit_router.proofs.Following.{FollowsIn}
use Rattle.audit_router.proofs.Inversions.{live_as}
use Rattle.audit_router.proofs.Kept as kept
use Rattle.audit_router.proofs.Parcels.{first_is, segment_is}

-- ---- which session is live

-- no session is live at the place
abbrev pub NoneLive : AuditedRouter → ℕ → Type 0
NoneLive r p = (session : SessionValue) (errand : Option model.Errand) → ¬ IsLive (router_part r) p session errand

module _ (r : AuditedRouter) (p : ℕ) where
  pub none_live : ((s : RunningSession) (errand : Option Errand) → place_at r.places.items p ≢ Live s errand) → NoneLive r p
  none_live not session errand live = let own = live_as (place_at r.places.items p) session errand live.is in not own.running own.own own.is

  -- behind the last place none is live
  pub none_beyond : length r.places.items ≤ p → NoneLive r p
  none_beyond from = none_live (λ s errand e. let vacant : place_at r.places.items p ≡ Vacant = get_or_past r.places.items p Vacant from in
      let no : ⊥ = cc in no)

  -- nor where another content is
  pub none_there : (x : Place) → place_at r.places.items p ≡ x → ((s : RunningSession) (errand : Option Errand) → x ≢ Live s errand) → NoneLive r p
  none_there x is not = none_live (λ s errand e. not s errand (sym is ∙ e))

  module _ (s : RunningSession) (errand : Option Errand) (is : place_at r.places.items p ≡ Live s errand) where
    pub live_here : IsLive (router_part r) p s.session (option_map errand_of errand)
    live_here = record { is = ap place_of is }

    -- it is the one that a row names
    pub live_session : (session : SessionValue) (e : Option model.Errand) → IsLive (router_part r) p session e → s.session ≡ session
    live_session session e live =
        let same : model.Live s.session (option_map errand_of errand) ≡ model.Live session e = sym (ap place_of is) ∙ live.is in cc

-- ---- a segment is emitted

part_at : (from len : ℕ) (e f : Endpoint) (segment : PlacedSegment) → EmitsPart from len e segment f → EmitsAt from len e segment f
part_at from len e f segment h = record { offset = h.0; size = h.1; emits = h.2 }

-- a segment is short, a slice or without bytes
short_part : (from len : ℕ) (e f : Endpoint) (segment : PlacedSegment) → EmitsPart from len e segment f → length segment.bytes < 65536
short_part from len e f segment h = elim h.2 [
  | inl slice ↦ let short = slice.short in omega (arith, short)
  | inr empty ↦ let none : length segment.bytes ≡ 0 = ap (λ (w : PlacedSegment). length w.bytes) empty.empty in omega (arith, none)
]

at_part : (from len : ℕ) (e f : Endpoint) (segment : PlacedSegment) → EmitsAt from len e segment f → EmitsPart from len e segment f
at_part from len e f segment h = (h.offset, h.size, h.emits)

module _ (r : AuditedRouter) (k : RouterInvariant r) (p from len : ℕ) where
  pub emit_nothing : NoneLive r p → Decides (Emit p from len) r Refused r
  emit_nothing none = kept.refused r k (Emit p from len) (λ gave after row. none row.session row.errand row.live)

  pub emit_none : (s : RunningSession) (errand : Option Errand) → place_at r.places.items p ≡ Live s errand
      → ((segment : PlacedSegment) (after : Endpoint) → ¬ EmitsPart from len s.session.end segment after) → Decides (Emit p from len) r Refused r
  emit_none s errand is never = kept.refused r k (Emit p from len)
      (λ gave after row. never row.segment row.end (subst (λ (v : SessionValue). EmitsPart from len v.end row.segment row.end)
      (sym (live_session r p s errand is row.session row.errand row.live)) (at_part from len row.session.end row.end row.segment row.emits)))

  module _ (s : RunningSession) (errand : Option Errand) (is : place_at r.places.items p ≡ Live s errand) (known : p < length r.places.items)
      (u : AuditedRouter) (t : RunningSession) (places : u.places.items ≡ slice_set r.places.items p (Live t errand))
      (tables : u.tables ≡ r.tables) (alike : kept.IsAlike r u) where
    own : IsOfPeering (setup_of_router r) p s.session
    own = (kept.keeps_here r k p (Live s errand) is).0

    -- a session that emits keeps what its place requires
    module _ (config : t.session.config ≡ s.session.config) (told : t.session.adj_rib_out ≡ s.session.adj_rib_out) where
      keeps_live : KeepsRouter r u
      keeps_live = kept.keeps_placed r u p known (Live t errand) places k tables alike
          (kept.same_told r.tables p s t errand config told (kept.keeps_here r k p (Live s errand) is))

    part_then : router_part u ≡ record (router_part r) { places = at (router_part r).places p (model.Live t.session (option_map errand_of errand)) }
    part_then = kept.part_is r u p known (Live t errand) places k tables alike

    module _ (segment : Segment) (emits : SessionEmits (EmitsPart from len) s.session segment t.session)
        (there : p < peerings_in (setup_of_router r)) where
      placed_is : segment_of (setup_of_router r) segment ≡ sent_as s.session.config segment
      placed_is =
          ap (λ (w : Way). placed_for w (home_first (setup_of_router r) segment.peering.0) (remote_first (setup_of_router r) segment.peering.0) segment) emits.way
          ∙ (ap (λ (n : ℕ). placed (home_first (setup_of_router r) n) (remote_first (setup_of_router r) n) segment)
          (ap (λ q. q.0) emits.peering ∙ own.peering)
          ∙ (λ i. placed (sym own.sends i) (sym own.receives i) segment))

      thing_is : thing_of carried (setup_of_router r) (items.Seg segment) ≡ OutwardItem (model.Seg (sent_as s.session.config segment))
      thing_is = ap (λ (w : Way). segment_thing w (segment_of (setup_of_router r) segment)) emits.way
          ∙ ap (λ (w : PlacedSegment). OutwardItem (model.Seg w)) placed_is

      pub emit_made : (to : ℕ) → to ≡ routers_in (setup_of_router r) + p → Decides (Emit p from len) r (Sends to (items.Seg segment)) u
      emit_made to number = kept.sends r k (Emit p from len) u
          (keeps_live (ap (λ (v : SessionValue). v.config) emits.effect) (ap (λ (v : SessionValue). v.adj_rib_out) emits.effect))
          to (items.Seg segment) (OutwardTo p (model.Seg (sent_as s.session.config segment)))
          (record {
            session = s.session;
            errand = option_map errand_of errand;
            live = live_here r p s errand is;
            segment = sent_as s.session.config segment;
            end = emits.end;
            emits = part_at from len s.session.end emits.end (sent_as s.session.config segment) emits.step;
            takes = refl;
            sends = refl;
            effect = part_then ∙ ap (λ (v : SessionValue). let x : model.RouterPart =
                record (router_part r) { places = at (router_part r).places p (model.Live v (option_map errand_of errand)) } in x) emits.effect;
          })
          (λ i. (number i, thing_is i)) there
          (record {
            peering = ap (λ q. q.0) emits.peering ∙ own.peering;
            way = emits.way;
            len = let short = short_part from len s.session.end emits.end (sent_as s.session.config segment) emits.step in omega (arith, short);
            placed = subst IsInStreams (sym placed_is) emits.in_streams;
          })

-- ---- a segment arrives

module _ (r : AuditedRouter) (k : RouterInvariant r) (p : ℕ) (channel : List Parcel) where
  pub arrive_none : NoneLive r p → DecidesTaking (Arrive p) (FarSide p) r channel Refused r channel
  arrive_none none = kept.refused_taking r k (Arrive p) (FarSide p) channel (λ item more is gave after row. none row.session row.errand row.live)

  pub stray_live : (s : RunningSession) (errand : Option Errand) → place_at r.places.items p ≡ Live s errand
      → DecidesTaking (Stray p) (FarSide p) r channel Refused r channel
  stray_live s errand is = kept.refused_taking r k (Stray p) (FarSide p) channel
      (λ item more first gave after row. row.absent s.session (option_map errand_of errand) (live_here r p s errand is))

  -- no segment is next
  module _ (none : is_segment (slice_get channel 0) ≡ false) where
    not_first : (item : Parcel) (more : List Parcel) → channel ≡ item ∷ more → (segment : PlacedSegment)
        → router_takes (FarSide p) (thing_of carried (setup_of_router r) item) ≡ Some (SegmentIn p segment) → ⊥
    not_first item more first segment takes =
        false≢true (sym none ∙ (ap is_segment (first_is channel item more first) ∙ segment_is (setup_of_router r) p item p segment takes))

    pub arrive_nothing : DecidesTaking (Arrive p) (FarSide p) r channel Refused r channel
    arrive_nothing = kept.refused_taking r k (Arrive p) (FarSide p) channel (λ item more first gave after row. not_first item more first row.segment row.takes)

    pub stray_nothing : DecidesTaking (Stray p) (FarSide p) r channel Refused r channel
    stray_nothing = kept.refused_taking r k (Stray p) (FarSide p) channel (λ item more first gave after row. not_first item more first row.segment row.takes)

  module _ (g : Segment) (rest : List Parcel) (first : channel ≡ items.Seg g ∷ rest) (of : IsSegmentOf (setup_of_router r) p Home g) where
    taken_is : router_takes (FarSide p) (thing_of carried (setup_of_router r) (items.Seg g)) ≡ Some (SegmentIn p (segment_of (setup_of_router r) g))
    taken_is = ap (λ (w : Way). router_takes (FarSide p) (segment_thing w (segment_of (setup_of_router r) g))) of.way

    pub strays : NoneLive r p → DecidesTaking (Stray p) (FarSide p) r channel Silent r rest
    strays none = kept.silent_taking r k (Stray p) (FarSide p) channel r (kept.keeps_itself r k) (items.Seg g) rest first
        (record { absent = none; segment = segment_of (setup_of_router r) g; takes = taken_is; sends = refl; stays = refl })

    module _ (s : RunningSession) (errand : Option Errand) (is : place_at r.places.items p ≡ Live s errand) where
      own_of : IsOfPeering (setup_of_router r) p s.session
      own_of = (kept.keeps_here r k p (Live s errand) is).0

      seg_is : segment_of (setup_of_router r) g ≡ received_as s.session.config g
      seg_is =
          ap (λ (w : Way). placed_for w (home_first (setup_of_router r) g.peering.0) (remote_first (setup_of_router r) g.peering.0) g) of.way
          ∙ (ap (λ (n : ℕ). placed (remote_first (setup_of_router r) n) (home_first (setup_of_router r) n) g) of.peering
          ∙ (λ i. placed (sym own_of.receives i) (sym own_of.sends i) g))

      -- what the session requires of the segment
      pub peering_is : g.peering ≡ s.session.config.peering
      peering_is = λ i. record { 0 = (of.peering ∙ sym own_of.peering) i }

      pub in_streams : IsInStreams (received_as s.session.config g)
      in_streams = subst IsInStreams seg_is of.placed

      pub arrives : p < length r.places.items → (u : AuditedRouter) (t : RunningSession) → u.places.items ≡ slice_set r.places.items p (Live t errand)
          → u.tables ≡ r.tables → kept.IsAlike r u → (arrival : Arrival) → SegmentArrives arrival s g t
          → DecidesTaking (Arrive p) (FarSide p) r channel Silent u rest
      arrives known u t places tables alike arrival arr = kept.silent_taking r k (Arrive p) (FarSide p) channel u
          (kept.keeps_placed r u p known (Live t errand) places k tables alike
          (kept.same_told r.tables p s t errand (ap (λ (v : RunningSession). v.session.config) arr.effect)
          (ap (λ (v : RunningSession). v.session.adj_rib_out) arr.effect) (kept.keeps_here r k p (Live s errand) is)))
          (items.Seg g) rest first
          (record {
            session = s.session;
            errand = option_map errand_of errand;
            live = live_here r p s errand is;
            segment = segment_of (setup_of_router r) g;
            takes = taken_is;
            sends = refl;
            end = arr.end;
            arrives = subst (λ (w : PlacedSegment). TakesSegment s.session.end w arr.end) (sym seg_is) arr.takes;
            effect = kept.part_is r u p known (Live t errand) places k tables alike
                ∙ ap (λ (v : RunningSession). let x : model.RouterPart =
                record (router_part r) { places = at (router_part r).places p (model.Live v.session (option_map errand_of errand)) } in x) arr.effect;
          })

-- ---- the session changes by itself

module _ (p : ℕ) (s next : SessionValue) (t u : Tables) (follows : FollowsIn p s next t u) where
  pub stays_by_follow : (q : ℕ) → q ≢ p → (x : Place) → kept.KeepsPlaceIn t q x → kept.KeepsPlaceIn u q x
  stays_by_follow q not = kept.stays_in t u follows.keeps q
      (subst HasNoEntry (sym (ap (λ (part : model.RouterPart). part.entries q) (follows.effect kept.nowhere)
      ∙ at_else (part_with kept.nowhere t).entries p (entries_at u p) q not)))
      (λ v h. elim follows.others [
        | inl unknown ↦ kept.knows_nothing u unknown q v
        | inr others ↦ kept.knows_on t u follows.keeps q (others.1 q not)
            (ap (λ (part : model.RouterPart). part.due_out q) (follows.effect kept.nowhere) ∙ at_else (table_at t.due_out) p (table_at u.due_out p) q not)
            others.0 (ap (λ (part : model.RouterPart). part.best) (follows.effect kept.nowhere)) v h
      ])

module _ (r : AuditedRouter) (k : RouterInvariant r) (p : ℕ) where
  pub got_none : NoneLive r p → Decides (Got p) r Refused r
  got_none none = kept.refused r k (Got p) (λ gave after row. none row.session row.errand row.live)

  pub tick_none : (round : ℕ) → NoneLive r p → Decides (Tick p round) r Refused r
  tick_none round none = kept.refused r k (Tick p round) (λ gave after row. none row.session row.errand row.live)

  module _ (s : RunningSession) (errand : Option Errand) (is : place_at r.places.items p ≡ Live s errand) where
    pub tick_early : (round : ℕ) → ¬ MayPass s.session round → Decides (Tick p round) r Refused r
    tick_early round not = kept.refused r k (Tick p round) (λ gave after row. not (subst (λ (v : SessionValue). MayPass v round)
        (sym (live_session r p s errand is row.session row.errand row.live))
        (record { up = row.passes.up; runs = row.passes.runs; later = row.passes.later; room = row.passes.room })))

    pub got_nothing : CantRead s.session → Decides (Got p) r Refused r
    got_nothing cant = kept.refused r k (Got p)
        (λ gave after row. by_cause (subst CantRead (live_session r p s errand is row.session row.errand row.live) cant) row.bytes row.next row.gets)
      where
        by_cause : {session : SessionValue} → CantRead session → (bytes : List ℕ) (next : SessionValue) → GetsFrame session bytes next → ⊥
        by_cause (inl closed) bytes next gets = gets.unclosed closed
        by_cause (inr nothing) bytes next gets = nothing bytes gets.rest gets.front gets.got

    module _ (known : p < length r.places.items) (u : AuditedRouter) (t : RunningSession)
        (places : u.places.items ≡ slice_set r.places.items p (Live t errand)) (alike : kept.IsAlike r u) (follows : FollowsIn p s.session t.session r.tables u.tables) where
      keeps_followed : t.session.config ≡ s.session.config → KeepsRouter r u
      keeps_followed config = kept.keeps_then r u k alike (kept.as_many r u p known (Live t errand) places) follows.keeps
          (kept.each_place r u p known (Live t errand) places
          (kept.live_then r.tables u.tables p s t errand follows.keeps config follows.forgets (kept.keeps_here r k p (Live s errand) is))
          (λ q not. stays_by_follow p s.session t.session r.tables u.tables follows q not (place_at r.places.items q) (kept.keeps_at r k q)))

      part_followed : router_part u ≡ record (router_part r) {
        places = at (router_part r).places p (model.Live t.session (option_map errand_of errand));
        entries = at (router_part r).entries p ((router_part u).entries p);
        dirty = (router_part u).dirty;
        due_out = at (router_part r).due_out p ((router_part u).due_out p);
      }
      part_followed = follows.effect (places_of u)
          ∙ ap (λ (ps : ℕ → model.Place). let x : model.RouterPart = record (part_with ps r.tables) {
            entries = at (router_part r).entries p ((router_part u).entries p);
            dirty = (router_part u).dirty;
            due_out = at (router_part r).due_out p ((router_part u).due_out p);
          } in x) (kept.places_are r u p known (Live t errand) places)

      pub gets : (step : ReadStep) → ReadsFrame step s t → Decides (Got p) r Silent u
      gets step reads = kept.silent r k (Got p) u (keeps_followed (ap (λ (v : SessionValue). v.config) reads.gets.effect)) (record {
        alone = (refl, refl);
        session = s.session;
        errand = option_map errand_of errand;
        live = live_here r p s errand is;
        bytes = reads.bytes;
        next = t.session;
        gets = reads.gets;
        follows = record { entries = follows.entries; dirty = follows.dirty; due = follows.due; effect = part_followed };
      })

      pub ticks : (step : TickStep) (round : ℕ) → SessionTicks step s round t
          → Decides (Tick p round) r Silent u
      ticks step round passes = kept.silent r k (Tick p round) u (keeps_followed (ap (λ (v : SessionValue). v.config) passes.passes.effect)) (record {
        alone = (refl, refl);
        session = s.session;
        errand = option_map errand_of errand;
        live = live_here r p s errand is;
        next = t.session;
        passes = passes.passes;
        follows = record { entries = follows.entries; dirty = follows.dirty; due = follows.due; effect = part_followed };
      })
