-- What a far side takes, and what it drops.
use Rattle.std.proofs.Common.{◌≡◌, ◌≢◌, ℕ, ◌+◌, ◌<◌, ◌≤◌, ◌^◌, List, [], ◌∷◌, ◌++◌, length, Option, Some, None}
use Rattle.std.proofs.Common.{Bool, true, false, refl, sym, ap, subst, ◌∙◌, arith, inl, inr}
use Rattle.std.specs.Prelude.{slice_get, nat_lt, max, if◌then◌else◌, ◌==◌}
use Rattle.std.proofs.lemmas.List.{append-nil}
use Rattle.std.proofs.lemmas.Bool.Decides.{nat_tests}
use Rattle.std.proofs.lemmas.Bool.{lt-ltb, le-ltb}
use Rattle.ring_net.specs.Deeds.{Deed}
use Rattle.ring_net.specs.declared.post.Post.{Post}
use Rattle.graft_steps.specs.declared.item.Item.{Item}
use Rattle.graft_steps.specs.declared.item.Item.TheVariants as items
use Rattle.graft_edge.specs.declared.ids.RouterId.{RouterId}
use Rattle.tcp_seq.specs.Endpoint.{PlacedSegment, IsInStreams}
use Rattle.tcp_seq.specs.Placed.{placed}
use Rattle.tcp_seq.specs.declared.segment.Segment.{Segment}
use Rattle.tcp_seq.specs.declared.segment.Way.{Way}
use Rattle.tcp_seq.specs.declared.segment.Way.TheVariants.{Remote}
use Rattle.session_value.specs.Sessions.{SessionValue}
use Rattle.session_value.specs.Cases.{sending}
use Rattle.graft_model.specs.Setups.{ScriptStep, SayStep, MoveStep, EvacuateStep, SettleStep, routers_in, peerings_in}
use Rattle.graft_model.specs.Parts.{FarPart, Seg, PointAt}
use Rattle.graft_model.specs.FarRows.{FarTaken, OutwardIn, SayIn}
use Rattle.graft_model.specs.declared.event.FarEvent.{FarEvent}
use Rattle.graft_model.specs.declared.event.FarEvent.TheVariants.{Say, Take, Point}
use Rattle.graft_model.specs.Steps.{far_row}
use Rattle.graft_model.specs.Codes.{far_code}
use Rattle.graft_actors.specs.Actors.{ActorName, Router, FarSide, Operator, Thing, number_in, actor_at}
use Rattle.graft_actors.specs.Makes.{taken_by_far}
use Rattle.graft_actors.proofs.Numbers.{there, of_number, at_operator}
use Rattle.graft_actors.specs.Items.{home_first, remote_first, placed_for, segment_of, segment_thing, IsSegmentOf, thing_of}
use Rattle.graft_actors.specs.Acts.{MayComeFrom, IsWelcome, acts}
use Rattle.graft_actors.proofs.Welcome.{far_segment, far_point, far_say}
use Rattle.remote_end.specs.Remotes.{RemoteValue, IsFor}
use Rattle.actor_configs.specs.Says.{bytes_at, say_by}
use Rattle.far_side.specs.Links.{LinkValue, IsOn}
use Rattle.graft_actors.specs.Notes.{deed_of, WroteOne, dropped}
use Rattle.far_side.specs.Parts.{far_part, own_part, FarSideInvariant, ForEach}
use Rattle.far_side.specs.Passes.{fates_in, put_in, plans_put}
use Rattle.far_side.specs.Takes.{segments_taken_in, TookAsFar, FarTakesIt}
use Rattle.far_side.specs.declared.fields.Fields.{Fields}
use Rattle.far_side.proofs.Sessions.{for_each}
use Rattle.far_side.proofs.Kept.{keeps_remoteward, keeps_remote, keeps_pointer}
use Rattle.graft_model.specs.declared.code.Code.{Code}

-- the offsets of a segment for the remote
segment_offsets : (f : Fields) (s : Segment) → FarSideInvariant f → IsFor f.remote s
    → segment_of f.known.setup s ≡ placed f.remoteward.seq_first f.remoteward.ack_first s
segment_offsets f s k fits =
    ap (λ (w : Way). placed_for w (home_first f.known.setup s.peering.0) (remote_first f.known.setup s.peering.0) s) fits.way
    ∙ ap (λ (n : ℕ). placed (home_first f.known.setup n) (remote_first f.known.setup n) s) (fits.peering ∙ k.remote)
    ∙ ap (λ (n : ℕ). placed n (remote_first f.known.setup f.peering.0) s) (sym k.remoteward.seq_first)
    ∙ ap (λ (n : ℕ). placed f.remoteward.seq_first n s) (sym k.remoteward.ack_first)

-- it may go into the link
pub segment_on : (f : Fields) (s : Segment) → FarSideInvariant f → IsFor f.remote s → IsOn f.remoteward s
segment_on f s k fits = record {
  way = fits.way ∙ sym k.remoteward.way;
  peering = fits.peering ∙ k.remote ∙ sym k.remoteward.peering;
  in_streams = subst (λ (n : ℕ). IsInStreams (placed n f.remoteward.ack_first s)) (k.receives ∙ sym k.remoteward.seq_first)
      (subst (λ (n : ℕ). IsInStreams (placed f.remote.receive_first n s)) (k.sends ∙ sym k.remoteward.ack_first) fits.in_streams);
  short = fits.short;
}

-- it is one of the peering
segment_is : (f : Fields) (s : Segment) → FarSideInvariant f → IsFor f.remote s → IsSegmentOf f.known.setup f.peering.0 Remote s
segment_is f s k fits = record {
  peering = fits.peering ∙ k.remote;
  way = fits.way;
  len = fits.short;
  placed = subst IsInStreams (sym (segment_offsets f s k fits)) (segment_on f s k fits).in_streams;
}

-- and one that isn't for the remote is none of its peering
pub segment_for : (f : Fields) (s : Segment) → FarSideInvariant f → IsSegmentOf f.known.setup f.peering.0 Remote s → IsFor f.remote s
segment_for f s k is =
    let at : segment_of f.known.setup s ≡ placed f.remote.receive_first f.remote.send_first s =
    ap (λ (w : Way). placed_for w (home_first f.known.setup s.peering.0) (remote_first f.known.setup s.peering.0) s) is.way
    ∙ ap (λ (n : ℕ). placed (home_first f.known.setup n) (remote_first f.known.setup n) s) is.peering
    ∙ ap (λ (n : ℕ). placed n (remote_first f.known.setup f.peering.0) s) (sym k.receives)
    ∙ ap (λ (n : ℕ). placed f.remote.receive_first n s) (sym k.sends) in
    record { peering = is.peering ∙ sym k.remote; way = is.way; in_streams = subst IsInStreams at is.placed; short = is.len }

-- an item that no far side takes
abbrev pub IsOther : {C : Type 0} → Item C → Type 0
IsOther (items.Seg g) = ⊥
IsOther (items.PointAt k) = ⊥
IsOther (items.SayOrder step) = ⊥
IsOther item = Unit {0}

module _ {C : Type 0} (session : C → SessionValue) where
  -- one event that takes an item
  took_one : (f g : Fields) (p q : Post (Item C)) (from : ℕ) (code : Code) (item : Item C) → WroteOne p code [] q
      → acts session 0 (own_part f) (deed_of p code (Some (from, item)) []).entry (Some (from, item)) [] (own_part g)
      → TookAsFar f from item (deed_of p code (Some (from, item)) [] ∷ []) g → FarSideInvariant g → FarTakesIt session from item f p g q
  took_one f g p q from code item wrote act took keeps = record {
    took = record {
      deeds = deed_of p code (Some (from, item)) [] ∷ [];
      wrote = wrote (Some (from, item));
      first = (refl, tt);
      replay = (own_part g, act, refl);
      took = took;
    };
    keeps = keeps;
  }

  took_nothing : (f : Fields) (from : ℕ) (item : Item C) (deeds : List (Deed (Item C))) → length deeds ≡ 1 → segments_taken_in deeds ≡ 0
      → TookAsFar f from item deeds f
  took_nothing f from item deeds one none = record {
    one = one;
    link = record { way = refl; peering = refl; seq_first = refl; ack_first = refl };
    plans = sym (ap (λ (n : ℕ). f.remoteward.plans ++ plans_put (fates_in f.plan f.remoteward) f.pointer.0 f.remoteward.put n) none
        ∙ append-nil f.remoteward.plans);
    put = let e : f.remoteward.put ≡ f.remoteward.put + segments_taken_in deeds = omega (arith, none) in e;
    remote = refl;
    same = refl;
  }

  -- an item that isn't welcome is dropped
  pub drops : (f : Fields) (p q : Post (Item C)) (from : ℕ) (item : Item C) → FarSideInvariant f → WroteOne p dropped [] q
      → (IsWelcome session (own_part f) from item → ⊥) → FarTakesIt session from item f p f q
  drops f p q from item keeps wrote not = took_one f f p q from dropped item wrote
      (record {
        setup = refl;
        name = refl;
        does = inr (record { from = from; item = item; takes = refl; unwelcome = not; kind = refl; a = refl; b = refl; c = refl; sends = refl; stays = refl });
      })
      (took_nothing f from item (deed_of p dropped (Some (from, item)) [] ∷ []) refl refl) keeps

  -- ---- items that aren't welcome

  -- an item that no far side takes
  pub other_unwelcome : (f : Fields) (from : ℕ) (item : Item C) → IsOther item → IsWelcome session (own_part f) from item → ⊥
  other_unwelcome f from item other w = by_item item other (actor_at f.known.setup from) w.comes
    where
      by_item : (item : Item C) → IsOther item → (o : Option ActorName) → MayComeFrom session f.known.setup o (FarSide f.peering.0) item → ⊥
      by_item (items.Seg g) other o m = other
      by_item (items.PointAt k) other o m = other
      by_item (items.SayOrder step) other o m = other
      by_item (items.Told prefix route) other None m = m
      by_item (items.Told prefix route) other (Some (Router q)) m = m
      by_item (items.Told prefix route) other (Some (FarSide q)) m = m
      by_item (items.Told prefix route) other (Some Operator) m = m
      by_item (items.Moved k capsule) other None m = m
      by_item (items.Moved k capsule) other (Some (Router q)) m = m
      by_item (items.Moved k capsule) other (Some (FarSide q)) m = m
      by_item (items.Moved k capsule) other (Some Operator) m = m
      by_item (items.Back k capsule refusal) other None m = m
      by_item (items.Back k capsule refusal) other (Some (Router q)) m = m
      by_item (items.Back k capsule refusal) other (Some (FarSide q)) m = m
      by_item (items.Back k capsule refusal) other (Some Operator) m = m
      by_item (items.Asked k peering) other None m = m
      by_item (items.Asked k peering) other (Some (Router q)) m = m
      by_item (items.Asked k peering) other (Some (FarSide q)) m = m
      by_item (items.Asked k peering) other (Some Operator) m = m
      by_item (items.Answered k peering) other None m = m
      by_item (items.Answered k peering) other (Some (Router q)) m = m
      by_item (items.Answered k peering) other (Some (FarSide q)) m = m
      by_item (items.Answered k peering) other (Some Operator) m = m
      by_item (items.Done k peering) other None m = m
      by_item (items.Done k peering) other (Some (Router q)) m = m
      by_item (items.Done k peering) other (Some (FarSide q)) m = m
      by_item (items.Done k peering) other (Some Operator) m = m
      by_item (items.GraftOrder k peering target) other None m = m
      by_item (items.GraftOrder k peering target) other (Some (Router q)) m = m
      by_item (items.GraftOrder k peering target) other (Some (FarSide q)) m = m
      by_item (items.GraftOrder k peering target) other (Some Operator) m = m
      by_item (items.Report k outcome) other None m = m
      by_item (items.Report k outcome) other (Some (Router q)) m = m
      by_item (items.Report k outcome) other (Some (FarSide q)) m = m
      by_item (items.Report k outcome) other (Some Operator) m = m

  -- a segment that isn't a router's, or isn't this remote's
  pub segment_unwelcome : (f : Fields) (from : ℕ) (g : Segment)
      → (from < routers_in f.known.setup → IsSegmentOf f.known.setup f.peering.0 Remote g → ⊥) → IsWelcome session (own_part f) from (items.Seg g) → ⊥
  segment_unwelcome f from g not w =
      let is : (r : ℕ) × (actor_at f.known.setup from ≡ Some (Router r)) × IsSegmentOf f.known.setup f.peering.0 Remote g =
      (far_segment session f.known.setup from f.peering.0 (far_part f) g).0 w in
      let at : (is.0 < routers_in f.known.setup) × (from ≡ is.0) = of_number f.known.setup from (Router is.0) is.1 in
      not (omega (arith, at.0, at.1)) is.2

  pub word_unwelcome : (f : Fields) (from k : ℕ) → routers_in f.known.setup ≤ from → IsWelcome session (own_part f) from (items.PointAt k) → ⊥
  word_unwelcome f from k past w =
      let is : (r : ℕ) × (actor_at f.known.setup from ≡ Some (Router r)) = (far_point session f.known.setup from f.peering.0 k (far_part f)).0 w in
      let at : (is.0 < routers_in f.known.setup) × (from ≡ is.0) = of_number f.known.setup from (Router is.0) is.1 in
      omega (arith, at.0, at.1, past)

  -- an order that isn't the operator's, or of a step that the remote can't say
  pub order_unwelcome : (f : Fields) (from step : ℕ)
      → (from ≡ routers_in f.known.setup + peerings_in f.known.setup → (bytes : List ℕ)
      → slice_get f.known.setup.steps step ≡ Some (SayStep f.peering.0 bytes) → length f.remote.end.stream + length bytes ≤ 2 ^ 20 → ⊥)
      → IsWelcome session (own_part f) from (items.SayOrder step) → ⊥
  order_unwelcome f from step not w =
      let is = (far_say session f.known.setup from f.peering.0 step (far_part f)).0 w in
      not (of_number f.known.setup from Operator is.0).1 is.1 is.2 is.3

  -- ---- events that take an item

  -- by the row of an event that takes this from that actor
  acts_taking : (f g : Fields) (p : Post (Item C)) (from : ℕ) (item : Item C) (name : ActorName) (took : FarTaken) (event : FarEvent)
      → from ≡ number_in f.known.setup name → IsWelcome session (own_part f) from item
      → taken_by_far took ≡ (name, thing_of session f.known.setup item)
      → far_row f.known.setup f.peering.0 event (far_part f) (Some took) [] (far_part g)
      → g.known.setup ≡ f.known.setup → g.peering ≡ f.peering
      → acts session 0 (own_part f) (deed_of p (far_code event) (Some (from, item)) []).entry (Some (from, item)) [] (own_part g)
  acts_taking f g p from item name took event number welcome thing row setup peering = record {
    setup = setup;
    name = ap (λ k. FarSide k.0) peering;
    does = inl (record {
      welcome = welcome;
      row = record {
        event = event;
        coded = record { kind = refl; a = refl; b = refl; c = refl };
        took = Some took;
        gave = [];
        holds = row;
        is_taken = λ i.
            Some ((number ∙ sym (ap (λ (x : ActorName × Thing). number_in f.known.setup x.0) thing)) i, sym (ap (λ (x : ActorName × Thing). x.1) thing) i);
        is_sent = refl;
        there = tt;
      };
      fit = tt;
    });
  }

  -- a segment goes into the link
  pub takes_segment : (f g : Fields) (p q : Post (Item C)) (from : ℕ) (s : Segment) → FarSideInvariant f → from < routers_in f.known.setup
      → IsFor f.remote s → WroteOne p (far_code (Take from)) [] q
      → g ≡ record f { remoteward = put_in f.remoteward f (placed f.remoteward.seq_first f.remoteward.ack_first s) }
      → FarTakesIt session from (items.Seg s) f p g q
  takes_segment f g p q from s keeps known fits wrote same =
      let is : IsSegmentOf f.known.setup f.peering.0 Remote s = segment_is f s keeps fits in
      let at : actor_at f.known.setup from ≡ Some (Router from) = there f.known.setup (Router from) known in
      let setup : g.known.setup ≡ f.known.setup = ap (λ (h : Fields). h.known.setup) same in
      took_one f g p q from (far_code (Take from)) (items.Seg s) wrote
      (acts_taking f g p from (items.Seg s) (Router from) (OutwardIn from (Seg (segment_of f.known.setup s)))
      (Take from) refl ((far_segment session f.known.setup from f.peering.0 (far_part f) s).1 (from, at, is))
      (ap (λ (way : Way). (Router from, segment_thing way (segment_of f.known.setup s))) (sym is.way))
      (record {
        segment = segment_of f.known.setup s;
        takes = refl;
        sends = refl;
        effect = ap far_part same ∙ ap (λ (x : PlacedSegment). let v : FarPart = record (far_part f) { remoteward = f.remoteward.segments ++ x ∷ [] } in v)
            (sym (segment_offsets f s keeps fits));
      })
      setup (ap (λ (h : Fields). h.peering) same))
      (record {
        one = refl;
        link = record {
          way = ap (λ (h : Fields). h.remoteward.way) same;
          peering = ap (λ (h : Fields). h.remoteward.peering) same;
          seq_first = ap (λ (h : Fields). h.remoteward.seq_first) same;
          ack_first = ap (λ (h : Fields). h.remoteward.ack_first) same;
        };
        plans = ap (λ (h : Fields). h.remoteward.plans) same;
        put = ap (λ (h : Fields). h.remoteward.put) same;
        remote = ap (λ (h : Fields). h.remote) same
            ∙ ap (λ (xs : List ℕ). let v : RemoteValue = record f.remote { end = record f.remote.end { stream = xs } } in v)
            (sym (ap (λ (h : Fields). h.remote.end.stream) same));
        same = subst (λ (h : Fields). h ≡ record f { remote = h.remote; remoteward = h.remoteward; pointer = h.pointer; followed = h.followed })
            (sym same) refl;
      })
      (subst FarSideInvariant (sym same) (keeps_remoteward f (put_in f.remoteward f (placed f.remoteward.seq_first f.remoteward.ack_first s)) keeps
      (record { way = refl; peering = refl; seq_first = refl; ack_first = refl })))

  -- word of a landing is taken, and followed where it is later
  pub takes_word : (f g : Fields) (p q : Post (Item C)) (from k : ℕ) → FarSideInvariant f → from < routers_in f.known.setup
      → WroteOne p (far_code (Point from)) [] q
      → g ≡ record f { pointer = g.pointer; followed = g.followed } → g.pointer.0 ≡ (if nat_lt f.followed k then from else f.pointer.0)
      → g.followed ≡ max f.followed k → FarTakesIt session from (items.PointAt k) f p g q
  takes_word f g p q from k keeps known wrote same pointer followed =
      let at : actor_at f.known.setup from ≡ Some (Router from) = there f.known.setup (Router from) known in
      took_one f g p q from (far_code (Point from)) (items.PointAt k) wrote
      (acts_taking f g p from (items.PointAt k) (Router from) (OutwardIn from (PointAt k)) (Point from) refl
      ((far_point session f.known.setup from f.peering.0 k (far_part f)).1 (from, at)) refl
      (record {
        graft = k;
        takes = refl;
        sends = refl;
        effect = ap far_part same ∙ (λ i. let v : FarPart = record (far_part f) { pointer = pointer i; followed = followed i } in v);
      })
      (ap (λ (h : Fields). h.known.setup) same) (ap (λ (h : Fields). h.peering) same))
      (record {
        one = refl;
        link = record {
          way = ap (λ (h : Fields). h.remoteward.way) same;
          peering = ap (λ (h : Fields). h.remoteward.peering) same;
          seq_first = ap (λ (h : Fields). h.remoteward.seq_first) same;
          ack_first = ap (λ (h : Fields). h.remoteward.ack_first) same;
        };
        plans = ap (λ (h : Fields). h.remoteward.plans) same ∙ sym (append-nil f.remoteward.plans);
        put = ap (λ (h : Fields). h.remoteward.put) same ∙ (let e : f.remoteward.put ≡ f.remoteward.put + 0 = omega arith in e);
        remote = ap (λ (h : Fields). h.remote) same
            ∙ ap (λ (xs : List ℕ). let v : RemoteValue = record f.remote { end = record f.remote.end { stream = xs } } in v)
            (sym (ap (λ (h : Fields). h.remote.end.stream) same));
        same = same
            ∙ (λ i. let v : Fields = record f {
              remote = sym (ap (λ (h : Fields). h.remote) same) i;
              remoteward = sym (ap (λ (h : Fields). h.remoteward) same) i;
              pointer = g.pointer;
              followed = g.followed;
            } in v);
      })
      (subst FarSideInvariant (sym same) (keeps_pointer f g keeps (points (nat_lt f.followed k) pointer keeps)))
    where
      points : (b : Bool) → g.pointer.0 ≡ (if b then from else f.pointer.0) → FarSideInvariant f → g.pointer.0 < routers_in f.known.setup
      points true e keeps = omega (arith, e, known)
      points false e keeps = omega (arith, e, keeps.pointer)

  -- a step is said
  pub takes_order : (f g : Fields) (p q : Post (Item C)) (from step : ℕ) (bytes : List ℕ) → FarSideInvariant f
      → from ≡ routers_in f.known.setup + peerings_in f.known.setup → slice_get f.known.setup.steps step ≡ Some (SayStep f.peering.0 bytes)
      → length f.remote.end.stream + length bytes ≤ 2 ^ 20
      → WroteOne p (far_code (Say step)) [] q → g ≡ record f { remote = record f.remote { end = sending bytes f.remote.end } }
      → FarTakesIt session from (items.SayOrder step) f p g q
  takes_order f g p q from step bytes keeps number is room wrote same =
      let at : actor_at f.known.setup from ≡ Some Operator = ap (actor_at f.known.setup) number ∙ at_operator f.known.setup in
      took_one f g p q from (far_code (Say step)) (items.SayOrder step) wrote
      (acts_taking f g p from (items.SayOrder step) Operator (SayIn step) (Say step) number
      ((far_say session f.known.setup from f.peering.0 step (far_part f)).1 (at, bytes, is, room)) refl
      (record { bytes = bytes; is = is; takes = refl; sends = refl; room = room; effect = ap far_part same })
      (ap (λ (h : Fields). h.known.setup) same) (ap (λ (h : Fields). h.peering) same))
      (record {
        one = refl;
        link = record {
          way = ap (λ (h : Fields). h.remoteward.way) same;
          peering = ap (λ (h : Fields). h.remoteward.peering) same;
          seq_first = ap (λ (h : Fields). h.remoteward.seq_first) same;
          ack_first = ap (λ (h : Fields). h.remoteward.ack_first) same;
        };
        plans = ap (λ (h : Fields). h.remoteward.plans) same ∙ sym (append-nil f.remoteward.plans);
        put = ap (λ (h : Fields). h.remoteward.put) same ∙ (let e : f.remoteward.put ≡ f.remoteward.put + 0 = omega arith in e);
        remote = subst (λ (h : Fields). h.remote ≡ record f.remote { end = record f.remote.end { stream = h.remote.end.stream } }) (sym same) refl;
        same = subst (λ (h : Fields). h ≡ record f { remote = h.remote; remoteward = h.remoteward; pointer = h.pointer; followed = h.followed })
            (sym same) refl;
      })
      (subst FarSideInvariant (sym same) (keeps_remote f (record f.remote { end = sending bytes f.remote.end }) keeps refl refl refl))

-- ---- the same for every session

module _ {C : Type 0} (f : Fields) (p q : Post (Item C)) (from : ℕ) (keeps : FarSideInvariant f) where
  drop_each : (item : Item C) → WroteOne p dropped [] q → ((session : C → SessionValue) → IsWelcome session (own_part f) from item → ⊥)
      → ForEach (λ (session : C → SessionValue). FarTakesIt session from item f p f q) f
  drop_each item wrote not = record { keeps = keeps; each = λ session. drops session f p q from item keeps wrote (not session) }

  pub drop_other_each : (item : Item C) → IsOther item → WroteOne p dropped [] q
      → ForEach (λ (session : C → SessionValue). FarTakesIt session from item f p f q) f
  drop_other_each item other wrote = drop_each item wrote (λ session. other_unwelcome session f from item other)

  -- a segment that isn't a router's
  pub drop_from_each : (s : Segment) → f.routers ≤ from → WroteOne p dropped [] q
      → ForEach (λ (session : C → SessionValue). FarTakesIt session from (items.Seg s) f p f q) f
  drop_from_each s past wrote =
      drop_each (items.Seg s) wrote (λ session. segment_unwelcome session f from s (λ below is. omega (arith, below, past, keeps.routers)))

  -- a segment that isn't for the remote
  pub drop_segment_each : (s : Segment) → (IsFor f.remote s → ⊥) → WroteOne p dropped [] q
      → ForEach (λ (session : C → SessionValue). FarTakesIt session from (items.Seg s) f p f q) f
  drop_segment_each s not wrote = drop_each (items.Seg s) wrote (λ session. segment_unwelcome session f from s (λ below is. not (segment_for f s keeps is)))

  pub drop_word_each : (k : ℕ) → f.routers ≤ from → WroteOne p dropped [] q
      → ForEach (λ (session : C → SessionValue). FarTakesIt session from (items.PointAt k) f p f q) f
  drop_word_each k past wrote = drop_each (items.PointAt k) wrote (λ session. word_unwelcome session f from k (omega (arith, past, keeps.routers)))

  -- an order that isn't the operator's, or says nothing, or has no room
  pub drop_order_each : (step : ℕ) → from ≢ f.routers + f.peerings → WroteOne p dropped [] q
      → ForEach (λ (session : C → SessionValue). FarTakesIt session from (items.SayOrder step) f p f q) f
  drop_order_each step not wrote = drop_each (items.SayOrder step) wrote
      (λ session. order_unwelcome session f from step (λ at bytes is room. not (at ∙ (λ i. sym keeps.routers i + sym keeps.peerings i))))

  says_is : (step : ℕ) (bytes : List ℕ) → slice_get f.known.setup.steps step ≡ Some (SayStep f.peering.0 bytes) → bytes_at f.says step ≡ Some bytes
  says_is step bytes is = keeps.says step ∙ ap (say_by f.peering.0) is
      ∙ (let e : (if f.peering.0 == f.peering.0 then Some bytes else None) ≡ Some bytes =
      ap (λ (b : Bool). if b then Some bytes else None) (let t : (f.peering.0 == f.peering.0) ≡ true = grind (arith, nat_tests) in t) in e)

  pub drop_silent_each : (step : ℕ) → bytes_at f.says step ≡ None → WroteOne p dropped [] q
      → ForEach (λ (session : C → SessionValue). FarTakesIt session from (items.SayOrder step) f p f q) f
  drop_silent_each step none wrote = drop_each (items.SayOrder step) wrote (λ session. order_unwelcome session f from step
      (λ at bytes is room. (let e : None ≡ Some bytes = sym none ∙ says_is step bytes is in absurd (let x : ⊥ = cc in x))))

  pub drop_long_each : (step : ℕ) (bytes : List ℕ) → bytes_at f.says step ≡ Some bytes → (length f.remote.end.stream + length bytes ≤ 2 ^ 20 → ⊥)
      → WroteOne p dropped [] q → ForEach (λ (session : C → SessionValue). FarTakesIt session from (items.SayOrder step) f p f q) f
  drop_long_each step bytes there not wrote = drop_each (items.SayOrder step) wrote (λ session. order_unwelcome session f from step
      (λ at other is room. (let e : Some bytes ≡ Some other = sym there ∙ says_is step other is in
      let same : bytes ≡ other = cc in not (omega (arith, room, ap (λ (xs : List ℕ). length xs) same)))))

  pub segment_each : (s : Segment) (link : LinkValue) → from < f.routers → IsFor f.remote s → WroteOne p (far_code (Take from)) [] q
      → link ≡ put_in f.remoteward f (placed f.remoteward.seq_first f.remoteward.ack_first s)
      → ForEach (λ (session : C → SessionValue). FarTakesIt session from (items.Seg s) f p (let g : Fields = record f { remoteward = link } in g) q)
      (let g : Fields = record f { remoteward = link } in g)
  segment_each s link known fits wrote same = for_each _ _
      (λ session. takes_segment session f (let g : Fields = record f { remoteward = link } in g) p q from s keeps
      (omega (arith, known, keeps.routers)) fits wrote (ap (λ (l : LinkValue). let g : Fields = record f { remoteward = l } in g) same))
      (λ session t. t.keeps)

  -- word that is followed, and word that isn't
  pub followed_each : (k : ℕ) (to : RouterId) → to.0 ≡ from → from < f.routers → f.followed < k → WroteOne p (far_code (Point from)) [] q
      → ForEach (λ (session : C → SessionValue). FarTakesIt session from (items.PointAt k) f p
      (let g : Fields = record f { pointer = to; followed = k } in g) q) (let g : Fields = record f { pointer = to; followed = k } in g)
  followed_each k to at known later wrote = for_each _ _
      (λ session. takes_word session f (let g : Fields = record f { pointer = to; followed = k } in g) p q from k keeps
      (omega (arith, known, keeps.routers)) wrote refl (at ∙ sym (ap (λ (b : Bool). if b then from else f.pointer.0) (lt-ltb f.followed k later)))
      (let e : k ≡ max f.followed k = omega (arith, later) in e))
      (λ session t. t.keeps)

  pub ignored_each : (k : ℕ) → from < f.routers → k ≤ f.followed → WroteOne p (far_code (Point from)) [] q
      → ForEach (λ (session : C → SessionValue). FarTakesIt session from (items.PointAt k) f p f q) f
  ignored_each k known old wrote = for_each _ _
      (λ session. takes_word session f f p q from k keeps (omega (arith, known, keeps.routers)) wrote refl (sym
      (ap (λ (b : Bool). if b then from else f.pointer.0) (le-ltb f.followed k old))) (let e : f.followed ≡ max f.followed k = omega (arith, old) in e))
      (λ session t. t.keeps)

  pub order_each : (step : ℕ) (bytes : List ℕ) (r : RemoteValue) → from ≡ f.routers + f.peerings → bytes_at f.says step ≡ Some bytes
      → length f.remote.end.stream + length bytes ≤ 2 ^ 20 → WroteOne p (far_code (Say step)) [] q
      → r ≡ record f.remote { end = sending bytes f.remote.end }
      → ForEach (λ (session : C → SessionValue). FarTakesIt session from (items.SayOrder step) f p (let g : Fields = record f { remote = r } in g) q)
      (let g : Fields = record f { remote = r } in g)
  order_each step bytes r at there room wrote same = for_each _ _
      (λ session. takes_order session f (let g : Fields = record f { remote = r } in g) p q from step bytes keeps
      (at ∙ (λ i. keeps.routers i + keeps.peerings i)) (step_of (slice_get f.known.setup.steps step) (sym (keeps.says step) ∙ there)) room wrote
      (ap (λ (v : RemoteValue). let g : Fields = record f { remote = v } in g) same))
      (λ session t. t.keeps)
    where
      by_test : (q : ℕ) (xs : List ℕ) (b : Bool) → (q == f.peering.0) ≡ b → (if b then Some xs else None) ≡ Some bytes
          → Some (SayStep q xs) ≡ Some (SayStep f.peering.0 bytes)
      by_test q xs true e h =
          let n : q ≡ f.peering.0 = grind (arith, nat_tests) in let same_bytes : xs ≡ bytes = cc in (λ i. Some (SayStep (n i) (same_bytes i)))
      by_test q xs false e h = absurd (let x : ⊥ = cc in x)

      step_of : (o : Option ScriptStep) → say_by f.peering.0 o ≡ Some bytes → o ≡ Some (SayStep f.peering.0 bytes)
      step_of None h = absurd (let x : ⊥ = cc in x)
      step_of (Some (SayStep q xs)) h = by_test q xs (q == f.peering.0) refl h
      step_of (Some (MoveStep q target)) h = absurd (let x : ⊥ = cc in x)
      step_of (Some (EvacuateStep router)) h = absurd (let x : ⊥ = cc in x)
      step_of (Some SettleStep) h = absurd (let x : ⊥ = cc in x)
