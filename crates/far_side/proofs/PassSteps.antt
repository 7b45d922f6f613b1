-- One segment of a link has its turn, and then all of them.
use Rattle.std.proofs.Common.{◌≡◌, ℕ, ◌+◌, ◌<◌, ◌≤◌, List, [], ◌∷◌, ◌++◌, length, Some, None, Bool, true, false, refl, sym, ap, subst, ◌∙◌, arith, inl, inr}
use Rattle.std.specs.Prelude.{slice_get, slice_set, not, if◌then◌else◌, Result, Ok, Err, IfOk, OnOk}
use Rattle.ring_net.specs.declared.post.Post.{Post}
use Rattle.graft_steps.specs.declared.item.Item.{Item}
use Rattle.graft_steps.specs.declared.item.Item.TheVariants as items
use Rattle.tcp_seq.specs.Endpoint.{Endpoint, PlacedSegment, TakesSegment, IsInStreams}
use Rattle.tcp_seq.specs.Placed.{placed}
use Rattle.tcp_seq.specs.declared.segment.Segment.{Segment}
use Rattle.tcp_seq.specs.declared.segment.Way.{Way}
use Rattle.tcp_seq.specs.declared.segment.Way.TheVariants.{Home, Remote}
use Rattle.session_value.specs.Sessions.{SessionValue}
use Rattle.graft_model.specs.Codes.{far_code}
use Rattle.graft_model.specs.Setups.{routers_in}
use Rattle.graft_model.specs.Parts.{FarPart}
use Rattle.graft_model.specs.FarRows.{without, left_by, Passes, Loses}
use Rattle.graft_model.specs.declared.event.FarEvent.{FarEvent}
use Rattle.graft_model.specs.declared.event.FarEvent.TheVariants.{Pass, Reach, Lose}
use Rattle.graft_actors.specs.Actors.{Router, FarSide, Thing, SegmentItem, actor_at}
use Rattle.graft_actors.proofs.Numbers as numbers
use Rattle.graft_actors.specs.Items.{home_first, remote_first, segment_of, segment_thing, placed_for}
use Rattle.graft_actors.specs.Emissions.{Tally}
use Rattle.graft_actors.specs.Notes.{deed_of, WroteOne}
use Rattle.remote_end.specs.Remotes.{RemoteValue}
use Rattle.far_side.specs.Links.{LinkValue, IsOn, act_in, is_gone, older, link_act, link_event, aged, removed}
use Rattle.far_side.specs.Parts.{far_part, own_part, FarSideInvariant, ForEach, link_to, with_link}
use Rattle.far_side.specs.Turns.{DidAsFar}
use Rattle.far_side.specs.Passes.{SendsHome, Hands, HandedTo, link_after, LinkStep, LinkPass}
use Rattle.far_side.specs.declared.fields.Fields.{Fields}
use Rattle.far_side.specs.declared.link.InLink.{InLink}
use Rattle.far_side.specs.declared.link.Act.{Act}
use Rattle.far_side.specs.declared.link.Act.TheVariants.{Stays, Delivered, Copied, Lost}
use Rattle.far_side.proofs.Sessions.{for_each, at_one}
use Rattle.far_side.proofs.Dids.{did_same, did_then, did_one}
use Rattle.far_side.proofs.PassLists.{Passed, passed_none, passed_more, passed_all, index_within}
use Rattle.far_side.proofs.Kept.{all_after, all_at, keeps_home, keeps_remoteward, keeps_remote}

-- ---- the link to one side

linked : (way : Way) (f : Fields) (l : LinkValue) → link_to (with_link f way l) way ≡ l
linked Home f l = refl
linked Remote f l = refl

-- a link that is replaced once more, as is the remote
replaced : (way : Way) (f : Fields) (r s : RemoteValue) (l m : LinkValue)
    → with_link (record (with_link (record f { remote = r }) way l) { remote = s }) way m ≡ with_link (record f { remote = s }) way m
replaced Home f r s l m = refl
replaced Remote f r s l m = refl

aged_part : (way : Way) (f : Fields) (index : ℕ) (x : InLink) → far_part (with_link f way (aged index x (link_to f way))) ≡ far_part f
aged_part Home f index x = refl
aged_part Remote f index x = refl

lost_row : (way : Way) (f : Fields) (index : ℕ) → index < length (link_to f way).segments
    → Loses way index (far_part f) None [] (far_part (with_link f way (removed index (link_to f way))))
lost_row Home f index there = record { there = there; takes = refl; sends = refl; effect = refl }
lost_row Remote f index there = record { there = there; takes = refl; sends = refl; effect = refl }

-- ---- the remote

-- a segment that arrives leaves what was emitted, and at least as much is acknowledged
taken : (old new : Endpoint) (segment : PlacedSegment) → TakesSegment old segment new
    → (new.stream ≡ old.stream) × (new.emitted ≡ old.emitted) × (old.acked ≤ new.acked)
taken old new segment (inl drops) =
    (ap (λ (e : Endpoint). e.stream) drops.stays, ap (λ (e : Endpoint). e.emitted) drops.stays, omega (arith, ap (λ (e : Endpoint). e.acked) drops.stays))
taken old new segment (inr accepts) = (
  ap (λ (e : Endpoint). e.stream) accepts.changed,
  ap (λ (e : Endpoint). e.emitted) accepts.changed,
  omega (arith, ap (λ (e : Endpoint). e.acked) accepts.changed),
)

handed_none : (way : Way) (r : RemoteValue) → HandedTo way r r
handed_none Home r = refl
handed_none Remote r = record { is = refl; stream = refl; emitted = refl; acked = omega arith }

handed_then : (way : Way) (a b c : RemoteValue) → HandedTo way a b → HandedTo way b c → HandedTo way a c
handed_then Home a b c x y = y ∙ x
handed_then Remote a b c x y = record {
  is = y.is ∙ ap (λ (v : RemoteValue). let u : RemoteValue = record v { end = c.end } in u) x.is;
  stream = y.stream ∙ x.stream;
  emitted = y.emitted ∙ x.emitted;
  acked = omega (arith, y.acked, x.acked);
}

handed : {C : Type 0} (way : Way) (l : LinkValue) (index : ℕ) (keep : Bool) (router : ℕ) (r s : RemoteValue) (p q : Post (Item C))
    → Hands way l index keep router r p s q → HandedTo way r s
handed Home l index keep router r s p q hands = hands.1
handed Remote l index keep router r s p q hands =
    let t = taken r.end s.end hands.1.segment hands.1.takes in record { is = hands.1.same; stream = t.0; emitted = t.1; acked = t.2 }

-- ---- the far side stays sound

keeps_handed : (way : Way) (f : Fields) (r : RemoteValue) → HandedTo way f.remote r → FarSideInvariant f → FarSideInvariant (record f { remote = r })
keeps_handed Home f r is keeps = subst (λ (v : RemoteValue). FarSideInvariant (record f { remote = v })) (sym is) keeps
keeps_handed Remote f r same keeps = keeps_remote f r keeps (ap (λ (v : RemoteValue). v.peering) same.is)
    (ap (λ (v : RemoteValue). v.send_first) same.is) (ap (λ (v : RemoteValue). v.receive_first) same.is)

keeps_after : (way : Way) (f : Fields) (index : ℕ) (x : InLink) → slice_get (link_to f way).plans index ≡ Some x → FarSideInvariant f
    → FarSideInvariant (with_link f way (link_after index x (link_to f way)))
keeps_after Home f index x is keeps =
    keeps_home f (link_after index x f.homeward) keeps (record { way = refl; peering = refl; seq_first = refl; ack_first = refl })
    (all_after (λ y. y.pointed.0 < routers_in f.known.setup) index f.homeward.plans x is (λ h. h) keeps.pointed)
keeps_after Remote f index x is keeps =
    keeps_remoteward f (link_after index x f.remoteward) keeps (record { way = refl; peering = refl; seq_first = refl; ack_first = refl })

-- the router that a link to home pointed at exists
pointed_at : (way : Way) (f : Fields) (index : ℕ) (x : InLink) → slice_get (link_to f way).plans index ≡ Some x → FarSideInvariant f → way ≡ Home
    → x.pointed.0 < routers_in f.known.setup
pointed_at way f index x is keeps home =
    all_at (λ y. y.pointed.0 < routers_in f.known.setup) index f.homeward.plans x
    (subst (λ (w : Way). slice_get (link_to f w).plans index ≡ Some x) home is) keeps.pointed

-- ---- a delivery

-- a segment of the far side's own, as an item and in the model
home_segment : (f : Fields) (g : Segment) → FarSideInvariant f → IsOn f.homeward g
    → segment_of f.known.setup g ≡ placed f.homeward.seq_first f.homeward.ack_first g
home_segment f g k on =
    ap (λ w. placed_for w (home_first f.known.setup g.peering.0) (remote_first f.known.setup g.peering.0) g) (on.way ∙ k.homeward.way)
    ∙ ap (λ (p : ℕ). placed (remote_first f.known.setup p) (home_first f.known.setup p) g) (on.peering ∙ k.homeward.peering)
    ∙ ap (λ (n : ℕ). placed n (home_first f.known.setup f.peering.0) g) (sym k.homeward.seq_first)
    ∙ ap (λ (n : ℕ). placed f.homeward.seq_first n g) (sym k.homeward.ack_first)

handed_event : Way → (index : ℕ) → Bool → (router : ℕ) → FarEvent
handed_event Home index keep router = Pass index keep router
handed_event Remote index keep router = Reach index keep

module _ {C : Type 0} (session : C → SessionValue) (f : Fields) (index : ℕ) (p : Post (Item C)) (keeps : FarSideInvariant f) where
  -- it goes to a router
  passes : (g : Fields) (q : Post (Item C)) (keep : Bool) (router : ℕ) (link : LinkValue) → router < routers_in f.known.setup
      → SendsHome f.homeward index keep router p q → g ≡ record f { homeward = link } → link.segments ≡ left_by keep index f.homeward.segments
      → (t : Tally) → DidAsFar session f p t (Pass index keep router ∷ []) g q t
  passes g q keep router link known sends same segments t =
      let seg : Segment = sends.segment in
      let thing : (w : Way) → w ≡ Home → segment_thing w (segment_of f.known.setup seg) ≡ SegmentItem (placed f.homeward.seq_first f.homeward.ack_first seg) =
      λ w h. ap (λ v. segment_thing v (segment_of f.known.setup seg)) h ∙ ap SegmentItem (home_segment f seg keeps sends.own) in
      let at : actor_at f.known.setup router ≡ Some (Router router) = numbers.there f.known.setup (Router router) known in
      let row : Passes f.known.setup index keep router (far_part f) None
      (record { router = router; segment = placed f.homeward.seq_first f.homeward.ack_first seg } ∷ []) (far_part g) =
      record {
        segment = placed f.homeward.seq_first f.homeward.ack_first seg;
        there = sends.is;
        known = known;
        takes = refl;
        sends = refl;
        effect = ap far_part same ∙ ap (λ (gs : List PlacedSegment). let v : FarPart = record (far_part f) { homeward = gs } in v) segments;
      } in
      record {
        setup = ap (λ (h : Fields). h.known.setup) same;
        peering = ap (λ (h : Fields). h.peering) same;
        deeds = deed_of p (far_code (Pass index keep router)) None ((router, items.Seg seg) ∷ []) ∷ [];
        wrote = sends.wrote None;
        none = (refl, tt);
        coded = (record { kind = refl; a = refl; b = refl; c = refl }, tt);
        replay = (
          own_part g,
          record {
            setup = ap (λ (h : Fields). h.known.setup) same;
            name = ap (λ (h : Fields). FarSide h.peering.0) same;
            does = inl (record {
              welcome = tt;
              row = record {
                event = Pass index keep router;
                coded = record { kind = refl; a = refl; b = refl; c = refl };
                took = None;
                gave = record { router = router; segment = placed f.homeward.seq_first f.homeward.ack_first seg } ∷ [];
                holds = row;
                is_taken = refl;
                is_sent = ap (λ (y : Thing). (router, y) ∷ []) (thing seg.way (sends.own.way ∙ keeps.homeward.way));
                there = (known, tt);
              };
              fit = (
                (
                  Router router,
                  at,
                  record {
                    peering = sends.own.peering ∙ keeps.homeward.peering;
                    way = sends.own.way ∙ keeps.homeward.way;
                    len = sends.own.short;
                    placed = subst IsInStreams (sym (home_segment f seg keeps sends.own)) sends.own.in_streams;
                  },
                ),
                tt,
              );
            });
          },
          refl,
        );
        round = (None, record { router = router; segment = placed f.homeward.seq_first f.homeward.ack_first seg } ∷ [], far_part g, row, tt, (refl, refl));
      }

  delivers : (way : Way) (g : Fields) (q : Post (Item C)) (keep : Bool) (router : ℕ) (r : RemoteValue) (l : LinkValue)
      → (way ≡ Home → router < routers_in f.known.setup) → Hands way (link_to f way) index keep router f.remote p r q
      → g ≡ with_link (record f { remote = r }) way l → l.segments ≡ left_by keep index (link_to f way).segments → (t : Tally)
      → DidAsFar session f p t (handed_event way index keep router ∷ []) g q t
  unfolding handed_event
  delivers Home g q keep router r l known hands same segments t = passes g q keep router l (known refl) hands.0
      (same ∙ ap (λ (v : RemoteValue). let h : Fields = record f { remote = v; homeward = l } in h) hands.1) segments t
  delivers Remote g q keep router r l known hands same segments t =
      did_one session f g p q t (Reach index keep) (ap (λ (h : Fields). h.known.setup) same) (ap (λ (h : Fields). h.peering) same) hands.0
      (record {
        segment = hands.1.segment;
        there = hands.1.is;
        end = r.end;
        arrives = hands.1.takes;
        takes = refl;
        sends = refl;
        effect = ap far_part same ∙ ap (λ (gs : List PlacedSegment). let v : FarPart = record (far_part f) { end = r.end; remoteward = gs } in v) segments;
      }) tt

-- ---- one segment has its turn

act_events : Way → (pointer index : ℕ) → InLink → Act → List FarEvent
act_events way pointer index x Stays = []
act_events way pointer index x (Delivered keep) = handed_event way index keep pointer ∷ []
act_events way pointer index x Copied = handed_event way index false x.pointed.0 ∷ []
act_events way pointer index x Lost = Lose way index ∷ []

events_are : (way : Way) (pointer index : ℕ) (x : InLink) (act : Act) → act_events way pointer index x act ≡ link_act way pointer index x act
unfolding act_events handed_event
events_are Home pointer index x Stays = refl
events_are Home pointer index x (Delivered keep) = refl
events_are Home pointer index x Copied = refl
events_are Home pointer index x Lost = refl
events_are Remote pointer index x Stays = refl
events_are Remote pointer index x (Delivered keep) = refl
events_are Remote pointer index x Copied = refl
events_are Remote pointer index x Lost = refl

-- the link after the turn of a segment to which this happens
abbrev after_act : Act → (index : ℕ) → InLink → LinkValue → LinkValue
after_act act index x link = record link {
  segments = if is_gone act then without index link.segments else link.segments;
  plans = if is_gone act then without index link.plans else slice_set link.plans index (older x);
}

left_is : (keep : Bool) (index : ℕ) (gs : List PlacedSegment) → (if not keep then without index gs else gs) ≡ left_by keep index gs
left_is true index gs = refl
left_is false index gs = refl

module _ {C : Type 0} (way : Way) (f g : Fields) (index next : ℕ) (p q : Post (Item C)) (x : InLink)
    (keeps : FarSideInvariant f) (is : slice_get (link_to f way).plans index ≡ Some x) where
  stepped : (r : RemoteValue) (act : Act) → act_in x ≡ act → next ≡ (if is_gone act then index else index + 1) → HandedTo way f.remote r
      → g ≡ with_link (record f { remote = r }) way (after_act act index x (link_to f way))
      → ((session : C → SessionValue) (t : Tally) → DidAsFar session f p t (act_events way f.pointer.0 index x act) g q t)
      → ForEach (λ (session : C → SessionValue). LinkStep session way f index p g next q) g
  stepped r act e next_is to same did = for_each _ _
      (λ session. record {
        plan = x;
        is = is;
        did = λ t. subst (λ (es : List FarEvent). DidAsFar session f p t es g q t)
            (events_are way f.pointer.0 index x act ∙ ap (link_act way f.pointer.0 index x) (sym e)) (did session t);
        next_is = next_is ∙ ap (λ (a : Act). if is_gone a then index else index + 1) (sym e);
        remote = subst (λ (h : Fields). HandedTo way f.remote h.remote) (sym same) to;
        same = subst (λ (h : Fields). h ≡ with_link (record f { remote = h.remote }) way (link_after index x (link_to f way))) (sym after) refl;
        keeps = subst FarSideInvariant (sym after) (keeps_after way (record f { remote = r }) index x is (keeps_handed way f r to keeps));
      })
      (λ session h. h.keeps)
    where
      after : g ≡ with_link (record f { remote = r }) way (link_after index x (link_to f way))
      after = same ∙ ap (λ (a : Act). with_link (record f { remote = r }) way (after_act a index x (link_to f way))) (sym e)

  -- it is lost
  pub lost_each : act_in x ≡ Lost → next ≡ index → index < length (link_to f way).segments → WroteOne p (far_code (Lose way index)) [] q
      → g ≡ with_link f way (removed index (link_to f way))
      → ForEach (λ (session : C → SessionValue). LinkStep session way f index p g next q) g
  unfolding act_events
  lost_each e n there wrote same = stepped f.remote Lost e n (handed_none way f.remote) same
      (λ session t. did_one session f g p q t (Lose way index) (ap (λ (h : Fields). h.known.setup) same) (ap (λ (h : Fields). h.peering) same) wrote
      (subst (λ (h : Fields). Loses way index (far_part f) None [] (far_part h)) (sym same) (lost_row way f index there)) tt)

  -- it is delivered
  pub delivered_each : (r : RemoteValue) (keep : Bool) → act_in x ≡ Delivered keep → next ≡ (if not keep then index else index + 1)
      → Hands way (link_to f way) index keep f.pointer.0 f.remote p r q
      → g ≡ with_link (record f { remote = r }) way (after_act (Delivered keep) index x (link_to f way))
      → ForEach (λ (session : C → SessionValue). LinkStep session way f index p g next q) g
  unfolding act_events
  delivered_each r keep e n hands same = stepped r (Delivered keep) e n (handed way (link_to f way) index keep f.pointer.0 f.remote r p q hands) same
      (λ session. delivers session f index p keeps way g q keep f.pointer.0 r (after_act (Delivered keep) index x (link_to f way))
      (λ home. keeps.pointer) hands same (left_is keep index (link_to f way).segments))

  -- it is delivered, and kept for another turn
  pub again_each : (mid : Fields) → act_in x ≡ Delivered true → next ≡ index + 1
      → Hands way (link_to f way) index true f.pointer.0 f.remote p mid.remote q
      → mid ≡ with_link (record f { remote = mid.remote }) way (link_to f way)
      → ((y : InLink) → slice_get (link_to mid way).plans index ≡ Some y → g ≡ with_link mid way (aged index y (link_to mid way)))
      → ForEach (λ (session : C → SessionValue). LinkStep session way f index p g next q) g
  again_each mid e n hands same kept =
      let seen : link_to mid way ≡ link_to f way = ap (λ (k : Fields). link_to k way) same ∙ linked way (record f { remote = mid.remote }) (link_to f way) in
      delivered_each mid.remote true e n hands
      (kept x (subst (λ (l : LinkValue). slice_get l.plans index ≡ Some x) (sym seen) is) ∙ ap (λ (l : LinkValue). with_link mid way (aged index x l)) seen
      ∙ ap (λ (k : Fields). with_link k way (aged index x (link_to f way))) same
      ∙ replaced way f mid.remote mid.remote (link_to f way) (aged index x (link_to f way)))

  -- a copy goes astray
  pub copied_each : (r : RemoteValue) → act_in x ≡ Copied → next ≡ index → Hands way (link_to f way) index false x.pointed.0 f.remote p r q
      → g ≡ with_link (record f { remote = r }) way (removed index (link_to f way))
      → ForEach (λ (session : C → SessionValue). LinkStep session way f index p g next q) g
  unfolding act_events
  copied_each r e n hands same = stepped r Copied e n (handed way (link_to f way) index false x.pointed.0 f.remote r p q hands) same
      (λ session. delivers session f index p keeps way g q false x.pointed.0 r
      (removed index (link_to f way)) (pointed_at way f index x is keeps) hands same refl)

-- it stays
pub stays_each : {C : Type 0} (way : Way) (f g : Fields) (index next : ℕ) (p : Post (Item C)) (x : InLink) → FarSideInvariant f
    → slice_get (link_to f way).plans index ≡ Some x → act_in x ≡ Stays → next ≡ index + 1
    → ((y : InLink) → slice_get (link_to f way).plans index ≡ Some y → g ≡ with_link f way (aged index y (link_to f way)))
    → ForEach (λ (session : C → SessionValue). LinkStep session way f index p g next p) g
unfolding act_events
stays_each way f g index next p x keeps is e n kept =
    let same : g ≡ with_link f way (aged index x (link_to f way)) = kept x is in
    stepped way f g index next p p x keeps is f.remote Stays e n (handed_none way f.remote) same
    (λ session t. did_same session f g p t (ap (λ (h : Fields). h.known.setup) same)
    (ap (λ (h : Fields). h.peering) same) (ap far_part same ∙ aged_part way f index x))

-- what holds of the value and what holds if there is one
pub if_both : {T E : Type 0} (r : Result T E) (P R : T → Type 0) (Q : Type 0) → ((x : T) → P x → Q → R x) → IfOk r P → OnOk r Q → IfOk r R
if_both (Ok x) P R Q so p q = so x p q
if_both (Err e) P R Q so p q = tt

-- ---- all of them

-- so many of them had their turn
pub record Passing {C : Type 0} (session : C → SessionValue) (way : Way) (f : Fields)
    (p : Post (Item C)) (g : Fields) (q : Post (Item C)) (index i : ℕ) : Type 0 where
  pub events : List FarEvent
  pub did : (t : Tally) → DidAsFar session f p t events g q t
  pub passed : Passed (link_event way f.pointer.0) (link_to f way).plans (link_to g way).plans index i events
  pub link : link_to g way ≡ record (link_to f way) { segments = (link_to g way).segments; plans = (link_to g way).plans }
  pub remote : HandedTo way f.remote g.remote
  pub same : g ≡ with_link (record f { remote = g.remote }) way (link_to g way)
  pub keeps : FarSideInvariant g

unchanged : (way : Way) (f : Fields) → f ≡ with_link (record f { remote = f.remote }) way (link_to f way)
unchanged Home f = refl
unchanged Remote f = refl

module _ {C : Type 0} (session : C → SessionValue) (way : Way) where
  passing_none : (f : Fields) (p : Post (Item C)) → FarSideInvariant f → Passing session way f p f p 0 0
  passing_none f p keeps = record {
    events = [];
    did = λ t. did_same session f f p t refl refl refl;
    passed = passed_none (link_event way f.pointer.0) (link_to f way).plans;
    link = refl;
    remote = handed_none way f.remote;
    same = unchanged way f;
    keeps = keeps;
  }

  passing_more : (f g h : Fields) (p q r : Post (Item C)) (index next i : ℕ) → Passing session way f p g q index i
      → LinkStep session way g index q h next r → Passing session way f p h r next (i + 1)
  passing_more f g h p q r index next i pass step =
      let event : ℕ → InLink → List FarEvent = link_event way f.pointer.0 in
      let pointer : g.pointer.0 ≡ f.pointer.0 = ap (λ (k : Fields). k.pointer.0) pass.same in
      let link : link_to h way ≡ link_after index step.plan (link_to g way) =
      ap (λ (k : Fields). link_to k way) step.same ∙ linked way (record g { remote = h.remote }) (link_after index step.plan (link_to g way)) in
      record {
        events = pass.events ++ event index step.plan;
        did = λ t. did_then session f g h p q r t t t pass.events (event index step.plan) (pass.did t)
            (subst (λ (n : ℕ). DidAsFar session g q t (link_event way n index step.plan) h r t) pointer (step.did t));
        passed = passed_more event (link_to f way).plans (link_to g way).plans
            (link_to h way).plans index next i pass.events step.plan pass.passed step.is (ap (λ (l : LinkValue). l.plans) link) step.next_is;
        link = subst (λ (l : LinkValue). l ≡ record (link_to g way) { segments = l.segments; plans = l.plans }) (sym link) refl
            ∙ ap (λ (l : LinkValue). let m : LinkValue = record l { segments = (link_to h way).segments; plans = (link_to h way).plans } in m) pass.link;
        remote = handed_then way f.remote g.remote h.remote pass.remote step.remote;
        same = step.same ∙ ap (with_link (record g { remote = h.remote }) way) (sym link)
            ∙ ap (λ (k : Fields). with_link (record k { remote = h.remote }) way (link_to h way)) pass.same
            ∙ replaced way f g.remote h.remote (link_to g way) (link_to h way);
        keeps = step.keeps;
      }

  passing_all : (f g : Fields) (p q : Post (Item C)) (index i : ℕ) → Passing session way f p g q index i → length (link_to f way).plans ≤ i
      → LinkPass session way f p g q
  passing_all f g p q index i pass all =
      let o = passed_all (link_event way f.pointer.0) (link_to f way).plans (link_to g way).plans index i pass.events pass.passed all in
      record {
        did = λ t. subst (λ (es : List FarEvent). DidAsFar session f p t es g q t) o.1 (pass.did t);
        plans = o.0;
        link = pass.link;
        remote = pass.remote;
        same = pass.same;
        keeps = pass.keeps;
      }

-- ---- all of them, for every session

abbrev pub PassingEach : {C : Type 0} → Way → Fields → Post (Item C) → Fields → Post (Item C) → ℕ → ℕ → Type 0
PassingEach {C} way f p g q index i = ForEach (λ (session : C → SessionValue). Passing session way f p g q index i) g

pub passing_first : {C : Type 0} (way : Way) (f : Fields) (p : Post (Item C)) → FarSideInvariant f → PassingEach way f p f p 0 0
passing_first way f p keeps = for_each _ _ (λ session. passing_none session way f p keeps) (λ session h. h.keeps)

pub passing_next : {C : Type 0} (way : Way) (f g h : Fields) (p q r : Post (Item C)) (index next i : ℕ) → PassingEach way f p g q index i
    → ForEach (λ (session : C → SessionValue). LinkStep session way g index q h next r) h
    → PassingEach way f p h r next (i + 1)
passing_next way f g h p q r index next i pass step =
    for_each _ _ (λ session. passing_more session way f g h p q r index next i (pass.each session) (step.each session)) (λ session h. h.keeps)

pub passing_last : {C : Type 0} (way : Way) (f g : Fields) (p q : Post (Item C)) (index i : ℕ) → PassingEach way f p g q index i
    → length (link_to f way).plans ≤ i → ForEach (λ (session : C → SessionValue). LinkPass session way f p g q) g
passing_last way f g p q index i pass all = for_each _ _ (λ session. passing_all session way f g p q index i (pass.each session) all) (λ session h. h.keeps)

pub passing_index : {C : Type 0} (way : Way) (f g : Fields) (p q : Post (Item C)) (index i : ℕ) → PassingEach way f p g q index i
    → i < length (link_to f way).plans → index < length (link_to g way).plans
passing_index way f g p q index i pass more =
    let one = at_one _ g pass in index_within (link_event way f.pointer.0) (link_to f way).plans (link_to g way).plans index i one.events one.passed more
