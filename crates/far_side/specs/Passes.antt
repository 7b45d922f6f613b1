-- The stages of a far side's turn.
use Rattle.std.specs.Prelude.{ℕ, zero, suc, ◌≡◌, ◌⊎◌, ◌<◌, ◌≤◌, ◌+◌, ◌%◌, ◌^◌, nat_lt, if◌then◌else◌, false}
use Rattle.std.specs.Prelude.{List, [], ◌∷◌, ◌++◌, length, Some, slice_get, slice_set, Bool}
use Rattle.ring_net.specs.declared.post.Post.{Post}
use Rattle.graft_steps.specs.declared.item.Item.{Item}
use Rattle.graft_steps.specs.declared.item.Item.TheVariants as items
use Rattle.link_bag.specs.declared.plan.Fate.{Fate}
use Rattle.link_bag.specs.declared.plan.Plan.{Plan}
use Rattle.link_bag.specs.Planned.{fate_in}
use Rattle.tcp_seq.specs.Placed.{placed}
use Rattle.tcp_seq.specs.Endpoint.{Endpoint, PlacedSegment, TakesSegment, next_length, again_length}
use Rattle.tcp_seq.specs.declared.segment.Segment.{Segment}
use Rattle.tcp_seq.specs.declared.segment.Way.{Way}
use Rattle.tcp_seq.specs.declared.segment.Way.TheVariants.{Home, Remote}
use Rattle.session_value.specs.Sessions.{SessionValue}
use Rattle.graft_model.specs.FarRows.{without}
use Rattle.graft_model.specs.declared.event.FarEvent.{FarEvent}
use Rattle.graft_model.specs.declared.event.FarEvent.TheVariants.{Send, Beat, Pass, Reach}
use Rattle.session_value.specs.Cases.{sending}
use Rattle.bgp_types.specs.declared.message.Message.TheVariants.{KeepaliveMsg}
use Rattle.bgp_types.specs.Spelling.{spell}
use Rattle.graft_actors.specs.Emissions.{reach_of, Tally}
use Rattle.remote_end.specs.Remotes.{RemoteValue, SendingInvariant}
use Rattle.far_side.specs.Links.{LinkValue, IsOn, act_in, is_gone, older, next_index, link_event, pass_events, left_in_link, put_now}
use Rattle.graft_actors.specs.Notes.{WroteOne}
use Rattle.far_side.specs.Parts.{FarSideInvariant, link_to, with_link}
use Rattle.far_side.specs.Turns.{DidAsFar}
use Rattle.far_side.specs.declared.link.InLink.{InLink}
use Rattle.far_side.specs.declared.fields.Fields.{Fields}
use Rattle.graft_model.specs.Codes.{far_code}

-- The segment at an index of a link goes to a router: the segment that is sent is that one.
pub record SendsHome {C : Type 0} (link : LinkValue) (index : ℕ) (keep : Bool) (router : ℕ) (before after : Post (Item C)) : Type 0 where
  pub segment : Segment
  pub own : IsOn link segment
  pub is : slice_get link.segments index ≡ Some (placed link.seq_first link.ack_first segment)
  pub wrote : WroteOne before (far_code (Pass index keep router)) ((router, items.Seg segment) ∷ []) after

-- the other fields of a link stay the same
pub record SameLink (old new : LinkValue) : Type 0 where
  pub way : new.way ≡ old.way
  pub peering : new.peering ≡ old.peering
  pub seq_first : new.seq_first ≡ old.seq_first
  pub ack_first : new.ack_first ≡ old.ack_first

-- what arriving segments don't change of a remote: it has emitted as much as before, and at least as much is acknowledged
pub record SameRemote (old new : RemoteValue) : Type 0 where
  pub is : new ≡ record old { end = new.end }
  pub stream : new.end.stream ≡ old.end.stream
  pub emitted : new.end.emitted ≡ old.end.emitted
  pub acked : old.end.acked ≤ new.end.acked

-- The segment at an index of a link arrives at the remote.
pub record Arrives (link : LinkValue) (index : ℕ) (old new : RemoteValue) : Type 0 where
  pub segment : PlacedSegment
  pub is : slice_get link.segments index ≡ Some segment
  pub takes : TakesSegment old.end segment new.end
  pub same : new ≡ record old { end = new.end }

-- The segment at an index of a link is delivered: home to a router, or to the remote.
abbrev pub Hands : {C : Type 0} → Way → LinkValue → (index : ℕ) → (keep : Bool) → (router : ℕ) → RemoteValue → Post (Item C) → RemoteValue
    → Post (Item C) → Type 0
Hands Home link index keep router old before new after = SendsHome link index keep router before after × (new ≡ old)
Hands Remote link index keep router old before new after = WroteOne before (far_code (Reach index keep)) [] after × Arrives link index old new

-- what the turns of a link's segments change of the remote: nothing on the way home
abbrev pub HandedTo : Way → RemoteValue → RemoteValue → Type 0
HandedTo Home old new = new ≡ old
HandedTo Remote old new = SameRemote old new

-- the plans of a link after the turn of the segment at an index, and the whole link
abbrev pub plans_after : (index : ℕ) → InLink → List InLink → List InLink
plans_after index x plans = if is_gone (act_in x) then without index plans else slice_set plans index (older x)

abbrev pub link_after : (index : ℕ) → InLink → LinkValue → LinkValue
link_after index x link = record link {
  segments = if is_gone (act_in x) then without index link.segments else link.segments;
  plans = plans_after index x link.plans;
}

-- The segment at an index of a link has its turn.
pub record LinkStep {C : Type 0} (session : C → SessionValue) (way : Way) (old : Fields) (index : ℕ)
    (before : Post (Item C)) (new : Fields) (next : ℕ) (after : Post (Item C)) : Type 0 where
  pub plan : InLink
  pub is : slice_get (link_to old way).plans index ≡ Some plan
  pub did : (t : Tally) → DidAsFar session old before t (link_event way old.pointer.0 index plan) new after t
  pub next_is : next ≡ next_index index plan
  pub remote : HandedTo way old.remote new.remote
  pub same : new ≡ with_link (record old { remote = new.remote }) way (link_after index plan (link_to old way))
  pub keeps : FarSideInvariant new

-- All segments of a link have their turns.
pub record LinkPass {C : Type 0} (session : C → SessionValue) (way : Way) (old : Fields)
    (before : Post (Item C)) (new : Fields) (after : Post (Item C)) : Type 0 where
  pub did : (t : Tally) → DidAsFar session old before t (pass_events (link_event way old.pointer.0) 0 (link_to old way).plans) new after t
  pub plans : (link_to new way).plans ≡ left_in_link (link_to old way).plans
  pub link : link_to new way ≡ record (link_to old way) { segments = (link_to new way).segments; plans = (link_to new way).plans }
  pub remote : HandedTo way old.remote new.remote
  pub same : new ≡ with_link (record old { remote = new.remote }) way (link_to new way)
  pub keeps : FarSideInvariant new

-- ---- what the remote sends

-- the plan for the segments of a link, by their numbers from 1
abbrev pub fates_in : Plan → LinkValue → ℕ → Fate
fates_in plan link n = fate_in plan (record { 0 = link.peering }) link.way n

-- one segment more was put into a link
abbrev pub put_in : LinkValue → Fields → PlacedSegment → LinkValue
put_in link f segment = record link {
  segments = link.segments ++ segment ∷ [];
  plans = link.plans ++ put_now (fates_in f.plan link (link.put + 1)) f.pointer.0 ∷ [];
  put = link.put + 1;
}

-- the plans of n segments that are put one after another, after `from` others, while the link points at this router
abbrev pub plans_put : (ℕ → Fate) → (router : ℕ) → (from n : ℕ) → List InLink
plans_put fate router from zero = []
plans_put fate router from (suc n) = put_now (fate (from + 1)) router ∷ plans_put fate router (from + 1) n

-- The far side sent segments by these events. As many segments went into the link to home, and the endpoint is this one now.
pub record Sent {C : Type 0} (session : C → SessionValue) (old : Fields) (before : Post (Item C))
    (t : Tally) (events : List FarEvent) (new : Fields) (after : Post (Item C)) (u : Tally) : Type 0 where
  pub did : DidAsFar session old before t events new after u
  pub plans : new.homeward.plans ≡ old.homeward.plans ++ plans_put (fates_in old.plan old.homeward) old.pointer.0 old.homeward.put (length events)
  pub put : new.homeward.put ≡ old.homeward.put + length events
  pub link : new.homeward ≡ record old.homeward { segments = new.homeward.segments; plans = new.homeward.plans; put = new.homeward.put }
  pub remote : new.remote ≡ record old.remote { end = new.remote.end; at_turn = new.remote.at_turn }
  pub same : new ≡ record old { remote = new.remote; homeward = new.homeward }
  pub keeps : FarSideInvariant new

-- the first outstanding slice, if it is to be sent again
abbrev pub again_events : RemoteValue → List FarEvent
again_events r = if nat_lt r.at_turn r.end.acked then [] else (if nat_lt 0 (again_length r.end) then Send r.end.acked (again_length r.end) ∷ [] else [])

-- The new slices up to the end of the stream or of the flight, and the endpoint that has emitted them.
abbrev pub FreshEvents : Endpoint → List FarEvent → Endpoint → Type 0
FreshEvents e [] f = (next_length e ≡ 0) × (f ≡ e)
FreshEvents e (event ∷ events) f =
    (0 < next_length e) × (event ≡ Send e.emitted (next_length e)) × FreshEvents (record e { emitted = e.emitted + next_length e }) events f

abbrev pub answer_events : Endpoint → List FarEvent
answer_events e = if e.owed then Send e.emitted 0 ∷ [] else []

-- A KEEPALIVE of the remote is due in this turn, and there is room for it.
pub record IsDue (f : Fields) : Type 0 where
  pub some : 0 < f.keepalive_interval
  pub multiple : f.turns % f.keepalive_interval ≡ 0
  pub later : f.last_keepalive < f.turns
  pub few : f.keepalives < 27594
  pub room : length f.remote.end.stream + 19 ≤ 2 ^ 20

-- the retransmission turn
pub record SentAgain {C : Type 0} (session : C → SessionValue) (old : Fields) (before : Post (Item C)) (new : Fields) (after : Post (Item C)) : Type 0 where
  pub sent : (t : Tally) → Sent session old before t (again_events old.remote) new after (record t { again = t.again + length (again_events old.remote) })
  pub remote : new.remote ≡ record old.remote { at_turn = old.remote.end.acked }
  pub sound : SendingInvariant old.remote.end

-- all new slices, after which all that may be emitted is emitted
pub record SentFresh {C : Type 0} (session : C → SessionValue) (old : Fields) (before : Post (Item C)) (new : Fields) (after : Post (Item C)) : Type 0 where
  pub events : List FarEvent
  pub sent : (t : Tally) → Sent session old before t events new after t
  pub fresh : FreshEvents old.remote.end events new.remote.end
  pub at_turn : new.remote.at_turn ≡ old.remote.at_turn
  pub all : new.remote.end.emitted ≡ reach_of new.remote.end

-- the owed acknowledgement
pub record SentAnswer {C : Type 0} (session : C → SessionValue) (old : Fields) (before : Post (Item C)) (new : Fields) (after : Post (Item C)) : Type 0 where
  pub sent : (t : Tally)
      → Sent session old before t (answer_events old.remote.end) new after (record t { answers = t.answers + length (answer_events old.remote.end) })
  pub remote : new.remote ≡ record old.remote { end = record old.remote.end { owed = false } }

-- A KEEPALIVE is said if it is due; otherwise nothing happens.
abbrev pub Beats : Fields → List FarEvent → Fields → Type 0
Beats old events new =
    (IsDue old × (events ≡ Beat old.turns ∷ []) × (new ≡ record old {
      remote = record old.remote { end = sending (spell KeepaliveMsg false) old.remote.end };
      keepalives = old.keepalives + 1;
      last_keepalive = old.turns;
    }))
    ⊎ ((¬ IsDue old) × (events ≡ []) × (new ≡ old))

pub record Beaten {C : Type 0} (session : C → SessionValue) (old : Fields) (before : Post (Item C)) (new : Fields) (after : Post (Item C)) : Type 0 where
  pub events : List FarEvent
  pub did : (t : Tally) → DidAsFar session old before t events new after t
  pub keepalives : Beats old events new
  pub keeps : FarSideInvariant new
