-- What calls leave of a remote.
use Rattle.std.proofs.Common.{◌≡◌, ℕ, ◌+◌, ◌^◌, ◌<◌, ◌≤◌, List, [], length, take, refl, sym, ap, subst, ◌∙◌, arith, inl, inr}
use Rattle.tcp_seq.specs.Numbers.{number, offset_from}
use Rattle.tcp_seq.specs.Endpoint.{Endpoint, PlacedSegment, TakesSegment, IsInStreams, received_bytes, slice_at}
use Rattle.tcp_seq.specs.Placed.{placed}
use Rattle.tcp_seq.specs.declared.seq.Seq.{Seq}
use Rattle.tcp_seq.specs.declared.segment.Segment.{Segment}
use Rattle.tcp_seq.specs.declared.state.EndState.{EndState}
use Rattle.tcp_end.specs.Arriving.{ChangesByArrival}
use Rattle.tcp_end.specs.Standing.{EndStands, Numbered, Becomes, TakesBy}
use Rattle.tcp_end.specs.Whole.{endpoint_of}
use Rattle.tcp_end.specs.declared.arrival.Arrival.{Arrival}
use Rattle.tcp_end.specs.declared.arrival.Arrival.TheVariants.{Outside, Ahead, Duplicate, Accepted}
use Rattle.tcp_end.proofs.Steps.{stream_is}
use Rattle.tcp_end.proofs.Wholes.{endpoint_is}
use Rattle.remote_end.specs.RemoteInner.{RemoteInvariant}
use Rattle.remote_end.specs.declared.remote.Remote.TheInside.{Inside}

-- an endpoint that a state stands for, of this stream and with nothing read
unread_is : (s : EndState) (e : Endpoint) (said : List ℕ) → EndStands s e → e.stream ≡ said → e.read ≡ 0 → e ≡ endpoint_of said [] s
unread_is s e said stands stream read = endpoint_is s e said [] stands stream (ap (λ (n : ℕ). take n (received_bytes e)) read)

-- the other fields of a state stay
pub record SameOthers (s t : EndState) : Type 0 where
  pub peering : t.peering ≡ s.peering
  pub way : t.way ≡ s.way
  pub send_first : t.send_first ≡ s.send_first
  pub receive_first : t.receive_first ≡ s.receive_first
  pub taken : t.taken ≡ s.taken

-- a remote whose end becomes another state, for which an endpoint of this stream stands
module _ (r : Inside) (s : EndState) (said : List ℕ) (e : Endpoint) (keeps : RemoteInvariant r)
    (same : SameOthers r.end s) (stands : EndStands s e) (stream : e.stream ≡ said) where
  read_none : e.read ≡ 0
  read_none = stands.read ∙ same.taken ∙ keeps.unread

  is : e ≡ endpoint_of said [] s
  is = unread_is s e said stands stream read_none

  pub keeps_then : RemoteInvariant (record r { said = said; end = s })
  keeps_then = record {
    stands = subst (EndStands s) is stands;
    unread = same.taken ∙ keeps.unread;
    way = same.way ∙ keeps.way;
    sends = same.send_first ∙ keeps.sends;
    receives = same.receive_first ∙ keeps.receives;
    send_fits = keeps.send_fits;
    receive_fits = keeps.receive_fits;
  }

-- what a segment leaves
leaves_same : (arrival : Arrival) (s : EndState) (g : Segment) (t : EndState) → ChangesByArrival arrival s g t
    → SameOthers s t × (t.acked_at_turn ≡ s.acked_at_turn)
leaves_same Outside s g t is = (
  record {
    peering = ap (λ (u : EndState). u.peering) is;
    way = ap (λ (u : EndState). u.way) is;
    send_first = ap (λ (u : EndState). u.send_first) is;
    receive_first = ap (λ (u : EndState). u.receive_first) is;
    taken = ap (λ (u : EndState). u.taken) is;
  },
  ap (λ (u : EndState). u.acked_at_turn) is,
)
leaves_same (Ahead ack) s g t is = (
  record {
    peering = ap (λ (u : EndState). u.peering) is;
    way = ap (λ (u : EndState). u.way) is;
    send_first = ap (λ (u : EndState). u.send_first) is;
    receive_first = ap (λ (u : EndState). u.receive_first) is;
    taken = ap (λ (u : EndState). u.taken) is;
  },
  ap (λ (u : EndState). u.acked_at_turn) is,
)
leaves_same Duplicate s g t is = (
  record {
    peering = ap (λ (u : EndState). u.peering) is;
    way = ap (λ (u : EndState). u.way) is;
    send_first = ap (λ (u : EndState). u.send_first) is;
    receive_first = ap (λ (u : EndState). u.receive_first) is;
    taken = ap (λ (u : EndState). u.taken) is;
  },
  ap (λ (u : EndState). u.acked_at_turn) is,
)
leaves_same Accepted s g t takes = let is = takes.changed in (
  record {
    peering = ap (λ (u : EndState). u.peering) is;
    way = ap (λ (u : EndState). u.way) is;
    send_first = ap (λ (u : EndState). u.send_first) is;
    receive_first = ap (λ (u : EndState). u.receive_first) is;
    taken = ap (λ (u : EndState). u.taken) is;
  },
  ap (λ (u : EndState). u.acked_at_turn) is,
)

-- the numbers of a segment are those of its own offsets
number_back : (first offset : ℕ) → first < 2 ^ 32 → offset ≤ 2 ^ 20 + 2 ^ 16 → offset_from (number first offset) first ≡ offset
number_back first offset fits small = omega (arith, fits, small)

placed_is : (f a : ℕ) (g : Segment) (p : PlacedSegment) → f < 2 ^ 32 → a < 2 ^ 32 → Numbered f a g p → IsInStreams p → placed f a g ≡ p
placed_is f a g p fits fits' numbered streams = λ i. record {
  offset = (ap (λ (n : ℕ). offset_from n f) numbered.seq ∙ number_back f p.offset fits (omega (arith, streams.end))) i;
  bytes = numbered.bytes i;
  ack = (ap (λ (n : ℕ). offset_from n a) numbered.ack ∙ number_back a p.ack fits' streams.ack) i;
}

-- what a step emits: a slice of the stream with at most 1,024 bytes, and the stream stays
pub record IsSlice (e : Endpoint) (p : PlacedSegment) (f : Endpoint) : Type 0 where
  pub offset : ℕ
  pub len : ℕ
  pub is : p ≡ slice_at e offset len
  pub within : offset + len ≤ length e.stream
  pub short : len ≤ 1024
  pub stream : f.stream ≡ e.stream

-- a segment that a state emits
pub record OfState (s : EndState) (g : Segment) : Type 0 where
  pub peering : g.peering ≡ s.peering
  pub way : g.way ≡ s.way

stream_fits : (s : EndState) (e : Endpoint) → EndStands s e → length e.stream ≤ 2 ^ 20
stream_fits s e stands = omega (arith, stream_is s e stands, stands.sound.sending.stream)

-- ---- a segment arrives

-- a number is that of its offset
number_on : (first n : ℕ) → first < 2 ^ 32 → n < 2 ^ 32 → n ≡ number first (offset_from n first)
number_on first n fits small = omega (arith, fits, small)

numbered_placed : (f a : ℕ) (g : Segment) → f < 2 ^ 32 → a < 2 ^ 32 → g.seq.0 < 2 ^ 32 → g.ack.0 < 2 ^ 32 → Numbered f a g (placed f a g)
numbered_placed f a g fits fits' seq ack = record { seq = number_on f g.seq.0 fits seq; ack = number_on a g.ack.0 fits' ack; bytes = refl }

taken_stays : (e f : Endpoint) (p : PlacedSegment) → TakesSegment e p f → (f.stream ≡ e.stream) × (f.read ≡ e.read)
taken_stays e f p (inl drops) = (ap (λ (x : Endpoint). x.stream) drops.stays, ap (λ (x : Endpoint). x.read) drops.stays)
taken_stays e f p (inr accepts) = (ap (λ (x : Endpoint). x.stream) accepts.changed, ap (λ (x : Endpoint). x.read) accepts.changed)

-- what a segment that arrives leaves of a remote
module _ (r : Inside) (s : EndState) (arrival : Arrival) (g : Segment) (keeps : RemoteInvariant r)
    (streams : IsInStreams (placed r.receive_first.0 r.send_first.0 g)) (seq : g.seq.0 < 2 ^ 32) (ack : g.ack.0 < 2 ^ 32)
    (leaves : ChangesByArrival arrival r.end g s) (by : TakesBy r.end g s) where
  becomes : Becomes (λ e f. TakesSegment e (placed r.receive_first.0 r.send_first.0 g) f) (endpoint_of r.said [] r.end) s
  becomes = by.becomes (endpoint_of r.said [] r.end) (placed r.receive_first.0 r.send_first.0 g) keeps.stands
      (subst (λ (n : Seq). Numbered n.0 r.end.send_first.0 g (placed r.receive_first.0 r.send_first.0 g)) (sym keeps.receives)
      (subst (λ (n : Seq). Numbered r.receive_first.0 n.0 g (placed r.receive_first.0 r.send_first.0 g)) (sym keeps.sends)
      (numbered_placed r.receive_first.0 r.send_first.0 g keeps.receive_fits keeps.send_fits seq ack))) streams

  others : SameOthers r.end s
  others = (leaves_same arrival r.end g s leaves).0

  pub keeps_arrived : RemoteInvariant (record r { end = s })
  keeps_arrived = keeps_then r s r.said becomes.end keeps others becomes.stands
      (taken_stays (endpoint_of r.said [] r.end) becomes.end (placed r.receive_first.0 r.send_first.0 g) becomes.step).0

  pub takes_arrived : TakesSegment (endpoint_of r.said [] r.end) (placed r.receive_first.0 r.send_first.0 g) (endpoint_of r.said [] s)
  takes_arrived = subst (TakesSegment (endpoint_of r.said [] r.end) (placed r.receive_first.0 r.send_first.0 g))
      (unread_is s becomes.end r.said becomes.stands
      (taken_stays (endpoint_of r.said [] r.end) becomes.end (placed r.receive_first.0 r.send_first.0 g) becomes.step).0
      (becomes.stands.read ∙ others.taken ∙ keeps.unread)) becomes.step
