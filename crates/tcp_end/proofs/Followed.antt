-- Two ends follow a connection of two endpoints.
use Rattle.std.proofs.Common.{◌≡◌, ℕ, ◌+◌, List, [], ◌∷◌, ◌++◌, length, take, drop, Option, None, Some}
use Rattle.std.proofs.Common.{refl, sym, ap, subst, ◌∙◌, arith, ◌⊎◌, inl, inr, append-nil}
use Rattle.std.specs.Prelude.{Contains}
use Rattle.std.specs.Ordering.{nat_cmp}
use Rattle.std.specs.FinMap as map
use Rattle.std.proofs.lemmas.List.{drop-take}
use Rattle.std.proofs.lemmas.List.Elements.{Contains-append_left, Contains-push, Contains-push_cases}
use Rattle.std.proofs.Math.Seq.{take-add}
use Rattle.graft_edge.specs.declared.ids.PeeringId.{PeeringId}
use Rattle.tcp_seq.specs.declared.seq.Seq.{Seq}
use Rattle.tcp_seq.specs.declared.segment.Way.{Way}
use Rattle.tcp_seq.specs.declared.segment.Segment.{Segment}
use Rattle.tcp_seq.specs.declared.state.EndState.{EndState}
use Rattle.tcp_seq.specs.Endpoint.{Endpoint, PlacedSegment, fresh_endpoint, received, received_bytes, SendsBytes, EmitsNext}
use Rattle.tcp_seq.specs.Endpoint.{EmitsAgain, EmitsAnswer, EmitsSlice, EmitsEmpty, ReadsBytes, TakesSegment, IsInStreams}
use Rattle.tcp_seq.specs.Connection.{Side, Connection, fresh_connection, SideSteps, ConnectionStep, ConnectionRun, IsCarried, IsConnection}
use Rattle.tcp_seq.proofs.Received.{bytes_are, some_none}
use Rattle.tcp_seq.proofs.Emitting.{next_is_slice, again_is_slice}
use Rattle.tcp_seq.proofs.Carried.{at_fresh, runs}
use Rattle.tcp_seq.proofs.Flows.{emitted_in_streams}
use Rattle.tcp_end.specs.State.{fresh_end, got}
use Rattle.tcp_end.specs.Standing.{EndStands, Numbered, SameNumbers, Becomes, BecomesBy}
use Rattle.tcp_end.specs.Emitting.{EmitsPart}
use Rattle.tcp_end.specs.Ends.{EndSide, EndPair, fresh_pair, CallsSend, CallsEmit, CallsRead, CallsArrive, EndCalls}
use Rattle.tcp_end.specs.Ends.{answer_segments, PairStep, PairRun, IsNumberedAmong, PairStands, PairBecomes, PairFollows}
use Rattle.tcp_end.proofs.Steps.{stream_is, received_is}

-- a fresh end stands for the fresh endpoint
pub fresh_stands : (way : Way) (peering : PeeringId) (send_first receive_first : Seq)
    → EndStands (fresh_end way peering send_first receive_first) fresh_endpoint
fresh_stands way peering send_first receive_first = record {
  sound = record {
    sending = record { acked = omega arith; flight = omega arith; emitted = omega arith; stream = omega arith; at_turn = omega arith };
    received = omega arith;
    ahead = tt;
  };
  acked = refl;
  emitted = refl;
  read = refl;
  owed = refl;
  acked_within = omega arith;
  waiting = refl;
  read_within = omega arith;
  ready = sym (bytes_are map.empty [] (λ k below. absurd (omega (arith, below))) (map.get-empty nat_cmp 0));
  ahead = λ offset from. map.get-empty nat_cmp offset;
  in_stream = λ offset some. absurd (some_none (map.get fresh_endpoint.arrived offset) some (map.get-empty nat_cmp offset));
}

-- What a side becomes by a call
record SideBecomes (theirs : List PlacedSegment) (mine : Side) (before after : EndSide) : Type 0 where
  side : Side
  step : SideSteps theirs mine side ⊎ (side ≡ mine)
  stands : EndStands after.state side.end
  numbers : SameNumbers before.state after.state
  emitted : (g : Segment) → Contains after.emitted g → IsNumberedAmong before.state.send_first.0 before.state.receive_first.0 g side.emitted

-- every segment of an end is one of the side's
abbrev AreNumbered : EndState → List Segment → List PlacedSegment → Type 0
AreNumbered s gs ps = (g : Segment) → Contains gs g → IsNumberedAmong s.send_first.0 s.receive_first.0 g ps

same_emitted : (s : EndState) (gs gs' : List Segment) (ps : List PlacedSegment) → gs' ≡ gs → AreNumbered s gs ps → AreNumbered s gs' ps
same_emitted s gs gs' ps same all g here = all g (subst (λ (xs : List Segment). Contains xs g) same here)

among_more : (seq_first ack_first : ℕ) (g : Segment) (ps : List PlacedSegment) (p : PlacedSegment) → IsNumberedAmong seq_first ack_first g ps
    → IsNumberedAmong seq_first ack_first g (ps ++ p ∷ [])
among_more seq_first ack_first g ps p is = record { segment = is.segment; there = Contains-append_left ps (p ∷ []) is.segment is.there; numbered = is.numbered }

one_more : (s : EndState) (gs gs' : List Segment) (ps : List PlacedSegment) (g : Segment) (p : PlacedSegment) → gs' ≡ gs ++ g ∷ []
    → Numbered s.send_first.0 s.receive_first.0 g p → AreNumbered s gs ps → AreNumbered s gs' (ps ++ p ∷ [])
one_more s gs gs' ps g p adds numbered all q here = elim (Contains-push_cases gs g q (subst (λ (xs : List Segment). Contains xs q) adds here)) [
  | inl old ↦ among_more s.send_first.0 s.receive_first.0 q ps p (all q old)
  | inr new ↦ record { segment = p; there = Contains-push ps p; numbered = subst (λ (x : Segment). Numbered s.send_first.0 s.receive_first.0 x p) new numbered }
]

side_sends : (theirs : List PlacedSegment) (mine : Side) (before after : EndSide) → EndStands before.state mine.end
    → AreNumbered before.state before.emitted mine.emitted → CallsSend before after → SideBecomes theirs mine before after
side_sends theirs mine before after stands all (bytes, by, same) =
    let becomes : Becomes (λ e e'. SendsBytes e bytes e') mine.end after.state = by.becomes mine.end stands in
    record {
      side = record { end = becomes.end; emitted = mine.emitted };
      step = inl (inl (bytes, becomes.step, refl));
      stands = becomes.stands;
      numbers = by.numbers;
      emitted = same_emitted before.state before.emitted after.emitted mine.emitted same all;
    }

side_reads : (theirs : List PlacedSegment) (mine : Side) (before after : EndSide) → EndStands before.state mine.end
    → AreNumbered before.state before.emitted mine.emitted → CallsRead before after → SideBecomes theirs mine before after
side_reads theirs mine before after stands all (n, by, same) =
    let becomes : Becomes (λ e e'. ReadsBytes e n e') mine.end after.state = by.becomes mine.end stands in
    record {
      side = record { end = becomes.end; emitted = mine.emitted };
      step = inl (inr (inr (inl (n, becomes.step, refl))));
      stands = becomes.stands;
      numbers = by.numbers;
      emitted = same_emitted before.state before.emitted after.emitted mine.emitted same all;
    }

-- a segment is emitted, or none is
abbrev Free : Endpoint → PlacedSegment → Endpoint → Type 0
Free e p e' = EmitsSlice e p e' ⊎ EmitsEmpty e p e'

side_emits_by : (Step : Endpoint → PlacedSegment → Endpoint → Type 0) (theirs : List PlacedSegment)
    (mine : Side) (before after : EndSide) (answer : Option Segment)
    → EndStands before.state mine.end → AreNumbered before.state before.emitted mine.emitted
    → ((p : PlacedSegment) (e : Endpoint) → Step mine.end p e → Free mine.end p e) → SameNumbers before.state after.state
    → BecomesBy Step before.state mine.end answer after.state → after.emitted ≡ before.emitted ++ answer_segments answer
    → SideBecomes theirs mine before after
side_emits_by Step theirs mine before after None stands all free numbers becomes adds = record {
  side = mine;
  step = inr refl;
  stands = becomes;
  numbers = numbers;
  emitted = same_emitted before.state before.emitted after.emitted mine.emitted (adds ∙ append-nil before.emitted) all;
}
side_emits_by Step theirs mine before after (Some g) stands all free numbers becomes adds = record {
  side = record { end = becomes.end; emitted = mine.emitted ++ becomes.segment ∷ [] };
  step = inl (inr (inl (becomes.segment, free becomes.segment becomes.end becomes.step, refl)));
  stands = becomes.stands;
  numbers = numbers;
  emitted = one_more before.state before.emitted after.emitted mine.emitted g becomes.segment adds becomes.numbered all;
}

side_emits : (theirs : List PlacedSegment) (mine : Side) (before after : EndSide) → EndStands before.state mine.end
    → AreNumbered before.state before.emitted mine.emitted → CallsEmit before after → SideBecomes theirs mine before after
side_emits theirs mine before after stands all (answer, inl next, adds) =
    side_emits_by EmitsNext theirs mine before after answer stands all
    (λ p e step. inl (next_is_slice mine.end e p (omega (arith, stands.acked, stands.emitted, stands.sound.sending.acked)) step)) next.numbers
    (next.becomes mine.end stands) adds
side_emits theirs mine before after stands all (answer, inr (inl again), adds) =
    side_emits_by EmitsAgain theirs mine before after answer stands all
    (λ p e step. inl (again_is_slice mine.end e p (omega (arith, stands.emitted, stream_is before.state mine.end stands, stands.sound.sending.emitted))
    (omega (arith, stands.acked, stands.emitted, stands.sound.sending.flight)) step)) again.numbers (again.becomes mine.end stands) adds
side_emits theirs mine before after stands all (answer, inr (inr (inl given)), adds) =
    side_emits_by EmitsAnswer theirs mine before after answer stands all (λ p e step. inr step.answer) given.numbers (given.becomes mine.end stands) adds
side_emits theirs mine before after stands all (answer, inr (inr (inr (from, len, part))), adds) =
    side_emits_by (EmitsPart from len) theirs mine before after answer stands all (λ p e step. step.2) part.numbers (part.becomes mine.end stands) adds

-- what arrives has offsets of the streams
in_streams : (mine theirs : Side) (p : PlacedSegment) → IsCarried mine theirs → IsCarried theirs mine → Contains theirs.emitted p → IsInStreams p
in_streams mine theirs p there back here =
    emitted_in_streams theirs.end mine.end p (record { there = back.flows; back = there.flows }) (back.segments p here)

side_takes : (theirs : Side) (gs : List Segment) (mine : Side) (before after : EndSide) → IsCarried mine theirs → IsCarried theirs mine
    → ((g : Segment) → Contains gs g → IsNumberedAmong before.state.receive_first.0 before.state.send_first.0 g theirs.emitted)
    → EndStands before.state mine.end → AreNumbered before.state before.emitted mine.emitted → CallsArrive gs before after
    → SideBecomes theirs.emitted mine before after
side_takes theirs gs mine before after there back incoming stands all (g, here, by, same) =
    let is : IsNumberedAmong before.state.receive_first.0 before.state.send_first.0 g theirs.emitted = incoming g here in
    let becomes : Becomes (λ e e'. TakesSegment e is.segment e') mine.end after.state =
    by.becomes mine.end is.segment stands is.numbered (in_streams mine theirs is.segment there back is.there) in
    record {
      side = record { end = becomes.end; emitted = mine.emitted };
      step = inl (inr (inr (inr (is.segment, is.there, becomes.step, refl))));
      stands = becomes.stands;
      numbers = by.numbers;
      emitted = same_emitted before.state before.emitted after.emitted mine.emitted same all;
    }

side_stays : (theirs : List PlacedSegment) (mine : Side) (before after : EndSide) → EndStands before.state mine.end
    → AreNumbered before.state before.emitted mine.emitted → after ≡ before → SideBecomes theirs mine before after
side_stays theirs mine before after stands all same = subst (SideBecomes theirs mine before) (sym same) (record {
  side = mine;
  step = inr refl;
  stands = stands;
  numbers = record { send_first = refl; receive_first = refl };
  emitted = all;
})

side_calls : (theirs : Side) (gs : List Segment) (mine : Side) (before after : EndSide) → IsCarried mine theirs → IsCarried theirs mine
    → ((g : Segment) → Contains gs g → IsNumberedAmong before.state.receive_first.0 before.state.send_first.0 g theirs.emitted)
    → EndStands before.state mine.end → AreNumbered before.state before.emitted mine.emitted → EndCalls gs before after
    → SideBecomes theirs.emitted mine before after
side_calls theirs gs mine before after there back incoming stands all (inl sends) = side_sends theirs.emitted mine before after stands all sends
side_calls theirs gs mine before after there back incoming stands all (inr (inl emits)) = side_emits theirs.emitted mine before after stands all emits
side_calls theirs gs mine before after there back incoming stands all (inr (inr (inl reads))) = side_reads theirs.emitted mine before after stands all reads
side_calls theirs gs mine before after there back incoming stands all (inr (inr (inr (inl takes)))) =
    side_takes theirs gs mine before after there back incoming stands all takes
side_calls theirs gs mine before after there back incoming stands all (inr (inr (inr (inr same)))) = side_stays theirs.emitted mine before after stands all same

-- The pair

-- the numbers that one end sends by are those that the other receives by
cross : (mine theirs : EndState) (gs : List Segment) (ps : List PlacedSegment) → mine.receive_first ≡ theirs.send_first
    → theirs.receive_first ≡ mine.send_first → AreNumbered theirs gs ps
    → (g : Segment) → Contains gs g → IsNumberedAmong mine.receive_first.0 mine.send_first.0 g ps
cross mine theirs gs ps there back all g here =
    subst (λ (n : Seq). IsNumberedAmong n.0 mine.send_first.0 g ps) (sym there)
    (subst (λ (n : Seq). IsNumberedAmong theirs.send_first.0 n.0 g ps) back (all g here))

-- an end whose numbers stay
renumbered : (s s' : EndState) (gs : List Segment) (ps : List PlacedSegment) → SameNumbers s s' → AreNumbered s gs ps → AreNumbered s' gs ps
renumbered s s' gs ps same all g here =
    subst (λ (n : Seq). IsNumberedAmong n.0 s'.receive_first.0 g ps) (sym same.send_first)
    (subst (λ (n : Seq). IsNumberedAmong s.send_first.0 n.0 g ps) (sym same.receive_first) (all g here))

near_acts : (before : EndPair) (near : EndSide) (c : Connection) → PairStands before c → IsConnection c
    → EndCalls before.far.emitted before.near near → PairBecomes c (record { near = near; far = before.far })
near_acts before near c stands is calls =
    let acts : SideBecomes c.far.emitted c.near before.near near = side_calls c.far before.far.emitted c.near before.near near is.there is.back
    (cross before.near.state before.far.state before.far.emitted c.far.emitted stands.back stands.there stands.far_emitted) stands.near
    stands.near_emitted calls in
    record {
      connection = record { near = acts.side; far = c.far };
      step = elim acts.step [
        | inl step ↦ inl (inl (step, refl))
        | inr same ↦ inr (ap (λ (side : Side). let d : Connection = record { near = side; far = c.far } in d) same)
      ];
      stands = record {
        near = acts.stands;
        far = stands.far;
        there = stands.there ∙ sym acts.numbers.send_first;
        back = acts.numbers.receive_first ∙ stands.back;
        near_emitted = renumbered before.near.state near.state near.emitted acts.side.emitted acts.numbers acts.emitted;
        far_emitted = stands.far_emitted;
      };
    }

far_acts : (before : EndPair) (far : EndSide) (c : Connection) → PairStands before c → IsConnection c → EndCalls before.near.emitted before.far far
    → PairBecomes c (record { near = before.near; far = far })
far_acts before far c stands is calls =
    let acts : SideBecomes c.near.emitted c.far before.far far = side_calls c.near before.near.emitted c.far before.far far is.back is.there
    (cross before.far.state before.near.state before.near.emitted c.near.emitted stands.there stands.back stands.near_emitted) stands.far
    stands.far_emitted calls in
    record {
      connection = record { near = c.near; far = acts.side };
      step = elim acts.step [
        | inl step ↦ inl (inr (step, refl))
        | inr same ↦ inr (ap (λ (side : Side). let d : Connection = record { near = c.near; far = side } in d) same)
      ];
      stands = record {
        near = stands.near;
        far = acts.stands;
        there = acts.numbers.receive_first ∙ stands.there;
        back = stands.back ∙ sym acts.numbers.send_first;
        near_emitted = stands.near_emitted;
        far_emitted = renumbered before.far.state far.state far.emitted acts.side.emitted acts.numbers acts.emitted;
      };
    }

pub pair_steps : (before after : EndPair) (c : Connection) → PairStands before c → IsConnection c → PairStep before after → PairBecomes c after
pair_steps before after c stands is (inl (near, same)) =
    subst (λ (far : EndSide). PairBecomes c (record { near = after.near; far = far })) (sym same) (near_acts before after.near c stands is near)
pair_steps before after c stands is (inr (far, same)) =
    subst (λ (near : EndSide). PairBecomes c (record { near = near; far = after.far })) (sym same) (far_acts before after.far c stands is far)

-- one step more
run_more : (before : Connection) (states : List Connection) (last next : Connection) → ConnectionRun before states last → ConnectionStep last next
    → ConnectionRun before (states ++ next ∷ []) next
run_more before [] last next same step = (subst (λ (c : Connection). ConnectionStep c next) same step, refl)
run_more before (x ∷ xs) last next (first, run) step = (first, run_more x xs last next run step)

follow : (before after : EndPair) → PairFollows before → PairStep before after → PairFollows after
follow before after follows step =
    let becomes : PairBecomes follows.connection after = pair_steps before after follows.connection follows.stands
    (runs fresh_connection follows.states follows.connection at_fresh follows.run) step in
    elim becomes.step [
      | inl makes ↦ record {
        states = follows.states ++ becomes.connection ∷ [];
        connection = becomes.connection;
        run = run_more fresh_connection follows.states follows.connection becomes.connection follows.run makes;
        stands = becomes.stands;
      }
      | inr same ↦ record {
        states = follows.states;
        connection = follows.connection;
        run = follows.run;
        stands = subst (PairStands after) same becomes.stands;
      }
    ]

follow_all : (before : EndPair) (pairs : List EndPair) (last : EndPair) → PairFollows before → PairRun before pairs last → PairFollows last
follow_all before [] last follows same = subst PairFollows (sym same) follows
follow_all before (next ∷ rest) last follows (step, run) = follow_all next rest last (follow before next follows step) run

no_segment : (s : EndState) (ps : List PlacedSegment) → AreNumbered s [] ps
no_segment s ps g (i, below, is) = absurd (omega (arith, below))

pub pair_runs : (peering : PeeringId) (near_way far_way : Way) (near_first far_first : Seq) (pairs : List EndPair) (last : EndPair)
    → PairRun (fresh_pair peering near_way far_way near_first far_first) pairs last → PairFollows last
pair_runs peering near_way far_way near_first far_first pairs last run =
    follow_all (fresh_pair peering near_way far_way near_first far_first) pairs last (record {
      states = [];
      connection = fresh_connection;
      run = refl;
      stands = record {
        near = fresh_stands near_way peering near_first far_first;
        far = fresh_stands far_way peering far_first near_first;
        there = refl;
        back = refl;
        near_emitted = no_segment (fresh_end near_way peering near_first far_first) [];
        far_emitted = no_segment (fresh_end far_way peering far_first near_first) [];
      };
    }) run

-- what was read, and what can be
first_bytes : (s : EndState) (e : Endpoint) (stream : List ℕ) → EndStands s e → received_bytes e ≡ take (received e) stream
    → take s.taken stream ++ s.ready ≡ take (got s) stream
first_bytes s e stream stands is =
    let all : received e ≡ s.taken + length s.ready = received_is s e stands in
    let rest : s.ready ≡ take (length s.ready) (drop s.taken stream) =
    stands.ready ∙ ap (λ (n : ℕ). drop n (received_bytes e)) stands.read ∙ ap (drop s.taken) (is ∙ ap (λ (n : ℕ). take n stream) all)
    ∙ drop-take s.taken (length s.ready) stream in
    ap (λ (xs : List ℕ). take s.taken stream ++ xs) rest ∙ sym (take-add s.taken (length s.ready) stream)

pub first_there : (pair : EndPair) (c : Connection) → PairStands pair c → IsConnection c
    → take pair.far.state.taken c.near.end.stream ++ pair.far.state.ready ≡ take (got pair.far.state) c.near.end.stream
first_there pair c stands is = first_bytes pair.far.state c.far.end c.near.end.stream stands.far is.there.flows.bytes

pub first_back : (pair : EndPair) (c : Connection) → PairStands pair c → IsConnection c
    → take pair.near.state.taken c.far.end.stream ++ pair.near.state.ready ≡ take (got pair.near.state) c.far.end.stream
first_back pair c stands is = first_bytes pair.near.state c.near.end c.far.end.stream stands.near is.back.flows.bytes
