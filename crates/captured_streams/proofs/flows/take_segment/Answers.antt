use Rattle.std.proofs.Common.{◌≡◌, ℕ, [], ◌∷◌, length, refl, sym, ap, subst}
use Rattle.std.proofs.lemmas.List.{append-nil}
use Rattle.std.proofs.lemmas.Option.{slice_get_read}
use Rattle.captured_streams.specs.declared.streams.Flow.{Flow}
use Rattle.captured_streams.specs.declared.stop.Hole.{Hole}
use Rattle.captured_streams.specs.Flows.{one_way, stream_of}
use Rattle.captured_streams.specs.Steps.{IsStep, IsBeyondAt}
use Rattle.captured_streams.proofs.Flowing.{step_nothing, step_brings, step_beyond}
use Rattle.captured_streams.proofs.flows.take_segment.Goals as goal

pub returns-in-Nothing-clause-brings : goal.returns-in-Nothing-clause-brings
returns-in-Nothing-clause-brings c =
    let s = c.args.segment.now in
    let all = c.args.streams.now.items in
    let old = c.index_mut.result.now in
    let new = c.advance_one.new.both in
    let there = slice_get_read all (length all) c.args.peer old refl c.requires.known c.index_mut.ensures.value in
    let step = subst (IsStep s.way (one_way s.way old) s.segment (one_way s.way new)) c.in-Nothing.is c.in_ok-advance_one.ensures.step in
    ([], sym (append-nil c.args.flows.now), step_nothing all s c.args.peer old new there c.advance_one.ensures.rest step)

pub returns-in_ok-push-in-Brings-clause-brings : goal.returns-in_ok-push-in-Brings-clause-brings
returns-in_ok-push-in-Brings-clause-brings c =
    let s = c.args.segment.now in
    let all = c.args.streams.now.items in
    let old = c.index_mut.result.now in
    let new = c.advance_one.new.both in
    let there = slice_get_read all (length all) c.args.peer old refl c.requires.known c.index_mut.ensures.value in
    let step = subst (IsStep s.way (one_way s.way old) s.segment (one_way s.way new)) c.in-Brings.is c.in_ok-advance_one.ensures.step in
    let flow : Flow = record { peer = c.args.peer; way = s.way; octets = c.in-Brings.octets } in (
      flow ∷ [],
      c.in_ok-push-in-Brings.ensures.ok,
      step_brings all s c.args.peer old new there c.advance_one.ensures.rest c.in-Brings.octets step,
    )

pub returns-in-Beyond-clause-beyond : goal.returns-in-Beyond-clause-beyond
returns-in-Beyond-clause-beyond c = λ hole e.
    let s = c.args.segment.now in
    let all = c.args.streams.now.items in
    let old = c.index_mut.result.now in
    let new = c.advance_one.new.both in
    let there = slice_get_read all (length all) c.args.peer old refl c.requires.known c.index_mut.ensures.value in
    let step = subst (IsStep s.way (one_way s.way old) s.segment (one_way s.way new)) c.in-Beyond.is c.in_ok-advance_one.ensures.step in
    let here : Hole = record { remote = s.peer.remote; octet = c.in-Beyond.octet } in
    let is : here ≡ hole = cc in (
      sym (ap (λ (h : Hole). h.remote) is),
      subst (λ (n : ℕ). IsBeyondAt s.way (stream_of all c.args.peer s.way) s.segment n) (ap (λ (h : Hole). h.octet) is)
          (step_beyond all s c.args.peer old new there c.advance_one.ensures.rest c.in-Beyond.octet step),
    )
