use Rattle.std.proofs.Common.{◌≡◌, ℕ, List, ap, ◌∙◌, subst}
use Rattle.std.specs.Prelude.{count_by}
use Rattle.captured_streams.specs.declared.directed.Directed.{Directed}
use Rattle.captured_streams.specs.declared.flows.Both.{Both}
use Rattle.captured_streams.specs.declared.flows.Stream.{Stream}
use Rattle.captured_streams.specs.Peers.{peers, is_other}
use Rattle.captured_streams.specs.Flows.{AreFlows, none_begun}
use Rattle.captured_streams.specs.Readings.{HasRest, IsHole}
use Rattle.captured_streams.proofs.Whole.{none_of, left_is_hole}
use Rattle.captured_streams.proofs.streams.captured_streams.Goals as goal

pub returns-in-Some-clause-hole : goal.returns-in-Some-clause-hole
returns-in-Some-clause-hole c = λ hole e.
    let same : c.in-Some.hole ≡ hole = cc in
    let known = c.in_ok-peers.peers.list in
    let segments = c.deref-2.result.now in
    let known_is = c.in_ok-peers.ensures.peers ∙ ap peers (c.deref.ensures ∙ c.in_ok-found.ensures.segments) in
    subst (IsHole c.args.home c.args.packets.now) same
    (left_is_hole c.args.home c.args.packets.now known segments known_is (c.deref-2.ensures ∙ c.in_ok-found.ensures.segments) c.in-Some.hole
    c.deref-3.result.now c.in_ok-all.all.flows c.in_ok-all.all.streams.items c.deref-4.result.now c.deref-3.ensures c.deref-4.ensures.value
    c.in_ok-all.ensures.flows c.in-Some.ensures.some)

pub returns-clause-reading : goal.returns-clause-reading
returns-clause-reading c =
    let known = c.in_ok-peers.peers.list in
    let segments_are = c.deref-2.ensures ∙ c.in_ok-found.ensures.segments in
    let known_is = c.in_ok-peers.ensures.peers ∙ ap peers (c.deref.ensures ∙ c.in_ok-found.ensures.segments) in
    let all = c.in_ok-all.all in
    let none = none_of c.first_hole.result ((k : ℕ) (stream : Stream) → ¬ HasRest c.deref-4.result.now k stream) c.in_default.is c.first_hole.ensures.none in
    record {
      end = all.streams.items;
      peers_are = known_is;
      flows = subst (λ (ss : List Directed). AreFlows known (none_begun known) ss all.flows all.streams.items) segments_are c.in_ok-all.ensures.flows;
      whole = subst (λ (bs : List Both). (k : ℕ) (stream : Stream) → ¬ HasRest bs k stream) c.deref-4.ensures.value none;
      fragments = c.in_ok-found.ensures.fragments;
      others = c.in_ok-all.ensures.others ∙ ap (λ (ss : List Directed). count_by (is_other known) ss) segments_are;
    }
