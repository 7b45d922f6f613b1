use Rattle.std.proofs.Common.{◌≡◌, Some, None, sym, ◌∙◌, rules, arith}
use Rattle.std.specs.Prelude.{Err}
use Rattle.captured_streams.specs.declared.stop.StreamStop.TheVariants as stops
use Rattle.captured_streams.specs.Peers.{peer_at}
use Rattle.captured_streams.proofs.Bringing.{other_flows, next_flows, others_more, others_stay, beyond_here}
use Rattle.captured_streams.proofs.flows.bring_all.Goals as goal

pub loop-segment-preserved-in_default : goal.loop-segment-preserved-in_default
loop-segment-preserved-in_default c =
    let known = c.args.peers.now.list in
    let segments = c.args.segments.now in
    let i = c.loop-segment.segment-index in
    let s = c.segment-item.result in
    let all = c.loop-segment.all in
    let so_far = c.loop-segment.invariant in
    let none : None ≡ peer_at known s = sym c.in_default.is ∙ c.at.ensures in
    record {
      flows = other_flows known segments i s c.loop-segment-test.true c.segment-item.is all.flows all.streams.items none so_far.flows;
      len = so_far.len;
      others = others_more known segments i s c.loop-segment-test.true c.segment-item.is all.others none so_far.others;
      within = omega (arith, so_far.within);
    }

pub loop-segment-preserved : goal.loop-segment-preserved
loop-segment-preserved c =
    let known = c.args.peers.now.list in
    let segments = c.args.segments.now in
    let i = c.loop-segment.segment-index in
    let s = c.segment-item.result in
    let all = c.loop-segment.all in
    let so_far = c.loop-segment.invariant in
    let k = c.in-Some.peer in
    let is : Some k ≡ peer_at known s = sym c.in-Some.is ∙ c.at.ensures in
    let brings = c.in_ok-take_segment.ensures.brings in
    record {
      flows = next_flows known segments i s c.loop-segment-test.true c.segment-item.is k all.flows c.take_segment.new.flows brings.0
          all.streams.items c.take_segment.new.streams.items is so_far.flows brings.1 brings.2;
      len = c.take_segment.ensures.len ∙ so_far.len;
      others = others_stay known segments i s c.loop-segment-test.true c.segment-item.is all.others k is so_far.others;
      within = omega (arith, so_far.within);
    }

pub returns-in_err-take_segment-clause-beyond : goal.returns-in_err-take_segment-clause-beyond
returns-in_err-take_segment-clause-beyond c = λ hole e.
    let known = c.args.peers.now.list in
    let segments = c.args.segments.now in
    let i = c.loop-segment.segment-index in
    let s = c.segment-item.result in
    let all = c.loop-segment.all in
    let k = c.in-Some.peer in
    let is : Some k ≡ peer_at known s = sym c.in-Some.is ∙ c.at.ensures in
    let was : c.take_segment.result ≡ Err (stops.Hole hole) = search rules in
    beyond_here known segments i s c.loop-segment-test.true c.segment-item.is all.flows all.streams.items k hole c.loop-segment.invariant.flows is
    (c.take_segment.ensures.beyond hole was)
