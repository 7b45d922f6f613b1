use Rattle.std.proofs.Common.{◌≡◌, ℕ, List, Some, true, false, sym, ◌∙◌, subst}
use Rattle.std.specs.Prelude.{is_some}
use Rattle.std.specs.BTreeMap.{get, Updates}
use Rattle.std.specs.Ordering.{nat_cmp}
use Rattle.captured_streams.specs.declared.directed.Peer.{Peer}
use Rattle.captured_streams.specs.Numbered.{IsNumbered}
use Rattle.captured_streams.specs.Peers.{says}
use Rattle.captured_streams.proofs.Numbering.{peers_more, known_stays, new_joins, none_is, numbered_more}
use Rattle.captured_streams.proofs.peers.Peers.of.Goals as goal

pub loop-segment-preserved-then-contains_key : goal.loop-segment-preserved-then-contains_key
loop-segment-preserved-then-contains_key c =
    let s = c.segment-item.result in
    let list = c.loop-segment.list in
    let numbers = c.loop-segment.numbers in
    let speaks : says s ≡ true = cc (c.says.ensures, c.if-not-says.false) in
    let got : is_some (get nat_cmp numbers s.peer.remote.address) ≡ true =
    cc (c.contains_key.ensures, c.if-contains_key.true) in
    record {
      list = peers_more c.args.segments.now c.loop-segment.segment-index s list list c.loop-segment-test.true c.segment-item.is
          c.loop-segment.invariant.list (known_stays list numbers c.loop-segment.invariant.numbered s speaks got);
      numbered = c.loop-segment.invariant.numbered;
    }

pub loop-segment-preserved : goal.loop-segment-preserved
loop-segment-preserved c =
    let s = c.segment-item.result in
    let list = c.loop-segment.list in
    let numbers = c.loop-segment.numbers in
    let speaks : says s ≡ true = cc (c.says.ensures, c.if-not-says.false) in
    let test : is_some (get nat_cmp numbers s.peer.remote.address) ≡ false =
    cc (c.contains_key.ensures, c.if-contains_key.false) in
    let none = none_is (get nat_cmp numbers s.peer.remote.address) test in
    let updates = subst (λ (n : ℕ). Updates nat_cmp numbers c.insert.new.self s.peer.remote.address (Some n)) c.len.ensures c.in_ok-insert.ensures.updates in
    record {
      list = peers_more c.args.segments.now c.loop-segment.segment-index s list c.push.new.self c.loop-segment-test.true c.segment-item.is
          c.loop-segment.invariant.list (new_joins list numbers c.loop-segment.invariant.numbered s speaks none ∙ sym c.in_ok-push.ensures.ok);
      numbered = subst (λ (l : List Peer). IsNumbered l c.insert.new.self) (sym c.in_ok-push.ensures.ok)
          (numbered_more list numbers c.insert.new.self c.loop-segment.invariant.numbered s.peer none updates);
    }
