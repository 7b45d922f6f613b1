use Rattle.std.proofs.Common.{◌≡◌, [], ◌∷◌, ◌++◌, List, length, map, refl, sym, ap, ◌∙◌, subst, append_assoc, append-nil, arith}
use Rattle.std.specs.Vec.Iter.{into_iter_items}
use Rattle.std.proofs.lemmas.List.{map-append, nil_from_length}
use Rattle.pcap_form.specs.Written.{AreShort}
use Rattle.lab_capture.specs.Captures.{captured}
use Rattle.lab_capture.specs.declared.timed.Timed.{Timed}
use Rattle.lab_capture.proofs.Times.{short_captured}
use Rattle.lab_capture.proofs.timed.captured.Goals as goal
use Rattle.lab_capture.proofs.timed.captured.Goals.{In-None}

pub loop-packet-init : goal.loop-packet-init
loop-packet-init c =
    let gives = c.into_iter-packet-iterator.ensures.into_iter_gives in
    let all = ap (λ (l : List Timed). length l) gives.0 in
    record { whole = refl; many = omega (arith, gives.1, all, c.args.packets.ok.0); times = c.in_ok-list.ensures.items }

pub loop-packet-preserved : goal.loop-packet-preserved
loop-packet-preserved c =
    let at = c.loop-packet in
    let x = c.in-Some.packet in
    let steps : into_iter_items at.packet-iterator ≡ x ∷ into_iter_items c.next.new.self = c.in-Some.ensures.steps.0 in
    record {
      whole = append_assoc at.yielded (x ∷ []) _ ∙ rw (← steps) at.invariant.whole;
      many = (let was = at.invariant.many in let gone = c.in-Some.ensures.steps.1 in let short = ap length steps in omega arith);
      times = c.in_ok-push.ensures.items
          ∙ ((λ i. at.invariant.times i ++ c.captured_packet.ensures i ∷ []) ∙ sym (map-append captured at.yielded (x ∷ [])));
    }

-- all packets have their times
all_of : (c : In-None) → c.loop-packet.list.items ≡ map captured c.args.packets.items
all_of c =
    let at = c.loop-packet in
    let none = c.in-None.ensures.steps in
    let empty : into_iter_items at.packet-iterator ≡ [] = nil_from_length _ (sym at.invariant.many ∙ none.0) in
    let all : at.yielded ≡ c.args.packets.items =
    sym (append-nil at.yielded) ∙ (rw empty at at.invariant.whole ∙ c.into_iter-packet-iterator.ensures.into_iter_gives.0) in
    at.invariant.times ∙ ap (λ (l : List Timed). map captured l) all

pub returns-clause-packets : goal.returns-clause-packets
returns-clause-packets c = all_of (goal.at.returns-clause-packets c).In-None

pub returns-clause-short : goal.returns-clause-short
returns-clause-short c =
    subst AreShort (sym (all_of (goal.at.returns-clause-short c).In-None)) (short_captured c.args.packets.items c.requires)
