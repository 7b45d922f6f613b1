use Rattle.std.proofs.Common.{◌≡◌, ◌<◌, ◌+◌, ℕ, List, length, sym, ap, ◌∙◌, subst}
use Rattle.std.specs.Prelude.{All}
use Rattle.std.proofs.lemmas.Result.{IfOk-weaker}
use Rattle.ring_net.specs.declared.entry.JournalEntry.{JournalEntry}
use Rattle.entry_rounds.specs.Rounds.{entry_rounds}
use Rattle.pcap_form.specs.Written.{AreShort, written}
use Rattle.pcap_form.specs.declared.packet.CapturedPacket.{CapturedPacket}
use Rattle.lab_capture.specs.Captures.{AreByRound, IsLabCapture}
use Rattle.lab_capture.specs.Places.{ArePlaces}
use Rattle.lab_capture.specs.Tapping.{AreOfRun}
use Rattle.lab_capture.specs.declared.timed.Timed.{Timed}
use Rattle.lab_capture.proofs.Times.{rounds_end, rounds_many}
use Rattle.lab_capture.proofs.capture.capture_octets.Goals as goal

pub places_of-requires : goal.places_of-requires
places_of-requires c =
    let marks = c.args.lab.now.marks in
    let journal = c.args.lab.now.journal in
    let read : c.deref-3.result.now ≡ entry_rounds marks journal =
    c.deref-3.ensures ∙ (c.in_ok-rounds.ensures ∙ (λ i. entry_rounds (c.deref.ensures i) (c.deref-2.ensures i))) in
    subst (λ (rounds : List ℕ). All (λ round. round < c.len.result + 1) rounds) (sym read)
    (subst (λ (n : ℕ). All (λ round. round < n + 1) (entry_rounds marks journal)) (sym c.len.ensures) (rounds_end marks journal))

pub tapped_packets-requires-clause-rounds : goal.tapped_packets-requires-clause-rounds
tapped_packets-requires-clause-rounds c =
    let marks = c.args.lab.now.marks in
    let journal = c.args.lab.now.journal in
    let read : c.deref-5.result.now ≡ entry_rounds marks journal =
    c.deref-5.ensures ∙ (c.in_ok-rounds.ensures ∙ (λ i. entry_rounds (c.deref.ensures i) (c.deref-2.ensures i))) in
    ap (λ (rounds : List ℕ). length rounds) read
    ∙ (rounds_many marks journal ∙ ap (λ (es : List JournalEntry). length es) (sym c.deref-4.ensures))

pub tapped_packets-requires-clause-places : goal.tapped_packets-requires-clause-places
tapped_packets-requires-clause-places c =
    subst (ArePlaces c.deref-5.result.now) (sym c.deref-6.ensures.value)
    (subst (λ (rounds : List ℕ). ArePlaces rounds c.in_ok-places.places.items) (c.deref-3.ensures ∙ sym c.deref-5.ensures) c.in_ok-places.ensures)

pub write_capture-requires : goal.write_capture-requires
write_capture-requires c = subst AreShort (sym c.deref-7.ensures.value) c.in_ok-packets-2.ensures.short

pub returns : goal.returns
returns c =
    let lab = c.args.lab.now in
    let packets = c.in_ok-packets.packets.items in
    let sorted = c.in_ok-by_round.field-0.items in
    let read : c.deref-5.result.now ≡ entry_rounds lab.marks lab.journal =
    c.deref-5.ensures ∙ (c.in_ok-rounds.ensures ∙ (λ i. entry_rounds (c.deref.ensures i) (c.deref-2.ensures i))) in
    let tapped : AreOfRun lab.input (entry_rounds lab.marks lab.journal) lab.journal packets =
    subst (λ (rounds : List ℕ). AreOfRun lab.input rounds lab.journal packets) read
    (subst (λ (es : List JournalEntry). AreOfRun lab.input c.deref-5.result.now es packets) c.deref-4.ensures c.in_ok-packets.ensures.tapped) in
    IfOk-weaker c.write_capture.result (λ octets. octets ≡ written c.deref-7.result.now) (IsLabCapture lab) (λ octets is. λ events last run are. record {
      packets = sorted;
      by_round = subst (λ (all : List Timed). AreByRound all sorted) (tapped events last run are) c.in_ok-by_round.ensures.order;
      written = is ∙ ap (λ (list : List CapturedPacket). written list) (c.deref-7.ensures.value ∙ c.in_ok-packets-2.ensures.packets);
    }) c.write_capture.ensures.octets
