use Rattle.std.proofs.Common.{List, [], ◌∷◌, ℕ, ◌+◌, ◌++◌, ◌≡◌, take, sym, ap, ◌∙◌, subst}
use Rattle.std.specs.List.{flat_map}
use Rattle.std.proofs.lemmas.List.{take_all, take_more, flat_map_more}
use Rattle.pcap_form.specs.declared.packet.CapturedPacket.{CapturedPacket}
use Rattle.pcap_form.specs.Captures.{IsCapture}
use Rattle.pcap_form.specs.Written.{written_header, written_record, written, read_back}
use Rattle.pcap_form.proofs.WrittenParts.{short_at, reads_back}
use Rattle.pcap_form.proofs.write.write_capture.Goals as goal

pub push_record-requires : goal.push_record-requires
push_record-requires c = short_at c.args.packets.now c.loop-packet.packet-index c.packet-item.result c.loop-packet-test.true c.packet-item.is c.requires

pub loop-packet-preserved : goal.loop-packet-preserved
loop-packet-preserved c =
    let ps = c.args.packets.now in
    let i = c.loop-packet.packet-index in
    let p = c.packet-item.result in
    let more : take (i + 1) ps ≡ take i ps ++ p ∷ [] =
    take_more ps i p c.loop-packet-test.true ∙ ap (λ (q : CapturedPacket). take i ps ++ q ∷ []) (sym c.packet-item.is) in
    c.in_ok-push_record.ensures ∙ ap (λ (octets : List ℕ). octets ++ written_record p) c.loop-packet.invariant
    ∙ flat_map_more written_record written_header (take i ps) p
    ∙ ap (λ (qs : List CapturedPacket). written_header ++ flat_map written_record qs) (sym more)

pub returns-clause-back : goal.returns-clause-back
returns-clause-back c =
    let ps = c.args.packets.now in
    let all : c.loop-packet.octets ≡ written ps =
    c.loop-packet.invariant
    ∙ ap (λ (qs : List CapturedPacket). written_header ++ flat_map written_record qs) (take_all c.loop-packet.packet-index ps c.loop-packet-test.false) in
    subst (λ (octets : List ℕ). IsCapture octets (read_back ps)) (sym all) (reads_back ps c.requires)
