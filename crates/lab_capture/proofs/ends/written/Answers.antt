use Rattle.std.proofs.Common.{◌≡◌, ◌∙◌, ap}
use Rattle.std.proofs.lemmas.Result.{IfOk-weaker}
use Rattle.tcp_packets.specs.Writing.{written_packet}
use Rattle.tcp_packets.specs.declared.socket.Socket.{Socket}
use Rattle.graft_actors.specs.Items.{placed_for}
use Rattle.lab_capture.specs.Ends.{packet_to}
use Rattle.lab_capture.proofs.Packets.{numbers_kept}
use Rattle.lab_capture.proofs.ends.written.Goals as goal

pub returns-clause-packet : goal.returns-clause-packet
returns-clause-packet c =
    let peering = c.args.peering.now in
    let segment = c.args.segment.now in
    let bits = c.have_32_bits.ensures in
    IfOk-weaker c.write_packet.result (λ octets. octets ≡ written_packet c.sockets.result.0 c.sockets.result.1 segment)
    (λ octets. octets ≡ packet_to segment.way segment.peering.0 peering (placed_for segment.way peering.home_seq peering.remote_seq segment))
    (λ octets is. is ∙ (ap (λ (ends : Socket × Socket). written_packet ends.0 ends.1 segment) c.sockets.ensures
    ∙ numbers_kept c.a_segment_has_its_offsets.ensures.numbers segment.way peering segment bits.home bits.remote bits.seq bits.ack)) c.write_packet.ensures
