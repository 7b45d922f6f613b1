use Rattle.std.proofs.Common.{◌∙◌, ◌≤◌, List, ℕ, length, Some, option_copied, sym, ap, arith}
use Rattle.lab_capture.proofs.Packets.{with_room, without_peering}
use Rattle.lab_capture.proofs.ends.packet_of.Goals as goal

pub returns-in_default-clause-packet : goal.returns-in_default-clause-packet
returns-in_default-clause-packet c =
    without_peering c.args.input.now c.args.segment.now (sym c.peering_at.ensures ∙ ap option_copied c.in_default.is)

pub returns-clause-packet : goal.returns-clause-packet
returns-clause-packet c =
    let segment = c.args.segment.now in
    let fits : length segment.bytes ≤ 65495 = omega (arith, c.len.ensures) in
    ap (λ (octets : List ℕ). Some octets) c.in_ok-written.ensures.packet
    ∙ with_room c.args.input.now segment c.in-Some.peering.now (sym c.peering_at.ensures ∙ ap option_copied c.in-Some.is) fits
