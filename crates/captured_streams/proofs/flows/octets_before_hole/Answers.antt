use Rattle.std.proofs.Common.{◌≡◌, Some, refl, rules}
use Rattle.captured_streams.proofs.Holes.{has_octets}
use Rattle.captured_streams.proofs.flows.octets_before_hole.Goals as goal

pub returns-clause-some : goal.returns-clause-some
returns-clause-some c =
    let stream = c.in_ok-stream.stream.now in
    let is : c.args.both.now.to_home ≡ Some stream = search rules in
    let has = has_octets stream c.pieces.result.now c.is_empty.result c.pieces.ensures.pieces c.pieces.ensures.runs c.is_empty.ensures c.if-is_empty.false in
    (stream, is, has, refl)
