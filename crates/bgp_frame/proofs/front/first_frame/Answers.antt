use Rattle.std.proofs.Common.{◌≡◌, take, drop, Some, arith}
use Rattle.std.proofs.lemmas.Grind.{common_steps}
use Rattle.bgp_types.specs.Header.{frame_at}
use Rattle.bgp_frame.proofs.StreamLaws.{front_is_whole}
use Rattle.bgp_frame.proofs.front.first_frame.Goals as goal

pub returns-clause-whole : goal.returns-clause-whole
unfolding frame_at
returns-clause-whole c =
    let len = c.from-len.result in
    let bytes = c.args.bytes.now in
    let front : frame_at bytes ≡ Some (take len bytes, drop len bytes) = grind (arith, common_steps) in
    front_is_whole bytes (take len bytes) (drop len bytes) front
