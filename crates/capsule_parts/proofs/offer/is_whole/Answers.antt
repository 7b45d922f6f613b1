use Rattle.std.proofs.Common.{Err}
use Rattle.bgp_frame.specs.Next.{IsFrontOf}
use Rattle.capsule_parts.proofs.Frames.{whole_err}
use Rattle.capsule_parts.proofs.offer.is_whole.Goals as goal

pub returns-in-Err : goal.returns-in-Err
returns-in-Err c =
    let b : IsFrontOf (Err c.in-Err._fault) c.args.octets.now = c.in-Err.ensures.front in
    whole_err c.args.octets.now c.in-Err._fault b.1
