use Rattle.std.proofs.Common.{◌<◌, length, arith}
use Rattle.route_policy.proofs.Tells.{partial_more, partial_length}
use Rattle.route_policy.proofs.tell.all_partial.Goals as goal

pub loop-raw-preserved : goal.loop-raw-preserved
loop-raw-preserved c =
    let within : c.loop-raw.raw-index < length c.args.unknown = omega (
      arith,
      c.loop-raw-test.true,
      c.loop-raw.auto.raw-items,
      partial_length c.args.unknown c.loop-raw.raw-items c.loop-raw.raw-index c.loop-raw.invariant,
    ) in
    partial_more c.args.unknown c.loop-raw.raw-items c.loop-raw.raw-index c.raw-item.result within c.loop-raw.invariant c.raw-item.is
