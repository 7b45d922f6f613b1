use Rattle.std.proofs.Common.{take}
use Rattle.std.specs.Prelude.{None}
use Rattle.std.specs.List.{last_or}
use Rattle.capsule_bytes.specs.Capsules.{change_fields}
use Rattle.capsule_bytes.proofs.Written.{right_member, written_turn}
use Rattle.capsule_bytes.proofs.write.push_changes.Goals as goal

pub push_change-requires : goal.push_change-requires
push_change-requires c =
    let x = c.change-item.result in
    let right = right_member change_fields None c.args.changes.now c.loop-change.change-index x c.loop-change-test.true c.change-item.is c.requires.1 in
    right.1.1.1.1

pub loop-change-preserved : goal.loop-change-preserved
loop-change-preserved c =
    let x = c.change-item.result in
    written_turn change_fields c.args.changes.now c.loop-change.change-index x c.loop-change-test.true c.change-item.is _ _ _ c.loop-change.invariant
    (c.in_ok-push_change.ensures (last_or None (take c.loop-change.change-index c.args.changes.now)))
