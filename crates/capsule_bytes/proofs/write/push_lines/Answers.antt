use Rattle.std.proofs.Common.{take}
use Rattle.std.specs.Prelude.{None}
use Rattle.std.specs.List.{last_or}
use Rattle.capsule_bytes.specs.Capsules.{line_fields}
use Rattle.capsule_bytes.proofs.Written.{right_member, written_turn}
use Rattle.capsule_bytes.proofs.write.push_lines.Goals as goal

pub push_line-requires : goal.push_line-requires
push_line-requires c =
    let x = c.line-item.result in
    let right = right_member line_fields None c.args.lines.now c.loop-line.line-index x c.loop-line-test.true c.line-item.is c.requires.1 in
    (λ before. right.1)

pub loop-line-preserved : goal.loop-line-preserved
loop-line-preserved c =
    let x = c.line-item.result in
    written_turn line_fields c.args.lines.now c.loop-line.line-index x c.loop-line-test.true c.line-item.is _ _ _ c.loop-line.invariant
    (c.in_ok-push_line.ensures (last_or None (take c.loop-line.line-index c.args.lines.now)))
