use Rattle.std.proofs.Common.{arith}
use Rattle.std.proofs.lemmas.Result.{on_ok_weaker}
use Rattle.far_side.proofs.Takings.{drop_from_each, drop_segment_each, segment_each}
use Rattle.far_side.proofs.take.take_segment.Goals as goal

pub returns-then-from-far-clause-took : goal.returns-then-from-far-clause-took
returns-then-from-far-clause-took g c = on_ok_weaker c.note_dropped.result (drop_from_each c.args.far.now c.args.post.now
    c.note_dropped.new.post c.args.from c.requires c.args.segment (omega (arith, c.if-from-far.true))) c.note_dropped.ensures.ok

pub returns-then-not-is_for-clause-took : goal.returns-then-not-is_for-clause-took
returns-then-not-is_for-clause-took g c = on_ok_weaker c.note_dropped-then-not-is_for.result (drop_segment_each c.args.far.now c.args.post.now
    c.note_dropped-then-not-is_for.new.post c.args.from c.requires c.args.segment c.if-not-is_for.ensures) c.note_dropped-then-not-is_for.ensures.ok

pub returns-clause-took : goal.returns-clause-took
returns-clause-took g c = on_ok_weaker c.put.result
    (λ same. segment_each c.args.far.now c.args.post.now c.note_far.new.post c.args.from c.requires c.args.segment c.put.new.self
    (omega (arith, c.if-from-far.false)) c.if-not-is_for.ensures c.in_ok-note_far.ensures.ok same) c.put.ensures
