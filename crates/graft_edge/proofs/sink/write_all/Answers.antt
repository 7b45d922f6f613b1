use Rattle.std.proofs.Common.{take, drop, arith, length-drop}
use Rattle.std.proofs.lemmas.Grind.{common_steps}
use Rattle.graft_edge.specs.Outside.{Appended}
use Rattle.graft_edge.proofs.Pieces.{Appended-take}
use Rattle.graft_edge.proofs.sink.write_all.Goals as goal

pub loop-at-preserved : goal.loop-at-preserved
loop-at-preserved g c =
    let n = c.in_ok-at.field-0 in
    let rest = drop c.loop-at.at c.args.bytes.now in
    let piece : Appended (g.K.Sink.written c.loop-at.sink) (g.K.Sink.written c.write.new.self) (take n rest) =
    grind (arith, common_steps, c.in_ok-at.ensures.appended, c.in_ok-at.ensures.within, length-drop) in
    record {
      steady = omega (arith, c.in_ok-at.ensures.steady, c.loop-at.invariant.steady);
      within = grind (arith, common_steps, c.in_ok-at.ensures.within, length-drop);
      appended = Appended-take _ _ _ _ _ _ c.loop-at.invariant.appended piece;
    }
