use Rattle.std.proofs.Common.{◌≡◌, take, drop, ap, arith, length-drop}
use Rattle.std.specs.Prelude.{Some}
use Rattle.std.proofs.lemmas.Grind.{common_steps}
use Rattle.graft_edge.proofs.Pieces.{front_joined}
use Rattle.graft_edge.proofs.source.MemSourceSource.read.Goals as goal

pub returns-clause-took : goal.returns-clause-took
returns-clause-took c =
    let n = c.copy_front-n.result in
    let front : take n c.copy_front-n.new.buf ≡ take n (drop c.self.inside.at c.self.inside.bytes) =
    grind (arith, common_steps, c.copy_front-n.ensures.front, length-drop) in
    let joined = front_joined n c.self.inside.at c.self.inside.bytes c.copy_front-n.new.buf front in
    ap Some (grind (arith, c.self.view_is, joined))
