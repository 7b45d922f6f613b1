use Rattle.std.proofs.Common.{◌==◌, take, arith}
use Rattle.std.proofs.lemmas.List.{length-take}
use Rattle.std.proofs.lemmas.List.Sums.{count_by-le-length}
use Rattle.lab_hints.proofs.place.line_of.Goals as goal

pub overflow_add-result : goal.overflow_add-result
overflow_add-result c =
    let bytes = c.args.bytes.now in
    omega (arith, c.lines_in.ensures, count_by-le-length (λ b. b == 10) (take c.args.at bytes), length-take c.args.at bytes)
