use Rattle.std.proofs.Common.{◌==◌, not, reverse, take, arith}
use Rattle.std.specs.List.{take_while, prefix_len}
use Rattle.std.proofs.lemmas.List.{length-take, length-reverse}
use Rattle.std.proofs.lemmas.List.Sums.{count_by-le-length}
use Rattle.lab_hints.specs.Hints.{begins_character}
use Rattle.lab_hints.proofs.place.column_of.Goals as goal

pub overflow_add-result : goal.overflow_add-result
overflow_add-result c =
    let bytes = c.args.bytes.now in
    let before = take c.args.at bytes in
    let line = take_while (λ b. not (b == 10)) (reverse before) in
    omega (
      arith,
      c.columns_in.ensures,
      count_by-le-length begins_character line,
      length-take (prefix_len (λ b. not (b == 10)) (reverse before)) (reverse before),
      length-reverse before,
      length-take c.args.at bytes,
    )
