use Rattle.std.proofs.Common.{◌++◌, [], ◌∙◌, ap, arith}
use Rattle.std.specs.List.{cons_option}
use Rattle.toml.specs.View.{view}
use Rattle.lab_keys.specs.Values.{number_in}
use Rattle.lab_keys.proofs.Walks.{filter_goes_on}
use Rattle.lab_keys.proofs.arrays.numbers_of.Goals as goal

pub loop-value-preserved : goal.loop-value-preserved
loop-value-preserved c =
    c.in_ok-push_some.ensures ∙ ap (λ o. c.loop-value.numbers ++ cons_option o []) c.number_in.ensures
    ∙ filter_goes_on (number_in 32) view c.args.values.now c.loop-value.value-index c.value-item.result c.loop-value.numbers
    (omega arith) c.value-item.is c.loop-value.invariant
