use Rattle.std.proofs.Common.{◌++◌, [], ◌∙◌, ap, arith}
use Rattle.std.specs.List.{cons_option}
use Rattle.toml.specs.View.{view}
use Rattle.lab_keys.specs.Values.{prefix_of_data}
use Rattle.lab_keys.proofs.Walks.{filter_goes_on}
use Rattle.lab_keys.proofs.arrays.prefixes_of.Goals as goal

pub loop-value-preserved : goal.loop-value-preserved
loop-value-preserved c =
    c.in_ok-push_some.ensures ∙ ap (λ o. c.loop-value.prefixes ++ cons_option o []) c.prefix_of.ensures
    ∙ filter_goes_on prefix_of_data view c.args.values.now c.loop-value.value-index c.value-item.result c.loop-value.prefixes
    (omega arith) c.value-item.is c.loop-value.invariant
