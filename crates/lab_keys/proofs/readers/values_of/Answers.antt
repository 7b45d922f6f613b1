use Rattle.std.proofs.Common.{◌++◌, [], ◌∙◌, sym, ap, map, take, refl, arith}
use Rattle.std.specs.Prelude.{option_map}
use Rattle.std.specs.List.{cons_option, filter_map}
use Rattle.toml.specs.Data.{as_table}
use Rattle.toml.specs.View.{view}
use Rattle.lab_keys.proofs.Walks.{filter_goes_on, map_some}
use Rattle.lab_keys.proofs.readers.values_of.Goals as goal

pub loop-item-preserved : goal.loop-item-preserved
loop-item-preserved g c =
    let value = g.R.TableReader.value_of c.args.reader.now in
    let kept = filter_map as_table (map view (take c.loop-item.item-index c.args.items.now)) in
    c.in_ok-push_some.ensures
    ∙ ap (λ o. c.loop-item.values ++ cons_option o []) c.in_ok-value_of.ensures
    ∙ ap (λ values. values ++ cons_option (option_map value (as_table (view c.item-item.result))) []) c.loop-item.invariant
    ∙ sym (map_some value kept (as_table (view c.item-item.result)))
    ∙ ap (map value) (filter_goes_on as_table view c.args.items.now c.loop-item.item-index c.item-item.result kept (omega arith) c.item-item.is refl)
