use Rattle.std.proofs.Common.{◌++◌, [], ◌∙◌, ap, map, arith}
use Rattle.std.specs.List.{cons_option}
use Rattle.toml.specs.Data.{as_table}
use Rattle.toml.specs.View.{view, table_view}
use Rattle.lab_keys.proofs.Walks.{filter_goes_on, map_some}
use Rattle.lab_keys.proofs.readers.tables_of.Goals as goal

pub loop-item-preserved : goal.loop-item-preserved
loop-item-preserved c =
    let seen = map (λ t. table_view t.now) c.loop-item.tables in
    ap (map (λ t. table_view t.now)) c.in_ok-push_some.ensures
    ∙ map_some (λ t. table_view t.now) c.loop-item.tables c.as_table.result
    ∙ ap (λ o. seen ++ cons_option o []) c.as_table.ensures
    ∙ filter_goes_on as_table view c.args.items.now c.loop-item.item-index c.item-item.result seen (omega arith) c.item-item.is c.loop-item.invariant
