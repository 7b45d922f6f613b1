use Rattle.std.proofs.Common.{◌∙◌, ap, map}
use Rattle.toml.specs.Data.{get_member}
use Rattle.toml.specs.View.{view, table_view}
use Rattle.lab_keys.proofs.Walks.{items_seen}
use Rattle.lab_keys.proofs.arrays.items_at.Goals as goal

pub returns : goal.returns
returns c =
    ap (map view) c.as_slice.ensures.value
    ∙ items_seen (view c.in_ok-value_at.field-0.now) c.in_ok-array.array.now.items
    (get_member c.args.key.now (table_view c.args.table.now)) c.in_ok-array.ensures c.in_ok-value_at.ensures
