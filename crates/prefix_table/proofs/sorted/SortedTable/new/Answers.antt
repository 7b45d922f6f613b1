use Rattle.std.proofs.Common.{[], ap, ◌∙◌}
use Rattle.std.specs.FinMap as map
use Rattle.bgp_types.specs.Tables.{prefix_cmp}
use Rattle.bgp_types.proofs.TableLaws.{table_len}
use Rattle.prefix_table.proofs.sorted.SortedTable.new.Goals as goal

pub returns : goal.returns
returns g c = ap (map.from_sorted {R = prefix_cmp}) c.new.ensures.items ∙ map.empty_of_len _ (table_len [] tt)
