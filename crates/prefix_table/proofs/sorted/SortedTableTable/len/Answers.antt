use Rattle.std.proofs.Common.{length, sym, ap, ◌∙◌}
use Rattle.std.specs.FinMap as map
use Rattle.bgp_types.proofs.TableLaws.{table_len}
use Rattle.prefix_table.proofs.sorted.SortedTableTable.len.Goals as goal

pub returns : goal.returns
returns g c = ap length c.as_slice.ensures.value ∙ (sym (table_len c.self.inside.entries.items c.self.invariant) ∙ ap map.len c.self.view_is)
