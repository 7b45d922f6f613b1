use Rattle.std.proofs.Common.{List, Some, sym, ap, ◌∙◌, subst}
use Rattle.std.specs.FinMap as map
use Rattle.bgp_types.specs.Prefixes.{PrefixValue}
use Rattle.bgp_types.specs.Tables.{prefix_cmp}
use Rattle.bgp_types.proofs.TableLaws.{table_get}
use Rattle.prefix_table.specs.Indices.{IsIndexOfPrefix, IsGapForPrefix}
use Rattle.prefix_table.proofs.Indices.{find_at, find_gap}
use Rattle.prefix_table.proofs.sorted.SortedTableTable.get.Goals as goal

pub returns-in-Ok : goal.returns-in-Ok
returns-in-Ok g c =
    let es = c.self.inside.entries.items in
    let here = subst (λ (xs : List (PrefixValue × g.row.V.Denot)). IsIndexOfPrefix xs c.args.prefix c.in-Ok.at) c.deref.ensures.value c.in-Ok.ensures.found in
    ap (λ (e : PrefixValue × g.row.V.Denot). Some e.1) c.index.ensures
    ∙ (sym (find_at es c.args.prefix c.in-Ok.at here c.index.result.now)
    ∙ (sym (table_get es c.self.invariant c.args.prefix)
    ∙ ap (λ (m : map.FinMap prefix_cmp g.row.V.Denot). map.get m c.args.prefix) c.self.view_is))

pub returns-in-Err : goal.returns-in-Err
returns-in-Err g c =
    let es = c.self.inside.entries.items in
    let gap =
    subst (λ (xs : List (PrefixValue × g.row.V.Denot)). IsGapForPrefix xs c.args.prefix c.in-Err.field-0) c.deref.ensures.value c.in-Err.ensures.absent in
    sym (find_gap es c.args.prefix c.in-Err.field-0 gap)
    ∙ (sym (table_get es c.self.invariant c.args.prefix)
    ∙ ap (λ (m : map.FinMap prefix_cmp g.row.V.Denot). map.get m c.args.prefix) c.self.view_is)
