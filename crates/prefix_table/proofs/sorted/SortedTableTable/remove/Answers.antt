use Rattle.std.proofs.Common.{List, Some, sym, ap, ◌∙◌, subst}
use Rattle.std.specs.Prelude.{T}
use Rattle.std.specs.FinMap as map
use Rattle.bgp_types.specs.Prefixes.{PrefixValue}
use Rattle.bgp_types.specs.Tables.{prefix_cmp}
use Rattle.bgp_types.proofs.TableLaws.{table_get, table_without, rise_without}
use Rattle.prefix_table.specs.Indices.{IsIndexOfPrefix, IsGapForPrefix}
use Rattle.prefix_table.proofs.Indices.{find_at, without_at, find_gap, without_gap}
use Rattle.prefix_table.proofs.sorted.SortedTableTable.remove.Goals as goal

pub invariant_of-self : goal.invariant_of-self
invariant_of-self g c =
    let es = c.self.inside.entries.items in
    let here = subst (λ (xs : List (PrefixValue × g.row.V.Denot)). IsIndexOfPrefix xs c.args.prefix c.in-Ok.at) c.deref.ensures.value c.in-Ok.ensures.found in
    subst (λ (xs : List (PrefixValue × g.row.V.Denot)). T (map.is_sorted prefix_cmp xs))
    (without_at es c.args.prefix c.in-Ok.at here c.remove.result ∙ sym c.remove.ensures.items)
    (rise_without es c.self.invariant c.args.prefix)

pub returns-in-Ok-clause-before : goal.returns-in-Ok-clause-before
returns-in-Ok-clause-before g c =
    let es = c.self.inside.entries.items in
    let here = subst (λ (xs : List (PrefixValue × g.row.V.Denot)). IsIndexOfPrefix xs c.args.prefix c.in-Ok.at) c.deref.ensures.value c.in-Ok.ensures.found in
    ap (λ (e : PrefixValue × g.row.V.Denot). Some e.1) c.remove.ensures.value
    ∙ (sym (find_at es c.args.prefix c.in-Ok.at here c.remove.result)
    ∙ (sym (table_get es c.self.invariant c.args.prefix)
    ∙ ap (λ (m : map.FinMap prefix_cmp g.row.V.Denot). map.get m c.args.prefix) c.self.view_is))

pub returns-in-Ok-clause-removed : goal.returns-in-Ok-clause-removed
returns-in-Ok-clause-removed g c =
    let es = c.self.inside.entries.items in
    let here = subst (λ (xs : List (PrefixValue × g.row.V.Denot)). IsIndexOfPrefix xs c.args.prefix c.in-Ok.at) c.deref.ensures.value c.in-Ok.ensures.found in
    ap (map.from_sorted {R = prefix_cmp}) (c.remove.ensures.items ∙ sym (without_at es c.args.prefix c.in-Ok.at here c.remove.result))
    ∙ (table_without es c.self.invariant c.args.prefix
    ∙ ap (λ (m : map.FinMap prefix_cmp g.row.V.Denot). map.remove m c.args.prefix) c.self.view_is)

pub returns-in-Err-clause-before : goal.returns-in-Err-clause-before
returns-in-Err-clause-before g c =
    let es = c.self.inside.entries.items in
    let gap =
    subst (λ (xs : List (PrefixValue × g.row.V.Denot)). IsGapForPrefix xs c.args.prefix c.in-Err.field-0) c.deref.ensures.value c.in-Err.ensures.absent in
    sym (find_gap es c.args.prefix c.in-Err.field-0 gap)
    ∙ (sym (table_get es c.self.invariant c.args.prefix)
    ∙ ap (λ (m : map.FinMap prefix_cmp g.row.V.Denot). map.get m c.args.prefix) c.self.view_is)

pub returns-in-Err-clause-removed : goal.returns-in-Err-clause-removed
returns-in-Err-clause-removed g c =
    let es = c.self.inside.entries.items in
    let gap =
    subst (λ (xs : List (PrefixValue × g.row.V.Denot)). IsGapForPrefix xs c.args.prefix c.in-Err.field-0) c.deref.ensures.value c.in-Err.ensures.absent in
    sym c.self.view_is
    ∙ (ap (map.from_sorted {R = prefix_cmp}) (sym (without_gap es c.args.prefix c.in-Err.field-0 gap))
    ∙ (table_without es c.self.invariant c.args.prefix
    ∙ ap (λ (m : map.FinMap prefix_cmp g.row.V.Denot). map.remove m c.args.prefix) c.self.view_is))
