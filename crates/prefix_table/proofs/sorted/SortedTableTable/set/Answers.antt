use Rattle.std.proofs.Common.{List, Some, sym, ap, ◌∙◌, subst}
use Rattle.std.specs.Prelude.{T, IsSome, Option}
use Rattle.std.specs.FinMap as map
use Rattle.bgp_types.specs.Prefixes.{PrefixValue}
use Rattle.bgp_types.specs.Tables.{prefix_cmp}
use Rattle.bgp_types.proofs.TableLaws.{table_get, table_put, rise_put}
use Rattle.prefix_table.specs.Indices.{IsIndexOfPrefix, IsGapForPrefix}
use Rattle.prefix_table.proofs.Indices.{find_at, put_over, find_gap, put_gap}
use Rattle.prefix_table.proofs.sorted.SortedTableTable.set.Goals as goal

pub invariant_of-self : goal.invariant_of-self
invariant_of-self g c =
    let es = c.self.inside.entries.items in
    let here = subst (λ (xs : List (PrefixValue × g.row.V.Denot)). IsIndexOfPrefix xs c.args.prefix c.in-Ok.at) c.deref.ensures.value c.in-Ok.ensures.found in
    subst (λ (xs : List (PrefixValue × g.row.V.Denot)). T (map.is_sorted prefix_cmp xs))
    (put_over es c.args.prefix c.in-Ok.at here c.index_mut.result.now c.replace.new.dest c.index_mut.ensures.value)
    (rise_put es c.self.invariant c.args.prefix c.replace.new.dest)

pub returns-in-Ok-clause-before : goal.returns-in-Ok-clause-before
returns-in-Ok-clause-before g c =
    let es = c.self.inside.entries.items in
    let here = subst (λ (xs : List (PrefixValue × g.row.V.Denot)). IsIndexOfPrefix xs c.args.prefix c.in-Ok.at) c.deref.ensures.value c.in-Ok.ensures.found in
    ap Some (c.replace.ensures.value ∙ ap (λ (e : PrefixValue × g.row.V.Denot). e.1) c.index_mut.ensures.value)
    ∙ (sym (find_at es c.args.prefix c.in-Ok.at here c.index_mut.result.now)
    ∙ (sym (table_get es c.self.invariant c.args.prefix)
    ∙ ap (λ (m : map.FinMap prefix_cmp g.row.V.Denot). map.get m c.args.prefix) c.self.view_is))

pub returns-in-Ok-clause-ok : goal.returns-in-Ok-clause-ok
returns-in-Ok-clause-ok g c =
    let es = c.self.inside.entries.items in
    let here = subst (λ (xs : List (PrefixValue × g.row.V.Denot)). IsIndexOfPrefix xs c.args.prefix c.in-Ok.at) c.deref.ensures.value c.in-Ok.ensures.found in
    ap (map.from_sorted {R = prefix_cmp}) (sym (put_over es c.args.prefix c.in-Ok.at here c.index_mut.result.now c.replace.new.dest c.index_mut.ensures.value))
    ∙ (table_put es c.self.invariant c.args.prefix c.replace.new.dest
    ∙ (ap (λ (m : map.FinMap prefix_cmp g.row.V.Denot). map.insert m c.args.prefix c.replace.new.dest) c.self.view_is
    ∙ ap (map.insert c.args.self.now c.args.prefix) c.replace.ensures.after))

pub invariant_of-self-in-Err : goal.invariant_of-self-in-Err
invariant_of-self-in-Err g c =
    let es = c.self.inside.entries.items in
    let gap = subst (λ (xs : List (PrefixValue × g.row.V.Denot)). IsGapForPrefix xs c.args.prefix c.in-Err.at) c.deref.ensures.value c.in-Err.ensures.absent in
    subst (λ (xs : List (PrefixValue × g.row.V.Denot)). T (map.is_sorted prefix_cmp xs))
    (put_gap es c.args.prefix c.in-Err.at gap c.args.value ∙ sym c.in_default.ensures.items)
    (rise_put es c.self.invariant c.args.prefix c.args.value)

pub returns-in-Err-insert-clause-present : goal.returns-in-Err-insert-clause-present
returns-in-Err-insert-clause-present g c has =
    let es = c.self.inside.entries.items in
    let gap = subst (λ (xs : List (PrefixValue × g.row.V.Denot)). IsGapForPrefix xs c.args.prefix c.in-Err.at) c.deref.ensures.value c.in-Err.ensures.absent in
    let none = sym (find_gap es c.args.prefix c.in-Err.at gap)
    ∙ (sym (table_get es c.self.invariant c.args.prefix)
    ∙ ap (λ (m : map.FinMap prefix_cmp g.row.V.Denot). map.get m c.args.prefix) c.self.view_is) in
    subst (λ (o : Option g.row.V.Denot). IsSome o) (sym none) has

pub returns-in_default-clause-before : goal.returns-in_default-clause-before
returns-in_default-clause-before g c =
    let es = c.self.inside.entries.items in
    let gap = subst (λ (xs : List (PrefixValue × g.row.V.Denot)). IsGapForPrefix xs c.args.prefix c.in-Err.at) c.deref.ensures.value c.in-Err.ensures.absent in
    sym (find_gap es c.args.prefix c.in-Err.at gap)
    ∙ (sym (table_get es c.self.invariant c.args.prefix)
    ∙ ap (λ (m : map.FinMap prefix_cmp g.row.V.Denot). map.get m c.args.prefix) c.self.view_is)

pub returns-in_default-clause-ok : goal.returns-in_default-clause-ok
returns-in_default-clause-ok g c =
    let es = c.self.inside.entries.items in
    let gap = subst (λ (xs : List (PrefixValue × g.row.V.Denot)). IsGapForPrefix xs c.args.prefix c.in-Err.at) c.deref.ensures.value c.in-Err.ensures.absent in
    ap (map.from_sorted {R = prefix_cmp}) (c.in_default.ensures.items ∙ sym (put_gap es c.args.prefix c.in-Err.at gap c.args.value))
    ∙ (table_put es c.self.invariant c.args.prefix c.args.value
    ∙ ap (λ (m : map.FinMap prefix_cmp g.row.V.Denot). map.insert m c.args.prefix c.args.value) c.self.view_is)
