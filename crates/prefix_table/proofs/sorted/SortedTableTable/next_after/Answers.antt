use Rattle.std.proofs.Common.{◌+◌, List, Some, None, drop, sym, ap, ◌∙◌, subst}
use Rattle.std.specs.FinMap as map
use Rattle.std.proofs.lemmas.List.{take_rest}
use Rattle.bgp_types.specs.Prefixes.{PrefixValue}
use Rattle.bgp_types.specs.Tables.{first_above}
use Rattle.bgp_types.proofs.TableLaws.{table_keys}
use Rattle.prefix_table.specs.Indices.{IsIndexOfPrefix, IsGapForPrefix, first_prefix}
use Rattle.prefix_table.proofs.Indices.{first_of_all, first_in_gap, first_past}
use Rattle.prefix_table.proofs.sorted.SortedTableTable.next_after.Goals as goal

pub returns-in_default : goal.returns-in_default
returns-in_default g c =
    let es = c.self.inside.entries.items in
    c.first.ensures
    ∙ (ap first_prefix c.deref.ensures.value
    ∙ (first_of_all es
    ∙ (ap (first_above None) (sym (table_keys es c.self.invariant) ∙ ap map.keys c.self.view_is)
    ∙ ap (λ p. first_above p (map.keys c.args.self.now)) (sym c.in_default.is))))

pub returns-in-Ok : goal.returns-in-Ok
returns-in-Ok g c =
    let es = c.self.inside.entries.items in
    let p = c.in-Some.prefix in
    let at = c.in-Ok.at in
    let here = subst (λ (xs : List (PrefixValue × g.row.V.Denot)). IsIndexOfPrefix xs p at) c.deref-2.ensures.value c.in-Ok.ensures.found in
    c.first-in-Ok.ensures
    ∙ (ap first_prefix (take_rest c.deref-in-Ok.result.now (at + 1))
    ∙ (ap (λ (xs : List (PrefixValue × g.row.V.Denot)). first_prefix (drop (at + 1) xs)) c.deref-in-Ok.ensures.value
    ∙ (sym (first_past es p at here)
    ∙ (ap (first_above (Some p)) (sym (table_keys es c.self.invariant) ∙ ap map.keys c.self.view_is)
    ∙ ap (λ q. first_above q (map.keys c.args.self.now)) (sym c.in-Some.is)))))

pub returns-in-Err : goal.returns-in-Err
returns-in-Err g c =
    let es = c.self.inside.entries.items in
    let p = c.in-Some.prefix in
    let at = c.in-Err.at in
    let gap = subst (λ (xs : List (PrefixValue × g.row.V.Denot)). IsGapForPrefix xs p at) c.deref-2.ensures.value c.in-Err.ensures.absent in
    c.first-in-Err.ensures
    ∙ (ap first_prefix (take_rest c.deref-in-Err.result.now at)
    ∙ (ap (λ (xs : List (PrefixValue × g.row.V.Denot)). first_prefix (drop at xs)) c.deref-in-Err.ensures.value
    ∙ (sym (first_in_gap es p at gap)
    ∙ (ap (first_above (Some p)) (sym (table_keys es c.self.invariant) ∙ ap map.keys c.self.view_is)
    ∙ ap (λ q. first_above q (map.keys c.args.self.now)) (sym c.in-Some.is)))))
