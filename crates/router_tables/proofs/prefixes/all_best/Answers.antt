use Rattle.std.proofs.Common.{List, subst, ◌∙◌}
use Rattle.std.specs.FinMap as map
use Rattle.bgp_types.specs.Prefixes.{PrefixValue}
use Rattle.session_value.specs.Sets.{Prefixes}
use Rattle.router_tables.specs.Dues.{AddsAll}
use Rattle.router_tables.proofs.PrefixSets.{due_best}
use Rattle.router_tables.proofs.prefixes.all_best.Goals as goal

pub returns : goal.returns
returns c = due_best c.args.rib.now.best c.add_all.new.set
    (subst (λ (ks : List PrefixValue). AddsAll map.empty ks c.add_all.new.set) (c.as_slice.ensures ∙ c.in_ok-best_prefixes.ensures)
    (subst (λ (m : Prefixes). AddsAll m c.as_slice.result.now c.add_all.new.set) c.new-set.ensures c.in_ok-add_all.ensures))
