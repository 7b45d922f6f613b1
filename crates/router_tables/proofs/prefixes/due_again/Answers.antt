use Rattle.std.proofs.Common.{List, ap, subst, ◌∙◌}
use Rattle.std.specs.FinMap as map
use Rattle.bgp_types.specs.Prefixes.{PrefixValue}
use Rattle.bgp_story.specs.Readings.{Routes}
use Rattle.router_tables.specs.Dues.{AddsAll}
use Rattle.router_tables.proofs.PrefixSets.{due_again_is}
use Rattle.router_tables.proofs.prefixes.due_again.Goals as goal

pub returns : goal.returns
returns c = due_again_is c.args.session.now.session.adj_rib_out c.args.rib.now.best c.in_ok-set.set c.add_all.new.set c.in_ok-set.ensures
    (subst (λ (ks : List PrefixValue). AddsAll c.in_ok-set.set ks c.add_all.new.set)
    (c.as_slice.ensures ∙ c.in_ok-prefixes.ensures ∙ ap (λ (t : Routes). map.keys t) c.told.ensures) c.in_ok-add_all.ensures)
