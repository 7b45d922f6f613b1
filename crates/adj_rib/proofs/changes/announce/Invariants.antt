use Rattle.std.proofs.Common.{◌≡◌, true, Option, Some, take}
use Rattle.std.specs.Prelude.{fold}
use Rattle.std.specs.List.{list_any}
use Rattle.bgp_types.specs.declared.attrs.Attrs.{Attrs}
use Rattle.bgp_types.specs.Prefixes.{PrefixValue, same_prefix}
use Rattle.bgp_story.specs.Readings.{Routes, announce as announced}
use Rattle.adj_rib.specs.Changes.{RoutesMoved}
use Rattle.adj_rib.proofs.changes.announce.Given as goal

abbrev pub invariant-loop-prefix : goal.invariant-loop-prefix
invariant-loop-prefix l = record {
  routes : l.routes.contents ≡ fold (announced (Some l.attrs)) l.fn.routes.contents (take l.prefix-index l.prefixes);
  changed : (before : Routes) (to : PrefixValue → Option Attrs)
      → ((p : PrefixValue) → list_any (same_prefix p) l.prefixes ≡ true → to p ≡ Some l.attrs) → RoutesMoved to before l.fn.routes.contents l.fn.changed
      → RoutesMoved to before l.routes.contents l.changed;
}
