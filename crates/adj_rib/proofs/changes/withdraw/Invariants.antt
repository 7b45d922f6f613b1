use Rattle.std.proofs.Common.{◌≡◌, Option, take}
use Rattle.std.specs.Prelude.{fold, is_some}
use Rattle.std.specs.List.{list_any}
use Rattle.bgp_types.specs.declared.attrs.Attrs.{Attrs}
use Rattle.bgp_types.specs.Prefixes.{PrefixValue, same_prefix}
use Rattle.bgp_story.specs.Readings.{Routes}
use Rattle.adj_rib.specs.Changes.{RoutesMoved, withdraw_unless}
use Rattle.adj_rib.proofs.changes.withdraw.Given as goal

abbrev pub invariant-loop-prefix : goal.invariant-loop-prefix
invariant-loop-prefix l = record {
  routes : l.routes.contents ≡ fold (withdraw_unless l.announced) l.fn.routes.contents (take l.prefix-index l.prefixes);
  changed : (before : Routes) (to : PrefixValue → Option Attrs) → ((p : PrefixValue) → list_any (same_prefix p) l.announced ≡ is_some (to p))
      → RoutesMoved to before l.fn.routes.contents l.fn.changed → RoutesMoved to before l.routes.contents l.changed;
}
