use Rattle.std.proofs.Common.{◌≡◌, [], take}
use Rattle.std.specs.HashSet.{contains}
use Rattle.std.specs.List.{list_any}
use Rattle.bgp_types.specs.Prefixes.{PrefixValue, same_prefix, once_after}
use Rattle.bgp_types.specs.contracts.prefix.PrefixPartialEq.TheImpl as prefix_eq
use Rattle.lab_tables.proofs.once.each_once.Given as goal

abbrev pub invariant-loop-prefix : goal.invariant-loop-prefix
invariant-loop-prefix l = record {
  once : l.once ≡ once_after [] (take l.prefix-index l.prefixes);
  seen : (q : PrefixValue) → contains (prefix_eq.ghosts).eq l.seen q ≡ list_any (same_prefix q) l.once;
}
