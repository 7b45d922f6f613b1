use Rattle.std.proofs.Common.{◌≡◌, [], take, drop}
use Rattle.std.specs.HashSet.{contains}
use Rattle.std.specs.List.{list_any}
use Rattle.bgp_types.specs.Prefixes.{PrefixValue, same_prefix}
use Rattle.bgp_types.specs.contracts.prefix.PrefixPartialEq.TheImpl as prefix_eq
use Rattle.lab_input.specs.Names.{each_after, network_again}
use Rattle.lab_input.proofs.names.networks_again.Given as goal

abbrev pub invariant-loop-network : goal.invariant-loop-network
invariant-loop-network l = record {
  seen : (q : PrefixValue) → contains (prefix_eq.ghosts).eq l.seen q ≡ list_any (λ p. same_prefix p q) (take l.network-index l.networks);
  walk : each_after network_again (take l.network-index l.networks) (drop l.network-index l.networks) ≡ each_after network_again [] l.networks;
}
