use Rattle.std.proofs.Common.{◌≡◌, ◌==◌, ℕ, Bor, List, [], take, drop, nat_eq}
use Rattle.std.specs.HashSet.{contains, contains_by}
use Rattle.std.specs.List.{list_any}
use Rattle.std.specs.Str.{bytes_eq}
use Rattle.lab_input.specs.Names.{each_after, router_again}
use Rattle.lab_input.proofs.names.routers_again.Given as goal

abbrev pub invariant-loop-router : goal.invariant-loop-router
invariant-loop-router l = record {
  names : (text : Bor (List ℕ)) → contains_by (λ k. bytes_eq text.now k.now) l.names ≡ list_any (λ r. bytes_eq r.name text.now) (take l.router-index l.routers);
  ids : (id : ℕ) → contains nat_eq l.ids id ≡ list_any (λ r. r.id == id) (take l.router-index l.routers);
  walk : each_after router_again (take l.router-index l.routers) (drop l.router-index l.routers) ≡ each_after router_again [] l.routers;
}
