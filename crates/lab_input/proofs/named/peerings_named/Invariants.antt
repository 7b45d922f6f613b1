use Rattle.std.proofs.Common.{◌≡◌, ◌==◌, ℕ, Bor, List, [], map, take, drop, nat_eq}
use Rattle.std.specs.Prelude.{codes}
use Rattle.std.specs.HashSet.{contains, contains_by}
use Rattle.std.specs.List.{list_any}
use Rattle.std.specs.Str.{bytes_eq}
use Rattle.toml.specs.View.{table_view}
use Rattle.lab_keys.specs.Values.{text_at}
use Rattle.lab_input.specs.Names.{each_after, peering_named, remote_address_of}
use Rattle.lab_input.proofs.named.peerings_named.Given as goal

abbrev pub invariant-loop-table : goal.invariant-loop-table
invariant-loop-table l = record {
  called : (text : Bor (List ℕ)) → contains_by (λ k. bytes_eq text.now k.now) l.called
      ≡ list_any (λ u. bytes_eq (text_at (codes "name") u) text.now) (map (λ u. table_view u.now) (take l.table-index l.tables));
  remotes : (address : ℕ)
      → contains nat_eq l.remotes address ≡ list_any (λ u. remote_address_of u == address) (map (λ u. table_view u.now) (take l.table-index l.tables));
  walk : each_after (peering_named l.routers) (map (λ u. table_view u.now) (take l.table-index l.tables))
      (map (λ u. table_view u.now) (drop l.table-index l.tables))
      ≡ each_after (peering_named l.routers) [] (map (λ u. table_view u.now) l.tables);
}
