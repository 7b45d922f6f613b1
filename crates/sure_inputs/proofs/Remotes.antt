-- The numbers of the remotes of an accepted input are those of an OPEN without fault.
use Rattle.std.proofs.Common.{◌≡◌, ℕ, ◌^◌, ◌<◌, false, List, subst, arith}
use Rattle.std.specs.Prelude.{codes}
use Rattle.std.specs.List.{AllByRecursion}
use Rattle.toml.specs.Data.{Members}
use Rattle.bgp_types.specs.Values.{is_no_host, is_short_hold}
use Rattle.lab_keys.specs.Values.{tables_at}
use Rattle.lab_tables.specs.declared.input.LabInput.{LabInput}
use Rattle.lab_tables.specs.declared.input.PeeringInput.{PeeringInput}
use Rattle.lab_tables.specs.Peerings.{peering_input}
use Rattle.lab_tables.specs.Documents.{router_names_of, peerings_of}
use Rattle.lab_input.proofs.Ready.{accepted}
use Rattle.lab_setup.specs.Accepted.{IsAccepted}
use Rattle.lab_setup.proofs.Kept.{IsPeeringTable, HasTables, tables_kept, number_below}
use Rattle.lab_setup.proofs.Lists.{all_mapped}

pub record IsRemote (x : PeeringInput) : Type 0 where
  pub remote_as : x.remote_as < 2 ^ 32
  pub hold : x.hold < 2 ^ 16
  pub hold_time : is_short_hold x.hold ≡ false
  pub host : is_no_host x.remote_id ≡ false

of_table : (doc : Members) (routers : List (List ℕ)) (t : Members) → IsPeeringTable t → IsRemote (peering_input doc routers t)
of_table doc routers t is = record {
  remote_as = number_below 32 0 (codes "remote_as") t (omega arith);
  hold = number_below 16 180 (codes "hold") t (omega arith);
  hold_time = is.hold;
  host = is.remote_id;
}

of_document : (doc : Members) → HasTables doc → AllByRecursion IsRemote (peerings_of doc)
of_document doc tables =
    let routers : List (List ℕ) = router_names_of doc in
    all_mapped (peering_input doc routers) IsPeeringTable IsRemote (of_table doc routers) (tables_at (codes "peering") doc) tables.peerings

pub remotes : (input : LabInput) → IsAccepted input → AllByRecursion IsRemote input.peerings
remotes input from =
    let a = accepted from.bytes input from.is in
    subst (λ (i : LabInput). AllByRecursion IsRemote i.peerings) a.is (of_document a.doc (tables_kept a.doc a.no_flaw))
