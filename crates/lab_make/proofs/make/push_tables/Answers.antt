use Rattle.std.proofs.Common.{◌≡◌, ◌++◌, codes, string_bytes}
use Rattle.lab_make.specs.Made.{each_below, router_table, peering_table, fault_tables, tables_text}
use Rattle.lab_make.proofs.Each.{four_added}
use Rattle.lab_make.proofs.make.push_tables.Goals as goal

pub returns : goal.returns
returns c =
    let whole : string_bytes c.push_peerings.new.text ++ each_below fault_tables 12 ≡ string_bytes c.args.text.now ++ tables_text =
    four_added (string_bytes c.args.text.now) _ _ (string_bytes c.push_peerings.new.text)
    (codes "home_as = 64600\n\n") (each_below router_table 4) (each_below peering_table 12)
    (each_below fault_tables 12) c.in_ok-push_str.ensures.bytes c.in_ok-push_routers.ensures c.in_ok-push_peerings.ensures in
    rw whole at c.push_faults.ensures
