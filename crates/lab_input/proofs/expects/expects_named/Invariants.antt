use Rattle.std.proofs.Common.{◌≡◌, map, drop}
use Rattle.toml.specs.View.{table_view}
use Rattle.lab_keys.specs.Kinds.{first_of}
use Rattle.lab_input.specs.Names.{expect_named}
use Rattle.lab_input.proofs.expects.expects_named.Given as goal

abbrev pub invariant-loop-table : goal.invariant-loop-table
invariant-loop-table l =
    first_of (map (λ u. expect_named l.routers l.peerings (table_view u.now)) (drop l.table-index l.tables))
    ≡ first_of (map (λ u. expect_named l.routers l.peerings (table_view u.now)) l.tables)
