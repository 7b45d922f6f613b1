use Rattle.std.proofs.Common.{◌≡◌}
use Rattle.std.specs.Prelude.{slice_get}
use Rattle.std.specs.List.{flat_map, range_with_len}
use Rattle.graft_model.specs.Setups.{Setup, routers_in}
use Rattle.lab_seen.specs.Found.{router_in, router_tables_of}
use Rattle.lab_seen.proofs.seen.tables_of.Given as goal

-- the tables of the routers so far are there
abbrev pub invariant-loop-number : goal.invariant-loop-number
invariant-loop-number l = (setup : Setup) → routers_in setup ≡ l.routers
    → l.tables ≡ flat_map (λ r. router_tables_of setup (router_in (slice_get l.actors r))) (range_with_len 0 l.number)
