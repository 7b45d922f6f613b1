use Rattle.std.proofs.Common.{◌≡◌, ◌+◌, List, sym, ap, ◌∙◌, arith}
use Rattle.std.specs.Prelude.{slice_get}
use Rattle.std.specs.List.{flat_map, range_with_len}
use Rattle.graft_model.specs.Setups.{routers_in, peerings_in}
use Rattle.lab_setup.specs.Setups.{setup_of}
use Rattle.lab_setup.proofs.Ready.{as_many_routers, as_many_peerings}
use Rattle.node_configs.proofs.Accepted.{few, is_setup}
use Rattle.world_nodes.specs.declared.node.Node.{Node}
use Rattle.lab_seen.specs.Found.{router_in, far_in, operator_in, router_tables_of, fars_of, log_in, first_on, places_in, views_in}
use Rattle.lab_seen.specs.declared.found.Found.{Found}
use Rattle.lab_seen.proofs.Observing.{observed}
use Rattle.lab_seen.proofs.seen.lab_of.Goals as goal

pub fars_of-requires : goal.fars_of-requires
fars_of-requires c = let f = few c.args.input c.requires.accepted in
    record { few = (omega (arith, f.routers, c.len-routers.ensures), omega (arith, f.peerings, c.len-peerings.ensures)) }

pub tables_of-requires : goal.tables_of-requires
tables_of-requires c = let f = few c.args.input c.requires.accepted in omega (arith, f.routers, c.len-routers.ensures)

pub sessions_of-requires : goal.sessions_of-requires
sessions_of-requires c = let f = few c.args.input c.requires.accepted in omega (arith, f.routers, c.len-routers.ensures)

pub returns-clause-observed : goal.returns-clause-observed
returns-clause-observed c w done =
    let input = c.args.input in
    let setup = setup_of input in
    let routers = c.len-routers.result in
    let peerings = c.len-peerings.result in
    let many_routers : routers_in setup ≡ routers = as_many_routers input ∙ sym c.len-routers.ensures in
    let many_peerings : peerings_in setup ≡ peerings = as_many_peerings input ∙ sym c.len-peerings.ensures in
    observed setup w c.args.parts.actors c.args.parts.left done (is_setup input c.requires.accepted) _ routers peerings many_routers many_peerings (record {
      log_is = c.in_ok-log.ensures ∙ ap (λ (xs : List Node). log_in (operator_in (slice_get xs (routers + peerings)))) c.as_slice.ensures;
      far_is = c.in_ok-far.ensures
          ∙ ap (λ (xs : List Node). flat_map (λ p. fars_of (far_in (slice_get xs (routers + p)))) (range_with_len 0 peerings)) c.as_slice-2.ensures;
      tables_is = c.in_ok-tables.ensures setup many_routers
          ∙ ap (λ (xs : List Node). flat_map (λ r. router_tables_of setup (router_in (slice_get xs r))) (range_with_len 0 routers)) c.as_slice-3.ensures;
      placement_is = c.in_ok-placement.ensures.placement
          ∙ ap (λ (found : List Found). flat_map (λ p. places_in (first_on found p)) (range_with_len 0 peerings)) c.in_ok-found.ensures;
      sessions_is = c.in_ok-placement.ensures.sessions
          ∙ ap (λ (found : List Found). flat_map (λ p. views_in (first_on found p)) (range_with_len 0 peerings)) c.in_ok-found.ensures;
    })
