use Rattle.std.proofs.Common.{◌≤◌, length, map, ap, refl, ◌∙◌, arith}
use Rattle.lab_tables.specs.declared.input.RouterInput.{RouterInput}
use Rattle.lab_setup.specs.Setups.{costs_from}
use Rattle.node_configs.specs.Tables.{named_policy, firsts_of}
use Rattle.node_configs.proofs.Accepted.{few}
use Rattle.lab_setup.proofs.Lists.{read_at}
use Rattle.node_configs.proofs.Routers.{is_config}
use Rattle.node_configs.proofs.router.router_config.Goals as goal

pub sessions_at-requires : goal.sessions_at-requires
sessions_at-requires c = let most : length c.args.input.now.peerings ≤ 32 = (few c.args.input.now c.requires.accepted).peerings in omega (arith, most)

pub returns-clause-config : goal.returns-clause-config
returns-clause-config c =
    is_config c.args.input.now c.requires.accepted _ c.index-deref-from.result
    (read_at c.args.input.now.routers c.deref.result.now c.from.result c.args.number.0
    c.index-deref-from.result c.deref.ensures c.from.ensures c.requires.there c.index-deref-from.is)
    c.counts-routers.ensures.routers refl (c.in_ok-policies_of.ensures ∙ ap (map named_policy) c.deref-2.ensures)
    refl refl (c.in_ok-identifiers_of.ensures ∙ ap (map (λ (router : RouterInput). router.id)) c.deref-3.ensures)
    (c.in_ok-costs_of.ensures ∙ ap (costs_from c.args.input.now) c.from-2.ensures) c.in_ok-copy.ensures
    (c.in_ok-firsts_of.ensures ∙ ap (map firsts_of) c.deref-4.ensures) c.in_ok-sessions_at.ensures
