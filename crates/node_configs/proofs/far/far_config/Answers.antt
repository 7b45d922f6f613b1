use Rattle.std.proofs.Common.{◌≡◌, ◌≤◌, Bool, List, length, ap, sym, subst, refl, ◌∙◌, arith}
use Rattle.std.specs.Prelude.{All, Some, slice_get}
use Rattle.bgp_types.specs.declared.message.Message.TheVariants.{UpdateMsg}
use Rattle.bgp_types.specs.Writable.{IsWritable}
use Rattle.lab_tables.specs.declared.input.Step.{Step}
use Rattle.lab_input.specs.Counts.{is_wide}
use Rattle.lab_input.specs.Said.{step_update}
use Rattle.node_configs.specs.Says.{says_of}
use Rattle.node_configs.proofs.Accepted.{few, writable}
use Rattle.lab_setup.proofs.Lists.{read_at}
use Rattle.node_configs.proofs.Fars.{is_config}
use Rattle.node_configs.proofs.far.far_config.Goals as goal

pub says_of-requires-clause-few : goal.says_of-requires-clause-few
says_of-requires-clause-few c =
    let most : length c.args.input.now.steps ≤ 4096 = (few c.args.input.now c.requires.accepted).steps in
    let same : length c.deref-2.result.now ≡ length c.args.input.now.steps = ap length c.deref-2.ensures in
    omega (arith, most, same)

pub says_of-requires-clause-writable : goal.says_of-requires-clause-writable
says_of-requires-clause-writable c =
    subst (λ (steps : List Step). All (λ step. IsWritable (UpdateMsg (step_update step)) c.is_wide-wide.result) steps) (sym c.deref-2.ensures)
    (writable c.args.input.now c.requires.accepted c.is_wide-wide.result)

-- the peering of the number
there : (c : goal.After-keepalive_interval_of) → slice_get c.args.input.now.peerings c.args.peering.0 ≡ Some c.index-deref-from.result
there c = read_at c.args.input.now.peerings c.deref.result.now c.from.result c.args.peering.0
    c.index-deref-from.result c.deref.ensures c.from.ensures c.requires.there c.index-deref-from.is

pub returns-clause-config : goal.returns-clause-config
returns-clause-config c =
    is_config c.args.input.now c.requires.accepted _ c.index-deref-from.result
    (there c) c.counts-routers.ensures.routers c.counts-routers.ensures.peerings refl refl refl c.in_ok-copy.ensures
    (c.in_ok-says_of.ensures ∙ ap (λ (w : Bool). says_of w c.args.peering.0 c.deref-2.result.now) c.is_wide-wide.ensures
    ∙ ap (λ (steps : List Step). says_of (is_wide c.index-deref-from.result) c.args.peering.0 steps) c.deref-2.ensures)
    (c.keepalive_interval_of.ensures c.args.input.now c.args.peering.0)
