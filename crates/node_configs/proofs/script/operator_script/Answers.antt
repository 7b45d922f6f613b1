use Rattle.std.proofs.Common.{map, ap, ◌∙◌}
use Rattle.lab_tables.specs.declared.input.PeeringInput.{PeeringInput}
use Rattle.lab_tables.specs.declared.input.RouterInput.{RouterInput}
use Rattle.node_configs.specs.Orders.{script_orders}
use Rattle.node_configs.proofs.Scripts.{is_script, is_workable}
use Rattle.node_configs.proofs.script.operator_script.Goals as goal

pub returns-clause-script : goal.returns-clause-script
returns-clause-script c =
    is_script c.args.input.now _
    (c.in_ok-rooms_of.ensures ∙ ap (map (λ (r : RouterInput). r.sessions)) c.deref.ensures)
    (c.in_ok-starts_of.ensures ∙ ap (map (λ (p : PeeringInput). p.at)) c.deref-2.ensures)
    (c.in_ok-orders_of.ensures ∙ ap script_orders c.deref-3.ensures)

pub returns-clause-workable : goal.returns-clause-workable
returns-clause-workable c = is_workable c.args.input.now c.requires.accepted _ (
    is_script c.args.input.now _
    (c.in_ok-rooms_of.ensures ∙ ap (map (λ (r : RouterInput). r.sessions)) c.deref.ensures)
    (c.in_ok-starts_of.ensures ∙ ap (map (λ (p : PeeringInput). p.at)) c.deref-2.ensures)
    (c.in_ok-orders_of.ensures ∙ ap script_orders c.deref-3.ensures))
