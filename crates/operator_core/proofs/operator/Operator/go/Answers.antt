use Rattle.std.proofs.Common.{ap, ◌∙◌}
use Rattle.std.specs.Prelude.{slice_get}
use Rattle.graft_model.specs.Setups.{group_of}
use Rattle.graft_model.specs.Placements.{placement}
use Rattle.operator_core.specs.Operators.{operator_setup, operator_part}
use Rattle.operator_core.proofs.Results.{if_ok, either_if}
use Rattle.operator_core.proofs.operator.Operator.go.Goals as goal

pub invariant_of-self : goal.invariant_of-self
invariant_of-self g c = record { sound = either_if c.go.result (λ answer t. t.does.sound) (λ s. s) c.go.ensures.ok c.go.ensures.err }

pub returns-clause-paused : goal.returns-clause-paused
returns-clause-paused g c = if_ok c.go.result (λ answer t session. record {
  moved = record {
    deeds = t.deeds;
    wrote = t.does.wrote;
    none = t.none;
    replay = t.does.replay session;
    moved = record { held = (λ e. t.held.0 (t.made.1 e), λ h. t.made.0 (t.held.1 h)); few = t.few };
  };
  none = t.made;
}) c.go.ensures.ok

pub returns-clause-emptied : goal.returns-clause-emptied
returns-clause-emptied g c = if_ok c.go.result (λ answer t yes step router there group. record {
  given = λ x known of_step. t.emptied yes x router known (ap (slice_get (operator_setup c.args.self.now).steps) of_step ∙ there)
      (ap (group_of (operator_setup c.args.self.now)) of_step ∙ group);
  well = c.emptied_routers_give_by_plan.ensures.well (operator_setup c.args.self.now)
      (placement (operator_setup c.args.self.now) (operator_part c.args.self.now)) router;
}) c.go.ensures.ok
