use Rattle.std.proofs.Common.{sym, ap, subst, ◌∙◌}
use Rattle.graft_model.specs.Setups.{Setup}
use Rattle.graft_actors.specs.Actors.{Operator}
use Rattle.actor_configs.specs.Scripts.{IsScriptOf}
use Rattle.lab_actors.specs.Firsts.{first_own}
use Rattle.lab_actors.proofs.actors.operator_of.Goals as goal

pub new-requires-clause-script : goal.new-requires-clause-script
new-requires-clause-script c = subst (λ (s : Setup). IsScriptOf s c.in_ok-script.script) (sym c.known_for-known.ensures) c.in_ok-script.ensures.script

pub returns : goal.returns
returns c = record { is = c.in_ok-operator.ensures ∙ ap (λ (s : Setup). first_own s Operator) c.known_for-known.ensures; works = tt; fresh = tt }
