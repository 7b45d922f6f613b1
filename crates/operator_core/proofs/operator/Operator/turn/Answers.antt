use Rattle.operator_core.proofs.Results.{on_ok, either}
use Rattle.operator_core.proofs.operator.Operator.turn.Goals as goal

pub invariant_of-self : goal.invariant_of-self
invariant_of-self g c = record { sound = either c.turn.result (λ t. t.does.sound) (λ s. s) c.turn.ensures.ok c.turn.ensures.err }

pub returns-clause-turned : goal.returns-clause-turned
returns-clause-turned g c = on_ok c.turn.result (λ t session. record {
  deeds = t.deeds;
  wrote = t.does.wrote;
  none = t.none;
  replay = t.does.replay session;
  moved = record { no_go = t.no_go; done = t.settled };
}) c.turn.ensures.ok
