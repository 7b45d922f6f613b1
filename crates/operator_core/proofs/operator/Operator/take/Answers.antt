use Rattle.std.proofs.Common.{[], ◌∷◌, refl}
use Rattle.operator_core.proofs.Results.{on_ok, either}
use Rattle.operator_core.proofs.operator.Operator.take.Goals as goal

pub invariant_of-self : goal.invariant_of-self
invariant_of-self g c = record { sound = either c.take.result (λ t. t.does.sound) (λ s. s) c.take.ensures.ok c.take.ensures.err }

pub returns-clause-took : goal.returns-clause-took
returns-clause-took g c = on_ok c.take.result (λ t session. record {
  deeds = t.deed ∷ [];
  wrote = t.does.wrote;
  first = (t.takes, tt);
  replay = t.does.replay session;
  took = refl;
}) c.take.ensures.ok
