use Rattle.std.proofs.Common.{◌∙◌, sym, ap}
use Rattle.graft_model.specs.Codes.{actor_code}
use Rattle.graft_model.specs.declared.event.ActorEvent.TheVariants.{OfFar}
use Rattle.lab_capture.proofs.tap.event_of_far.Goals as goal

pub returns-in_default : goal.returns-in_default
returns-in_default c = record { some = tt; none = λ event is. c.in_default.ensures.none (OfFar event) tt is }

pub returns-in_default-event : goal.returns-in_default-event
returns-in_default-event c = record {
  some = tt;
  none = λ event is. c.in_default-event.not-OfFar event
      (c.codes_are_exact.ensures.any c.in-Some.event (OfFar event) (c.in-Some.ensures.some.0 ∙ sym is));
}

pub returns-clause-some : goal.returns-clause-some
returns-clause-some c = sym (ap actor_code c.in-OfFar.is) ∙ c.in-Some.ensures.some.0
