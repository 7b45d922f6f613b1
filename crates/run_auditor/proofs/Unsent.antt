-- An event that takes an item from an actor that doesn't exist can't happen.
use Rattle.std.proofs.Common.{◌≡◌, ℕ, ◌<◌, Some, refl}
use Rattle.graft_model.specs.Setups.{peerings_in, routers_in}
use Rattle.graft_model.specs.Steps.{ByFar, ByOperator, ByRouter}
use Rattle.graft_model.specs.declared.event.FarEvent.{FarEvent}
use Rattle.graft_model.specs.declared.event.OperatorEvent.{OperatorEvent}
use Rattle.graft_model.specs.declared.event.RouterEvent.{RouterEvent}
use Rattle.graft_actors.specs.Actors.{ActorName, FarSide, IsActor, Operator, Router, number_in}
use Rattle.graft_actors.proofs.Numbers.{there}
use Rattle.audit_ruling.specs.Senders.{far_sender, operator_sender, router_sender}
use Rattle.audit_ruling.specs.declared.ruling.Ruling.TheVariants.{Refused}
use Rattle.run_auditor.specs.Grounds.{Grounds}
use Rattle.run_auditor.specs.Ruled.{RulesOn}
use Rattle.run_auditor.specs.Sound.{AuditorInvariant}
use Rattle.run_auditor.specs.States.{lab_of}
use Rattle.run_auditor.specs.declared.auditor.Auditor.{Auditor}
use Rattle.run_auditor.proofs.Nowhere.{far_unsent, operator_unsent, router_unsent}

module _ (grounds : Grounds) (f : Auditor) (inv : AuditorInvariant f) (from : ActorName) (unknown : ¬ IsActor f.known.setup from) where
  pub router_without : (r : ℕ) (event : RouterEvent) → r < routers_in f.known.setup → router_sender event ≡ Some from → RulesOn (ByRouter r event) Refused f f
  router_without r event known sender = record {
    setup = refl;
    none = λ w after s step. router_unsent f.known.setup grounds.routers w r event grounds.numbers (lab_of f) s.lab (there f.known.setup (Router r) known)
        from sender unknown after step;
    stands = λ w s. s;
    sound = inv;
  }

  pub far_without : (p : ℕ) (event : FarEvent) → p < peerings_in f.known.setup → far_sender event ≡ Some from → RulesOn (ByFar p event) Refused f f
  far_without p event known sender = record {
    setup = refl;
    none = λ w after s step. far_unsent f.known.setup grounds.far_sides w p event grounds.numbers (lab_of f) s.lab (number_in f.known.setup (FarSide p))
        (there f.known.setup (FarSide p) known) from sender unknown after step;
    stands = λ w s. s;
    sound = inv;
  }

  pub operator_without : (event : OperatorEvent) → operator_sender event ≡ Some from → RulesOn (ByOperator event) Refused f f
  operator_without event sender = record {
    setup = refl;
    none = λ w after s step. operator_unsent f.known.setup grounds.operator w event grounds.numbers (lab_of f) s.lab (number_in f.known.setup Operator)
        (there f.known.setup Operator tt) from sender unknown after step;
    stands = λ w s. s;
    sound = inv;
  }
