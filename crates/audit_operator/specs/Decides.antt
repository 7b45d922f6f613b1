-- How the operator decides an event.
use Rattle.std.specs.Prelude.{◌≡◌, List}
use Rattle.graft_steps.specs.declared.rest.Pending.{Pending}
use Rattle.settled_check.specs.Left.{LeftToOperator}
use Rattle.graft_model.specs.declared.event.OperatorEvent.{OperatorEvent}
use Rattle.graft_actors.specs.Actors.{ActorName}
use Rattle.audit_ruling.specs.Rulings.{Parcel, OperatorRules, OperatorRulesTaking}
use Rattle.audit_ruling.specs.declared.ruling.Ruling.{Ruling}
use Rattle.audit_operator.specs.Parts.{operator_part, OperatorStands}
use Rattle.audit_operator.specs.declared.operator.AuditedOperator.{AuditedOperator}

-- it stays that of its laboratory, and sound
pub record KeepsOperator (old new : AuditedOperator) : Type 0 where
  pub setup : new.known.setup ≡ old.known.setup
  pub sound : OperatorStands new

-- an event that takes nothing
pub record DecidesOperator (event : OperatorEvent) (old : AuditedOperator) (ruling : Ruling) (new : AuditedOperator) : Type 0 where
  pub rules : OperatorRules old.known.setup event (operator_part old) ruling (operator_part new)
  pub keeps : KeepsOperator old new

-- one that takes the first item from this actor
pub record DecidesOperatorTaking (event : OperatorEvent) (from : ActorName) (old : AuditedOperator) (channel : List Parcel)
    (ruling : Ruling) (new : AuditedOperator) (rest : List Parcel) : Type 0 where
  pub rules : OperatorRulesTaking old.known.setup event from (operator_part old) channel ruling (operator_part new) rest
  pub keeps : KeepsOperator old new

-- nothing of the current group is left to the operator
abbrev pub NothingIsLeft : AuditedOperator → Type 0
NothingIsLeft o = (x : Pending) → ¬ LeftToOperator o.known.setup (operator_part o) x
